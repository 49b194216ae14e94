-- What the public calls promise.
pub mod Library
pub mod SmallerLimit
