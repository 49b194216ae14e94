-- Laws that several functions use.
pub mod Facts
pub mod Walk
