-- What a reader must believe.
pub mod Allowed
pub mod Made
