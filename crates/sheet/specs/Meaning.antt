-- What a reader must believe.
pub mod Decoded
pub mod Grounds
pub mod Refusals
