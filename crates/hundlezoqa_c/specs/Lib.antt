-- The calls for other languages: what the makers promise there.
pub mod Meaning
pub mod Promises
pub mod Laws
