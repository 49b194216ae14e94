-- The forecast card of a sheet.
pub mod Meaning
pub mod Model
pub mod Promises
pub mod Laws
