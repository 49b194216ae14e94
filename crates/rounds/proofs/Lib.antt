-- Laws that belong to no one function.
pub mod Start
pub mod Search
pub mod Turn
pub mod Settling
pub mod Masking
pub mod Examples
