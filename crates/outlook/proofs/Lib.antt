-- Laws that belong to no one function.
pub mod Foreseeing
pub mod Summing
