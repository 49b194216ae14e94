-- Laws that belong to no one function.
pub mod Handing
pub mod Fields
