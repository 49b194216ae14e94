-- Laws that belong to no one function.
pub mod Printing
pub mod Reading
