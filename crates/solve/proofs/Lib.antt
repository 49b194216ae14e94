-- Laws that belong to no one function.
pub mod SheetSolved
pub mod Opened
