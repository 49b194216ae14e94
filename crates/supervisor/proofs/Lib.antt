-- Laws that belong to no one function.
pub mod Layouts
pub mod TableSolved
pub mod Promise
