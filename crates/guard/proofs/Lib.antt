-- Laws that belong to no one function.
pub mod FaithfulTable
pub mod Lent
pub mod Promise
