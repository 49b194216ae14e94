-- Laws that belong to no one function.
pub mod Foretold
pub mod Answered
pub mod Lent
pub mod Promise
