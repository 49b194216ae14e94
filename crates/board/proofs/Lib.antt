-- Laws that belong to no one function.
pub mod Promises
pub mod Examples
pub mod Counting
