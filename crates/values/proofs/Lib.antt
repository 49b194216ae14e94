-- Laws that belong to no one function.
pub mod Best
pub mod Iterating
pub mod Leaders
pub mod Leading
pub mod Offers
pub mod Ranking
