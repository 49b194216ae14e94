-- Definitions that go the way the code goes.
pub mod Rank
pub mod Values
pub mod GuardStates
pub mod GuardNumbering
pub mod Sizes
pub mod Arrivals
pub mod Tables
pub mod Leaders
