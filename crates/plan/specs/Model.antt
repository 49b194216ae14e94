-- Definitions that go the way the code goes.
pub mod GuardOfSheet
pub mod Playing
pub mod Planned
