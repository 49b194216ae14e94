-- Definitions that go the way the code goes.
pub mod Range
pub mod States
pub mod ProductNumbering
pub mod Stages
pub mod Outcome
