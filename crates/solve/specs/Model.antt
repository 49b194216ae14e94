-- Definitions that go the way the code goes.
pub mod Steps
pub mod Solve
pub mod Making
pub mod SolvingSheet
pub mod Opening
