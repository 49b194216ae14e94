-- Definitions that go the way the code goes.
pub mod Entries
pub mod Inside
pub mod Parts
