-- Definitions that go the way the code goes.
pub mod Entered
pub mod Guarded
