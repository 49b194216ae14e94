-- Definitions that go the way the code goes.
pub mod Put
pub mod Puts
