-- Definitions that go the way the code goes.
pub mod Bounded
pub mod Cells
pub mod Digits
pub mod Lists
