-- Definitions that go the way the code goes.
pub mod Sheets
pub mod Figures
pub mod Counters
pub mod Row
