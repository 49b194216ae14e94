-- Definitions that go the way the code goes.
pub mod TableRounds
pub mod InPlace
pub mod Tables
