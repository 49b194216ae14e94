-- Definitions that go the way the code goes.
pub mod Moves
pub mod Letters
pub mod Numbering
pub mod Rounds
pub mod Value
pub mod Extreme
pub mod Choice
pub mod Machine
