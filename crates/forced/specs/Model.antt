-- Definitions that go the way the code goes.
pub mod ForcedOfSheet
