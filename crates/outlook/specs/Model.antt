-- Definitions that go the way the code goes.
pub mod Outlook
pub mod Spans
