-- Definitions that go the way the code goes.
pub mod Layout
pub mod Meant
pub mod Where
pub mod HeadRecord
pub mod Reader
pub mod MonitorRecord
