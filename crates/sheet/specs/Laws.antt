-- Theorems that other crates and the sources cite.
pub mod Grounds
pub mod Reading
pub mod Verdicts
pub mod Turns
pub mod Judged
pub mod Placed
pub mod Sound
pub mod LayoutFacts
pub mod MonitorBytes
pub mod Complete
pub mod Most
