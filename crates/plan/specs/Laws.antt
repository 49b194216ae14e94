-- Theorems that other crates and the sources cite.
pub mod Playing
pub mod Planned
pub mod SamePlan
pub mod Best
pub mod Reaching
pub mod Solved
pub mod Answered
