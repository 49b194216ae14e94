-- Theorems that other crates and the sources cite.
pub mod ProductNumbering
pub mod Differs
pub mod Ordered
pub mod Range
pub mod Recovery
pub mod Rewards
pub mod Tuples
pub mod Counts
pub mod Outcome
