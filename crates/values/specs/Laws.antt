-- Theorems that other crates and the sources cite.
pub mod Cleared
pub mod GuardNumbering
pub mod Sizes
pub mod Choices
pub mod Growth
pub mod Ranks
pub mod Ready
pub mod Arrivals
