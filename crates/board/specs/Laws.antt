-- Theorems that other crates and the sources cite.
pub mod Calls
pub mod LiveFacts
pub mod BoardOnTable
pub mod Numbers
