-- Theorems that other crates and the sources cite.
pub mod Shown
pub mod Grounds
pub mod Only
