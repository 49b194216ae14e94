-- Theorems that other crates and the sources cite.
pub mod Running
pub mod Representing
pub mod GuardRows
