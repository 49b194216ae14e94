-- Theorems that other crates and the sources cite.
pub mod Bytes
pub mod Permissive
pub mod Only
