-- Theorems that other crates and the sources cite.
pub mod BoardBytes
pub mod ByteCalls
