-- Theorems that other crates and the sources cite.
pub mod TableRounds
pub mod SameRounds
pub mod CellPlaces
pub mod Masks
