-- Theorems that other crates and the sources cite.
pub mod Digits
pub mod Pieces
pub mod Written
pub mod Lengths
