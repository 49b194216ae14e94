-- Theorems that other crates and the sources cite.
pub mod Bits
pub mod Bounded
pub mod Cells
pub mod Cursor
pub mod Digits
pub mod Limits
pub mod Lists
pub mod Numbers
pub mod Pigeonhole
pub mod Stores
pub mod Tests
pub mod Work
