-- Theorems that other crates and the sources cite.
pub mod NumberedGame
pub mod Entries
pub mod StateGrounds
pub mod Solving
pub mod OrderedNumber
pub mod RefusalOrder
pub mod Judging
pub mod Opening
pub mod OpeningWork
