-- Theorems that other crates and the sources cite.
pub mod ListingAnswers
pub mod Numbers
