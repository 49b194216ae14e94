-- Sheets: what they mean, and grounds 1 to 6 (Meaning), and how a reader finds them in their bytes (Model).
pub mod Meaning
pub mod Model
pub mod Promises
pub mod Laws
