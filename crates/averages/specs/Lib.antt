-- Averages of whole sums as 64-bit floats, and that they are exact over 2 ^ k words.
pub mod Meaning
pub mod Laws
