-- The text of a listing (Listing), how it is put into memory, and how long it is (Lengths).
pub mod Meaning
pub mod Model
pub mod Laws
