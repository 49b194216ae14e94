-- The fields of a sheet's records: where they stand, lines and letters, the tests of heads and monitors, and what they tell.
pub mod Meaning
pub mod Model
pub mod Laws
