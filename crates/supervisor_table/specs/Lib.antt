-- The bytes of a supervisor table: their format, and the rows that the rounds give.
pub mod Meaning
pub mod Model
pub mod Laws
