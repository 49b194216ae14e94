-- The bytes that show how a break is forced: their format, and the rows that the rounds give.
pub mod Meaning
pub mod Model
pub mod Laws
