-- The mathematics of guard tables, over an abstract type of states: no code.
pub mod Meaning
pub mod Model
pub mod Laws
