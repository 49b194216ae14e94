-- Guard tables: their layout, which slices are tables that a board may load, and that the table of given entries is one.
pub mod Meaning
pub mod Model
pub mod Laws
