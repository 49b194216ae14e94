-- The entries, rows and table that work memory holds, and why the code can read them.
pub mod Model
pub mod Laws
