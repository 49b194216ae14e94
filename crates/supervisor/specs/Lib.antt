-- The supervisor of a sheet: the table's model (Model), and what its maker promises (Promises).
pub mod Model
pub mod Promises
pub mod Laws
