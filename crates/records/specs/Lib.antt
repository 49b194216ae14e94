-- What every format and table above shares: lists and numbers, records, bounds, and the cells of a table of steps.
pub mod Meaning
pub mod Model
pub mod Promises
pub mod Laws
