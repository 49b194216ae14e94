-- How a break is forced: what the answer says, and the maker's promise.
pub mod Meaning
pub mod Model
pub mod Laws
pub mod Promises
