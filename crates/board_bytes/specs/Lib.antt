-- A board by its bytes, answers by their numbers, and what the calls over them promise.
pub mod Meaning
pub mod Promises
pub mod Laws
