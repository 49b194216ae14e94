-- What a reader must believe.
pub mod Answers
pub mod Bits
pub mod Bounded
pub mod Records
pub mod Limits
pub mod Lists
pub mod Numbers
pub mod Work
