-- What a reader must believe.
pub mod Step
pub mod States
