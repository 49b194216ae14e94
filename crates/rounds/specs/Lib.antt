-- The rounds that drop lost states, over a table of steps.
pub mod Model
pub mod Laws
