-- The best and the least of each state over a horizon, over a table of steps.
pub mod Model
pub mod Laws
