-- Value iteration, the output order, the choice, and the states of the guard, over a table of steps.
pub mod Meaning
pub mod Model
pub mod Promises
pub mod Laws
