-- One step of a tuple (Step) with its laws, and the product states: reachable tuples, numbered as first met (States, Numbered).
pub mod Meaning
pub mod Model
pub mod Laws
