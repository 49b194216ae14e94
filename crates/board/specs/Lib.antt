-- The board: what its calls hand back, what they promise, and the laws for the layers above.
pub mod Meaning
pub mod Promises
pub mod Laws
