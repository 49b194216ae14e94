-- The card: what it says of a state, the way it is made, and the laws for the layers above.
pub mod Meaning
pub mod Model
pub mod Laws
