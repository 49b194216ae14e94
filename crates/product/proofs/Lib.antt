-- Laws that belong to no one function.
pub mod Stores
pub mod Moving
pub mod LaidOut
pub mod Stages
pub mod Recovering
