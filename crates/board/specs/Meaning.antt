-- What a reader must believe.
pub mod Board
pub mod Load
pub mod BoardStep
pub mod Calls
pub mod Deviations
