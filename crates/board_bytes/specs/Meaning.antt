-- What a reader must believe.
pub mod BoardBytes
pub mod ByteCalls
