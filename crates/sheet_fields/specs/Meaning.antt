-- What a reader must believe.
pub mod Places
pub mod Lines
pub mod Head
pub mod Monitor
