-- The listing: what the writers of it promise (Promises), and the laws behind them.
pub mod Promises
pub mod Laws
