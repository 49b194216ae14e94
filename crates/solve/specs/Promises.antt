-- What the public calls promise.
pub mod RefusalOrder
pub mod Making
pub mod Opening
pub mod OpeningWork
