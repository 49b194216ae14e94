-- What a reader must believe.
pub mod Proposal
pub mod Words
pub mod Strategy
pub mod Survival
pub mod Forcing
pub mod History
pub mod Supervisor
pub mod Plans
pub mod Ways
pub mod FirstMet
pub mod Reachable
pub mod Book
pub mod Machine
