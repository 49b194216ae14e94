-- What a reader must believe.
pub mod RowKind
pub mod GuardTable
pub mod NarrowTable
pub mod Loadable
