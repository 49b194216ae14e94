-- Theorems that other crates and the sources cite.
pub mod RowKind
pub mod LoadableFacts
pub mod MadeLoadable
pub mod GuardTable
