-- Laws that an edit of a number breaks.
pub mod NoTable
