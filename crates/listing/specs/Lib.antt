-- The listing program: what it prints (Printed), and the laws behind it.
pub mod Promises
