-- Theorems that the sources cite, and one about all calls together.
pub mod FaithfulBytes
pub mod SmallerLimit
