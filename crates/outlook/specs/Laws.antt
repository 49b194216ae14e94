-- Theorems that other crates and the sources cite.
pub mod Outlook
pub mod Spans
