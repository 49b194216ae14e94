-- A card in words, as it crosses to another language.
pub mod Meaning
pub mod Model
pub mod Laws
