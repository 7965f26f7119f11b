pub mod Known
pub mod Plain
pub mod Canonical
pub mod Tails
