pub mod Lists
pub mod Keys
pub mod Ids
pub mod Entries
pub mod SizeLemmas
mod Turns
pub mod Scripts
