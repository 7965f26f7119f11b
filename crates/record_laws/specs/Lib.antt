pub mod Words
pub mod Rows
pub mod Told
pub mod Laws
