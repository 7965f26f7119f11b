pub mod Members
pub mod Utf16
pub mod Encoding
pub mod Simple
pub mod Counts
pub mod Examples
