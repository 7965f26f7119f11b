pub mod Parts
pub mod Dues
