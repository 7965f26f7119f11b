pub mod Drives
pub mod Servings
