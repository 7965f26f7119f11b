pub mod Readings
pub mod Servings
pub mod Answerings
pub mod Drivings
pub mod Digits
