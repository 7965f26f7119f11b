pub mod NewSides
pub mod KeptDevices
