pub mod CountLaws
pub mod MessageLaws
pub mod Lengths
pub mod NamePlaces
pub mod PlaceLaws
