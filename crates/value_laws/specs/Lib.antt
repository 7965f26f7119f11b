pub mod Laws
pub mod Ranges
pub mod SoundLaws
