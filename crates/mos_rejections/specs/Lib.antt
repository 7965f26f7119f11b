pub mod Alive
pub mod Rejections
pub mod Laws
