pub mod Forms
pub mod Mistakes
pub mod Texts
