pub mod Others
pub mod Names
