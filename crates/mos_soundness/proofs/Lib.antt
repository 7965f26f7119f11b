pub mod RawNames
pub mod Walks
pub mod Fitting
pub mod Taken
