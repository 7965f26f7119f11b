pub mod Places
pub mod Sums
pub mod Fitting
pub mod Counted
