pub mod Lines
pub mod Places
pub mod Known
pub mod Notes
pub mod Starts
