pub mod Device
pub mod Messages
pub mod Server
pub mod Small
pub mod Steps
pub mod Tables
pub mod Values
pub mod Views
