pub mod Keys
pub mod Given
pub mod Values
pub mod Devices
pub mod Readable
pub mod Ends
pub mod Listen
