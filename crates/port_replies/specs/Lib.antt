pub mod Ports
pub mod Replies
