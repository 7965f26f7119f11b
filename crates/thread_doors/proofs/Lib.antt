pub mod Listenings
pub mod Sent
