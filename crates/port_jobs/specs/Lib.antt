pub mod Ports
pub mod Reports
