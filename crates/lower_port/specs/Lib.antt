pub mod Connections
pub mod Taking
pub mod Servers
pub mod Gateways
