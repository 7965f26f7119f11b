pub mod Parts
pub mod ScannerView
pub mod References
pub mod Runs
pub mod Character
