pub mod ServerSaid
pub mod Commanded
pub mod EditorSaid
pub mod MessageEdits
pub mod PortSteps
