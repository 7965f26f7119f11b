pub mod ServerNodes
