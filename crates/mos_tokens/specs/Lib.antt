pub mod TokenView
