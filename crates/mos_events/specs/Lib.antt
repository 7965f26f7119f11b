pub mod EventView
