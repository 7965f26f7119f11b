pub mod KnownIds
pub mod OrderWords
pub mod ShownViews
pub mod ToldOrders
pub mod DeviceLines
pub mod WorldLines
