pub mod PlainOrders
