pub mod Order
pub mod AscendingRows
pub mod Looked
