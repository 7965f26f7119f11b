pub mod HeaderPlaces
