pub mod Lookings
