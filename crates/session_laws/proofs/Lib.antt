pub mod Accepteds
