pub mod Codec
pub mod Decoding
pub mod Words
pub mod Taking
