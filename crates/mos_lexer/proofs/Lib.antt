pub mod Lexer
pub mod Chars
pub mod Forward
pub mod Places
pub mod References
pub mod Whole
pub mod UnitReads
pub mod UnitAccepts
pub mod UnitLaws
mod Readings
