pub mod Tokens
pub mod Records
pub mod Kinds
pub mod RecordMachine
pub mod Streams
pub mod TokenKinds
pub mod Laws
