pub mod Sound
pub mod Seen
pub mod Complete
pub mod StreamProofs
pub mod FirstFault
pub mod Fresh
mod TokenFirst
mod TokenLaws
