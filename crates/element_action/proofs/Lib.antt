pub mod PlaceLemmas
pub mod MoveLemmas
pub mod StepLemmas
pub mod TargetLemmas
pub mod ItemLemmas
pub mod SourceLemmas
pub mod FormLemmas
pub mod EditLemmas
pub mod LoopLemmas
pub mod ItemSteps
pub mod LawLemmas
pub mod CheckLemmas
mod ArrangeLemmas
mod GatherLemmas
mod ItemMoveLemmas
mod ScriptLemmas
