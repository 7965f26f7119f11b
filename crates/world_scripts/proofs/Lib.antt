mod Examples
pub mod MadeLemmas
pub mod CommandsBack
pub mod ReadBack
pub mod ScriptBodies
pub mod SoundLemmas
