mod WordLemmas
mod ObjectLemmas
mod ProfileLemmas
mod MachineLemmas
mod ArrayLemmas
