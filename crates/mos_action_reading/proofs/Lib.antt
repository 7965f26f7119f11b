mod OrderLemmas
mod ActionLemmas
mod AimLemmas
mod IdentifierLemmas
mod PartLemmas
