mod ValueLemmas
mod NameLemmas
mod RequestLemmas
mod ElementLemmas
mod ReadLemmas
