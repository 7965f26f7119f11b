pub mod KeyLemmas
pub mod PartLemmas
pub mod FrameLemmas
pub mod ColumnLemmas
pub mod RoleLemmas
pub mod TextLemmas
