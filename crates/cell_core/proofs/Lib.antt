mod ByteLemmas
pub mod LabelLemmas
pub mod RowLemmas
pub mod RunLemmas
pub mod MarkLemmas
