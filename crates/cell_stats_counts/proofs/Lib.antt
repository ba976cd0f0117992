pub mod AscendLemmas
pub mod CountLemmas
pub mod ByteCountLemmas
pub mod HeldLemmas
pub mod PairedLemmas
pub mod RowLemmas
pub mod RunCountLemmas
