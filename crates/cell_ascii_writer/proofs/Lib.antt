pub mod LengthLemmas
pub mod PutLemmas
pub mod WriterLemmas
pub mod RunWritingLemmas
pub mod ByteLemmas
pub mod PendingLemmas
pub mod DigitLemmas
pub mod FieldLemmas
