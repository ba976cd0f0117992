pub mod SentNumberLemmas
pub mod SentFieldLemmas
pub mod SentRowLemmas
pub mod SentMapLemmas
pub mod SentQuestionLemmas
pub mod SentRequestLemmas
pub mod WorkedLemmas
