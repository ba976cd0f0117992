-- Worked scripts, tables and clumps, and the responses to requests.
pub mod ReadLemmas
pub mod TableLemmas
pub mod WorkedMaps
pub mod NumberingLemmas
pub mod ClumpLemmas
pub mod SentResponseLemmas
