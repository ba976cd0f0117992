pub mod ExecutionLemmas
pub mod EndLemmas
pub mod QuestionLemmas
pub mod TileQuestionLemmas
pub mod TileMeasureLemmas
pub mod TileAnswerLemmas
