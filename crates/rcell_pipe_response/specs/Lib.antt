-- The frames of questions, and how a run of `rcell-pipe` ends.
pub mod QuestionFrames
pub mod TileQuestionLaw
pub mod RunEnds
pub mod FrameEndings
pub mod parts
