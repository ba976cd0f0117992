-- What has been written when the frames of questions stop.
use Rattle.std.specs.Prelude.{ℕ, ◌≡◌, true, List, ◌++◌, Option}
use Rattle.std.specs.Option.{option_map}
use Rattle.cell_core_devices.specs.Device.{SinkFaults}
use Rattle.cell_core_devices.specs.Blocks.{OutputBlockValue, IsTextAppendedThroughBlock}
use Rattle.rcell_tile.specs.TileRuns.{RunShelvesValue}
use Rattle.rcell_pipe_request.specs.Questions.{PatchQuestionValue}
use Rattle.rcell_pipe_response.specs.declared.answers.AnswerWritingStop.{AnswerWritingStop}
use Rattle.rcell_pipe_response.specs.declared.answers.AnswerWritingStop.TheVariants as stops
use Rattle.rcell_pipe_response.specs.declared.answers.PatchMeasures.{PatchMeasures}
use Rattle.rcell_pipe_frames.specs.Frames.{OutputFrame}
use Rattle.rcell_pipe_frames.specs.FrameBytes.{frames_bytes}
use Rattle.rcell_pipe_response.specs.QuestionFrames.{AreFramesForQuestion, AreFramesForAllQuestions, PatchMeasuresValue}

-- the measures and zones of patches as lists
abbrev pub patch_measures_as_value : PatchMeasures → PatchMeasuresValue
patch_measures_as_value measures = record {
  patches = measures.patches.items;
  zones = option_map (λ z. z.items) measures.zones;
}

-- the frames for a question were appended
pub record AreQuestionFramesAppended {S : Type 0} (taken : S → Option (List ℕ)) (faults : S
    → SinkFaults) (shelves : RunShelvesValue) (place : ℕ)
    (question : PatchQuestionValue) (old : S) (block : OutputBlockValue) (now : S)
    (new : OutputBlockValue) : Type 0 where
  pub frames : List OutputFrame
  pub answer : AreFramesForQuestion shelves place question frames
  pub appends : IsTextAppendedThroughBlock taken faults old block (frames_bytes frames) now new

-- the frames for all questions were appended
pub record AreAllQuestionFramesAppended {S : Type 0} (taken : S → Option (List ℕ)) (faults : S
    → SinkFaults) (shelves : RunShelvesValue)
    (questions : List PatchQuestionValue) (old : S) (block : OutputBlockValue) (now : S)
    (new : OutputBlockValue) : Type 0 where
  pub frames : List OutputFrame
  pub answers : AreFramesForAllQuestions shelves 0 questions frames
  pub appends : IsTextAppendedThroughBlock taken faults old block (frames_bytes frames) now new

-- the frames for the first questions were appended
pub record AreFirstQuestionFramesAppended {S : Type 0} (taken : S → Option (List ℕ)) (faults : S
    → SinkFaults) (shelves : RunShelvesValue)
    (questions : List PatchQuestionValue) (old : S) (block : OutputBlockValue) (now : S)
    (new : OutputBlockValue) : Type 0 where
  pub first : List PatchQuestionValue
  pub others : List PatchQuestionValue
  pub whole : first ++ others ≡ questions
  pub answered : AreAllQuestionFramesAppended taken faults shelves first old block now new

-- the sink failed, if the stop is a write error
abbrev pub SinkFailedIfWriteStopped : OutputBlockValue → AnswerWritingStop → Type 0
SinkFailedIfWriteStopped new stops.Memory = Unit {0}
SinkFailedIfWriteStopped new stops.Write = new.failed ≡ true

-- the frames for the first questions were appended, and then writing stopped
pub record StopsAfterFirstQuestionFrames {S : Type 0} (taken : S → Option (List ℕ)) (faults : S
    → SinkFaults) (shelves : RunShelvesValue)
    (questions : List PatchQuestionValue) (old : S) (block : OutputBlockValue) (now : S) (new : OutputBlockValue)
    (stop : AnswerWritingStop) : Type 0 where
  pub so_far : AreFirstQuestionFramesAppended taken faults shelves questions old block now new
  pub failed : SinkFailedIfWriteStopped new stop
