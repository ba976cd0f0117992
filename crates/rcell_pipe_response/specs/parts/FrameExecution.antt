-- What has been written when the execution of statements stops.
use Rattle.std.specs.Prelude.{ℕ, ◌≡◌, true, List, ◌∷◌, ◌++◌, Option}
use Rattle.cell_core_devices.specs.Device.{SinkFaults}
use Rattle.cell_core_devices.specs.Blocks.{OutputBlockValue, IsTextAppendedThroughBlock}
use Rattle.rcell_script.specs.declared.statement.Statement.{Statement}
use Rattle.rcell_tile.specs.TileRuns.{RunShelvesValue}
use Rattle.rcell_pipe_response.specs.declared.frame_execution.FrameExecutionStop.{FrameExecutionStop}
use Rattle.rcell_pipe_response.specs.declared.frame_execution.FrameExecutionStop.TheVariants as stops
use Rattle.rcell_pipe_frames.specs.Frames.{OutputFrame, StatementsGiveFrames}
use Rattle.rcell_pipe_frames.specs.FrameBytes.{frames_bytes}

-- the frames of the statements were appended, and the statements left the shelves `after`
pub record AreStatementFramesAppended {S : Type 0} (taken : S → Option (List ℕ)) (faults : S → SinkFaults)
    (shelves : RunShelvesValue) (first : List Statement) (old : S) (block : OutputBlockValue) (now : S)
    (new : OutputBlockValue) (after : RunShelvesValue) : Type 0 where
  pub frames : List OutputFrame
  pub given : StatementsGiveFrames shelves first frames after
  pub appends : IsTextAppendedThroughBlock taken faults old block (frames_bytes frames) now new

-- memory ran out at a statement, which has written nothing
pub record MemoryRunsOutAtStatement {S : Type 0} (taken : S → Option (List ℕ)) (faults : S → SinkFaults)
    (shelves : RunShelvesValue) (statements : List Statement) (old : S) (block : OutputBlockValue) (now : S)
    (new : OutputBlockValue) (line : ℕ) : Type 0 where
  pub first : List Statement
  pub statement : Statement
  pub others : List Statement
  pub whole : first ++ statement ∷ others ≡ statements
  pub line_is : line ≡ statement.line
  pub after : RunShelvesValue
  pub given : AreStatementFramesAppended taken faults shelves first old block now new after

-- the frames of the first statements were appended, and the sink failed
pub record SinkFailsWithinStatementFrames {S : Type 0} (taken : S → Option (List ℕ)) (faults : S → SinkFaults)
    (shelves : RunShelvesValue) (statements : List Statement) (old : S) (block : OutputBlockValue) (now : S)
    (new : OutputBlockValue) : Type 0 where
  pub first : List Statement
  pub others : List Statement
  pub whole : first ++ others ≡ statements
  pub after : RunShelvesValue
  pub given : AreStatementFramesAppended taken faults shelves first old block now new after
  pub failed : new.failed ≡ true

-- an execution stopped for this reason
abbrev pub IsStoppedFrameExecution : {S : Type 0} (taken : S → Option (List ℕ)) (faults : S → SinkFaults)
    → RunShelvesValue → List Statement → S → OutputBlockValue → S → OutputBlockValue → FrameExecutionStop → Type 0
IsStoppedFrameExecution taken faults shelves statements old block now new (stops.Memory line) =
    MemoryRunsOutAtStatement taken faults shelves statements old block now new line
IsStoppedFrameExecution taken faults shelves statements old block now new stops.Write =
    SinkFailsWithinStatementFrames taken faults shelves statements old block now new
