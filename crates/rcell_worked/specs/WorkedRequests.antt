-- A worked request: the request and response in docs/pipe.md.
use Rattle.std.specs.Prelude.{ℕ, ◌≡◌, List, [], ◌∷◌, ◌++◌, codes}
use Rattle.rcell_script.specs.declared.statement.Statement.{Statement}
use Rattle.rcell_pipe_request.specs.Questions.{PatchQuestionValue}
use Rattle.rcell_tile.specs.TileRuns.{RunShelvesValue}
use Rattle.rcell_pipe_frames.specs.Frames.{OutputFrame}
use Rattle.rcell_pipe_frames.specs.FrameBytes.{response_bytes}
use Rattle.rcell_pipe_response.specs.RunEnds.{end_frame_of_successful_run, AreFramesOfStatementsAndQuestions}
use Rattle.rcell_plan_response.specs.Responses.{BytesAskForFrames}
use Rattle.rcell_pipe_law.specs.SentExamples.{docs_example_request}
use Rattle.rcell_worked.specs.SentResponses.{bytes_of_frames_request}
use Rattle.rcell_worked.specs.WorkedRuns.{source_returning_bytes}

-- the response to a request for frames, as in the theorem of `respond`
pub record RespondsToRequest (request response : List ℕ) : Type 0 where
  pub shelves : RunShelvesValue
  pub statements : List Statement
  pub questions : List PatchQuestionValue
  pub asks : BytesAskForFrames (source_returning_bytes request) shelves statements questions
  pub frames : List OutputFrame
  pub gives : AreFramesOfStatementsAndQuestions shelves statements questions frames
  pub bytes : response_bytes frames end_frame_of_successful_run ≡ response

abbrev pub table_request : List ℕ
table_request =
    codes "RCELLQ1\n" ++ (1 ∷ 50 ∷ 1 ∷ 48 ∷ 1 ∷ 51 ∷ 1 ∷ 48 ∷ 2 ∷ 0 ∷ 0 ∷ 0 ∷ 3 ∷ 0 ∷ 0 ∷ 0 ∷ [])
    ++ (1 ∷ 0 ∷ 0 ∷ 0 ∷ 4 ∷ []) ++ codes "land"
    ++ (1 ∷ 1 ∷ 255 ∷ 0 ∷ 0 ∷ 0 ∷ 0 ∷ 0 ∷ 0 ∷ 0 ∷ 0 ∷ 0 ∷ 0 ∷ 0 ∷ 1 ∷ 1 ∷ [])
    ++ (2 ∷ 2 ∷ 2 ∷ 255 ∷ 22 ∷ 0 ∷ 0 ∷ 0 ∷ []) ++ codes "r.stats -c input=land\n"
    ++ (0 ∷ 0 ∷ 0 ∷ 0 ∷ [])

abbrev pub table_response : List ℕ
table_response =
    codes "RCELLA1\nTABL" ++ (1 ∷ 0 ∷ 0 ∷ 0 ∷ 0 ∷ 0 ∷ 0 ∷ 0 ∷ 3 ∷ 0 ∷ 0 ∷ 0 ∷ 0 ∷ 0 ∷ 0 ∷ 0 ∷ [])
    ++ (1 ∷ 0 ∷ 0 ∷ 0 ∷ 0 ∷ 0 ∷ 0 ∷ 0 ∷ 1 ∷ 0 ∷ 32 ∷ 1 ∷ 0 ∷ 0 ∷ 0 ∷ 0 ∷ [])
    ++ (0 ∷ 0 ∷ 0 ∷ 42 ∷ 4 ∷ 0 ∷ 0 ∷ 0 ∷ 0 ∷ 0 ∷ 0 ∷ 0 ∷ []) ++ codes "land"
    ++ (2 ∷ 0 ∷ 0 ∷ 0 ∷ 0 ∷ 0 ∷ 0 ∷ 0 ∷ 3 ∷ 0 ∷ 0 ∷ 0 ∷ 0 ∷ 0 ∷ 0 ∷ 0 ∷ [])
    ++ (1 ∷ 0 ∷ 0 ∷ 0 ∷ 0 ∷ 0 ∷ 0 ∷ 0 ∷ 1 ∷ 0 ∷ 0 ∷ 0 ∷ 2 ∷ 0 ∷ 0 ∷ 0 ∷ []) ++ (0 ∷ 0 ∷ 0 ∷ 128 ∷ [])
    ++ codes "DONE" ++ (0 ∷ 0 ∷ 0 ∷ 0 ∷ 0 ∷ 0 ∷ 0 ∷ 0 ∷ 0 ∷ 0 ∷ 0 ∷ 0 ∷ 0 ∷ 0 ∷ 0 ∷ 0 ∷ [])
    ++ (0 ∷ 0 ∷ 0 ∷ 0 ∷ 0 ∷ 0 ∷ 0 ∷ 0 ∷ 0 ∷ 0 ∷ 0 ∷ 0 ∷ 0 ∷ 0 ∷ 0 ∷ 0 ∷ [])
    ++ (0 ∷ 0 ∷ 0 ∷ 0 ∷ 0 ∷ 0 ∷ 0 ∷ 0 ∷ 0 ∷ 0 ∷ 0 ∷ 0 ∷ 0 ∷ 0 ∷ 0 ∷ 0 ∷ [])

pub record RequestExamplesHold : Type 0 where
  -- the bytes that the definitions give for the map and the script
  pub written : bytes_of_frames_request docs_example_request ≡ table_request
  -- the response to these bytes
  pub table : RespondsToRequest table_request table_response
