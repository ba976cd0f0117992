-- What a run of `rcell-pipe` has written when it ends (profile).
use Rattle.std.specs.Prelude.{ℕ, ◌≡◌, ◌⊎◌, ◌++◌, ⊤, Bool, true, false, List, [], ◌∷◌, length, codes, Option, Some, None}
use Rattle.std.specs.Prelude.{Result, Ok, Err, if◌then◌else◌}
use Rattle.std.specs.Option.{option_and_then}
use Rattle.cell_core_devices.specs.Device.{SinkFaults, append_if_known, faults_after_put, faults_after_flush}
use Rattle.cell_core_devices.specs.Blocks.{capped_byte_count}
use Rattle.cell_ascii_meaning.specs.declared.grid_fault.GridKind.{GridKind}
use Rattle.cell_ascii_meaning.specs.declared.grid_fault.GridKind.TheVariants as grid_kinds
use Rattle.rcell_script.specs.Scripts.{IsScript}
use Rattle.rcell_script.specs.ReadScripts.{IsScriptFault}
use Rattle.rcell_script.specs.declared.statement.Statement.{Statement}
use Rattle.rcell_script.specs.declared.script_fault.ScriptFault.{ScriptFault}
use Rattle.rcell_script.specs.declared.script_fault.ScriptKind.{ScriptKind}
use Rattle.rcell_script.specs.declared.script_fault.ScriptKind.TheVariants as script_kinds
use Rattle.rcell_script.specs.ScriptTexts.{script_error_text}
use Rattle.rcell.specs.Output.{IsOutputOfStatements}
use Rattle.rcell_tile.specs.TileRuns.{RunShelvesValue}
use Rattle.rcell_tile.specs.HaloMargins.{first_halo_fault}
use Rattle.rcell_tile.specs.declared.halo_margins.HaloFault.{HaloFault}
use Rattle.rcell_tile.specs.declared.halo_margins.HaloFaultKind.{HaloFaultKind}
use Rattle.rcell_tile.specs.declared.halo_margins.HaloFaultKind.TheVariants as halo_kinds
use Rattle.rcell_pipe_request.specs.declared.error.ErrorKind.{ErrorKind}
use Rattle.rcell_pipe_request.specs.declared.error.ErrorKind.TheVariants as kinds
use Rattle.rcell_pipe_request.specs.declared.error.RequestError.{RequestError}
use Rattle.rcell_pipe_request.specs.Questions.{PatchQuestionValue}
use Rattle.rcell_pipe_request.specs.Requests.{RunRequestValue}
use Rattle.rcell_pipe_response.specs.declared.end.End.{End}
use Rattle.rcell_pipe_response.specs.declared.end.PipeError.{PipeError}
use Rattle.rcell_pipe_response.specs.declared.end.PipeError.TheVariants as errors
use Rattle.rcell_pipe_response.specs.declared.frame_run.ResponseForm.{ResponseForm}
use Rattle.rcell_pipe_response.specs.declared.frame_run.ResponseForm.TheVariants.{Frames, Text}
use Rattle.rcell_pipe_frames.specs.Frames.{OutputFrame, StatementsGiveFrames}
use Rattle.rcell_pipe_frames.specs.FrameBytes.{RunEndValue, response_magic, frames_bytes, response_bytes}
use Rattle.rcell_pipe_response.specs.declared.question_error.QuestionErrorKind.{QuestionErrorKind}
use Rattle.rcell_pipe_response.specs.declared.question_error.QuestionErrorKind.TheVariants as question_kinds
use Rattle.rcell_pipe_response.specs.declared.question_error.QuestionError.{QuestionError}
use Rattle.rcell_pipe_response.specs.QuestionFrames.{question_error_after_statements, AreFramesForAllQuestions}

-- the end as a value
abbrev pub end_frame_as_value : End → RunEndValue
end_frame_as_value end = record { status = end.status; source = end.source; maps = end.maps; line = end.line; column = end.column; text = end.text.now }

-- the text that rcell prints for an error in the text of a grid
abbrev pub grid_error_text : GridKind → List ℕ
grid_error_text grid_kinds.BadHeader = codes "bad header line"
grid_error_text grid_kinds.TwiceKey = codes "key given twice"
grid_error_text grid_kinds.MissingKey = codes "missing key"
grid_error_text grid_kinds.BadNumber = codes "bad number"
grid_error_text grid_kinds.BadType = codes "type not supported"
grid_error_text (grid_kinds.Region fault) = codes "bad region"
grid_error_text grid_kinds.BadCell = codes "bad cell"
grid_error_text grid_kinds.CellRange = codes "cell out of range"
grid_error_text grid_kinds.TooFew = codes "too few cells"
grid_error_text grid_kinds.TooMany = codes "too many cells"
grid_error_text grid_kinds.Read = codes "read failed"
grid_error_text grid_kinds.Memory = codes "no memory"
grid_error_text grid_kinds.Failed = codes "reader failed"
grid_error_text grid_kinds.ReaderStuck = codes "too many blanks"
grid_error_text grid_kinds.LongToken = codes "token too long"

-- the text for an error in a request's bytes
abbrev pub request_error_text : ErrorKind → List ℕ
request_error_text kinds.BadMagic = codes "bad magic"
request_error_text kinds.Short = codes "request too short"
request_error_text kinds.ReadFailed = codes "read failed"
request_error_text kinds.BadPlace = codes "bad place"
request_error_text kinds.BadCount = codes "bad number of maps"
request_error_text kinds.BadName = codes "bad name"
request_error_text kinds.NameTwice = codes "name used twice"
request_error_text kinds.BadNumber = codes "bad number"
request_error_text kinds.BadRegion = codes "bad region"
request_error_text kinds.BadType = codes "bad type"
request_error_text kinds.BadFlags = codes "bad flags"
request_error_text kinds.BadNodata = codes "bad nodata"
request_error_text kinds.BadLabel = codes "bad label"
request_error_text kinds.BadMask = codes "bad mask"
request_error_text kinds.CellRange = codes "cell out of range"
request_error_text (kinds.Grid kind) = grid_error_text kind
request_error_text kinds.OtherRegion = codes "other region"
request_error_text kinds.ScriptSize = codes "script too long"
request_error_text kinds.BadQuestion = codes "bad question"
request_error_text kinds.BadConnectivity = codes "bad connectivity"
request_error_text kinds.BadDepth = codes "bad depth"
request_error_text kinds.BadZones = codes "bad zones"
request_error_text kinds.BadKind = codes "bad kind"
request_error_text kinds.BadTileCount = codes "bad number of tiles"
request_error_text kinds.OtherConnectivity = codes "other connectivity"
request_error_text kinds.OtherPlace = codes "other place"
request_error_text kinds.BadSize = codes "bad size"
request_error_text kinds.OtherSize = codes "other size"
request_error_text kinds.BadBorder = codes "bad border"
request_error_text kinds.TooManyPatches = codes "too many patches"
request_error_text kinds.BadWidth = codes "bad width"
request_error_text kinds.BadTableCount = codes "bad number of tables"
request_error_text kinds.ZeroCount = codes "bad count"
request_error_text kinds.TooManyCells = codes "too many cells"
request_error_text kinds.BadRun = codes "bad run"
request_error_text kinds.PatchOrder = codes "patch order"
request_error_text kinds.UnknownPatch = codes "unknown patch"
request_error_text kinds.BadPatch = codes "bad patch"
request_error_text kinds.OtherClass = codes "other class"
request_error_text kinds.Trailing = codes "bytes after the request"

-- 4 if a read failed, 1 if the bytes are not a request
abbrev pub exit_status_of_request_error : ErrorKind → ℕ
exit_status_of_request_error kinds.ReadFailed = 4
exit_status_of_request_error kind = 1

-- the column of an error in an expression, or 0 for other errors
abbrev pub column_of_script_error : ScriptKind → ℕ
column_of_script_error (script_kinds.Calc error) = error.column
column_of_script_error kind = 0

-- the end of a successful run
abbrev pub end_frame_of_successful_run : RunEndValue
end_frame_of_successful_run = record { status = 0; source = 0; maps = 0; line = 0; column = 0; text = [] }

-- the end if the bytes are not a request
abbrev pub request_end : RequestError → RunEndValue
request_end error = record { status = exit_status_of_request_error error.kind; source = 1; maps = error.maps; line = error.row; column = 0; text = request_error_text error.kind }

-- the end if the script is rejected, with the text that rcell prints for its error
abbrev pub end_frame_of_rejected_script : ScriptFault → RunEndValue
end_frame_of_rejected_script error = record { status = 1; source = 2; maps = 0; line = error.line; column = column_of_script_error error.kind; text = script_error_text error.kind }

-- the text for an error of a halo
abbrev pub halo_error_text : HaloFaultKind → List ℕ
halo_error_text halo_kinds.TooSmall = codes "halo too small"
halo_error_text halo_kinds.Labels = codes "labels in a tile"

-- the end if the halo does not allow a statement
abbrev pub end_frame_of_rejected_halo : HaloFault → RunEndValue
end_frame_of_rejected_halo fault =
    record { status = 1; source = 2; maps = 0; line = fault.line; column = 0; text = halo_error_text fault.kind }

-- the text for an error of a question
abbrev pub question_error_text : QuestionErrorKind → List ℕ
question_error_text question_kinds.UnknownMap = codes "unknown map"
question_error_text question_kinds.HaloTooSmall = halo_error_text halo_kinds.TooSmall
question_error_text question_kinds.OfText = codes "question for a text"

-- the end if a question is rejected
abbrev pub end_frame_of_rejected_question : QuestionError → RunEndValue
end_frame_of_rejected_question error = record { status = 1; source = 3; maps = 0; line = error.number; column = 0; text = question_error_text error.kind }

-- the end if memory ran out at a line; line 0 is before the first statement or after the last
abbrev pub memory_end : ℕ → RunEndValue
memory_end line = record { status = 3; source = 0; maps = 0; line = line; column = 0; text = codes "no memory" }

-- the exit status for an error
abbrev pub exit_status_of_pipe_error : PipeError → ℕ
exit_status_of_pipe_error (errors.Request error) = exit_status_of_request_error error.kind
exit_status_of_pipe_error (errors.Script error) = 1
exit_status_of_pipe_error (errors.Halo fault) = 1
exit_status_of_pipe_error (errors.Question error) = 1
exit_status_of_pipe_error errors.Memory = 3
exit_status_of_pipe_error (errors.MemoryAt line) = 3
exit_status_of_pipe_error errors.MemoryAtQuestion = 3
exit_status_of_pipe_error errors.Write = 4

abbrev pub exit_status_of_pipe_run : Option PipeError → ℕ
exit_status_of_pipe_run None = 0
exit_status_of_pipe_run (Some error) = exit_status_of_pipe_error error

-- the first statement that the halo of a tile does not allow; full maps allow every statement
abbrev pub halo_fault_of_statements : RunShelvesValue → List Statement → Option HaloFault
halo_fault_of_statements shelves statements =
    option_and_then (λ place. first_halo_fault place (length shelves.outer.names) statements) shelves.place

-- the bytes are a request, its script denotes statements over its maps, their halo is large enough for each statement,
-- and no question is rejected
pub record IsRunRequestAccepted (form : ResponseForm) (read : Result RunRequestValue RequestError)
    (shelves : RunShelvesValue) (statements : List Statement) (questions : List PatchQuestionValue) : Type 0 where
  pub script : List ℕ
  pub request : read ≡ Ok (record { shelves = shelves; script = script; questions = questions })
  pub denoted : IsScript shelves.outer.names script statements
  pub enough : halo_fault_of_statements shelves statements ≡ None
  pub known : question_error_after_statements form shelves statements questions ≡ None

-- the frames of statements over maps, and of questions about the maps that the statements leave
pub record AreFramesOfStatementsAndQuestions (shelves : RunShelvesValue) (statements : List Statement)
    (questions : List PatchQuestionValue)
    (all : List OutputFrame) : Type 0 where
  pub frames : List OutputFrame
  pub after : RunShelvesValue
  pub given : StatementsGiveFrames shelves statements frames after
  pub answers : List OutputFrame
  pub answered : AreFramesForAllQuestions after 0 questions answers
  pub both : all ≡ frames ++ answers

-- the response to statements and questions: their frames and an end, or the text that rcell prints for the statements
abbrev pub StatementsAndQuestionsGiveResponse : ResponseForm → RunShelvesValue → List Statement
    → List PatchQuestionValue → RunEndValue → List ℕ
    → Type 0
StatementsAndQuestionsGiveResponse Frames shelves statements questions end response =
    (frames : List OutputFrame) × (AreFramesOfStatementsAndQuestions shelves statements questions frames
    × (response ≡ response_bytes frames end))
StatementsAndQuestionsGiveResponse Text shelves statements questions end response = IsOutputOfStatements
    shelves.outer statements response

-- the request is accepted, and its statements and questions produce this response
pub record IsResponseOfAcceptedRequest (form : ResponseForm) (read : Result RunRequestValue RequestError)
    (response : List ℕ) : Type 0 where
  pub shelves : RunShelvesValue
  pub statements : List Statement
  pub questions : List PatchQuestionValue
  pub accepted : IsRunRequestAccepted form read shelves statements questions
  pub gives : StatementsAndQuestionsGiveResponse form shelves statements questions end_frame_of_successful_run response

-- the script is rejected for its first error: the response is only the end
pub record IsResponseToRejectedScript (read : Result RunRequestValue RequestError) (response : List ℕ) (error : ScriptFault) : Type 0 where
  pub shelves : RunShelvesValue
  pub script : List ℕ
  pub questions : List PatchQuestionValue
  pub request : read ≡ Ok (record { shelves = shelves; script = script; questions = questions })
  pub first : IsScriptFault shelves.outer.names script error
  pub bytes : response ≡ response_bytes [] (end_frame_of_rejected_script error)

-- the halo of a tile is rejected: the response is only the end, which names the first statement that it does not allow
pub record IsResponseToRejectedHalo (read : Result RunRequestValue RequestError) (response : List ℕ)
    (fault : HaloFault) : Type 0 where
  pub shelves : RunShelvesValue
  pub script : List ℕ
  pub questions : List PatchQuestionValue
  pub request : read ≡ Ok (record { shelves = shelves; script = script; questions = questions })
  pub statements : List Statement
  pub denoted : IsScript shelves.outer.names script statements
  pub first : halo_fault_of_statements shelves statements ≡ Some fault
  pub bytes : response ≡ response_bytes [] (end_frame_of_rejected_halo fault)

-- a question is rejected: the response is only the end, which names the first rejected question
pub record IsResponseToRejectedQuestion (form : ResponseForm) (read : Result RunRequestValue RequestError)
    (response : List ℕ)
    (error : QuestionError) : Type 0 where
  pub shelves : RunShelvesValue
  pub script : List ℕ
  pub questions : List PatchQuestionValue
  pub request : read ≡ Ok (record { shelves = shelves; script = script; questions = questions })
  pub statements : List Statement
  pub denoted : IsScript shelves.outer.names script statements
  pub enough : halo_fault_of_statements shelves statements ≡ None
  pub first : question_error_after_statements form shelves statements questions ≡ Some error
  pub bytes : response ≡ response_bytes [] (end_frame_of_rejected_question error)

-- memory ran out at a statement: the statements before it produce this response
pub record IsResponseStoppedAtStatement (form : ResponseForm) (read : Result RunRequestValue RequestError) (response : List ℕ) (line : ℕ) : Type 0 where
  pub shelves : RunShelvesValue
  pub first : List Statement
  pub statement : Statement
  pub others : List Statement
  pub questions : List PatchQuestionValue
  pub accepted : IsRunRequestAccepted form read shelves (first ++ statement ∷ others) questions
  pub line_is : line ≡ statement.line
  pub gives : StatementsAndQuestionsGiveResponse form shelves first [] (memory_end line) response

-- memory ran out at a question: the statements and the questions before it produce this response
pub record IsResponseStoppedAtQuestion (form : ResponseForm) (read : Result RunRequestValue RequestError) (response : List ℕ) : Type 0 where
  pub shelves : RunShelvesValue
  pub statements : List Statement
  pub first : List PatchQuestionValue
  pub others : List PatchQuestionValue
  pub accepted : IsRunRequestAccepted form read shelves statements (first ++ others)
  pub gives : StatementsAndQuestionsGiveResponse form shelves statements first (memory_end 0) response

-- the response before its end: the frames or the text of the first statements, or of all statements and the first
-- questions
abbrev pub IsPartialResponseBeforeEnd : ResponseForm → RunShelvesValue → List Statement → List PatchQuestionValue
    → List ℕ → Type 0
IsPartialResponseBeforeEnd Frames shelves first answered text =
    (frames : List OutputFrame) ×
    (AreFramesOfStatementsAndQuestions shelves first answered frames × (text ≡ response_magic ++ frames_bytes frames))
IsPartialResponseBeforeEnd Text shelves first answered text = IsOutputOfStatements shelves.outer first text

-- a write failed at a statement or question: the response up to and including it; questions follow the execution of all
-- statements
pub record IsResponseUpToFailedWrite (form : ResponseForm) (read : Result RunRequestValue RequestError)
    (text : List ℕ) : Type 0 where
  pub shelves : RunShelvesValue
  pub first : List Statement
  pub others : List Statement
  pub answered : List PatchQuestionValue
  pub unanswered : List PatchQuestionValue
  pub accepted : IsRunRequestAccepted form read shelves (first ++ others) (answered ++ unanswered)
  pub in_order : (others ≡ []) ⊎ (answered ≡ [])
  pub gives : IsPartialResponseBeforeEnd form shelves first answered text

-- the complete response of a run, for the error that it reports; or, if a write failed at a statement or question, the
-- response up to and including it
abbrev pub IsResponseToRunRequest : ResponseForm → Result RunRequestValue RequestError → List ℕ → Option PipeError
    → Type 0
IsResponseToRunRequest form read response None = IsResponseOfAcceptedRequest form read response
IsResponseToRunRequest form read response (Some (errors.Request error)) = (read ≡ Err error) × (response ≡ response_bytes [] (request_end error))
IsResponseToRunRequest form read response (Some (errors.Script error)) = IsResponseToRejectedScript read response error
IsResponseToRunRequest form read response (Some (errors.Halo fault)) = IsResponseToRejectedHalo read response fault
IsResponseToRunRequest form read response (Some (errors.Question error)) = IsResponseToRejectedQuestion form read
    response error
IsResponseToRunRequest form read response (Some errors.Memory) = response ≡ response_bytes [] (memory_end 0)
IsResponseToRunRequest form read response (Some (errors.MemoryAt line)) = IsResponseStoppedAtStatement form read
    response line
IsResponseToRunRequest form read response (Some errors.MemoryAtQuestion) = IsResponseStoppedAtQuestion form read
    response
IsResponseToRunRequest form read response (Some errors.Write) = IsResponseUpToFailedWrite form read response

-- the sink accepted the first bytes of a text, and `written` is their number
pub record IsTextPrefixWritten (before now : Option (List ℕ)) (text : List ℕ) (written : ℕ) : Type 0 where
  pub front : List ℕ
  pub rest : List ℕ
  pub whole : front ++ rest ≡ text
  pub taken : now ≡ append_if_known before front
  pub count : written ≡ capped_byte_count (length front)

-- the bytes of a text that the sink accepted, for the error of the run: all bytes, or the first ones if a write failed;
-- `written` is their number
abbrev pub IsTextAcceptedBySink : List ℕ → (before now : Option (List ℕ)) → Option PipeError → (written : ℕ) → Type 0
IsTextAcceptedBySink text before now (Some errors.Write) written = IsTextPrefixWritten before now text written
IsTextAcceptedBySink text before now error written = (now ≡ append_if_known before text)
    × (written ≡ capped_byte_count (length text))

-- the bytes written of a response that reports the error `reported`, for a run that ended with `error`
pub record IsResponseWritten (says : List ℕ → Option PipeError → Type 0) (before now : Option (List ℕ))
    (reported error : Option PipeError) (written : ℕ) : Type 0 where
  pub response : List ℕ
  pub is : says response reported
  pub taken : IsTextAcceptedBySink response before now error written

-- the calls to the sink, for the error of the run:
-- Write: a write failed, and the sink was not flushed; or no write failed, but the only flush did
-- any other error, or none: no call failed, and the sink was flushed once
abbrev pub AreSinkCallsForError : Option PipeError → SinkFaults → SinkFaults → Type 0
AreSinkCallsForError (Some errors.Write) old new = (put : Bool)
    × (new ≡ (if put then faults_after_put old true else faults_after_flush old true))
AreSinkCallsForError error old new = new ≡ faults_after_flush old false

-- the response is only the end, if it reports an error of the request, its script, its halo or a question, or that
-- memory ran out before the first statement
abbrev pub ResponseIsOnlyEndForError : PipeError → List ℕ → Type 0
ResponseIsOnlyEndForError (errors.Request error) response = response ≡ response_bytes [] (request_end error)
ResponseIsOnlyEndForError (errors.Script error) response = response
    ≡ response_bytes [] (end_frame_of_rejected_script error)
ResponseIsOnlyEndForError (errors.Halo fault) response = response ≡ response_bytes [] (end_frame_of_rejected_halo fault)
ResponseIsOnlyEndForError (errors.Question error) response = response
    ≡ response_bytes [] (end_frame_of_rejected_question error)
ResponseIsOnlyEndForError errors.Memory response = response ≡ response_bytes [] (memory_end 0)
ResponseIsOnlyEndForError (errors.MemoryAt line) response = ⊤
ResponseIsOnlyEndForError errors.MemoryAtQuestion response = ⊤
ResponseIsOnlyEndForError errors.Write response = ⊤

abbrev pub IsResponseOfOnlyEnd : List ℕ → Option PipeError → Type 0
IsResponseOfOnlyEnd response None = ⊤
IsResponseOfOnlyEnd response (Some error) = ResponseIsOnlyEndForError error response
