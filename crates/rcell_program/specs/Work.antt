-- What `rcell` does: the words of its process, the files that it opens, its output and its error (profile).
use Rattle.std.specs.Prelude.{ℕ, ◌≡◌, ◌<◌, Bool, false, true, ⊤, List}
use Rattle.std.specs.Prelude.{◌∷◌, All, drop, length, map, take, Option, None, Some, IfSome, IsNone, codes}
use Rattle.std.specs.List.{AllZip}
use Rattle.std.specs.Option.{IsSome}
use Rattle.cell_core.specs.Shelf.{ShelfValue}
use Rattle.cell_core_devices.specs.Device.{ComingBytes, SinkFaults, faults_after_flush, append_if_known, has_failed}
use Rattle.cell_core_devices.specs.Supposed.{SupposedContent, content_to_come}
use Rattle.rcell.specs.Output.{IsOutputOfStatements}
use Rattle.rcell.specs.RunFaults.{IsFaultBeforeExecution, IsFaultInExecution, IsInputFault}
use Rattle.rcell.specs.Sources.{ReadsAgreeWithContents, Named}
use Rattle.rcell.specs.SourcesLaw.{contents_of_named_sources}
use Rattle.rcell.specs.declared.outcome.OutcomeWithSources.{OutcomeWithSources}
use Rattle.rcell.specs.declared.outcome.Outcome.{Outcome}
use Rattle.rcell.specs.declared.run_fault.RunFault.TheVariants.{Write}
use Rattle.rcell.specs.runs.Accepted.{AreGridsAndScriptAccepted}
use Rattle.rcell.specs.runs.Endings.{IsFirstFaultOfInput, IsRunSuccessful, IsRunStoppedDuringExecution}
use Rattle.rcell.specs.runs.Outcomes.{IsSinkStateForRunFault, WritesOutputUnlessStopped}
use Rattle.rcell.specs.runs.Statuses.{exit_status_of_run}
use Rattle.rcell_command.specs.Processes.{StandardErrorLine, IsErrorLinePrinted, known_list_with_items}
use Rattle.rcell_command.specs.Reported.{ErrorPlaceValue}
use Rattle.rcell_program.specs.CommandLine.{grid_name_in_argument, grid_names_in_arguments, grid_path_in_argument}
use Rattle.rcell_program.specs.CommandLine.{grid_paths_in_arguments, refusal_of_words, script_path_in_arguments}
use Rattle.rcell_program.specs.Refusals.{grid_path_at_place, error_place_of_refusal, error_place_of_run}
use Rattle.rcell_program.specs.declared.refusal.Refusal.{Refusal}
use Rattle.rcell_program.specs.declared.worked.FinishedWork.{FinishedWork}
use Rattle.rcell_program.specs.declared.refusal.Refusal.TheVariants as refusals
use Rattle.rcell_script.specs.declared.statement.Statement.{Statement}

-- the contents of the files that the words name: the script's, and each grid's with its name
pub record AreContentsOfNamedFiles (files : List ℕ → Option ComingBytes) (words : List (List ℕ)) (named : List Named)
    (text : ComingBytes) :
    Type 0 where
  pub script : files (script_path_in_arguments words) ≡ Some text
  pub grids : AllZip (λ word n. (grid_name_in_argument word ≡ n.0)
      × (files (grid_path_in_argument word) ≡ Some n.1)) (drop 1 words) named

-- the files that the words name may have these contents: the script's, and each grid's with its name; a file whose
-- content is not known may have any
pub record MayBeContentsOfNamedFiles (file : List ℕ → SupposedContent) (words : List (List ℕ)) (named : List Named)
    (text : ComingBytes) :
    Type 0 where
  pub script : content_to_come (file (script_path_in_arguments words)) text ≡ Some text
  pub grids : AllZip (λ word n. (grid_name_in_argument word ≡ n.0)
      × (content_to_come (file (grid_path_in_argument word)) n.1 ≡ Some n.1))
      (drop 1
      words) named

-- the reads of the files agreed with these contents; no content is compared with the file of a grid that was not read
pub record ReadsAgreedWithContents {F : Type 0} (supposed : F
    → SupposedContent) (ran : OutcomeWithSources F) (named : List Named) (text : ComingBytes) : Type 0
  where
    pub script : IsSome (content_to_come (supposed ran.script) text)
    pub grids : ReadsAgreeWithContents supposed (contents_of_named_sources named) ran.grids.items

-- how the work ends: rejected before a run, or with a run, whose files are returned
pub data ProgramEnd (F : Type 0) : Type 0 where
  Rejected : (refusal : Refusal) → ProgramEnd F
  HasRun : (ran : OutcomeWithSources F) → ProgramEnd F

-- where the error is reported, given the names of the grids
abbrev pub error_place_of_work_end : {F : Type 0} → List (List ℕ) → ProgramEnd F → Option ErrorPlaceValue
error_place_of_work_end names (Rejected refusal) = Some (error_place_of_refusal names refusal)
error_place_of_work_end names (HasRun ran) = error_place_of_run names ran.outcome

-- the run of this end, if there was one
abbrev pub run_of_work_end : {F : Type 0} → ProgramEnd F → Option (OutcomeWithSources F)
run_of_work_end (Rejected refusal) = None
run_of_work_end (HasRun ran) = Some ran

-- why no run was started: invalid words, a file whose contents are not known, or a lack of memory
abbrev pub IsReasonForNoRun : (List ℕ → Option ComingBytes) → List (List ℕ) → Refusal → Type 0
IsReasonForNoRun files words refusals.Usage = refusal_of_words words ≡ Some refusals.Usage
IsReasonForNoRun files words (refusals.GridWord place) = refusal_of_words words ≡ Some (refusals.GridWord place)
IsReasonForNoRun files words refusals.Memory = ⊤
IsReasonForNoRun files words refusals.ScriptFile = files (script_path_in_arguments words) ≡ None
IsReasonForNoRun files words (refusals.GridFile grid) = (grid < length (grid_paths_in_arguments words))
    × (files (grid_path_at_place (grid_paths_in_arguments
    words) grid) ≡ None)

-- no run was started: the first files were opened, in order, and nothing was written
pub record IsRejectedBeforeRun {W : Type 0} (files : List ℕ → Option ComingBytes) (words : List (List ℕ))
    (opened now_opened :
    Option (List (List ℕ))) (out now : W) (refusal : Refusal) : Type 0 where
  pub reason : IsReasonForNoRun files words refusal
  pub count : ℕ
  pub opens : now_opened ≡ known_list_with_items opened (take count (script_path_in_arguments words
      ∷ grid_paths_in_arguments words))
  pub untouched : now ≡ out

-- what a run over these texts wrote: without an error, with an error in the input, and with an error during execution
pub record IsOutputOfRunOverTexts (named : List Named) (text : ComingBytes) (before now : Option (List ℕ))
    (failed : Bool) (outcome :
    Outcome) : Type 0 where
  pub done : IsNone outcome.fault → IsRunSuccessful named text before now outcome.written
  pub refused : IfSome outcome.fault (λ f. IsInputFault f → IsFirstFaultOfInput named text f)
  pub stopped : IfSome outcome.fault (λ f. IsFaultInExecution f
      → IsRunStoppedDuringExecution named text before now outcome.written f)
  pub headline : (shelf : ShelfValue) (statements : List Statement)
      → AreGridsAndScriptAccepted named text shelf statements → WritesOutputUnlessStopped
      shelf statements before now failed outcome

-- a run over the files that the words name, all of which were opened, in order: over the known contents, and over any
-- contents with which the reads agreed
pub record IsRunOverNamedFiles {F W : Type 0} (files : List ℕ → Option ComingBytes) (file : List ℕ
    → SupposedContent) (supposed : F →
    SupposedContent) (words : List (List ℕ)) (opened now_opened : Option (List (List ℕ))) (taken : W → Option (List ℕ))
    (faults : W → SinkFaults) (out now : W) (ran : OutcomeWithSources F) : Type 0
  where
    pub accepted : refusal_of_words words ≡ None
    pub opens : now_opened ≡ known_list_with_items opened (script_path_in_arguments words
        ∷ grid_paths_in_arguments words)
    pub over : (named : List Named) (text : ComingBytes) → AreContentsOfNamedFiles files words named text
        → IsOutputOfRunOverTexts named text (taken
        out) (taken now) (has_failed (faults now)) ran.outcome
    pub agreed : (named : List Named) (text : ComingBytes) → MayBeContentsOfNamedFiles file words named text
        → ReadsAgreedWithContents supposed ran
        named text → IsOutputOfRunOverTexts named text (taken out) (taken now) (has_failed (faults now)) ran.outcome
    pub untouched : IfSome ran.outcome.fault (λ f. IsFaultBeforeExecution f → (now ≡ out) × (ran.outcome.written ≡ 0))
    pub status : ran.outcome.status ≡ exit_status_of_run ran.outcome.fault
    pub sound : ran.outcome.status ≡ 0 → faults now ≡ faults_after_flush (faults out) false
    pub write : ran.outcome.fault ≡ Some Write → has_failed (faults now) ≡ true
    pub first : IfSome ran.outcome.fault IsFaultInExecution → IsSinkStateForRunFault ran.outcome.fault (faults out)
        (faults now)

abbrev pub IsEndOfWork : {F W : Type 0} → (List ℕ → Option ComingBytes) → (List ℕ → SupposedContent)
    → (F → SupposedContent) → List (List ℕ)
    → Option (List (List ℕ)) → Option (List (List ℕ)) → (W → Option (List ℕ)) → (W → SinkFaults) → W → W
    → ProgramEnd F →
    Type 0
IsEndOfWork files file supposed words opened now_opened taken faults out now
    (Rejected refusal) = IsRejectedBeforeRun files words
    opened now_opened out now refusal
IsEndOfWork files file supposed words opened now_opened taken faults out now
    (HasRun ran) = IsRunOverNamedFiles files file supposed
    words opened now_opened taken faults out now ran

-- the work of `rcell` for the words of the process, without the program's own name, if the words are known: unless
-- standard error failed, it contains exactly the line for the error; the exit status is the error's, or 0
pub record IsWork {F P W : Type 0} (words : P → Option (List (List ℕ))) (files : P → List ℕ
    → Option ComingBytes) (file : P
    → List ℕ → SupposedContent) (supposed : F → SupposedContent) (opened : P → Option (List (List ℕ))) (errors : P
    → Option (List
    StandardErrorLine)) (failed : P → Bool) (old new : P) (taken : W → Option (List ℕ)) (faults : W
    → SinkFaults) (out now : W)
    (worked : FinishedWork F) : Type 0 where
  pub given : List (List ℕ)
  pub known : IfSome (words old) (λ all. given ≡ drop 1 all)
  pub end : ProgramEnd F
  pub ran : worked.ran ≡ run_of_work_end end
  pub names : IfSome worked.ran (λ ran. worked.names.items ≡ grid_names_in_arguments given)
  pub ends : IsEndOfWork (files old) (file old) supposed given (opened old) (opened new) taken faults out now end
  pub told : IsErrorLinePrinted errors failed old new (codes "rcell")
      (error_place_of_work_end (grid_names_in_arguments given) end) worked.status

-- any file may have this content
abbrev pub MayBeContentOfAnyFile : (List ℕ → SupposedContent) → ComingBytes → Type 0
MayBeContentOfAnyFile file content = (path : List ℕ) → content_to_come (file path) content ≡ Some content

-- contents of the script and of each grid, under the grids' names, that any file may have
pub record ArePossibleFileContents (file : List ℕ → SupposedContent) (names : List (List ℕ)) (named : List Named)
    (text : ComingBytes) :
    Type 0 where
  pub named_so : map (λ n. n.0) named ≡ names
  pub script : MayBeContentOfAnyFile file text
  pub grids : All (λ n. MayBeContentOfAnyFile file n.1) named

-- a run over grids with these names: for any contents with which the reads of the script and the grids agreed, exactly
-- the output for these contents was written
pub record IsDoneOverFiles {F : Type 0} (file : List ℕ → SupposedContent) (supposed : F
    → SupposedContent) (names : List (List ℕ))
    (before now : Option (List ℕ)) (ran : OutcomeWithSources F) : Type 0 where
  pub done : (named : List Named) (text : ComingBytes) → ArePossibleFileContents file names named text
      → ReadsAgreedWithContents supposed ran
      named text → IsRunSuccessful named text before now ran.outcome.written

-- exactly the output of these statements was written, the files at these paths were opened, in order, standard error is
-- empty, and the exit status is 0
pub record IsProgramDoneWithoutError (shelf : ShelfValue) (statements : List Statement) (paths : List (List ℕ))
    (opened now_opened :
    Option (List (List ℕ))) (errors now_errors : Option (List StandardErrorLine)) (before now : Option (List ℕ))
    (status : ℕ)
    : Type 0 where
  pub output : List ℕ
  pub of_script : IsOutputOfStatements shelf statements output
  pub written : now ≡ append_if_known before output
  pub opens : now_opened ≡ known_list_with_items opened paths
  pub silent : now_errors ≡ errors
  pub good : status ≡ 0
