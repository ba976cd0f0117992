-- How the work of the program ends, and its outcome for files that are known.
use Rattle.std.proofs.Common.{All, ℕ, zero, suc, Bool, true, false, List, [], ◌∷◌, Option, None, Some, IfSome, ◌≡◌, ◌≢◌}
use Rattle.std.proofs.Common.{◌<◌, ◌∙◌, if◌then◌else◌, ap, sym, refl, subst, drop, map, take, length, codes, arith}
use Rattle.std.specs.List.{AllZip}
use Rattle.std.specs.Option.{option_map, IsSomeAnd}
use Rattle.std.proofs.lemmas.List.Elements.{All-head, All-tail}
use Rattle.std.proofs.lemmas.Option.{same_Some}
use Rattle.cell_core.specs.Shelf.{ShelfValue}
use Rattle.cell_core_devices.specs.Device.{ComingBytes, SinkFaults, has_failed}
use Rattle.cell_core_devices.specs.Supposed.{SupposedContent, content_to_come}
use Rattle.clap.specs.Walk.{Text}
use Rattle.rcell.specs.Sources.{Named, SourcesHoldKnownContents, SourcesHoldSupposedContents}
use Rattle.rcell.specs.SourcesLaw.{contents_of_named_sources}
use Rattle.rcell.specs.declared.outcome.Outcome.{Outcome}
use Rattle.rcell.specs.declared.outcome.OutcomeWithSources.{OutcomeWithSources}
use Rattle.rcell.specs.declared.run_fault.RunFault.{RunFault}
use Rattle.rcell.specs.runs.Accepted.{AreGridsAndScriptAccepted}
use Rattle.rcell.specs.runs.Statuses.{exit_status_of_run}
use Rattle.rcell.proofs.runs.EndLemmas.{none_at_zero}
use Rattle.rcell_command.specs.CommandWords.{has_word_starting_with_hyphen}
use Rattle.rcell_command.specs.Processes.{StandardErrorLine, SourceGivesContentsOfFile, OpensFilesAtFirstPaths}
use Rattle.rcell_command.specs.Processes.{HasOnlyReportedError}
use Rattle.rcell_command.specs.Processes.{IsErrorLinePrinted, known_list_with_items}
use Rattle.rcell_command.specs.Reported.{ErrorPlaceValue, exit_status_of_error_place}
use Rattle.rcell_command.proofs.ProcessLemmas.{known_gives, nowhere, opened_none, opens_after, told_after, told_at}
use Rattle.rcell_program.specs.CommandLine.{WordsNameScriptAndGrids, place_of_first_bad_grid_word}
use Rattle.rcell_program.specs.CommandLine.{grid_name_in_argument}
use Rattle.rcell_program.specs.CommandLine.{grid_names_in_arguments}
use Rattle.rcell_program.specs.CommandLine.{grid_path_in_argument, grid_paths_in_arguments, words_are_usage_error}
use Rattle.rcell_program.specs.CommandLine.{refusal_of_words, script_path_in_arguments}
use Rattle.rcell_program.specs.Refusals.{IsRefusalOfOpeningFiles, grid_path_at_place, error_place_of_refusal}
use Rattle.rcell_program.specs.Refusals.{error_place_of_run}
use Rattle.rcell_program.specs.OpenedGrids.{SourcesHoldFileContents}
use Rattle.rcell_program.specs.Work.{AreContentsOfNamedFiles, IsEndOfWork, IsDoneOverFiles, IsProgramDoneWithoutError}
use Rattle.rcell_program.specs.Work.{IsReasonForNoRun, MayBeContentOfAnyFile}
use Rattle.rcell_program.specs.Work.{HasRun, IsWork, Rejected, ProgramEnd, error_place_of_work_end, run_of_work_end}
use Rattle.rcell_program.specs.declared.refusal.Refusal.{Refusal}
use Rattle.rcell_program.specs.declared.worked.FinishedWork.{FinishedWork}
use Rattle.rcell_program.specs.declared.refusal.Refusal.TheVariants.{Usage, GridWord, Memory, ScriptFile, GridFile}
use Rattle.rcell_program.proofs.WordLemmas.{or_true}
use Rattle.rcell_script.specs.declared.statement.Statement.{Statement}

-- the words after the program's own name, or no words if they are not known
abbrev pub given_of : Option (List Text) → List Text
given_of None = []
given_of (Some all) = drop 1 all

pub given_known : (all : Option (List Text)) → IfSome all (λ words. given_of all ≡ drop 1 words)
given_known None = tt
given_known (Some all) = refl

-- the errors that depend only on words
abbrev OfWords : Refusal → Type 0
OfWords Usage = Unit {0}
OfWords (GridWord place) = Unit {0}
OfWords Memory = ⊥
OfWords ScriptFile = ⊥
OfWords (GridFile grid) = ⊥

of_form : (misuse : Bool) (bad : Option ℕ) (refusal : Refusal) → (if misuse then Some Usage else option_map (λ place.
    GridWord place) bad) ≡ Some refusal → OfWords refusal
of_form true bad refusal is = let same : Usage ≡ refusal = cc in subst OfWords same tt
of_form false None refusal is = cc
of_form false (Some place) refusal is = let same : GridWord place ≡ refusal = cc in subst OfWords same tt

of_words : (words : List Text) (refusal : Refusal) → refusal_of_words words ≡ Some refusal → OfWords refusal
of_words words refusal is = of_form (words_are_usage_error words) (place_of_first_bad_grid_word 2
    (drop 1 words)) refusal is

-- the words could not be read
pub reason_unknown : (files : Text → Option ComingBytes) (all : Option (List Text)) (refusal : Refusal)
    → (refusal ≢ Memory
    → (refusal ≡ Usage) × (all ≡ None)) → IsReasonForNoRun files (given_of all) refusal
reason_unknown files all Usage reported = let p = reported (λ same. cc) in ap
    (λ known. refusal_of_words (given_of known)) p.1
reason_unknown files all (GridWord place) reported = let p = reported (λ same. cc) in let bad : GridWord place ≡ Usage
    = p.0 in cc
reason_unknown files all Memory reported = tt
reason_unknown files all ScriptFile reported = let p = reported (λ same. cc) in let bad : ScriptFile ≡ Usage = p.0 in cc
reason_unknown files all (GridFile grid) reported = let p = reported (λ same. cc) in let bad : GridFile grid ≡ Usage =
    p.0 in cc

pub place_unknown : (names : List Text) (all : Option (List Text)) (refusal : Refusal) → (refusal ≢ Memory → (refusal
    ≡ Usage) × (all ≡ None)) → ◌≡◌ {A = Option ErrorPlaceValue} (Some (error_place_of_refusal [] refusal))
    (Some (error_place_of_refusal
    names refusal))
place_unknown names all Usage reported = refl
place_unknown names all (GridWord place) reported = refl
place_unknown names all Memory reported = refl
place_unknown names all ScriptFile reported = refl
place_unknown names all (GridFile grid) reported = let p = reported (λ same. cc) in let bad : GridFile grid ≡ Usage =
    p.0 in cc

-- the words do not ask for a run
pub reason_words : (files : Text → Option ComingBytes) (words : List Text) (refusal : Refusal) → (refusal ≢ Memory →
    refusal_of_words words ≡ Some refusal) → IsReasonForNoRun files words refusal
reason_words files words Usage reported = reported (λ same. cc)
reason_words files words (GridWord place) reported = reported (λ same. cc)
reason_words files words Memory reported = tt
reason_words files words ScriptFile reported = absurd (of_words words ScriptFile (reported (λ same. cc)))
reason_words files words (GridFile grid) reported = absurd (of_words words (GridFile grid) (reported (λ same. cc)))

pub place_words : (names words : List Text) (refusal : Refusal)
    → (refusal ≢ Memory → refusal_of_words words ≡ Some refusal)
    → ◌≡◌ {A = Option ErrorPlaceValue} (Some (error_place_of_refusal [] refusal))
    (Some (error_place_of_refusal names refusal))
place_words names words Usage reported = refl
place_words names words (GridWord place) reported = refl
place_words names words Memory reported = refl
place_words names words ScriptFile reported = refl
place_words names words (GridFile grid) reported = absurd (of_words words (GridFile grid) (reported (λ same. cc)))

-- words that are accepted name a grid
names_grid : (words : List Text) → refusal_of_words words ≡ None → grid_paths_in_arguments words ≡ [] → ⊥
names_grid [] good none = let bad : Some Usage ≡ None = good in cc
names_grid (script ∷ []) good none =
    let misuse : words_are_usage_error (script ∷ []) ≡ true = or_true (has_word_starting_with_hyphen (script ∷ [])) in
    let bad : Some Usage ≡ None = ap (λ b. if b then Some Usage else option_map (λ place. GridWord place)
    (place_of_first_bad_grid_word 2
    [])) (sym misuse) ∙ good in
    cc
names_grid (script ∷ grid ∷ grids) good none = cc

-- a file could not be opened
pub reason_files : (files : Text → Option ComingBytes) (words : List Text) (script : Text) (names paths : List Text)
    (refusal : Refusal) → WordsNameScriptAndGrids words script names paths
    → refusal_of_words words ≡ None → IsRefusalOfOpeningFiles files script paths refusal
    → IsReasonForNoRun files words refusal
reason_files files words script names paths Usage asked good is = absurd (names_grid words good (sym asked.of_paths ∙
    is))
reason_files files words script names paths (GridWord place) asked good is = absurd is
reason_files files words script names paths Memory asked good is = tt
reason_files files words script names paths ScriptFile asked good is = ap files (sym asked.of_script) ∙ is
reason_files files words script names paths (GridFile grid) asked good is = subst (λ all. (grid < length all) × (files
    (grid_path_at_place all grid) ≡ None)) asked.of_paths is

-- the sources of the grids give the content of the known files
pub reports : {F : Type 0} (files : Text → Option ComingBytes) (coming : F
    → Option ComingBytes) (words : List Text) (grids :
    List (Text × F)) (named : List Named)
    → map (λ grid. grid.0) grids ≡ map grid_name_in_argument words → AllZip
    (λ path grid. SourceGivesContentsOfFile files coming path grid.1) (map
    grid_path_in_argument words) grids
    → AllZip (λ word n. (grid_name_in_argument word ≡ n.0) × (files (grid_path_in_argument word)
    ≡ Some n.1)) words named
    → SourcesHoldKnownContents coming
    grids named
reports files coming [] [] [] names gives are = tt
reports files coming [] [] (n ∷ named) names gives are = absurd are
reports files coming [] (grid ∷ grids) named names gives are = absurd gives
reports files coming (word ∷ words) [] named names gives are = absurd gives
reports files coming (word ∷ words) (grid ∷ grids) [] names gives are = absurd are
reports files coming (word ∷ words) (grid ∷ grids) (n ∷ named) names gives are =
    let first : grid.0 ≡ grid_name_in_argument word = cc in
    let others : map (λ grid. grid.0) grids ≡ map grid_name_in_argument words = cc in (
      (first ∙ are.0.0, known_gives (files (grid_path_in_argument word)) are.0.1 gives.0),
      reports files coming words grids named
          others gives.1 are.1,
    )

-- the sources of the grids are supposed to hold the content of their files
pub supposes : {F : Type 0} (file : Text → SupposedContent) (supposed : F
    → SupposedContent) (words : List Text) (grids : List (Text
    × F)) (named : List Named)
    → map (λ grid. grid.0) grids ≡ map grid_name_in_argument words
    → SourcesHoldFileContents file supposed (map grid_path_in_argument words) grids
    → AllZip (λ word n. (grid_name_in_argument word ≡ n.0) × (content_to_come (file (grid_path_in_argument word)) n.1
    ≡ Some n.1)) words named
    → SourcesHoldSupposedContents supposed (contents_of_named_sources named) grids named
supposes file supposed [] [] [] names files are = tt
supposes file supposed [] [] (n ∷ named) names files are = absurd are
supposes file supposed [] (grid ∷ grids) named names files are = absurd files
supposes file supposed (word ∷ words) [] named names files are = absurd files
supposes file supposed (word ∷ words) (grid ∷ grids) [] names files are = absurd are
supposes file supposed (word ∷ words) (grid ∷ grids) (n ∷ named) names files are =
    let first : grid.0 ≡ grid_name_in_argument word = cc in
    let others : map (λ grid. grid.0) grids ≡ map grid_name_in_argument words = cc in (
      (first ∙ are.0.0, ap (λ (s : SupposedContent). content_to_come s n.1) files.0 ∙ are.0.1),
      supposes file supposed words grids named others files.1 are.1,
    )

-- a known file is not missing
not_missing : (files : Text → Option ComingBytes) (words : List Text) (named : List Named) (grid : ℕ)
    → AllZip (λ word n. (grid_name_in_argument word ≡ n.0) × (files (grid_path_in_argument word)
    ≡ Some n.1)) words named
    → grid < length (map grid_path_in_argument words) → files
    (grid_path_at_place (map grid_path_in_argument words) grid) ≡ None → ⊥
not_missing files [] named grid are within missing = absurd (nowhere grid within)
not_missing files (word ∷ words) [] grid are within missing = absurd are
not_missing files (word ∷ words) (n ∷ named) zero are within missing = let bad : None ≡ Some n.1 = sym missing ∙
    are.0.1 in cc
not_missing files (word ∷ words) (n ∷ named) (suc grid) are within missing = not_missing files words named grid are.1
    (omega arith) missing

-- the status returned is the status of the run
status_same : (names : List Text) (fault : Option RunFault) (outcome : Outcome) → outcome.fault ≡ fault →
    outcome.status ≡ exit_status_of_run outcome.fault → exit_status_of_error_place (error_place_of_run names outcome)
    ≡ outcome.status
status_same names None outcome is status = ap exit_status_of_error_place (ap (option_map _) is)
    ∙ sym (status ∙ ap exit_status_of_run is)
status_same names (Some fault) outcome is status = ap exit_status_of_error_place (ap (option_map _) is)

no_place : (names : List Text) (outcome : Outcome) → outcome.fault ≡ None → error_place_of_run names outcome ≡ None
no_place names outcome is = ap (option_map _) is

same_given : {given words : List Text} (all : Option (List Text)) → all ≡ Some words → IfSome all (λ known. given ≡
    drop 1 known) → given ≡ drop 1 words
same_given None is known = cc
same_given (Some other) is known = known ∙ ap (drop 1) (same_Some other _ is)

pub all_paths : (words : List Text) (script : Text) (names paths : List Text)
    → WordsNameScriptAndGrids words script names paths →
    ◌≡◌ {A = List Text} (script ∷ paths) (script_path_in_arguments words ∷ grid_paths_in_arguments words)
all_paths words script names paths asked = ap (λ first. first ∷ paths) asked.of_script
    ∙ ap (λ others. script_path_in_arguments
    words ∷ others) asked.of_paths

done_by : {F P W : Type 0} (files : P → List ℕ → Option ComingBytes) (file : P → List ℕ
    → SupposedContent) (supposed : F → SupposedContent)
    (opened : P → Option (List (List ℕ))) (errors : P →
    Option (List StandardErrorLine)) (failed : P → Bool) (taken : W → Option (List ℕ)) (faults : W
    → SinkFaults) (old new : P)
    (out now : W) (given : List Text) (end : ProgramEnd F) (status : ℕ) (named : List Named) (text : ComingBytes)
    (shelf :
    ShelfValue) (statements : List Statement)
    → IsEndOfWork (files old) (file old) supposed given (opened old) (opened new) taken faults out now end
    → IsErrorLinePrinted errors failed old new
    (codes "rcell") (error_place_of_work_end (grid_names_in_arguments given) end) status
    → refusal_of_words given ≡ None → AreContentsOfNamedFiles (files old) given named text
    → AreGridsAndScriptAccepted named text shelf statements →
    status ≢ 3 → has_failed (faults now) ≡ false
    → IsProgramDoneWithoutError shelf statements (script_path_in_arguments given ∷ grid_paths_in_arguments given)
    (opened old) (opened new)
    (errors old)
    (errors new) (taken out) (taken now) status
done_by files file supposed opened errors failed taken faults old new out now given (Rejected Usage) status named text
    shelf
    statements ends told good are accepted memory well = let bad : Some Usage ≡ None = sym ends.reason ∙ good in cc
done_by files file supposed opened errors failed taken faults old new out now given (Rejected (GridWord place)) status
    named text
    shelf statements ends told good are accepted memory well = let bad : Some (GridWord place) ≡ None = sym
    ends.reason ∙ good in cc
done_by files file supposed opened errors failed taken faults old new out now given (Rejected Memory) status named text
    shelf
    statements ends told good are accepted memory well = absurd (memory told.status_is)
done_by files file supposed opened errors failed taken faults old new out now given (Rejected ScriptFile) status named
    text shelf
    statements ends told good are accepted memory well = let bad : None ≡ Some text = sym ends.reason ∙ are.script in cc
done_by files file supposed opened errors failed taken faults old new out now given (Rejected (GridFile grid)) status
    named text
    shelf statements ends told good are accepted memory well =
    absurd (not_missing (files old) (drop 1 given) named grid are.grids ends.reason.0 ends.reason.1)
done_by files file supposed opened errors failed taken faults old new out now given (HasRun ran) status named text shelf
    statements
    ends told good are accepted memory well =
    let same = told.status_is ∙ status_same (grid_names_in_arguments given) ran.outcome.fault ran.outcome refl
    ends.status in
    let all = (ends.over named text are).headline shelf statements accepted (λ three. memory (same ∙ three)) well in
    record {
      output = all.1.1.text;
      of_script = all.1.1.output;
      written = all.1.1.taken;
      opens = ends.opens;
      silent = told.silent (no_place (grid_names_in_arguments given) ran.outcome all.1.0);
      good = same ∙ all.0;
    }

-- an error before a run has a status other than 0
refusal_not_zero : {X : Type 0} (names : List Text) (refusal : Refusal)
    → exit_status_of_error_place (Some (error_place_of_refusal names refusal)) ≡
    0 → X
refusal_not_zero names Usage good = cc
refusal_not_zero names (GridWord place) good = cc
refusal_not_zero names Memory good = cc
refusal_not_zero names ScriptFile good = cc
refusal_not_zero names (GridFile grid) good = cc

-- contents that any file may have, under the names of the grids, are contents of the files that the words name
in_files : (file : Text → SupposedContent) (words : List Text) (named : List Named)
    → map (λ n. n.0) named ≡ map grid_name_in_argument words
    → All (λ n. MayBeContentOfAnyFile file n.1) named
    → AllZip (λ word n. (grid_name_in_argument word ≡ n.0) × (content_to_come (file (grid_path_in_argument word)) n.1
    ≡ Some n.1)) words named
in_files file [] [] names are = tt
in_files file [] (n ∷ named) names are = cc
in_files file (word ∷ words) [] names are = cc
in_files file (word ∷ words) (n ∷ named) names are =
    let first : grid_name_in_argument word ≡ n.0 = cc in
    let others : map (λ n. n.0) named ≡ map grid_name_in_argument words = cc in
    let head = All-head (λ (n : Named). MayBeContentOfAnyFile file n.1) n named are in
    let tail = All-tail (λ (n : Named). MayBeContentOfAnyFile file n.1) n named are in
    ((first, head (grid_path_in_argument word)), in_files file words named others tail)

-- at status 0, there was a run, and it wrote the output for all contents with which the reads agreed
over_files : {F P W : Type 0} (files : P → List ℕ → Option ComingBytes) (file : P → List ℕ
    → SupposedContent) (supposed : F →
    SupposedContent) (opened : P → Option (List (List ℕ))) (errors : P → Option (List StandardErrorLine)) (failed : P
    → Bool)
    (taken : W → Option (List ℕ)) (faults : W → SinkFaults) (old new : P) (out now : W) (worked : FinishedWork F)
    (given : List Text) (end : ProgramEnd F) → worked.ran ≡ run_of_work_end end
    → IfSome worked.ran (λ ran. worked.names.items ≡ grid_names_in_arguments given)
    → IsEndOfWork (files old) (file old) supposed given (opened old) (opened new) taken faults out now end
    → IsErrorLinePrinted errors failed old new (codes "rcell")
    (error_place_of_work_end (grid_names_in_arguments given) end) worked.status → worked.status ≡ 0
    → IsSomeAnd worked.ran (IsDoneOverFiles (file old) supposed worked.names.items (taken out) (taken now))
over_files files file supposed opened errors failed taken faults old new out now worked given (Rejected refusal) same
    names ends told good =
    refusal_not_zero (grid_names_in_arguments given) refusal (sym told.status_is ∙ good)
over_files {F} files file supposed opened errors failed taken faults old new out now worked given (HasRun ran) same
    names ends told good =
    let status = sym (status_same (grid_names_in_arguments given) ran.outcome.fault ran.outcome refl ends.status) ∙ sym
    told.status_is ∙ good in
    let read : worked.names.items ≡ grid_names_in_arguments given = subst
    (λ (all : Option (OutcomeWithSources F)). IfSome all
    (λ ran.
    worked.names.items ≡ grid_names_in_arguments given)) same names in
    rw same (record {
      done = λ named text are agreed.
          (ends.agreed named text (record {
            script = are.script (script_path_in_arguments given);
            grids = in_files (file old) (drop 1 given) named (are.named_so ∙ read) are.grids;
          }) agreed).done (none_at_zero ran.outcome.fault (sym ends.status ∙ status));
    })

module _ {F P W : Type 0} {words : P → Option (List (List ℕ))} {files : P → List ℕ → Option ComingBytes}
    {file : P → List ℕ → SupposedContent} {supposed : F → SupposedContent} {opened : P → Option
    (List (List ℕ))} {errors : P → Option (List StandardErrorLine)} {failed : P → Bool} {taken : W
    → Option (List ℕ)} {faults
    : W → SinkFaults} where
  -- no run was started because the words could not be read or do not ask for a run
  pub rejected : {old new : P} {out : W} (given : List Text) (refusal : Refusal) (worked : FinishedWork F)
      → IfSome (words old) (λ
      all. given ≡ drop 1 all) → worked.ran ≡ None → IsReasonForNoRun (files old) given refusal
      → ◌≡◌ {A = Option ErrorPlaceValue} (Some (error_place_of_refusal [] refusal))
      (Some (error_place_of_refusal (grid_names_in_arguments given) refusal))
      → HasOnlyReportedError opened errors failed old new (codes "rcell")
      (Some (error_place_of_refusal [] refusal)) worked.status
      → IsWork words files file supposed opened errors failed old new taken faults out out worked
  rejected {old} {new} given refusal worked known none reason place reported = record {
    given = given;
    known = known;
    end = Rejected refusal;
    ran = none;
    names = rw none tt;
    ends = record {
      reason = reason;
      count = 0;
      opens = opens_after (opened_none {files = files} old) reported;
      untouched = refl;
    };
    told = told_at place (told_after (opened_none {files = files} old) reported);
  }

  -- no run was started because a file could not be opened
  pub unopened : {old mid new : P} {out : W} (given : List Text) (script : Text) (names paths shown : List Text)
      (refusal : Refusal) (worked : FinishedWork F) → IfSome (words old) (λ all. given ≡ drop 1 all) → worked.ran ≡ None
      → WordsNameScriptAndGrids given script names paths → refusal_of_words given ≡ None
      → IsRefusalOfOpeningFiles (files old) script paths refusal →
      OpensFilesAtFirstPaths files opened errors failed old mid (script ∷ paths)
      → shown ≡ names → HasOnlyReportedError opened errors failed mid new (codes "rcell")
      (Some (error_place_of_refusal shown refusal))
      worked.status
      → IsWork words files file supposed opened errors failed old new taken faults out out worked
  unopened {old} {mid} {new} given script names paths shown refusal worked known none asked good reason some same
      reported
      = record {
        given = given;
        known = known;
        end = Rejected refusal;
        ran = none;
        names = rw none tt;
        ends = record {
          reason = reason_files (files old) given script names paths refusal asked good reason;
          count = some.count;
          opens = opens_after some.opens reported ∙ ap (λ all. known_list_with_items (opened old) (take some.count all)) (all_paths given
              script names paths asked);
          untouched = refl;
        };
        told = told_at (ap (λ all. Some (error_place_of_refusal all refusal)) (same ∙ asked.of_names))
            (told_after some.opens
            reported);
      }

  -- the outcome for words and files that are known
  pub headline_of : {old new : P} {out now : W} {worked : FinishedWork F}
      → IsWork words files file supposed opened errors
      failed old new taken
      faults out now worked
      → (all : List Text) (named : List Named) (text : ComingBytes) (shelf : ShelfValue) (statements : List Statement)
      → words old ≡ Some all → refusal_of_words (drop 1 all) ≡ None
      → AreContentsOfNamedFiles (files old) (drop 1 all) named text →
      AreGridsAndScriptAccepted named text shelf statements → worked.status ≢ 3 → has_failed (faults now) ≡ false
      → IsProgramDoneWithoutError shelf statements (script_path_in_arguments (drop 1 all)
      ∷ grid_paths_in_arguments (drop 1 all)) (opened old)
      (opened new)
      (errors old) (errors new) (taken out) (taken now) worked.status
  headline_of {old} {new} {out} {now} {worked} is all named text shelf statements known good are accepted memory well =
      let same : is.given ≡ drop 1 all = same_given (words old) known is.known in
      subst (λ given. refusal_of_words given ≡ None → AreContentsOfNamedFiles (files old) given named text
      → IsProgramDoneWithoutError shelf statements (script_path_in_arguments given ∷ grid_paths_in_arguments given)
      (opened old) (opened new)
      (errors old)
      (errors new) (taken out) (taken now) worked.status)
      same
      (λ good are. done_by files file supposed opened errors failed taken faults old new out now is.given is.end
      worked.status named text
      shelf statements is.ends is.told good are accepted memory well)
      good are

  -- at status 0, the output for all contents with which the reads agreed was written
  pub done_over_files : {old new : P} {out now : W} {worked : FinishedWork F}
      → IsWork words files file supposed opened errors failed old new taken
      faults out now worked
      → worked.status ≡ 0
      → IsSomeAnd worked.ran (IsDoneOverFiles (file old) supposed worked.names.items (taken out) (taken now))
  done_over_files {old} {new} {out} {now} {worked} is good =
      over_files files file supposed opened errors failed taken faults old new out now worked is.given is.end is.ran
      is.names is.ends is.told good
