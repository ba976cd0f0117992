-- The output is written if memory suffices and the sink accepts everything.
use Rattle.std.proofs.Common.{◌≡◌, ◌≢◌, ℕ, Bool, true, List, Option, Some, None, Result, Ok, Err, refl, ap, sym, ◌∙◌, subst}
use Rattle.std.specs.Prelude.{IsNone, IfSome}
use Rattle.std.proofs.lemmas.Bool.{true≢false}
use Rattle.cell_core_devices.specs.Device.{ComingBytes}
use Rattle.cell_core.specs.Shelf.{ShelfValue}
use Rattle.rcell_script.specs.declared.statement.Statement.{Statement}
use Rattle.rcell.specs.RunFaults.{IsInputFault, IsFaultBeforeExecution, IsFaultInExecution}
use Rattle.rcell.specs.runs.Statuses.{exit_status_of_grid_kind, exit_status_of_script_kind, exit_status_of_run_fault}
use Rattle.rcell.specs.runs.Statuses.{exit_status_of_run}
use Rattle.rcell.specs.Loading.{shelf_of_grids}
use Rattle.rcell.specs.runs.Endings.{ScriptDenotesStatements, AreGridsAndScriptRead}
use Rattle.rcell.specs.runs.Outcomes.{IsFullOutputWritten, WritesOutputUnlessStopped}
use Rattle.rcell.specs.Sources.{Named}
use Rattle.rcell.specs.declared.outcome.Outcome.{Outcome}
use Rattle.rcell.specs.declared.run_fault.RunFault.{RunFault}
use Rattle.rcell.specs.declared.run_fault.RunFault.TheVariants.{GridTwice, GridRegion, Grid, ScriptRead, ScriptSize, Script, Memory, Write}

-- an error before execution with a status other than 3 is an error of the input
pub input_unless_memory : (f : RunFault) → IsFaultBeforeExecution f → exit_status_of_run_fault f ≢ 3 → IsInputFault f
input_unless_memory (GridTwice grid) early bad = tt
input_unless_memory (GridRegion grid) early bad = tt
input_unless_memory (Grid grid fault) early bad = λ e. bad (ap exit_status_of_grid_kind e)
input_unless_memory ScriptRead early bad = tt
input_unless_memory ScriptSize early bad = tt
input_unless_memory (Script fault) early bad = λ e. bad (ap exit_status_of_script_kind e)
input_unless_memory (Memory line) early bad = absurd (bad refl)
input_unless_memory Write early bad = absurd early

-- the output of an execution is written if memory suffices and the sink accepts everything
written : (shelf : ShelfValue) (statements : List Statement) (before now : Option (List ℕ)) (failed : Bool) (outcome : Outcome)
    → (IsNone outcome.fault → IsFullOutputWritten shelf statements before now outcome.written) → IfSome outcome.fault IsFaultInExecution → outcome.status ≡ exit_status_of_run outcome.fault
    → (outcome.fault ≡ Some Write → failed ≡ true) → WritesOutputUnlessStopped shelf statements before now failed
    outcome
written shelf statements before now failed outcome done late status write = by outcome.fault refl
  where
    by : (f : Option RunFault) → outcome.fault ≡ f → WritesOutputUnlessStopped shelf statements before now failed
        outcome
    by None e = λ memory good. (rw e at status, (e, done (rw e refl)))
    by (Some (Memory line)) e = λ memory good. absurd (memory (rw e at status))
    by (Some Write) e = λ memory good. absurd (true≢false (sym (write e) ∙ good))
    by (Some (GridTwice grid)) e = absurd (let bad : IfSome (Some
        (GridTwice grid)) IsFaultInExecution = rw e at late in bad)
    by (Some (GridRegion grid)) e = absurd (let bad : IfSome (Some (GridRegion grid)) IsFaultInExecution = rw e at late in bad)
    by (Some (Grid grid fault)) e = absurd (let bad : IfSome (Some (Grid grid fault)) IsFaultInExecution = rw e at late in bad)
    by (Some ScriptRead) e = absurd (let bad : IfSome (Some ScriptRead) IsFaultInExecution = rw e at late in bad)
    by (Some ScriptSize) e = absurd (let bad : IfSome (Some ScriptSize) IsFaultInExecution = rw e at late in bad)
    by (Some (Script fault)) e = absurd (let bad : IfSome (Some
        (Script fault)) IsFaultInExecution = rw e at late in bad)

abbrev loaded_or : ShelfValue → Result (Option ShelfValue) RunFault → ShelfValue
loaded_or other (Ok (Some shelf)) = shelf
loaded_or other (Ok None) = other
loaded_or other (Err fault) = other

module _ (grids : List Named) (script : ComingBytes) (loaded : ShelfValue) (is_loaded : shelf_of_grids grids ≡ Ok (Some loaded)) (shelf : ShelfValue) (statements : List Statement) (read : AreGridsAndScriptRead grids script shelf statements)
    (before now : Option (List ℕ)) (failed : Bool) (outcome : Outcome) where
  one_shelf : loaded ≡ shelf
  one_shelf = ap (loaded_or loaded) (sym is_loaded ∙ read.loaded)

  reads : ScriptDenotesStatements loaded.names script statements
  reads = subst (λ (s : ShelfValue). ScriptDenotesStatements s.names script statements) (sym one_shelf) read.reads

  -- a script that is read is executed
  pub read_written : (found : List Statement) → ((ss : List Statement) → ScriptDenotesStatements loaded.names script ss → found ≡ ss) → (IsNone outcome.fault → IsFullOutputWritten loaded found before now outcome.written)
      → IfSome outcome.fault IsFaultInExecution → outcome.status ≡ exit_status_of_run outcome.fault → (outcome.fault ≡ Some Write → failed ≡ true) → WritesOutputUnlessStopped shelf statements before now failed outcome
  read_written found only done late status write =
      subst (λ (s : ShelfValue). WritesOutputUnlessStopped s statements before now failed outcome) one_shelf
      (subst (λ (ss : List Statement). WritesOutputUnlessStopped loaded ss before now failed outcome) (only statements reads) (written loaded found before now failed outcome done late status write))

  -- a script that can be read is rejected only if memory runs out
  pub read_refused : (f : RunFault) → outcome.fault ≡ Some f → outcome.status ≡ exit_status_of_run_fault f → IsFaultBeforeExecution f → ((ss : List Statement) → ScriptDenotesStatements loaded.names script ss → IsInputFault f → ⊥) → WritesOutputUnlessStopped shelf statements before now failed outcome
  read_refused f is status early none = λ memory good.
      absurd (none statements reads (input_unless_memory f early (λ three. memory (status ∙ three))))
