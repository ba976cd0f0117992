use Rattle.std.proofs.Common.{◌≡◌, ◌≢◌, ◌<◌, ℕ, Option, Some, None, Result, Ok, Err, length, refl, sym, ◌∙◌, arith}
use Rattle.std.specs.Prelude.{IfSome, IsNone}
use Rattle.rcell.specs.RunFaults.{IsFaultBeforeExecution, IsFaultInExecution, IsInputFault, FaultNamesOneOfGrids}
use Rattle.rcell.specs.declared.run_fault.RunFault.{RunFault}
use Rattle.rcell.specs.declared.run_fault.RunFault.TheVariants.{GridTwice, GridRegion, Grid, ScriptRead, ScriptSize, Script, Memory, Write}
use Rattle.rcell.specs.runs.Statuses.{exit_status_of_run}
use Rattle.cell_core_devices.specs.Device.{has_failed}
use Rattle.cell_core_devices.specs.declared.source.Asked.{Asked}
use Rattle.cell_core_devices.specs.declared.source.Asked.TheVariants.{Going, Again}
use Rattle.rcell.specs.parts.StatementsRead.{ScriptDenotesOnlyStatements, ScriptIsRejectedWithFault}
use Rattle.rcell.proofs.LoadingLemmas.{at_supposed}
use Rattle.rcell.proofs.runs.EndLemmas.{not_none, not_zero, sound, write}
use Rattle.rcell.proofs.runs.AcceptedLemmas.{when_accepted}
use Rattle.rcell.proofs.runs.WrittenLemmas.{input_unless_memory, read_written, read_refused}
use Rattle.rcell.proofs.running.run.Goals as goal

weaker : (fault : Option RunFault) (P Q : RunFault → Type 0) → ((f : RunFault) → P f → Q f) → IfSome fault P → IfSome fault Q
weaker None P Q implied is = tt
weaker (Some fault) P Q implied is = implied fault is

apart : {X S : Type 0} {r : Result S RunFault} {x : S} {fault : RunFault} → r ≡ Err fault → r ≡ Ok x → X
apart refused read = cc

above : (line : ℕ) → line ≡ 0 → 0 < line → ⊥
above line zero some = omega arith

-- no error is both before and in execution
not_both : {X : Type 0} (fault : RunFault) → IsFaultBeforeExecution fault → IsFaultInExecution fault → X
not_both (GridTwice grid) early late = absurd late
not_both (GridRegion grid) early late = absurd late
not_both (Grid grid fault) early late = absurd late
not_both ScriptRead early late = absurd late
not_both ScriptSize early late = absurd late
not_both (Script fault) early late = absurd late
not_both (Memory line) early late = absurd (above line early late)
not_both Write early late = absurd early

not_write : {X : Type 0} (fault : RunFault) → IsFaultBeforeExecution fault → Some fault ≡ Some Write → X
not_write Write early is = absurd early
not_write fault early is = cc

-- no error in execution is an error of the input
not_input : {X : Type 0} (fault : RunFault) → IsFaultInExecution fault → IsInputFault fault → X
not_input (GridTwice grid) late input = absurd late
not_input (GridRegion grid) late input = absurd late
not_input (Grid grid fault) late input = absurd late
not_input ScriptRead late input = absurd late
not_input ScriptSize late input = absurd late
not_input (Script fault) late input = absurd late
not_input (Memory line) late input = absurd input
not_input Write late input = absurd input

late_reported : (grids : ℕ) (fault : RunFault) → IsFaultInExecution fault → FaultNamesOneOfGrids grids fault
late_reported grids (GridTwice grid) late = absurd late
late_reported grids (GridRegion grid) late = absurd late
late_reported grids (Grid grid fault) late = absurd late
late_reported grids ScriptRead late = absurd late
late_reported grids ScriptSize late = absurd late
late_reported grids (Script fault) late = absurd late
late_reported grids (Memory line) late = tt
late_reported grids Write late = tt

-- a property of runs without an error holds at status 0
when_zero : {status : ℕ} {P : Type 0} (fault : Option RunFault) → status ≡ exit_status_of_run fault → (IsNone fault → P) → status ≡ 0 → P
when_zero None is sound zero = sound refl
when_zero (Some fault) is sound zero = not_zero fault (sym is ∙ zero)

-- a source that was not read was not read again after its end
unread : {asked : Asked} → asked ≡ Going → asked ≢ Again
unread going = λ again. let same : Going ≡ Again = sym going ∙ again in cc

pub returns-in-Err-read_statements-clause-untouched : goal.returns-in-Err-read_statements-clause-untouched
returns-in-Err-read_statements-clause-untouched g c =
    rw c.rejected_run_with_sources-in-Err-read_statements.ensures (λ early. (refl, refl))

pub returns-in-Ok-read_statements-clause-untouched : goal.returns-in-Ok-read_statements-clause-untouched
returns-in-Ok-read_statements-clause-untouched g c =
    weaker c.execute_and_flush.result.fault _ _ (λ fault late early. not_both fault early late)
    c.execute_and_flush.ensures.late

pub returns-in-Err-clause-done : goal.returns-in-Err-clause-done
returns-in-Err-clause-done g c = rw c.rejected_run_with_sources.ensures
    (λ named text hs h suppose starts agree agrees none. not_none
    none)

pub returns-in-Err-clause-refused : goal.returns-in-Err-clause-refused
returns-in-Err-clause-refused g c = rw c.rejected_run_with_sources.ensures
    (λ named text hs h suppose starts agree agrees input.
    rw ((rw c.in-Err.is at c.load_grids-shelf.ensures.answer named hs suppose agree) input) refl)

pub returns-in-Err-clause-stopped : goal.returns-in-Err-clause-stopped
returns-in-Err-clause-stopped g c = rw c.rejected_run_with_sources.ensures
    (λ named text hs h suppose starts agree agrees late.
    not_both c.in-Err.fault (rw c.in-Err.is at c.load_grids-shelf.ensures.early) late)

pub returns-in-Err-clause-status : goal.returns-in-Err-clause-status
returns-in-Err-clause-status g c = rw c.rejected_run_with_sources.ensures refl

pub returns-in-Err-clause-reported : goal.returns-in-Err-clause-reported
returns-in-Err-clause-reported g c = rw c.rejected_run_with_sources.ensures
    (rw c.in-Err.is at c.load_grids-shelf.ensures.reported)

pub returns-in-Err-clause-sound : goal.returns-in-Err-clause-sound
returns-in-Err-clause-sound g c = rw c.rejected_run_with_sources.ensures (λ zero. not_zero c.in-Err.fault zero)

pub returns-in-Err-clause-write : goal.returns-in-Err-clause-write
returns-in-Err-clause-write g c =
    rw c.rejected_run_with_sources.ensures (λ write. not_write c.in-Err.fault
    (rw c.in-Err.is at c.load_grids-shelf.ensures.early) write)

pub returns-in-Err-clause-complete : goal.returns-in-Err-clause-complete
returns-in-Err-clause-complete g c =
    rw c.rejected_run_with_sources.ensures (λ named text hs h suppose starts agree agrees shelf statements read lasts whole. apart
    ((rw c.in-Err.is at c.load_grids-shelf.ensures.answer named hs suppose agree)
    (input_unless_memory c.in-Err.fault (rw c.in-Err.is at c.load_grids-shelf.ensures.early) lasts)) read.loaded)

pub returns-in-Err-clause-headline : goal.returns-in-Err-clause-headline
returns-in-Err-clause-headline g c =
    λ named text hs h suppose starts agree agrees shelf statements ok.
    when_accepted named text shelf statements _ _ _ c.rejected_run_with_sources.result.outcome
    (λ read. returns-in-Err-clause-complete g c named text hs h suppose starts agree agrees shelf statements read) ok

pub returns-in-Ok-read_statements-clause-complete : goal.returns-in-Ok-read_statements-clause-complete
returns-in-Ok-read_statements-clause-complete g c =
    λ named text hs h suppose starts agree agrees shelf statements read.
    read_written named text c.in-Ok.shelf (rw c.in-Ok.is at c.load_grids-shelf.ensures.answer named hs suppose agree)
    shelf
    statements read
    (g.W.Sink.taken c.args.out.now) (g.W.Sink.taken c.execute_and_flush.new.out) (has_failed (g.W.Sink.faults c.execute_and_flush.new.out)) c.execute_and_flush.result
    c.in-Ok-read_statements.statements (at_supposed _ text (λ text. ScriptDenotesOnlyStatements c.in-Ok.shelf.names text
    c.in-Ok-read_statements.statements) starts (c.in-Ok-read_statements.ensures.read h agrees)).only
    c.execute_and_flush.ensures.done c.execute_and_flush.ensures.late c.execute_and_flush.ensures.status
    (write c.execute_and_flush.result.fault _ _ c.execute_and_flush.ensures.first)

pub returns-in-Ok-read_statements-clause-headline : goal.returns-in-Ok-read_statements-clause-headline
returns-in-Ok-read_statements-clause-headline g c =
    λ named text hs h suppose starts agree agrees shelf statements ok.
    when_accepted named text shelf statements (g.W.Sink.taken c.args.out.now) (g.W.Sink.taken c.execute_and_flush.new.out) (has_failed (g.W.Sink.faults c.execute_and_flush.new.out)) c.execute_and_flush.result
    (λ read. returns-in-Ok-read_statements-clause-complete g c named text hs h suppose starts agree agrees shelf
    statements read) ok

pub returns-in-Err-read_statements-clause-reported : goal.returns-in-Err-read_statements-clause-reported
returns-in-Err-read_statements-clause-reported g c = rw c.rejected_run_with_sources-in-Err-read_statements.ensures
    (c.in-Err-read_statements.ensures.whose.reported (length c.args.grids.items))

pub returns-in-Err-read_statements-clause-complete : goal.returns-in-Err-read_statements-clause-complete
returns-in-Err-read_statements-clause-complete g c =
    λ named text hs h suppose starts agree agrees shelf statements read.
    read_refused named text c.in-Ok.shelf ((rw c.in-Ok.is at c.load_grids-shelf.ensures.answer named hs suppose
    (rw c.rejected_run_with_sources-in-Err-read_statements.ensures at agree))) shelf statements read
    (g.W.Sink.taken c.args.out.now) (g.W.Sink.taken c.args.out.now) (has_failed (g.W.Sink.faults c.args.out.now))
    c.rejected_run_with_sources-in-Err-read_statements.result.outcome
    c.in-Err-read_statements.fault (rw c.rejected_run_with_sources-in-Err-read_statements.ensures refl)
    (rw c.rejected_run_with_sources-in-Err-read_statements.ensures refl) c.in-Err-read_statements.ensures.whose.early
    (λ ss reads input. (at_supposed _ text (λ text. IsInputFault c.in-Err-read_statements.fault
    → ScriptIsRejectedWithFault c.in-Ok.shelf.names text c.in-Err-read_statements.fault) starts
    (c.in-Err-read_statements.ensures.fault h (rw c.rejected_run_with_sources-in-Err-read_statements.ensures at agrees))
    input).none ss reads)

pub returns-in-Err-read_statements-clause-headline : goal.returns-in-Err-read_statements-clause-headline
returns-in-Err-read_statements-clause-headline g c =
    λ named text hs h suppose starts agree agrees shelf statements ok.
    when_accepted named text shelf statements (g.W.Sink.taken c.args.out.now) (g.W.Sink.taken c.args.out.now)
    (has_failed (g.W.Sink.faults c.args.out.now)) c.rejected_run_with_sources-in-Err-read_statements.result.outcome
    (λ read. returns-in-Err-read_statements-clause-complete g c named text hs h suppose starts agree agrees shelf
    statements read) ok

pub returns-in-Ok-read_statements-clause-done : goal.returns-in-Ok-read_statements-clause-done
returns-in-Ok-read_statements-clause-done g c = λ named text hs h suppose starts agree agrees none. record {
  shelf = c.in-Ok.shelf;
  statements = c.in-Ok-read_statements.statements;
  read = record {
    loaded = rw c.in-Ok.is at c.load_grids-shelf.ensures.answer named hs suppose agree;
    reads =
        (at_supposed _ text (λ text. ScriptDenotesOnlyStatements c.in-Ok.shelf.names text
        c.in-Ok-read_statements.statements) starts
        (c.in-Ok-read_statements.ensures.read h agrees)).reads;
  };
  done = c.execute_and_flush.ensures.done none;
}

pub returns-in-Ok-read_statements-clause-refused : goal.returns-in-Ok-read_statements-clause-refused
returns-in-Ok-read_statements-clause-refused g c = λ named text hs h suppose starts agree agrees.
    weaker c.execute_and_flush.result.fault _ _ (λ fault late input. not_input fault late input)
    c.execute_and_flush.ensures.late

pub returns-in-Ok-read_statements-clause-stopped : goal.returns-in-Ok-read_statements-clause-stopped
returns-in-Ok-read_statements-clause-stopped g c = λ named text hs h suppose starts agree agrees.
    weaker c.execute_and_flush.result.fault _ _ (λ fault stops late. record {
      shelf = c.in-Ok.shelf;
      statements = c.in-Ok-read_statements.statements;
      read = record {
        loaded = rw c.in-Ok.is at c.load_grids-shelf.ensures.answer named hs suppose agree;
        reads =
            (at_supposed _ text (λ text. ScriptDenotesOnlyStatements c.in-Ok.shelf.names text
            c.in-Ok-read_statements.statements) starts
            (c.in-Ok-read_statements.ensures.read h agrees)).reads;
      };
      stops = stops;
    }) c.execute_and_flush.ensures.stops

pub returns-in-Ok-read_statements-clause-status : goal.returns-in-Ok-read_statements-clause-status
returns-in-Ok-read_statements-clause-status g c = c.execute_and_flush.ensures.status

pub returns-in-Ok-read_statements-clause-reported : goal.returns-in-Ok-read_statements-clause-reported
returns-in-Ok-read_statements-clause-reported g c = weaker c.execute_and_flush.result.fault _ _ (late_reported (length c.args.grids.items)) c.execute_and_flush.ensures.late

pub returns-in-Ok-read_statements-clause-sound : goal.returns-in-Ok-read_statements-clause-sound
returns-in-Ok-read_statements-clause-sound g c =
    when_zero c.execute_and_flush.result.fault c.execute_and_flush.ensures.status
    (sound c.execute_and_flush.result.fault _ _ c.execute_and_flush.ensures.first)

pub returns-in-Ok-read_statements-clause-write : goal.returns-in-Ok-read_statements-clause-write
returns-in-Ok-read_statements-clause-write g c = write c.execute_and_flush.result.fault _ _
    c.execute_and_flush.ensures.first

pub returns-in-Err-read_statements-clause-done : goal.returns-in-Err-read_statements-clause-done
returns-in-Err-read_statements-clause-done g c = rw c.rejected_run_with_sources-in-Err-read_statements.ensures
    (λ named text hs h suppose starts agree agrees none. not_none none)

pub returns-in-Err-read_statements-clause-refused : goal.returns-in-Err-read_statements-clause-refused
returns-in-Err-read_statements-clause-refused g c =
    rw c.rejected_run_with_sources-in-Err-read_statements.ensures
    (λ named text hs h suppose starts agree agrees input. rw (rw c.in-Ok.is at c.load_grids-shelf.ensures.answer named
    hs
    suppose agree) (at_supposed _ text (λ text. IsInputFault c.in-Err-read_statements.fault
    → ScriptIsRejectedWithFault c.in-Ok.shelf.names text c.in-Err-read_statements.fault) starts
    (c.in-Err-read_statements.ensures.fault h agrees) input).refusal)

pub returns-in-Err-read_statements-clause-stopped : goal.returns-in-Err-read_statements-clause-stopped
returns-in-Err-read_statements-clause-stopped g c =
    rw c.rejected_run_with_sources-in-Err-read_statements.ensures
    (λ named text hs h suppose starts agree agrees late. not_both c.in-Err-read_statements.fault
    c.in-Err-read_statements.ensures.whose.early late)

pub returns-in-Err-read_statements-clause-status : goal.returns-in-Err-read_statements-clause-status
returns-in-Err-read_statements-clause-status g c = rw c.rejected_run_with_sources-in-Err-read_statements.ensures refl

pub returns-in-Err-read_statements-clause-sound : goal.returns-in-Err-read_statements-clause-sound
returns-in-Err-read_statements-clause-sound g c =
    rw c.rejected_run_with_sources-in-Err-read_statements.ensures (λ zero. not_zero c.in-Err-read_statements.fault zero)

pub returns-in-Err-read_statements-clause-write : goal.returns-in-Err-read_statements-clause-write
returns-in-Err-read_statements-clause-write g c =
    rw c.rejected_run_with_sources-in-Err-read_statements.ensures (λ write. not_write c.in-Err-read_statements.fault
    c.in-Err-read_statements.ensures.whose.early write)

pub returns-in-Err-clause-whole : goal.returns-in-Err-clause-whole
returns-in-Err-clause-whole g c = rw c.rejected_run_with_sources.ensures
    (λ named text hs h suppose starts agree agrees write clean.
    not_write c.in-Err.fault (rw c.in-Err.is at c.load_grids-shelf.ensures.early) write)

pub returns-in-Err-clause-first : goal.returns-in-Err-clause-first
returns-in-Err-clause-first g c = rw c.rejected_run_with_sources.ensures (λ late. not_both c.in-Err.fault
    (rw c.in-Err.is at c.load_grids-shelf.ensures.early) late)

pub returns-in-Ok-read_statements-clause-whole : goal.returns-in-Ok-read_statements-clause-whole
returns-in-Ok-read_statements-clause-whole g c = λ named text hs h suppose starts agree agrees write clean. record {
  shelf = c.in-Ok.shelf;
  statements = c.in-Ok-read_statements.statements;
  read = record {
    loaded = rw c.in-Ok.is at c.load_grids-shelf.ensures.answer named hs suppose agree;
    reads =
        (at_supposed _ text (λ text. ScriptDenotesOnlyStatements c.in-Ok.shelf.names text
        c.in-Ok-read_statements.statements) starts
        (c.in-Ok-read_statements.ensures.read h agrees)).reads;
  };
  done = c.execute_and_flush.ensures.whole write clean;
}

pub returns-in-Ok-read_statements-clause-first : goal.returns-in-Ok-read_statements-clause-first
returns-in-Ok-read_statements-clause-first g c = λ late. c.execute_and_flush.ensures.first

pub returns-in-Err-read_statements-clause-whole : goal.returns-in-Err-read_statements-clause-whole
returns-in-Err-read_statements-clause-whole g c =
    rw c.rejected_run_with_sources-in-Err-read_statements.ensures
    (λ named text hs h suppose starts agree agrees write clean. not_write c.in-Err-read_statements.fault
    c.in-Err-read_statements.ensures.whose.early write)

pub returns-in-Err-read_statements-clause-first : goal.returns-in-Err-read_statements-clause-first
returns-in-Err-read_statements-clause-first g c =
    rw c.rejected_run_with_sources-in-Err-read_statements.ensures
    (λ late. not_both c.in-Err-read_statements.fault c.in-Err-read_statements.ensures.whose.early late)

pub returns-in-Err-clause-asked : goal.returns-in-Err-clause-asked
returns-in-Err-clause-asked g c = rw c.rejected_run_with_sources.ensures (λ fresh going.
    (c.load_grids-shelf.ensures.asked fresh, unread going))

pub returns-in-Ok-read_statements-clause-asked : goal.returns-in-Ok-read_statements-clause-asked
returns-in-Ok-read_statements-clause-asked g c = λ fresh going. (
  c.load_grids-shelf.ensures.asked fresh,
  c.in-Ok-read_statements.ensures.asked going,
)

pub returns-in-Err-read_statements-clause-asked : goal.returns-in-Err-read_statements-clause-asked
returns-in-Err-read_statements-clause-asked g c =
    rw c.rejected_run_with_sources-in-Err-read_statements.ensures (λ fresh going. (
      c.load_grids-shelf.ensures.asked fresh,
      c.in-Err-read_statements.ensures.asked going,
    ))
