use Rattle.std.proofs.Common.{◌∙◌, ◌+◌, [], append-nil, refl, ap, sym}
use Rattle.rcell_script.specs.KnownMaps.{known_names_after_command}
use Rattle.cell_core_devices.specs.Blocks.{OutputBlockValue}
use Rattle.cell_core_devices.proofs.BlockLemmas.{appends_then}
use Rattle.rcell.specs.Output.{command_output_text}
use Rattle.rcell.proofs.runs.ExecutionLemmas.{executed_more, executed_within, before_at, fits_more}
use Rattle.rcell.proofs.OutputLemmas.{names_after}
use Rattle.rcell.proofs.execution.execute.Goals as goal

pub loop-statement-init : goal.loop-statement-init
loop-statement-init g c = record {
  executed = record { text = []; executed = (refl, refl); appended = c.new-block.ensures.nothing _ _ };
  fits = c.requires;
  good = ap (λ (b : OutputBlockValue). b.failed) c.new-block.ensures.value;
  held = ap (λ (b : OutputBlockValue). b.held) c.new-block.ensures.value;
}

pub execute_command-requires : goal.execute_command-requires
execute_command-requires g c =
    let known = c.loop-statement.shelf.names in
    let s = c.statement-item.result in
    (fits_more c.args.statements.now c.loop-statement.statement-index s c.loop-statement-test.true c.statement-item.is known (known_names_after_command known s.command) c.loop-statement.invariant.fits refl).0

pub loop-statement-preserved : goal.loop-statement-preserved
loop-statement-preserved g c =
    let statements = c.args.statements.now in
    let i = c.loop-statement.statement-index in
    let s = c.statement-item.result in
    let test = c.loop-statement-test.true in
    let read = c.statement-item.is in
    let inv = c.loop-statement.invariant in
    let both = appends_then c.in-Ok.ensures.ok c.empty.ensures.appends in
    let good = sym c.has_failed.ensures ∙ c.if-has_failed.false in
    record {
      executed = executed_more statements i s test read inv.executed refl refl c.in-Ok.ensures.after (rw (append-nil (command_output_text c.loop-statement.shelf s.command)) at both);
      fits = (fits_more statements i s test read c.loop-statement.shelf.names c.execute_command.new.shelf.names inv.fits (names_after c.loop-statement.shelf s.command c.execute_command.new.shelf c.in-Ok.ensures.after)).1;
      good = good;
      held = c.empty.ensures.held good;
    }

pub returns-in-Err-clause-err : goal.returns-in-Err-clause-err
returns-in-Err-clause-err g c =
    let inv = c.loop-statement.invariant in
    rw (c.stopped_out_of_memory.ensures, c.written.ensures, c.in-Err.ensures.err.0, c.in-Err.ensures.err.1)
    (before_at c.args.statements.now c.loop-statement.statement-index c.statement-item.result c.loop-statement-test.true c.statement-item.is inv.executed inv.good inv.held)

pub returns-then-has_failed-clause-err : goal.returns-then-has_failed-clause-err
returns-then-has_failed-clause-err g c =
    let statements = c.args.statements.now in
    let i = c.loop-statement.statement-index in
    let s = c.statement-item.result in
    let both = appends_then c.in-Ok.ensures.ok c.empty.ensures.appends in
    let executed = executed_more statements i s c.loop-statement-test.true c.statement-item.is c.loop-statement.invariant.executed refl refl c.in-Ok.ensures.after (rw (append-nil (command_output_text c.loop-statement.shelf s.command)) at both) in
    rw (c.stopped_by_failed_write.ensures, c.written-then-has_failed.ensures) (executed_within _ _ statements (i + 1) _ _ _ _ _ executed)

pub returns-then-has_failed-clause-faults : goal.returns-then-has_failed-clause-faults
returns-then-has_failed-clause-faults g c =
    let both = appends_then c.in-Ok.ensures.ok c.empty.ensures.appends in
    let appended = both.adds _ _ _ c.loop-statement.invariant.executed.appended in
    rw c.stopped_by_failed_write.ensures (rw (sym c.has_failed.ensures ∙ c.if-has_failed.true) at appended.fails)
