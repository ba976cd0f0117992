use Rattle.std.proofs.Common.{◌∙◌, ◌+◌, append-nil, refl, sym}
use Rattle.cell_core_devices.proofs.BlockLemmas.{appends_then}
use Rattle.rcell_script.specs.KnownMaps.{known_names_after_command}
use Rattle.rcell.proofs.runs.ExecutionLemmas.{fits_more}
use Rattle.rcell_tile.specs.TileRuns.{inner_shelf}
use Rattle.rcell_pipe_frames.specs.Frames.{command_frames}
use Rattle.rcell_pipe_frames.specs.FrameBytes.{frames_bytes}
use Rattle.rcell_pipe_response.proofs.ExecutionLemmas.{outer_names_after, given_none, given_more, given_before}
use Rattle.rcell_pipe_response.proofs.ExecutionLemmas.{given_within}
use Rattle.rcell_pipe_response.proofs.frame_execution.execute_statements_into_frames.Goals as goal

pub loop-statement-init : goal.loop-statement-init
loop-statement-init g c = record { given = given_none _ _ _; fits = c.requires }

pub execute_statement-requires : goal.execute_statement-requires
execute_statement-requires g c =
    let known = c.loop-statement.shelves.outer.names in
    let s = c.statement-item.result in
    (fits_more c.args.statements.now c.loop-statement.statement-index s c.loop-statement-test.true c.statement-item.is known (known_names_after_command known s.command) c.loop-statement.invariant.fits refl).0

pub loop-statement-preserved : goal.loop-statement-preserved
loop-statement-preserved g c =
    let statements = c.args.statements.now in
    let i = c.loop-statement.statement-index in
    let s = c.statement-item.result in
    let both = appends_then c.in-Ok.ensures.ok c.empty.ensures.appends in
    record {
      given = given_more statements i s c.loop-statement-test.true c.statement-item.is c.loop-statement.invariant.given
          _ _ _ c.in-Ok.ensures.after
          (rw (append-nil (frames_bytes (command_frames (inner_shelf c.loop-statement.shelves) s.line s.command)))
          at both);
      fits = (fits_more statements i s c.loop-statement-test.true c.statement-item.is
          c.loop-statement.shelves.outer.names c.execute_statement.new.shelves.outer.names
          c.loop-statement.invariant.fits
          (outer_names_after c.loop-statement.shelves s.command c.execute_statement.new.shelves
          c.in-Ok.ensures.after)).1;
    }

pub returns-in-Err-clause-err : goal.returns-in-Err-clause-err
returns-in-Err-clause-err g c =
    rw (c.in-Err.ensures.err.0, c.in-Err.ensures.err.1) (given_before c.args.statements.now c.loop-statement.statement-index c.statement-item.result c.loop-statement-test.true c.statement-item.is c.loop-statement.invariant.given)

pub returns-then-has_failed-clause-err : goal.returns-then-has_failed-clause-err
returns-then-has_failed-clause-err g c =
    let statements = c.args.statements.now in
    let i = c.loop-statement.statement-index in
    let s = c.statement-item.result in
    let both = appends_then c.in-Ok.ensures.ok c.empty.ensures.appends in
    given_within statements (i + 1)
    (given_more statements i s c.loop-statement-test.true c.statement-item.is c.loop-statement.invariant.given _ _
    _ c.in-Ok.ensures.after
    (rw (append-nil
    (frames_bytes (command_frames (inner_shelf c.loop-statement.shelves) s.line s.command))) at both))
    (sym c.has_failed.ensures ∙ c.if-has_failed.true)
