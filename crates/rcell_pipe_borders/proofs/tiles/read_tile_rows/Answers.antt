use Rattle.std.proofs.Common.{[], arith}
use Rattle.rcell_pipe_request.specs.RequestFields.{reading_repeated_n_times}
use Rattle.rcell_pipe_request.specs.Feeds.{left}
use Rattle.rcell_pipe_borders.specs.BorderGrids.{borders_as_values, tile_rows_with_next_row_reading}
use Rattle.rcell_pipe_request.proofs.StepLemmas.{steps-on, steps-end, steps-done, FailsWithErrorPosition-of}
use Rattle.rcell_pipe_borders.proofs.tiles.read_tile_rows.Goals as goal

pub returns-in-Err-clause-reads : goal.returns-in-Err-clause-reads
returns-in-Err-clause-reads g c =
    let so_far = (borders_as_values c.loop-i.grid.items) in
    let step = (tile_rows_with_next_row_reading c.args.joining c.args.cols) in (
      FailsWithErrorPosition-of c.in-Err.stop c.args.feed.now c.loop-i.feed c.read_next_tile_row.new.feed (step so_far)
          (reading_repeated_n_times step [] c.args.rows) (λ w is. (c.loop-i.invariant.0 w is).0)
          (λ w is error one. steps-end step so_far c.args.rows c.loop-i.i (left w c.loop-i.feed) error _ (omega arith)
          one (c.loop-i.invariant.0 w is).1)
          c.in-Err.ensures.reads.0,
      λ going. c.in-Err.ensures.reads.1 (c.loop-i.invariant.3 going),
    )

pub loop-i-preserved : goal.loop-i-preserved
loop-i-preserved g c = (
  λ w is.
      let one = c.in-Ok.ensures.reads.0 w is in
      let before = c.loop-i.invariant.0 w one.0 in (
        before.0,
        steps-on (tile_rows_with_next_row_reading c.args.joining c.args.cols) (borders_as_values c.loop-i.grid.items)
            (borders_as_values c.read_next_tile_row.new.grid.items) c.args.rows c.loop-i.i
            (left w c.loop-i.feed) (left w c.read_next_tile_row.new.feed) _ (omega arith) one.1 before.1,
      ),
  omega (arith, c.in-Ok.ensures.count, c.loop-i.invariant.1),
  c.in-Ok.ensures.even c.loop-i.invariant.2,
  λ going. c.in-Ok.ensures.reads.1 (c.loop-i.invariant.3 going),
  c.in-Ok.ensures.rows,
  omega (arith, c.in-Ok.ensures.few, c.loop-i.invariant.5),
)

pub returns-clause-reads : goal.returns-clause-reads
returns-clause-reads g c = (
  λ w is.
      let before = c.loop-i.invariant.0 w is in (
        before.0,
        steps-done (tile_rows_with_next_row_reading c.args.joining c.args.cols)
            (borders_as_values c.loop-i.grid.items) c.args.rows c.loop-i.i
            (left w c.loop-i.feed)
            _ (omega arith) before.1,
      ),
  c.loop-i.invariant.3,
)
