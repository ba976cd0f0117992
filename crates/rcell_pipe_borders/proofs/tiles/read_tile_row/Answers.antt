use Rattle.std.proofs.Common.{[], arith}
use Rattle.rcell_pipe_request.specs.RequestFields.{reading_repeated_n_times}
use Rattle.rcell_pipe_request.specs.Feeds.{left}
use Rattle.cell_join_tiles.specs.Values.{values_of_tile_borders}
use Rattle.rcell_pipe_borders.specs.BorderGrids.{tiles_with_next_tile_reading}
use Rattle.rcell_pipe_request.proofs.StepLemmas.{steps-on, steps-end, steps-done, FailsWithErrorPosition-of}
use Rattle.rcell_pipe_borders.proofs.tiles.read_tile_row.Goals as goal

pub returns-in-Err-clause-reads : goal.returns-in-Err-clause-reads
returns-in-Err-clause-reads g c =
    let so_far = (values_of_tile_borders c.loop-i.row.items) in
    let step = tiles_with_next_tile_reading c.args.start.joining c.args.start.first_row c.args.start.before
    (values_of_tile_borders c.args.above.now) in (
      FailsWithErrorPosition-of c.in-Err.stop c.args.feed.now c.loop-i.feed c.read_next_tile.new.feed (step so_far)
          (reading_repeated_n_times step [] c.args.cols) (λ w is. (c.loop-i.invariant.0 w is).0)
          (λ w is error one. steps-end step so_far c.args.cols c.loop-i.i (left w c.loop-i.feed) error _ (omega arith)
          one (c.loop-i.invariant.0 w is).1)
          c.in-Err.ensures.reads.0,
      λ going. c.in-Err.ensures.reads.1 (c.loop-i.invariant.3 going),
    )

pub loop-i-preserved : goal.loop-i-preserved
loop-i-preserved g c = (
  λ w is.
      let one = c.in-Ok.ensures.reads.0 w is in
      let before = c.loop-i.invariant.0 w one.0 in (
        before.0,
        steps-on (tiles_with_next_tile_reading c.args.start.joining c.args.start.first_row c.args.start.before
            (values_of_tile_borders c.args.above.now))
            (values_of_tile_borders c.loop-i.row.items) (values_of_tile_borders c.read_next_tile.new.row.items)
            c.args.cols c.loop-i.i
            (left w c.loop-i.feed) (left w c.read_next_tile.new.feed) _ (omega arith) one.1 before.1,
      ),
  omega (arith, c.in-Ok.ensures.count, c.loop-i.invariant.1),
  c.in-Ok.ensures.even c.loop-i.invariant.2,
  λ going. c.in-Ok.ensures.reads.1 (c.loop-i.invariant.3 going),
  c.in-Ok.ensures.cols,
  omega (arith, c.in-Ok.ensures.narrow, c.loop-i.invariant.5),
  c.in-Ok.ensures.few,
)

pub returns-clause-reads : goal.returns-clause-reads
returns-clause-reads g c = (
  λ w is.
      let before = c.loop-i.invariant.0 w is in (
        before.0,
        steps-done (tiles_with_next_tile_reading c.args.start.joining c.args.start.first_row c.args.start.before
            (values_of_tile_borders c.args.above.now))
            (values_of_tile_borders c.loop-i.row.items) c.args.cols c.loop-i.i (left w c.loop-i.feed)
            _ (omega arith) before.1,
      ),
  c.loop-i.invariant.3,
)
