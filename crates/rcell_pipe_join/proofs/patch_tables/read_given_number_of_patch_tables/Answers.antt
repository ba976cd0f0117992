use Rattle.std.proofs.Common.{[], arith}
use Rattle.rcell_pipe_request.specs.RequestFields.{reading_repeated_n_times}
use Rattle.rcell_pipe_request.specs.Feeds.{left}
use Rattle.rcell_pipe_join.specs.PatchTables.{patch_tables_as_values}
use Rattle.rcell_pipe_join.specs.PatchTables.{patch_tables_with_next_table_reading}
use Rattle.rcell_pipe_request.proofs.StepLemmas.{steps-on, steps-end, steps-done, FailsWithErrorPosition-of}
use Rattle.rcell_pipe_join.proofs.patch_tables.read_given_number_of_patch_tables.Goals as goal

pub returns-in-Err-clause-reads : goal.returns-in-Err-clause-reads
returns-in-Err-clause-reads g c =
    let so_far = (patch_tables_as_values c.loop-i.tables.items) in
    let step = (patch_tables_with_next_table_reading c.args.numbering.now c.args.width) in (
      FailsWithErrorPosition-of c.in-Err.stop c.args.feed.now c.loop-i.feed c.read_next_patch_table.new.feed
          (step so_far) (reading_repeated_n_times step [] c.args.count) (λ w is. (c.loop-i.invariant.0 w is).0)
          (λ w is error one. steps-end step so_far c.args.count c.loop-i.i (left w c.loop-i.feed) error _
          (omega arith) one (c.loop-i.invariant.0 w is).1)
          c.in-Err.ensures.reads.0,
      λ going. c.in-Err.ensures.reads.1 (c.loop-i.invariant.5 going),
    )

pub loop-i-preserved : goal.loop-i-preserved
loop-i-preserved g c = (
  λ w is.
      let one = c.in-Ok.ensures.reads.0 w is in
      let before = c.loop-i.invariant.0 w one.0 in (
        before.0,
        steps-on (patch_tables_with_next_table_reading c.args.numbering.now c.args.width)
            (patch_tables_as_values c.loop-i.tables.items)
            (patch_tables_as_values c.read_next_patch_table.new.tables.items) c.args.count c.loop-i.i
            (left w c.loop-i.feed) (left w c.read_next_patch_table.new.feed) _ (omega arith) one.1 before.1,
      ),
  omega (arith, c.in-Ok.ensures.count, c.loop-i.invariant.1),
  c.in-Ok.ensures.some c.loop-i.invariant.2,
  c.in-Ok.ensures.cells,
  c.in-Ok.ensures.few,
  λ going. c.in-Ok.ensures.reads.1 (c.loop-i.invariant.5 going),
)

pub returns-clause-reads : goal.returns-clause-reads
returns-clause-reads g c = (
  λ w is.
      let before = c.loop-i.invariant.0 w is in (
        before.0,
        steps-done (patch_tables_with_next_table_reading c.args.numbering.now c.args.width)
            (patch_tables_as_values c.loop-i.tables.items) c.args.count c.loop-i.i
            (left w c.loop-i.feed) _ (omega arith) before.1,
      ),
  c.loop-i.invariant.5,
)
