use Rattle.std.proofs.Common.{arith, ◌∙◌}
use Rattle.std.proofs.lemmas.List.{length-set}
use Rattle.cell_calc_modes.proofs.ModeLanes.{gather_more, gathered_all}
use Rattle.cell_calc_modes.proofs.mode_lanes.gather_keys_of_column_block.Goals as goal

pub loop-i-preserved : goal.loop-i-preserved
loop-i-preserved c =
    record {
      room = length-set c.loop-i.keys c.loop-i.i c.keys_of_row_at_column.result ∙ c.loop-i.invariant.room;
      done = λ k lt. gather_more (λ cells. cells.items) c.args.arguments.now c.loop-i.i c.args.c k
          c.index-arguments-i.result c.as_slice.result.now c.loop-i.keys
          c.keys_of_row_at_column.result c.loop-i-test.true (omega (arith, c.loop-i-test.true, c.loop-i.invariant.room))
          c.index-arguments-i.is
          c.as_slice.ensures.value (c.keys_of_row_at_column.ensures.each k lt) (c.loop-i.invariant.done k lt);
    }

pub returns : goal.returns
returns c = λ k lt. gathered_all (λ cells. cells.items) c.args.arguments.now c.loop-i.i c.args.c k c.loop-i.keys
    c.loop-i-test.false
    c.loop-i.invariant.room (c.loop-i.invariant.done k lt)
