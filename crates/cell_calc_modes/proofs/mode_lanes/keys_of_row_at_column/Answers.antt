use Rattle.std.proofs.Common.{arith, ◌∙◌}
use Rattle.std.proofs.lemmas.List.{length-set}
use Rattle.cell_calc_modes.proofs.ModeLanes.{keys_more}
use Rattle.cell_calc_modes.proofs.mode_lanes.keys_of_row_at_column.Goals as goal

pub loop-k-preserved : goal.loop-k-preserved
loop-k-preserved c =
    record {
      long = length-set c.loop-k.keys c.loop-k.k c.key_of_cell.result ∙ c.loop-k.invariant.long;
      done = keys_more c.args.cells.now c.args.c c.loop-k.k c.loop-k.keys c.key_of_cell.result c.index-cells-c.result
          (omega (arith, c.loop-k.invariant.long, c.loop-k-test.true)) (omega (arith, c.requires, c.loop-k-test.true))
          c.index-cells-c.is c.key_of_cell.ensures c.loop-k.invariant.done;
    }
