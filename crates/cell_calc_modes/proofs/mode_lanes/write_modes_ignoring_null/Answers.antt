use Rattle.std.proofs.Common.{◌≡◌, ◌∙◌, arith, ap, map}
use Rattle.cell_calc_language.specs.CellOperators.{most_frequent, non_null_cells}
use Rattle.cell_calc_modes.specs.ColumnCells.{cells_at_column}
use Rattle.cell_calc_modes.proofs.ModeLanes.{block_done}
use Rattle.cell_calc_modes.proofs.mode_lanes.write_modes_ignoring_null.Goals as goal

pub blocks-2-preserved : goal.blocks-2-preserved
blocks-2-preserved c =
    record {
      columns = block_done (λ k v. v
          ≡ most_frequent (non_null_cells (cells_at_column k (map (λ cells. cells.items) c.args.arguments.now))))
          c.blocks-2.row c.write_cells_of_keys.new.row c.blocks-2.done c.min-c.result (omega (arith, c.min-c.ensures))
          c.blocks-2.invariant.columns c.write_cells_of_keys.ensures.before
          (λ k lt. c.write_cells_of_keys.ensures.each k lt ∙ c.most_frequent.ensures k lt
          ∙ ap (λ l. most_frequent (non_null_cells l)) (c.gather_keys_of_column_block.ensures k lt));
    }

pub returns : goal.returns
returns c = λ k lt. c.blocks-2.invariant.columns k (omega (arith, lt, c.blocks-2-test.false, c.blocks-2.auto.row))
