use Rattle.std.proofs.Common.{◌≤◌, ◌-◌, take}
use Rattle.cell_calc_modes.specs.parts.Modes.{AreMostFrequentAndLastCells}
use Rattle.cell_calc_modes.specs.ColumnCells.{at}
use Rattle.cell_calc_modes.proofs.modes.category_of_longest_run.Given as goal

abbrev pub invariant-loop-i : goal.invariant-loop-i
invariant-loop-i l =
    record {
      longest : AreMostFrequentAndLastCells (take l.i l.cells) l.best l.most (at l.cells (l.i - 1)) l.run;
      bound : l.run ≤ l.i;
    }
