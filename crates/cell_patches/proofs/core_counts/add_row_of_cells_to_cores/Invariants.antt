use Rattle.cell_patches.specs.parts.Passes.{AreCoresOfPatchesUpToCell, HaveSameMeasuresExceptCores}
use Rattle.cell_patches.proofs.core_counts.add_row_of_cells_to_cores.Given as goal

abbrev pub invariant-loop-col : goal.invariant-loop-col
invariant-loop-col g l = record {
  counted : AreCoresOfPatchesUpToCell g.tile l.depth l.row l.col l.patches.items;
  others : HaveSameMeasuresExceptCores l.fn.patches.items l.patches.items;
}
