use Rattle.std.proofs.Common.{◌≡◌, All, length}
use Rattle.std.specs.Vec.Iter.{into_iter_items, into_iter_len}
use Rattle.rcell_pipe_borders.specs.BorderGrids.{borders_as_values}
use Rattle.rcell_pipe_borders.specs.parts.RowCounts.{TilesHaveSameRowCount}
use Rattle.rcell_pipe_borders.proofs.NumberingLemmas.{AreJoinedSo}
use Rattle.rcell_pipe_borders.proofs.numbering.number_patches_of_tiles.Given as goal

abbrev pub invariant-loop-row : goal.invariant-loop-row
invariant-loop-row l =
    let left = into_iter_items l.row-iterator in
    record {
      so : AreJoinedSo (borders_as_values l.fn.grid.items) (borders_as_values left) l.joiner;
      joining : l.joiner.joining ≡ l.fn.joining;
      even : All TilesHaveSameRowCount (borders_as_values left);
      len : into_iter_len l.row-iterator ≡ length left;
    }
