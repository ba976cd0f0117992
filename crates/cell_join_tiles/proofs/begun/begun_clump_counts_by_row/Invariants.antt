use Rattle.std.proofs.Common.{◌<◌, ◌≤◌, ◌^◌}
use Rattle.std.specs.Prelude.{All}
use Rattle.cell_join_tiles.proofs.RiseLemmas.{RisesSoFar}
use Rattle.cell_join_tiles.proofs.begun.begun_clump_counts_by_row.Given as goal

abbrev pub invariant-loop-row : goal.invariant-loop-row
invariant-loop-row l = record {
  rises : RisesSoFar l.numbers l.row l.most l.begun.items;
  small : l.most ≤ 2147483647;
  few : All (λ count. count < 2 ^ 32) l.begun.items;
}
