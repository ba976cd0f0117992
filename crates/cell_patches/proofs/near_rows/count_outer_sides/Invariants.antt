use Rattle.std.proofs.Common.{◌≡◌, ◌+◌, ◌-◌, ◌≤◌}
use Rattle.cell_patches.specs.parts.Passes.{outer_side_count_in_first_columns}
use Rattle.cell_patches.proofs.near_rows.count_outer_sides.Given as goal

abbrev pub invariant-loop-col : goal.invariant-loop-col
invariant-loop-col l = record {
  sides : l.sides + outer_side_count_in_first_columns l.class l.beyond l.first
      ≡ outer_side_count_in_first_columns l.class l.beyond l.col + (l.end - l.known);
  most : l.sides ≤ (l.end - l.known) + (l.col - l.first);
}
