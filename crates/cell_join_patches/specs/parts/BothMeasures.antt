-- The measures of two parts of one patch together.
use Rattle.std.specs.Prelude.{◌+◌, ◌^◌, ◌&&◌, nat_lt, min, max, Bool}
use Rattle.cell_patches.specs.declared.patch.Patch.{Patch}

abbrev pub measures_of_both : Patch → Patch → Patch
measures_of_both one other = record {
  class = one.class;
  cells = one.cells + other.cells;
  ends = one.ends + other.ends;
  flanks = one.flanks + other.flanks;
  core = one.core + other.core;
  first_row = min one.first_row other.first_row;
  last_row = max one.last_row other.last_row;
  first_col = min one.first_col other.first_col;
  last_col = max one.last_col other.last_col;
}

-- each sum is below 2^64
abbrev pub sums_of_both_are_below_limit : Patch → Patch → Bool
sums_of_both_are_below_limit one other =
    nat_lt (one.cells + other.cells) (2 ^ 64)
    && (nat_lt (one.ends + other.ends) (2 ^ 64)
    && (nat_lt (one.flanks + other.flanks) (2 ^ 64) && nat_lt (one.core + other.core) (2 ^ 64)))
