use Rattle.std.proofs.Common.{◌≡◌, ◌∙◌, ◌<◌, ◌≤◌, ◌*◌, ℕ, ℤ, Bool, true, false, Result, Ok, Err, refl, sym, to_z, of_z, w64}
use Rattle.std.specs.Prelude.{◌&&◌, nat_le, not, if◌then◌else◌}
use Rattle.std.specs.Int.RustNames.{FitsSigned}
use Rattle.std.proofs.lemmas.Bool.{leb-true}
use Rattle.std.proofs.lemmas.Int.{to_z-of_z}
use Rattle.cell_core_values.specs.Region.{RegionValue, IsValidRegion, most_rows_or_columns, most_cells}
use Rattle.cell_core_values.specs.Region.{is_edge_above_within_limits}
use Rattle.cell_core_values.specs.Region.{is_row_or_column_count, is_within_cell_limit}
use Rattle.cell_core_values.specs.declared.region.RegionFault.{RegionFault}
use Rattle.cell_core_values.specs.declared.region.RegionFault.TheVariants.{BadExtent, BadRows, BadCols, TooManyCells}
use Rattle.cell_core_values.proofs.region.Region.new.Goals as goal
use Rattle.cell_core_values.proofs.region.Region.new.Goals.{then-not-is_edge_above_within_limits-via-then-not-is_edge_above_within_limits}
use Rattle.cell_core_values.proofs.region.Region.new.Goals.{then-not-is_edge_above_within_limits-via-else-not-is_edge_above_within_limits+then-not-is_edge_above_within_limits-2}

-- the first error according to the results of the tests
abbrev fault_by : RegionValue → Bool → Bool → Bool → Bool → Bool → Result RegionValue RegionFault
fault_by e high wide rows cols cells =
    if not (high && wide) then Err BadExtent
    else (if not rows then Err BadRows else (if not cols then Err BadCols else (if not cells then Err TooManyCells else Ok e)))

module _ (e : RegionValue) (high wide rows cols cells : Bool) where
  not_high : high ≡ false → Err BadExtent ≡ fault_by e high wide rows cols cells
  not_high h = rw h refl

  not_wide : high ≡ true → wide ≡ false → Err BadExtent ≡ fault_by e high wide rows cols cells
  not_wide h w = rw (h, w) refl

  bad_rows : high ≡ true → wide ≡ true → rows ≡ false → Err BadRows ≡ fault_by e high wide rows cols cells
  bad_rows h w r = rw (h, w, r) refl

  bad_cols : high ≡ true → wide ≡ true → rows ≡ true → cols ≡ false → Err BadCols ≡ fault_by e high wide rows cols cells
  bad_cols h w r s = rw (h, w, r, s) refl

  many_cells : high ≡ true → wide ≡ true → rows ≡ true → cols ≡ true → cells ≡ false
      → Err TooManyCells ≡ fault_by e high wide rows cols cells
  many_cells h w r s n = rw (h, w, r, s, n) refl

  accepted : high ≡ true → wide ≡ true → rows ≡ true → cols ≡ true → cells ≡ true
      → Ok e ≡ fault_by e high wide rows cols cells
  accepted h w r s n = rw (h, w, r, s, n) refl

both : (a b : Bool) → (a && b) ≡ true → (a ≡ true) × (b ≡ true)
both true b h = (refl, h)
both false b h = cc

side : (n : ℕ) → is_row_or_column_count n ≡ true → (0 < n) × (n ≤ most_rows_or_columns)
side n h =
    let parts = both (nat_le 1 n) (nat_le n most_rows_or_columns) h in
    (leb-true 1 n parts.0, leb-true n most_rows_or_columns parts.1)

-- comparing two edges as 64-bit words gives the same result as comparing the numbers
reported : (a b : ℤ) {r v : Bool} → FitsSigned w64 a → FitsSigned w64 b
    → r ≡ is_edge_above_within_limits (to_z w64 (of_z w64 a)) (to_z w64 (of_z w64 b)) → r ≡ v
    → is_edge_above_within_limits a b ≡ v
reported a b fa fb e v =
    let t = rw (to_z-of_z w64 a fa, to_z-of_z w64 b fb) at e in
    sym t ∙ v

region_is : (e : RegionValue) → is_edge_above_within_limits e.north e.south ≡ true
    → is_edge_above_within_limits e.east e.west ≡ true
    → is_row_or_column_count e.rows ≡ true → is_row_or_column_count e.cols ≡ true
    → nat_le (e.rows * e.cols) most_cells ≡ true
    → IsValidRegion e
region_is e h w r s n = record {
  rows_least = (side e.rows r).0;
  rows_most = (side e.rows r).1;
  cols_least = (side e.cols s).0;
  cols_most = (side e.cols s).1;
  cells_most = leb-true (e.rows * e.cols) most_cells n;
  accepted = sym (accepted e _ _ _ _ _ h w r s n);
}

pub returns-then-not-is_edge_above_within_limits : goal.returns-then-not-is_edge_above_within_limits
returns-then-not-is_edge_above_within_limits c =
    let a = c.args in
    let e : RegionValue =
    record { north = a.north; south = a.south; east = a.east; west = a.west; rows = a.rows; cols = a.cols } in
    elim c.then-not-is_edge_above_within_limits.branch [
      | then-not-is_edge_above_within_limits-via-then-not-is_edge_above_within_limits w ↦
          not_high e (is_edge_above_within_limits a.north a.south) (is_edge_above_within_limits a.east a.west)
          (is_row_or_column_count a.rows)
          (is_row_or_column_count a.cols) (is_within_cell_limit e)
          (reported a.north a.south c.ranges.north c.ranges.south c.is_edge_above_within_limits.ensures
          w.if-not-is_edge_above_within_limits.true)
      | then-not-is_edge_above_within_limits-via-else-not-is_edge_above_within_limits+then-not-is_edge_above_within_limits-2 w ↦
          not_wide e (is_edge_above_within_limits a.north a.south) (is_edge_above_within_limits a.east a.west)
          (is_row_or_column_count a.rows)
          (is_row_or_column_count a.cols) (is_within_cell_limit e)
          (reported a.north a.south c.ranges.north c.ranges.south c.is_edge_above_within_limits.ensures
          w.if-not-is_edge_above_within_limits.false)
          (reported a.east a.west c.ranges.east c.ranges.west
          w.is_edge_above_within_limits-else-not-is_edge_above_within_limits.ensures
          w.if-not-is_edge_above_within_limits-2.true)
    ]

pub returns-then-not-is_row_or_column_count : goal.returns-then-not-is_row_or_column_count
returns-then-not-is_row_or_column_count c =
    let a = c.args in
    let e : RegionValue =
    record { north = a.north; south = a.south; east = a.east; west = a.west; rows = a.rows; cols = a.cols } in
    bad_rows e (is_edge_above_within_limits a.north a.south) (is_edge_above_within_limits a.east a.west)
    (is_row_or_column_count a.rows)
    (is_row_or_column_count a.cols) (is_within_cell_limit e)
    (reported a.north a.south c.ranges.north c.ranges.south c.is_edge_above_within_limits.ensures
    c.if-not-is_edge_above_within_limits.false)
    (reported a.east a.west c.ranges.east c.ranges.west c.is_edge_above_within_limits-else-not-is_edge_above_within_limits.ensures
    c.if-not-is_edge_above_within_limits-2.false)
    (sym c.is_row_or_column_count.ensures ∙ c.if-not-is_row_or_column_count.true)

pub returns-then-not-is_row_or_column_count-2 : goal.returns-then-not-is_row_or_column_count-2
returns-then-not-is_row_or_column_count-2 c =
    let a = c.args in
    let e : RegionValue =
    record { north = a.north; south = a.south; east = a.east; west = a.west; rows = a.rows; cols = a.cols } in
    bad_cols e (is_edge_above_within_limits a.north a.south) (is_edge_above_within_limits a.east a.west)
    (is_row_or_column_count a.rows)
    (is_row_or_column_count a.cols) (is_within_cell_limit e)
    (reported a.north a.south c.ranges.north c.ranges.south c.is_edge_above_within_limits.ensures
    c.if-not-is_edge_above_within_limits.false)
    (reported a.east a.west c.ranges.east c.ranges.west c.is_edge_above_within_limits-else-not-is_edge_above_within_limits.ensures
    c.if-not-is_edge_above_within_limits-2.false)
    (sym c.is_row_or_column_count.ensures ∙ c.if-not-is_row_or_column_count.false)
    (sym c.is_row_or_column_count-2.ensures ∙ c.if-not-is_row_or_column_count-2.true)

pub is_within_cell_limit-requires : goal.is_within_cell_limit-requires
is_within_cell_limit-requires c = (
  (side c.args.rows (sym c.is_row_or_column_count.ensures ∙ c.if-not-is_row_or_column_count.false)).1,
  (side c.args.cols (sym c.is_row_or_column_count-2.ensures ∙ c.if-not-is_row_or_column_count-2.false)).1,
)

pub returns-then-not-is_within_cell_limit : goal.returns-then-not-is_within_cell_limit
returns-then-not-is_within_cell_limit c =
    let a = c.args in
    let e : RegionValue =
    record { north = a.north; south = a.south; east = a.east; west = a.west; rows = a.rows; cols = a.cols } in
    many_cells e (is_edge_above_within_limits a.north a.south) (is_edge_above_within_limits a.east a.west)
    (is_row_or_column_count a.rows)
    (is_row_or_column_count a.cols) (is_within_cell_limit e)
    (reported a.north a.south c.ranges.north c.ranges.south c.is_edge_above_within_limits.ensures
    c.if-not-is_edge_above_within_limits.false)
    (reported a.east a.west c.ranges.east c.ranges.west c.is_edge_above_within_limits-else-not-is_edge_above_within_limits.ensures
    c.if-not-is_edge_above_within_limits-2.false)
    (sym c.is_row_or_column_count.ensures ∙ c.if-not-is_row_or_column_count.false)
    (sym c.is_row_or_column_count-2.ensures ∙ c.if-not-is_row_or_column_count-2.false)
    (sym c.is_within_cell_limit.ensures ∙ c.if-not-is_within_cell_limit.true)

pub invariant_of-result : goal.invariant_of-result
invariant_of-result c =
    let a = c.args in
    let e : RegionValue =
    record { north = a.north; south = a.south; east = a.east; west = a.west; rows = a.rows; cols = a.cols } in
    let north = to_z-of_z w64 a.north c.ranges.north in
    let south = to_z-of_z w64 a.south c.ranges.south in
    let east = to_z-of_z w64 a.east c.ranges.east in
    let west = to_z-of_z w64 a.west c.ranges.west in
    rw (north, south, east, west)
    (region_is e
    (reported a.north a.south c.ranges.north c.ranges.south c.is_edge_above_within_limits.ensures
    c.if-not-is_edge_above_within_limits.false)
    (reported a.east a.west c.ranges.east c.ranges.west c.is_edge_above_within_limits-else-not-is_edge_above_within_limits.ensures
    c.if-not-is_edge_above_within_limits-2.false)
    (sym c.is_row_or_column_count.ensures ∙ c.if-not-is_row_or_column_count.false)
    (sym c.is_row_or_column_count-2.ensures ∙ c.if-not-is_row_or_column_count-2.false)
    (sym c.is_within_cell_limit.ensures ∙ c.if-not-is_within_cell_limit.false))

pub returns : goal.returns
returns c =
    let a = c.args in
    let e : RegionValue =
    record { north = a.north; south = a.south; east = a.east; west = a.west; rows = a.rows; cols = a.cols } in
    let north = to_z-of_z w64 a.north c.ranges.north in
    let south = to_z-of_z w64 a.south c.ranges.south in
    let east = to_z-of_z w64 a.east c.ranges.east in
    let west = to_z-of_z w64 a.west c.ranges.west in
    rw (north, south, east, west)
    (accepted e (is_edge_above_within_limits a.north a.south) (is_edge_above_within_limits a.east a.west)
    (is_row_or_column_count a.rows)
    (is_row_or_column_count a.cols) (is_within_cell_limit e)
    (reported a.north a.south c.ranges.north c.ranges.south c.is_edge_above_within_limits.ensures
    c.if-not-is_edge_above_within_limits.false)
    (reported a.east a.west c.ranges.east c.ranges.west c.is_edge_above_within_limits-else-not-is_edge_above_within_limits.ensures
    c.if-not-is_edge_above_within_limits-2.false)
    (sym c.is_row_or_column_count.ensures ∙ c.if-not-is_row_or_column_count.false)
    (sym c.is_row_or_column_count-2.ensures ∙ c.if-not-is_row_or_column_count-2.false)
    (sym c.is_within_cell_limit.ensures ∙ c.if-not-is_within_cell_limit.false))
