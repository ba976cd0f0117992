-- A full map as its only tile: sides and cores by categories are sides and cores by patch numbers.
use Rattle.std.proofs.Common.{◌≡◌, ℕ, ℤ, zero, suc, pos, ◌+◌, ◌↔◌, Bool, true, false, List, Some, None, refl, ap, sym}
use Rattle.std.proofs.Common.{◌∙◌, subst, inl, inr, zero-add, add-one, arith}
use Rattle.std.proofs.lemmas.Bool.{false_from_ne_true, and_from, and_parts, false≢true}
use Rattle.cell_core_values.specs.Cell.{cell_eq, cell_eq-Decides}
use Rattle.cell_core.specs.Grid.{Grid, CellValue, cell_at}
use Rattle.cell_clumps.specs.declared.clump.Joining.{Joining}
use Rattle.cell_clumps.specs.declared.clump.Joining.TheVariants.{Edges, EdgesAndCorners}
use Rattle.cell_clumps.specs.Clumps.{Position, IsClumpMapOf, cell_at_position, CellsShareEdge, AreAdjacent}
use Rattle.cell_clumps.proofs.PathLemmas.{AreJoined-adjacent}
use Rattle.cell_clumps.specs.parts.CellPlaces.{position_at_row_and_column}
use Rattle.cell_patches.specs.declared.patch.Patch.{Patch}
use Rattle.cell_patches.specs.Patches.{is_in_patch, north_cell_in_map_or_null, west_cell_in_map_or_null}
use Rattle.cell_patches.specs.Patches.{one_if_side_leaves_patch, value_or_0_outside_patch}
use Rattle.cell_patches.specs.Patches.{outer_north_south_side_count, outer_west_east_side_count}
use Rattle.cell_patches.specs.Patches.{do_cells_within_steps_have_value, are_cells_within_steps_in_patch}
use Rattle.cell_patches.specs.Patches.{IsSmallestWithProperty, IsLargestWithProperty, PatchHasCellInRow}
use Rattle.cell_patches.specs.Patches.{PatchHasCellInColumn, AreMeasuresOfPatch, AreMeasuresOfAllPatches}
use Rattle.cell_patches.specs.Patches.{sum_over_cells_of_first_rows}
use Rattle.cell_patches.specs.TilePatches.{one_if_side_leaves_category, outer_north_south_side_count_of_cell}
use Rattle.cell_patches.specs.TilePatches.{outer_west_east_side_count_of_cell, one_if_cell_is_core}
use Rattle.cell_patches.specs.TilePatches.{AreMeasuresOfPatchInTile, AreMeasuresOfAllPatchesInTile}
use Rattle.cell_patches.specs.TilePatches.{position_of_full_map}
use Rattle.cell_patches.specs.TilePatches.{TilePatchHasCellInRow, TilePatchHasCellInColumn}
use Rattle.cell_patches.proofs.InsideLemmas.{of_from, of_to, within_more, inside_center}
use Rattle.cell_patches.proofs.PassLemmas.{pick}
use Rattle.cell_patches.proofs.SumLemmas.{rows_all}
use Rattle.cell_patches.proofs.MeasureLemmas.{some_class, some_is, same_class}

-- two tests that imply each other are equal
pub same_tests : (a b : Bool) → (a ≡ true → b ≡ true) → (b ≡ true → a ≡ true) → a ≡ b
same_tests true b to from = sym (to refl)
same_tests false true to from = from refl
same_tests false false to from = refl

adjacent : (j : Joining) (p q : Position) → CellsShareEdge p q → AreAdjacent j p q
adjacent Edges p q e = e
adjacent EdgesAndCorners p q e = inl e

-- two cells that share an edge have the same number if and only if they have the same category
number_from : (j : Joining) (m numbers : Grid) (p q : Position) (n : ℕ) → IsClumpMapOf j m numbers
    → CellsShareEdge p q → cell_at_position numbers p ≡ Some (pos n)
    → cell_at_position m q ≡ cell_at_position m p → cell_at_position numbers q ≡ Some (pos n)
number_from j m numbers p q n clumping edge is same =
    let v = some_class j m numbers p n clumping is in
    sym ((clumping.same p q (some_is _ v.0 v.1) (some_is _ v.0 (same ∙ v.1))).1
    (AreJoined-adjacent j m p q v.0 (adjacent j p q edge) v.1 (same ∙ v.1))) ∙ is

-- a side leads out of a patch if and only if it leads out of the category
side_same : (x y number : CellValue) (n : ℕ) → (y ≡ x → number ≡ Some (pos n)) → (number ≡ Some (pos n) → y ≡ x)
    → one_if_side_leaves_category x y ≡ one_if_side_leaves_patch n number
side_same x y number n to from =
    ap (λ (b : Bool). pick b 0 1)
    (same_tests (cell_eq y x) (cell_eq number (Some (pos n)))
    (λ e. (cell_eq-Decides number (Some (pos n))).1 (to ((cell_eq-Decides y x).0 e)))
    (λ e. (cell_eq-Decides y x).1 (from ((cell_eq-Decides number (Some (pos n))).0 e))))

side_is : (j : Joining) (m numbers : Grid) (p q : Position) (n : ℕ) → IsClumpMapOf j m numbers
    → CellsShareEdge p q → cell_at_position numbers p ≡ Some (pos n)
    → one_if_side_leaves_category (cell_at_position m p) (cell_at_position m q)
    ≡ one_if_side_leaves_patch n (cell_at_position numbers q)
side_is j m numbers p q n clumping edge is =
    side_same (cell_at_position m p) (cell_at_position m q) (cell_at_position numbers q) n
    (number_from j m numbers p q n clumping edge is)
    (λ e. same_class j m numbers q p n clumping e is)

-- a side at the edge of the map leads out of both
edge_is : (j : Joining) (m numbers : Grid) (p : Position) (n : ℕ) → IsClumpMapOf j m numbers
    → cell_at_position numbers p ≡ Some (pos n)
    → one_if_side_leaves_category (cell_at_position m p) None ≡ one_if_side_leaves_patch n None
edge_is j m numbers p n clumping is =
    let v = some_class j m numbers p n clumping is in
    side_same (cell_at_position m p) None None n
    (λ e. absurd (let f : None ≡ Some v.0 = e ∙ v.1 in cc))
    (λ e. absurd (let f : None ≡ Some (pos n) = e in cc))

north_side : (j : Joining) (m numbers : Grid) (n r c : ℕ) → IsClumpMapOf j m numbers
    → cell_at numbers r c ≡ Some (pos n)
    → one_if_side_leaves_category (cell_at m r c) (north_cell_in_map_or_null m r c)
    ≡ one_if_side_leaves_patch n (north_cell_in_map_or_null numbers r c)
north_side j m numbers n zero c clumping is =
    edge_is j m numbers (position_at_row_and_column zero c) n clumping is
north_side j m numbers n (suc r) c clumping is =
    side_is j m numbers (position_at_row_and_column (suc r) c) (position_at_row_and_column r c) n clumping
    (inr (inr (omega arith), refl)) is

west_side : (j : Joining) (m numbers : Grid) (n r c : ℕ) → IsClumpMapOf j m numbers
    → cell_at numbers r c ≡ Some (pos n)
    → one_if_side_leaves_category (cell_at m r c) (west_cell_in_map_or_null m r c)
    ≡ one_if_side_leaves_patch n (west_cell_in_map_or_null numbers r c)
west_side j m numbers n r zero clumping is =
    edge_is j m numbers (position_at_row_and_column r zero) n clumping is
west_side j m numbers n r (suc c) clumping is =
    side_is j m numbers (position_at_row_and_column r (suc c)) (position_at_row_and_column r c) n clumping
    (inl (refl, inr (omega arith))) is

-- a cell next to a cell of the patch, all cells around which have the category of the patch, is in the patch
next_cell : (j : Joining) (m numbers : Grid) (v : ℤ) (n k : ℕ) (p : Position) (a b : ℕ) → IsClumpMapOf j m numbers
    → CellsShareEdge p (position_at_row_and_column a b) → cell_at_position numbers p ≡ Some (pos n)
    → cell_at_position m p ≡ Some v → do_cells_within_steps_have_value m (Some v) k a b ≡ true
    → (cell_at numbers a b ≡ Some (pos n)) × (cell_at m a b ≡ Some v)
next_cell j m numbers v n k p a b clumping edge is class within =
    let there = of_to m (Some v) a b (inside_center m (Some v) k a b within) in
    (number_from j m numbers p (position_at_row_and_column a b) n clumping edge is (there ∙ sym class), there)

-- if all cells within some steps have the category of a cell of the patch, they are in the patch
core_to : (j : Joining) (m numbers : Grid) (v : ℤ) (n k r c : ℕ) → IsClumpMapOf j m numbers
    → cell_at numbers r c ≡ Some (pos n) → cell_at m r c ≡ Some v
    → do_cells_within_steps_have_value m (Some v) k r c ≡ true → are_cells_within_steps_in_patch numbers n k r c ≡ true
unfolding do_cells_within_steps_have_value
core_to j m numbers v n zero r c clumping is class h = of_from numbers (Some (pos n)) r c is
core_to j m numbers v n (suc k) zero c clumping is class h = absurd (false≢true h)
core_to j m numbers v n (suc k) (suc r) zero clumping is class h = absurd (false≢true h)
core_to j m numbers v n (suc k) (suc r) (suc c) clumping is class h =
    let two = and_parts _ _ h in
    let one = and_parts _ _ two.0 in
    let rows = and_parts _ _ one.1 in
    let cols = and_parts _ _ two.1 in
    let p = position_at_row_and_column (suc r) (suc c) in
    let north = next_cell j m numbers v n k p r (suc c) clumping (inr (inr (add-one r), refl)) is class rows.0 in
    let south = next_cell j m numbers v n k p (suc (suc r)) (suc c) clumping (inr (inl (add-one (suc r)), refl)) is
    class rows.1 in
    let west = next_cell j m numbers v n k p (suc r) c clumping (inl (refl, inr (add-one c))) is class cols.0 in
    let east = next_cell j m numbers v n k p (suc r) (suc (suc c)) clumping (inl (refl, inl (add-one (suc c)))) is class
    cols.1 in
    and_from _ _
    (and_from _ _ (core_to j m numbers v n k (suc r) (suc c) clumping is class one.0)
    (and_from _ _ (core_to j m numbers v n k r (suc c) clumping north.0 north.1 rows.0)
    (core_to j m numbers v n k (suc (suc r)) (suc c) clumping south.0 south.1 rows.1)))
    (and_from _ _ (core_to j m numbers v n k (suc r) c clumping west.0 west.1 cols.0)
    (core_to j m numbers v n k (suc r) (suc (suc c)) clumping east.0 east.1 cols.1))

core_is : (j : Joining) (m numbers : Grid) (depth n r c : ℕ) → IsClumpMapOf j m numbers
    → cell_at numbers r c ≡ Some (pos n)
    → do_cells_within_steps_have_value m (cell_at m r c) depth r c ≡ are_cells_within_steps_in_patch numbers n depth r c
core_is j m numbers depth n r c clumping is =
    let v = some_class j m numbers (position_at_row_and_column r c) n clumping is in
    ap (λ (x : CellValue). do_cells_within_steps_have_value m x depth r c) v.1
    ∙ same_tests _ _ (core_to j m numbers v.0 n depth r c clumping is v.1)
    (within_more numbers m (Some (pos n)) (Some v.0)
    (λ a b of. of_from m (Some v.0) a b (same_class j m numbers (position_at_row_and_column a b)
    (position_at_row_and_column r c) n clumping (of_to numbers (Some (pos n)) a b of) is ∙ v.1)) depth r c)

-- the value at a cell of a patch, in the only tile
value_is : (numbers : Grid) (n r c : ℕ) (f g : ℕ → ℕ → ℕ)
    → (cell_at numbers r c ≡ Some (pos n) → f r c ≡ g r c)
    → value_or_0_outside_patch numbers n r c (f (0 + r) (0 + c)) ≡ value_or_0_outside_patch numbers n r c (g r c)
value_is numbers n r c f g same =
    ap (λ x. value_or_0_outside_patch numbers n r c (f x (0 + c))) (zero-add r)
    ∙ ap (λ x. value_or_0_outside_patch numbers n r c (f r x)) (zero-add c)
    ∙ by_case (is_in_patch numbers n r c) refl
  where
    by_case : (x : Bool) → is_in_patch numbers n r c ≡ x → pick x (f r c) 0 ≡ pick x (g r c) 0
    by_case false e = refl
    by_case true e = same (of_to numbers (Some (pos n)) r c e)

ends_is : (j : Joining) (m numbers : Grid) (n r c : ℕ) → IsClumpMapOf j m numbers
    → value_or_0_outside_patch numbers n r c (outer_north_south_side_count_of_cell m (0 + r) (0 + c))
    ≡ outer_north_south_side_count numbers n r c
ends_is j m numbers n r c clumping =
    value_is numbers n r c (outer_north_south_side_count_of_cell m)
    (λ a b. one_if_side_leaves_patch n (north_cell_in_map_or_null numbers a b)
    + one_if_side_leaves_patch n (cell_at numbers (a + 1) b))
    (λ is. let north = north_side j m numbers n r c clumping is in
    let south = side_is j m numbers (position_at_row_and_column r c) (position_at_row_and_column (r + 1) c) n clumping
    (inr (inl refl, refl)) is in omega arith)

flanks_is : (j : Joining) (m numbers : Grid) (n r c : ℕ) → IsClumpMapOf j m numbers
    → value_or_0_outside_patch numbers n r c (outer_west_east_side_count_of_cell m (0 + r) (0 + c))
    ≡ outer_west_east_side_count numbers n r c
flanks_is j m numbers n r c clumping =
    value_is numbers n r c (outer_west_east_side_count_of_cell m)
    (λ a b. one_if_side_leaves_patch n (west_cell_in_map_or_null numbers a b)
    + one_if_side_leaves_patch n (cell_at numbers a (b + 1)))
    (λ is. let west = west_side j m numbers n r c clumping is in
    let east = side_is j m numbers (position_at_row_and_column r c) (position_at_row_and_column r (c + 1)) n clumping
    (inl (refl, inl refl)) is in omega arith)

cores_is : (j : Joining) (m numbers : Grid) (depth n r c : ℕ) → IsClumpMapOf j m numbers
    → value_or_0_outside_patch numbers n r c (one_if_cell_is_core m depth (0 + r) (0 + c))
    ≡ pick (are_cells_within_steps_in_patch numbers n depth r c) 1 0
cores_is j m numbers depth n r c clumping =
    value_is numbers n r c (one_if_cell_is_core m depth)
    (λ a b. pick (are_cells_within_steps_in_patch numbers n depth a b) 1 0)
    (λ is. ap (λ (x : Bool). pick x 1 0) (core_is j m numbers depth n r c clumping is))
    ∙ by_case (is_in_patch numbers n r c) refl
  where
    by_case : (x : Bool) → is_in_patch numbers n r c ≡ x
        → pick x (pick (are_cells_within_steps_in_patch numbers n depth r c) 1 0) 0
        ≡ pick (are_cells_within_steps_in_patch numbers n depth r c) 1 0
    by_case true e = refl
    by_case false e =
        let apart : are_cells_within_steps_in_patch numbers n depth r c ≡ false =
        false_from_ne_true _ (λ is. false≢true (sym e ∙ inside_center numbers (Some (pos n)) depth r c is)) in
        rw apart refl

-- the smallest and the largest number with one of two equivalent properties
smallest_is : (K L : ℕ → Type 0) (n : ℕ) → ((k : ℕ) → K k → L k) → ((k : ℕ) → L k → K k)
    → IsSmallestWithProperty K n → IsSmallestWithProperty L n
smallest_is K L n to from h = record { some = to n h.some; least = λ k has. h.least k (from k has) }

largest_is : (K L : ℕ → Type 0) (n : ℕ) → ((k : ℕ) → K k → L k) → ((k : ℕ) → L k → K k)
    → IsLargestWithProperty K n → IsLargestWithProperty L n
largest_is K L n to from h = record { some = to n h.some; most = λ k has. h.most k (from k has) }

row_to : (numbers : Grid) (n row : ℕ) → TilePatchHasCellInRow position_of_full_map numbers n row
    → PatchHasCellInRow numbers n row
row_to numbers n row h = subst (PatchHasCellInRow numbers n) (sym (h.1 ∙ zero-add h.0)) h.2

row_from : (numbers : Grid) (n row : ℕ) → PatchHasCellInRow numbers n row
    → TilePatchHasCellInRow position_of_full_map numbers n row
row_from numbers n row h = (row, sym (zero-add row), h)

col_to : (numbers : Grid) (n col : ℕ) → TilePatchHasCellInColumn position_of_full_map numbers n col
    → PatchHasCellInColumn numbers n col
col_to numbers n col h = subst (PatchHasCellInColumn numbers n) (sym (h.1 ∙ zero-add h.0)) h.2

col_from : (numbers : Grid) (n col : ℕ) → PatchHasCellInColumn numbers n col
    → TilePatchHasCellInColumn position_of_full_map numbers n col
col_from numbers n col h = (col, sym (zero-add col), h)

-- the cell of the map at the place of a cell of its only tile
pub class_is : (m : Grid) (r c : ℕ) → cell_at m (0 + r) (0 + c) ≡ cell_at m r c
class_is m r c = ap (λ x. cell_at m x (0 + c)) (zero-add r) ∙ ap (cell_at m r) (zero-add c)

pub full_map : (j : Joining) (m numbers : Grid) (depth n : ℕ) (patch : Patch) → IsClumpMapOf j m numbers
    → AreMeasuresOfPatchInTile m position_of_full_map numbers depth n patch ↔ AreMeasuresOfPatch m numbers depth n patch
full_map j m numbers depth n patch clumping = (to, from)
  where
    cols : ℕ
    cols = numbers.region.cols

    rows : ℕ
    rows = numbers.region.rows

    ends : sum_over_cells_of_first_rows (λ r c. value_or_0_outside_patch numbers n r c
        (outer_north_south_side_count_of_cell m (0 + r) (0 + c))) cols rows
        ≡ sum_over_cells_of_first_rows (outer_north_south_side_count numbers n) cols rows
    ends = rows_all _ _ cols rows (λ r c. ends_is j m numbers n r c clumping)

    flanks : sum_over_cells_of_first_rows (λ r c. value_or_0_outside_patch numbers n r c
        (outer_west_east_side_count_of_cell m (0 + r) (0 + c))) cols rows
        ≡ sum_over_cells_of_first_rows (outer_west_east_side_count numbers n) cols rows
    flanks = rows_all _ _ cols rows (λ r c. flanks_is j m numbers n r c clumping)

    cores : sum_over_cells_of_first_rows (λ r c. value_or_0_outside_patch numbers n r c
        (one_if_cell_is_core m depth (0 + r) (0 + c))) cols rows
        ≡ sum_over_cells_of_first_rows (λ r c. pick (are_cells_within_steps_in_patch numbers n depth r c) 1 0) cols rows
    cores = rows_all _ _ cols rows (λ r c. cores_is j m numbers depth n r c clumping)

    to : AreMeasuresOfPatchInTile m position_of_full_map numbers depth n patch
        → AreMeasuresOfPatch m numbers depth n patch
    to h = record {
      class = λ r c of. sym (class_is m r c) ∙ h.class r c of;
      cells = h.cells;
      ends = h.ends ∙ ends;
      flanks = h.flanks ∙ flanks;
      core = h.core ∙ cores;
      first_row = smallest_is _ _ patch.first_row (row_to numbers n) (row_from numbers n) h.first_row;
      last_row = largest_is _ _ patch.last_row (row_to numbers n) (row_from numbers n) h.last_row;
      first_col = smallest_is _ _ patch.first_col (col_to numbers n) (col_from numbers n) h.first_col;
      last_col = largest_is _ _ patch.last_col (col_to numbers n) (col_from numbers n) h.last_col;
    }

    from : AreMeasuresOfPatch m numbers depth n patch
        → AreMeasuresOfPatchInTile m position_of_full_map numbers depth n patch
    from h = record {
      class = λ r c of. class_is m r c ∙ h.class r c of;
      cells = h.cells;
      ends = h.ends ∙ sym ends;
      flanks = h.flanks ∙ sym flanks;
      core = h.core ∙ sym cores;
      first_row = smallest_is _ _ patch.first_row (row_from numbers n) (row_to numbers n) h.first_row;
      last_row = largest_is _ _ patch.last_row (row_from numbers n) (row_to numbers n) h.last_row;
      first_col = smallest_is _ _ patch.first_col (col_from numbers n) (col_to numbers n) h.first_col;
      last_col = largest_is _ _ patch.last_col (col_from numbers n) (col_to numbers n) h.last_col;
    }

pub all_of_full_map : (j : Joining) (m numbers : Grid) (depth : ℕ) (patches : List Patch) → IsClumpMapOf j m numbers
    → AreMeasuresOfAllPatchesInTile m position_of_full_map numbers depth patches
    → AreMeasuresOfAllPatches m numbers depth patches
all_of_full_map j m numbers depth patches clumping h = record {
  each = λ k p is. (full_map j m numbers depth (k + 1) p clumping).0 (h.each k p is);
  all = h.all;
}
