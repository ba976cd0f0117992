-- A map that contains a tile with a halo has the cells of the full map near the tile.
use Rattle.std.proofs.Common.{◌≡◌, ℕ, ℤ, zero, suc, pos, ◌+◌, ◌-◌, ◌<◌, ◌≤◌, ◌↔◌, Bool, true, false, Some, refl}
use Rattle.std.proofs.Common.{ap, sym, ◌∙◌, inl, inr, ◌⊎◌, arith}
use Rattle.cell_core_values.specs.Region.{RegionValue}
use Rattle.cell_core.specs.Grid.{Grid, CellValue, cell_at}
use Rattle.cell_clumps.proofs.StartLemmas.{inside_map}
use Rattle.cell_clumps.specs.parts.CellPlaces.{position_at_row_and_column}
use Rattle.cell_patches.specs.declared.patch.Patch.{Patch}
use Rattle.cell_patches.specs.declared.tile_position.TilePosition.{TilePosition}
use Rattle.cell_patches.specs.Patches.{has_value, is_in_patch, north_cell_in_map_or_null, west_cell_in_map_or_null}
use Rattle.cell_patches.specs.Patches.{value_or_0_outside_patch, do_cells_within_steps_have_value}
use Rattle.cell_patches.specs.Patches.{sum_over_cells_of_first_rows}
use Rattle.cell_patches.specs.TilePatches.{one_if_side_leaves_category, outer_north_south_side_count_of_cell}
use Rattle.cell_patches.specs.TilePatches.{outer_west_east_side_count_of_cell, one_if_cell_is_core}
use Rattle.cell_patches.specs.TilePatches.{AreMeasuresOfPatchInTile, ContainsTileWithHalo, IsNearTile}
use Rattle.cell_patches.specs.TilePatches.{position_in_its_full_map}
use Rattle.cell_patches.specs.TilePatchLaw.{HaloDeterminesMeasures}
use Rattle.cell_patches.proofs.InsideLemmas.{of_from, of_to, IsWithin, within_from, within_to}
use Rattle.cell_patches.proofs.PassLemmas.{pick}
use Rattle.cell_patches.proofs.SumLemmas.{rows_all}
use Rattle.cell_patches.proofs.FullMapLemmas.{same_tests}

-- the first row, or the first column, of a part in the full map
abbrev pub row_of_part : TilePosition → ℕ
row_of_part position = position.first_row - position.top

abbrev pub col_of_part : TilePosition → ℕ
col_of_part position = position.first_col - position.left

-- a cell of the part near the tile, at its row and column in the full map
near_cell : (whole part : Grid) (position : TilePosition) (tile : RegionValue) (depth a b x y : ℕ)
    → ContainsTileWithHalo whole part position tile depth → IsNearTile depth position.top tile.rows a
    → IsNearTile depth position.left tile.cols b → row_of_part position + a ≡ x → col_of_part position + b ≡ y
    → cell_at part a b ≡ cell_at whole x y
near_cell whole part position tile depth a b x y h high wide row col =
    h.cells a b high wide
    ∙ ap (λ z. cell_at whole z (col_of_part position + b)) row ∙ ap (cell_at whole x) col

-- a cell of the tile: its row and column in the part, and in the full map
record IsCellOfTile (position : TilePosition) (tile : RegionValue) (a b x y : ℕ) : Type 0 where
  top : position.top ≤ a
  left : position.left ≤ b
  rows : a < position.top + tile.rows
  cols : b < position.left + tile.cols
  row : row_of_part position + a ≡ x
  col : col_of_part position + b ≡ y

-- a row or column at most `depth` away from one of the tile is near the tile
near_tile : (depth start size i j : ℕ) → start ≤ i → i < start + size → i ≤ j + depth → j ≤ i + depth
    → IsNearTile depth start size j
near_tile depth start size i j from to below above = record { before = omega arith; after = omega arith }

-- the cell north of a cell of the tile, and the cell west of it
north_is : (whole part : Grid) (position : TilePosition) (tile : RegionValue) (depth a b x y : ℕ)
    → ContainsTileWithHalo whole part position tile depth → 0 < depth → IsCellOfTile position tile a b x y
    → north_cell_in_map_or_null part a b ≡ north_cell_in_map_or_null whole x y
north_is whole part position tile depth zero b zero y h some at = refl
north_is whole part position tile depth zero b (suc x) y h some at = absurd (by_case h.north)
  where
    by_case : (position.top ≡ position.first_row) ⊎ (depth ≤ position.top) → ⊥
    by_case (inl e) = omega (arith, at.top, at.row)
    by_case (inr le) = omega (arith, at.top)
north_is whole part position tile depth (suc a) b zero y h some at = absurd (let no : ⊥ = omega (arith, at.row) in no)
north_is whole part position tile depth (suc a) b (suc x) y h some at =
    near_cell whole part position tile depth a b x y h
    (near_tile depth position.top tile.rows (suc a) a at.top at.rows (omega arith) (omega arith))
    (near_tile depth position.left tile.cols b b at.left at.cols (omega arith) (omega arith)) (omega (arith, at.row))
    at.col

west_is : (whole part : Grid) (position : TilePosition) (tile : RegionValue) (depth a b x y : ℕ)
    → ContainsTileWithHalo whole part position tile depth → 0 < depth → IsCellOfTile position tile a b x y
    → west_cell_in_map_or_null part a b ≡ west_cell_in_map_or_null whole x y
west_is whole part position tile depth a zero x zero h some at = refl
west_is whole part position tile depth a zero x (suc y) h some at = absurd (by_case h.west)
  where
    by_case : (position.left ≡ position.first_col) ⊎ (depth ≤ position.left) → ⊥
    by_case (inl e) = omega (arith, at.left, at.col)
    by_case (inr le) = omega (arith, at.left)
west_is whole part position tile depth a (suc b) x zero h some at = absurd (let no : ⊥ = omega (arith, at.col) in no)
west_is whole part position tile depth a (suc b) x (suc y) h some at =
    near_cell whole part position tile depth a b x y h
    (near_tile depth position.top tile.rows a a at.top at.rows (omega arith) (omega arith))
    (near_tile depth position.left tile.cols (suc b) b at.left at.cols (omega arith) (omega arith)) at.row
    (omega (arith, at.col))

-- the sides of a cell of the tile
sides_is : (cell other x y : CellValue) → cell ≡ other → x ≡ y
    → one_if_side_leaves_category cell x ≡ one_if_side_leaves_category other y
sides_is cell other x y one two =
    ap (λ (z : CellValue). one_if_side_leaves_category z x) one
    ∙ ap (λ (z : CellValue). one_if_side_leaves_category other z) two

ends_is : (whole part : Grid) (position : TilePosition) (tile : RegionValue) (depth a b x y : ℕ)
    → ContainsTileWithHalo whole part position tile depth → 0 < depth → IsCellOfTile position tile a b x y
    → outer_north_south_side_count_of_cell part a b ≡ outer_north_south_side_count_of_cell whole x y
ends_is whole part position tile depth a b x y h some at =
    let wide = near_tile depth position.left tile.cols b b at.left at.cols (omega arith) (omega arith) in
    let near = near_tile depth position.top tile.rows a in
    let here = near_cell whole part position tile depth a b x y h
    (near a at.top at.rows (omega arith) (omega arith)) wide at.row at.col in
    let north = sides_is _ _ _ _ here (north_is whole part position tile depth a b x y h some at) in
    let south = sides_is _ _ _ _ here
    (near_cell whole part position tile depth (a + 1) b (x + 1) y h
    (near (a + 1) at.top at.rows (omega arith) (omega arith)) wide (omega (arith, at.row)) at.col) in
    omega arith

flanks_is : (whole part : Grid) (position : TilePosition) (tile : RegionValue) (depth a b x y : ℕ)
    → ContainsTileWithHalo whole part position tile depth → 0 < depth → IsCellOfTile position tile a b x y
    → outer_west_east_side_count_of_cell part a b ≡ outer_west_east_side_count_of_cell whole x y
flanks_is whole part position tile depth a b x y h some at =
    let high = near_tile depth position.top tile.rows a a at.top at.rows (omega arith) (omega arith) in
    let near = near_tile depth position.left tile.cols b in
    let here = near_cell whole part position tile depth a b x y h high
    (near b at.left at.cols (omega arith) (omega arith)) at.row at.col in
    let west = sides_is _ _ _ _ here (west_is whole part position tile depth a b x y h some at) in
    let east = sides_is _ _ _ _ here
    (near_cell whole part position tile depth a (b + 1) x (y + 1) h high
    (near (b + 1) at.left at.cols (omega arith) (omega arith)) at.row (omega (arith, at.col))) in
    omega arith

-- the cells within `depth` steps of a cell of the tile have a category in the part if and only if they have it in the
-- full map
core_to : (whole part : Grid) (position : TilePosition) (tile : RegionValue) (depth a b x y : ℕ) (v : ℤ)
    → ContainsTileWithHalo whole part position tile depth → IsCellOfTile position tile a b x y
    → IsWithin part (Some v) depth a b → IsWithin whole (Some v) depth x y
core_to whole part position tile depth a b x y v h at w =
    let up = w.up in
    let left = w.left in
    let top = h.top in
    let first = h.left in
    let row = at.row in
    let col = at.col in
    let a_top = at.top in
    let b_left = at.left in
    record {
      up = omega arith;
      left = omega arith;
      all = λ c d near.
          let back_row : row_of_part position + (c - row_of_part position) ≡ c = omega arith in
          let back_col : col_of_part position + (d - col_of_part position) ≡ d = omega arith in
          let i = c - row_of_part position in
          let j = d - col_of_part position in
          there c d back_row back_col
          (near_tile depth position.top tile.rows a i at.top at.rows (omega arith) (omega arith))
          (near_tile depth position.left tile.cols b j at.left at.cols (omega arith) (omega arith))
          (w.all i j (omega arith));
    }
  where
    there : (c d : ℕ) → row_of_part position + (c - row_of_part position) ≡ c
        → col_of_part position + (d - col_of_part position) ≡ d
        → IsNearTile depth position.top tile.rows (c - row_of_part position)
        → IsNearTile depth position.left tile.cols (d - col_of_part position)
        → has_value part (Some v) (c - row_of_part position) (d - col_of_part position) ≡ true
        → has_value whole (Some v) c d ≡ true
    there c d row col high wide is =
        let e = of_to part (Some v) (c - row_of_part position) (d - col_of_part position) is in
        of_from whole (Some v) c d
        (ap (λ z. cell_at whole z d) (sym row)
        ∙ ap (cell_at whole (row_of_part position + (c - row_of_part position))) (sym col)
        ∙ sym (h.cells (c - row_of_part position) (d - col_of_part position) high wide) ∙ e)

core_from : (whole part : Grid) (position : TilePosition) (tile : RegionValue) (depth a b x y : ℕ) (v : ℤ)
    → ContainsTileWithHalo whole part position tile depth → IsCellOfTile position tile a b x y
    → IsWithin whole (Some v) depth x y → IsWithin part (Some v) depth a b
core_from whole part position tile depth a b x y v h at w =
    let row = at.row in
    let col = at.col in
    record {
      up = up h.north;
      left = left h.west;
      all = λ c d near.
          let is = w.all (row_of_part position + c) (col_of_part position + d) (omega arith) in
          of_from part (Some v) c d
          (near_cell whole part position tile depth c d (row_of_part position + c) (col_of_part position + d) h
          (near_tile depth position.top tile.rows a c at.top at.rows (omega arith) (omega arith))
          (near_tile depth position.left tile.cols b d at.left at.cols (omega arith) (omega arith)) refl refl
          ∙ of_to whole (Some v) (row_of_part position + c) (col_of_part position + d) is);
    }
  where
    up : (position.top ≡ position.first_row) ⊎ (depth ≤ position.top) → depth ≤ a
    up (inl e) = let row = at.row in let most = w.up in omega arith
    up (inr le) = let top = at.top in omega arith

    left : (position.left ≡ position.first_col) ⊎ (depth ≤ position.left) → depth ≤ b
    left (inl e) = let col = at.col in let most = w.left in omega arith
    left (inr le) = let first = at.left in omega arith

cores_is : (whole part : Grid) (position : TilePosition) (tile : RegionValue) (depth a b x y : ℕ) (v : ℤ)
    → ContainsTileWithHalo whole part position tile depth → IsCellOfTile position tile a b x y
    → cell_at part a b ≡ Some v → cell_at whole x y ≡ Some v
    → one_if_cell_is_core part depth a b ≡ one_if_cell_is_core whole depth x y
cores_is whole part position tile depth a b x y v h at one other =
    ap (λ (z : CellValue). pick (do_cells_within_steps_have_value part z depth a b) 1 0) one
    ∙ ap (λ (z : Bool). pick z 1 0) (same_tests
    (do_cells_within_steps_have_value part (Some v) depth a b)
    (do_cells_within_steps_have_value whole (Some v) depth x y)
    (λ is. within_to whole (Some v) depth x y
    (core_to whole part position tile depth a b x y v h at (within_from part (Some v) depth a b is)))
    (λ is. within_to part (Some v) depth a b
    (core_from whole part position tile depth a b x y v h at (within_from whole (Some v) depth x y is))))
    ∙ ap (λ (z : CellValue). pick (do_cells_within_steps_have_value whole z depth x y) 1 0) (sym other)

-- values that are equal at the cells of a patch
value_is : (numbers : Grid) (n r c one other : ℕ) → (is_in_patch numbers n r c ≡ true → one ≡ other)
    → value_or_0_outside_patch numbers n r c one ≡ value_or_0_outside_patch numbers n r c other
value_is numbers n r c one other same = by_case (is_in_patch numbers n r c) refl
  where
    by_case : (x : Bool) → is_in_patch numbers n r c ≡ x → pick x one 0 ≡ pick x other 0
    by_case false e = refl
    by_case true e = same e

-- no cell of the patch is outside its map
abbrev pub IsPatchInsideMap : Grid → ℕ → Type 0
IsPatchInsideMap numbers n =
    (r c : ℕ) → is_in_patch numbers n r c ≡ true → (r < numbers.region.rows) × (c < numbers.region.cols)

pub halo_inside : (whole part numbers : Grid) (position : TilePosition) (depth n : ℕ) (patch : Patch) → 0 < depth
    → IsPatchInsideMap numbers n → ContainsTileWithHalo whole part position numbers.region depth
    → AreMeasuresOfPatchInTile part position numbers depth n patch
    ↔ AreMeasuresOfPatchInTile whole (position_in_its_full_map position) numbers depth n patch
halo_inside whole part numbers position depth n patch some inside h = (to, from)
  where
    cols : ℕ
    cols = numbers.region.cols

    rows : ℕ
    rows = numbers.region.rows

    at : (r c : ℕ) → is_in_patch numbers n r c ≡ true
        → IsCellOfTile position numbers.region (position.top + r) (position.left + c) (position.first_row + r)
        (position.first_col + c)
    at r c of =
        let within = inside r c of in
        let row = within.0 in
        let col = within.1 in
        let top = h.top in
        let left = h.left in
        record {
          top = omega arith;
          left = omega arith;
          rows = omega arith;
          cols = omega arith;
          row = omega arith;
          col = omega arith;
        }

    class_is : (r c : ℕ) → is_in_patch numbers n r c ≡ true
        → cell_at part (position.top + r) (position.left + c)
        ≡ cell_at whole (position.first_row + r) (position.first_col + c)
    class_is r c of =
        let place = at r c of in
        near_cell whole part position numbers.region depth (position.top + r) (position.left + c) _ _ h
        (near_tile depth position.top numbers.region.rows (position.top + r) (position.top + r) place.top place.rows
        (omega arith) (omega arith))
        (near_tile depth position.left numbers.region.cols (position.left + c) (position.left + c) place.left place.cols
        (omega arith) (omega arith)) place.row place.col

    ends : sum_over_cells_of_first_rows (λ r c. value_or_0_outside_patch numbers n r c
        (outer_north_south_side_count_of_cell part (position.top + r) (position.left + c))) cols rows
        ≡ sum_over_cells_of_first_rows (λ r c. value_or_0_outside_patch numbers n r c
        (outer_north_south_side_count_of_cell whole (position.first_row + r) (position.first_col + c))) cols rows
    ends = rows_all _ _ cols rows (λ r c. value_is numbers n r c _ _
        (λ of. ends_is whole part position numbers.region depth _ _ _ _ h some (at r c of)))

    flanks : sum_over_cells_of_first_rows (λ r c. value_or_0_outside_patch numbers n r c
        (outer_west_east_side_count_of_cell part (position.top + r) (position.left + c))) cols rows
        ≡ sum_over_cells_of_first_rows (λ r c. value_or_0_outside_patch numbers n r c
        (outer_west_east_side_count_of_cell whole (position.first_row + r) (position.first_col + c))) cols rows
    flanks = rows_all _ _ cols rows (λ r c. value_is numbers n r c _ _
        (λ of. flanks_is whole part position numbers.region depth _ _ _ _ h some (at r c of)))

    cores : ((r c : ℕ) → is_in_patch numbers n r c ≡ true
        → cell_at part (position.top + r) (position.left + c) ≡ Some patch.class)
        → sum_over_cells_of_first_rows (λ r c. value_or_0_outside_patch numbers n r c
        (one_if_cell_is_core part depth (position.top + r) (position.left + c))) cols rows
        ≡ sum_over_cells_of_first_rows (λ r c. value_or_0_outside_patch numbers n r c
        (one_if_cell_is_core whole depth (position.first_row + r) (position.first_col + c))) cols rows
    cores class = rows_all _ _ cols rows (λ r c. value_is numbers n r c _ _
        (λ of. cores_is whole part position numbers.region depth _ _ _ _ patch.class h (at r c of) (class r c of)
        (sym (class_is r c of) ∙ class r c of)))

    to : AreMeasuresOfPatchInTile part position numbers depth n patch
        → AreMeasuresOfPatchInTile whole (position_in_its_full_map position) numbers depth n patch
    to g = record {
      class = λ r c of. sym (class_is r c of) ∙ g.class r c of;
      cells = g.cells;
      ends = g.ends ∙ ends;
      flanks = g.flanks ∙ flanks;
      core = g.core ∙ cores g.class;
      first_row = g.first_row;
      last_row = g.last_row;
      first_col = g.first_col;
      last_col = g.last_col;
    }

    from : AreMeasuresOfPatchInTile whole (position_in_its_full_map position) numbers depth n patch
        → AreMeasuresOfPatchInTile part position numbers depth n patch
    from g = record {
      class = λ r c of. class_is r c of ∙ g.class r c of;
      cells = g.cells;
      ends = g.ends ∙ sym ends;
      flanks = g.flanks ∙ sym flanks;
      core = g.core ∙ sym (cores (λ r c of. class_is r c of ∙ g.class r c of));
      first_row = g.first_row;
      last_row = g.last_row;
      first_col = g.first_col;
      last_col = g.last_col;
    }

pub halo : HaloDeterminesMeasures
halo whole part numbers position depth n patch some filled =
    halo_inside whole part numbers position depth n patch some
    (λ r c of. inside_map numbers (position_at_row_and_column r c) (pos n) filled
    (of_to numbers (Some (pos n)) r c of))
