-- All cells of a tile are read and measured.
use Rattle.std.proofs.Common.{◌≡◌, ℕ, ℤ, pos, ◌+◌, ◌-◌, ◌<◌, ◌≤◌, Bool, true, false, List, length, Some, None, IsSome}
use Rattle.std.proofs.Common.{[], zero, suc, get_or, refl, ap, sym, ◌∙◌, arith, subst, inl, inr, ◌⊎◌}
use Rattle.std.specs.Prelude.{slice_get}
use Rattle.std.proofs.lemmas.Bool.{cases_lt, le-leb}
use Rattle.std.proofs.lemmas.Option.{get_or_from_slice_get, slice_get_cases}
use Rattle.cell_core_values.specs.Region.{IsValidRegion, RegionValue}
use Rattle.cell_core.specs.Grid.{Grid, CellValue, cell_at, RowsFillRegion}
use Rattle.cell_clumps.specs.declared.clump.Joining.{Joining}
use Rattle.cell_clumps.specs.Clumps.{Position, IsClumpMapOf, cell_at_position}
use Rattle.cell_clumps.specs.ClumpLaw.{ClumpNumbersHaveNoGaps}
use Rattle.cell_clumps.proofs.PathLemmas.{AreJoined-first, AreJoined-last}
use Rattle.cell_clumps.proofs.StartLemmas.{inside_map}
use Rattle.cell_clumps.specs.parts.CellPlaces.{position_at_row_and_column}
use Rattle.cell_patches.specs.declared.patch.Patch.{Patch}
use Rattle.cell_patches.specs.declared.tile_position.TilePosition.{TilePosition}
use Rattle.cell_patches.specs.Patches.{is_in_patch, do_cells_within_steps_have_value, sum_over_cells_of_first_rows}
use Rattle.cell_patches.specs.TilePatches.{AreMeasuresOfPatchInTile, AreMeasuresOfAllPatchesInTile, IsClumpMapOfTile}
use Rattle.cell_patches.specs.TilePatches.{IsTileInsideMap, TilePatchHasCellInRow, TilePatchHasCellInColumn}
use Rattle.cell_patches.specs.TilePatches.{one_if_cell_is_core, outer_north_south_side_count_of_cell}
use Rattle.cell_patches.specs.TilePatches.{outer_west_east_side_count_of_cell}
use Rattle.cell_patches.specs.parts.Passes.{AreValidPatchNumbers, TileOfMap, AreMeasuresOfPatchUpToCell}
use Rattle.cell_patches.specs.parts.Passes.{AreMeasuresOfPatchesUpToCell, AreCoresOfPatchesUpToCell}
use Rattle.cell_patches.specs.parts.Passes.{AreDiamondStepsOfRow, AreDiamondStepsOfRowAbove}
use Rattle.cell_patches.specs.parts.Passes.{value_of_cell_in_tile_patch, unread, patch_at_index_or_unread}
use Rattle.cell_patches.specs.parts.Passes.{CellPrecedesCellInRowOrder, tile_rows_before, IsMeasuringStateBeforeRow}
use Rattle.cell_patches.specs.parts.Passes.{sum_over_earlier_cells_of_patch, cell_rows_above_or_null}
use Rattle.cell_patches.proofs.InsideLemmas.{of_from, of_to, inside_south}
use Rattle.cell_patches.proofs.PassLemmas.{pick, all_none, cores_none}
use Rattle.cell_patches.proofs.SumLemmas.{earlier_all, rows_end}

-- a numbered cell is not null on the map
pub some_class : (j : Joining) (m numbers : Grid) (p : Position) (n : ℕ) → IsClumpMapOf j m numbers
    → cell_at_position numbers p ≡ Some (pos n) → (v : ℤ) × (cell_at_position m p ≡ Some v)
some_class j m numbers p n clumping is = by_case (cell_at_position m p) refl
  where
    by_case : (x : CellValue) → cell_at_position m p ≡ x → (v : ℤ) × (cell_at_position m p ≡ Some v)
    by_case None e = absurd (let f : None ≡ Some (pos n) = sym (clumping.nulls p e) ∙ is in cc)
    by_case (Some v) e = (v, e)

pub some_is : (x : CellValue) (v : ℤ) → x ≡ Some v → IsSome x
some_is x v e = rw e refl

-- two cells of one patch have the same category
pub same_class : (j : Joining) (m numbers : Grid) (p q : Position) (n : ℕ) → IsClumpMapOf j m numbers
    → cell_at_position numbers p ≡ Some (pos n) → cell_at_position numbers q ≡ Some (pos n)
    → cell_at_position m p ≡ cell_at_position m q
same_class j m numbers p q n clumping one other =
    let v = some_class j m numbers p n clumping one in
    let w = some_class j m numbers q n clumping other in
    let joined = (clumping.same p q (some_is _ v.0 v.1) (some_is _ w.0 w.1)).0 (one ∙ sym other) in
    AreJoined-first j m p q joined ∙ sym (AreJoined-last j m p q joined)

-- the number of a cell is at least 1
least_is_one : (j : Joining) (m numbers : Grid) (p : Position) (v : ℤ) → ClumpNumbersHaveNoGaps
    → IsClumpMapOf j m numbers → cell_at_position numbers p ≡ Some v → (n : ℕ) × (v ≡ pos (n + 1))
least_is_one j m numbers p v law clumping is =
    let t = law j m numbers clumping p (some_is _ v is) in
    let n : ℕ = t.0 in
    let least = t.2 in
    let back : n ≡ (n - 1) + 1 = omega arith in
    let same : v ≡ pos n = (let both : Some v ≡ Some (pos n) = sym is ∙ t.1 in cc) in
    (n - 1, same ∙ ap pos back)

pub numbered : (j : Joining) (m numbers : Grid) (position : TilePosition) → ClumpNumbersHaveNoGaps
    → IsClumpMapOfTile j m position numbers → IsTileInsideMap m.region position numbers.region
    → RowsFillRegion numbers.region numbers.rows → RowsFillRegion m.region m.rows → IsValidRegion m.region
    → AreValidPatchNumbers (record { map = m; position = position; numbers = numbers })
numbered j m numbers position law of_tile inside filled map_filled region = record {
  least = λ a b v is. least_is_one j tile numbers (position_at_row_and_column a b) v law clumping is;
  numbered = λ a b v a_lt b_lt is.
      let p = position_at_row_and_column a b in
      let there = cell_is a b a_lt b_lt ∙ is in
      let found = clumping.numbered p (some_is _ v there) in
      let n = least_is_one j tile numbers p (pos found.0) law clumping found.2 in
      (n.0, found.2 ∙ ap Some n.1);
  alike = λ n a b x y one other.
      let one_is = of_to numbers (Some (pos n)) a b one in
      let other_is = of_to numbers (Some (pos n)) x y other in
      sym (cell_of a b n one_is)
      ∙ same_class j tile numbers (position_at_row_and_column a b) (position_at_row_and_column x y) n clumping one_is
      other_is
      ∙ cell_of x y n other_is;
  classes = λ a b n is.
      let v = some_class j tile numbers (position_at_row_and_column a b) n clumping is in
      (v.0, sym (cell_of a b n is) ∙ v.1);
  rows = λ a b n is. (inside_map numbers (position_at_row_and_column a b) (pos n) filled is).0;
  cols = λ a b n is. (inside_map numbers (position_at_row_and_column a b) (pos n) filled is).1;
  inside = inside;
  filled = map_filled;
  rows_most = region.rows_most;
  cols_most = region.cols_most;
}
  where
    tile : Grid
    tile = of_tile.tile

    clumping : IsClumpMapOf j tile numbers
    clumping = of_tile.clumping

    cell_is : (a b : ℕ) → a < numbers.region.rows → b < numbers.region.cols
        → cell_at tile a b ≡ cell_at m (position.top + a) (position.left + b)
    cell_is a b a_lt b_lt =
        let rows = ap (λ (g : RegionValue). g.rows) clumping.region in
        let cols = ap (λ (g : RegionValue). g.cols) clumping.region in
        of_tile.cells a b (omega arith) (omega arith)

    cell_of : (a b n : ℕ) → cell_at numbers a b ≡ Some (pos n)
        → cell_at tile a b ≡ cell_at m (position.top + a) (position.left + b)
    cell_of a b n is =
        let there = inside_map numbers (position_at_row_and_column a b) (pos n) filled is in
        cell_is a b there.0 there.1

-- the steps of a row are the steps of the row above the next row
pub steps_next_one : (m : Grid) (r : ℕ) (steps : List ℕ) → AreDiamondStepsOfRow m r steps
    → AreDiamondStepsOfRowAbove 1 m (r + 1) steps
steps_next_one m r steps h a e = subst (λ x. AreDiamondStepsOfRow m x steps) (let f : r ≡ a = omega arith in f) h

pub steps_next_two : (m : Grid) (r : ℕ) (steps : List ℕ) → AreDiamondStepsOfRowAbove 1 m r steps
    → AreDiamondStepsOfRowAbove 2 m (r + 1) steps
steps_next_two m r steps h a e = h a (omega arith)

pub steps_none_above : (rows : ℕ) (m : Grid) (steps : List ℕ) → 0 < rows → AreDiamondStepsOfRowAbove rows m 0 steps
steps_none_above rows m steps some a e = absurd (omega arith)

-- the rows above a row are the rows above the next row
pub above_next_two : (m : Grid) (r c : ℕ) → cell_rows_above_or_null 1 m r c ≡ cell_rows_above_or_null 2 m (r + 1) c
above_next_two m zero c = refl
above_next_two m (suc r) c =
    let one = le-leb 1 (suc r) (omega arith) in
    let two = le-leb 2 (suc r + 1) (omega arith) in
    let row : suc r - 1 ≡ r = omega arith in
    let next : suc r + 1 - 2 ≡ r = omega arith in
    rw (one, two, row, next) refl

pub above_next_one : (m : Grid) (r c : ℕ) → cell_at m r c ≡ cell_rows_above_or_null 1 m (r + 1) c
above_next_one m r c =
    let one = le-leb 1 (r + 1) (omega arith) in
    let row : r + 1 - 1 ≡ r = omega arith in
    rw (one, row) refl

-- before the first row, no patch was read
pub state_first : (t : TileOfMap) (depth : ℕ) (patches : List Patch) → patches ≡ []
    → IsMeasuringStateBeforeRow t depth 0 patches
state_first t depth patches none = rw none (record {
  read = subst (λ x. AreMeasuresOfPatchesUpToCell t x 0 [])
      (let e : 0 ≡ tile_rows_before t.numbers t.position.top 0 = omega arith in e)
      (all_none t [] refl (λ k. refl));
  cores = subst (λ x. AreCoresOfPatchesUpToCell t depth x 0 [])
      (let e : 0 ≡ tile_rows_before t.numbers (t.position.top + depth) 0 = omega arith in e)
      (cores_none t depth [] (λ k. refl));
})

-- no cell is in the core of a patch below the rows whose cores were counted
no_core : (t : TileOfMap) (depth n a b : ℕ) → AreValidPatchNumbers t
    → tile_rows_before t.numbers (t.position.top + depth) t.map.region.rows ≤ a
    → value_of_cell_in_tile_patch t n (one_if_cell_is_core t.map depth) a b ≡ 0
no_core t depth n a b valid past = by_case (is_in_patch t.numbers n a b) refl
  where
    center : ℕ
    center = t.position.top + a

    at : ℕ
    at = t.position.left + b

    never : is_in_patch t.numbers n a b ≡ true
        → do_cells_within_steps_have_value t.map (cell_at t.map center at) depth center at ≡ true → ⊥
    never of within =
        let v = valid.classes a b n (of_to t.numbers (Some (pos n)) a b of) in
        let row = valid.rows a b n (of_to t.numbers (Some (pos n)) a b of) in
        let whole = subst (λ (x : CellValue). do_cells_within_steps_have_value t.map x depth center at ≡ true) v.1
        within in
        let lowest = of_to t.map (Some v.0) (center + depth) at
        (inside_south t.map (Some v.0) depth center at whole) in
        let there = (inside_map t.map (position_at_row_and_column (center + depth) at) v.0 valid.filled lowest).0 in
        omega arith

    inside : (x : Bool) → is_in_patch t.numbers n a b ≡ true
        → do_cells_within_steps_have_value t.map (cell_at t.map center at) depth center at ≡ x → pick x 1 0 ≡ 0
    inside false of e = refl
    inside true of e = absurd (never of e)

    by_case : (x : Bool) → is_in_patch t.numbers n a b ≡ x → pick x (one_if_cell_is_core t.map depth center at) 0 ≡ 0
    by_case false e = refl
    by_case true e = inside (do_cells_within_steps_have_value t.map (cell_at t.map center at) depth center at) e refl

-- after all rows of the map are read, the cores of all rows of the tile are counted
pub cores_all : (t : TileOfMap) (depth n core : ℕ) → AreValidPatchNumbers t
    → core ≡ sum_over_earlier_cells_of_patch t n (one_if_cell_is_core t.map depth)
    (tile_rows_before t.numbers (t.position.top + depth) t.map.region.rows) 0
    → core ≡ sum_over_cells_of_first_rows (value_of_cell_in_tile_patch t n (one_if_cell_is_core t.map depth))
    t.numbers.region.cols t.numbers.region.rows
cores_all t depth n core valid h =
    let cols = t.numbers.region.cols in
    let rows = t.numbers.region.rows in
    let counted : ℕ = tile_rows_before t.numbers (t.position.top + depth) t.map.region.rows in
    let all : counted + (rows - counted) ≡ rows = omega arith in
    h ∙ earlier_all cols (value_of_cell_in_tile_patch t n (one_if_cell_is_core t.map depth)) counted
    ∙ sym (rows_end (value_of_cell_in_tile_patch t n (one_if_cell_is_core t.map depth)) cols counted (rows - counted)
    (λ a b past. no_core t depth n a b valid past))
    ∙ ap (sum_over_cells_of_first_rows (value_of_cell_in_tile_patch t n (one_if_cell_is_core t.map depth)) cols) all

-- after all cells are read, a patch is read completely
pub read_all : (t : TileOfMap) (depth n : ℕ) (p : Patch) → AreValidPatchNumbers t → (a b : ℕ)
    → is_in_patch t.numbers n a b ≡ true
    → AreMeasuresOfPatchUpToCell t n t.numbers.region.rows 0 p
    → p.core ≡ sum_over_earlier_cells_of_patch t n (one_if_cell_is_core t.map depth)
    (tile_rows_before t.numbers (t.position.top + depth) t.map.region.rows) 0
    → AreMeasuresOfPatchInTile t.map t.position t.numbers depth n p
read_all t depth n p are a b here h core =
    let numbers = t.numbers in
    let cols = numbers.region.cols in
    let rows = numbers.region.rows in
    let before : (x y : ℕ) → is_in_patch numbers n x y ≡ true → CellPrecedesCellInRowOrder x y rows 0 =
    λ x y of. inl (are.rows x y n (of_to numbers (Some (pos n)) x y of)) in
    let row_here = h.rows a b (before a b here) here in
    let col_here = h.cols a b (before a b here) here in
    let last_row_most = are.inside.last_row in
    let last_col_most = are.inside.last_col in
    let row_lt = are.rows a b n (of_to numbers (Some (pos n)) a b here) in
    let col_lt = are.cols a b n (of_to numbers (Some (pos n)) a b here) in
    let lo_row = row_here.0 in
    let hi_row = row_here.1 in
    let lo_col = col_here.0 in
    let hi_col = col_here.1 in
    record {
      class = λ x y of. h.class x y (before x y of) of;
      cells = h.cells ∙ earlier_all cols (value_of_cell_in_tile_patch t n (λ a b. 1)) rows;
      ends = h.ends
          ∙ earlier_all cols (value_of_cell_in_tile_patch t n (outer_north_south_side_count_of_cell t.map)) rows;
      flanks = h.flanks
          ∙ earlier_all cols (value_of_cell_in_tile_patch t n (outer_west_east_side_count_of_cell t.map)) rows;
      core = cores_all t depth n p.core are core;
      first_row =
          record {
            some = h.first_row (omega arith);
            least = λ x has. row_least x has.0 has.1 (h.rows has.0 has.2.0 (before has.0 has.2.0 has.2.1) has.2.1);
          };
      last_row =
          record {
            some = last_row (cases_lt 0 p.last_row) hi_row;
            most = λ x has. row_most x has.0 has.1 (h.rows has.0 has.2.0 (before has.0 has.2.0 has.2.1) has.2.1);
          };
      first_col =
          record {
            some = h.first_col (omega arith);
            least = λ y has. col_least y has.0 has.1 (h.cols has.2.0 has.0 (before has.2.0 has.0 has.2.1) has.2.1);
          };
      last_col =
          record {
            some = last_col (cases_lt 0 p.last_col) hi_col;
            most = λ y has. col_most y has.0 has.1 (h.cols has.2.0 has.0 (before has.2.0 has.0 has.2.1) has.2.1);
          };
    }
  where
    row_least : (x r : ℕ) → x ≡ t.position.first_row + r
        → (p.first_row ≤ t.position.first_row + r) × (t.position.first_row + r ≤ p.last_row) → p.first_row ≤ x
    row_least x r e both = let lo = both.0 in omega arith

    row_most : (x r : ℕ) → x ≡ t.position.first_row + r
        → (p.first_row ≤ t.position.first_row + r) × (t.position.first_row + r ≤ p.last_row) → x ≤ p.last_row
    row_most x r e both = let hi = both.1 in omega arith

    col_least : (x c : ℕ) → x ≡ t.position.first_col + c
        → (p.first_col ≤ t.position.first_col + c) × (t.position.first_col + c ≤ p.last_col) → p.first_col ≤ x
    col_least x c e both = let lo = both.0 in omega arith

    col_most : (x c : ℕ) → x ≡ t.position.first_col + c
        → (p.first_col ≤ t.position.first_col + c) × (t.position.first_col + c ≤ p.last_col) → x ≤ p.last_col
    col_most x c e both = let hi = both.1 in omega arith

    last_row : (0 < p.last_row) ⊎ (p.last_row ≤ 0) → t.position.first_row + a ≤ p.last_row
        → TilePatchHasCellInRow t.position t.numbers n p.last_row
    last_row (inl lt) most = h.last_row lt
    last_row (inr le) most = (a, omega arith, (b, here))

    last_col : (0 < p.last_col) ⊎ (p.last_col ≤ 0) → t.position.first_col + b ≤ p.last_col
        → TilePatchHasCellInColumn t.position t.numbers n p.last_col
    last_col (inl lt) most = h.last_col lt
    last_col (inr le) most = (b, omega arith, (a, here))

-- all patches are measured after all rows of the map are read
pub measured_all : (j : Joining) (m numbers : Grid) (position : TilePosition) (depth : ℕ) (patches : List Patch)
    → ClumpNumbersHaveNoGaps → IsClumpMapOfTile j m position numbers
    → AreValidPatchNumbers (record { map = m; position = position; numbers = numbers })
    → IsMeasuringStateBeforeRow (record { map = m; position = position; numbers = numbers }) depth m.region.rows patches
    → AreMeasuresOfAllPatchesInTile m position numbers depth patches
measured_all j m numbers position depth patches law of_tile are state = record {
  each = each;
  all = λ a b n is. read.all a b n (inl (are.rows a b n is)) is;
}
  where
    t : TileOfMap
    t = record { map = m; position = position; numbers = numbers }

    read : AreMeasuresOfPatchesUpToCell t numbers.region.rows 0 patches
    read =
        let inside = are.inside.rows in
        subst (λ x. AreMeasuresOfPatchesUpToCell t x 0 patches)
        (let e : tile_rows_before numbers position.top m.region.rows ≡ numbers.region.rows = omega arith in e)
        state.read

    each : (k : ℕ) (p : Patch) → slice_get patches k ≡ Some p
        → AreMeasuresOfPatchInTile m position numbers depth (k + 1) p
    each k p is =
        let lt = within (slice_get_cases patches k).1 in
        let last = read.last (omega arith) in
        let last_is : cell_at numbers last.0 last.1.0 ≡ Some (pos (length patches)) = last.1.1 in
        let s =
        law j of_tile.tile numbers of_tile.clumping (position_at_row_and_column last.0 last.1.0)
        (some_is _ _ last_is) in
        let same : length patches ≡ s.0 =
        (let both : Some (pos (length patches)) ≡ Some (pos s.0) = sym last_is ∙ s.1 in cc) in
        let q = s.3 (k + 1) (omega arith) (omega arith) in
        subst (AreMeasuresOfPatchInTile m position numbers depth (k + 1)) (get_or_from_slice_get patches k p unread is)
        (read_all t depth (k + 1) (patch_at_index_or_unread patches k) are q.0.row q.0.col
        (of_from numbers (Some (pos (k + 1))) q.0.row q.0.col q.1) (read.each k) (state.cores k))
      where
        within : ((x : Patch) × (k < length patches) × (slice_get patches k ≡ Some x) × (get_or patches k x ≡ x))
            ⊎ ((length patches ≤ k) × (slice_get patches k ≡ None)) → k < length patches
        within (inl w) = w.1
        within (inr w) = absurd (let f : None ≡ Some p = sym w.1 ∙ is in cc)
