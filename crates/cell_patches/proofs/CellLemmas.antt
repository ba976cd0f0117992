-- The values found in a run.
use Rattle.std.proofs.Common.{◌≡◌, ◌≢◌, ℕ, zero, suc, pos, ◌+◌, ◌-◌, ◌<◌, ◌≤◌, true, false, Some, None, get_or, refl}
use Rattle.std.proofs.Common.{ap, sym, ◌∙◌, arith, cond, List, length, subst}
use Rattle.std.specs.Option.{is_none}
use Rattle.std.proofs.lemmas.Bool.{false≢true, le-leb}
use Rattle.std.proofs.lemmas.List.{get_or_past}
use Rattle.cell_core_values.specs.Cell.{cell_eq-Decides}
use Rattle.cell_core.specs.Grid.{Grid, CellValue, cell_at}
use Rattle.cell_core.specs.Runs.{RunValue}
use Rattle.cell_patches.specs.declared.patch.Patch.{Patch}
use Rattle.cell_patches.specs.declared.patch.RunContribution.{RunContribution}
use Rattle.cell_patches.specs.declared.near_rows.RowsAroundRow.{RowsAroundRow}
use Rattle.cell_patches.specs.declared.tile_position.TilePosition.{TilePosition}
use Rattle.cell_patches.specs.Patches.{is_in_patch, north_cell_in_map_or_null, west_cell_in_map_or_null}
use Rattle.cell_patches.specs.Patches.{sum_over_first_columns}
use Rattle.cell_patches.specs.TilePatches.{one_if_side_leaves_category, outer_north_south_side_count_of_cell}
use Rattle.cell_patches.specs.TilePatches.{outer_west_east_side_count_of_cell}
use Rattle.cell_patches.specs.parts.Passes.{TileOfMap, CanMeasurePatchesInRun, IsSumOverRun}
use Rattle.cell_patches.specs.parts.Passes.{value_of_cell_in_tile_patch, outer_side_count_in_first_columns}
use Rattle.cell_patches.specs.parts.Passes.{IsRunContributionFromRows, AreRowsAroundRow}
use Rattle.cell_patches.specs.parts.Passes.{IsRunContributionToPatch, IsRunAddedToPatch, AreMeasuresOfPatchesUpToCell}
use Rattle.cell_patches.specs.parts.Passes.{PatchMeasuresCannotOverflow, cell_rows_above_or_null}
use Rattle.cell_patches.specs.parts.Passes.{west_cell_in_row_or_null, patch_at_index_or_unread}
use Rattle.cell_patches.proofs.InsideLemmas.{of_from}
use Rattle.cell_patches.proofs.SumLemmas.{run_of_equal, run_of_ends, run_of_flanks}
use Rattle.cell_patches.proofs.PassLemmas.{all_same, has_room}

-- the cell north of a cell, and the cell west of it
north_is : (m : Grid) (r c : ℕ) → cell_rows_above_or_null 1 m r c ≡ north_cell_in_map_or_null m r c
north_is m zero c = refl
north_is m (suc r) c =
    let t : suc r - 1 ≡ r = omega arith in let le = le-leb 1 (suc r) (omega arith) in rw (le, t) refl

west_is : (m : Grid) (r c : ℕ) (line : List CellValue) → ((b : ℕ) → get_or line b None ≡ cell_at m r b)
    → west_cell_in_row_or_null line c ≡ west_cell_in_map_or_null m r c
west_is m r zero line at = refl
west_is m r (suc c) line at = at c

-- the sides that lead out of a cell's category, computed from the rows around it
leads : (cell x y : CellValue) → x ≡ y → one_if_side_leaves_category cell x ≡ one_if_side_leaves_category cell y
leads cell x y e = ap (λ (z : CellValue). one_if_side_leaves_category cell z) e

pub ends_are : (m : Grid) (r c : ℕ) (lines : RowsAroundRow) → AreRowsAroundRow m r lines
    → one_if_side_leaves_category (get_or lines.here.now c None) (get_or lines.above.now c None)
    + one_if_side_leaves_category (get_or lines.here.now c None) (get_or lines.below.now c None)
    ≡ outer_north_south_side_count_of_cell m r c
ends_are m r c lines at =
    let one = leads (cell_at m r c) (get_or lines.above.now c None) (north_cell_in_map_or_null m r c)
    (at.above c ∙ north_is m r c) in
    let two = leads (cell_at m r c) (get_or lines.below.now c None) (cell_at m (r + 1) c) (at.below c) in
    let here = at.here c in
    rw here (omega arith)

pub flanks_are : (m : Grid) (r c : ℕ) (lines : RowsAroundRow) → AreRowsAroundRow m r lines
    → one_if_side_leaves_category (get_or lines.here.now c None) (west_cell_in_row_or_null lines.here.now c)
    + one_if_side_leaves_category (get_or lines.here.now c None) (get_or lines.here.now (c + 1) None)
    ≡ outer_west_east_side_count_of_cell m r c
flanks_are m r c lines at =
    let one = leads (cell_at m r c) (west_cell_in_row_or_null lines.here.now c) (west_cell_in_map_or_null m r c)
    (west_is m r c lines.here.now at.here) in
    let two = leads (cell_at m r c) (get_or lines.here.now (c + 1) None) (cell_at m r (c + 1)) (at.here (c + 1)) in
    let here = at.here c in
    rw here (omega arith)

-- at a cell of the patch, the count for the patch is the count itself
of_patch : (numbers : Grid) (n r c many : ℕ) → is_in_patch numbers n r c ≡ true
    → many ≡ cond (is_in_patch numbers n r c) many 0
of_patch numbers n r c many h = rw h refl

-- a side between cells of one category does not lead out of it
stays : (cell beyond : CellValue) → beyond ≡ cell → one_if_side_leaves_category cell beyond ≡ 0
stays cell beyond same = let e = (cell_eq-Decides beyond cell).1 same in rw e refl

-- each side to a row leads out of a category past the end of the row
leads_to_null : (cell : CellValue) → cell ≢ None → one_if_side_leaves_category cell None ≡ 1
leads_to_null None some = absurd (some refl)
leads_to_null (Some v) some = refl

pub sides_past_row : (cell : CellValue) (beyond : List CellValue) (c n : ℕ) → cell ≢ None
    → ((b : ℕ) → b < n → length beyond ≤ c + b)
    → outer_side_count_in_first_columns cell beyond (c + n) ≡ outer_side_count_in_first_columns cell beyond c + n
sides_past_row cell beyond c n some past =
    let sum = run_of_equal (λ k. one_if_side_leaves_category cell (get_or beyond k None)) 1 c n
    (λ b lt. leads cell (get_or beyond (c + b) None) None (get_or_past beyond (c + b) None (past b lt))
    ∙ leads_to_null cell some) in omega arith

-- what is found in a run of cells of patch n, which begins at row r, column c of the tile
module _ (t : TileOfMap) (position : TilePosition) (n r c : ℕ) (lines : RowsAroundRow) (run : RunValue)
    (h : CanMeasurePatchesInRun t position r c lines run) (number : run.0 ≡ Some (pos n)) where
  inside : (b : ℕ) → b < run.1 → is_in_patch t.numbers n r (c + b) ≡ true
  inside b lt = of_from t.numbers (Some (pos n)) r (c + b) (h.has_number b lt ∙ number)

  pub first_number : cell_at t.numbers r c ≡ Some (pos n)
  first_number =
      subst (λ x. cell_at t.numbers r x ≡ Some (pos n)) (let e : c + 0 ≡ c = omega arith in e)
      (h.has_number 0 h.some ∙ number)

  first_inside : is_in_patch t.numbers n r c ≡ true
  first_inside = of_from t.numbers (Some (pos n)) r c first_number

  -- the cells of the run have one category
  category : (b : ℕ) → b < run.1 → get_or lines.here.now (t.position.left + c + b) None
      ≡ get_or lines.here.now (t.position.left + c) None
  category b lt =
      h.ready.at.here (t.position.left + c + b)
      ∙ ap (cell_at t.map (t.position.top + r))
      (let e : t.position.left + c + b ≡ t.position.left + (c + b) = omega arith in e)
      ∙ h.ready.valid.alike n r (c + b) r c (inside b lt) first_inside
      ∙ sym (h.ready.at.here (t.position.left + c))

  -- a count for the patch is the count at the cell of the map
  count_is : (f : ℕ → ℕ → ℕ) (b : ℕ) → b < run.1
      → value_of_cell_in_tile_patch t n f r (c + b) ≡ f (t.position.top + r) (t.position.left + c + b)
  count_is f b lt =
      sym (of_patch t.numbers n r (c + b) _ (inside b lt))
      ∙ ap (f (t.position.top + r))
      (let e : t.position.left + (c + b) ≡ t.position.left + c + b = omega arith in e)

  module _ (f : RunContribution) (found : IsRunContributionFromRows lines
      (get_or lines.here.now (t.position.left + c) None) (t.position.left + c) run.1 (t.position.first_row + r)
      (t.position.first_col + c) f) where
    ends_found : IsSumOverRun (value_of_cell_in_tile_patch t n (outer_north_south_side_count_of_cell t.map) r) c run.1
        f.ends
    ends_found =
        let at = t.position.left + c in
        let cell = get_or lines.here.now (t.position.left + c) None in
        let sum = run_of_ends (value_of_cell_in_tile_patch t n (outer_north_south_side_count_of_cell t.map) r)
        (λ k. one_if_side_leaves_category cell (get_or lines.above.now k None))
        (λ k. one_if_side_leaves_category cell (get_or lines.below.now k None)) c at run.1
        (λ b lt. count_is (outer_north_south_side_count_of_cell t.map) b lt
        ∙ sym (ends_are t.map (t.position.top + r) (at + b) lines h.ready.at)
        ∙ ap (λ (x : CellValue). one_if_side_leaves_category x (get_or lines.above.now (at + b) None)
        + one_if_side_leaves_category x (get_or lines.below.now (at + b) None)) (category b lt)) in
        let ends = found.ends in omega arith

    flanks_found : IsSumOverRun (value_of_cell_in_tile_patch t n (outer_west_east_side_count_of_cell t.map) r) c run.1
        f.flanks
    flanks_found =
        let at = t.position.left + c in
        let here = lines.here.now in
        let cell = get_or here at None in
        let some = h.some in
        let count = value_of_cell_in_tile_patch t n (outer_west_east_side_count_of_cell t.map) r in
        let e : suc (run.1 - 1) ≡ run.1 = omega arith in
        let end : at + (run.1 - 1) + 1 ≡ at + run.1 = omega arith in
        let sum = run_of_flanks count
        (λ k. one_if_side_leaves_category cell (west_cell_in_row_or_null here k))
        (λ k. one_if_side_leaves_category cell (get_or here (k + 1) None)) c at (run.1 - 1)
        (λ b le. count_is (outer_west_east_side_count_of_cell t.map) b (omega arith)
        ∙ sym (flanks_are t.map (t.position.top + r) (at + b) lines h.ready.at)
        ∙ ap (λ (x : CellValue). one_if_side_leaves_category x (west_cell_in_row_or_null here (at + b))
        + one_if_side_leaves_category x (get_or here (at + b + 1) None)) (category b (omega arith)))
        (λ b lt.
        let next : at + (b + 1) ≡ at + b + 1 = omega arith in
        let east = stays cell (get_or here (at + b + 1) None)
        (subst (λ x. get_or here x None ≡ cell) next (category (b + 1) (omega arith))) in
        let west = stays cell (get_or here (at + b) None) (category b (omega arith)) in omega arith) in
        subst (λ x. sum_over_first_columns count (c + x) ≡ sum_over_first_columns count c + f.flanks) e
        (sum ∙ ap (λ x. sum_over_first_columns count c + x)
        (ap (λ x. one_if_side_leaves_category cell (west_cell_in_row_or_null here at)
        + one_if_side_leaves_category cell (get_or here x None)) end ∙ sym found.flanks))

    found_here : IsRunContributionToPatch t n r c run.1 f
    found_here =
        let v = h.ready.valid.classes r c n first_number in
        let here = h.ready.at.here (t.position.left + c) in
        let count = value_of_cell_in_tile_patch t n (λ a b. 1) r in
        record {
          class = v.1 ∙ ap Some (sym (found.class v.0 (here ∙ v.1)));
          cells = (let sum = run_of_equal count 1 c run.1 (λ b lt. count_is (λ a b. 1) b lt) in
              let cells = found.cells in omega arith);
          ends = ends_found;
          flanks = flanks_found;
          row = found.at_row;
          first_col = found.at_first_col;
          last_col = found.at_last_col;
        }

  pub run_found : (f : RunContribution) → IsRunContributionFromRows lines
      (get_or lines.here.now (position.left + c) None) (position.left + c) run.1 (position.first_row + r)
      (position.first_col + c) f → IsRunContributionToPatch t n r c run.1 f
  run_found f at_position =
      found_here f (subst (λ (q : TilePosition). IsRunContributionFromRows lines
      (get_or lines.here.now (q.left + c) None) (q.left + c) run.1 (q.first_row + r) (q.first_col + c) f) h.ready.same
      at_position)

-- a patch has room for a run that is found in it
pub run_room : (t : TileOfMap) (position : TilePosition) (n r c : ℕ) (lines : RowsAroundRow) (run : RunValue)
    (f : RunContribution) (patches : List Patch) → CanMeasurePatchesInRun t position r c lines run
    → IsRunContributionToPatch t (n + 1) r c run.1 f → AreMeasuresOfPatchesUpToCell t r c patches
    → PatchMeasuresCannotOverflow (patch_at_index_or_unread patches n) f
run_room t position n r c lines run f patches h found read =
    let row = h.ready.row in
    let cols = h.cols in
    let in_rows = h.ready.valid.inside.rows in
    let in_cols = h.ready.valid.inside.cols in
    let rows_most = h.ready.valid.rows_most in
    let cols_most = h.ready.valid.cols_most in
    has_room t (n + 1) r c run.1 (patch_at_index_or_unread patches n) f (omega arith) (omega arith) (omega arith) found
    (read.each n)

pub run_added : (t : TileOfMap) (position : TilePosition) (n r c : ℕ) (lines : RowsAroundRow) (run : RunValue)
    (f : RunContribution) (old new : List Patch) → CanMeasurePatchesInRun t position r c lines run
    → run.0 ≡ Some (pos (n + 1)) → IsRunContributionToPatch t (n + 1) r c run.1 f
    → IsRunAddedToPatch old new n f → AreMeasuresOfPatchesUpToCell t r c old
    → AreMeasuresOfPatchesUpToCell t r (c + run.1) new
run_added t position n r c lines run f old new h number found adds read =
    let row = h.ready.row in
    let cols = h.cols in
    let last_row = h.ready.valid.inside.last_row in
    let last_col = h.ready.valid.inside.last_col in
    let is = first_number t position (n + 1) r c lines run h number in
    all_same t r c run.1 n old new f h.some (omega arith) (omega arith) (λ b lt. h.has_number b lt ∙ number)
    (λ a b of. h.ready.valid.alike (n + 1) a b r c of (of_from t.numbers (Some (pos (n + 1))) r c is))
    found adds read

-- the number of a run is null, or at least 1
pub none_here : (number : CellValue) → is_none number ≡ true → number ≡ None
none_here None e = refl
none_here (Some v) e = absurd (false≢true e)

pub some_here : (t : TileOfMap) (position : TilePosition) (r c : ℕ) (lines : RowsAroundRow) (run : RunValue)
    → CanMeasurePatchesInRun t position r c lines run → is_none run.0 ≡ false
    → (n : ℕ) × (run.0 ≡ Some (pos (n + 1)))
some_here t position r c lines run h some = by_case run.0 refl some
  where
    by_case : (x : CellValue) → run.0 ≡ x → is_none x ≡ false → (n : ℕ) × (run.0 ≡ Some (pos (n + 1)))
    by_case None e f = absurd (false≢true (sym f))
    by_case (Some v) e f =
        let n = h.ready.valid.least r (c + 0) v (h.has_number 0 h.some ∙ e) in (n.0, e ∙ ap Some n.1)
