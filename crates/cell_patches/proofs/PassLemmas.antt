-- The runs of a tile are read one after another.
use Rattle.std.proofs.Common.{◌≡◌, ◌≢◌, ℕ, pos, ◌+◌, ◌-◌, ◌*◌, ◌<◌, ◌≤◌, Bool, true, false, List, length}
use Rattle.std.proofs.Common.{Some, None, min, max, refl, ap, sym, ◌∙◌, arith, subst, inl, inr, ◌⊎◌, cond}
use Rattle.std.proofs.lemmas.Bool.{cases_lt, cases_eq, both_ways, false_from_ne_true}
use Rattle.cell_core_values.specs.Cell.{cell_eq}
use Rattle.cell_core.specs.Grid.{Grid, CellValue, cell_at}
use Rattle.cell_patches.specs.declared.patch.Patch.{Patch}
use Rattle.cell_patches.specs.declared.patch.RunContribution.{RunContribution}
use Rattle.cell_patches.specs.Patches.{is_in_patch, value_or_0_outside_patch, do_cells_within_steps_have_value}
use Rattle.cell_patches.specs.Patches.{north_cell_in_map_or_null, west_cell_in_map_or_null}
use Rattle.cell_patches.specs.TilePatches.{one_if_side_leaves_category, outer_north_south_side_count_of_cell}
use Rattle.cell_patches.specs.TilePatches.{outer_west_east_side_count_of_cell, one_if_cell_is_core}
use Rattle.cell_patches.specs.TilePatches.{TilePatchHasCellInRow, TilePatchHasCellInColumn}
use Rattle.cell_patches.specs.parts.Passes.{unread, patch_with_run, PatchMeasuresCannotOverflow}
use Rattle.cell_patches.specs.parts.Passes.{patch_at_index_or_unread, IsRunAddedToPatch, CellPrecedesCellInRowOrder}
use Rattle.cell_patches.specs.parts.Passes.{TileOfMap, map_cell_of_tile, value_of_cell_in_tile_patch}
use Rattle.cell_patches.specs.parts.Passes.{sum_over_earlier_cells_of_patch}
use Rattle.cell_patches.specs.parts.Passes.{AreMeasuresOfPatchUpToCell, AreMeasuresOfPatchesUpToCell}
use Rattle.cell_patches.specs.parts.Passes.{AreCoresOfPatchesUpToCell, IsRunContributionToPatch}
use Rattle.cell_patches.proofs.InsideLemmas.{of_from, of_to}
use Rattle.cell_patches.proofs.SumLemmas.{earlier_row, earlier_none, earlier_most, run_of_equal}

-- one of two numbers, chosen by a test
abbrev pub pick : Bool → ℕ → ℕ → ℕ
pick t a b = cond t a b

-- a cell has only one number
pub one_number : (numbers : Grid) (n k r c : ℕ) → is_in_patch numbers n r c ≡ true → is_in_patch numbers k r c ≡ true
    → n ≡ k
one_number numbers n k r c h g =
    let one = of_to numbers (Some (pos n)) r c h in
    let other = of_to numbers (Some (pos k)) r c g in
    (let both : Some (pos n) ≡ Some (pos k) = sym one ∙ other in cc)

-- a cell before the end of a run is before the run, or in it
before_end : {P : ℕ → ℕ → Type 0} (r c n : ℕ) → ((a b : ℕ) → CellPrecedesCellInRowOrder a b r c → P a b)
    → ((b : ℕ) → b < n → P r (c + b)) → (a b : ℕ) → CellPrecedesCellInRowOrder a b r (c + n) → P a b
before_end {P} r c n before here a b (inl lt) = before a b (inl lt)
before_end {P} r c n before here a b (inr both) = by_case (cases_lt b c)
  where
    by_case : (b < c) ⊎ (c ≤ b) → P a b
    by_case (inl lt) = before a b (inr (both.0, lt))
    by_case (inr le) =
        let lt = both.1 in
        let e : c + (b - c) ≡ b = omega arith in
        subst (λ x. P x b) (sym both.0) (subst (P r) e (here (b - c) (omega arith)))

-- a cell outside the patch adds nothing
none_of : (numbers : Grid) (n r c many : ℕ) → is_in_patch numbers n r c ≡ false
    → value_or_0_outside_patch numbers n r c many ≡ 0
none_of numbers n r c many apart = rw apart refl

-- reading a run outside the patch changes nothing for the patch
pub read_other : (t : TileOfMap) (n r c count : ℕ) (p : Patch)
    → ((b : ℕ) → b < count → is_in_patch t.numbers n r (c + b) ≡ false)
    → AreMeasuresOfPatchUpToCell t n r c p → AreMeasuresOfPatchUpToCell t n r (c + count) p
read_other t n r c count p apart h =
    let first_row = t.position.first_row in
    let first_col = t.position.first_col in
    let none =
    λ (f : ℕ → ℕ → ℕ). run_of_equal (value_of_cell_in_tile_patch t n f r) 0 c count
    (λ b lt. none_of t.numbers n r (c + b) _ (apart b lt)) in
    record {
      class =
          before_end {P = λ a b. is_in_patch t.numbers n a b ≡ true → map_cell_of_tile t a b ≡ Some p.class} r c count
          h.class (λ b lt inside. absurd (both_ways _ (apart b lt) inside));
      cells = (let e = none (λ a b. 1) in let was = h.cells in omega arith);
      ends = (let e = none (outer_north_south_side_count_of_cell t.map) in let was = h.ends in omega arith);
      flanks = (let e = none (outer_west_east_side_count_of_cell t.map) in let was = h.flanks in omega arith);
      rows =
          before_end {P = λ a b. is_in_patch t.numbers n a b ≡ true → (p.first_row ≤ first_row + a)
          × (first_row + a ≤ p.last_row)} r c count h.rows (λ b lt inside. absurd (both_ways _ (apart b lt) inside));
      cols =
          before_end {P = λ a b. is_in_patch t.numbers n a b ≡ true → (p.first_col ≤ first_col + b)
          × (first_col + b ≤ p.last_col)} r c count h.cols (λ b lt inside. absurd (both_ways _ (apart b lt) inside));
      first_row = h.first_row;
      last_row = h.last_row;
      first_col = h.first_col;
      last_col = h.last_col;
    }

-- a property of two numbers holds for their minimum
kind_min : (K : ℕ → Type 0) (a b most : ℕ) → b < most → (a < most → K a) → K b → K (min a b)
kind_min K a b most b_lt one other = by_case (cases_lt a b)
  where
    by_case : (a < b) ⊎ (b ≤ a) → K (min a b)
    by_case (inl lt) = subst K (let e : a ≡ min a b = omega arith in e) (one (omega arith))
    by_case (inr le) = subst K (let e : b ≡ min a b = omega arith in e) other

kind_max : (K : ℕ → Type 0) (a b : ℕ) → (0 < a → K a) → K b → K (max a b)
kind_max K a b one other = by_case (cases_lt b a)
  where
    by_case : (b < a) ⊎ (a ≤ b) → K (max a b)
    by_case (inl lt) = subst K (let e : a ≡ max a b = omega arith in e) (one (omega arith))
    by_case (inr le) = subst K (let e : b ≡ max a b = omega arith in e) other

-- reading a run of the patch adds what is found there
pub read_same : (t : TileOfMap) (n r c count : ℕ) (p : Patch) (f : RunContribution) → 0 < count
    → t.position.first_row + r < 4294967295 → t.position.first_col + c + count < 4294967296
    → ((b : ℕ) → b < count → is_in_patch t.numbers n r (c + b) ≡ true)
    → ((a b : ℕ) → is_in_patch t.numbers n a b ≡ true → map_cell_of_tile t a b ≡ map_cell_of_tile t r c)
    → IsRunContributionToPatch t n r c count f → AreMeasuresOfPatchUpToCell t n r c p
    → AreMeasuresOfPatchUpToCell t n r (c + count) (patch_with_run p f)
read_same t n r c count p f some r_lt c_lt inside alike found h =
    let first_row = t.position.first_row in
    let first_col = t.position.first_col in
    let row = found.row in
    let first = found.first_col in
    let last = found.last_col in
    let start : c + 0 ≡ c = omega arith in
    let end : f.last_col ≡ first_col + (c + (count - 1)) = omega arith in
    let in_first = subst (λ x. is_in_patch t.numbers n r x ≡ true) start (inside 0 some) in
    let in_last = inside (count - 1) (omega arith) in
    let in_row : TilePatchHasCellInRow t.position t.numbers n f.row = (r, row, (c, in_first)) in
    record {
      class = λ a b before of. alike a b of ∙ found.class;
      cells = (let more = found.cells in let was = h.cells in omega arith);
      ends = (let more = found.ends in let was = h.ends in omega arith);
      flanks = (let more = found.flanks in let was = h.flanks in omega arith);
      rows =
          before_end {P = λ a b. is_in_patch t.numbers n a b ≡ true → (min p.first_row f.row ≤ first_row + a)
          × (first_row + a ≤ max p.last_row f.row)} r c count
          (λ a b before of. let w = h.rows a b before of in let lo = w.0 in let hi = w.1 in (omega arith, omega arith))
          (λ b lt _. (omega arith, omega arith));
      cols =
          before_end {P = λ a b. is_in_patch t.numbers n a b ≡ true → (min p.first_col f.first_col ≤ first_col + b)
          × (first_col + b ≤ max p.last_col f.last_col)} r c count
          (λ a b before of. let w = h.cols a b before of in let lo = w.0 in let hi = w.1 in (omega arith, omega arith))
          (λ b lt _. (omega arith, omega arith));
      first_row =
          λ _. kind_min (TilePatchHasCellInRow t.position t.numbers n) p.first_row f.row 4294967295 (omega arith)
          h.first_row in_row;
      last_row =
          λ _. kind_max (TilePatchHasCellInRow t.position t.numbers n) p.last_row f.row h.last_row in_row;
      first_col =
          λ _. kind_min (TilePatchHasCellInColumn t.position t.numbers n) p.first_col f.first_col 4294967295
          (omega arith) h.first_col (c, first, (r, in_first));
      last_col =
          λ _. kind_max (TilePatchHasCellInColumn t.position t.numbers n) p.last_col f.last_col h.last_col
          (c + (count - 1), end, (r, in_last));
    }

-- a cell of the patch before the start of the next row is before the end of this row
before_row : {P : ℕ → ℕ → Type 0} (numbers : Grid) (n r : ℕ)
    → ((a b : ℕ) → is_in_patch numbers n a b ≡ true → b < numbers.region.cols)
    → ((a b : ℕ) → CellPrecedesCellInRowOrder a b r numbers.region.cols → is_in_patch numbers n a b ≡ true → P a b)
    → (a b : ℕ)
    → CellPrecedesCellInRowOrder a b (r + 1) 0 → is_in_patch numbers n a b ≡ true → P a b
before_row {P} numbers n r narrow before a b (inl lt) of = by_case (cases_lt a r)
  where
    by_case : (a < r) ⊎ (r ≤ a) → P a b
    by_case (inl less) = before a b (inl less) of
    by_case (inr le) = before a b (inr (omega arith, narrow a b of)) of
before_row {P} numbers n r narrow before a b (inr both) of = absurd (let lt = both.1 in omega arith)

-- a patch that is read to the end of a row is read to the start of the next row
pub read_row : (t : TileOfMap) (n r : ℕ) (p : Patch)
    → ((a b : ℕ) → is_in_patch t.numbers n a b ≡ true → b < t.numbers.region.cols)
    → AreMeasuresOfPatchUpToCell t n r t.numbers.region.cols p
    → AreMeasuresOfPatchUpToCell t n (r + 1) 0 p
read_row t n r p narrow h =
    let cols = t.numbers.region.cols in
    record {
      class = before_row {P = λ a b. map_cell_of_tile t a b ≡ Some p.class} t.numbers n r narrow h.class;
      cells = h.cells ∙ sym (earlier_row cols (value_of_cell_in_tile_patch t n (λ a b. 1)) r);
      ends = h.ends ∙ sym (earlier_row cols (value_of_cell_in_tile_patch t n
          (outer_north_south_side_count_of_cell t.map)) r);
      flanks = h.flanks ∙ sym (earlier_row cols (value_of_cell_in_tile_patch t n
          (outer_west_east_side_count_of_cell t.map)) r);
      rows = before_row {P = λ a b. (p.first_row ≤ t.position.first_row + a)
          × (t.position.first_row + a ≤ p.last_row)} t.numbers n r narrow h.rows;
      cols = before_row {P = λ a b. (p.first_col ≤ t.position.first_col + b)
          × (t.position.first_col + b ≤ p.last_col)} t.numbers n r narrow h.cols;
      first_row = h.first_row;
      last_row = h.last_row;
      first_col = h.first_col;
      last_col = h.last_col;
    }

-- no cell comes before the first cell
no_earlier : (a b : ℕ) → CellPrecedesCellInRowOrder a b 0 0 → ⊥
no_earlier a b (inl lt) = omega arith
no_earlier a b (inr both) = let lt = both.1 in omega arith

pub read_none : (t : TileOfMap) (n : ℕ) → AreMeasuresOfPatchUpToCell t n 0 0 unread
read_none t n =
    let cols = t.numbers.region.cols in
    record {
      class = λ a b before of. absurd (no_earlier a b before);
      cells = sym (earlier_none cols (value_of_cell_in_tile_patch t n (λ a b. 1)));
      ends = sym (earlier_none cols (value_of_cell_in_tile_patch t n (outer_north_south_side_count_of_cell t.map)));
      flanks = sym (earlier_none cols (value_of_cell_in_tile_patch t n (outer_west_east_side_count_of_cell t.map)));
      rows = λ a b before of. absurd (no_earlier a b before);
      cols = λ a b before of. absurd (no_earlier a b before);
      first_row = λ lt. absurd (omega arith);
      last_row = λ lt. absurd (omega arith);
      first_col = λ lt. absurd (omega arith);
      last_col = λ lt. absurd (omega arith);
    }

-- a run outside all patches leaves their measures unchanged
pub all_other : (t : TileOfMap) (r c count : ℕ) (patches : List Patch)
    → ((b : ℕ) → b < count → cell_at t.numbers r (c + b) ≡ None)
    → AreMeasuresOfPatchesUpToCell t r c patches → AreMeasuresOfPatchesUpToCell t r (c + count) patches
all_other t r c count patches none h = record {
  each = λ k. read_other t (k + 1) r c count (patch_at_index_or_unread patches k)
      (λ b lt. false_from_ne_true _ (λ of. not_some (k + 1) b lt (of_to t.numbers (Some (pos (k + 1))) r (c + b) of)))
      (h.each k);
  all =
      λ a b n before. before_end {P = λ a b. cell_at t.numbers a b ≡ Some (pos n) → n ≤ length patches} r c count
      (λ x y b4. h.all x y n b4) (λ b lt is. absurd (not_some n b lt is)) a b before;
  last = h.last;
}
  where
    not_some : (n b : ℕ) → b < count → cell_at t.numbers r (c + b) ≡ Some (pos n) → ⊥
    not_some n b lt is = let f : None ≡ Some (pos n) = sym (none b lt) ∙ is in cc

pub all_same : (t : TileOfMap) (r c count place : ℕ) (old new : List Patch) (f : RunContribution) → 0 < count
    → t.position.first_row + r < 4294967295 → t.position.first_col + c + count < 4294967296
    → ((b : ℕ) → b < count → cell_at t.numbers r (c + b) ≡ Some (pos (place + 1)))
    → ((a b : ℕ) → is_in_patch t.numbers (place + 1) a b ≡ true → map_cell_of_tile t a b ≡ map_cell_of_tile t r c)
    → IsRunContributionToPatch t (place + 1) r c count f → IsRunAddedToPatch old new place f
    → AreMeasuresOfPatchesUpToCell t r c old
    → AreMeasuresOfPatchesUpToCell t r (c + count) new
all_same t r c count place old new f some r_lt c_lt is alike found adds h = record {
  each = each;
  all = λ a b n before. before_end {P = λ a b. cell_at t.numbers a b ≡ Some (pos n) → n ≤ length new} r c count
      (λ x y b4 e. let was = h.all x y n b4 e in let long = adds.long in omega arith)
      (λ b lt e.
      let same : n ≡ place + 1 = (let both : Some (pos n) ≡ Some (pos (place + 1)) = sym e ∙ is b lt in cc) in
      let long = adds.long in omega arith) a b before;
  last = λ some. last (cases_lt (length old) (place + 1));
}
  where
    inside : (b : ℕ) → b < count → is_in_patch t.numbers (place + 1) r (c + b) ≡ true
    inside b lt = of_from t.numbers (Some (pos (place + 1))) r (c + b) (is b lt)

    each : (k : ℕ) → AreMeasuresOfPatchUpToCell t (k + 1) r (c + count) (patch_at_index_or_unread new k)
    each k = by_case (cases_eq k place)
      where
        by_case : (k ≡ place) ⊎ (k ≢ place) → AreMeasuresOfPatchUpToCell t (k + 1) r (c + count)
            (patch_at_index_or_unread new k)
        by_case (inl e) = subst (λ x. AreMeasuresOfPatchUpToCell t (x + 1) r (c + count)
            (patch_at_index_or_unread new x)) (sym e)
            (subst (AreMeasuresOfPatchUpToCell t (place + 1) r (c + count)) (sym adds.here)
            (read_same t (place + 1) r c count (patch_at_index_or_unread old place) f some r_lt c_lt inside alike found
            (h.each place)))
        by_case (inr ne) = subst (AreMeasuresOfPatchUpToCell t (k + 1) r (c + count)) (sym (adds.others k ne))
            (read_other t (k + 1) r c count (patch_at_index_or_unread old k)
            (λ b lt. false_from_ne_true
            _ (λ of. ne (let e = one_number t.numbers (k + 1) (place + 1) r (c + b) of (inside b lt) in omega arith)))
            (h.each k))

    last : (length old < place + 1) ⊎ (place + 1 ≤ length old) → (a : ℕ)
        × ((b : ℕ) × (cell_at t.numbers a b ≡ Some (pos (length new))))
    last (inl lt) = (
      r,
      (
        c + 0,
        is 0 some
            ∙ ap (λ x. Some (pos x)) (let long = adds.long in let e : place + 1 ≡ length new = omega arith in e),
      ),
    )
    last (inr le) =
        let w = h.last (omega arith) in (
          w.0,
          (
            w.1.0,
            w.1.1 ∙ ap (λ x. Some (pos x))
                (let long = adds.long in let e : length old ≡ length new = omega arith in e),
          ),
        )

pub all_row : (t : TileOfMap) (r : ℕ) (patches : List Patch)
    → ((a b n : ℕ) → cell_at t.numbers a b ≡ Some (pos n) → b < t.numbers.region.cols)
    → AreMeasuresOfPatchesUpToCell t r t.numbers.region.cols patches
    → AreMeasuresOfPatchesUpToCell t (r + 1) 0 patches
all_row t r patches narrow h = record {
  each =
      λ k. read_row t (k + 1) r (patch_at_index_or_unread patches k)
      (λ a b of. narrow a b (k + 1) (of_to t.numbers (Some (pos (k + 1))) a b of)) (h.each k);
  all =
      λ a b n before e. before_row {P = λ a b. n ≤ length patches} t.numbers n r
      (λ x y of. narrow x y n (of_to t.numbers (Some (pos n)) x y of))
      (λ x y b4 of. h.all x y n b4 (of_to t.numbers (Some (pos n)) x y of))
      a b before (of_from t.numbers (Some (pos n)) a b e);
  last = h.last;
}

pub all_none : (t : TileOfMap) (patches : List Patch) → length patches ≡ 0
    → ((k : ℕ) → patch_at_index_or_unread patches k ≡ unread) → AreMeasuresOfPatchesUpToCell t 0 0 patches
all_none t patches none empty = record {
  each = λ k. subst (AreMeasuresOfPatchUpToCell t (k + 1) 0 0) (sym (empty k)) (read_none t (k + 1));
  all = λ a b n before. absurd (no_earlier a b before);
  last = λ some. absurd (omega arith);
}

pub cores_none : (t : TileOfMap) (depth : ℕ) (patches : List Patch)
    → ((k : ℕ) → patch_at_index_or_unread patches k ≡ unread) → AreCoresOfPatchesUpToCell t depth 0 0 patches
cores_none t depth patches empty k =
    ap (λ (p : Patch). p.core) (empty k)
    ∙ sym (earlier_none t.numbers.region.cols (value_of_cell_in_tile_patch t (k + 1) (one_if_cell_is_core t.map depth)))

-- the counts have room for what is found in a run
few_of : (numbers : Grid) (n r c many most : ℕ) → many ≤ most → value_or_0_outside_patch numbers n r c many ≤ most
few_of numbers n r c many most le = by_case (is_in_patch numbers n r c)
  where
    by_case : (t : Bool) → pick t many 0 ≤ most
    by_case true = le
    by_case false = omega arith

leads_most : (x y : CellValue) → one_if_side_leaves_category x y ≤ 1
leads_most x y = by_case (cell_eq y x)
  where
    by_case : (t : Bool) → pick t 0 1 ≤ 1
    by_case true = omega arith
    by_case false = omega arith

ends_most : (m : Grid) (r c : ℕ) → outer_north_south_side_count_of_cell m r c ≤ 2
ends_most m r c =
    let a = leads_most (cell_at m r c) (north_cell_in_map_or_null m r c) in
    let b = leads_most (cell_at m r c) (cell_at m (r + 1) c) in omega arith

flanks_most : (m : Grid) (r c : ℕ) → outer_west_east_side_count_of_cell m r c ≤ 2
flanks_most m r c =
    let a = leads_most (cell_at m r c) (west_cell_in_map_or_null m r c) in
    let b = leads_most (cell_at m r c) (cell_at m r (c + 1)) in omega arith

core_most : (m : Grid) (depth r c : ℕ) → one_if_cell_is_core m depth r c ≤ 1
core_most m depth r c = by_case (do_cells_within_steps_have_value m (cell_at m r c) depth r c)
  where
    by_case : (t : Bool) → pick t 1 0 ≤ 1
    by_case true = omega arith
    by_case false = omega arith

small : (r c cols most : ℕ) → r ≤ 65535 → c ≤ 65535 → cols ≤ 65535 → most ≤ 2
    → r * (cols * most) + c * most ≤ 17179869184
small r c cols most a b d e =
    let one : cols * most ≤ 65535 * 2 = grind arith in
    let two : r * (cols * most) ≤ 65535 * (65535 * 2) = grind arith in
    let three : c * most ≤ 65535 * 2 = grind arith in
    omega arith

-- a sum of values of at most 2 is small
few_before : (t : TileOfMap) (n r c : ℕ) (f : ℕ → ℕ → ℕ) → r ≤ 65535 → c ≤ 65535 → t.numbers.region.cols ≤ 65535
    → ((a b : ℕ) → f a b ≤ 2) → sum_over_earlier_cells_of_patch t n f r c ≤ 17179869184
few_before t n r c f r_lt c_lt cols_lt most =
    let cols = t.numbers.region.cols in
    let few = small r c cols 2 r_lt c_lt cols_lt (omega arith) in
    let e = earlier_most (value_of_cell_in_tile_patch t n f) 2 cols r c
    (λ a b. few_of t.numbers n a b _ 2 (most (t.position.top + a) (t.position.left + b))) in
    omega arith

pub has_room : (t : TileOfMap) (n r c count : ℕ) (p : Patch) (f : RunContribution) → r ≤ 65535 → c + count ≤ 65535
    → t.numbers.region.cols ≤ 65535 → IsRunContributionToPatch t n r c count f
    → AreMeasuresOfPatchUpToCell t n r c p
    → PatchMeasuresCannotOverflow p f
has_room t n r c count p f r_lt c_lt cols_lt found h = record {
  cells =
      (let few = few_before t n r (c + count) (λ a b. 1) r_lt c_lt cols_lt (λ a b. omega arith) in
      let was = h.cells in let more = found.cells in omega arith);
  ends =
      (let few = few_before t n r (c + count) (outer_north_south_side_count_of_cell t.map) r_lt c_lt cols_lt
      (ends_most t.map) in
      let was = h.ends in let more = found.ends in omega arith);
  flanks =
      (let few = few_before t n r (c + count) (outer_west_east_side_count_of_cell t.map) r_lt c_lt cols_lt
      (flanks_most t.map) in
      let was = h.flanks in let more = found.flanks in omega arith);
}

-- the count of cores has room for one more
pub core_has_room : (t : TileOfMap) (depth r c k : ℕ) (patches : List Patch) → r ≤ 65535 → c ≤ 65535
    → t.numbers.region.cols ≤ 65535 → AreCoresOfPatchesUpToCell t depth r c patches
    → (patch_at_index_or_unread patches k).core + 1 < 18446744073709551616
core_has_room t depth r c k patches r_lt c_lt cols_lt h =
    let few = few_before t (k + 1) r c (one_if_cell_is_core t.map depth) r_lt c_lt cols_lt
    (λ a b. let one = core_most t.map depth a b in omega arith) in
    let was = h k in omega arith
