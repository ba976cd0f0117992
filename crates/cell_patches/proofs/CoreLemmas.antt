-- The core cells of a row of a tile are counted.
use Rattle.std.proofs.Common.{length, ◌≡◌, ◌≢◌, ℕ, pos, ◌+◌, ◌<◌, Bool, true, false, List, Some, None}
use Rattle.std.proofs.Common.{get_or, refl, ap, sym, ◌∙◌, arith, subst, inl, inr, ◌⊎◌}
use Rattle.std.specs.Prelude.{nat_le, ◌&&◌, not}
use Rattle.std.specs.Option.{is_none}
use Rattle.std.proofs.lemmas.Bool.{cases_eq, both_ways, false_from_ne_true, le-leb, leb-true, and_from, and_parts}
use Rattle.std.proofs.lemmas.Bool.{false≢true}
use Rattle.cell_core.specs.Grid.{Grid, CellValue, cell_at, row_at}
use Rattle.cell_patches.specs.declared.patch.Patch.{Patch}
use Rattle.cell_patches.specs.Patches.{is_in_patch, do_cells_within_steps_have_value}
use Rattle.cell_patches.specs.TilePatches.{one_if_cell_is_core}
use Rattle.cell_patches.specs.parts.Passes.{TileOfMap, CanCountCoresOfRow, AreCoresOfPatchesUpToCell}
use Rattle.cell_patches.specs.parts.Passes.{IsCoreAddedToPatch, HaveSameMeasuresExceptCores}
use Rattle.cell_patches.specs.parts.Passes.{value_of_cell_in_tile_patch, patch_at_index_or_unread, patch_with_core}
use Rattle.cell_patches.specs.parts.Passes.{sum_over_earlier_cells_of_patch}
use Rattle.cell_patches.specs.parts.Passes.{AreMeasuresOfPatchUpToCell, AreMeasuresOfPatchesUpToCell}
use Rattle.cell_patches.proofs.InsideLemmas.{of_from, of_to, inside_south, inside_center}
use Rattle.cell_patches.proofs.PassLemmas.{one_number, pick}
use Rattle.cell_patches.proofs.SumLemmas.{earlier_more, earlier_row}

-- the cell `depth` rows above a cell is a core cell, by the test of the lower cell
abbrev pub passes : List CellValue → List ℕ → (at depth : ℕ) → Bool
passes below steps at depth = nat_le depth (get_or steps at 0) && not (is_none (get_or below at None))

-- a cell that passes is below a core cell with a number
core_here : (t : TileOfMap) (left depth r c : ℕ) (below : List CellValue) (steps : List ℕ)
    → CanCountCoresOfRow t left depth r below steps → c < t.numbers.region.cols
    → passes below steps (t.position.left + c) depth ≡ true
    → (one_if_cell_is_core t.map depth (t.position.top + r) (t.position.left + c) ≡ 1)
    × ((n : ℕ) × (cell_at t.numbers r c ≡ Some (pos (n + 1))))
core_here t left depth r c below steps h col is = by_case (get_or below at None) refl (and_parts _ _ is).1
  where
    at : ℕ
    at = t.position.left + c

    center : ℕ
    center = t.position.top + r

    by_case : (x : CellValue) → get_or below at None ≡ x → not (is_none (get_or below at None)) ≡ true
        → (one_if_cell_is_core t.map depth center at ≡ 1)
        × ((n : ℕ) × (cell_at t.numbers r c ≡ Some (pos (n + 1))))
    by_case None e some = absurd (false≢true (rw e at some))
    by_case (Some v) e some =
        let lowest = sym (h.at at) ∙ e in
        let within : do_cells_within_steps_have_value t.map (Some v) depth center at ≡ true =
        ((h.have_steps at v lowest).exactly depth center refl).0 (leb-true depth _ (and_parts _ _ is).0) in
        let here : cell_at t.map center at ≡ Some v =
        of_to t.map (Some v) center at (inside_center t.map (Some v) depth center at within) in (
          ap (λ (x : CellValue). pick (do_cells_within_steps_have_value t.map x depth center at) 1 0) here
              ∙ ap (λ (x : Bool). pick x 1 0) within,
          h.valid.numbered r c v h.row col here,
        )

-- a cell that does not pass is not below a core cell of any patch
core_apart : (t : TileOfMap) (left depth n r c : ℕ) (below : List CellValue) (steps : List ℕ)
    → CanCountCoresOfRow t left depth r below steps → passes below steps (t.position.left + c) depth ≡ false
    → value_of_cell_in_tile_patch t n (one_if_cell_is_core t.map depth) r c ≡ 0
core_apart t left depth n r c below steps h fails = by_case (is_in_patch t.numbers n r c) refl
  where
    at : ℕ
    at = t.position.left + c

    center : ℕ
    center = t.position.top + r

    never : is_in_patch t.numbers n r c ≡ true
        → do_cells_within_steps_have_value t.map (cell_at t.map center at) depth center at ≡ true → ⊥
    never of within =
        let v = h.valid.classes r c n (of_to t.numbers (Some (pos n)) r c of) in
        let whole = subst (λ (x : CellValue). do_cells_within_steps_have_value t.map x depth center at ≡ true) v.1
        within in
        let lowest = of_to t.map (Some v.0) (center + depth) at
        (inside_south t.map (Some v.0) depth center at whole) in
        let few = ((h.have_steps at v.0 lowest).exactly depth center refl).1 whole in
        let some : not (is_none (get_or below at None)) ≡ true = rw (h.at at ∙ lowest) refl in
        both_ways _ fails (and_from _ _ (le-leb depth (get_or steps at 0) few) some)

    inside : (x : Bool) → is_in_patch t.numbers n r c ≡ true
        → do_cells_within_steps_have_value t.map (cell_at t.map center at) depth center at ≡ x
        → pick x 1 0 ≡ 0
    inside false of e = refl
    inside true of e = absurd (never of e)

    by_case : (x : Bool) → is_in_patch t.numbers n r c ≡ x
        → pick x (one_if_cell_is_core t.map depth center at) 0 ≡ 0
    by_case false e = refl
    by_case true e = inside (do_cells_within_steps_have_value t.map (cell_at t.map center at) depth center at)
        e refl

pub core_passed : (t : TileOfMap) (depth r c : ℕ) (patches : List Patch)
    → ((n : ℕ) → value_of_cell_in_tile_patch t n (one_if_cell_is_core t.map depth) r c ≡ 0)
    → AreCoresOfPatchesUpToCell t depth r c patches → AreCoresOfPatchesUpToCell t depth r (c + 1) patches
core_passed t depth r c patches none h k =
    let e = earlier_more t.numbers.region.cols
    (value_of_cell_in_tile_patch t (k + 1) (one_if_cell_is_core t.map depth)) r c in
    let z = none (k + 1) in let was = h k in omega arith

pub core_added : (t : TileOfMap) (depth r c n : ℕ) (old new : List Patch)
    → cell_at t.numbers r c ≡ Some (pos (n + 1))
    → one_if_cell_is_core t.map depth (t.position.top + r) (t.position.left + c) ≡ 1
    → IsCoreAddedToPatch old new n → AreCoresOfPatchesUpToCell t depth r c old
    → AreCoresOfPatchesUpToCell t depth r (c + 1) new
core_added t depth r c n old new is core adds h k = by_case (cases_eq k n)
  where
    cols : ℕ
    cols = t.numbers.region.cols

    inside : is_in_patch t.numbers (n + 1) r c ≡ true
    inside = of_from t.numbers (Some (pos (n + 1))) r c is

    by_case : (k ≡ n) ⊎ (k ≢ n) → (patch_at_index_or_unread new k).core
        ≡ sum_over_earlier_cells_of_patch t (k + 1) (one_if_cell_is_core t.map depth) r (c + 1)
    by_case (inl e) = subst (λ x. (patch_at_index_or_unread new x).core
        ≡ sum_over_earlier_cells_of_patch t (x + 1) (one_if_cell_is_core t.map depth) r (c + 1)) (sym e) same
      where
        one : value_of_cell_in_tile_patch t (n + 1) (one_if_cell_is_core t.map depth) r c ≡ 1
        one = ap (λ (x : Bool). pick x (one_if_cell_is_core t.map depth (t.position.top + r) (t.position.left + c)) 0)
            inside ∙ core

        same : (patch_at_index_or_unread new n).core
            ≡ sum_over_earlier_cells_of_patch t (n + 1) (one_if_cell_is_core t.map depth) r (c + 1)
        same =
            let more =
            earlier_more cols (value_of_cell_in_tile_patch t (n + 1) (one_if_cell_is_core t.map depth)) r c in
            let here = ap (λ (x : Patch). x.core) adds.here in
            let was = h n in let z = one in omega arith
    by_case (inr ne) =
        let apart : is_in_patch t.numbers (k + 1) r c ≡ false =
        false_from_ne_true _ (λ of. ne (let e = one_number t.numbers (k + 1) (n + 1) r c of inside in omega arith)) in
        let z : value_of_cell_in_tile_patch t (k + 1) (one_if_cell_is_core t.map depth) r c ≡ 0 = rw apart refl in
        let more = earlier_more cols (value_of_cell_in_tile_patch t (k + 1) (one_if_cell_is_core t.map depth)) r c in
        let here = ap (λ (x : Patch). x.core) (adds.others k ne) in
        let was = h k in omega arith

-- the cores that are counted to the end of a row are counted to the start of the next row
pub core_row : (t : TileOfMap) (depth r : ℕ) (patches : List Patch)
    → AreCoresOfPatchesUpToCell t depth r t.numbers.region.cols patches
    → AreCoresOfPatchesUpToCell t depth (r + 1) 0 patches
core_row t depth r patches h k =
    h k ∙ sym (earlier_row t.numbers.region.cols (value_of_cell_in_tile_patch t (k + 1)
    (one_if_cell_is_core t.map depth)) r)

-- counting a core changes no other measure
pub others_added : (n : ℕ) (first old new : List Patch) → HaveSameMeasuresExceptCores first old
    → IsCoreAddedToPatch old new n → HaveSameMeasuresExceptCores first new
others_added n first old new h adds = record {
  each = λ k. by_case k (cases_eq k n) ∙ h.each k;
  long = adds.long ∙ h.long;
}
  where
    by_case : (k : ℕ) → (k ≡ n) ⊎ (k ≢ n) → patch_with_core (patch_at_index_or_unread new k) 0
        ≡ patch_with_core (patch_at_index_or_unread old k) 0
    by_case k (inl e) = subst (λ x. patch_with_core (patch_at_index_or_unread new x) 0
        ≡ patch_with_core (patch_at_index_or_unread old x) 0) (sym e)
        (ap (λ (x : Patch). patch_with_core x 0) adds.here)
    by_case k (inr ne) = ap (λ (x : Patch). patch_with_core x 0) (adds.others k ne)

-- measures other than cores stay if only cores change
without_core : (t : TileOfMap) (n r c core : ℕ) (p : Patch) → AreMeasuresOfPatchUpToCell t n r c p
    → AreMeasuresOfPatchUpToCell t n r c (patch_with_core p core)
without_core t n r c core p h = record {
  class = h.class;
  cells = h.cells;
  ends = h.ends;
  flanks = h.flanks;
  rows = h.rows;
  cols = h.cols;
  first_row = h.first_row;
  last_row = h.last_row;
  first_col = h.first_col;
  last_col = h.last_col;
}

with_core : (t : TileOfMap) (n r c core : ℕ) (p : Patch) → AreMeasuresOfPatchUpToCell t n r c (patch_with_core p core)
    → AreMeasuresOfPatchUpToCell t n r c p
with_core t n r c core p h = record {
  class = h.class;
  cells = h.cells;
  ends = h.ends;
  flanks = h.flanks;
  rows = h.rows;
  cols = h.cols;
  first_row = h.first_row;
  last_row = h.last_row;
  first_col = h.first_col;
  last_col = h.last_col;
}

pub read_despite_cores : (t : TileOfMap) (r c : ℕ) (old new : List Patch) → HaveSameMeasuresExceptCores old new
    → AreMeasuresOfPatchesUpToCell t r c old → AreMeasuresOfPatchesUpToCell t r c new
read_despite_cores t r c old new same h = record {
  each = λ k. with_core t (k + 1) r c 0 (patch_at_index_or_unread new k)
      (subst (AreMeasuresOfPatchUpToCell t (k + 1) r c) (sym (same.each k))
      (without_core t (k + 1) r c 0 (patch_at_index_or_unread old k) (h.each k)));
  all = λ a b n before is. let most = h.all a b n before is in let long = same.long in omega arith;
  last = λ some. let long = same.long in
      subst (λ x. (a : ℕ) × ((b : ℕ) × (cell_at t.numbers a b ≡ Some (pos x)))) (sym long) (h.last (omega arith));
}

-- a cell that passes is below a core cell, whose number is in a row of numbers
pub core_number : (t : TileOfMap) (given : Grid) (left depth r c : ℕ) (below : List CellValue) (steps : List ℕ)
    (shown line : List CellValue) (number : CellValue) → t.numbers ≡ given
    → CanCountCoresOfRow t left depth r below steps → passes below steps (left + c) depth ≡ true
    → shown ≡ line → line ≡ row_at given r → length line ≡ given.region.cols → c < length line
    → number ≡ get_or shown c None
    → (n : ℕ) × (number ≡ Some (pos (n + 1))) × (cell_at t.numbers r c ≡ Some (pos (n + 1)))
    × (one_if_cell_is_core t.map depth (t.position.top + r) (t.position.left + c) ≡ 1)
core_number t given left depth r c below steps shown line number same h test one two wide lt three =
    let cols = ap (λ (m : Grid). m.region.cols) same in
    let found = core_here t left depth r c below steps h (omega arith)
    (subst (λ x. passes below steps (x + c) depth ≡ true) h.same test) in
    let is = three ∙ ap (λ (xs : List CellValue). get_or xs c None) (one ∙ two)
    ∙ ap (λ (m : Grid). cell_at m r c) (sym same) in
    (found.1.0, is ∙ found.1.1, found.1.1, found.0)

pub no_core_number : (t : TileOfMap) (left depth r c : ℕ) (below : List CellValue) (steps : List ℕ)
    → CanCountCoresOfRow t left depth r below steps → passes below steps (left + c) depth ≡ false
    → (n : ℕ) → value_of_cell_in_tile_patch t n (one_if_cell_is_core t.map depth) r c ≡ 0
no_core_number t left depth r c below steps h test n =
    core_apart t left depth n r c below steps h (subst (λ x. passes below steps (x + c) depth ≡ false) h.same test)
