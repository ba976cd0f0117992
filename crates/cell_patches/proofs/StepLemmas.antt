-- The steps of a cell are computed from the steps of the two rows above.
use Rattle.std.proofs.Common.{◌≡◌, ℕ, ℤ, zero, suc, ◌+◌, ◌-◌, ◌<◌, ◌≤◌, true, false, List, length, Some, None, min}
use Rattle.std.proofs.Common.{get_or, refl, ap, sym, ◌∙◌, arith, subst, inl, inr, ◌⊎◌}
use Rattle.std.proofs.lemmas.List.{get_or_past}
use Rattle.std.proofs.lemmas.Bool.{and_from, and_parts, cases_lt, both_ways, false_from_ne_true, le-leb}
use Rattle.cell_core_values.specs.Cell.{cell_eq, cell_eq-Decides}
use Rattle.cell_core.specs.Grid.{Grid, CellValue, cell_at}
use Rattle.cell_patches.specs.declared.near_rows.RowsAroundRow.{RowsAroundRow}
use Rattle.cell_patches.specs.Patches.{do_cells_within_steps_have_value}
use Rattle.cell_patches.specs.parts.Passes.{AreRowsAroundRow, AreStepsOfLargestDiamond}
use Rattle.cell_patches.specs.parts.Passes.{cell_rows_above_or_null}
use Rattle.cell_patches.specs.parts.Passes.{cell_equals_four_cells_above}
use Rattle.cell_patches.specs.parts.Passes.{RowsGiveDiamondStepsOfCell, RowsGiveDiamondStepsOfRow}
use Rattle.cell_patches.proofs.InsideLemmas.{of_from, of_to, pure, edge_row, edge_col, steps_none, steps_more}

-- a cell that equals a cell with a number has that number
eq_to : (x y : CellValue) (v : ℤ) → y ≡ Some v → cell_eq x y ≡ true → x ≡ Some v
eq_to x y v e h = (cell_eq-Decides x y).0 h ∙ e

eq_from : (x y : CellValue) (v : ℤ) → y ≡ Some v → x ≡ Some v → cell_eq x y ≡ true
eq_from x y v e h = (cell_eq-Decides x y).1 (h ∙ sym e)

pure_facts : (lines : RowsAroundRow) (west : ℕ) (v : ℤ) → get_or lines.here.now (west + 1) None ≡ Some v
    → cell_equals_four_cells_above lines west ≡ true
    → (get_or lines.above.now (west + 1) None ≡ Some v)
    × ((get_or lines.above.now west None ≡ Some v)
    × ((get_or lines.above.now (west + 2) None ≡ Some v)
    × (get_or lines.second_above.now (west + 1) None ≡ Some v)))
pure_facts lines west v cell is_so =
    let one = and_parts _ _ is_so in
    let two = and_parts _ _ one.1 in
    let three = and_parts _ _ two.1 in
    (eq_to _ _ v cell one.0, (eq_to _ _ v cell two.0, (eq_to _ _ v cell three.0, eq_to _ _ v cell three.1)))

-- the cell one row above, by its row number
up_one : (m : Grid) (r c : ℕ) → cell_rows_above_or_null 1 m (suc r) c ≡ cell_at m r c
up_one m r c = let t : suc r - 1 ≡ r = omega arith in let le = le-leb 1 (suc r) (omega arith) in rw (le, t) refl

up_two : (m : Grid) (r c : ℕ) → cell_rows_above_or_null 2 m (suc (suc r)) c ≡ cell_at m r c
up_two m r c =
    let t : suc (suc r) - 2 ≡ r = omega arith in let le = le-leb 2 (suc (suc r)) (omega arith) in rw (le, t) refl

-- the first column has 0 steps
pub steps_first : (lines : RowsAroundRow) (above second_above : List ℕ)
    → RowsGiveDiamondStepsOfCell lines 0 above second_above 0
steps_first lines above second_above m r h v is =
    steps_none m (Some v) r 0 (of_from m (Some v) r 0 is) (λ k center e inside. edge_col m (Some v) k center inside)

-- if the cells to the north are not all equal, the cell has 0 steps
pub steps_impure : (lines : RowsAroundRow) (west : ℕ) (above second_above : List ℕ)
    → cell_equals_four_cells_above lines west ≡ false
    → RowsGiveDiamondStepsOfCell lines (west + 1) above second_above 0
steps_impure lines west above second_above impure m zero h v is =
    steps_none m (Some v) 0 (west + 1) (of_from m (Some v) 0 (west + 1) is)
    (λ k center e inside. edge_row m (Some v) k center 0 (west + 1) e (omega arith) inside)
steps_impure lines west above second_above impure m (suc zero) h v is =
    steps_none m (Some v) 1 (west + 1) (of_from m (Some v) 1 (west + 1) is)
    (λ k center e inside. edge_row m (Some v) k center 1 (west + 1) e (omega arith) inside)
steps_impure lines west above second_above impure m (suc (suc r)) h v is =
    steps_none m (Some v) (suc (suc r)) (west + 1) (of_from m (Some v) (suc (suc r)) (west + 1) is)
    (λ k center e inside. never k center e (subst (λ x. do_cells_within_steps_have_value m (Some v) (suc k) center x
    ≡ true) next inside))
  where
    next : west + 1 ≡ suc west
    next = omega arith

    cell : get_or lines.here.now (west + 1) None ≡ Some v
    cell = h.at.here (west + 1) ∙ is

    never : (k center : ℕ) → center + suc k ≡ suc (suc r) → do_cells_within_steps_have_value m (Some v) (suc k) center
        (suc west) ≡ true → ⊥
    never k center e inside =
        let four = pure m (Some v) k center r west e inside in
        let a : get_or lines.above.now (west + 1) None ≡ Some v =
        h.at.above (west + 1) ∙ up_one m (suc r) (west + 1) ∙ ap (cell_at m (suc r)) next
        ∙ of_to m (Some v) (suc r) (suc west) four.0.0 in
        let b : get_or lines.above.now west None ≡ Some v =
        h.at.above west ∙ up_one m (suc r) west ∙ of_to m (Some v) (suc r) west four.0.1 in
        let c : get_or lines.above.now (west + 2) None ≡ Some v =
        h.at.above (west + 2) ∙ up_one m (suc r) (west + 2)
        ∙ ap (cell_at m (suc r)) (let f : west + 2 ≡ suc (suc west) = omega arith in f)
        ∙ of_to m (Some v) (suc r) (suc (suc west)) four.1.0 in
        let d : get_or lines.second_above.now (west + 1) None ≡ Some v =
        h.at.second_above (west + 1) ∙ up_two m r (west + 1) ∙ ap (cell_at m r) next
        ∙ of_to m (Some v) r (suc west) four.1.1 in
        both_ways _
        impure (and_from _ _ (eq_from _ _ v cell a)
        (and_from _ _ (eq_from _ _ v cell b) (and_from _ _ (eq_from _ _ v cell c) (eq_from _ _ v cell d))))

-- no cell of the first two rows has a cell two rows above it
not_up : (m : Grid) (c : ℕ) (v : ℤ) → cell_rows_above_or_null 2 m 0 c ≡ Some v → ⊥
not_up m c v e = (let f : None ≡ Some v = e in cc)

not_up_one : (m : Grid) (c : ℕ) (v : ℤ) → cell_rows_above_or_null 2 m 1 c ≡ Some v → ⊥
not_up_one m c v e = (let f : None ≡ Some v = e in cc)

pub steps_pure : (lines : RowsAroundRow) (west steps : ℕ) (above second_above : List ℕ)
    → cell_equals_four_cells_above lines west ≡ true
    → steps ≡ min (min (min (get_or above west 0) (get_or above (west + 2) 0)) (get_or second_above (west + 1) 0) + 1)
    4294967295
    → RowsGiveDiamondStepsOfCell lines (west + 1) above second_above steps
steps_pure lines west steps above second_above is_so value m zero h v is =
    absurd (not_up
    m (west + 1) v
    (sym (h.at.second_above (west + 1))
    ∙ (pure_facts lines west v (h.at.here (west + 1) ∙ is)
    is_so).1.1.1))
steps_pure lines west steps above second_above is_so value m (suc zero) h v is =
    absurd (not_up_one m (west + 1) v
    (sym (h.at.second_above (west + 1))
    ∙ (pure_facts lines west v (h.at.here (west + 1) ∙ is)
    is_so).1.1.1))
steps_pure lines west steps above second_above is_so value m (suc (suc r)) h v is =
    subst (λ x. AreStepsOfLargestDiamond m (Some v) (suc (suc r)) x steps) (sym next)
    (steps_more m (Some v) r west w e nn steps
    (of_from m (Some v) (suc (suc r)) (suc west) (ap (cell_at m (suc (suc r))) (sym next) ∙ is))
    (of_from m (Some v) (suc r) (suc west) a) one two three many)
  where
    next : west + 1 ≡ suc west
    next = omega arith

    cell : get_or lines.here.now (west + 1) None ≡ Some v
    cell = h.at.here (west + 1) ∙ is

    w : ℕ
    w = get_or above west 0

    e : ℕ
    e = get_or above (west + 2) 0

    nn : ℕ
    nn = get_or second_above (west + 1) 0

    a : cell_at m (suc r) (suc west) ≡ Some v
    a =
        ap (cell_at m (suc r)) (sym next) ∙ sym (up_one m (suc r) (west + 1)) ∙ sym (h.at.above (west + 1))
        ∙ (pure_facts lines west v cell is_so).0

    b : cell_at m (suc r) west ≡ Some v
    b = sym (up_one m (suc r) west) ∙ sym (h.at.above west) ∙ (pure_facts lines west v cell is_so).1.0

    c : cell_at m (suc r) (west + 2) ≡ Some v
    c =
        sym (up_one m (suc r) (west + 2)) ∙ sym (h.at.above (west + 2))
        ∙ (pure_facts lines west v cell is_so).1.1.0

    d : cell_at m r (west + 1) ≡ Some v
    d =
        sym (up_two m r (west + 1)) ∙ sym (h.at.second_above (west + 1))
        ∙ (pure_facts lines west v cell is_so).1.1.1

    one : AreStepsOfLargestDiamond m (Some v) (suc r) west w
    one = h.one (suc r) (omega arith) west v b

    two : AreStepsOfLargestDiamond m (Some v) (suc r) (suc (suc west)) e
    two =
        subst (λ x. AreStepsOfLargestDiamond m (Some v) (suc r) x e) (let f : west + 2
        ≡ suc (suc west) = omega arith in f)
        (h.one (suc r) (omega arith) (west + 2) v c)

    three : AreStepsOfLargestDiamond m (Some v) r (suc west) nn
    three = subst (λ x. AreStepsOfLargestDiamond m (Some v) r x nn) next (h.two r (omega arith) (west + 1) v d)

    many : steps ≡ suc (min (min w e) nn)
    many = let most = h.row_most in let within = one.within in omega (arith, value)

-- a cell without a cell to its upper right, or without one two rows above it, has 0 steps
steps_outside : (lines : RowsAroundRow) (west : ℕ) (above second_above : List ℕ)
    → (length lines.above.now ≤ west + 2) ⊎ (length lines.second_above.now ≤ west + 1)
    → RowsGiveDiamondStepsOfCell lines (west + 1) above second_above 0
steps_outside lines west above second_above outside m r h v is =
    steps_impure lines west above second_above
    (false_from_ne_true _
    (λ is_so. never outside (pure_facts lines west v (h.at.here (west + 1) ∙ is) is_so).1.1))
    m r h v is
  where
    never : (length lines.above.now ≤ west + 2) ⊎ (length lines.second_above.now ≤ west + 1)
        → (get_or lines.above.now (west + 2) None ≡ Some v) × (get_or lines.second_above.now (west + 1) None ≡ Some v)
        → ⊥
    never (inl past) has = let f : None ≡ Some v = sym (get_or_past lines.above.now (west + 2) None past) ∙ has.0 in cc
    never (inr past) has =
        let f : None ≡ Some v = sym (get_or_past lines.second_above.now (west + 1) None past) ∙ has.1 in cc

-- if each cell up to the end of a row has its steps, all cells of the row have them
steps_row : (m : Grid) (r : ℕ) (lines : RowsAroundRow) (here : List ℕ)
    → AreRowsAroundRow m r lines
    → length here ≡ length lines.here.now
    → ((c : ℕ) → c < length here → (v : ℤ) → cell_at m r c ≡ Some v
    → AreStepsOfLargestDiamond m (Some v) r c (get_or here c 0)) → (c : ℕ) (v : ℤ) → cell_at m r c ≡ Some v
    → AreStepsOfLargestDiamond m (Some v) r c (get_or here c 0)
steps_row m r lines here at long each c v is = by_case (cases_lt c (length here))
  where
    by_case : (c < length here) ⊎ (length here ≤ c) → AreStepsOfLargestDiamond m (Some v) r c (get_or here c 0)
    by_case (inl lt) = each c lt v is
    by_case (inr le) =
        let none : cell_at m r c ≡ None =
        sym (at.here c) ∙ get_or_past lines.here.now c None (omega arith) in
        absurd (let f : None ≡ Some v = sym none ∙ is in cc)

-- if each cell before a column has its steps, and no later cell has cells to its upper right and two rows above it, all
-- cells of the row have their steps
pub steps_rest : (lines : RowsAroundRow) (above second_above here : List ℕ) (col : ℕ) → 0 < col
    → ((k : ℕ) → k < col → RowsGiveDiamondStepsOfCell lines k above second_above (get_or here k 0))
    → ((k : ℕ) → col ≤ k → get_or here k 0 ≡ 0)
    → length here ≡ length lines.here.now
    → min (min (length here) (length lines.second_above.now)) (length lines.above.now - 1) ≤ col
    → RowsGiveDiamondStepsOfRow lines above second_above here
steps_rest lines above second_above here col some before after long end m r h =
    steps_row m r lines here h.at long (λ k lt. each k lt (cases_lt k col) m r h)
  where
    each : (k : ℕ) → k < length here → (k < col) ⊎ (col ≤ k)
        → RowsGiveDiamondStepsOfCell lines k above second_above (get_or here k 0)
    each k lt (inl early) = before k early
    each k lt (inr late) = rw (after k late) (past k lt late (cases_lt (k + 1) (length lines.above.now)))
      where
        past : (k : ℕ) → k < length here → col ≤ k → (k + 1 < length lines.above.now) ⊎ (length lines.above.now ≤ k + 1)
            → RowsGiveDiamondStepsOfCell lines k above second_above 0
        past zero lt late which = absurd (omega arith)
        past (suc west) lt late (inl lower) = subst (λ x. RowsGiveDiamondStepsOfCell lines x above second_above 0)
            (let e : west + 1 ≡ suc west = omega arith in e)
            (steps_outside lines west above second_above (inr (omega arith)))
        past (suc west) lt late (inr higher) = subst (λ x. RowsGiveDiamondStepsOfCell lines x above second_above 0)
            (let e : west + 1 ≡ suc west = omega arith in e)
            (steps_outside lines west above second_above (inl (omega arith)))
