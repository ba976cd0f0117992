-- Cells some steps inside cells of one value, and the diamonds whose lowest cell is a given cell.
use Rattle.std.proofs.Common.{◌≡◌, ℕ, zero, suc, ◌+◌, ◌-◌, ◌≤◌, ◌↔◌, true, sym, arith, subst, ⊎_elim, min}
use Rattle.std.proofs.lemmas.Bool.{and_from, and_parts, false≢true, cases_order, cases_lt}
use Rattle.cell_core_values.specs.Cell.{cell_eq-Decides}
use Rattle.cell_core.specs.Grid.{Grid, CellValue, cell_at}
use Rattle.cell_patches.specs.Patches.{has_value, do_cells_within_steps_have_value}
use Rattle.cell_patches.specs.parts.Passes.{AreStepsOfLargestDiamond}

-- a cell passes the test of a value if and only if it has the value
pub of_from : (m : Grid) (v : CellValue) (r c : ℕ) → cell_at m r c ≡ v → has_value m v r c ≡ true
of_from m v r c e = (cell_eq-Decides (cell_at m r c) v).1 e

pub of_to : (m : Grid) (v : CellValue) (r c : ℕ) → has_value m v r c ≡ true → cell_at m r c ≡ v
of_to m v r c e = (cell_eq-Decides (cell_at m r c) v).0 e

-- a cell is at most k steps across edges from another cell
abbrev pub IsNear : ℕ → ℕ → ℕ → ℕ → ℕ → Type 0
IsNear k r c a b = (a - r) + (r - a) + ((b - c) + (c - b)) ≤ k

-- all cells within k steps have the value, and none is beyond the first row or column
pub record IsWithin (m : Grid) (v : CellValue) (k r c : ℕ) : Type 0 where
  pub up : k ≤ r
  pub left : k ≤ c
  pub all : (a b : ℕ) → IsNear k r c a b → has_value m v a b ≡ true

pub within_from : (m : Grid) (v : CellValue) (k r c : ℕ) → do_cells_within_steps_have_value m v k r c ≡ true
    → IsWithin m v k r c
unfolding do_cells_within_steps_have_value
within_from m v zero r c h = record {
  up = omega arith;
  left = omega arith;
  all = λ a b near. let row : r ≡ a = omega arith in let col : c ≡ b = omega arith in
      subst (λ x. has_value m v x b ≡ true) row (subst (λ x. has_value m v r x ≡ true) col h);
}
within_from m v (suc k) zero c h = absurd (false≢true h)
within_from m v (suc k) (suc r) zero h = absurd (false≢true h)
within_from m v (suc k) (suc r) (suc c) h =
    let two = and_parts _ _ h in
    let one = and_parts _ _ two.0 in
    let rows = and_parts _ _ one.1 in
    let cols = and_parts _ _ two.1 in
    let here = within_from m v k (suc r) (suc c) one.0 in
    let north = within_from m v k r (suc c) rows.0 in
    let south = within_from m v k (suc (suc r)) (suc c) rows.1 in
    let west = within_from m v k (suc r) c cols.0 in
    let east = within_from m v k (suc r) (suc (suc c)) cols.1 in
    record {
      up = let u = north.up in omega arith;
      left = let u = west.left in omega arith;
      all = λ a b near.
          ⊎_elim
          (λ row. ⊎_elim
          (λ col. here.all a b (omega arith))
          (λ apart. ⊎_elim (λ lt. west.all a b (omega arith)) (λ lt. east.all a b (omega arith)) apart)
          (cases_order b (suc c)))
          (λ apart. ⊎_elim (λ lt. north.all a b (omega arith)) (λ lt. south.all a b (omega arith)) apart)
          (cases_order a (suc r));
    }

pub within_to : (m : Grid) (v : CellValue) (k r c : ℕ) → IsWithin m v k r c
    → do_cells_within_steps_have_value m v k r c ≡ true
unfolding do_cells_within_steps_have_value
within_to m v zero r c h = h.all r c (omega arith)
within_to m v (suc k) zero c h = absurd (let u = h.up in omega arith)
within_to m v (suc k) (suc r) zero h = absurd (let u = h.left in omega arith)
within_to m v (suc k) (suc r) (suc c) h =
    let up = h.up in
    let left = h.left in
    let here =
    within_to m v k (suc r) (suc c)
    (record { up = omega arith; left = omega arith; all = λ a b near. h.all a b (omega arith) }) in
    let north =
    within_to m v k
    r (suc c) (record { up = omega arith; left = omega arith; all = λ a b near. h.all a b (omega arith) }) in
    let south =
    within_to m v k (suc (suc r)) (suc c)
    (record { up = omega arith; left = omega arith; all = λ a b near. h.all a b (omega arith) }) in
    let west =
    within_to m v
    k (suc r) c (record { up = omega arith; left = omega arith; all = λ a b near. h.all a b (omega arith) }) in
    let east =
    within_to m v k (suc r) (suc (suc c))
    (record { up = omega arith; left = omega arith; all = λ a b near. h.all a b (omega arith) }) in
    and_from _ _ (and_from _ _ here (and_from _ _ north south)) (and_from _ _ west east)

pub of_same : (m : Grid) (v : CellValue) (a b x y : ℕ) → a ≡ x → b ≡ y → has_value m v x y ≡ true
    → has_value m v a b ≡ true
of_same m v a b x y row col h =
    subst (λ z. has_value m v z b ≡ true) (sym row) (subst (λ z. has_value m v x z ≡ true) (sym col) h)

-- a diamond with one more step consists of three diamonds and two cells
larger_from : (m : Grid) (v : CellValue) (k center c : ℕ) → IsWithin m v (suc k) (suc center) (suc c)
    → IsWithin m v k (suc center) c × IsWithin m v k (suc center) (suc (suc c))
    × IsWithin m v k center (suc c)
larger_from m v k center c h =
    let up = h.up in
    let left = h.left in (
      record { up = omega arith; left = omega arith; all = λ a b near. h.all a b (omega arith) },
      record { up = omega arith; left = omega arith; all = λ a b near. h.all a b (omega arith) },
      record { up = omega arith; left = omega arith; all = λ a b near. h.all a b (omega arith) },
    )

larger_to : (m : Grid) (v : CellValue) (k center c : ℕ) → IsWithin m v k (suc center) c
    → IsWithin m v k (suc center) (suc (suc c)) → IsWithin m v k center (suc c)
    → has_value m v (suc center + k) (suc c) ≡ true
    → has_value m v (suc (suc center) + k) (suc c) ≡ true → IsWithin m v (suc k) (suc center) (suc c)
larger_to m v k center c west east north above here = record {
  up = let u = north.up in omega arith;
  left = let u = west.left in omega arith;
  all = λ a b near.
      ⊎_elim
      (λ col. ⊎_elim
      (λ lt. north.all a b (omega arith))
      (λ ge. ⊎_elim
      (λ row. of_same m v a b _ _ row col above)
      (λ apart. ⊎_elim
      (λ lt. west.all a b (omega arith))
      (λ lt. let row : a ≡ suc (suc center) + k = omega arith in of_same m v a b _ _ row col here)
      apart)
      (cases_order a (suc center + k)))
      (cases_lt a (suc center)))
      (λ apart. ⊎_elim (λ lt. west.all a b (omega arith)) (λ lt. east.all a b (omega arith)) apart)
      (cases_order b (suc c));
}

-- if a diamond with a step or more is within a patch, so are the cells north of its lowest cell
pub pure : (m : Grid) (v : CellValue) (k center r c : ℕ) → center + suc k ≡ suc (suc r)
    → do_cells_within_steps_have_value m v (suc k) center (suc c) ≡ true
    → ((has_value m v (suc r) (suc c) ≡ true) × (has_value m v (suc r) c ≡ true))
    × ((has_value m v (suc r) (suc (suc c)) ≡ true) × (has_value m v r (suc c) ≡ true))
pure m v k center r c e h =
    let w = within_from m v (suc k) center (suc c) h in (
      (w.all (suc r) (suc c) (omega arith), w.all (suc r) c (omega arith)),
      (w.all (suc r) (suc (suc c)) (omega arith), w.all r (suc c) (omega arith)),
    )

-- a diamond with at least one step does not have its lowest cell at the edge of the map
pub edge_row : (m : Grid) (v : CellValue) (k center r c : ℕ) → center + suc k ≡ r → r ≤ 1
    → do_cells_within_steps_have_value m v (suc k) center c ≡ true → ⊥
edge_row m v k center r c e small h =
    let w = within_from m v (suc k) center c h in let up = w.up in omega arith

pub edge_col : (m : Grid) (v : CellValue) (k center : ℕ)
    → do_cells_within_steps_have_value m v (suc k) center 0 ≡ true → ⊥
edge_col m v k center h = let w = within_from m v (suc k) center 0 h in let left = w.left in omega arith

-- a cell that is not the lowest cell of any diamond with a step has 0 steps
pub steps_none : (m : Grid) (v : CellValue) (r c : ℕ) → has_value m v r c ≡ true
    → ((k center : ℕ) → center + suc k ≡ r → do_cells_within_steps_have_value m v (suc k) center c ≡ true → ⊥)
    → AreStepsOfLargestDiamond m v r c 0
unfolding do_cells_within_steps_have_value
steps_none m v r c here none = record { within = omega arith; exactly = exactly }
  where
    exactly : (k center : ℕ) → center + k ≡ r → (k ≤ 0) ↔ (do_cells_within_steps_have_value m v k center c ≡ true)
    exactly zero center e = (
      λ _. subst (λ x. has_value m v x c ≡ true) (let f : r ≡ center = omega arith in f) here,
      λ _. omega arith,
    )
    exactly (suc k) center e = (λ h. absurd (omega arith), λ h. absurd (none k center e h))

pub steps_more : (m : Grid) (v : CellValue) (r c w e nn steps : ℕ)
    → has_value m v (suc (suc r)) (suc c) ≡ true → has_value m v (suc r) (suc c) ≡ true
    → AreStepsOfLargestDiamond m v (suc r) c w → AreStepsOfLargestDiamond m v (suc r)
    (suc (suc c)) e
    → AreStepsOfLargestDiamond m v r (suc c) nn
    → steps ≡ suc (min (min w e) nn) → AreStepsOfLargestDiamond m v (suc (suc r)) (suc c) steps
unfolding do_cells_within_steps_have_value
steps_more m v r c w e nn steps here above west east north is = record {
  within = let a = west.within in omega arith;
  exactly = exactly;
}
  where
    most : (k : ℕ) → suc k ≤ steps → (k ≤ w) × ((k ≤ e) × (k ≤ nn))
    most k le = (omega arith, (omega arith, omega arith))

    least : (k : ℕ) → k ≤ w → k ≤ e → k ≤ nn → suc k ≤ steps
    least k a b d = omega arith

    larger : (k center : ℕ) → suc center + k ≡ suc r → k ≤ w → k ≤ e → k ≤ nn
        → do_cells_within_steps_have_value m v (suc k) (suc center) (suc c) ≡ true
    larger k center at a b d =
        within_to m v (suc k) (suc center) (suc c) (larger_to m v k center c
        (within_from m v k (suc center) c ((west.exactly k (suc center) at).0 a))
        (within_from m v k (suc center) (suc (suc c)) ((east.exactly k (suc center) at).0 b))
        (within_from m v k center (suc c) ((north.exactly k center (omega arith)).0 d))
        (subst (λ x. has_value m v x (suc c) ≡ true) (sym at) above)
        (subst (λ x. has_value m v x (suc c) ≡ true)
        (let f : suc (suc r) ≡ suc (suc center) + k = omega arith in f) here))

    smaller : (k center : ℕ) → suc center + k ≡ suc r → do_cells_within_steps_have_value m v (suc k) (suc center)
        (suc c) ≡ true
        → suc k ≤ steps
    smaller k center at h =
        let three = larger_from m v k center c (within_from m v (suc k) (suc center) (suc c) h) in
        least k ((west.exactly k (suc center) at).1 (within_to m v k (suc center) c three.0))
        ((east.exactly k (suc center) at).1 (within_to m v k (suc center) (suc (suc c)) three.1))
        ((north.exactly k center (omega arith)).1 (within_to m v k center (suc c) three.2))

    exactly : (k center : ℕ) → center + k ≡ suc (suc r) → (k ≤ steps)
        ↔ (do_cells_within_steps_have_value m v k center (suc c) ≡ true)
    exactly zero center at = (
      λ _. subst (λ x. has_value m v x (suc c) ≡ true) (let f : suc (suc r) ≡ center = omega arith in f)
          here,
      λ _. omega arith,
    )
    exactly (suc k) zero at = (
      λ le. let m = most k le in absurd (let a = m.1.1 in let b = north.within in omega arith),
      λ h. absurd (let w = within_from m v (suc k) zero (suc c) h in let up = w.up in omega arith),
    )
    exactly (suc k) (suc center) at = (
      λ le. let m = most k le in larger k center (omega arith) m.0 m.1.0 m.1.1,
      λ h. smaller k center (omega arith) h,
    )

-- if a cell is k steps inside cells of a value, the cell k rows further south has the value
pub inside_south : (m : Grid) (v : CellValue) (k r c : ℕ) → do_cells_within_steps_have_value m v k r c ≡ true
    → has_value m v (r + k) c ≡ true
inside_south m v k r c h = (within_from m v k r c h).all (r + k) c (omega arith)

-- the center of a diamond has the value
pub inside_center : (m : Grid) (v : CellValue) (k r c : ℕ) → do_cells_within_steps_have_value m v k r c ≡ true
    → has_value m v r c ≡ true
inside_center m v k r c h = (within_from m v k r c h).all r c (omega arith)

-- if each cell with one value has the other value on another map, so do the cells within some steps
pub within_more : (m w : Grid) (u v : CellValue)
    → ((a b : ℕ) → has_value m u a b ≡ true → has_value w v a b ≡ true) → (k r c : ℕ)
    → do_cells_within_steps_have_value m u k r c ≡ true → do_cells_within_steps_have_value w v k r c ≡ true
within_more m w u v more k r c h =
    let whole = within_from m u k r c h in
    within_to w v k r c (record {
      up = whole.up;
      left = whole.left;
      all = λ a b near. more a b (whole.all a b near);
    })
