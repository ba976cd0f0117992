-- The border of a tile passes the checks.
use Rattle.std.proofs.Common.{◌≡◌, ◌∙◌, ℕ, ℤ, zero, suc, pos, ◌+◌, ◌-◌, ◌<◌, ◌≤◌, List, [], ◌∷◌, length, take, sum}
use Rattle.std.proofs.Common.{Bool, true, false, ◌&&◌, not, cond, Option, Some, None, inl, inr, IsSome, get_or, refl}
use Rattle.std.proofs.Common.{ap, sym, subst, arith}
use Rattle.std.specs.Prelude.{nat_le, if◌then◌else◌, slice_index_or}
use Rattle.std.specs.List.{AllPass, list_all, range_with_len}
use Rattle.std.proofs.lemmas.Bool.{le-leb}
use Rattle.std.proofs.lemmas.List.{take_all}
use Rattle.std.proofs.lemmas.List.FromFn.{get_or-range_with_len, length-range_with_len}
use Rattle.std.proofs.lemmas.List.Sums.{list_all-from_AllPass}
use Rattle.cell_core_values.specs.Cell.{cell_eq, cell_eq-Decides}
use Rattle.cell_core.specs.Grid.{CellValue, Grid}
use Rattle.cell_clumps.specs.declared.clump.Joining.{Joining}
use Rattle.cell_clumps.specs.declared.clump.Joining.TheVariants.{Edges, EdgesAndCorners}
use Rattle.cell_clumps.specs.Clumps.{AreAdjacent, IsClumpMapOf, Position, CellsShareEdge, cell_at_position}
use Rattle.cell_clumps.specs.parts.CellPlaces.{position_at_row_and_column}
use Rattle.cell_clumps.proofs.PathLemmas.{AreJoined-adjacent, AreJoined-first, AreJoined-last}
use Rattle.cell_join_tiles.proofs.GreatestLemmas.{first-bound, has-clumps}
use Rattle.cell_join_tiles.proofs.ListedAtLemmas.{listed_at-of}
use Rattle.cell_join_tiles.specs.Borders.{BegunCountsAreMaximumRises}
use Rattle.cell_join_tiles.specs.JoinedBorders.{TileHasBorder}
use Rattle.cell_join_tiles.specs.SeamLines.{TileHasSide}
use Rattle.cell_join_tiles.specs.Values.{TileBorderValue, TileSideValue}
use Rattle.rcell_pipe_borders.specs.BorderChecks.{sides_agree_at_all_corners, is_valid_border, sides_agree_at_corner}
use Rattle.rcell_pipe_borders.specs.BorderChecks.{cell_fits_patch_number, is_valid_tile_side}
use Rattle.rcell_pipe_borders.specs.BorderChecks.{is_valid_side_cell, adjacent_cells_fit_numbers, side_cell}
use Rattle.rcell_pipe_borders.specs.BorderChecks.{side_patch_number}
use Rattle.rcell_pipe_borders.specs.BorderLaw.{BordersOfTilesAreValid}

both : (a b : Bool) → a ≡ true → b ≡ true → (a && b) ≡ true
both a b one other = ap (λ (x : Bool). x && b) one ∙ other

same-cell : (a b : CellValue) → a ≡ b → cell_eq a b ≡ true
same-cell a b is = (cell_eq-Decides a b).1 is

number-good : (most n : ℕ) → n + 1 ≤ most → (nat_le 1 (n + 1) && nat_le (n + 1) most) ≡ true
number-good most n few =
    both (nat_le 1 (n + 1)) (nat_le (n + 1) most) (le-leb 1 (n + 1) (omega arith)) (le-leb (n + 1) most few)

shares : (j : Joining) (p q : Position) → CellsShareEdge p q → AreAdjacent j p q
shares Edges p q edge = edge
shares EdgesAndCorners p q edge = inl edge

module _ (j : Joining) (rows : ℕ) (m numbers : Grid) (begun : List ℕ) (clumping : IsClumpMapOf j m numbers)
    (rises : BegunCountsAreMaximumRises rows numbers begun) where
  abbrev cell : Position → CellValue
  cell p = cell_at_position m p

  abbrev number : Position → CellValue
  number p = cell_at_position numbers p

  numbered : (p : Position) → p.row < rows → cell_fits_patch_number (sum begun) (cell p) (number p) ≡ true
  numbered p inside = by (cell p) refl
    where
      by : (c : CellValue) → cell p ≡ c → cell_fits_patch_number (sum begun) (cell p) (number p) ≡ true
      by None e = rw (e, clumping.nulls p e) refl
      by (Some v) e =
          let clumps = has-clumps j m numbers clumping in
          let s = listed_at-of j m clumps.0 clumps.1 numbers clumping p (rw e refl) in
          let few = first-bound 0 (s.place + 1) rows numbers.rows p.row p.col inside s.number in
          let all = rises.most rows (omega arith) in
          let whole : sum (take rows begun) ≡ sum begun =
          ap sum (take_all rows begun (omega (arith, rises.long))) in
          rw (e, s.number) (number-good (sum begun) s.place (omega (arith, few, all, whole)))

  -- two adjacent cells have one number if and only if they have one category
  stepped : (p q : Position) → AreAdjacent j p q
      → (if cell_eq (cell p) (cell q) then cell_eq (number p) (number q)
      else not (cell_eq (number p) (number q))) ≡ true
  stepped p q near = by (cell p) (cell q) refl refl
    where
      by : (a b : CellValue) → cell p ≡ a → cell q ≡ b
          → (if cell_eq (cell p) (cell q) then cell_eq (number p) (number q)
          else not (cell_eq (number p) (number q))) ≡ true
      by None None e f = rw (e, f, clumping.nulls p e, clumping.nulls q f) refl
      by None (Some w) e f =
          let t = clumping.numbered q (rw f refl) in rw (e, f, clumping.nulls p e, t.2) refl
      by (Some v) None e f =
          let t = clumping.numbered p (rw e refl) in rw (e, f, t.2, clumping.nulls q f) refl
      by (Some v) (Some w) e f = test (cell_eq (cell p) (cell q)) refl
        where
          test : (t : Bool) → cell_eq (cell p) (cell q) ≡ t
              → (if t then cell_eq (number p) (number q) else not (cell_eq (number p) (number q))) ≡ true
          test true is =
              let alike : cell p ≡ cell q = (cell_eq-Decides (cell p) (cell q)).0 is in
              let joined = AreJoined-adjacent j m p q v near e (sym alike ∙ e) in
              same-cell (number p) (number q) ((clumping.same p q (rw e refl) (rw f refl)).1 joined)
          test false is = other (cell_eq (number p) (number q)) refl
            where
              other : (t : Bool) → cell_eq (number p) (number q) ≡ t → not t ≡ true
              other false off = refl
              other true on =
                  let one : number p ≡ number q = (cell_eq-Decides (number p) (number q)).0 on in
                  let joined = (clumping.same p q (rw e refl) (rw f refl)).0 one in
                  let alike : cell p ≡ cell q = AreJoined-first j m p q joined ∙ sym (AreJoined-last j m p q joined) in
                  cc (is, same-cell (cell p) (cell q) alike)

  module _ (count : ℕ) (at : ℕ → Position) (side : TileSideValue)
      (has : TileHasSide m numbers count at side.cells side.numbers)
      (inside : (k : ℕ) → k < count → (at k).row < rows)
      (near : (k : ℕ) → AreAdjacent j (at k) (at (k + 1))) where
    step : (k : ℕ) → k + 1 < count → adjacent_cells_fit_numbers side k (k + 1) ≡ true
    step k lt =
        rw (
          has.each_cell k (omega (arith, lt)),
          has.each_number k (omega (arith, lt)),
          has.each_cell (k + 1) lt,
          has.each_number (k + 1) lt,
        )
        (stepped (at k) (at (k + 1)) (near k))

    step-before : (k : ℕ) → k < count → adjacent_cells_fit_numbers side (k - 1) k ≡ true
    step-before zero lt =
        rw (same-cell (side_cell side 0) (side_cell side 0) refl)
        (same-cell (side_patch_number side 0) (side_patch_number side 0) refl)
    step-before (suc k) lt =
        let one : k + 1 ≡ suc k = omega arith in
        let back : k ≡ suc k - 1 = omega arith in
        subst (λ (n : ℕ). adjacent_cells_fit_numbers side n (suc k) ≡ true) back
        (subst (λ (n : ℕ). adjacent_cells_fit_numbers side k n ≡ true) one (step k (omega (arith, lt))))

    good-cell : (k : ℕ) → k < count → is_valid_side_cell (sum begun) side k ≡ true
    good-cell k lt =
        both (cell_fits_patch_number (sum begun) (side_cell side k) (side_patch_number side k))
        (adjacent_cells_fit_numbers side (k - 1) k)
        (rw (has.each_cell k lt, has.each_number k lt) (numbered (at k) (inside k lt))) (step-before k lt)

    good-side : is_valid_tile_side (sum begun) side ≡ true
    good-side =
        list_all-from_AllPass (is_valid_side_cell (sum begun) side) (range_with_len 0 (length side.cells)) (λ k d lt.
        let long = length-range_with_len 0 (length side.cells) in
        let within : k < length side.cells = omega (arith, lt, long) in
        let here : get_or (range_with_len 0 (length side.cells)) k d ≡ k =
        get_or-range_with_len 0 (length side.cells) k d within ∙ omega arith in
        subst (λ (n : ℕ). is_valid_side_cell (sum begun) side n ≡ true) (sym here)
        (good-cell k (omega (arith, within, has.long))))

-- two sides with one cell have one corner
corner : (m numbers : Grid) (count other : ℕ) (at to : ℕ → Position) (one two : TileSideValue)
    → TileHasSide m numbers count at one.cells one.numbers → TileHasSide m numbers other to two.cells two.numbers
    → (i k : ℕ) → i < count → k < other → at i ≡ to k → sides_agree_at_corner one i two k ≡ true
corner m numbers count other at to one two has has_other i k lt lt_other is =
    both (cell_eq (side_cell one i) (side_cell two k)) (cell_eq (side_patch_number one i) (side_patch_number two k))
    (same-cell (side_cell one i) (side_cell two k)
    (has.each_cell i lt ∙ ap (cell_at_position m) is ∙ sym (has_other.each_cell k lt_other)))
    (same-cell (side_patch_number one i) (side_patch_number two k)
    (has.each_number i lt ∙ ap (cell_at_position numbers) is ∙ sym (has_other.each_number k lt_other)))

pub borders-pass : BordersOfTilesAreValid
borders-pass j rows cols m numbers border some_rows some_cols has =
    let along_row : (r k : ℕ) → AreAdjacent j (position_at_row_and_column r k) (position_at_row_and_column r (k + 1)) =
    λ r k. shares j (position_at_row_and_column r k) (position_at_row_and_column r (k + 1)) (inl (refl, inl refl)) in
    let along_col : (c k : ℕ) → AreAdjacent j (position_at_row_and_column k c) (position_at_row_and_column (k + 1) c) =
    λ c k. shares j (position_at_row_and_column k c) (position_at_row_and_column (k + 1) c) (inr (inl refl, refl)) in
    let side = good-side j rows m numbers border.begun has.clumping has.rises in
    let first = side cols (position_at_row_and_column 0) border.first has.first (λ k lt. some_rows) (along_row 0) in
    let last = side cols (position_at_row_and_column (rows - 1)) border.last has.last (λ k lt. omega (arith, some_rows))
    (along_row (rows - 1)) in
    let left = side rows (λ k. position_at_row_and_column k 0) border.left has.left (λ k lt. lt) (along_col 0) in
    let right = side rows (λ k. position_at_row_and_column k (cols - 1)) border.right has.right (λ k lt. lt)
    (along_col (cols - 1)) in
    let patches = sum border.begun in
    both (is_valid_tile_side patches border.first) _ first
    (both (is_valid_tile_side patches border.last) _ last
    (both (is_valid_tile_side patches border.left) _ left
    (both (is_valid_tile_side patches border.right) _ right
    (corners j rows cols m numbers border some_rows some_cols has))))
  where
    corners : (j : Joining) (rows cols : ℕ) (m numbers : Grid) (border : TileBorderValue) → 0 < rows → 0 < cols
        → TileHasBorder j rows cols m numbers border → sides_agree_at_all_corners border ≡ true
    corners j rows cols m numbers border some_rows some_cols has =
        let high : length border.left.cells ≡ rows = has.left.long in
        let high_right : length border.right.cells ≡ rows = has.right.long in
        let wide : length border.first.cells ≡ cols = has.first.long in
        let wide_below : length border.last.cells ≡ cols = has.last.long in
        let down : ℕ → Position = λ k. position_at_row_and_column k 0 in
        let down_right : ℕ → Position = λ k. position_at_row_and_column k (cols - 1) in
        both (sides_agree_at_corner border.first 0 border.left 0) _
        (corner m numbers cols rows (position_at_row_and_column 0) down border.first border.left has.first has.left 0
        0 some_cols
        some_rows refl)
        (both (sides_agree_at_corner border.first (length border.first.cells - 1) border.right 0) _
        (corner m numbers cols rows (position_at_row_and_column 0) down_right border.first border.right has.first
        has.right
        (length border.first.cells - 1) 0 (omega (arith, wide, some_cols)) some_rows
        (ap (λ (n : ℕ). position_at_row_and_column 0 (n - 1)) wide))
        (both (sides_agree_at_corner border.last 0 border.left (length border.left.cells - 1)) _
        (corner m numbers cols rows (position_at_row_and_column
        (rows - 1)) down border.last border.left has.last has.left 0
        (length border.left.cells - 1) some_cols (omega (arith, high, some_rows))
        (ap (λ (n : ℕ). position_at_row_and_column (n - 1) 0) (sym high)))
        (corner m numbers cols rows (position_at_row_and_column
        (rows - 1)) down_right border.last border.right has.last has.right
        (length border.last.cells - 1) (length border.right.cells - 1) (omega (arith, wide_below, some_cols))
        (omega (arith, high_right, some_rows))
        (λ i. position_at_row_and_column (sym high_right i - 1) (wide_below i - 1)))))
