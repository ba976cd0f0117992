-- Labels of clumps are ordered by row of tiles, row in the tile, column of tiles and number, and each number
-- below the count is the label of a clump.
use Rattle.std.proofs.Common.{◌≡◌, ℕ, suc, ◌+◌, ◌-◌, ◌<◌, ◌≤◌, List, [], take, length, get_or, ap, sym, ◌∙◌, arith, subst, inl, inr, ⊎_elim, ◌⊎◌}
use Rattle.std.specs.Prelude.{sum, sum_by}
use Rattle.std.proofs.lemmas.Bool.{cases_lt, cases_order}
use Rattle.std.proofs.lemmas.List.{get_or_past}
use Rattle.std.proofs.lemmas.List.Sums.{sum_by-take-le}
use Rattle.cell_join_tiles.specs.Beginnings.{BegunClumpCountsByRow, clump_count_of_tile_row, clump_count_of_tile_grid, begun_clump_count_before_row, begun_clump_count_above_in_tiles, begun_clump_count_in_row_to_left, row_where_clump_number_begins, label_of_clump_begun_in_row, clump_label_in_tile_row, label_of_clump_in_tile_grid}
use Rattle.cell_join_tiles.proofs.StretchLemmas.{Lies, lies, stretch-is}
use Rattle.cell_join_tiles.proofs.LabelSums.{more-le, next-one, all-of, between, begun-next, above-next, above-le, above-none, above-whole}

-- ---- orders

-- the row order in the full map: by row of tiles, row in the tile, column of tiles, and number
abbrev pub IsBefore : (r i c k s h d l : ℕ) → Type 0
IsBefore r i c k s h d l = (r < s) ⊎ ((r ≡ s) × ((i < h) ⊎ ((i ≡ h) × ((c < d) ⊎ ((c ≡ d) × (k < l))))))

pub record AreSame (r i c k s h d l : ℕ) : Type 0 where
  pub rows : r ≡ s
  pub lines : i ≡ h
  pub cols : c ≡ d
  pub numbers : k ≡ l

abbrev pub InSomeOrder : (r i c k s h d l : ℕ) → Type 0
InSomeOrder r i c k s h d l = AreSame r i c k s h d l ⊎ (IsBefore r i c k s h d l ⊎ IsBefore s h d l r i c k)

pub in-some-order : (r i c k s h d l : ℕ) → InSomeOrder r i c k s h d l
in-some-order r i c k s h d l =
    ⊎_elim
    (λ rs. ⊎_elim
    (λ ih. ⊎_elim
    (λ cd. ⊎_elim
    (λ kl. inl (record { rows = rs; lines = ih; cols = cd; numbers = kl }))
    (λ apart. ⊎_elim (λ lt. inr (inl (inr (rs, inr (ih, inr (cd, lt)))))) (λ gt. inr (inr (inr (sym rs, inr (sym ih, inr (sym cd, gt)))))) apart)
    (cases_order k l))
    (λ apart. ⊎_elim (λ lt. inr (inl (inr (rs, inr (ih, inl lt))))) (λ gt. inr (inr (inr (sym rs, inr (sym ih, inl gt))))) apart)
    (cases_order c d))
    (λ apart. ⊎_elim (λ lt. inr (inl (inr (rs, inl lt)))) (λ gt. inr (inr (inr (sym rs, inl gt)))) apart)
    (cases_order i h))
    (λ apart. ⊎_elim (λ lt. inr (inl (inl lt))) (λ gt. inr (inr (inl gt))) apart)
    (cases_order r s)

-- ---- a row of tiles

module _ (tiles : List BegunClumpCountsByRow) where
  -- clump number k + 1 of the tile in column c begins in row i
  pub record Begins (i c k : ℕ) : Type 0 where
    pub c_in : c < length tiles
    pub at : Lies (get_or tiles c []) k i

  line-low : (i c k : ℕ) → Begins i c k → begun_clump_count_above_in_tiles tiles i + begun_clump_count_in_row_to_left
      tiles i c ≤ label_of_clump_begun_in_row tiles i c k
  line-low i c k b = omega arith

  line-high : (i c k : ℕ) → Begins i c k → label_of_clump_begun_in_row tiles i c k < begun_clump_count_above_in_tiles tiles i + begun_clump_count_in_row_to_left tiles i (suc c)
  line-high i c k b =
      let at = b.at in
      omega (arith, at.low, at.high, next-one (λ (begun : BegunClumpCountsByRow). get_or begun i 0) tiles c [] b.c_in)

  line-end : (i c k : ℕ) → Begins i c k → label_of_clump_begun_in_row tiles i c k < begun_clump_count_above_in_tiles
      tiles (suc i)
  line-end i c k b =
      omega (arith, line-high i c k b, sum_by-take-le (λ (begun : BegunClumpCountsByRow). get_or begun i 0) tiles (suc c), above-next tiles i)

  pub line-before : (i c k h d l : ℕ) → Begins i c k → Begins h d l → (i < h) ⊎ ((i ≡ h) × ((c < d) ⊎ ((c ≡ d) × (k < l)))) → label_of_clump_begun_in_row tiles i c k < label_of_clump_begun_in_row tiles h d l
  line-before i c k h d l a b (inl lt) = omega (arith, line-end i c k a, above-le tiles (suc i) h (omega (arith, lt)), line-low h d l b)
  line-before i c k h d l a b (inr (ih, inl lt)) =
      let above : begun_clump_count_above_in_tiles tiles i ≡ begun_clump_count_above_in_tiles tiles h = ap
      (begun_clump_count_above_in_tiles tiles) ih in
      let left : begun_clump_count_in_row_to_left tiles i d ≡ begun_clump_count_in_row_to_left tiles h d = ap
      (λ (n : ℕ). begun_clump_count_in_row_to_left tiles n d) ih in
      omega (arith, line-high i c k a, above, left, more-le (λ (begun : BegunClumpCountsByRow). get_or begun i 0) tiles (suc c) d (omega (arith, lt)), line-low h d l b)
  line-before i c k h d l a b (inr (ih, inr (cd, lt))) =
      let above : begun_clump_count_above_in_tiles tiles i ≡ begun_clump_count_above_in_tiles tiles h = ap
      (begun_clump_count_above_in_tiles tiles) ih in
      let left : begun_clump_count_in_row_to_left tiles i c ≡ begun_clump_count_in_row_to_left tiles h d = ap (λ (n : ℕ). begun_clump_count_in_row_to_left tiles n c) ih ∙ ap (begun_clump_count_in_row_to_left tiles h) cd in
      let own : begun_clump_count_before_row (get_or tiles c []) i ≡ begun_clump_count_before_row (get_or tiles d []) h = ap (λ (n : ℕ). begun_clump_count_before_row (get_or tiles n []) i) cd ∙ ap (begun_clump_count_before_row (get_or tiles d [])) ih in
      let at = a.at in
      omega (arith, above, left, own, at.low, lt)

  pub line-within : (i c k : ℕ) → Begins i c k → (n : ℕ) → i < n → begun_clump_count_above_in_tiles tiles n ≡ clump_count_of_tile_row tiles → label_of_clump_begun_in_row tiles i c k < clump_count_of_tile_row tiles
  line-within i c k b n lt whole = omega (arith, line-end i c k b, above-le tiles (suc i) n (omega (arith, lt)), whole)

  -- each label of the row of tiles is the label of a clump
  pub record InLine (x : ℕ) : Type 0 where
    pub i : ℕ
    pub c : ℕ
    pub k : ℕ
    pub begins : Begins i c k
    pub is : label_of_clump_begun_in_row tiles i c k ≡ x

  inside-of : (begun : BegunClumpCountsByRow) (i x : ℕ) → x < get_or begun i 0 → i < length begun
  inside-of begun i x lt =
      ⊎_elim (λ inside. inside) (λ past. absurd (omega (arith, lt, get_or_past begun i 0 past))) (cases_lt i (length begun))

  pub in-line : (n x : ℕ) → begun_clump_count_above_in_tiles tiles n ≡ clump_count_of_tile_row tiles
      → x < clump_count_of_tile_row tiles
      → InLine x
  in-line n x whole lt =
      let line = between (begun_clump_count_above_in_tiles tiles) n x (omega (arith, above-none tiles))
      (omega (arith, lt, whole)) in
      let i = line.at in
      let y = x - begun_clump_count_above_in_tiles tiles i in
      let all = all-of (λ (begun : BegunClumpCountsByRow). get_or begun i 0) tiles (length tiles) (omega arith) in
      let tile = between (begun_clump_count_in_row_to_left tiles i) (length tiles) y (omega arith) (omega (arith, line.low, line.high, above-next tiles i, all)) in
      let c = tile.at in
      let z = y - begun_clump_count_in_row_to_left tiles i c in
      let begun : BegunClumpCountsByRow = get_or tiles c [] in
      let few : z < get_or begun i 0 = omega (arith, tile.low, tile.high, next-one (λ (b : BegunClumpCountsByRow). get_or b i 0) tiles c [] tile.inside) in
      let k = begun_clump_count_before_row begun i + z in
      record {
        i = i;
        c = c;
        k = k;
        begins = record { c_in = tile.inside; at = record { inside = inside-of begun i z few; low = omega arith; high = omega (arith, few) } };
        is = omega (arith, line.low, tile.low);
      }

-- ---- a grid of tiles

module _ (grid : List (List BegunClumpCountsByRow)) where
  pub record IsClump (r c k : ℕ) : Type 0 where
    pub r_in : r < length grid
    pub c_in : c < length (get_or grid r [])
    pub k_in : k < sum (get_or (get_or grid r []) c [])

  abbrev pub line_of : (r c k : ℕ) → ℕ
  line_of r c k = row_where_clump_number_begins (get_or (get_or grid r []) c []) k

  begins-of : (r c k : ℕ) → IsClump r c k → Begins (get_or grid r []) (line_of r c k) c k
  begins-of r c k x = record { c_in = x.c_in; at = lies (get_or (get_or grid r []) c []) k x.k_in }

  -- each tile of a row of tiles has at most `high` rows
  module _ (high : ℕ → ℕ) (short : (r c : ℕ) → r < length grid → c < length (get_or grid r []) → length (get_or (get_or grid r []) c []) ≤ high r) where
    whole-of : (r : ℕ) → r < length grid → begun_clump_count_above_in_tiles (get_or grid r []) (high r)
        ≡ clump_count_of_tile_row (get_or grid r [])
    whole-of r lt = above-whole (get_or grid r []) (high r) (λ c c_in. short r c lt c_in)

    row-within : (r c k : ℕ) → IsClump r c k → clump_label_in_tile_row (get_or grid r []) c k < clump_count_of_tile_row
        (get_or grid r [])
    row-within r c k x =
        let b = begins-of r c k x in
        let at = b.at in
        let inside : line_of r c k < high r = omega (arith, at.inside, short r c x.r_in x.c_in) in
        line-within (get_or grid r []) (line_of r c k) c k b (high r) inside (whole-of r x.r_in)

    pub label-within : (r c k : ℕ) → IsClump r c k → label_of_clump_in_tile_grid grid r c k
        < clump_count_of_tile_grid grid
    label-within r c k x =
        omega (arith, row-within r c k x, next-one clump_count_of_tile_row grid r [] x.r_in, sum_by-take-le clump_count_of_tile_row grid (suc r))

    pub label-before : (r c k s d l : ℕ) → IsClump r c k → IsClump s d l → IsBefore r (line_of r c k) c k s (line_of s d l) d l → label_of_clump_in_tile_grid grid r c k < label_of_clump_in_tile_grid grid s d l
    label-before r c k s d l x y (inl lt) =
        omega (arith, row-within r c k x, next-one clump_count_of_tile_row grid r [] x.r_in, more-le clump_count_of_tile_row grid (suc r) s (omega (arith, lt)))
    label-before r c k s d l x y (inr (rs, rest)) =
        let above : sum_by clump_count_of_tile_row (take r grid) ≡ sum_by clump_count_of_tile_row (take s grid) = ap (λ (n : ℕ). sum_by clump_count_of_tile_row (take n grid)) rs in
        let b = subst (λ (n : ℕ). Begins (get_or grid n []) (line_of s d l) d l) (sym rs) (begins-of s d l y) in
        let row : label_of_clump_begun_in_row (get_or grid r []) (line_of s d l) d l ≡ label_of_clump_begun_in_row (get_or grid s []) (line_of s d l) d l = ap (λ (n : ℕ). label_of_clump_begun_in_row (get_or grid n []) (line_of s d l) d l) rs in
        let less = line-before (get_or grid r []) (line_of r c k) c k (line_of s d l) d l (begins-of r c k x) b rest in
        omega (arith, above, row, less)

    -- clumps with the same label are the same clump
    pub one-clump : (r c k s d l : ℕ) → IsClump r c k → IsClump s d l → label_of_clump_in_tile_grid grid r c k ≡ label_of_clump_in_tile_grid grid s d l → AreSame r (line_of r c k) c k s (line_of s d l) d l
    one-clump r c k s d l x y e =
        ⊎_elim
        (λ same. same)
        (λ apart. ⊎_elim
        (λ lt. absurd (omega (arith, e, label-before r c k s d l x y lt)))
        (λ gt. absurd (omega (arith, e, label-before s d l r c k y x gt)))
        apart)
        (in-some-order r (line_of r c k) c k s (line_of s d l) d l)

    -- the clump with the smaller label comes first
    pub before-of : (r c k s d l : ℕ) → IsClump r c k → IsClump s d l → label_of_clump_in_tile_grid grid r c k < label_of_clump_in_tile_grid grid s d l → IsBefore r (line_of r c k) c k s (line_of s d l) d l
    before-of r c k s d l x y less =
        ⊎_elim
        (λ same. let e : label_of_clump_in_tile_grid grid r c k ≡ label_of_clump_in_tile_grid grid s d l = ap (λ (n : ℕ). label_of_clump_in_tile_grid grid n c k) same.rows ∙ ap (λ (n : ℕ). label_of_clump_in_tile_grid grid s n k) same.cols ∙ ap (label_of_clump_in_tile_grid grid s d) same.numbers in absurd (omega (arith, e, less)))
        (λ apart. ⊎_elim
        (λ lt. lt)
        (λ gt. absurd (omega (arith, less, label-before s d l r c k y x gt)))
        apart)
        (in-some-order r (line_of r c k) c k s (line_of s d l) d l)

    -- a label is the label of a clump
    pub record Labels (x : ℕ) : Type 0 where
      pub r : ℕ
      pub c : ℕ
      pub k : ℕ
      pub clump : IsClump r c k
      pub is : label_of_clump_in_tile_grid grid r c k ≡ x

    pub labels : (x : ℕ) → x < clump_count_of_tile_grid grid → Labels x
    labels x lt =
        let all = all-of clump_count_of_tile_row grid (length grid) (omega arith) in
        let row = between (λ (n : ℕ). sum_by clump_count_of_tile_row (take n grid)) (length grid) x (omega arith) (omega (arith, lt, all)) in
        let r = row.at in
        let tiles : List BegunClumpCountsByRow = get_or grid r [] in
        let y = x - sum_by clump_count_of_tile_row (take r grid) in
        let few : y < clump_count_of_tile_row tiles = omega (arith, row.low, row.high, next-one clump_count_of_tile_row grid r [] row.inside) in
        let t = in-line tiles (high r) y (whole-of r row.inside) few in
        let b = t.begins in
        let at = b.at in
        let begun : BegunClumpCountsByRow = get_or tiles t.c [] in
        let i_is : row_where_clump_number_begins begun t.k ≡ t.i = stretch-is begun t.i t.k at in
        let k_in : t.k < sum begun = omega (arith, at.high, begun-next begun t.i, sum_by-take-le (λ (n : ℕ). n) begun (suc t.i)) in
        let own : clump_label_in_tile_row tiles t.c t.k ≡ y = ap
        (λ (n : ℕ). label_of_clump_begun_in_row tiles n t.c t.k) i_is
        ∙ t.is in
        record {
          r = r;
          c = t.c;
          k = t.k;
          clump = record { r_in = row.inside; c_in = b.c_in; k_in = k_in };
          is = omega (arith, own, row.low);
        }
