-- The cells of a clump in the full map are the cells of the tiles' clumps with its number.
use Rattle.std.proofs.Common.{◌≡◌, ℕ, zero, suc, pos, negsuc, ◌+◌, ◌-◌, ◌<◌, ◌≤◌, map, [], ◌∷◌, List}
use Rattle.std.proofs.Common.{get_or, Some, None, Bool, true, false, ◌&&◌, ◌||◌, ◌==◌, cond, refl, ap, sym}
use Rattle.std.proofs.Common.{◌∙◌, arith, zero-add, eqb-true, eq-eqb}
use Rattle.std.specs.Prelude.{count_by}
use Rattle.std.specs.List.{range_with_len}
use Rattle.std.specs.Ordering.{eq_by_cmp, is_eq}
use Rattle.std.specs.Cmp.{tied_itself}
use Rattle.cell_core.specs.Grid.{Grid, CellValue}
use Rattle.cell_clumps.specs.declared.clump.Joining.{Joining}
use Rattle.cell_clumps.specs.Clumps.{Position, cell_at_position, IsClumpMapOf}
use Rattle.cell_clumps.specs.parts.CellPlaces.{position_at_row_and_column}
use Rattle.cell_clumps.proofs.CountLemmas.{clump_numbers_end_at_clump_count}
use Rattle.cell_stats_combinations.specs.Combinations.{Combination, combination_cmp, combination_cmp_total}
use Rattle.cell_stats_combinations.proofs.OrderLemmas.{combination_cmp-exact, is_equal}
use Rattle.cell_stats_counts.specs.Counts.{cell_count_of_combination}
use Rattle.cell_stats.proofs.SortedLemmas.{both_true}
use Rattle.cell_cats_law.proofs.CountLemmas.{one-if, count_by-cons, counts-same}
use Rattle.cell_cats_law.specs.ClumpSizeLaw.{one_cell_combinations}
use Rattle.cell_cats_law.proofs.ClumpCellLemmas.{first-cell}
use Rattle.cell_join_numbers.specs.Labelled.{MapHasClumpCount}
use Rattle.cell_cats_law.specs.SummedSizes.{size_if_number_matches_else_zero, total_size_of_clump}
use Rattle.cell_cats_law.specs.SizeLaw.{sizes_of_numbered_clumps}
use Rattle.cell_cats_law.proofs.NumberedTiles.{number_there, renumbered, cell-renumbered}

-- ---- counts of cells that pass tests

pub equal-itself : (a b : Combination) → a ≡ b → eq_by_cmp combination_cmp a b ≡ true
equal-itself a b same = ap (eq_by_cmp combination_cmp a) (sym same) ∙ ap is_eq (tied_itself combination_cmp_total a)

pub equal-only : (a b : Combination) → eq_by_cmp combination_cmp a b ≡ true → a ≡ b
equal-only a b is = combination_cmp-exact a b (is_equal _ is)

pub same-answer : (a b : Bool) → (a ≡ true → b ≡ true) → (b ≡ true → a ≡ true) → a ≡ b
same-answer true b there back = sym (there refl)
same-answer false true there back = back refl
same-answer false false there back = refl

count-none : (t : Combination → Bool) (cells : List Combination) → ((x : Combination) → t x ≡ false) →
    count_by t cells ≡ 0
count-none t [] none = refl
count-none t (x ∷ cells) none =
    let here : one-if (t x) ≡ 0 = ap one-if (none x) in
    omega (arith, count_by-cons t x cells, here, count-none t cells none)

count-alike : (t u : Combination → Bool) (cells : List Combination) → ((x : Combination) → t x ≡ u x) →
    count_by t cells ≡ count_by u cells
count-alike t u [] same = refl
count-alike t u (x ∷ cells) same =
    let here : one-if (t x) ≡ one-if (u x) = ap one-if (same x) in
    omega (arith, count_by-cons t x cells, count_by-cons u x cells, here, count-alike t u cells same)

one-or : (a b : Bool) → (a ≡ true → b ≡ false) → one-if (a || b) ≡ one-if a + one-if b
one-or true b apart = let here : one-if b ≡ 0 = ap one-if (apart refl) in omega (arith, here)
one-or false b apart = sym (zero-add (one-if b))

-- if no cell passes both tests, the counts of the tests add up
count-either : (t u : Combination → Bool) (cells : List Combination) →
    ((x : Combination) → t x ≡ true → u x ≡ false) →
    count_by (λ x. t x || u x) cells ≡ count_by t cells + count_by u cells
count-either t u [] apart = refl
count-either t u (x ∷ cells) apart =
    omega (
      arith,
      count_by-cons (λ y. t y || u y) x cells,
      count_by-cons t x cells,
      count_by-cons u x cells,
      one-or (t x) (u x) (apart x),
      count-either t u cells apart,
    )

-- ---- cells of a tile, by their numbers in the full map

-- the cell's number, counted from the given first one, stands for number n of the full map
abbrev stands_for : ℕ → List ℕ → (from count : ℕ) → Combination → Bool
stands_for n [] from count x = false
stands_for n (number ∷ numbers) from zero x = false
stands_for n (number ∷ numbers) from (suc count) x =
    (n == number && eq_by_cmp combination_cmp (Some (pos from) ∷ []) x) || stands_for n numbers (from + 1) count x

record StandsFor (n : ℕ) (numbers : List ℕ) (from count : ℕ) (x : Combination) : Type 0 where
  place : ℕ
  few : place < count
  cell : x ≡ Some (pos (from + place)) ∷ []
  is : get_or numbers place 0 ≡ n

stands-later : (n number : ℕ) (numbers : List ℕ) (from count : ℕ) (x : Combination) →
    StandsFor n numbers (from + 1) count x → StandsFor n (number ∷ numbers) from (suc count) x
stands-later n number numbers from count x s =
    let e : from + 1 + s.place ≡ from + suc s.place = omega arith in
    record {
      place = suc s.place;
      few = omega (arith, s.few);
      cell = s.cell ∙ ap (λ (k : ℕ). Some (pos k) ∷ []) e;
      is = s.is;
    }

stands-only : (n : ℕ) (numbers : List ℕ) (from count : ℕ) (x : Combination) →
    stands_for n numbers from count x ≡ true → StandsFor n numbers from count x
stands-only n [] from count x is = cc
stands-only n (number ∷ numbers) from zero x is = cc
stands-only n (number ∷ numbers) from (suc count) x is =
    by (λ later. stands-only n numbers (from + 1) count x later)
    (n == number && eq_by_cmp combination_cmp (Some (pos from) ∷ []) x) refl is
  where
    by : (stands_for n numbers (from + 1) count x ≡ true → StandsFor n numbers (from + 1) count x) → (b : Bool) →
        (n == number && eq_by_cmp combination_cmp (Some (pos from) ∷ []) x) ≡ b →
        (b || stands_for n numbers (from + 1) count x) ≡ true → StandsFor n (number ∷ numbers) from (suc count) x
    by rest true here either =
        let both = both_true (n == number) (eq_by_cmp combination_cmp (Some (pos from) ∷ []) x) here in
        let e : from ≡ from + 0 = omega arith in
        record {
          place = 0;
          few = omega arith;
          cell = sym (equal-only (Some (pos from) ∷ []) x both.1) ∙ ap (λ (k : ℕ). Some (pos k) ∷ []) e;
          is = sym (eqb-true n number both.0);
        }
    by rest false here either = stands-later n number numbers from count x (rest either)

stands-from : (n : ℕ) (numbers : List ℕ) (from count : ℕ) (x : Combination) → 1 ≤ n →
    StandsFor n numbers from count x → stands_for n numbers from count x ≡ true
stands-from n [] from count x some s = absurd (let e = s.is in omega (arith, some, e))
stands-from n (number ∷ numbers) from zero x some s = absurd (omega (arith, s.few))
stands-from n (number ∷ numbers) from (suc count) x some s =
    by s.place s.few s.cell s.is (λ later. stands-from n numbers (from + 1) count x some later)
  where
    there : Bool
    there = stands_for n numbers (from + 1) count x

    or-true : (b : Bool) → there ≡ true → (b || there) ≡ true
    or-true true e = refl
    or-true false e = e

    by : (place : ℕ) → place < suc count → x ≡ Some (pos (from + place)) ∷ [] →
        get_or (number ∷ numbers) place 0 ≡ n → (StandsFor n numbers (from + 1) count x → there ≡ true) →
        stands_for n (number ∷ numbers) from (suc count) x ≡ true
    by zero few cell is rest =
        let e : from + 0 ≡ from = omega arith in
        let own : eq_by_cmp combination_cmp (Some (pos from) ∷ []) x ≡ true =
        equal-itself (Some (pos from) ∷ []) x (sym (cell ∙ ap (λ (k : ℕ). Some (pos k) ∷ []) e)) in
        ap (λ b. (b && eq_by_cmp combination_cmp (Some (pos from) ∷ []) x) || there) (eq-eqb n number (sym is))
        ∙ ap (λ b. b || there) own
    by (suc place) few cell is rest =
        let e : from + suc place ≡ from + 1 + place = omega arith in
        or-true (n == number && eq_by_cmp combination_cmp (Some (pos from) ∷ []) x) (rest (record {
          place = place;
          few = omega (arith, few);
          cell = cell ∙ ap (λ (k : ℕ). Some (pos k) ∷ []) e;
          is = is;
        }))

-- a cell with the first number does not stand for n through a later number
stands-apart : (n number : ℕ) (numbers : List ℕ) (from count : ℕ) (x : Combination) →
    (n == number && eq_by_cmp combination_cmp (Some (pos from) ∷ []) x) ≡ true →
    stands_for n numbers (from + 1) count x ≡ false
stands-apart n number numbers from count x here = by (stands_for n numbers (from + 1) count x) refl
  where
    by : (b : Bool) → stands_for n numbers (from + 1) count x ≡ b → b ≡ false
    by false e = refl
    by true e =
        let s = stands-only n numbers (from + 1) count x e in
        let own = equal-only (Some (pos from) ∷ []) x
        (both_true (n == number) (eq_by_cmp combination_cmp (Some (pos from) ∷ []) x) here).1 in
        let both : Some (pos from) ∷ [] ≡ Some (pos (from + 1 + s.place)) ∷ [] = own ∙ s.cell in
        let same : from ≡ from + 1 + s.place = number-of both in
        absurd (omega (arith, same))
      where
        number-in : CellValue → ℕ
        number-in None = 0
        number-in (Some (pos k)) = k
        number-in (Some (negsuc k)) = 0

        number-of : {a b : ℕ} → Some (pos a) ∷ [] ≡ Some (pos b) ∷ [] → a ≡ b
        number-of e = ap (λ (k : Combination). number-in (first-cell k)) e

-- the number of cells that stand for n through one clump is the clump's size if the clump has number n, and otherwise 0
count-first : (n number from : ℕ) (cells : List Combination) →
    count_by (λ x. n == number && eq_by_cmp combination_cmp (Some (pos from) ∷ []) x) cells
    ≡ size_if_number_matches_else_zero n number (cell_count_of_combination (Some (pos from) ∷ []) cells)
count-first n number from cells = by (n == number) refl
  where
    by : (b : Bool) → (n == number) ≡ b →
        count_by (λ x. n == number && eq_by_cmp combination_cmp (Some (pos from) ∷ []) x) cells
        ≡ size_if_number_matches_else_zero n number (cell_count_of_combination (Some (pos from) ∷ []) cells)
    by true e =
        count-alike (λ x. n == number && eq_by_cmp combination_cmp (Some (pos from) ∷ []) x)
        (eq_by_cmp combination_cmp (Some (pos from) ∷ [])) cells
        (λ x. ap (λ b. b && eq_by_cmp combination_cmp (Some (pos from) ∷ []) x) e)
        ∙ sym (ap (λ b. cond b (cell_count_of_combination (Some (pos from) ∷ []) cells) 0) e)
    by false e =
        count-none (λ x. n == number && eq_by_cmp combination_cmp (Some (pos from) ∷ []) x) cells
        (λ x. ap (λ b. b && eq_by_cmp combination_cmp (Some (pos from) ∷ []) x) e)
        ∙ sym (ap (λ b. cond b (cell_count_of_combination (Some (pos from) ∷ []) cells) 0) e)

count-stands : (n : ℕ) (numbers : List ℕ) (from count : ℕ) (cells : List Combination) →
    count_by (stands_for n numbers from count) cells
    ≡ total_size_of_clump n numbers (map (λ k. cell_count_of_combination (Some (pos k) ∷ []) cells)
    (range_with_len from count))
count-stands n [] from count cells = count-none (stands_for n [] from count) cells (λ x. refl)
count-stands n (number ∷ numbers) from zero cells =
    count-none (stands_for n (number ∷ numbers) from zero) cells (λ x. refl)
count-stands n (number ∷ numbers) from (suc count) cells =
    count-either (λ x. n == number && eq_by_cmp combination_cmp (Some (pos from) ∷ []) x)
    (stands_for n numbers (from + 1) count) cells (stands-apart n number numbers from count)
    ∙ ap (λ (k : ℕ). k + count_by (stands_for n numbers (from + 1) count) cells) (count-first n number from cells)
    ∙ ap (λ (k : ℕ). size_if_number_matches_else_zero n number (cell_count_of_combination (Some (pos from)
    ∷ []) cells) + k)
    (count-stands n numbers (from + 1) count cells)

module _ (j : Joining) (m numbers_map : Grid) (is : IsClumpMapOf j m numbers_map) (clumps : ℕ)
    (has : MapHasClumpCount j m clumps) (numbers : List ℕ) (n : ℕ) (some : 1 ≤ n) where
  -- a cell has number n in the full map exactly if its own number stands for n
  stands-there : (c : CellValue) (p : Position) → cell_at_position numbers_map p ≡ c →
      number_there numbers c ≡ Some (pos n) → StandsFor n numbers 1 clumps (c ∷ [])
  stands-there None p here e = cc
  stands-there (Some (negsuc k)) p here e = cc
  stands-there (Some (pos k)) p here e =
      let within = (clump_numbers_end_at_clump_count j m numbers_map is has.0 has.1 k).0 (p, here) in
      let back : k ≡ 1 + (k - 1) = omega (arith, within.0) in
      record {
        place = k - 1;
        few = omega (arith, within, has.2);
        cell = ap (λ (i : ℕ). Some (pos i) ∷ []) back;
        is = (let same : get_or numbers (k - 1) 0 ≡ n = cc in same);
      }

  there-stands : (c : CellValue) → StandsFor n numbers 1 clumps (c ∷ []) → number_there numbers c ≡ Some (pos n)
  there-stands c s =
      let e : (1 + s.place) - 1 ≡ s.place = omega arith in
      ap (number_there numbers) (ap first-cell s.cell)
      ∙ ap (λ (i : ℕ). Some (pos (get_or numbers i 0))) e
      ∙ ap (λ (i : ℕ). Some (pos i)) s.is

  tests-there : (p : Position) →
      eq_by_cmp combination_cmp (Some (pos n) ∷ []) (cell_at_position (renumbered numbers numbers_map) p ∷ [])
      ≡ stands_for n numbers 1 clumps (cell_at_position numbers_map p ∷ [])
  tests-there p =
      let c = cell_at_position numbers_map p in
      let d = cell_at_position (renumbered numbers numbers_map) p in
      let same_there : d ≡ number_there numbers c = cell-renumbered numbers numbers_map p in
      same-answer (eq_by_cmp combination_cmp (Some (pos n) ∷ []) (d ∷ [])) (stands_for n numbers 1 clumps (c ∷ []))
      (λ e. stands-from n numbers 1 clumps (c ∷ []) some (stands-there c p refl
      (sym same_there ∙ sym (ap first-cell (equal-only (Some (pos n) ∷ []) (d ∷ []) e)))))
      (λ e. equal-itself (Some (pos n) ∷ []) (d ∷ []) (ap (λ (x : CellValue). x ∷ [])
      (sym (same_there ∙ there-stands c (stands-only n numbers 1 clumps (c ∷ []) e)))))

  -- a tile has as many cells with a number as its clumps with that number have
  pub tile-count : (rows cols : ℕ) →
      cell_count_of_combination (Some (pos n) ∷ []) (one_cell_combinations (renumbered numbers numbers_map) rows cols)
      ≡ total_size_of_clump n numbers (sizes_of_numbered_clumps clumps numbers_map rows cols)
  tile-count rows cols =
      counts-same (renumbered numbers numbers_map ∷ []) (numbers_map ∷ []) (0 ∷ []) (0 ∷ [])
      (eq_by_cmp combination_cmp (Some (pos n) ∷ [])) (stands_for n numbers 1 clumps)
      (λ row col. tests-there (position_at_row_and_column row col)) rows cols
      ∙ count-stands n numbers 1 clumps (one_cell_combinations numbers_map rows cols)
