-- The table of a clump map lists the sizes of its clumps.
use Rattle.std.proofs.Common.{◌≡◌, ℕ, zero, suc, pos, negsuc, ◌+◌, ◌-◌, ◌<◌, ◌≤◌, ◌↔◌, map, [], ◌∷◌, ◌++◌, List}
use Rattle.std.proofs.Common.{length, get_or, Some, None, IsSome, Bool, true, false, cond, refl, ap, sym, ◌∙◌}
use Rattle.std.proofs.Common.{subst, arith, ⊎_elim}
use Rattle.std.specs.List.{AllByRecursion, Contains}
use Rattle.std.specs.List.Sorted.{IsStrictlySortedBy}
use Rattle.std.specs.Ordering.{eq_by_cmp}
use Rattle.std.specs.declared.cmp.Ordering.TheVariants.{Less}
use Rattle.std.proofs.lemmas.Bool.{lt-ltb}
use Rattle.std.proofs.lemmas.List.Elements.{Contains-append_left, Contains-append_right, Contains-append_cases}
use Rattle.std.proofs.lemmas.List.FromFn.{length-map-range_with_len, get_or-map-range_with_len}
use Rattle.cell_core.specs.Grid.{Grid, CellValue}
use Rattle.cell_clumps.specs.declared.clump.Joining.{Joining}
use Rattle.cell_clumps.specs.Clumps.{Position, cell_at_position, IsClumpMapOf}
use Rattle.cell_clumps.specs.parts.CellPlaces.{position_at_row_and_column}
use Rattle.cell_clumps.proofs.CountLemmas.{clump_numbers_end_at_clump_count}
use Rattle.cell_stats_combinations.specs.declared.skip.Skip.{Skip}
use Rattle.cell_stats_combinations.specs.declared.skip.Skip.TheVariants.{Nothing, AnyNull, AllNull}
use Rattle.cell_stats_combinations.specs.Combinations.{Combination, combination_cmp}
use Rattle.cell_stats_combinations.specs.LeftOut.{combination_is_left_out}
use Rattle.cell_stats_counts.specs.Counts.{cell_count_of_combination}
use Rattle.cell_stats.specs.CategoryTables.{CombinationsWithCounts, IsTable}
use Rattle.cell_stats.proofs.TableLemmas.{one_table_kept}
use Rattle.cell_cats_law.proofs.CountLemmas.{counted-at, counted-cell}
use Rattle.cell_cats_law.specs.ClumpSizeLaw.{one_cell_combinations}
use Rattle.cell_clumps.proofs.MeetingLemmas.{some_of}
use Rattle.cell_cats_law.proofs.ClumpCellLemmas.{some-below, in-region}
use Rattle.cell_join_numbers.specs.Labelled.{MapHasClumpCount}
use Rattle.cell_cats_law.specs.SizeLaw.{cell_count_of_clump_number, sizes_of_numbered_clumps}
use Rattle.cell_cats_law.specs.NumberTables.{entries_of_clumps_from_number, entry_of_null, table_of_clump_sizes}
use Rattle.cell_cats_law.specs.NumberTables.{ClumpTableListsSizes}
use Rattle.cell_cats_law.proofs.SizeLemmas.{equal-itself, equal-only}

-- ---- entries in order

number-less : (n m : ℕ) → n < m → combination_cmp (Some (pos n) ∷ []) (Some (pos m) ∷ []) ≡ Less
number-less n m lt = rw (lt-ltb n m lt) refl

abbrev AreAbove : ℕ → CombinationsWithCounts → Type 0
AreAbove n pairs =
    AllByRecursion (λ y. combination_cmp (Some (pos n) ∷ []) y ≡ Less) (map (λ pair. pair.0) pairs)

null-above : (n : ℕ) (skip : Skip) (nulls : ℕ) → AreAbove n (entry_of_null skip nulls)
null-above n skip zero = tt
null-above n skip (suc nulls) = by (combination_is_left_out skip (None ∷ []))
  where
    by : (b : Bool) → AreAbove n (cond b [] ((None ∷ [], suc nulls) ∷ []))
    by true = tt
    by false = (refl, tt)

above-from : (n m : ℕ) (sizes : List ℕ) (skip : Skip) (nulls : ℕ) → n < m →
    AreAbove n (entries_of_clumps_from_number m sizes ++ entry_of_null skip nulls)
above-from n m [] skip nulls lt = null-above n skip nulls
above-from n m (size ∷ sizes) skip nulls lt =
    (number-less n m lt, above-from n (m + 1) sizes skip nulls (omega (arith, lt)))

abbrev Ascend : CombinationsWithCounts → Type 0
Ascend pairs = IsStrictlySortedBy combination_cmp (map (λ pair. pair.0) pairs)

null-ascends : (skip : Skip) (nulls : ℕ) → Ascend (entry_of_null skip nulls)
unfolding IsStrictlySortedBy
null-ascends skip zero = tt
null-ascends skip (suc nulls) = by (combination_is_left_out skip (None ∷ []))
  where
    by : (b : Bool) → Ascend (cond b [] ((None ∷ [], suc nulls) ∷ []))
    by true = tt
    by false = (tt, tt)

entries-ascend : (n : ℕ) (sizes : List ℕ) (skip : Skip) (nulls : ℕ) →
    Ascend (entries_of_clumps_from_number n sizes ++ entry_of_null skip nulls)
unfolding IsStrictlySortedBy
entries-ascend n [] skip nulls = null-ascends skip nulls
entries-ascend n (size ∷ sizes) skip nulls =
    (above-from n (n + 1) sizes skip nulls (omega arith), entries-ascend (n + 1) sizes skip nulls)

-- ---- the counts of the entries

pub record IsEntry (from : ℕ) (sizes : List ℕ) (k : Combination) (n : ℕ) : Type 0 where
  pub place : ℕ
  pub few : place < length sizes
  pub number : k ≡ Some (pos (from + place)) ∷ []
  pub size : n ≡ get_or sizes place 0

pub entry-only : (from : ℕ) (sizes : List ℕ) (k : Combination) (n i : ℕ)
    → i < length (entries_of_clumps_from_number from sizes) →
    get_or (entries_of_clumps_from_number from sizes) i (k, n) ≡ (k, n) → IsEntry from sizes k n
entry-only from [] k n i within is = absurd (omega (arith, within))
entry-only from (size ∷ sizes) k n zero within is =
    let e : from ≡ from + 0 = omega arith in
    record {
      place = 0;
      few = omega arith;
      number = sym (ap (λ (pair : Combination × ℕ). pair.0) is) ∙ ap (λ (m : ℕ). Some (pos m) ∷ []) e;
      size = sym (ap (λ (pair : Combination × ℕ). pair.1) is);
    }
entry-only from (size ∷ sizes) k n (suc i) within is =
    let later = entry-only (from + 1) sizes k n i (omega (arith, within)) is in
    let e : from + 1 + later.place ≡ from + suc later.place = omega arith in
    record {
      place = suc later.place;
      few = omega (arith, later.few);
      number = later.number ∙ ap (λ (m : ℕ). Some (pos m) ∷ []) e;
      size = later.size;
    }

pub entry-there : (from : ℕ) (sizes : List ℕ) (i : ℕ) → i < length sizes →
    Contains (entries_of_clumps_from_number from sizes) (Some (pos (from + i)) ∷ [], get_or sizes i 0)
entry-there from [] i within = absurd (omega (arith, within))
entry-there from (size ∷ sizes) zero within =
    let e : from ≡ from + 0 = omega arith in
    (0, omega arith, ap (λ (m : ℕ). (Some (pos m) ∷ [], size)) e)
entry-there from (size ∷ sizes) (suc i) within =
    let e : from + 1 + i ≡ from + suc i = omega arith in
    subst (λ (m : ℕ). Contains (entries_of_clumps_from_number from (size ∷ sizes)) (
      Some (pos m)
          ∷ [],
      get_or sizes i 0,
    )) e
    (Contains-append_right ((Some (pos from) ∷ [], size) ∷ []) (entries_of_clumps_from_number (from + 1) sizes)
    (Some (pos (from + 1 + i)) ∷ [], get_or sizes i 0) (entry-there (from + 1) sizes i (omega (arith, within))))

record IsNullEntry (skip : Skip) (nulls : ℕ) (k : Combination) (n : ℕ) : Type 0 where
  cell : k ≡ None ∷ []
  count : n ≡ nulls
  some : 0 < nulls
  kept_in : combination_is_left_out skip (None ∷ []) ≡ false

abbrev null_pairs : ℕ → Bool → CombinationsWithCounts
null_pairs nulls left = cond left [] ((None ∷ [], nulls) ∷ [])

null-only : (skip : Skip) (nulls : ℕ) (k : Combination) (n : ℕ) → Contains (entry_of_null skip nulls) (k, n) →
    IsNullEntry skip nulls k n
null-only skip zero k n h = absurd (omega (arith, h.1))
null-only skip (suc nulls) k n h = by (combination_is_left_out skip (None ∷ [])) refl h
  where
    by : (b : Bool) → combination_is_left_out skip (None ∷ []) ≡ b → Contains (null_pairs (suc nulls) b) (k, n) →
        IsNullEntry skip (suc nulls) k n
    by true e h = absurd (omega (arith, h.1))
    by false e h = here h.0 h.1 h.2
      where
        here : (i : ℕ) → i < 1 → get_or (null_pairs (suc nulls) false) i (k, n) ≡ (k, n) →
            IsNullEntry skip (suc nulls) k n
        here zero within is = record {
          cell = sym (ap (λ (pair : Combination × ℕ). pair.0) is);
          count = sym (ap (λ (pair : Combination × ℕ). pair.1) is);
          some = omega arith;
          kept_in = e;
        }
        here (suc i) within is = absurd (omega (arith, within))

null-there : (skip : Skip) (nulls : ℕ) → 0 < nulls → combination_is_left_out skip (None ∷ []) ≡ false →
    Contains (entry_of_null skip nulls) (None ∷ [], nulls)
null-there skip zero some kept_in = absurd (omega (arith, some))
null-there skip (suc nulls) some kept_in =
    subst (λ (b : Bool). Contains (null_pairs (suc nulls) b) (None ∷ [], suc nulls)) (sym kept_in)
    (0, omega arith, refl)

number-kept : (skip : Skip) (n : ℕ) → combination_is_left_out skip (Some (pos n) ∷ []) ≡ false
number-kept Nothing n = refl
number-kept AnyNull n = refl
number-kept AllNull n = refl

-- ---- the table of a clump map, counted in rows and columns that contain all its clumps

module _ (j : Joining) (m numbers : Grid) (is : IsClumpMapOf j m numbers) (clumps : ℕ)
    (has : MapHasClumpCount j m clumps)
    (rows cols : ℕ)
    (inside : (p : Position) → IsSome (cell_at_position m p) → (p.row < rows) × (p.col < cols)) (skip : Skip) where
  abbrev cells : List Combination
  cells = one_cell_combinations numbers rows cols

  abbrev sizes : List ℕ
  sizes = sizes_of_numbered_clumps clumps numbers rows cols

  abbrev nulls : ℕ
  nulls = cell_count_of_combination (None ∷ []) cells

  abbrev IsCounted : Combination → ℕ → Type 0
  IsCounted k n = (combination_is_left_out skip k ≡ false) × ((0 < n) × (n ≡ cell_count_of_combination k cells))

  long : length sizes ≡ clumps
  long = length-map-range_with_len (cell_count_of_clump_number numbers rows cols) 1 clumps

  size-is : (i k : ℕ) → i < clumps → 1 + i ≡ k → get_or sizes i 0 ≡ cell_count_of_combination (Some (pos k) ∷ []) cells
  size-is i k within e = get_or-map-range_with_len (cell_count_of_clump_number numbers rows cols) 1 clumps i k 0
      within e

  -- each clump has a cell
  some-cells : (k : ℕ) → 1 ≤ k → k ≤ clumps → 0 < cell_count_of_combination (Some (pos k) ∷ []) cells
  some-cells k least most =
      let occurs = (clump_numbers_end_at_clump_count j m numbers is has.0 has.1 k).1
      (least, omega (arith, most, has.2)) in
      let p = occurs.0 in
      let at = inside p (some-below j m numbers is p (pos k) occurs.1) in
      counted-cell (numbers ∷ []) (0 ∷ []) (eq_by_cmp combination_cmp (Some (pos k) ∷ [])) rows cols p.row p.col at.0
      at.1 (equal-itself (Some (pos k) ∷ []) (cell_at_position numbers p ∷ [])
      (ap (λ (c : CellValue). c ∷ []) (sym occurs.1)))

  entry-counted : (k : Combination) (n : ℕ) → IsEntry 1 sizes k n → IsCounted k n
  entry-counted k n e =
      let number = 1 + e.place in
      let low : e.place < clumps = omega (arith, e.few, long) in
      let count : n ≡ cell_count_of_combination (Some (pos number) ∷ []) cells = e.size
      ∙ size-is e.place number low refl in
      let some = some-cells number (omega arith) (omega (arith, low)) in (
        ap (combination_is_left_out skip) e.number ∙ number-kept skip number,
        (
          omega (arith, some, count),
          count ∙ ap (λ (x : Combination). cell_count_of_combination x cells)
              (sym e.number),
        ),
      )

  null-counted : (k : Combination) (n : ℕ) → IsNullEntry skip nulls k n → IsCounted k n
  null-counted k n e = (
    ap (combination_is_left_out skip) e.cell ∙ e.kept_in,
    (
      omega (arith, e.some, e.count),
      e.count ∙ ap (λ (x : Combination). cell_count_of_combination x cells)
          (sym e.cell),
    ),
  )

  -- each counted combination is a number or null
  counted-there : (c : CellValue) (p : Position) → cell_at_position numbers p ≡ c →
      IsCounted (c ∷ []) (cell_count_of_combination (c ∷ []) cells) →
      Contains (table_of_clump_sizes skip sizes nulls) (c ∷ [], cell_count_of_combination (c ∷ []) cells)
  counted-there None p here counted =
      Contains-append_right (entries_of_clumps_from_number 1 sizes) (entry_of_null skip nulls) (None ∷ [], nulls)
      (null-there skip nulls counted.1.0 counted.0)
  counted-there (Some (negsuc k)) p here counted =
      absurd (let number = (is.numbered p (some-below j m numbers is p (negsuc k) here)).2 in
      let both : Some (pos (is.numbered p (some-below j m numbers is p (negsuc k) here)).0) ≡ Some (negsuc k) =
      sym number ∙ here in cc)
  counted-there (Some (pos k)) p here counted =
      let within = (clump_numbers_end_at_clump_count j m numbers is has.0 has.1 k).0 (p, here) in
      let low : k - 1 < clumps = omega (arith, within, has.2) in
      let back : 1 + (k - 1) ≡ k = omega (arith, within.0) in
      let size = size-is (k - 1) k low back in
      Contains-append_left (entries_of_clumps_from_number 1 sizes) (entry_of_null skip nulls)
      (Some (pos k) ∷ [], cell_count_of_combination (Some (pos k) ∷ []) cells)
      (subst (λ (n : ℕ). Contains (entries_of_clumps_from_number 1 sizes) (Some (pos k) ∷ [], n)) size
      (subst (λ (i : ℕ). Contains (entries_of_clumps_from_number 1 sizes) (
        Some (pos i)
            ∷ [],
        get_or sizes (k - 1) 0,
      )) back
      (entry-there 1 sizes (k - 1) (omega (arith, low, long)))))

  counted-listed : (k : Combination) (n : ℕ) → IsCounted k n → Contains (table_of_clump_sizes skip sizes nulls) (k, n)
  counted-listed k n counted =
      let at = counted-at (numbers ∷ []) (0 ∷ []) (eq_by_cmp combination_cmp k) rows cols
      (omega (arith, counted.1.0, counted.1.1)) in
      let p : Position = position_at_row_and_column at.row at.col in
      let c : CellValue = cell_at_position numbers p in
      let same : c ∷ [] ≡ k = sym (equal-only k (c ∷ []) at.passes) in
      let count : n ≡ cell_count_of_combination (c ∷ []) cells = counted.1.1
      ∙ ap (λ (x : Combination). cell_count_of_combination x cells) (sym same) in
      let there = counted-there c p refl (
        ap (combination_is_left_out skip) same ∙ counted.0,
        (omega (arith, counted.1.0, count), refl),
      ) in
      subst (λ (x : Combination). Contains (table_of_clump_sizes skip sizes nulls) (x, n)) same
      (subst (λ (i : ℕ). Contains (table_of_clump_sizes skip sizes nulls) (c ∷ [], i)) (sym count) there)

  listed-counted : (k : Combination) (n : ℕ) → Contains (table_of_clump_sizes skip sizes nulls) (k, n) → IsCounted k n
  listed-counted k n h =
      ⊎_elim (λ number. entry-counted k n (entry-only 1 sizes k n number.0 number.1 number.2))
      (λ null. null-counted k n (null-only skip nulls k n null))
      (Contains-append_cases (entries_of_clumps_from_number 1 sizes) (entry_of_null skip nulls) (k, n) h)

  pub number-table : IsTable skip cells (table_of_clump_sizes skip sizes nulls)
  number-table = record {
    ascending = entries-ascend 1 sizes skip nulls;
    counted = λ k n. (listed-counted k n, counted-listed k n);
  }

  pub one-number-table : (table : CombinationsWithCounts) → IsTable skip cells table
      ↔ (table ≡ table_of_clump_sizes skip sizes nulls)
  one-number-table table = (
    λ lists. one_table_kept skip cells table (table_of_clump_sizes skip sizes nulls) lists number-table,
    λ same. subst (IsTable skip cells) (sym same) number-table,
  )

pub numbers-are-listed : ClumpTableListsSizes
numbers-are-listed j m numbers is filled clumps has skip table =
    one-number-table j m numbers is clumps has m.region.rows m.region.cols
    (λ p some. let v = some_of (cell_at_position m p) some in in-region m filled p v.0 v.1) skip table
