-- The entries of the table of a tile's numbers.
use Rattle.std.proofs.Common.{◌≡◌, ℕ, zero, suc, pos, negsuc, ◌+◌, [], ◌∷◌, ◌++◌, List}
use Rattle.std.proofs.Common.{Some, None, Bool, true, false, cond, refl, ap, sym, ◌∙◌}
use Rattle.std.specs.Ordering.{eq_by_cmp}
use Rattle.cell_core.specs.Grid.{Grid, CellValue}
use Rattle.cell_clumps.specs.declared.clump.Joining.{Joining}
use Rattle.cell_clumps.specs.Clumps.{Position, cell_at_position, IsClumpMapOf}
use Rattle.cell_clumps.specs.parts.CellPlaces.{position_at_row_and_column}
use Rattle.cell_stats_combinations.specs.declared.skip.Skip.{Skip}
use Rattle.cell_stats_combinations.specs.Combinations.{combination_cmp}
use Rattle.cell_stats_combinations.specs.LeftOut.{combination_is_left_out}
use Rattle.cell_stats_counts.specs.Counts.{cell_count_of_combination}
use Rattle.cell_cats_law.proofs.CountLemmas.{counts-same}
use Rattle.cell_cats_law.specs.ClumpSizeLaw.{one_cell_combinations}
use Rattle.cell_cats_law.proofs.ClumpCellLemmas.{some-below, first-cell}
use Rattle.cell_join_numbers.specs.TableParts.{combination_count_in_table}
use Rattle.cell_cats_law.specs.NumberTables.{entries_of_clumps_from_number, entry_of_null, clump_sizes_in_table}
use Rattle.cell_cats_law.proofs.NumberedTiles.{number_there, renumbered, cell-renumbered}
use Rattle.cell_cats_law.proofs.SizeLemmas.{equal-itself, equal-only, same-answer}

-- ---- the entries of a table of numbers

null-lists : (skip : Skip) (nulls : ℕ) → clump_sizes_in_table (entry_of_null skip nulls) ≡ []
null-lists skip zero = refl
null-lists skip (suc nulls) = by (combination_is_left_out skip (None ∷ []))
  where
    by : (b : Bool) → clump_sizes_in_table (cond b [] ((None ∷ [], suc nulls) ∷ [])) ≡ []
    by true = refl
    by false = refl

pub table-lists : (n : ℕ) (sizes : List ℕ) (skip : Skip) (nulls : ℕ) →
    clump_sizes_in_table (entries_of_clumps_from_number n sizes ++ entry_of_null skip nulls) ≡ sizes
table-lists n [] skip nulls = null-lists skip nulls
table-lists n (size ∷ sizes) skip nulls = ap (λ (l : List ℕ). size ∷ l) (table-lists (n + 1) sizes skip nulls)

-- the table counts the null cells, unless null is left out
null-counts : (skip : Skip) (nulls : ℕ) → combination_is_left_out skip (None ∷ []) ≡ false →
    combination_count_in_table (None ∷ []) (entry_of_null skip nulls) ≡ nulls
null-counts skip zero kept_in = refl
null-counts skip (suc nulls) kept_in =
    ap (λ (b : Bool). combination_count_in_table (None ∷ []) (cond b [] ((None ∷ [], suc nulls) ∷ []))) kept_in

pub table-counts : (n : ℕ) (sizes : List ℕ) (skip : Skip) (nulls : ℕ)
    → combination_is_left_out skip (None ∷ []) ≡ false →
    combination_count_in_table (None ∷ []) (entries_of_clumps_from_number n sizes ++ entry_of_null skip nulls) ≡ nulls
table-counts n [] skip nulls kept_in = null-counts skip nulls kept_in
table-counts n (size ∷ sizes) skip nulls kept_in = table-counts (n + 1) sizes skip nulls kept_in

null-left-out : (skip : Skip) (nulls : ℕ) → combination_is_left_out skip (None ∷ []) ≡ true
    → entry_of_null skip nulls ≡ []
null-left-out skip zero left = refl
null-left-out skip (suc nulls) left =
    ap (λ (b : Bool). cond b [] ((None ∷ [], suc nulls) ∷ [])) left

pub same-null : (skip : Skip) (one other : ℕ) → (combination_is_left_out skip (None ∷ []) ≡ false → one ≡ other) →
    entry_of_null skip one ≡ entry_of_null skip other
same-null skip one other same = by (combination_is_left_out skip (None ∷ [])) refl
  where
    by : (b : Bool) → combination_is_left_out skip (None ∷ []) ≡ b → entry_of_null skip one ≡ entry_of_null skip other
    by true left = null-left-out skip one left ∙ sym (null-left-out skip other left)
    by false kept_in = ap (entry_of_null skip) (same kept_in)

-- ---- the null cells of a tile

module _ (j : Joining) (m numbers_map : Grid) (is : IsClumpMapOf j m numbers_map) (numbers : List ℕ) where
  null-there : (c : CellValue) (p : Position) → cell_at_position numbers_map p ≡ c → number_there numbers c ≡ None →
      c ≡ None
  null-there None p here e = refl
  null-there (Some (pos k)) p here e = cc
  null-there (Some (negsuc k)) p here e =
      absurd (let number = (is.numbered p (some-below j m numbers_map is p (negsuc k) here)).2 in
      let both : Some (pos (is.numbered p (some-below j m numbers_map is p (negsuc k) here)).0) ≡ Some (negsuc k) =
      sym number ∙ here in cc)

  nulls-there : (p : Position) →
      eq_by_cmp combination_cmp (None ∷ []) (cell_at_position (renumbered numbers numbers_map) p ∷ [])
      ≡ eq_by_cmp combination_cmp (None ∷ []) (cell_at_position numbers_map p ∷ [])
  nulls-there p =
      let c = cell_at_position numbers_map p in
      let d = cell_at_position (renumbered numbers numbers_map) p in
      let same_there : d ≡ number_there numbers c = cell-renumbered numbers numbers_map p in
      same-answer (eq_by_cmp combination_cmp (None ∷ []) (d ∷ [])) (eq_by_cmp combination_cmp (None ∷ []) (c ∷ []))
      (λ e. equal-itself (None ∷ []) (c ∷ []) (ap (λ (x : CellValue). x ∷ []) (sym (null-there c p refl
      (sym same_there ∙ sym (ap first-cell (equal-only (None ∷ []) (d ∷ []) e)))))))
      (λ e. equal-itself (None ∷ []) (d ∷ []) (ap (λ (x : CellValue). x ∷ []) (sym (same_there
      ∙ ap (number_there numbers) (sym (ap first-cell (equal-only (None ∷ []) (c ∷ []) e)))))))

  pub tile-nulls : (rows cols : ℕ) →
      cell_count_of_combination (None ∷ []) (one_cell_combinations (renumbered numbers numbers_map) rows cols)
      ≡ cell_count_of_combination (None ∷ []) (one_cell_combinations numbers_map rows cols)
  tile-nulls rows cols =
      counts-same (renumbered numbers numbers_map ∷ []) (numbers_map ∷ []) (0 ∷ []) (0 ∷ [])
      (eq_by_cmp combination_cmp (None ∷ [])) (eq_by_cmp combination_cmp (None ∷ []))
      (λ row col. nulls-there (position_at_row_and_column row col)) rows cols
