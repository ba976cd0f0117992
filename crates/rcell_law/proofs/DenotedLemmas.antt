-- A map denoted by a text has a valid region, and its cells are in the range of categories.
use Rattle.std.proofs.Common.{◌≡◌, ◌≢◌, ℕ, ℤ, pos, ◌+◌, ◌*◌, ◌<◌, ◌≤◌, Bool, true, false, not, List, [], length}
use Rattle.std.proofs.Common.{get_or, Option, Some, None, Result, Ok, Err, refl, ap, sym, ◌∙◌, subst}
use Rattle.std.proofs.Common.{arith, option_map}
use Rattle.std.specs.Prelude.{slice_get, All, IfSome, IsTrue, if◌then◌else◌, bytes_eq, nat_le, ◌*ℤ◌}
use Rattle.std.specs.Fmt.{signed_decimal}
use Rattle.std.proofs.lemmas.Bool.{and_parts, le-leb, leb-true}
use Rattle.std.proofs.lemmas.List.Elements.{All-from_get_or, All-get_or, All-weaker}
use Rattle.std.proofs.lemmas.Option.{same_Some}
use Rattle.cell_core_devices.specs.Device.{ComingBytes}
use Rattle.cell_core_values.specs.Region.{RegionValue, IsValidRegion, is_within_cell_limit, are_region_edges_in_order}
use Rattle.cell_core_values.specs.Region.{is_row_or_column_count, most_cells}
use Rattle.cell_core_values.specs.Region.{most_rows_or_columns, region_or_first_fault}
use Rattle.cell_core_values.specs.declared.region.RegionFault.TheVariants.{BadExtent, BadRows, BadCols, TooManyCells}
use Rattle.cell_core.specs.Grid.{CellValue, Grid, RowsFillRegion, cell_at}
use Rattle.cell_core_values.specs.WholeNumbers.{is_in_category_range, whole_number_of_text}
use Rattle.cell_ascii_meaning.specs.GridText.{SourceDenotesMap, data_words, words_of_each_line}
use Rattle.cell_ascii_meaning.specs.GridWords.{GridHeaderContents, cell_of_number, cell_of_word}
use Rattle.cell_ascii_meaning.specs.declared.grid_fault.GridKind.{GridKind}
use Rattle.cell_ascii_meaning.specs.declared.grid_fault.GridKind.TheVariants.{CellRange}
use Rattle.cell_ascii_law.proofs.WritingNumberLemmas.{in_range_low, whole_back}

-- the cell is null or a category in range
abbrev pub InRange : CellValue → Type 0
InRange cell = IfSome cell (λ category. IsTrue (is_in_category_range category))

abbrev pub AllInRange : List (List CellValue) → Type 0
AllInRange rows = All (λ row. All InRange row) rows

word-in : (h : GridHeaderContents) (word : List ℕ) (cell : CellValue) → cell_of_word h word ≡ Ok cell → InRange cell
word-in h word cell e = by (bytes_eq word h.null_text) (whole_number_of_text word) e
  where
    good : Result CellValue GridKind → Type 0
    good (Ok x) = InRange x
    good (Err kind) = Unit {0}

    product : (n : ℤ) (t : Bool) → is_in_category_range n ≡ t → good (if t then Ok (Some n) else Err CellRange)
    product n true is = is
    product n false is = tt

    first : (n m : ℤ) (t : Bool) → good
        (if t then (if is_in_category_range m then Ok (Some m) else Err CellRange) else Err CellRange)
    first n m true = product m (is_in_category_range m) refl
    first n m false = tt

    number : (o : Option ℤ) → good (cell_of_number h.multiplier o)
    number None = tt
    number (Some n) = first n (n *ℤ h.multiplier) (is_in_category_range n)

    by : (t : Bool) (o : Option ℤ) → (if t then Ok None else cell_of_number h.multiplier o) ≡ Ok cell → InRange cell
    by true o is = let same : None ≡ cell = cc in subst InRange same tt
    by false o is = subst good is (number o)

pub cells-in : (m : Grid) → RowsFillRegion m.region m.rows
    → ((r c : ℕ) → r < m.region.rows → c < m.region.cols → InRange (cell_at m r c)) → AllInRange m.rows
cells-in m filled each =
    All-from_get_or (λ row. All InRange row) m.rows []
    (λ r lt. All-from_get_or InRange (get_or m.rows r []) None
    (λ c less.
    let count = filled.count in
    let wide : length (get_or m.rows r []) ≡ m.region.cols =
    All-get_or (λ row. length row ≡ m.region.cols) m.rows r [] lt filled.width in
    each r c (omega (arith, lt, count)) (omega (arith, less, wide))))

pub denoted-in : (c : ComingBytes) (m : Grid) → SourceDenotesMap c m → AllInRange m.rows
denoted-in c m h =
    let rows : m.region.rows ≡ h.said.region.rows = ap (λ (r : RegionValue). r.rows) h.region in
    let cols : m.region.cols ≡ h.said.region.cols = ap (λ (r : RegionValue). r.cols) h.region in
    cells-in m (subst (λ (e : RegionValue). RowsFillRegion e m.rows) (sym h.region) h.cells.shape)
    (λ r k high wide. by (slice_get (data_words (words_of_each_line c.bytes)) (r * h.said.region.cols + k))
    (cell_at m r k)
    (h.cells.each r k (omega (arith, rows, high)) (omega (arith, cols, wide))))
  where
    by : (o : Option (List ℕ)) (cell : CellValue) → option_map (cell_of_word h.said) o ≡ Some (Ok cell) → InRange cell
    by None cell e = cc
    by (Some word) cell e = word-in h.said word cell (same_Some (cell_of_word h.said word) (Ok cell) e)

pub accepted-region : (e : RegionValue) → region_or_first_fault e ≡ Ok e → IsValidRegion e
accepted-region e accepted = by (parts (are_region_edges_in_order e) (is_row_or_column_count e.rows)
    (is_row_or_column_count e.cols) (is_within_cell_limit e) accepted)
  where
    parts : (a b c d : Bool) →
        (if not a then Err BadExtent else
        (if not b then Err BadRows else
        (if not c then Err BadCols else (if not d then Err TooManyCells else Ok e)))) ≡ Ok e
        → (b ≡ true) × ((c ≡ true) × (d ≡ true))
    parts true true true true h = (refl, (refl, refl))
    parts _ _ _ _ h = cc

    by : (is_row_or_column_count e.rows ≡ true) × ((is_row_or_column_count e.cols ≡ true)
        × (is_within_cell_limit e ≡ true)) → IsValidRegion e
    by (b, (c, d)) =
        let rows = and_parts (nat_le 1 e.rows) (nat_le e.rows most_rows_or_columns) b in
        let cols = and_parts (nat_le 1 e.cols) (nat_le e.cols most_rows_or_columns) c in
        record {
          rows_least = leb-true 1 e.rows rows.0;
          rows_most = leb-true e.rows most_rows_or_columns rows.1;
          cols_least = leb-true 1 e.cols cols.0;
          cols_most = leb-true e.cols most_rows_or_columns cols.1;
          cells_most = leb-true (e.rows * e.cols) most_cells d;
          accepted = accepted;
        }

pub denoted-filled : (text : ComingBytes) (m : Grid) → SourceDenotesMap text m → RowsFillRegion m.region m.rows
denoted-filled text m denotes =
    subst (λ (r : RegionValue). RowsFillRegion r m.rows) (sym denotes.region) denotes.cells.shape

pub number-in : (n : ℕ) → n ≤ 2147483647 → InRange (Some (pos n))
number-in n few = le-leb n 2147483647 few

-- no category is spelled as the null text, since the null text is not a number
module _ (null_text : List ℕ) (no_number : whole_number_of_text null_text ≡ None) where
  abbrev IsApart : CellValue → Type 0
  IsApart cell = IfSome cell (λ category. signed_decimal category ≢ null_text)

  apart : (cell : CellValue) → InRange cell → IsApart cell
  apart None h = tt
  apart (Some z) h =
      λ same. let both : Some z ≡ None = sym (whole_back z (in_range_low z h)) ∙ ap whole_number_of_text same
      ∙ no_number in cc

  pub all-apart : (rows : List (List CellValue)) → AllInRange rows → All (λ row. All IsApart row) rows
  all-apart rows all =
      All-weaker (λ (row : List CellValue). All InRange row) (λ (row : List CellValue). All IsApart row)
      (λ row. All-weaker InRange IsApart apart row) rows all
