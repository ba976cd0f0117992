-- The cells of a written map are read back.
use Rattle.std.proofs.Common.{◌≡◌, ◌≢◌, ℕ, List, [], ◌∷◌, ◌++◌, length, map, Some, None, Ok, Err, refl, ap, sym, ◌∙◌, if◌then◌else◌}
use Rattle.std.specs.Prelude.{IfSome, IsTrue}
use Rattle.std.specs.Fmt.{signed_decimal}
use Rattle.std.specs.List.{All}
use Rattle.std.proofs.Math.IntN.{one, *ℤ-one}
use Rattle.std.proofs.lemmas.Slice.Eq.{bytes_eq-Decides}
use Rattle.std.proofs.lemmas.List.Elements.{All-head, All-tail}
use Rattle.cell_core.specs.Grid.{CellValue}
use Rattle.cell_core_values.proofs.NameLemmas.{bytes_eq-differ}
use Rattle.cell_ascii_meaning.specs.EdgeNumbers.{whole_number_of_text, is_in_category_range}
use Rattle.cell_ascii_meaning.specs.Header.{GridHeaderContents, usual_multiplier}
use Rattle.cell_ascii_meaning.specs.CellTexts.{cell_of_number, cell_of_word}
use Rattle.cell_core.specs.Text.{cell_text}
use Rattle.cell_ascii_meaning.specs.declared.grid_fault.GridKind.TheVariants.{CellRange}
use Rattle.cell_ascii_law.proofs.LexemeLemmas.{Lines}
use Rattle.cell_ascii_law.proofs.DataLawLemmas.{all_words, then_words, taken_cell, take_cell, take_many}
use Rattle.cell_ascii_law.proofs.WritingNumberLemmas.{whole_back, in_range_low}

module _ (h : GridHeaderContents) (once : h.multiplier ≡ usual_multiplier) where
  -- null, or a category in range whose decimal text is not the null text
  abbrev pub IsGood : CellValue → Type 0
  IsGood cell = IfSome cell (λ category. IsTrue (is_in_category_range category)) × IfSome cell (λ category. signed_decimal category ≢ h.null_text)

  cell_back : (cell : CellValue) → IsGood cell → cell_of_word h (cell_text h.null_text cell) ≡ Ok cell
  unfolding one
  cell_back None good = ap (λ t. if t then Ok None else cell_of_number h.multiplier (whole_number_of_text h.null_text)) ((bytes_eq-Decides h.null_text h.null_text).1 refl)
  cell_back (Some z) good =
      let differ = bytes_eq-differ (signed_decimal z) h.null_text good.1 in
      let same = *ℤ-one z in
      (λ i. if differ i then Ok None else cell_of_number (once i) (whole_back z (in_range_low z good.0) i))
      ∙ (λ i. if good.0 i then (if is_in_category_range (same i) then Ok
      (Some (same i)) else Err CellRange) else Err CellRange)
      ∙ (λ i. if good.0 i then Ok (Some z) else Err CellRange)

  pub row_back : (row : List CellValue) (rest : List (List ℕ)) → All IsGood row → take_many (take_cell h) (length row) (map (cell_text h.null_text) row ++ rest) ≡ Some (row, rest)
  row_back [] rest good = refl
  row_back (cell ∷ row) rest good =
      let first = cell_back cell (All-head IsGood cell row good) in
      let behind = row_back row rest (All-tail IsGood cell row good) in
      ap (λ r. then_words (λ x ws. then_words (λ y vs. Some (x ∷ y, vs)) (take_many (take_cell h) (length row) ws)) (taken_cell (map (cell_text h.null_text) row ++ rest) r)) first
      ∙ ap (then_words (λ y vs. Some (cell ∷ y, vs))) behind

  pub rows_back : (cols : ℕ) (rows : List (List CellValue)) (ls : Lines) → All (λ row. length row ≡ cols) rows → All (All IsGood) rows
      → take_many (take_many (take_cell h) cols) (length rows) (all_words (map (map (cell_text h.null_text)) rows ++ ls)) ≡ Some (rows, all_words ls)
  rows_back cols [] ls wide good = refl
  rows_back cols (row ∷ rows) ls wide good =
      let rest = all_words (map (map (cell_text h.null_text)) rows ++ ls) in
      let width = All-head (λ row. length row ≡ cols) row rows wide in
      let first : take_many (take_cell h) cols (map (cell_text h.null_text) row ++ rest) ≡ Some (row, rest) =
      ap (λ n. take_many (take_cell h) n (map (cell_text h.null_text) row ++ rest)) (sym width) ∙ row_back row rest (All-head (All IsGood) row rows good) in
      let behind = rows_back cols rows ls (All-tail (λ row. length row ≡ cols) row rows wide) (All-tail (All IsGood) row rows good) in
      ap (then_words (λ x ws. then_words (λ y vs. Some (x ∷ y, vs)) (take_many (take_many (take_cell h) cols) (length rows) ws))) first
      ∙ ap (then_words (λ y vs. Some (row ∷ y, vs))) behind
