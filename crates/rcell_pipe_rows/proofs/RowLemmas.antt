-- The cells of a row up to one more cell, and whether one of them is out of range.
use Rattle.std.proofs.Common.{◌≡◌, ◌+◌, ◌<◌, ◌||◌, ℕ, zero, suc, ℤ, Bool, Option, length, take, List, [], ◌∷◌, ◌++◌}
use Rattle.std.proofs.Common.{slice_set, sym, ap, ◌∙◌, arith, add-one}
use Rattle.std.specs.List.{list_any, range_with_len}
use Rattle.std.proofs.lemmas.List.{take_more_set}
use Rattle.std.proofs.lemmas.List.FromFn.{map-range_with_len_more}
use Rattle.std.proofs.lemmas.List.Folds.{list_any-append}
use Rattle.std.proofs.Math.Bool.{or-false}
use Rattle.rcell_pipe_rows.specs.declared.kind.CellType.{CellType}
use Rattle.rcell_pipe_rows.specs.RawRows.{raw_cell_at_place, is_invalid_raw_number_at_place, places_in_row}
use Rattle.rcell_pipe_rows.specs.RawRows.{raw_cells}
use Rattle.rcell_pipe_rows.specs.RawRows.{has_invalid_raw_number}

-- one more cell is stored after the cells so far
pub cells_more : (kind : CellType) (nodata : Option ℤ) (mask bytes : List ℕ) (i : ℕ) (cells : List (Option ℤ)) (cell : Option ℤ) → i < length cells → take i cells ≡ raw_cells kind nodata mask bytes i → cell ≡ raw_cell_at_place kind nodata mask bytes i → take (i + 1) (slice_set cells i cell) ≡ raw_cells kind nodata mask bytes (i + 1)
cells_more kind nodata mask bytes i cells cell within before is =
    take_more_set cells i cell within
    ∙ ap (λ (xs : List (Option ℤ)). xs ++ cell ∷ []) before
    ∙ ap (λ (x : Option ℤ). raw_cells kind nodata mask bytes i ++ x ∷ []) is
    ∙ sym (map-range_with_len_more (raw_cell_at_place kind nodata mask bytes) 0 i i (omega arith))

-- the places so far, and one more place
places_from : (a n j : ℕ) → a + n ≡ j → range_with_len a (suc n) ≡ range_with_len a n ++ j ∷ []
places_from a zero j is = ap (λ (x : ℕ). x ∷ []) (omega (arith, is))
places_from a (suc n) j is = ap (λ (xs : List ℕ). a ∷ xs) (places_from (a + 1) n j (omega (arith, is)))

places_more : (n : ℕ) → places_in_row (n + 1) ≡ places_in_row n ++ n ∷ []
places_more n = ap (range_with_len 0) (add-one n) ∙ places_from 0 n n (omega arith)

-- a row up to the next cell has a cell out of range if the row so far has one or the next cell is out of range
pub outside_more : (kind : CellType) (nodata : Option ℤ) (mask bytes : List ℕ) (i : ℕ) (outside one : Bool) → outside ≡ has_invalid_raw_number kind nodata mask bytes i → one ≡ is_invalid_raw_number_at_place kind nodata mask bytes i → (outside || one) ≡ has_invalid_raw_number kind nodata mask bytes (i + 1)
outside_more kind nodata mask bytes i outside one before is =
    ap (λ (b : Bool). b || one) before
    ∙ ap (λ (b : Bool). has_invalid_raw_number kind nodata mask bytes i || b) (is ∙ sym (or-false (is_invalid_raw_number_at_place kind nodata mask bytes i)))
    ∙ sym (ap (list_any (is_invalid_raw_number_at_place kind nodata mask bytes)) (places_more i) ∙ list_any-append (is_invalid_raw_number_at_place kind nodata mask bytes) (places_in_row i) (i ∷ []))
