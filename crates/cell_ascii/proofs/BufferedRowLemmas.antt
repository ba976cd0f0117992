-- Cells that are buffered one after another.
use Rattle.std.proofs.Common.{◌≡◌, ℕ, zero, suc, ◌+◌, ◌-◌, ◌<◌, ◌≤◌, List, [], ◌∷◌, ◌++◌, length, take, drop, Ok, refl, ap, sym, ◌∙◌, arith, append-nil, length-append, length-drop, length-take, take_all}
use Rattle.std.proofs.Math.Seq.{take-append-add, drop-append-add}
use Rattle.std.proofs.lemmas.List.{drop_all, drop-append-le, drop-drop, take-append-drop, take-append-le, take_at}
use Rattle.cell_core.specs.Grid.{CellValue}
use Rattle.cell_ascii_reading.specs.Ahead.{bytes_to_come_with_prefix}
use Rattle.cell_ascii_meaning.specs.Header.{◌>>=◌, GridHeaderContents}
use Rattle.cell_ascii_meaning.specs.CellTexts.{ReadValueAndPositionOrFault, next_cell_after_position}
use Rattle.cell_ascii_meaning.specs.CellTexts.{position_without_pending_word}
use Rattle.cell_ascii.specs.BufferedCells.{BytesHoldNextCell, BytesHoldNextCells, blank_run_length_after_cells}
use Rattle.cell_ascii.proofs.ManyLemmas.{many_more, snoc, with_last}

run-below : (run count : ℕ) → run < 1048576 → blank_run_length_after_cells run count < 1048576
run-below run zero below = below
run-below run (suc count) below = omega arith

run-none : (run count : ℕ) → blank_run_length_after_cells run (count + 1) ≡ 0
run-none run count = let e : count + 1 ≡ suc count = omega arith in ap (blank_run_length_after_cells run) e

module _ (h : GridHeaderContents) (bs : List ℕ) where
  -- bytes that hold some cells, followed by one more cell, hold all of these cells
  pub BytesHoldNextCells-more : (cells : List CellValue) (count n : ℕ) (v : CellValue) (m : ℕ) → BytesHoldNextCells h bs cells count n → BytesHoldNextCell h (drop n bs) v m
      → BytesHoldNextCells h bs (cells ++ v ∷ []) (count + 1) (n + m)
  BytesHoldNextCells-more cells count n v m buffered next = λ line run below c.
      many_more (next_cell_after_position h) count (position_without_pending_word line run
      (bytes_to_come_with_prefix bs c))
      ∙ ap (λ (r : ReadValueAndPositionOrFault (List CellValue)). r >>= with_last (next_cell_after_position h))
      (buffered line run below c)
      ∙ ap (λ (r : ReadValueAndPositionOrFault CellValue). r >>= snoc (next_cell_after_position h) cells) (next line (blank_run_length_after_cells run count) (run-below run count below) c)
      ∙ ap (λ (k : ℕ). Ok (cells ++ v ∷ [], position_without_pending_word line k (bytes_to_come_with_prefix (drop m (drop n bs)) c))) (sym (run-none run count))
      ∙ ap (λ (rest : List ℕ). Ok (cells ++ v ∷ [], position_without_pending_word line (blank_run_length_after_cells run (count + 1)) (bytes_to_come_with_prefix rest c))) (drop-drop m n bs)

-- a row whose cells from index i on are lent and returned as `part`
abbrev pub filled : ℕ → List CellValue → List CellValue → List CellValue
filled i row part = take i row ++ (part ++ drop (length row - i) (drop i row))

-- k more cells of the lent part are read, and the others are unchanged
module _ (i k : ℕ) (row part old : List CellValue) (within : i ≤ length row) (size : length part ≡ length row - i) (few : k ≤ length row - i) where
  abbrev after : List CellValue
  after = drop (length row - i) (drop i row)

  length-front : length (take i row) ≡ i
  length-front = omega (arith, length-take i row)

  pub part-front : take (i + k) (filled i row part) ≡ take i row ++ take k part
  part-front =
      ap (λ (n : ℕ). take (n + k) (take i row ++ (part ++ after))) (sym length-front)
      ∙ take-append-add (take i row) (part ++ after) k
      ∙ ap (λ (l : List CellValue). take i row ++ l) (take-append-le k part after (omega (arith, size)))

  -- the cells before the lent part are unchanged
  pub part-none : take i (filled i row part) ≡ take i row
  part-none = ap (λ (n : ℕ). take n (take i row ++ (part ++ after))) (sym length-front) ∙ take_at (take i row) (part ++ after) (length (take i row)) refl

  none-after : after ≡ []
  none-after = drop_all (length row - i) (drop i row) (omega (arith, length-drop i row))

  pub part-rest : drop k part ≡ drop k (take (length row - i) (drop i row)) → drop i row ≡ drop i old → drop (i + k) (filled i row part) ≡ drop (i + k) old
  part-rest kept rest =
      ap (λ (n : ℕ). drop (n + k) (take i row ++ (part ++ after))) (sym length-front)
      ∙ drop-append-add (take i row) (part ++ after) k
      ∙ ap (λ (l : List CellValue). drop k (part ++ l)) none-after
      ∙ ap (drop k) (append-nil part)
      ∙ kept
      ∙ ap (drop k) (take_all (length row - i) (drop i row) (omega (arith, length-drop i row)) ∙ rest)
      ∙ drop-drop k i old

  pub filled-length : length (filled i row part) ≡ length row
  filled-length =
      ap (λ (l : List CellValue). length (take i row ++ (part ++ l))) none-after
      ∙ ap (λ (l : List CellValue). length (take i row ++ l)) (append-nil part)
      ∙ omega (arith, length-append (take i row) part, length-front, size)

-- if the start of a row is lent, the cells after those that were read are unchanged
pub lent_rest : (k end : ℕ) (part row : List CellValue) → k ≤ length (take end row) → length part ≡ length (take end row) → drop k part ≡ drop k (take end row)
    → drop k (part ++ drop end row) ≡ drop k row
lent_rest k end part row few size rest =
    let within : k ≤ length part = omega arith in
    drop-append-le k part (drop end row) within
    ∙ ap (λ (l : List CellValue). l ++ drop end row) rest
    ∙ sym (drop-append-le k (take end row) (drop end row) few)
    ∙ ap (drop k) (take-append-drop end row)
