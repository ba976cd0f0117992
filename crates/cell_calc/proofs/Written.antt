-- Rows that are written through a slice.
use Rattle.std.proofs.Common.{◌≡◌, ◌<◌, ◌++◌, ◌∙◌, ℕ, List, length, take, drop, ap}
use Rattle.cell_core.specs.Grid.{CellValue}
use Rattle.cell_calc.specs.RowValues.{at}
use Rattle.cell_calc.proofs.Rings.{written}

-- a cell of a row that was written through a slice of the full row is the new cell
pub at_written : (n : ℕ) (new old : List CellValue) (k : ℕ) → n ≡ length old → length new ≡ length old → at (take n (new ++ drop (length new) old)) k ≡ at new k
at_written n new old k all same = ap (λ l. at l k) (written n new old all same)

-- a row whose cells were changed through a slice keeps its width
pub changed_width : (n w : ℕ) (row slice new : List CellValue) → n ≡ length row → slice ≡ row → length new ≡ length slice → length row ≡ w
    → length (take n (new ++ drop (length new) row)) ≡ w
changed_width n w row slice new all is same width =
    let kept = same ∙ ap (λ l. length l) is in
    ap (λ l. length l) (written n new row all kept) ∙ kept ∙ width

pub changed : (f : CellValue → CellValue) (n w k : ℕ) (row slice new : List CellValue) (v : CellValue) → n ≡ length row → slice ≡ row → length new ≡ length slice
    → ((c : ℕ) → c < length slice → at new c ≡ f (at slice c)) → length row ≡ w → k < w → at row k ≡ v → at (take n (new ++ drop (length new) row)) k ≡ f v
changed f n w k row slice new v all is same each width lt value =
    let start = ap (λ l. length l) is ∙ width in
    at_written n new row k all (same ∙ ap (λ l. length l) is) ∙ each k (rw start lt) ∙ ap (λ l. f (at l k)) is ∙ ap (λ u. f u) value
