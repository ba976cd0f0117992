-- Cells that are cut into rows.
use Rattle.std.proofs.Common.{◌≡◌, ℕ, zero, suc, ◌+◌, ◌-◌, ◌*◌, ◌<◌, ◌≤◌, Bool, true, false, List, [], ◌∷◌, ◌++◌}
use Rattle.std.proofs.Common.{length, take, drop, ap, refl, sym, ◌∙◌, arith, append_assoc}
use Rattle.std.proofs.Math.Nat.{add-mul, mul-le-mul_right}
use Rattle.std.proofs.lemmas.List.{drop-take, take-take, drop-drop, take-map, drop-map}
use Rattle.cell_core.specs.Grid.{CellValue}
use Rattle.cell_core_values.specs.SmallCells.{cell_of_stored_byte, cells_of_bytes}
use Rattle.cell_ascii.specs.parts.FrontCells.{first_cells_of_bytes_or_row, cells_cut_into_rows}

-- cutting cells into rows gives exactly `rows` rows
pub rows_count : {X : Type 0} (cols rows : ℕ) (xs : List X) → length (cells_cut_into_rows cols rows xs) ≡ rows
rows_count cols zero xs = refl
rows_count cols (suc rows) xs = ap suc (rows_count cols rows (drop cols xs))

-- the cells of the next row lie within the cells of the rows
pub row_within : (at left cols n : ℕ) → 0 < left → at + left * cols ≡ n → at + cols ≤ n
row_within at left cols n some all = let one : 1 * cols ≤ left * cols = mul-le-mul_right cols some in omega arith

-- the cells of the remaining rows lie within the cells of the rows
pub rows_after : (at left next cols n : ℕ) → next + 1 ≡ left → at + left * cols ≡ n → at + cols + next * cols ≡ n
rows_after at left next cols n one all = let e : left * cols ≡ next * cols + 1 * cols = rw (← one)
    (add-mul next 1 cols) in omega arith

-- a part of the first n elements is the same part of all elements
part_of : {X : Type 0} (xs : List X) (at cols n : ℕ) → at + cols ≤ n → take cols (drop at (take n xs)) ≡ take cols
    (drop at xs)
part_of xs at cols n within =
    let e : n ≡ at + (n - at) = omega arith in
    ap (λ (m : ℕ). take cols (drop at (take m xs))) e ∙ ap (take cols) (drop-take at (n - at) xs) ∙ take-take cols
    (n - at) (drop at xs) (omega arith)

-- the cells of a row are a part of the cells of its rows, as bytes or as cells
pub row_part : (is_bytes : Bool) (bytes : List ℕ) (cells : List CellValue) (at cols n : ℕ) → at + cols ≤ n
    → first_cells_of_bytes_or_row (cols, is_bytes) (drop at bytes) (take cols (drop at cells)) ≡ take cols
    (drop at (first_cells_of_bytes_or_row (n, is_bytes) bytes cells))
row_part true bytes cells at cols n within =
    ap cells_of_bytes (sym (part_of bytes at cols n within))
    ∙ sym (ap (take cols) (drop-map cell_of_stored_byte at (take n bytes))
    ∙ take-map cell_of_stored_byte cols (drop at (take n bytes)))
row_part false bytes cells at cols n within = take-take cols cols (drop at cells) (omega arith) ∙ sym
    (part_of cells at cols n within)

-- taking the next row from the remaining rows leaves the list of all rows unchanged
pub rows_below : {X : Type 0} (front : List (List X)) (all row : List X) (at cols left next : ℕ) → next + 1 ≡ left
    → row ≡ take cols (drop at all)
    → (front ++ row ∷ []) ++ cells_cut_into_rows cols next (drop (at + cols) all) ≡ front
    ++ cells_cut_into_rows cols left (drop at all)
rows_below front all row at cols left next one is =
    let e : suc next ≡ left = omega arith in
    append_assoc front (row ∷ []) (cells_cut_into_rows cols next (drop (at + cols) all))
    ∙ ap (λ r. front ++ r ∷ cells_cut_into_rows cols next (drop (at + cols) all)) is
    ∙ ap (λ l. front ++ take cols (drop at all) ∷ cells_cut_into_rows cols next l) (sym (drop-drop cols at all))
    ∙ ap (λ n. front ++ cells_cut_into_rows cols n (drop at all)) e
