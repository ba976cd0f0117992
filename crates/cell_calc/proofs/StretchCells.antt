-- Cells repeated over the columns of stretches.
use Rattle.std.proofs.Common.{◌≡◌, ◌<◌, ◌≤◌, ◌+◌, ◌-◌, ℕ, zero, suc, List, [], ◌∷◌, ◌++◌, length, take, drop, get_or}
use Rattle.std.proofs.Common.{refl, sym, ap, ◌∙◌, arith, append_assoc, append-nil, None, Bool, true, false}
use Rattle.std.specs.Prelude.{All, nat_lt, if◌then◌else◌, replicate}
use Rattle.std.proofs.Math.Seq.{take-add}
use Rattle.std.proofs.lemmas.List.{get_or-drop, get_or_append_left, get_or-append_right, get_or-replicate}
use Rattle.std.proofs.lemmas.List.{length-replicate, length-map, length-drop, take_more}
use Rattle.cell_core.specs.Grid.{CellValue}
use Rattle.cell_calc.specs.RowValues.{at}
use Rattle.cell_calc.specs.Window.{RowWindowValue}
use Rattle.cell_calc.specs.CommonStretches.{centre_row, total_span_width, spread_values_over_spans, span_start_cells}
use Rattle.cell_calc.specs.CommonStretches.{WindowRowIsRebuiltFromSpans, AreWindowsOfFirstSpanCells}
use Rattle.cell_calc.specs.parts.Columns.{place_of_span_at_column, ColumnHasFirstCellsOfSpan}

-- one more stretch repeats its cell at the end
pub spread-push : (xs : List CellValue) (ws : List ℕ) (x : CellValue) (w : ℕ) → length xs ≡ length ws
    → spread_values_over_spans (xs ++ x ∷ []) (ws ++ w ∷ []) ≡ spread_values_over_spans xs ws ++ replicate w x
spread-push [] [] x w e = append-nil (replicate w x)
spread-push [] (v ∷ ws) x w e = absurd (let no : ⊥ = omega (arith, e) in no)
spread-push (y ∷ xs) [] x w e = absurd (let no : ⊥ = omega (arith, e) in no)
spread-push (y ∷ xs) (v ∷ ws) x w e =
    ap (λ l. replicate v y ++ l) (spread-push xs ws x w (omega (arith, e)))
    ∙ sym (append_assoc (replicate v y) (spread_values_over_spans xs ws) (replicate w x))

pub starts-push : (row : List CellValue) (ws : List ℕ) (w : ℕ)
    → span_start_cells row (ws ++ w ∷ []) ≡ span_start_cells row ws ++ at row (total_span_width ws) ∷ []
starts-push row [] w = refl
starts-push row (v ∷ ws) w =
    ap (λ l. at row 0 ∷ l) (starts-push (drop v row) ws w
    ∙ ap (λ x. span_start_cells (drop v row) ws ++ x ∷ []) (get_or-drop v row (total_span_width ws) None))

pub total-push : (ws : List ℕ) (w : ℕ) → total_span_width (ws ++ w ∷ []) ≡ total_span_width ws + w
total-push [] w = omega arith
total-push (v ∷ ws) w = omega (arith, total-push ws w)

-- one more width adds the cell at the start of its stretch
pub starts_next : (row : List CellValue) (ws : List ℕ) (i d : ℕ) → i < length ws
    → span_start_cells row (take (i + 1) ws) ≡ span_start_cells row (take i ws)
    ++ at row (total_span_width (take i ws)) ∷ []
starts_next row ws i d lt = ap (λ l. span_start_cells row l) (take_more ws i d lt)
    ∙ starts-push row (take i ws) (get_or ws i d)

pub total_next : (ws : List ℕ) (i d : ℕ) → i < length ws → total_span_width (take (i + 1) ws)
    ≡ total_span_width (take i ws) + get_or ws i d
total_next ws i d lt = ap total_span_width (take_more ws i d lt) ∙ total-push (take i ws) (get_or ws i d)

pub total_within : (ws : List ℕ) (i : ℕ) → total_span_width (take i ws) ≤ total_span_width ws
total_within ws zero = omega arith
total_within [] (suc i) = omega arith
total_within (w ∷ ws) (suc i) = omega (arith, total_within ws i)

pub length-starts : (row : List CellValue) (ws : List ℕ) → length (span_start_cells row ws) ≡ length ws
length-starts row [] = refl
length-starts row (w ∷ ws) = ap suc (length-starts (drop w row) ws)

-- n equal cells are n copies of one cell
alike_taken : (xs : List CellValue) (n : ℕ) (x : CellValue) → n ≤ length xs → ((k : ℕ) → k < n → at xs k ≡ x)
    → take n xs ≡ replicate n x
alike_taken xs zero x le alike = refl
alike_taken [] (suc n) x le alike = absurd (let no : ⊥ = omega (arith, le) in no)
alike_taken (y ∷ xs) (suc n) x le alike =
    ap (λ l. y ∷ l) (alike_taken xs n x (omega (arith, le)) (λ k lt. alike (suc k) (omega (arith, lt))))
    ∙ ap (λ v. v ∷ replicate n x) (alike zero (omega arith))

-- a row that consists of stretches up to a column can be extended by one more stretch
pub goes_more : (row : List CellValue) (ws : List ℕ) (from width : ℕ) → total_span_width ws ≡ from
    → from + width ≤ length row
    → spread_values_over_spans (span_start_cells row ws) ws ≡ take from row
    → ((k : ℕ) → k < width → at row (from + k) ≡ at row from)
    → spread_values_over_spans (span_start_cells row (ws ++ width ∷ [])) (ws ++ width ∷ []) ≡ take (from + width) row
goes_more row ws from width all le so_far alike =
    let next : take width (drop from row) ≡ replicate width (at row from) =
    alike_taken (drop from row) width (at row from) (omega (arith, length-drop from row, le))
    (λ k lt. get_or-drop from row k None ∙ alike k lt) in
    ap (λ l. spread_values_over_spans l (ws ++ width ∷ [])) (starts-push row ws width)
    ∙ spread-push (span_start_cells row ws) ws (at row (total_span_width ws)) width (length-starts row ws)
    ∙ ap (λ l. l ++ replicate width (at row (total_span_width ws))) so_far
    ∙ ap (λ n. take from row ++ replicate width (at row n)) all
    ∙ ap (λ l. take from row ++ l) (sym next)
    ∙ sym (take-add from width row)

-- the cell of a column is the cell of the stretch that contains the column
pub spread-at : (xs : List CellValue) (ws : List ℕ) (c : ℕ) → length xs ≡ length ws → c < total_span_width ws
    → at (spread_values_over_spans xs ws) c ≡ at xs (place_of_span_at_column ws c)
spread-at [] [] c e lt = absurd (let no : ⊥ = omega (arith, lt) in no)
spread-at [] (w ∷ ws) c e lt = absurd (let no : ⊥ = omega (arith, e) in no)
spread-at (x ∷ xs) [] c e lt = absurd (let no : ⊥ = omega (arith, e) in no)
spread-at (x ∷ xs) (w ∷ ws) c e lt = by_case (λ more. spread-at xs ws (c - w) (omega (arith, e)) more) (nat_lt c w) refl
  where
    by_case : (c - w < total_span_width ws → at (spread_values_over_spans xs ws) (c - w)
        ≡ at xs (place_of_span_at_column ws (c - w)))
        → (b : Bool) → nat_lt c w ≡ b
        → at (replicate w x ++ spread_values_over_spans xs ws) c
        ≡ at (x ∷ xs) (if b then 0 else place_of_span_at_column ws (c - w) + 1)
    by_case after true h =
        let below : c < w = grind arith in
        get_or_append_left (replicate w x) (spread_values_over_spans xs ws) None c (rw (length-replicate w x) below)
        ∙ get_or-replicate w c x None below
    by_case after false h =
        let above : w ≤ c = grind arith in
        let one_on : place_of_span_at_column ws (c - w) + 1 ≡ suc (place_of_span_at_column ws (c - w)) = omega arith in
        let next : at (x ∷ xs) (place_of_span_at_column ws (c - w) + 1)
        ≡ at xs (place_of_span_at_column ws (c - w)) = ap (λ n. at (x ∷ xs) n) one_on in
        get_or-append_right (replicate w x) (spread_values_over_spans xs ws) w c None (length-replicate w x) above
        ∙ after (omega (arith, lt, above)) ∙ sym next

pub place_of_span_at_column-within : (ws : List ℕ) (c : ℕ) → c < total_span_width ws
    → place_of_span_at_column ws c < length ws
place_of_span_at_column-within [] c lt = absurd (let no : ⊥ = omega (arith, lt) in no)
place_of_span_at_column-within (w ∷ ws) c lt = by_case (λ more. place_of_span_at_column-within ws (c - w) more)
    (nat_lt c w) refl
  where
    by_case : (c - w < total_span_width ws → place_of_span_at_column ws (c - w) < length ws) → (b : Bool)
        → nat_lt c w ≡ b
        → (if b then 0 else place_of_span_at_column ws (c - w) + 1) < length (w ∷ ws)
    by_case after true h = omega arith
    by_case after false h =
        let above : w ≤ c = grind arith in
        omega (arith, after (omega (arith, lt, above)))

-- at each column, the rows have the same cells as at the start of its stretch
pub like_start : (windows : List RowWindowValue) (ws : List ℕ) (c : ℕ) → All (WindowRowIsRebuiltFromSpans ws) windows
    → c < total_span_width ws
    → ColumnHasFirstCellsOfSpan ws windows (place_of_span_at_column ws c) c
like_start windows ws c go lt = λ i d within.
    let row = centre_row (get_or windows i d) in
    sym (spread-at (span_start_cells row ws) ws c (length-starts row ws) lt) ∙ ap (λ l. at l c) (go i d within)

-- shortening windows to the starts of stretches keeps the number of windows
pub same_count : (windows short : List RowWindowValue) (ws : List ℕ) → AreWindowsOfFirstSpanCells ws windows short
    → length short ≡ length windows
same_count windows short ws is =
    sym (length-map short centre_row) ∙ ap (λ l. length l) is
    ∙ length-map windows (λ w. span_start_cells (centre_row w) ws)
