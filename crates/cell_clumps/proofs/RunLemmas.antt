-- The runs of a row are labelled one after another.
use Rattle.std.proofs.Common.{◌≡◌, ℕ, zero, suc, ℤ, ◌+◌, ◌-◌, ◌*◌, ◌<◌, ◌≤◌, ◌⊎◌, List, [], ◌∷◌, ◌++◌, All, Some}
use Rattle.std.proofs.Common.{None, length, replicate, map, drop, get_or, set, refl, ap, sym, ◌∙◌}
use Rattle.std.proofs.Common.{arith, subst, inl, inr, ⊎_elim, append_assoc, IsSome}
use Rattle.std.proofs.lemmas.Bool.{cases_lt, cases_eq}
use Rattle.std.proofs.lemmas.List.{append-nil, length_push, length-append, get_or_push, get_or_append_left}
use Rattle.std.proofs.lemmas.List.{get_or-append-add, get_or-replicate, get_or_default, length-replicate}
use Rattle.std.proofs.lemmas.List.{replicate-append-replicate, nil_from_length, drop-append-le, drop-replicate}
use Rattle.std.proofs.lemmas.List.{drop_all, map-append, length-map, drop-drop, get_or-drop}
use Rattle.std.proofs.lemmas.Grind.{flat_map-append}
use Rattle.std.proofs.lemmas.List.Elements.{All-get_or}
use Rattle.std.proofs.Math.Seq.{drop-append_seam, get_or-append_seam, set-append_seam}
use Rattle.std.proofs.Math.ListN.{get_or-map}
use Rattle.cell_core.specs.Grid.{Grid, CellValue, RowsFillRegion, row_at}
use Rattle.cell_core.specs.Runs.{RunValue, cells_of_runs}
use Rattle.cell_clumps.specs.declared.clump.Joining.{Joining}
use Rattle.cell_clumps.specs.declared.clump.Joining.TheVariants.{Edges, EdgesAndCorners}
use Rattle.cell_clumps.specs.declared.near.LabelledCell.{LabelledCell}
use Rattle.cell_clumps.specs.declared.near.EarlierNeighbours.{EarlierNeighbours}
use Rattle.cell_clumps.specs.declared.above.UnreadRowAbove.{UnreadRowAbove}
use Rattle.cell_clumps.specs.Clumps.{cell_at_position}
use Rattle.cell_clumps.specs.parts.CellPlaces.{position_at_row_and_column, place_of_position}
use Rattle.cell_clumps.specs.parts.ClumpsRead.{AreNeighbourLabelsInTable, AreEarlierNeighboursOfCell}
use Rattle.cell_clumps.specs.parts.ClumpsRead.{AreLabelsOfCellsRead, RootsExistForLabelsOfCellsRead}
use Rattle.cell_clumps.specs.parts.ClumpsRead.{IsLabelledCellOfMapOrNull, IsLineOfLabelledCells}
use Rattle.cell_clumps.specs.parts.ClumpsRead.{IsCorrectLabelForNextCell}
use Rattle.cell_clumps.specs.parts.ClumpsRead.{CellSharesNeighbourLabel, clump_label_at_position}
use Rattle.cell_clumps.specs.parts.ClumpsRead.{neighbours_at_next_column}
use Rattle.cell_clumps.specs.parts.Starts.{IsPositionAtRowAndColumn}
use Rattle.cell_clumps.specs.parts.RunsOfLabels.{NextCellsAboveAreEqual, AreStoredLabelsOfRows, AreCellsLabelledAndRowsStored, AreRowsLabelledAndStored, AreRowsLabelledAsRuns, HasCurrentCellUnlessRowEnded}
use Rattle.cell_clumps.specs.parts.RunsOfLabels.{IsRowLabelledSoFar, labels_of_cells_in_runs, labelled_cells_of_runs}
use Rattle.cell_clumps.specs.parts.RunsOfLabels.{neighbours_of_next_cell_in_row, null_cell_without_label}
use Rattle.cell_clumps.specs.parts.RunsOfLabels.{unread_cells_of_row_above}
use Rattle.cell_clumps.proofs.LineLemmas.{beside_first, cells_first, cells_down, cells_down_labels}
use Rattle.cell_clumps.proofs.LineLemmas.{reading_inside, reading_near, reading_next, reading_next_labels}
use Rattle.cell_clumps.proofs.NearLemmas.{corners_left, edges_left}
use Rattle.cell_clumps.proofs.ReadLemmas.{read_null, read_shared}
use Rattle.cell_clumps.proofs.StartLemmas.{same_position}

-- ---- the cells of a row that are still to come

after_first : (rest : List LabelledCell) (d : LabelledCell)
    → get_or (rest ++ null_cell_without_label ∷ []) 0 d ≡ get_or rest 0 null_cell_without_label
after_first [] d = refl
after_first (b ∷ rest) d = refl

-- equal cells can be split into the first s of them and the others
pub alike_first : (n s : ℕ) (a : LabelledCell) (xs : List LabelledCell) → s ≤ n
    → replicate n a ++ xs ≡ replicate s a ++ drop s (replicate n a ++ xs)
alike_first n s a xs le =
    let all : s + (n - s) ≡ n = omega arith in
    let within : s ≤ length (replicate n a) = omega (arith, length-replicate n a) in
    let rest : drop s (replicate n a ++ xs) ≡ replicate (n - s) a ++ xs = drop-append-le s (replicate n a) xs within
    ∙ ap (λ (l : List LabelledCell). l ++ xs) (drop-replicate s n a) in
    ap (λ (k : ℕ). replicate k a ++ xs) (sym all)
    ∙ ap (λ (l : List LabelledCell). l ++ xs) (sym (replicate-append-replicate s (n - s) a))
    ∙ append_assoc (replicate s a) (replicate (n - s) a) xs
    ∙ ap (λ (l : List LabelledCell). replicate s a ++ l) (sym rest)

-- ---- reading one more cell

kept_grown : (m : Grid) (labels : List ℕ) (l : ℕ) (kept : List (List ℕ)) → AreStoredLabelsOfRows m labels kept
    → AreStoredLabelsOfRows m (labels ++ l ∷ []) kept
kept_grown m labels l kept k = record {
  wide = k.wide;
  read = λ r c lt c_in. let before = k.read r c lt c_in in let long = length_push labels l in omega arith;
  some = λ r c v lt c_in is. k.some r c v lt c_in is
      ∙ sym (get_or_append_left labels (l ∷ []) 0 (place_of_position m.region.cols (position_at_row_and_column r c))
      (k.read r c lt c_in));
  null = k.null;
}

-- after one more cell of a line was read, the line holds the cell and its label
pub walked_cell : (j : Joining) (m : Grid) (kept : List (List ℕ)) (table : List ℕ) (line : List LabelledCell) (r c : ℕ)
    (near : EarlierNeighbours) (w : AreCellsLabelledAndRowsStored j m kept table line r c near) → c < m.region.cols
    → (after : EarlierNeighbours)
    → after ≡ neighbours_at_next_column line c near → (new : List ℕ) (z : LabelledCell)
    → z.cell ≡ cell_at_position m (position_at_row_and_column r c)
    → RootsExistForLabelsOfCellsRead j m new (w.reading.cells.labels ++ z.label ∷ [])
    → AreCellsLabelledAndRowsStored j m kept new (set line c z) r (c + 1) (record after { left = z })
walked_cell j m kept table line r c near w c_in after moved new z cell has_read = record {
  reading = reading_next j m table line r c near w.reading c_in after moved new z cell has_read;
  kept_are = subst (λ (l : List ℕ). AreStoredLabelsOfRows m l kept)
      (sym (reading_next_labels j m table line r c near w.reading c_in after moved new z cell has_read))
      (kept_grown m w.reading.cells.labels z.label kept w.kept_are);
}

module _ (j : Joining) (m : Grid) (kept : List (List ℕ)) (table : List ℕ) (done : List LabelledCell) (a : LabelledCell)
    (rest : List LabelledCell) (r : ℕ) (near : EarlierNeighbours) (w : IsRowLabelledSoFar j m kept table done (a
    ∷ rest) r near)
    (c_in : length done < m.region.cols) where
  -- the neighbours of the next cell in the row
  abbrev pub next_near : EarlierNeighbours
  next_near = record {
    left = near.left;
    upper_left = near.above;
    above = a;
    upper_right = get_or rest 0
        null_cell_without_label;
  }

  next_near_is : next_near ≡ neighbours_at_next_column (done ++ (a ∷ rest ++ null_cell_without_label ∷ []))
      (length done) near
  next_near_is =
      let here : get_or (done ++ (a ∷ rest ++ null_cell_without_label ∷ []))
      (length done) near.left ≡ a = get_or-append_seam done a (rest ++ null_cell_without_label ∷ []) near.left in
      let then : get_or (done ++ (a ∷ rest ++ null_cell_without_label ∷ []))
      (length done + 1) near.left ≡ get_or rest 0 null_cell_without_label = get_or-append-add done
      (a ∷ rest ++ null_cell_without_label ∷ []) 1 near.left ∙ after_first rest near.left in
      ap (λ (x : LabelledCell). record {
        left = near.left;
        upper_left = near.above;
        above = x;
        upper_right = get_or rest
            0 null_cell_without_label;
      }) (sym here)
      ∙ ap (λ (x : LabelledCell). record {
        left = near.left;
        upper_left = near.above;
        above = get_or (done ++
            (a ∷ rest ++ null_cell_without_label ∷ [])) (length done) near.left;
        upper_right = x;
      }) (sym then)

  pub next_are_near : AreEarlierNeighboursOfCell m (length w.reading.cells.labels)
      (clump_label_at_position m w.reading.cells.labels) r
      (length done) next_near
  next_are_near = reading_near j m table (done ++ (a ∷ rest ++ null_cell_without_label ∷ [])) r
      (length done) near w.reading c_in next_near next_near_is

  pub walked_next : (new : List ℕ) (z : LabelledCell) → z.cell
      ≡ cell_at_position m (position_at_row_and_column r (length done))
      → RootsExistForLabelsOfCellsRead j m new (w.reading.cells.labels ++ z.label ∷ [])
      → IsRowLabelledSoFar j m kept new (done ++ z ∷ []) rest r
      (record next_near { left = z })
  walked_next new z cell has_read =
      let line : List LabelledCell = done ++ (a ∷ rest ++ null_cell_without_label ∷ []) in
      let next = walked_cell j m kept table line r (length done) near w c_in next_near next_near_is new z cell
      has_read in
      let line_is : set line (length done) z ≡ (done ++ z ∷ []) ++
      (rest ++ null_cell_without_label ∷ []) = set-append_seam done a (rest ++ null_cell_without_label ∷ []) z
      ∙ sym (append_assoc done (z ∷ []) (rest ++ null_cell_without_label ∷ [])) in
      subst (λ (k : ℕ). AreCellsLabelledAndRowsStored j m kept new ((done ++ z ∷ [])
      ++ (rest ++ null_cell_without_label ∷ [])) r k
      (record next_near { left = z })) (sym (length_push done z))
      (subst (λ (l : List LabelledCell). AreCellsLabelledAndRowsStored j m kept new l r (length done + 1)
      (record next_near
      { left = z })) line_is next)

-- a cell shares the label on its left if the neighbours above both cells are the same
shares_left : (j : Joining) (m : Grid) (table labels : List ℕ) (f : ℕ → ℕ) (r c : ℕ) (v : ℤ) (near : EarlierNeighbours)
    → AreEarlierNeighboursOfCell m (length labels) (clump_label_at_position m labels) r c near
    → AreLabelsOfCellsRead j m table labels f
    → near.left.cell ≡ Some v → near.upper_left ≡ near.above → (j ≡ Edges) ⊎ (near.upper_right ≡ near.above)
    → CellSharesNeighbourLabel j m table labels f r c v near.left.label
shares_left Edges m table labels f r c v near n rd left same right = edges_left m r c v table labels f near n rd left
    (λ e. ap (λ (x : LabelledCell). x.cell) same ∙ e)
shares_left EdgesAndCorners m table labels f r c v near n rd left same right = corners_left m r c v table labels f
    near n rd left
    (λ e. ⊎_elim (λ no. absurd (let other : EdgesAndCorners ≡ Edges = no in cc)) (λ also. ap (λ
    (x : LabelledCell). x.cell) (sym also) ∙ e) right)

module _ (j : Joining) (m : Grid) (kept : List (List ℕ)) (table : List ℕ) (r : ℕ) (near : EarlierNeighbours) where
  -- a cell equal to the one on its left was read
  walked_on : (done rest : List LabelledCell) → IsRowLabelledSoFar j m kept table done (near.above ∷ rest) r near
      → length done < m.region.cols → near.left.cell ≡ cell_at_position m (position_at_row_and_column r (length done))
      → (j ≡ Edges) ⊎
      (get_or rest 0 null_cell_without_label ≡ near.above) → IsRowLabelledSoFar j m kept table (done ++ near.left
      ∷ []) rest r near
  walked_on done rest w c_in cell right =
      let labels : List ℕ = w.reading.cells.labels in
      let has = w.reading.cells.has_read in
      let count = w.reading.cells.count in
      let has_read : RootsExistForLabelsOfCellsRead j m table (labels ++ near.left.label
      ∷ []) = by_cell (cell_at_position m (position_at_row_and_column r
      (length done))) refl in
      let next = walked_next j m kept table done near.above rest r near w c_in table near.left cell has_read in
      record {
        reading = record {
          cells = next.reading.cells;
          beside = record
              { left = next.reading.beside.left; upper_left = next.reading.beside.upper_left };
        };
        kept_are = next.kept_are;
      }
    where
      by_cell : (y : CellValue) → cell_at_position m (position_at_row_and_column r (length done)) ≡ y
          → RootsExistForLabelsOfCellsRead j m table (w.reading.cells.labels ++ near.left.label ∷ [])
      by_cell None e = read_null j m table w.reading.cells.labels w.reading.cells.has_read.open_of
          w.reading.cells.has_read.read r (length done) near.left.label c_in w.reading.cells.count e
      by_cell (Some v) e = read_shared j m table w.reading.cells.labels w.reading.cells.has_read.open_of
          w.reading.cells.has_read.read r (length done) near.left.label c_in w.reading.cells.count table v e refl
          (shares_left j m table w.reading.cells.labels w.reading.cells.has_read.open_of r (length done) v _
          (next_are_near j m kept table done near.above rest r near w c_in) w.reading.cells.has_read.read (cell
          ∙ e) refl right)

  -- n cells equal to the one on their left were read
  walked_over : (n : ℕ) (done rest : List LabelledCell)
      → IsRowLabelledSoFar j m kept table done (replicate n near.above ++ rest) r near
      → length done + n ≤ m.region.cols →
      ((k : ℕ) → k < n → near.left.cell ≡ cell_at_position m (position_at_row_and_column r (length done + k)))
      → (n ≡ 0) ⊎ ((j ≡ Edges) ⊎ (get_or rest 0 null_cell_without_label ≡ near.above))
      → IsRowLabelledSoFar j m kept table
      (done ++ replicate n near.left) rest r near
  walked_over zero done rest w within cell right = subst (λ
      (l : List LabelledCell). IsRowLabelledSoFar j m kept table l rest r near) (sym (append-nil done)) w
  walked_over (suc n) done rest w within cell right =
      let others : (j ≡ Edges) ⊎ (get_or rest 0 null_cell_without_label
      ≡ near.above) = ⊎_elim (λ none. absurd (omega arith))
      (λ h. h) right in
      let next_right : (j ≡ Edges) ⊎ (get_or (replicate n near.above ++ rest) 0 null_cell_without_label
      ≡ near.above) = ⊎_elim
      (λ e. inl e) (λ same. inr (first_is n rest same)) others in
      let here = cell 0 (omega arith) in
      let place : length done + 0 ≡ length done = omega arith in
      let one = walked_on done (replicate n near.above ++ rest) w (omega arith) (here
      ∙ ap (λ (k : ℕ). cell_at_position m (position_at_row_and_column r k)) place) next_right in
      let long = length_push done near.left in
      let all = walked_over n (done ++ near.left ∷ []) rest one (omega arith)
      (λ k lt. let at : length done + (k + 1) ≡ length (done ++ near.left ∷ []) + k = omega arith in cell (k + 1)
      (omega arith) ∙ ap (λ (i : ℕ). cell_at_position m (position_at_row_and_column r i)) at) (inr others) in
      subst (λ (l : List LabelledCell). IsRowLabelledSoFar j m kept table l rest r near) (append_assoc done (near.left
      ∷ [])
      (replicate n near.left)) all
    where
      first_is : (n : ℕ) (rest : List LabelledCell) → get_or rest 0 null_cell_without_label ≡ near.above
          → get_or (replicate n near.above ++ rest) 0 null_cell_without_label ≡ near.above
      first_is zero rest same = same
      first_is (suc n) rest same = refl

-- ---- the cells of a run that have like neighbours above

module _ (j : Joining) (m : Grid) (kept : List (List ℕ)) (table : List ℕ) (done coming : List LabelledCell) (r : ℕ)
    (near : EarlierNeighbours) (w : IsRowLabelledSoFar j m kept table done coming r near) where
  -- the cells read and the cells still to come fill the row
  pub still_to_come : length done + length coming ≡ m.region.cols
  still_to_come = omega (
    arith,
    w.reading.cells.is_line.wide,
    length-append done
        (coming ++ null_cell_without_label ∷ []),
    length_push coming null_cell_without_label,
  )

pub walked_inside : (j : Joining) (m : Grid) (kept : List (List ℕ)) (table : List ℕ)
    (done coming : List LabelledCell) (r : ℕ) (near : EarlierNeighbours)
    → IsRowLabelledSoFar j m kept table done coming r near
    → length done < m.region.cols → AreNeighbourLabelsInTable (length table)
    (neighbours_of_next_cell_in_row near coming)
walked_inside j m kept table done [] r near w c_in = absurd
    (let all = still_to_come j m kept table done [] r near w in omega arith)
walked_inside j m kept table done (a ∷ rest) r near w c_in = reading_inside j m table (done ++
    (a ∷ rest ++ null_cell_without_label ∷ [])) r (length done) near w.reading c_in
    (next_near j m kept table done a rest r near w c_in) (next_near_is j m kept table done a rest r near w c_in)

pub in_hand : (above : UnreadRowAbove) (line : List (LabelledCell × ℕ)) → HasCurrentCellUnlessRowEnded above line → 0 < length (unread_cells_of_row_above above line)
    → 0 < above.count
in_hand above line at some =
    ⊎_elim (λ e. absurd (
    let none : unread_cells_of_row_above above line ≡ [] = ap (λ (n : ℕ). replicate n above.cell
    ++ labelled_cells_of_runs
    (drop above.place line)) e ∙ ap labelled_cells_of_runs (drop_all above.place line (at e)) in
    let long = ap (length {A = LabelledCell}) none in omega arith))
    (λ ne. omega arith) (cases_eq above.count 0)

pub alike_less : (j : Joining) (above : UnreadRowAbove) (n s : ℕ) → NextCellsAboveAreEqual j above n → s ≤ n → 0 < s
    → NextCellsAboveAreEqual j above s
alike_less j above n s alike le some = (
  let most = alike.0 in omega arith,
  ⊎_elim (λ edges. inl edges) (⊎_elim (λ one. inr (inl (omega arith))) (λ lt. inr (inr (omega arith)))) alike.1,
)

-- after the cells with like neighbours above, the next neighbour above is the same
alike_after : (j : Joining) (above : UnreadRowAbove) (line : List (LabelledCell × ℕ)) (s : ℕ)
    → NextCellsAboveAreEqual j above (suc s) → (s ≡ 0) ⊎ ((j ≡ Edges) ⊎ (get_or (drop (suc s)
    (unread_cells_of_row_above above line)) 0 null_cell_without_label ≡ above.cell))
alike_after j above line s alike =
    ⊎_elim (λ edges. inr (inl edges))
    (⊎_elim (λ one. inl (omega arith))
    (λ lt. inr (inr (
    let n = above.count in
    let xs = labelled_cells_of_runs (drop above.place line) in
    let within : suc s ≤ length (replicate n above.cell) = omega (arith, length-replicate n above.cell) in
    let rest : drop (suc s) (unread_cells_of_row_above above line) ≡ replicate (n - suc s) above.cell
    ++ xs = drop-append-le
    (suc s) (replicate n above.cell) xs within
    ∙ ap (λ (l : List LabelledCell). l ++ xs) (drop-replicate (suc s) n above.cell) in
    let some : 0 < length (replicate (n - suc s) above.cell) = omega (
      arith,
      length-replicate
          (n - suc s) above.cell,
    ) in
    ap (λ (l : List LabelledCell). get_or l 0 null_cell_without_label) rest
    ∙ get_or_append_left (replicate (n - suc s) above.cell) xs null_cell_without_label 0 some
    ∙ get_or-replicate (n - suc s) 0 above.cell null_cell_without_label (omega arith)))))
    alike.1

pub blank_run_length_after_step : (j : Joining) (m : Grid) (kept : List (List ℕ)) (table : List ℕ)
    (done : List LabelledCell)
    (above : UnreadRowAbove) (line : List (LabelledCell × ℕ)) (r : ℕ) (near after : EarlierNeighbours) (step : ℕ)
    (new : List ℕ)
    (z : LabelledCell) → IsRowLabelledSoFar j m kept table done (unread_cells_of_row_above above line) r near → 0 < step
    → NextCellsAboveAreEqual j above step → length done + step ≤ m.region.cols
    → after ≡ neighbours_of_next_cell_in_row near
    (unread_cells_of_row_above above line) → IsCorrectLabelForNextCell j z.cell after table new z.label
    → ((k : ℕ) → k < step
    → z.cell ≡ cell_at_position m (position_at_row_and_column r (length done + k)))
    → IsRowLabelledSoFar j m kept new (done ++ replicate step z)
    (drop step (unread_cells_of_row_above above line)) r (record after { left = z })
blank_run_length_after_step j m kept table done above line r near after zero new z w some alike within moved next
    cell = absurd
    (omega arith)
blank_run_length_after_step j m kept table done above line r near after
    (suc s) new z w some alike within moved next cell =
    let coming : List LabelledCell = unread_cells_of_row_above above line in
    let rest : List LabelledCell = drop (suc s) coming in
    let a : LabelledCell = above.cell in
    let split : coming ≡ a ∷ (replicate s a ++ rest) = alike_first above.count (suc s) a (labelled_cells_of_runs
    (drop above.place line)) alike.0 in
    let before : IsRowLabelledSoFar j m kept table done (a ∷ (replicate s a ++ rest)) r near = subst (λ
    (l : List LabelledCell). IsRowLabelledSoFar j m kept table done l r near) split w in
    let c_in : length done < m.region.cols = omega arith in
    let moved_to : after ≡ next_near j m kept table done a (replicate s a ++ rest) r near before c_in = moved
    ∙ ap (neighbours_of_next_cell_in_row near) split in
    let place : length done + 0 ≡ length done = omega arith in
    let here : z.cell ≡ cell_at_position m (position_at_row_and_column r (length done)) = cell 0 (omega arith)
    ∙ ap (λ (k : ℕ). cell_at_position m (position_at_row_and_column r k)) place in
    let labels : List ℕ = before.reading.cells.labels in
    let beside = next_are_near j m kept table done a (replicate s a ++ rest) r near before c_in in
    let has_read = next m r (length done) labels here c_in before.reading.cells.count
    (subst (AreEarlierNeighboursOfCell m
    (length labels) (clump_label_at_position m labels) r (length done))
    (sym moved_to) beside) before.reading.cells.has_read in
    let one = walked_next j m kept table done a (replicate s a ++ rest) r near before c_in new z here has_read in
    let long = length_push done z in
    let all = walked_over j m kept new r (record (next_near j m kept table done a
    (replicate s a ++ rest) r near before c_in) { left = z }) s (done ++ z ∷ []) rest one (omega arith)
    (λ k lt. let at : length done + (k + 1) ≡ length (done ++ z ∷ []) + k = omega arith in cell (k + 1)
    (omega arith) ∙ ap (λ (i : ℕ). cell_at_position m (position_at_row_and_column r i)) at)
    (alike_after j above line s alike) in
    subst (λ (x : EarlierNeighbours). IsRowLabelledSoFar j m kept new (done
    ++ replicate (suc s) z) rest r (record x { left = z }))
    (sym moved_to)
    (subst (λ (l : List LabelledCell). IsRowLabelledSoFar j m kept new l rest r (record (next_near j m kept table done a
    (replicate s a ++ rest) r near before c_in) { left = z })) (append_assoc done (z ∷ []) (replicate s z)) all)

pub done_more : (xs : List LabelledCell) (p s : ℕ) (y z : LabelledCell) → (p ≡ 0) ⊎ (y ≡ z)
    → (xs ++ replicate p y) ++ replicate s z ≡ xs ++ replicate (p + s) z
done_more xs p s y z same =
    let one : replicate p y ≡ replicate p z = ⊎_elim (λ e. ap (λ (n : ℕ). replicate n y) e
    ∙ sym (ap (λ (n : ℕ). replicate n z) e)) (λ e. ap (replicate p) e) same in
    ap (λ (l : List LabelledCell). (xs ++ l) ++ replicate s z) one ∙ append_assoc xs (replicate p z) (replicate s z)
    ∙ ap (λ (l : List LabelledCell). xs ++ l) (replicate-append-replicate p s z)

pub same_label : (cell : CellValue) (old new : ℕ) → (cell ≡ None → old ≡ 4294967295) → (cell ≡ None
    → new ≡ 4294967295) → (IsSome cell → new ≡ old) → old ≡ new
same_label None old new old_none new_none same = old_none refl ∙ sym (new_none refl)
same_label (Some v) old new old_none new_none same = sym (same refl)

-- the length of the next runs is the length of the first run and of the others
pub run_ahead : (runs rest : List RunValue) (run : RunValue) → runs ≡ run ∷ rest
    → length (cells_of_runs runs) ≡ run.1 + length (cells_of_runs rest)
run_ahead runs rest run e = ap (λ (l : List RunValue). length (cells_of_runs l)) e
    ∙ length-append (replicate run.1 run.0) (cells_of_runs rest)
    ∙ ap (λ (n : ℕ). n + length (cells_of_runs rest)) (length-replicate run.1 run.0)

pub run_here : (m : Grid) (r at : ℕ) (runs rest : List RunValue) (run : RunValue) → runs ≡ run ∷ rest
    → drop at (row_at m r) ≡ cells_of_runs runs → (k : ℕ) → k < run.1
    → run.0 ≡ cell_at_position m (position_at_row_and_column r (at + k))
run_here m r at runs rest run e cells k lt =
    let out : drop at (row_at m r) ≡ replicate run.1 run.0 ++ cells_of_runs rest = cells ∙ ap cells_of_runs e in
    let inside : k < length (replicate run.1 run.0) = omega (arith, length-replicate run.1 run.0) in
    sym (get_or-replicate run.1 k run.0 None lt)
    ∙ sym (get_or_append_left (replicate run.1 run.0) (cells_of_runs rest) None k inside)
    ∙ ap (λ (l : List CellValue). get_or l k None) (sym out) ∙ get_or-drop at (row_at m r) k None

pub run_past : (at n : ℕ) (row rest : List CellValue) (x : CellValue) → drop at row ≡ replicate n x ++ rest
    → drop (at + n) row ≡ rest
run_past at n row rest x cells =
    sym (drop-drop n at row) ∙ ap (drop n) cells
    ∙ ap (λ (k : ℕ). drop k (replicate n x ++ rest)) (sym (length-replicate n x))
    ∙ drop-append_seam (replicate n x) rest

-- ---- reading rows

pub line_walked : (j : Joining) (m : Grid) (kept : List (List ℕ)) (table : List ℕ) (line : List LabelledCell) (r : ℕ)
    (near : EarlierNeighbours) → near.left.cell ≡ None → near.above.cell ≡ None
    → AreRowsLabelledAndStored j m kept table line r
    → AreCellsLabelledAndRowsStored j m kept table line r 0 near
line_walked j m kept table line r near left up h = record {
  reading = record {
    cells = h.cells;
    beside = beside_first m (length h.cells.labels)
        (clump_label_at_position m h.cells.labels) r near left up;
  };
  kept_are = h.kept_are;
}

pub walked_first : (j : Joining) (m : Grid) (kept : List (List ℕ)) (table : List ℕ) (above : UnreadRowAbove)
    (line : List (LabelledCell × ℕ)) (r : ℕ) (near : EarlierNeighbours)
    → unread_cells_of_row_above above line ≡ labelled_cells_of_runs line
    → near.left.cell ≡ None → near.above.cell ≡ None → AreRowsLabelledAsRuns j m kept table line r
    → IsRowLabelledSoFar j m kept table []
    (unread_cells_of_row_above above line) r near
walked_first j m kept table above line r near coming left up h =
    subst (λ (l : List LabelledCell). IsRowLabelledSoFar j m kept table [] l r near) (sym coming)
    (line_walked j m kept table (labelled_cells_of_runs line ++ null_cell_without_label ∷ []) r near left up h)

pub line_more : (runs : List (LabelledCell × ℕ)) (z : LabelledCell) (n : ℕ)
    → labelled_cells_of_runs (runs ++ (z, n) ∷ []) ≡ labelled_cells_of_runs runs ++ replicate n z
line_more runs z n = flat_map-append (λ (run : LabelledCell × ℕ). replicate run.1 run.0) runs ((z, n) ∷ [])
    ∙ ap (λ (l : List LabelledCell). labelled_cells_of_runs runs ++ l) (append-nil (replicate n z))

pub labels_more : (runs : List (ℕ × ℕ)) (l n : ℕ)
    → labels_of_cells_in_runs (runs ++ (l, n) ∷ []) ≡ labels_of_cells_in_runs runs ++ replicate n l
labels_more runs l n = flat_map-append (λ (run : ℕ × ℕ). replicate run.1 run.0) runs ((l, n) ∷ [])
    ∙ ap (λ (x : List ℕ). labels_of_cells_in_runs runs ++ x) (append-nil (replicate n l))

label_each : (n : ℕ) (z : LabelledCell) → replicate n z.label ≡ map (λ (x : LabelledCell). x.label) (replicate n z)
label_each zero z = refl
label_each (suc n) z = ap (λ (l : List ℕ). z.label ∷ l) (label_each n z)

pub same_more : (runs : List (ℕ × ℕ)) (line : List LabelledCell) (z : LabelledCell) (n : ℕ)
    → labels_of_cells_in_runs runs ≡ map (λ (x : LabelledCell). x.label) line
    → labels_of_cells_in_runs (runs ++ (z.label, n) ∷ []) ≡ map (λ (x : LabelledCell). x.label) (line ++ replicate n z)
same_more runs line z n same =
    labels_more runs z.label n ∙ ap (λ (l : List ℕ). l ++ replicate n z.label) same
    ∙ ap (λ (l : List ℕ). map (λ (x : LabelledCell). x.label) line ++ l) (label_each n z)
    ∙ sym (map-append (λ (x : LabelledCell). x.label) line (replicate n z))

-- the labels of one more row are kept
kept_more : (j : Joining) (m : Grid) (labels table : List ℕ) (kept : List (List ℕ)) (row : List ℕ)
    (done : List LabelledCell) (line : List LabelledCell) (r n : ℕ)
    → ((c : ℕ) → c < m.region.cols → get_or line c null_cell_without_label ≡ get_or done c null_cell_without_label)
    → n ≡ m.region.cols
    → length done ≡ m.region.cols → length labels ≡ r * m.region.cols + n → IsLineOfLabelledCells m (length labels)
    (clump_label_at_position m labels) r n line → length kept ≡ r → row ≡ map (λ
    (x : LabelledCell). x.label) done → All (λ (x : LabelledCell). x.cell ≡ None → x.label ≡ 4294967295) done
    → AreStoredLabelsOfRows m labels kept → AreStoredLabelsOfRows m labels (kept ++ row ∷ [])
kept_more j m labels table kept row done line r n is all wide count is_line long same nulls k =
    let more = length_push kept row in
    let Last : ℕ → Type 0 = λ s. s ≡ r in
    let last : get_or (kept ++ row ∷ []) r [] ≡ row = get_or_push kept row [] r long in
    let old : (s : ℕ) → s < r → get_or (kept ++ row ∷ []) s [] ≡ get_or kept s [] = λ s lt. get_or_append_left kept
    (row ∷ []) [] s (omega arith) in
    let row_wide : length row ≡ m.region.cols = ap (length {A = ℕ}) same
    ∙ length-map done (λ (x : LabelledCell). x.label) ∙ wide in
    let at : (c : ℕ) → c < m.region.cols
    → get_or row c 0 ≡ (get_or done c null_cell_without_label).label = λ c lt. ap (λ
    (l : List ℕ). get_or l c 0) same
    ∙ get_or_default (map (λ (x : LabelledCell). x.label) done) c 0 4294967295 (omega (
      arith,
      length-map done (λ
          (x : LabelledCell). x.label),
    )) ∙ get_or-map (λ (x : LabelledCell). x.label) done c null_cell_without_label in
    let here : (c : ℕ) → c < m.region.cols
    → IsLabelledCellOfMapOrNull m (length labels) (clump_label_at_position m labels) (IsPositionAtRowAndColumn r c)
    (get_or done c null_cell_without_label) = λ c lt.
    subst (IsLabelledCellOfMapOrNull m (length labels) (clump_label_at_position m labels)
    (IsPositionAtRowAndColumn r c)) (is c lt)
    (is_line.here c null_cell_without_label (omega arith)) in
    record {
      wide = λ s lt. by_row s lt (λ x. length x ≡ m.region.cols) (λ s_lt. k.wide s (omega arith))
          (λ _. row_wide);
      read = λ s c lt c_in. ⊎_elim (λ s_lt. k.read s c (omega arith) c_in)
          (λ ge. let e : s ≡ r = omega arith in let z = ap (λ (n : ℕ). n * m.region.cols) e in omega arith)
          (cases_lt s r);
      some = λ s c v lt c_in v_is. by_row s lt (λ x. get_or x c 0 ≡ clump_label_at_position m labels
          (position_at_row_and_column s c)) (λ s_lt. k.some s c v (omega arith) c_in v_is)
          (λ e. let v_here : cell_at_position m (position_at_row_and_column r c)
          ≡ Some v = ap (λ (n : ℕ). cell_at_position m
          (position_at_row_and_column n c)) (sym e) ∙ v_is in
          let x_is = (here c c_in).all (position_at_row_and_column r c) v (refl, refl) v_here in
          let t = (here c c_in).some v x_is in
          at c c_in ∙ t.3 ∙ ap (clump_label_at_position m labels) (same_position t.0 r c t.1.0 t.1.1)
          ∙ ap (λ (n : ℕ). clump_label_at_position m labels (position_at_row_and_column n c)) (sym e));
      null = λ s c lt c_in none. by_row s lt (λ x. get_or x c 0 ≡ 4294967295) (λ s_lt. k.null s c
          (omega arith) c_in none)
          (λ e. let none_here : cell_at_position m (position_at_row_and_column r c)
          ≡ None = ap (λ (n : ℕ). cell_at_position m
          (position_at_row_and_column n c)) (sym e) ∙ none in
          at c c_in ∙ All-get_or (λ (x : LabelledCell). x.cell ≡ None
          → x.label ≡ 4294967295) done c null_cell_without_label (omega arith) nulls (no_cell c (here c c_in) none_here
          (get_or done c null_cell_without_label).cell refl));
    }
  where
    by_row : (s : ℕ) → s < length (kept ++ row ∷ []) → (P : List ℕ → Type 0) → (s < r → P (get_or kept s []))
        → (s ≡ r → P row) → P (get_or (kept ++ row ∷ []) s [])
    by_row s lt P before here = ⊎_elim
        (λ less. subst P (sym (get_or_append_left kept (row ∷ []) [] s (omega arith))) (before less))
        (λ ge. let more = length_push kept row in let e : s ≡ r = omega arith in subst P (sym (ap (λ (n : ℕ). get_or
        (kept ++ row ∷ []) n []) e ∙ get_or_push kept row [] r long)) (here e))
        (cases_lt s r)

    no_cell : (c : ℕ) → IsLabelledCellOfMapOrNull m (length labels) (clump_label_at_position m labels)
        (IsPositionAtRowAndColumn r c)
        (get_or done c null_cell_without_label) → cell_at_position m (position_at_row_and_column r c) ≡ None
        → (y : CellValue)
        → (get_or done c null_cell_without_label).cell ≡ y → (get_or done c null_cell_without_label).cell ≡ None
    no_cell c h none None e = e
    no_cell c h none (Some v) e =
        let t = h.some v e in
        let both : None ≡ Some v = sym none ∙ ap (cell_at_position m) (sym (same_position t.0 r c t.1.0 t.1.1))
        ∙ t.2 in cc

-- after a line was read to its end, its labels are kept
pub line_kept : (j : Joining) (m : Grid) (kept : List (List ℕ)) (table : List ℕ) (line : List LabelledCell) (r c : ℕ)
    (near : EarlierNeighbours) (row : List ℕ) (done : List LabelledCell)
    → AreCellsLabelledAndRowsStored j m kept table line r c near → c ≡ m.region.cols
    → ((k : ℕ) → k < m.region.cols → get_or line k null_cell_without_label ≡ get_or done k null_cell_without_label)
    → length done ≡ m.region.cols → length kept ≡ r → row ≡ map (λ (x : LabelledCell). x.label) done
    → All (λ (x : LabelledCell). x.cell ≡ None → x.label ≡ 4294967295) done
    → AreRowsLabelledAndStored j m (kept ++ row ∷ []) table line (r + 1)
line_kept j m kept table line r c near row done w all is wide long same nulls = record {
  cells = cells_down j m table line r c all w.reading.cells;
  kept_are = subst (λ (l : List ℕ). AreStoredLabelsOfRows m l (kept ++ row ∷ []))
      (sym (cells_down_labels j m table line r c all w.reading.cells))
      (kept_more j m w.reading.cells.labels table kept row done line r c is all wide w.reading.cells.count
      w.reading.cells.is_line long same nulls w.kept_are);
}

pub row_kept : (j : Joining) (m : Grid) (kept : List (List ℕ)) (table : List ℕ) (below : List (LabelledCell × ℕ))
    (coming : List LabelledCell) (r : ℕ) (near : EarlierNeighbours) (row : List ℕ)
    → IsRowLabelledSoFar j m kept table (labelled_cells_of_runs below) coming r near
    → length (labelled_cells_of_runs below) ≡ m.region.cols
    → length kept ≡ r → row ≡ map (λ (x : LabelledCell). x.label) (labelled_cells_of_runs below)
    → All (λ (x : LabelledCell). x.cell ≡ None → x.label ≡ 4294967295) (labelled_cells_of_runs below)
    → AreRowsLabelledAsRuns j m (kept ++ row ∷ []) table below (r + 1)
row_kept j m kept table below coming r near row w wide long same nulls =
    let all = still_to_come j m kept table (labelled_cells_of_runs below) coming r near w in
    let none : coming ≡ [] = nil_from_length coming (omega arith) in
    line_kept j m kept table (labelled_cells_of_runs below ++ null_cell_without_label
    ∷ []) r (length (labelled_cells_of_runs below)) near row
    (labelled_cells_of_runs below) (subst (λ
    (l : List LabelledCell). IsRowLabelledSoFar j m kept table (labelled_cells_of_runs below) l r near) none w) wide
    (λ k lt. get_or_append_left (labelled_cells_of_runs below) (null_cell_without_label
    ∷ []) null_cell_without_label k (omega arith)) wide long same
    nulls

-- before the first row, no labels are kept
pub kept_none : (m : Grid) (labels : List ℕ) → AreStoredLabelsOfRows m labels []
kept_none m labels = record {
  wide = λ r lt. absurd (omega arith);
  read = λ r c lt. absurd (omega arith);
  some = λ r c v lt. absurd (omega arith);
  null = λ r c lt. absurd (omega arith);
}

-- before the first row, the row above is null
pub runs_first : (j : Joining) (m : Grid) (x : LabelledCell) (n : ℕ) → RowsFillRegion m.region m.rows
    → x ≡ null_cell_without_label
    → n ≡ m.region.cols → AreRowsLabelledAsRuns j m [] [] ((x, n) ∷ []) 0
runs_first j m x n filled is wide =
    let all : labelled_cells_of_runs ((x, n) ∷ []) ++ null_cell_without_label ∷ []
    ≡ replicate (m.region.cols + 1) null_cell_without_label =
    ap (λ (l : List LabelledCell). l ++ null_cell_without_label ∷ []) (append-nil (replicate n x))
    ∙ ap (λ (y : LabelledCell). replicate n y ++ null_cell_without_label ∷ []) is
    ∙ replicate-append-replicate n 1 null_cell_without_label
    ∙ ap (λ (k : ℕ). replicate (k + 1) null_cell_without_label) wide in
    record {
      cells = cells_first j m (labelled_cells_of_runs ((x, n) ∷ []) ++ null_cell_without_label
          ∷ []) null_cell_without_label filled all refl;
      kept_are = kept_none m _;
    }
