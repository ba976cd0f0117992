-- The kept labels are replaced by numbers.
use Rattle.std.proofs.Common.{◌≡◌, ℕ, zero, suc, pos, ◌<◌, ◌≤◌, List, [], ◌∷◌, ◌++◌, All, Some, None, length}
use Rattle.std.proofs.Common.{replicate, map, get_or, refl, ap, sym, ◌∙◌, arith, subst}
use Rattle.std.proofs.lemmas.List.{length-map, map-append, get_or_default, get_or_past}
use Rattle.std.proofs.lemmas.List.Elements.{All-from_get_or, All-map}
use Rattle.std.proofs.Math.ListN.{get_or-map}
use Rattle.cell_core.specs.Grid.{Grid, CellValue, RowsFillRegion, empty_category_labels}
use Rattle.cell_clumps.specs.declared.clump.Joining.{Joining}
use Rattle.cell_clumps.specs.Clumps.{cell_at_position, IsClumpMapOf}
use Rattle.cell_clumps.specs.parts.CellPlaces.{position_at_row_and_column}
use Rattle.cell_clumps.specs.parts.ClumpsRead.{clump_label_at_position}
use Rattle.cell_clumps.specs.parts.ClumpNumbers.{AreAllLabelsNumbered, cell_of_clump_map}
use Rattle.cell_clumps.specs.parts.LabelTables.{IsLabelTableOfMap}
use Rattle.cell_clumps.specs.parts.RunsOfLabels.{AreStoredLabelsOfRows, AreLabelTableAndRowLabelsOfMap}
use Rattle.cell_clumps.specs.parts.RunsOfLabels.{labels_of_cells_in_runs, clump_number_cell_of_label}
use Rattle.cell_clumps.specs.parts.RunsOfLabels.{clump_numbers_of_cells_in_runs}
use Rattle.cell_clumps.proofs.ClumpLemmas.{clumping}
use Rattle.cell_clumps.proofs.NearLemmas.{label_below}
use Rattle.cell_clumps.proofs.NumberLemmas.{cell_null, cell_numbered, count_most, number_is, read_all}

number_each : (table : List ℕ) (n l : ℕ) → replicate n (clump_number_cell_of_label table l)
    ≡ map (clump_number_cell_of_label table) (replicate n l)
number_each table zero l = refl
number_each table (suc n) l = ap (λ (xs : List CellValue). clump_number_cell_of_label table l
    ∷ xs) (number_each table n l)

pub numbers_are : (table : List ℕ) (runs : List (ℕ × ℕ))
    → clump_numbers_of_cells_in_runs table runs ≡ map (clump_number_cell_of_label table) (labels_of_cells_in_runs runs)
numbers_are table [] = refl
numbers_are table (run ∷ runs) =
    ap (λ (xs : List CellValue). replicate run.1 (clump_number_cell_of_label table run.0)
    ++ xs) (numbers_are table runs)
    ∙ ap (λ (xs : List CellValue). xs ++ map (clump_number_cell_of_label table) (labels_of_cells_in_runs runs))
    (number_each table run.1 run.0)
    ∙ sym (map-append (clump_number_cell_of_label table) (replicate run.1 run.0) (labels_of_cells_in_runs runs))

pub numbers_wide : (table : List ℕ) (runs : List (ℕ × ℕ))
    → length (clump_numbers_of_cells_in_runs table runs) ≡ length (labels_of_cells_in_runs runs)
numbers_wide table runs = ap (length {A = CellValue}) (numbers_are table runs)
    ∙ length-map (labels_of_cells_in_runs runs) (clump_number_cell_of_label table)

module _ (j : Joining) (m : Grid) (table : List ℕ) (h : IsLabelTableOfMap j m table) (numbers : List ℕ)
    (n : AreAllLabelsNumbered j m table h numbers) where
  pub numbers_small : All (λ (number : ℕ). number < 2147483648) numbers
  numbers_small = All-from_get_or (λ (number : ℕ). number < 2147483648) numbers 0 (λ k lt.
      let inside : k < length table = omega (arith, n.long) in
      let is = n.done k inside in
      let low = h.has_read.read.sound.reports.low k inside in
      let most = count_most j m table (suc (h.has_read.open_of k)) in
      omega (arith, n.short))

  pub row_written : (kept : List (List ℕ)) → AreStoredLabelsOfRows m h.labels kept → (r c : ℕ) → r < length kept
      → c < m.region.cols → get_or (map (clump_number_cell_of_label numbers) (get_or kept r [])) c None
      ≡ cell_of_clump_map j m table h
      (position_at_row_and_column r c)
  row_written kept k r c lt c_in =
      let row : List ℕ = get_or kept r [] in
      let inside : c < length (map (clump_number_cell_of_label numbers) row) = omega (
        arith,
        length-map row (clump_number_cell_of_label numbers),
        k.wide r lt,
      ) in
      get_or_default (map (clump_number_cell_of_label numbers) row) c None (clump_number_cell_of_label numbers 0) inside
      ∙ get_or-map (clump_number_cell_of_label numbers) row c 0
      ∙ by_cell (cell_at_position m (position_at_row_and_column r c)) refl
    where
      by_cell : (y : CellValue) → cell_at_position m (position_at_row_and_column r c) ≡ y
          → clump_number_cell_of_label numbers (get_or (get_or kept r []) c 0)
          ≡ cell_of_clump_map j m table h (position_at_row_and_column r c)
      by_cell None e =
          let past : length (map (λ (x : ℕ). Some (pos x)) numbers) ≤ 4294967295 = omega (
            arith,
            length-map numbers
                (λ (x : ℕ). Some (pos x)),
            n.long,
            n.short,
          ) in
          ap (clump_number_cell_of_label numbers) (k.null r c lt c_in e)
          ∙ get_or_past (map (λ (x : ℕ). Some (pos x)) numbers) 4294967295 None past
          ∙ sym (cell_null j m table h (position_at_row_and_column r c) e)
      by_cell (Some v) e =
          let l : ℕ = clump_label_at_position m h.labels (position_at_row_and_column r c) in
          let below = label_below j m table h.labels h.has_read.open_of h.has_read.read
          (position_at_row_and_column r c) v e
          (read_all j m table h (position_at_row_and_column r c) v e) in
          let within : l < length (map (λ (x : ℕ). Some (pos x)) numbers) = omega (
            arith,
            length-map numbers (λ
                (x : ℕ). Some (pos x)),
            n.long,
          ) in
          ap (clump_number_cell_of_label numbers) (k.some r c v lt c_in e)
          ∙ get_or_default (map (λ (x : ℕ). Some (pos x)) numbers) l None (Some (pos 0)) within
          ∙ get_or-map (λ (x : ℕ). Some (pos x)) numbers l 0
          ∙ ap (λ (x : ℕ). Some (pos x)) (n.done l below ∙ sym (number_is j m table h (position_at_row_and_column r c)))
          ∙ sym (cell_numbered j m table h (position_at_row_and_column r c) v e)

pub rows_wide : (m : Grid) (labels : List ℕ) (kept : List (List ℕ)) → AreStoredLabelsOfRows m labels kept
    → All (λ (row : List ℕ). length row ≡ m.region.cols) kept
rows_wide m labels kept k = All-from_get_or (λ (row : List ℕ). length row ≡ m.region.cols) kept [] k.wide

pub made_clumping : (j : Joining) (m : Grid) (table : List ℕ) (kept : List (List ℕ))
    (runs : AreLabelTableAndRowLabelsOfMap j m table kept) (numbers : List ℕ)
    → AreAllLabelsNumbered j m table runs.labels numbers
    → (made : Grid) → made ≡ record {
      region = m.region;
      rows = map
          (map (clump_number_cell_of_label numbers)) kept;
      labels = empty_category_labels;
    } → IsClumpMapOf j m made
made_clumping j m table kept runs numbers n made is =
    clumping j m table runs.labels made (ap (λ (g : Grid). g.region) is) (ap (λ (g : Grid). g.labels) is)
    (subst (λ (g : Grid). RowsFillRegion g.region g.rows) (sym is) (record {
      count = length-map kept (map (clump_number_cell_of_label numbers)) ∙ runs.count;
      width = All-map (λ (row : List CellValue). length row ≡ m.region.cols)
          (map (clump_number_cell_of_label numbers)) kept
          (All-from_get_or (λ (row : List ℕ). length (map (clump_number_cell_of_label numbers) row)
          ≡ m.region.cols) kept []
          (λ r lt. length-map (get_or kept r []) (clump_number_cell_of_label numbers) ∙ runs.kept_are.wide r lt));
    }))
    (λ r c r_in c_in. ap (λ (g : Grid). get_or (get_or g.rows r []) c None) is
    ∙ ap (λ (row : List CellValue). get_or row c None) (get_or-map (map (clump_number_cell_of_label numbers)) kept r [])
    ∙ row_written j m table runs.labels numbers n kept runs.kept_are r c (let all = runs.count in omega arith) c_in)
