-- The runs of a row of cells.
use Rattle.std.proofs.Common.{◌≡◌, ◌≢◌, ℕ, suc, Bool, true, false, ◌+◌, ◌-◌, ◌<◌, List, [], ◌∷◌, ◌++◌, length, take, drop, replicate, get_or, All, refl, ap, sym, ◌∙◌, arith, add-one, take_all, length-drop, eqb, pos, Some, None, Fits, w8, rules}
use Rattle.std.specs.Prelude.{if◌then◌else◌}
use Rattle.std.proofs.Math.Seq.{drop-cons}
use Rattle.std.proofs.Math.Facts.{Fits-lt-pow}
use Rattle.std.proofs.lemmas.List.{get_or_default}
use Rattle.std.proofs.lemmas.List.Elements.{All-cons, All-map, All-nil}
use Rattle.cell_core_values.specs.Cell.{cell_eq, cell_eq-Decides, IsNullOrCategory}
use Rattle.cell_core_values.specs.SmallCells.{cell_of_stored_byte, cells_of_bytes}
use Rattle.cell_core.specs.Grid.{CellValue}
use Rattle.cell_core.specs.Runs.{RunValue, cells_of_runs, AdjacentRunsDiffer, AreMaximalRuns}
use Rattle.cell_core.specs.parts.RowForms.{alike, count_of_run_starts, runs_with_cell_in_front, runs_of_cells}
use Rattle.cell_core.specs.parts.RowForms.{single_cells_as_runs}

module _ (x : CellValue) where
  cells_of_runs-with : (runs : List RunValue) → cells_of_runs (runs_with_cell_in_front x runs) ≡ x ∷ cells_of_runs runs
  cells_of_runs-with [] = refl
  cells_of_runs-with ((y, n) ∷ runs) = by-test (cell_eq y x) refl
    where
      by-test : (b : Bool) → cell_eq y x ≡ b → cells_of_runs (if b then (x, n + 1) ∷ runs else (x, 1) ∷ (y, n) ∷ runs) ≡ x ∷ cells_of_runs ((y, n) ∷ runs)
      by-test true same = ap (λ (k : ℕ). replicate k x ++ cells_of_runs runs) (add-one n) ∙ ap (λ (z : CellValue). x ∷ (replicate n z ++ cells_of_runs runs)) (sym ((cell_eq-Decides y x).0 same))
      by-test false other = refl

  apart-with : (y : CellValue) (n m : ℕ) (runs : List RunValue) → y ≡ x → AdjacentRunsDiffer ((y, n) ∷ runs) → AdjacentRunsDiffer ((x, m) ∷ runs)
  apart-with y n m [] same apart = tt
  apart-with y n m (run ∷ runs) same apart = (λ e. apart.0 (same ∙ e), apart.1)

  AreMaximalRuns-with : (runs : List RunValue) → AreMaximalRuns runs → AreMaximalRuns (runs_with_cell_in_front x runs)
  AreMaximalRuns-with [] are = record { lengths = All-cons (λ (run : RunValue). 0 < run.1) (x, 1) [] (omega arith) are.lengths; apart = tt }
  AreMaximalRuns-with ((y, n) ∷ runs) are = by-test (cell_eq y x) refl
    where
      others : All (λ (run : RunValue). 0 < run.1) runs
      others i d within = are.lengths (suc i) d (omega arith)

      by-test : (b : Bool) → cell_eq y x ≡ b → AreMaximalRuns (if b then (x, n + 1) ∷ runs else (x, 1) ∷ (y, n) ∷ runs)
      by-test true same = record {
        lengths = All-cons (λ (run : RunValue). 0 < run.1) (x, n + 1) runs (omega arith) others;
        apart = apart-with y n (n + 1) runs ((cell_eq-Decides y x).0 same) are.apart;
      }
      by-test false other =
          let differs : x ≢ y = λ e. let same = (cell_eq-Decides y x).1 (sym e) in cc in
          record {
            lengths = All-cons (λ (run : RunValue). 0 < run.1) (x, 1) ((y, n) ∷ runs) (omega arith) are.lengths;
            apart = (differs, are.apart);
          }

-- writing out the runs of cells gives the cells
pub cells_of_runs-runs_of_cells : (cells : List CellValue) → cells_of_runs (runs_of_cells cells) ≡ cells
cells_of_runs-runs_of_cells [] = refl
cells_of_runs-runs_of_cells (x ∷ cells) = cells_of_runs-with x (runs_of_cells cells) ∙ ap (λ (l : List CellValue). x ∷ l) (cells_of_runs-runs_of_cells cells)

pub AreMaximalRuns-runs_of_cells : (cells : List CellValue) → AreMaximalRuns (runs_of_cells cells)
AreMaximalRuns-runs_of_cells [] = record { lengths = All-nil (λ (run : RunValue). 0 < run.1); apart = tt }
AreMaximalRuns-runs_of_cells (x ∷ cells) = AreMaximalRuns-with x (runs_of_cells cells)
    (AreMaximalRuns-runs_of_cells cells)

-- writing out the cells one by one, as runs of length 1, gives the cells
pub cells_of_runs-single_cells_as_runs : (cells : List CellValue)
    → cells_of_runs (single_cells_as_runs cells) ≡ cells
cells_of_runs-single_cells_as_runs [] = refl
cells_of_runs-single_cells_as_runs (x ∷ cells) =
    ap (λ (l : List CellValue). x ∷ l) (cells_of_runs-single_cells_as_runs cells)

pub some-single_cells_as_runs : (cells : List CellValue) → All (λ run. 0 < run.1) (single_cells_as_runs cells)
some-single_cells_as_runs [] = All-nil (λ (run : RunValue). 0 < run.1)
some-single_cells_as_runs (x ∷ cells) =
    All-cons (λ (run : RunValue). 0 < run.1) (x, 1) (single_cells_as_runs cells) (omega arith)
    (some-single_cells_as_runs cells)

-- the runs of cells are the first run and the runs of the cells after it
pub runs_of_cells-next : (x : CellValue) (cells : List CellValue) → runs_of_cells (x ∷ cells) ≡ (x, suc (alike x cells)) ∷ runs_of_cells (drop (alike x cells) cells)
runs_of_cells-next x [] = refl
runs_of_cells-next x (y ∷ cells) = let first = runs_of_cells-next y cells in ap (runs_with_cell_in_front x) first ∙ by-test (cell_eq y x) refl first
  where
    after : CellValue → List RunValue
    after z = runs_of_cells (drop (alike z cells) cells)

    by-test : (b : Bool) → cell_eq y x ≡ b → runs_of_cells (y ∷ cells) ≡ (y, suc (alike y cells)) ∷ after y → (if b then (x, suc (alike y cells) + 1) ∷ after y else (x, 1) ∷ (y, suc (alike y cells)) ∷ after y) ≡ (x, suc (if b then suc (alike x cells) else 0)) ∷ runs_of_cells (drop (if b then suc (alike x cells) else 0) (y ∷ cells))
    by-test true same next = ap (λ (k : ℕ). (x, k) ∷ after y) (add-one (suc (alike y cells))) ∙ ap (λ (z : CellValue). (x, suc (suc (alike z cells))) ∷ after z) ((cell_eq-Decides y x).0 same)
    by-test false other next = ap (λ (l : List RunValue). (x, 1) ∷ l) (sym next)

-- the runs of cells are the first run and the runs of the cells after it, given as a slice
pub runs_of_cells-rest : (x : CellValue) (cells : List CellValue) (n : ℕ) → n ≡ alike x cells → runs_of_cells (x ∷ cells) ≡ (x, 1 + n) ∷ runs_of_cells (take (length cells - n) (drop n cells))
runs_of_cells-rest x cells n same =
    let whole : take (length cells - n) (drop n cells) ≡ drop n cells = take_all (length cells - n) (drop n cells) (omega (arith, length-drop n cells)) in
    runs_of_cells-next x cells ∙ ap (λ (k : ℕ). (x, suc k) ∷ runs_of_cells (drop k cells)) (sym same) ∙ ap (λ (k : ℕ). (x, k) ∷ runs_of_cells (drop n cells)) (sym (add-one n) ∙ omega arith) ∙ ap (λ (l : List CellValue). (x, 1 + n) ∷ runs_of_cells l) (sym whole)

-- there is one run more than runs that begin after the first cell
pub length-runs_of_cells : (x : CellValue) (cells : List CellValue)
    → length (runs_of_cells (x ∷ cells)) ≡ suc (count_of_run_starts x cells)
length-runs_of_cells x [] = refl
length-runs_of_cells x (y ∷ cells) = ap (λ (l : List RunValue). length (runs_with_cell_in_front x l)) (runs_of_cells-next y cells) ∙ by-test (cell_eq y x) (ap length (sym (runs_of_cells-next y cells)) ∙ length-runs_of_cells y cells)
  where
    after : List RunValue
    after = runs_of_cells (drop (alike y cells) cells)

    by-test : (b : Bool) → suc (length after) ≡ suc (count_of_run_starts y cells) → length (if b then (x, suc (alike y cells) + 1) ∷ after else (x, 1) ∷ (y, suc (alike y cells)) ∷ after) ≡ suc (if b then count_of_run_starts y cells else suc (count_of_run_starts y cells))
    by-test true others = others
    by-test false others = ap suc others

-- a row that is not empty has one run more than breaks after its first cell
pub breaks-whole : (cells : List CellValue) (x : CellValue) → 0 < length cells → x ≡ get_or cells 0 x → 1 + count_of_run_starts x cells ≡ length (runs_of_cells cells)
breaks-whole [] x some read = absurd (omega (arith, some))
breaks-whole (y ∷ cells) x some read =
    let itself : cell_eq y y ≡ true = (cell_eq-Decides y y).1 refl in
    let other : count_of_run_starts x (y ∷ cells) ≡ count_of_run_starts y cells = ap (λ (z : CellValue). count_of_run_starts z (y ∷ cells)) read ∙ ap (λ (b : Bool). if b then count_of_run_starts y cells else suc (count_of_run_starts y cells)) itself in
    omega (arith, other, length-runs_of_cells y cells)

module _ (x y : CellValue) (cells : List CellValue) (i : ℕ) (within : i < length cells) (read : y ≡ get_or cells i y) where
  next-cell : drop i cells ≡ y ∷ drop (i + 1) cells
  next-cell = rw add-one (drop-cons cells i y within ∙ ap (λ z. z ∷ drop (suc i) cells) (sym read))

  -- an equal cell continues the run, and another cell begins a run
  pub breaks-none : cell_eq y x ≡ true → count_of_run_starts x (drop i cells)
      ≡ count_of_run_starts y (drop (i + 1) cells)
  breaks-none same = ap (count_of_run_starts x) next-cell ∙ ap (λ (b : Bool). if b then count_of_run_starts y (drop (i + 1) cells) else suc (count_of_run_starts y (drop (i + 1) cells))) same

  pub breaks-one : cell_eq y x ≡ false → count_of_run_starts x (drop i cells)
      ≡ suc (count_of_run_starts y (drop (i + 1) cells))
  breaks-one other = ap (count_of_run_starts x) next-cell ∙ ap (λ (b : Bool). if b then count_of_run_starts y (drop (i + 1) cells) else suc (count_of_run_starts y (drop (i + 1) cells))) other

-- each byte stands for a valid cell
byte_is : (b : ℕ) → b < 256 → IsNullOrCategory (cell_of_stored_byte b)
byte_is b few = by (eqb b 255)
  where
    by : (n : Bool) → IsNullOrCategory (if n then None else Some (pos b))
    by true = tt
    by false = search (rules, few)

pub all_cells : (bytes : List ℕ) → ((i : ℕ) → Fits w8 (get_or bytes i 0)) → All IsNullOrCategory (cells_of_bytes bytes)
all_cells bytes fits = All-map IsNullOrCategory cell_of_stored_byte bytes
    (λ i d within. rw (sym (get_or_default bytes i 0 d within))
    (byte_is (get_or bytes i 0) (Fits-lt-pow (fits i))))
