-- Bytes are equal exactly if their cells are, and 64 bytes are compared at once with the bytes before them.
use Rattle.std.proofs.Common.{◌≡◌, ◌<◌, ◌≤◌, ◌+◌, ◌-◌, ◌/◌, ◌%◌, ◌^◌, ℕ, zero, suc, List, [], ◌∷◌, ◌++◌, length, take}
use Rattle.std.proofs.Common.{drop, get_or, Bool, true, false, not, cond, eqb, refl, ap, sym, ◌∙◌, subst, arith}
use Rattle.std.proofs.Common.{add-one, length-take, length-drop}
use Rattle.std.specs.Prelude.{if◌then◌else◌}
use Rattle.std.specs.Int.RustNames.{count_ones}
use Rattle.std.proofs.Math.Seq.{drop-cons}
use Rattle.std.proofs.lemmas.Bool.{eqb-true, eq-eqb}
use Rattle.std.proofs.lemmas.List.{get_or-map, get_or-take, get_or-drop, get_or_default, length-map, map-append}
use Rattle.std.proofs.lemmas.List.{take-map, drop-map, drop-drop, take-append-drop, take_rest}
use Rattle.std.proofs.lemmas.Simd.{mask_l-mod, ones-mask_l_cons}
use Rattle.cell_core_values.specs.Cell.{cell_eq, cell_eq-Decides}
use Rattle.cell_core_values.specs.SmallCells.{cell_of_stored_byte, cells_of_bytes}
use Rattle.cell_core.specs.Grid.{CellValue}
use Rattle.cell_core.specs.Runs.{RunValue}
use Rattle.cell_core.specs.parts.RowForms.{alike, count_of_run_starts, run_start_marks, run_start_mark_bits}
use Rattle.cell_core.specs.parts.RowForms.{cells_after_first_byte, runs_of_cells, runs_continuing_first_run}
use Rattle.cell_core.specs.parts.RowForms.{runs_from_nth_cell_of_run}
use Rattle.cell_core.proofs.RowLemmas.{length-runs_of_cells}
use Rattle.cell_core.proofs.MarkLemmas.{length-marks, run_begins, first-below, none-left, bits-next, runs-next}
use Rattle.cell_core.proofs.MarkLemmas.{runs-end}
use lib.Count.{count_trailing_zeros}
use lib.Lanes.{mask_l, zip2}

one_byte : (a b : ℕ) → cell_of_stored_byte a ≡ cell_of_stored_byte b → a ≡ b
one_byte a b same = by (eqb a 255) (eqb b 255) refl refl
  where
    by : (n m : Bool) → eqb a 255 ≡ n → eqb b 255 ≡ m → a ≡ b
    by true true n m = eqb-true a 255 n ∙ sym (eqb-true b 255 m)
    by true false n m = cc
    by false true n m = cc
    by false false n m = cc

pub cells-same : (a b : ℕ) → a ≡ b → cell_eq (cell_of_stored_byte a) (cell_of_stored_byte b) ≡ true
cells-same a b same = (cell_eq-Decides (cell_of_stored_byte a) (cell_of_stored_byte b)).1 (ap cell_of_stored_byte same)

pub cells-apart : (a b : ℕ) → eqb a b ≡ false → cell_eq (cell_of_stored_byte a) (cell_of_stored_byte b) ≡ false
cells-apart a b other = by (cell_eq (cell_of_stored_byte a) (cell_of_stored_byte b)) refl
  where
    by : (n : Bool) → cell_eq (cell_of_stored_byte a) (cell_of_stored_byte b) ≡ n → n ≡ false
    by false n = refl
    by true n = sym (eq-eqb a b (one_byte a b ((cell_eq-Decides (cell_of_stored_byte a)
        (cell_of_stored_byte b)).0 n))) ∙ other

-- the byte at a place stands for the cell at that place
pub byte_at : (bytes : List ℕ) (i b : ℕ) → i < length bytes → b ≡ get_or bytes i b
    → cell_of_stored_byte b ≡ get_or (cells_of_bytes bytes) i (cell_of_stored_byte b)
byte_at bytes i b within is = ap cell_of_stored_byte is ∙ sym (get_or-map cell_of_stored_byte bytes i b
    (cell_of_stored_byte b) within)

-- the number of mark bits is the number of runs that begin
ones-marks : (x : CellValue) (cells : List CellValue) → count_ones (run_start_mark_bits x cells)
    ≡ count_of_run_starts x cells
unfolding count_ones
ones-marks x [] = refl
ones-marks x (y ∷ cells) = ones-mask_l_cons (not (cell_eq y x)) (run_start_marks y cells)
    ∙ by (cell_eq y x) (ones-marks y cells)
  where
    by : (b : Bool) → count_ones (run_start_mark_bits y cells) ≡ count_of_run_starts y cells
        → cond (not b) 1 0 + count_ones (run_start_mark_bits y cells)
        ≡ (if b then count_of_run_starts y cells else suc (count_of_run_starts y cells))
    by true e = omega (arith, e)
    by false e = omega (arith, e)

-- the runs that begin in the first n cells and the runs from there on are all the runs
runs-after : (x : CellValue) (cells : List CellValue) (n : ℕ) → n ≤ length cells
    → count_of_run_starts x (take n cells) + length (runs_of_cells (drop n (x ∷ cells)))
    ≡ length (runs_of_cells (x ∷ cells))
runs-after x cells zero few = omega arith
runs-after x [] (suc n) few = absurd (omega arith)
runs-after x (y ∷ cells) (suc n) few =
    by (cell_eq y x) (runs-after y cells n (omega arith) ∙ length-runs_of_cells y cells)
    ∙ sym (length-runs_of_cells x (y ∷ cells))
  where
    rest : ℕ
    rest = length (runs_of_cells (drop n (y ∷ cells)))

    by : (b : Bool) → count_of_run_starts y (take n cells) + rest ≡ suc (count_of_run_starts y cells)
        → (if b then count_of_run_starts y (take n cells) else suc (count_of_run_starts y (take n cells))) + rest
        ≡ suc (if b then count_of_run_starts y cells else suc (count_of_run_starts y cells))
    by true e = e
    by false e = omega (arith, e)

breaks-few : (x : CellValue) (cells : List CellValue) → count_of_run_starts x cells ≤ length cells
breaks-few x [] = omega arith
breaks-few x (y ∷ cells) = by (cell_eq y x) (breaks-few y cells)
  where
    by : (b : Bool) → count_of_run_starts y cells ≤ length cells
        → (if b then count_of_run_starts y cells else suc (count_of_run_starts y cells)) ≤ suc (length cells)
    by true few = omega (arith, few)
    by false few = omega (arith, few)

pub runs-few : (bytes : List ℕ) → length (runs_of_cells (cells_of_bytes bytes)) ≤ length bytes
runs-few [] = omega arith
runs-few (b ∷ bytes) =
    omega (
      arith,
      length-runs_of_cells (cell_of_stored_byte b) (cells_of_bytes bytes),
      breaks-few (cell_of_stored_byte b) (cells_of_bytes bytes),
      length-map bytes cell_of_stored_byte,
    )

apart-bytes : (a b : ℕ) → not (eqb a b) ≡ not (cell_eq (cell_of_stored_byte a) (cell_of_stored_byte b))
apart-bytes a b = by (eqb a b) refl
  where
    by : (n : Bool) → eqb a b ≡ n → not n ≡ not (cell_eq (cell_of_stored_byte a) (cell_of_stored_byte b))
    by true same = ap not (sym (cells-same a b (eqb-true a b same)))
    by false other = ap not (sym (cells-apart a b other))

abbrev differ : ℕ → ℕ → Bool
differ a b = not (eqb a b)

byte-marks : (b : ℕ) (bytes : List ℕ) (n : ℕ) → n ≤ length bytes
    → zip2 differ (take n bytes) (take n (b ∷ bytes)) ≡ run_start_marks (cell_of_stored_byte b)
    (cells_of_bytes (take n bytes))
byte-marks b bytes zero few = refl
byte-marks b [] (suc n) few = absurd (omega arith)
byte-marks b (c ∷ bytes) (suc n) few =
    ap (λ (m : Bool). m ∷ zip2 differ (take n bytes) (take n (c ∷ bytes))) (apart-bytes c b)
    ∙ ap (λ (ms : List Bool). not (cell_eq (cell_of_stored_byte c) (cell_of_stored_byte b))
    ∷ ms) (byte-marks c bytes n (omega arith))

-- if all cells are alike, each cell equals the given one
alike-each : (x : CellValue) (cells : List CellValue) (k : ℕ) (d : CellValue) → alike x cells ≡ length cells
    → k < length cells → get_or cells k d ≡ x
alike-each x [] k d all within = absurd (omega arith)
alike-each x (y ∷ cells) zero d all within = by (cell_eq y x) refl all
  where
    by : (b : Bool) → cell_eq y x ≡ b → (if b then suc (alike x cells) else 0) ≡ suc (length cells) → y ≡ x
    by true same e = (cell_eq-Decides y x).0 same
    by false other e = absurd (omega (arith, e))
alike-each x (y ∷ cells) (suc k) d all within = by (cell_eq y x) (λ e. alike-each x cells k d e (omega arith)) all
  where
    by : (b : Bool) → (alike x cells ≡ length cells → get_or cells k d ≡ x) → (if b then suc (alike x cells) else 0)
        ≡ suc (length cells) → get_or cells k d ≡ x
    by true each e = each (omega (arith, e))
    by false each e = absurd (omega (arith, e))

-- the first cell begins a run
pub runs_from_nth_cell_of_run-one : (cells : List CellValue) → runs_from_nth_cell_of_run 1 cells ≡ runs_of_cells cells
runs_from_nth_cell_of_run-one [] = refl
runs_from_nth_cell_of_run-one (x ∷ cells) = sym (run_begins x cells)

pub byte-mask : (bytes : List ℕ) → 64 < length bytes
    → mask_l (zip2 differ (take 64 (drop 1 bytes)) (take 64 bytes)) % 2 ^ 64
    ≡ run_start_mark_bits (cell_of_stored_byte (get_or bytes 0 0)) (cells_after_first_byte bytes)
byte-mask [] size = absurd (omega arith)
byte-mask (b ∷ bytes) size =
    let few : 64 ≤ length bytes = omega arith in
    let cells = cells_after_first_byte (b ∷ bytes) in
    let short : length (run_start_marks (cell_of_stored_byte b) cells) ≤ 64 =
    omega (
      arith,
      length-marks (cell_of_stored_byte b) cells,
      length-map
          (take 64 bytes) cell_of_stored_byte,
      length-take 64 bytes,
    ) in
    ap (λ (ms : List Bool). mask_l ms % 2 ^ 64) (byte-marks b bytes 64 few)
    ∙ mask_l-mod (run_start_marks (cell_of_stored_byte b) cells) 64 short

pub number-next : (bytes : List ℕ) (bits : ℕ) → 64 < length bytes → bits
    ≡ run_start_mark_bits (cell_of_stored_byte (get_or bytes 0 0)) (cells_after_first_byte bytes)
    → count_ones bits + length (runs_of_cells (cells_of_bytes (drop 64 bytes)))
    ≡ length (runs_of_cells (cells_of_bytes bytes))
number-next [] bits size is = absurd (omega arith)
number-next (b ∷ bytes) bits size is =
    let few : 64 ≤ length (cells_of_bytes bytes) = omega (arith, length-map bytes cell_of_stored_byte) in
    let x = cell_of_stored_byte b in
    let ones : count_ones bits ≡ count_of_run_starts x (take 64 (cells_of_bytes bytes)) =
    ap count_ones is ∙ ones-marks x (cells_after_first_byte (b ∷ bytes))
    ∙ ap (count_of_run_starts x) (sym (take-map cell_of_stored_byte 64 bytes)) in
    ap (λ (k : ℕ). k + length (runs_of_cells (cells_of_bytes (drop 64 (b ∷ bytes))))) ones
    ∙ ap (λ (l : List CellValue). count_of_run_starts x (take 64 (cells_of_bytes bytes)) + length (runs_of_cells l))
    (sym (drop-map cell_of_stored_byte 64 (b ∷ bytes)))
    ∙ runs-after x (cells_of_bytes bytes) 64 few

-- the run of the byte at a place continues with the cells after it
pub runs_from_nth_cell_of_run-from : (bytes : List ℕ) (k n : ℕ) → k < length bytes
    → runs_continuing_first_run (cell_of_stored_byte (get_or bytes k 0), n) (cells_of_bytes (drop (k + 1) bytes))
    ≡ runs_from_nth_cell_of_run n (cells_of_bytes (drop k bytes))
runs_from_nth_cell_of_run-from bytes k n within =
    let next : drop k bytes ≡ get_or bytes k 0 ∷ drop (k + 1) bytes = rw add-one (drop-cons bytes k 0 within) in
    ap (λ (l : List ℕ). runs_from_nth_cell_of_run n (cells_of_bytes l)) (sym next)

-- if the remaining cells continue the current run, the runs pushed are all the runs of the bytes
pub all-runs : (bytes : List ℕ) (at count : ℕ) (runs pushed : List RunValue) (x : CellValue) (cells : List CellValue)
    → at < length bytes → x ≡ cell_of_stored_byte (get_or bytes at 0) → cells
    ≡ cells_of_bytes (take (length bytes - (at + 1)) (drop (at + 1) bytes))
    → pushed ≡ runs ++ runs_continuing_first_run (x, count) cells
    → runs ++ runs_from_nth_cell_of_run count (cells_of_bytes (drop at bytes))
    ≡ runs_of_cells (cells_of_bytes bytes)
    → pushed ≡ runs_of_cells (cells_of_bytes bytes)
all-runs bytes at count runs pushed x cells within is read push whole =
    push ∙ ap (λ (y : CellValue). runs ++ runs_continuing_first_run (y, count) cells) is
    ∙ ap (λ (l : List CellValue). runs ++ runs_continuing_first_run (cell_of_stored_byte (get_or bytes at 0), count) l)
    (read ∙ ap cells_of_bytes (take_rest bytes (at + 1)))
    ∙ ap (λ (l : List RunValue). runs ++ l) (runs_from_nth_cell_of_run-from bytes at count within) ∙ whole

module _ (bytes : List ℕ) (size : 64 < length bytes) where
  abbrev byte : ℕ → CellValue
  byte k = cell_of_stored_byte (get_or bytes k 0)

  abbrev more : List CellValue
  more = cells_of_bytes (drop 65 bytes)

  pub length-next : length (cells_after_first_byte bytes) ≡ 64
  length-next = omega (
    arith,
    length-map (take 64 (drop 1 bytes)) cell_of_stored_byte,
    length-take 64 (drop 1 bytes),
    length-drop 1 bytes,
    size,
  )

  next-read : (k : ℕ) → k < 64 → byte (k + 1) ≡ get_or (cells_after_first_byte bytes) k (byte (k + 1))
  next-read k within =
      let b = get_or bytes (k + 1) 0 in
      let place : k + 1 ≡ 1 + k = omega arith in
      let inside : k < length (take 64 (drop 1 bytes)) =
      omega (arith, length-take 64 (drop 1 bytes), length-drop 1 bytes, size) in
      let read : b ≡ get_or (take 64 (drop 1 bytes)) k b =
      get_or_default bytes (k + 1) 0 b (omega (arith, size)) ∙ ap (λ (i : ℕ). get_or bytes i b) place
      ∙ sym (get_or-drop 1 bytes k b) ∙ sym (get_or-take 64 (drop 1 bytes) k b within) in
      byte_at (take 64 (drop 1 bytes)) k b inside read

  -- the runs of a whole block begin at its first byte
  pub block-begins : (n : ℕ) → runs_continuing_first_run (byte 0, n) (cells_after_first_byte bytes ++ more)
      ≡ runs_from_nth_cell_of_run n (cells_of_bytes bytes)
  block-begins n =
      let rest : cells_after_first_byte bytes ++ more ≡ cells_of_bytes (drop 1 bytes) =
      sym (map-append cell_of_stored_byte (take 64 (drop 1 bytes)) (drop 65 bytes))
      ∙ ap (λ (l : List ℕ). cells_of_bytes (take 64 (drop 1 bytes) ++ l)) (sym (drop-drop 64 1 bytes))
      ∙ ap cells_of_bytes (take-append-drop 64 (drop 1 bytes)) in
      ap (λ (l : List CellValue). runs_continuing_first_run (byte 0, n) l) rest
      ∙ runs_from_nth_cell_of_run-from bytes 0 n (omega (arith, size))

  module _ (at bits : ℕ) (within : at ≤ 64) (is : bits ≡ run_start_mark_bits (byte at)
      (drop at (cells_after_first_byte bytes))) where
    abbrev first : ℕ
    first = count_trailing_zeros 64 bits

    pub byte-below : (bits ≡ 0 → ⊥) → at + first < 64
    byte-below some = first-below (byte at) (cells_after_first_byte bytes) at bits length-next within is some

    next-place : at + first + 1 ≡ at + (first + 1)
    next-place = omega arith

    pub byte-bits : (bits ≡ 0 → ⊥) → bits / 2 ^ first / 2
        ≡ run_start_mark_bits (byte (at + (first + 1))) (drop (at + (first + 1)) (cells_after_first_byte bytes))
    byte-bits some =
        subst (λ (k : ℕ). bits / 2 ^ first / 2 ≡ run_start_mark_bits (byte k)
        (drop k (cells_after_first_byte bytes))) next-place
        (bits-next (byte at) (cells_after_first_byte bytes) at bits length-next within is some (byte (at + first + 1))
        (next-read (at + first) (byte-below some)))

    pub byte-runs : (bits ≡ 0 → ⊥) → (count : ℕ) (runs pushed all : List RunValue) → pushed
        ≡ runs ++ (byte at, count + first) ∷ []
        → runs ++ runs_continuing_first_run (byte at, count) (drop at (cells_after_first_byte bytes) ++ more) ≡ all
        → pushed ++ runs_continuing_first_run (byte (at + (first + 1)), 1)
        (drop (at + (first + 1)) (cells_after_first_byte bytes) ++ more) ≡ all
    byte-runs some count runs pushed all push whole =
        subst (λ (k : ℕ). pushed ++ runs_continuing_first_run (byte k, 1) (drop k (cells_after_first_byte bytes)
        ++ more) ≡ all) next-place
        (runs-next (byte at) (cells_after_first_byte bytes) at bits length-next within is some (byte (at + first + 1))
        (next-read (at + first) (byte-below some))
        count runs pushed all more push whole)

    last-read : bits ≡ 0 → byte at ≡ byte 64
    last-read none = by (64 - at) refl
      where
        all : alike (byte at) (drop at (cells_after_first_byte bytes)) ≡ length (drop at (cells_after_first_byte bytes))
        all = none-left (byte at) (cells_after_first_byte bytes) at bits length-next within is none

        by : (left : ℕ) → 64 - at ≡ left → byte at ≡ byte 64
        by zero e = let here : at ≡ 64 = omega arith in ap byte here
        by (suc k) e =
            let there : at + k + 1 ≡ 64 = omega arith in
            let inside : k < length (drop at (cells_after_first_byte bytes)) =
            omega (arith, length-drop at (cells_after_first_byte bytes), length-next) in
            sym (alike-each (byte at) (drop at (cells_after_first_byte bytes)) k (byte (at + k + 1)) all inside)
            ∙ get_or-drop at (cells_after_first_byte bytes) k (byte (at + k + 1))
            ∙ sym (next-read (at + k) (omega arith))
            ∙ ap byte there

    pub byte-end : bits ≡ 0 → (count : ℕ) (runs all : List RunValue)
        → runs ++ runs_continuing_first_run (byte at, count) (drop at (cells_after_first_byte bytes) ++ more) ≡ all
        → runs ++ runs_from_nth_cell_of_run (count + (64 - at)) (cells_of_bytes (drop 64 bytes)) ≡ all
    byte-end none count runs all whole =
        ap (λ (l : List RunValue). runs ++ l) (sym (runs_from_nth_cell_of_run-from bytes 64 (count + (64 - at)) size))
        ∙ ap (λ (x : CellValue). runs ++ runs_continuing_first_run (x, count + (64 - at)) more) (sym (last-read none))
        ∙ runs-end (byte at) (cells_after_first_byte bytes) at bits length-next within is none count runs all more whole
