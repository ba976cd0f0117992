-- Bits that mark each cell that differs from the cell before it.
use Rattle.std.proofs.Common.{◌≡◌, ℕ, zero, suc, ◌+◌, ◌-◌, ◌*◌, ◌/◌, ◌^◌, ◌<◌, ◌≤◌, eqb, cond, Bool, true, false, not, List, [], ◌∷◌, ◌++◌, map, length, take, drop, get_or, refl, ap, sym, ◌∙◌, arith, add-one, append-nil, append_assoc, length-drop, take_all}
use Rattle.std.specs.Prelude.{if◌then◌else◌}
use Rattle.std.specs.List.{prefix_len}
use Rattle.std.proofs.lemmas.Simd.{leading_from_mask_l, trailing_mask_l}
use Rattle.cell_core_values.specs.Cell.{cell_eq, cell_eq-Decides}
use Rattle.cell_core.specs.Grid.{CellValue}
use Rattle.cell_core.specs.Runs.{RunValue}
use Rattle.cell_core.specs.parts.RowForms.{alike, runs_of_cells, runs_continuing_first_run, run_start_marks}
use Rattle.cell_core.specs.parts.RowForms.{run_start_mark_bits, bits_of_nonzero_bytes}
use Rattle.cell_core.proofs.RowLemmas.{runs_of_cells-next}
use Rattle.std.proofs.Math.Nat.{pow-succ', div-div-eq-div-mul}
use Rattle.std.proofs.Math.Seq.{drop-cons, drop-append-add}
use Rattle.std.proofs.lemmas.List.{drop-drop, drop-append-le, drop_all, take-append-drop, get_or-drop}
use lib.Count.{count_trailing_zeros}
use lib.Lanes.{mask_l}

-- a mark as a byte: 1 or 0
abbrev pub flag : Bool → ℕ
flag b = cond b 1 0

pub flags-back : (ms : List Bool) → map (λ f. not (eqb f 0)) (map flag ms) ≡ ms
flags-back [] = refl
flags-back (true ∷ ms) = ap (λ (l : List Bool). true ∷ l) (flags-back ms)
flags-back (false ∷ ms) = ap (λ (l : List Bool). false ∷ l) (flags-back ms)

itself : (ms : List Bool) → map (λ m. m) ms ≡ ms
itself [] = refl
itself (m ∷ ms) = ap (λ (l : List Bool). m ∷ l) (itself ms)

pub length-marks : (x : CellValue) (cells : List CellValue) → length (run_start_marks x cells) ≡ length cells
length-marks x [] = refl
length-marks x (y ∷ cells) = ap suc (length-marks y cells)

-- as many cells are alike as there are cells before the first mark
marks-alike : (x : CellValue) (cells : List CellValue) → prefix_len (λ m. not m) (run_start_marks x cells)
    ≡ alike x cells
marks-alike x [] = refl
marks-alike x (y ∷ cells) = by (cell_eq y x) refl (marks-alike y cells)
  where
    by : (b : Bool) → cell_eq y x ≡ b → prefix_len (λ m. not m) (run_start_marks y cells) ≡ alike y cells
        → cond (not (not b)) (1 + prefix_len (λ m. not m) (run_start_marks y cells)) 0
        ≡ (if b then suc (alike x cells) else 0)
    by true same others =
        let e : y ≡ x = (cell_eq-Decides y x).0 same in
        let one : 1 + alike x cells ≡ suc (alike x cells) = omega arith in
        ap (λ (k : ℕ). 1 + k) (others ∙ ap (λ (z : CellValue). alike z cells) e) ∙ one
    by false other others = refl

some_mark : (ms : List Bool) → 0 < mask_l ms → prefix_len (λ m. not m) ms < length ms
some_mark [] some = absurd (omega arith)
some_mark (true ∷ ms) some = omega arith
some_mark (false ∷ ms) some = let rest : 0 < mask_l ms = omega arith in omega (arith, some_mark ms rest)

module _ (x : CellValue) (cells : List CellValue) (few : length cells ≤ 64) where
  short : length (run_start_marks x cells) ≤ 64
  short = omega (arith, length-marks x cells)

  pub no_mark : run_start_mark_bits x cells ≡ 0 → alike x cells ≡ length cells
  no_mark none =
      sym (marks-alike x cells) ∙ leading_from_mask_l (λ (m : Bool). m) (run_start_marks x cells) (ap mask_l (itself (run_start_marks x cells)) ∙ none) ∙ length-marks x cells

  some_bits : (run_start_mark_bits x cells ≡ 0 → ⊥) → 0 < mask_l (run_start_marks x cells)
  some_bits some = omega (arith, some)

  pub first_mark : (run_start_mark_bits x cells ≡ 0 → ⊥) → count_trailing_zeros 64 (run_start_mark_bits x cells)
      ≡ alike x cells
  first_mark some =
      let same = itself (run_start_marks x cells) in
      let set : 0 < mask_l (map (λ m. m) (run_start_marks x cells)) = omega (arith, some_bits some, ap mask_l same) in
      ap (λ (k : ℕ). count_trailing_zeros 64 k) (sym (ap mask_l same)) ∙ trailing_mask_l (λ (m : Bool). m) 64 (run_start_marks x cells) short set ∙ marks-alike x cells

  pub mark_within : (run_start_mark_bits x cells ≡ 0 → ⊥) → alike x cells < length cells
  mark_within some = omega (arith, some_mark (run_start_marks x cells) (some_bits some), marks-alike x cells, length-marks x cells)

-- the marks after a cell are the marks of the cells after it
pub marks-drop : (x : CellValue) (cells : List CellValue) (j : ℕ) (y : CellValue) → j < length cells → y ≡ get_or cells j y → drop (suc j) (run_start_marks x cells) ≡ run_start_marks y (drop (suc j) cells)
marks-drop x [] j y within read = absurd (omega arith)
marks-drop x (c ∷ cells) zero y within read = ap (λ (z : CellValue). run_start_marks z cells) (sym read)
marks-drop x (c ∷ cells) (suc j) y within read = marks-drop c cells j y (omega arith) read

half : (m : Bool) (k : ℕ) → (cond m 1 0 + 2 * k) / 2 ≡ k
half true k = omega arith
half false k = omega arith

-- halving the bit mask drops the first mark
mask-tail : (ms : List Bool) → mask_l ms / 2 ≡ mask_l (drop 1 ms)
mask-tail [] = refl
mask-tail (m ∷ ms) = half m (mask_l ms)

no-bits : (j : ℕ) → 0 / 2 ^ j ≡ 0
no-bits zero = refl
no-bits (suc j) = ap (λ (k : ℕ). 0 / k) (pow-succ' 2 j) ∙ sym (div-div-eq-div-mul 0 2 (2 ^ j)) ∙ no-bits j

shifted : (j : ℕ) (ms : List Bool) → mask_l ms / 2 ^ j ≡ mask_l (drop j ms)
shifted zero ms = omega arith
shifted (suc j) [] = no-bits (suc j)
shifted (suc j) (m ∷ ms) =
    ap (λ (k : ℕ). mask_l (m ∷ ms) / k) (pow-succ' 2 j) ∙ sym (div-div-eq-div-mul (mask_l (m ∷ ms)) 2 (2 ^ j)) ∙ ap (λ (k : ℕ). k / 2 ^ j) (half m (mask_l ms)) ∙ shifted j ms

pub mask-drop : (j : ℕ) (ms : List Bool) → mask_l ms / 2 ^ j / 2 ≡ mask_l (drop (suc j) ms)
mask-drop j ms =
    let next : j + 1 ≡ suc j = omega arith in
    ap (λ (k : ℕ). k / 2) (shifted j ms) ∙ mask-tail (drop j ms) ∙ ap mask_l (drop-drop 1 j ms ∙ ap (λ (k : ℕ). drop k ms) next)

alike-joined : (x : CellValue) (rest more : List CellValue) (j : ℕ) → alike x rest ≡ j → j < length rest → alike x (rest ++ more) ≡ j
alike-joined x [] more j e within = absurd (omega arith)
alike-joined x (y ∷ rest) more j e within = by (cell_eq y x) j (λ k o w. alike-joined x rest more k o w) e within
  where
    by : (b : Bool) (j : ℕ) → ((k : ℕ) → alike x rest ≡ k → k < length rest → alike x (rest ++ more) ≡ k)
        → (if b then suc (alike x rest) else 0) ≡ j → j < suc (length rest) → (if b then suc (alike x (rest ++ more)) else 0) ≡ j
    by true j on e within = ap suc (on (alike x rest) refl (omega (arith, e))) ∙ e
    by false j on e within = e

alike-passed : (x : CellValue) (rest more : List CellValue) → alike x rest ≡ length rest → alike x (rest ++ more) ≡ length rest + alike x more
alike-passed x [] more e = omega arith
alike-passed x (y ∷ rest) more e = by (cell_eq y x) (λ o. alike-passed x rest more o) e
  where
    by : (b : Bool) → (alike x rest ≡ length rest → alike x (rest ++ more) ≡ length rest + alike x more)
        → (if b then suc (alike x rest) else 0) ≡ suc (length rest) → (if b then suc (alike x (rest ++ more)) else 0) ≡ suc (length rest) + alike x more
    by true on e = let same : alike x rest ≡ length rest = omega (arith, e) in omega (arith, on same)
    by false on e = absurd (omega (arith, e))

-- the first cell begins the first run
pub run_begins : (x : CellValue) (cells : List CellValue) → runs_of_cells (x ∷ cells)
    ≡ runs_continuing_first_run (x, 1) cells
run_begins x cells =
    let one : suc (alike x cells) ≡ 1 + alike x cells = omega arith in
    runs_of_cells-next x cells ∙ ap (λ (k : ℕ). (x, k) ∷ runs_of_cells (drop (alike x cells) cells)) one

-- a run that ends within the block, or continues after it
module _ (x : CellValue) (count : ℕ) (rest more : List CellValue) where
  abbrev after : ℕ → List RunValue
  after k = (x, count + k) ∷ runs_of_cells (drop k (rest ++ more))

  pub run_ends : (j : ℕ) (y : CellValue) → alike x rest ≡ j → j < length rest → y ≡ get_or rest j y
      → runs_continuing_first_run (x, count) (rest ++ more) ≡ (x, count + j)
      ∷ runs_continuing_first_run (y, 1) (drop (suc j) rest ++ more)
  run_ends j y e within read =
      let inside : j ≤ length rest = omega arith in
      ap after (alike-joined x rest more j e within)
      ∙ ap (λ (l : List CellValue). (x, count + j) ∷ runs_of_cells l) (drop-append-le j rest more inside ∙ ap (λ (l : List CellValue). l ++ more) (drop-cons rest j y within ∙ ap (λ (z : CellValue). z ∷ drop (suc j) rest) (sym read)))
      ∙ ap (λ (l : List RunValue). (x, count + j) ∷ l) (run_begins y (drop (suc j) rest ++ more))

  pub run_goes_on : alike x rest ≡ length rest → runs_continuing_first_run (x, count) (rest ++ more) ≡ runs_continuing_first_run (x, count + length rest) more
  run_goes_on e =
      let a = alike x more in
      let sum : count + (length rest + a) ≡ count + length rest + a = omega arith in
      ap after (alike-passed x rest more e)
      ∙ ap (λ (l : List CellValue). (x, count + (length rest + a)) ∷ runs_of_cells l) (drop-append-add rest more a)
      ∙ ap (λ (k : ℕ). (x, k) ∷ runs_of_cells (drop a more)) sum

-- a run that ends before the next cell, or continues with it
module _ (x : CellValue) (count : ℕ) (y : CellValue) (rest : List CellValue) where
  abbrev before : Bool → List RunValue
  before b = let k : ℕ = if b then suc (alike x rest) else 0 in (x, count + k) ∷ runs_of_cells (drop k (y ∷ rest))

  pub cell_goes_on : cell_eq y x ≡ true → runs_continuing_first_run (x, count) (y ∷ rest)
      ≡ runs_continuing_first_run (x, count + 1) rest
  cell_goes_on same = let sum : count + suc (alike x rest) ≡ count + 1 + alike x rest = omega arith in ap before same ∙ ap (λ (k : ℕ). (x, k) ∷ runs_of_cells (drop (alike x rest) rest)) sum

  pub cell_ends : cell_eq y x ≡ false → runs_continuing_first_run (x, count) (y ∷ rest) ≡ (x, count)
      ∷ runs_continuing_first_run (y, 1) rest
  cell_ends other =
      let sum : count + 0 ≡ count = omega arith in
      ap before other ∙ ap (λ (k : ℕ). (x, k) ∷ runs_of_cells (y ∷ rest)) sum ∙ ap (λ (l : List RunValue). (x, count) ∷ l) (run_begins y rest)

pub next_cell : (cells : List CellValue) (i : ℕ) (y : CellValue) → i < length cells → y ≡ get_or cells i y → drop i cells ≡ y ∷ drop (i + 1) cells
next_cell cells i y within read = rw add-one (drop-cons cells i y within ∙ ap (λ (z : CellValue). z ∷ drop (suc i) cells) (sym read))

-- after 64 marks, the flags are the marks of all cells of the block
pub all_marked : (flags : List ℕ) (block : List CellValue) (last cell : CellValue) (j : ℕ) → length flags ≡ 64 → length block ≡ 64 → 64 ≤ j
    → take j flags ++ map flag (run_start_marks last (drop j block)) ≡ map flag (run_start_marks cell block) → bits_of_nonzero_bytes flags ≡ run_start_mark_bits cell block
all_marked flags block last cell j size long end marked =
    let whole : length flags ≤ j = omega arith in
    let over : length block ≤ j = omega arith in
    let same : flags ≡ map flag (run_start_marks cell block) =
    sym (append-nil flags) ∙ ap (λ (l : List ℕ). l ++ []) (sym (take_all j flags whole)) ∙ ap (λ (l : List CellValue). take j flags ++ map flag (run_start_marks last l)) (sym (drop_all j block over)) ∙ marked in
    ap bits_of_nonzero_bytes same ∙ ap mask_l (flags-back (run_start_marks cell block))

module _ (x : CellValue) (block : List CellValue) (at breaks : ℕ) (size : length block ≡ 64) (within : at ≤ 64) (bits : breaks ≡ run_start_mark_bits x (drop at block)) where
  abbrev rest : List CellValue
  rest = drop at block

  abbrev first : ℕ
  first = count_trailing_zeros 64 breaks

  left : length rest ≡ 64 - at
  left = omega (arith, length-drop at block, size)

  few : length rest ≤ 64
  few = omega (arith, left)

  marked : (breaks ≡ 0 → ⊥) → run_start_mark_bits x rest ≡ 0 → ⊥
  marked some none = some (bits ∙ none)

  pub first-is : (breaks ≡ 0 → ⊥) → first ≡ alike x rest
  first-is some = ap (count_trailing_zeros 64) bits ∙ first_mark x rest few (marked some)

  pub first-below : (breaks ≡ 0 → ⊥) → at + first < 64
  first-below some = omega (arith, first-is some, mark_within x rest few (marked some), left, within)

  pub none-left : breaks ≡ 0 → alike x rest ≡ length rest
  none-left none = no_mark x rest few (sym bits ∙ none)

  module _ (some : breaks ≡ 0 → ⊥) (y : CellValue) (read : y ≡ get_or block (at + first) y) where
    inside : first < length rest
    inside = omega (arith, first-below some, left)

    read-rest : y ≡ get_or rest first y
    read-rest = read ∙ sym (get_or-drop at block first y)

    next-rest : drop (suc first) rest ≡ drop (at + first + 1) block
    next-rest = let e : at + suc first ≡ at + first + 1 = omega arith in drop-drop (suc first) at block ∙ ap (λ (k : ℕ). drop k block) e

    pub bits-next : breaks / 2 ^ first / 2 ≡ run_start_mark_bits y (drop (at + first + 1) block)
    bits-next =
        ap (λ (k : ℕ). k / 2 ^ first / 2) bits ∙ mask-drop first (run_start_marks x rest) ∙ ap mask_l (marks-drop x rest first y inside read-rest ∙ ap (run_start_marks y) next-rest)

    pub runs-next : (count : ℕ) (runs pushed all : List RunValue) (more : List CellValue) → pushed ≡ runs ++ (x, count + first) ∷ [] → runs ++ runs_continuing_first_run (x, count) (rest ++ more) ≡ all
        → pushed ++ runs_continuing_first_run (y, 1) (drop (at + first + 1) block ++ more) ≡ all
    runs-next count runs pushed all more push whole =
        ap (λ (l : List RunValue). l ++ runs_continuing_first_run (y, 1) (drop (at + first + 1) block ++ more)) push
        ∙ append_assoc runs ((x, count + first) ∷ []) (runs_continuing_first_run (y, 1) (drop (at + first + 1) block
        ++ more))
        ∙ ap (λ (l : List CellValue). runs ++ (x, count + first) ∷ runs_continuing_first_run (y, 1) (l ++ more))
        (sym next-rest)
        ∙ ap (λ (l : List RunValue). runs ++ l) (sym (run_ends x count rest more first y (sym (first-is some)) inside read-rest))
        ∙ whole

  pub runs-end : breaks ≡ 0 → (count : ℕ) (runs all : List RunValue) (more : List CellValue) → runs ++ runs_continuing_first_run (x, count) (rest ++ more) ≡ all
      → runs ++ runs_continuing_first_run (x, count + (64 - at)) more ≡ all
  runs-end none count runs all more whole =
      ap (λ (k : ℕ). runs ++ runs_continuing_first_run (x, count + k) more) (sym left)
      ∙ ap (λ (l : List RunValue). runs ++ l) (sym (run_goes_on x count rest more (none-left none)))
      ∙ whole

-- a block of 64 cells and the cells after it are all the remaining cells
pub block_after : (cells : List CellValue) (at : ℕ) → take (at + 64 - at) (drop at cells) ++ drop (at + 64) cells ≡ drop at cells
block_after cells at =
    let size : at + 64 - at ≡ 64 = omega arith in
    ap (λ (k : ℕ). take k (drop at cells) ++ drop (at + 64) cells) size ∙ ap (λ (l : List CellValue). take 64 (drop at cells) ++ l) (sym (drop-drop 64 at cells)) ∙ take-append-drop 64 (drop at cells)

module _ (runs : List RunValue) (x : CellValue) (count : ℕ) (cells : List CellValue) (i : ℕ) (y : CellValue) (all : List RunValue) (within : i < length cells) (read : y ≡ get_or cells i y)
    (whole : runs ++ runs_continuing_first_run (x, count) (drop i cells) ≡ all) where
  pub last-same : cell_eq y x ≡ true → runs ++ runs_continuing_first_run (x, count + 1) (drop (i + 1) cells) ≡ all
  last-same same =
      ap (λ (l : List RunValue). runs ++ l) (sym (cell_goes_on x count y (drop (i + 1) cells) same))
      ∙ ap (λ (l : List CellValue). runs ++ runs_continuing_first_run (x, count) l)
      (sym (next_cell cells i y within read))
      ∙ whole

  pub last-other : cell_eq y x ≡ false → (runs ++ (x, count) ∷ [])
      ++ runs_continuing_first_run (y, 1) (drop (i + 1) cells) ≡ all
  last-other other =
      append_assoc runs ((x, count) ∷ []) (runs_continuing_first_run (y, 1) (drop (i + 1) cells))
      ∙ ap (λ (l : List RunValue). runs ++ l) (sym (cell_ends x count y (drop (i + 1) cells) other))
      ∙ ap (λ (l : List CellValue). runs ++ runs_continuing_first_run (x, count) l)
      (sym (next_cell cells i y within read))
      ∙ whole
