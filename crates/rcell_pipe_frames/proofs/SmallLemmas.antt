-- The bytes of cells in rows that are stored as bytes or as runs.
use Rattle.std.proofs.Common.{◌≡◌, ◌≢◌, ◌<◌, ◌≤◌, ◌+◌, ◌++◌, ◌&&◌, ℕ, zero, suc, pos, Bool, true, false, eqb}
use Rattle.std.proofs.Common.{List, ◌∷◌, Some, None, Fits, w8, map, replicate, get_or, length, take, drop}
use Rattle.std.proofs.Common.{refl, sym, ap, ◌∙◌, arith, rules, add-one}
use Rattle.std.specs.Prelude.{if◌then◌else◌, nat_le}
use Rattle.std.specs.List.{list_all}
use Rattle.std.proofs.Math.Facts.{Fits-lt-pow}
use Rattle.std.proofs.Math.Seq.{take-append_seam}
use Rattle.std.proofs.lemmas.Bool.{eqb-true, eq-eqb}
use Rattle.std.proofs.lemmas.List.{append_assoc, get_or-map, length-append, length-map}
use Rattle.std.proofs.lemmas.List.{length-replicate, length-take-le, map-append, take_all}
use Rattle.std.proofs.lemmas.List.Folds.{list_all-append, list_all-map, list_all_more}
use Rattle.std.proofs.lemmas.List.FromFn.{fill_by_all}
use Rattle.cell_core_values.specs.SmallCells.{cell_of_stored_byte, cells_of_bytes}
use Rattle.cell_core.specs.Grid.{CellValue}
use Rattle.cell_core.specs.Runs.{RunValue, cells_of_runs}
use Rattle.rcell_pipe_frames.specs.FrameBytes.{is_one_byte_cell, byte_of_cell}

-- a byte that is not 255 is at most 254
below : (b : ℕ) → b < 256 → eqb b 255 ≡ false → nat_le b 254 ≡ true
below b few e =
    let other : b ≢ 255 = λ same. let t = eq-eqb b 255 same in cc in
    search (rules, few, other)

byte_again : (b : ℕ) → b < 256 → byte_of_cell (cell_of_stored_byte b) ≡ b
byte_again b few = by (eqb b 255) refl
  where
    by : (m : Bool) → eqb b 255 ≡ m → byte_of_cell (cell_of_stored_byte b) ≡ b
    by true e = ap (λ (n : ℕ). byte_of_cell (cell_of_stored_byte n)) (eqb-true b 255 e) ∙ sym (eqb-true b 255 e)
    by false e = ap (λ (m : Bool). byte_of_cell (if m then None else Some (pos b))) e
        ∙ ap (λ (m : Bool). if m then b else 255) (below b few e)

small : (b : ℕ) → b < 256 → is_one_byte_cell (cell_of_stored_byte b) ≡ true
small b few = by (eqb b 255) refl
  where
    by : (m : Bool) → eqb b 255 ≡ m → is_one_byte_cell (cell_of_stored_byte b) ≡ true
    by true e = ap (λ (n : ℕ). is_one_byte_cell (cell_of_stored_byte n)) (eqb-true b 255 e)
    by false e = ap (λ (m : Bool). is_one_byte_cell (if m then None else Some (pos b))) e ∙ below b few e

module _ (bytes : List ℕ) (fits : (i : ℕ) → Fits w8 (get_or bytes i 0)) where
  abbrev is_small_byte : ℕ → Bool
  is_small_byte b = is_one_byte_cell (cell_of_stored_byte b)

  so_many : (n : ℕ) → n ≤ length bytes → list_all is_small_byte (take n bytes) ≡ true
  so_many zero within = refl
  so_many (suc n) within =
      ap (λ (k : ℕ). list_all is_small_byte (take k bytes)) (sym (add-one n))
      ∙ list_all_more is_small_byte bytes n 0 (omega (arith, within))
      ∙ ap (λ (b : Bool). b && is_small_byte (get_or bytes n 0)) (so_many n (omega (arith, within)))
      ∙ small (get_or bytes n 0) (Fits-lt-pow (fits n))

  -- the cell of each byte is small
  pub all_small : list_all is_one_byte_cell (cells_of_bytes bytes) ≡ true
  all_small = list_all-map is_one_byte_cell cell_of_stored_byte bytes
      ∙ ap (list_all is_small_byte) (sym (take_all (length bytes) bytes (omega arith)))
      ∙ so_many (length bytes) (omega arith)

  long : length (cells_of_bytes bytes) ≡ length bytes
  long = length-map bytes cell_of_stored_byte

  abbrev at : ℕ → ℕ
  at k = get_or bytes k 0

  each : (k : ℕ) → k < length bytes → get_or (map byte_of_cell (cells_of_bytes bytes)) k 0 ≡ at k
  each k within = get_or-map byte_of_cell (cells_of_bytes bytes) k None 0 (omega (arith, within, long))
      ∙ ap byte_of_cell (get_or-map cell_of_stored_byte bytes k 0 None within)
      ∙ byte_again (at k) (Fits-lt-pow (fits k))

  -- the bytes of the cells of some bytes are the bytes themselves
  pub bytes_again : map byte_of_cell (cells_of_bytes bytes) ≡ bytes
  bytes_again = fill_by_all at (map byte_of_cell (cells_of_bytes bytes)) (length bytes) 0
      (length-map (cells_of_bytes bytes) byte_of_cell ∙ long) each
      ∙ sym (fill_by_all at bytes (length bytes) 0 refl (λ k within. refl))

alike : (x : CellValue) (n : ℕ) → is_one_byte_cell x ≡ true → list_all is_one_byte_cell (replicate n x) ≡ true
alike x zero is = refl
alike x (suc n) is = ap (λ (b : Bool). b && list_all is_one_byte_cell (replicate n x)) is ∙ alike x n is

-- if a first run is small, all runs are small exactly if the others are
pub small_on : {runs rest : List RunValue} (x : CellValue) (n : ℕ) → runs ≡ (x, n) ∷ rest → is_one_byte_cell x ≡ true
    → list_all is_one_byte_cell (cells_of_runs rest) ≡ list_all is_one_byte_cell (cells_of_runs runs)
small_on {runs} {rest} x n steps is = sym
    (ap (λ (l : List RunValue). list_all is_one_byte_cell (cells_of_runs l)) steps
    ∙ list_all-append is_one_byte_cell (replicate n x) (cells_of_runs rest)
    ∙ ap (λ (b : Bool). b && list_all is_one_byte_cell (cells_of_runs rest)) (alike x n is))

bytes_alike : (x : CellValue) (n : ℕ) → map byte_of_cell (replicate n x) ≡ replicate n (byte_of_cell x)
bytes_alike x zero = refl
bytes_alike x (suc n) = ap (λ (l : List ℕ). byte_of_cell x ∷ l) (bytes_alike x n)

-- the bytes of one more run are written
pub write_more : {runs rest : List RunValue} (old new all : List ℕ) (at n : ℕ) (x : CellValue)
    → at + n ≤ length old → new ≡ take at old ++ replicate n (byte_of_cell x) ++ drop (at + n) old
    → runs ≡ (x, n) ∷ rest → take at old ++ map byte_of_cell (cells_of_runs runs) ≡ all
    → take (at + n) new ++ map byte_of_cell (cells_of_runs rest) ≡ all
write_more {runs} {rest} old new all at n x within is steps whole =
    ap (λ (l : List ℕ). l ++ others) front
    ∙ append_assoc (take at old) run others
    ∙ ap (λ (l : List ℕ). take at old ++ l) (sym here)
    ∙ ap (λ (l : List RunValue). take at old ++ map byte_of_cell (cells_of_runs l)) (sym steps)
    ∙ whole
  where
    others : List ℕ
    others = map byte_of_cell (cells_of_runs rest)

    run : List ℕ
    run = replicate n (byte_of_cell x)

    here : map byte_of_cell (cells_of_runs ((x, n) ∷ rest)) ≡ run ++ others
    here = map-append byte_of_cell (replicate n x) (cells_of_runs rest)
        ∙ ap (λ (l : List ℕ). l ++ others) (bytes_alike x n)

    long-front : length (take at old ++ run) ≡ at + n
    long-front = length-append (take at old) run
        ∙ omega (arith, length-take-le at old (omega (arith, within)), length-replicate n (byte_of_cell x))

    front : take (at + n) new ≡ take at old ++ run
    front = ap (take (at + n)) is
        ∙ ap (λ (k : ℕ). take k ((take at old ++ run) ++ drop (at + n) old)) (sym long-front)
        ∙ take-append_seam (take at old ++ run) (drop (at + n) old)

-- the number of cells in runs is the length of the first run plus the number of cells in the others
pub long_on : {runs rest : List RunValue} (x : CellValue) (n : ℕ) → runs ≡ (x, n) ∷ rest
    → length (cells_of_runs runs) ≡ n + length (cells_of_runs rest)
long_on {runs} {rest} x n steps = ap (λ (l : List RunValue). length (cells_of_runs l)) steps
    ∙ length-append (replicate n x) (cells_of_runs rest)
    ∙ ap (λ (k : ℕ). k + length (cells_of_runs rest)) (length-replicate n x)
