-- A stretch of columns in which no map changes, and the combinations of all cells so far.
use Rattle.std.proofs.Common.{◌≡◌, ℕ, zero, suc, ◌+◌, ◌*◌, ◌<◌, ◌≤◌, List, [], ◌∷◌, ◌++◌, length, drop, map, replicate, get_or, All, Bool, true, false, cond, Option, Some, None, refl, ap, sym, ◌∙◌, arith, append_assoc, append-nil, length-append, length-drop, add-zero, zero-add}
use Rattle.std.proofs.lemmas.List.{length-map, length-replicate, get_or-replicate, get_or_append_left, get_or-drop, get_or-map}
use Rattle.std.proofs.lemmas.List.FromFn.{map-range_with_len_more, length-map-range_with_len}
use Rattle.std.specs.List.{range_with_len, flat_map}
use Rattle.std.proofs.lemmas.Grind.{flat_map-append}
use Rattle.std.specs.Option.{option_map_or}
use Rattle.std.specs.Prelude.{slice_get}
use Rattle.cell_core.specs.Grid.{Grid, CellValue, cell_at, row_at}
use Rattle.cell_core.specs.Runs.{RunValue, cells_of_runs}
use Rattle.cell_stats_combinations.specs.declared.skip.Skip.{Skip}
use Rattle.cell_stats_combinations.specs.Combinations.{Combination, cell_of_map_at_place, combination_at_row_and_column, all_combinations, row_combinations}
use Rattle.cell_stats_combinations.specs.Cursors.{RunCursorValue, to_come, CursorHasNoEmptyLaterRun}
use Rattle.cell_stats_combinations.specs.Cursors.{row_of_map_at_place}
use Rattle.cell_stats_combinations.specs.LeftOut.{kept_cells, combination_is_left_out}

-- ---- the cells of a stretch

pub cell-row : (maps : List Grid) (row col p : ℕ) → cell_of_map_at_place maps row col p
    ≡ get_or (row_of_map_at_place maps row p) col None
cell-row maps row col p = by (slice_get maps p)
  where
    by : (o : Option Grid) → option_map_or (λ m. cell_at m row col) o None ≡ get_or (option_map_or (λ m. row_at m row) o []) col None
    by None = refl
    by (Some m) = refl

first-cell : (c : RunCursorValue) (j : ℕ) → j < c.left → get_or (to_come c) j None ≡ c.cell
first-cell c j h =
    let fits : j < length (replicate c.left c.cell) = omega (arith, length-replicate c.left c.cell) in
    get_or_append_left (replicate c.left c.cell) (cells_of_runs c.runs) None j fits ∙ get_or-replicate c.left j c.cell None h

head_of : {X : Type 0} (P : X → Type 0) (x : X) (xs : List X) → All P (x ∷ xs) → P x
head_of P x xs all = all 0 x (omega arith)

tail_of : {X : Type 0} (P : X → Type 0) (x : X) (xs : List X) → All P (x ∷ xs) → All P xs
tail_of P x xs all i d within = all (suc i) d (omega arith)

abbrev first-or : {X : Type 0} → X → List X → X
first-or d [] = d
first-or d (x ∷ xs) = x

drop-nil : {X : Type 0} (n : ℕ) → ◌≡◌ {A = List X} (drop n []) []
drop-nil zero = refl
drop-nil (suc n) = refl

drop-drop : {X : Type 0} (n i : ℕ) (xs : List X) → drop n (drop i xs) ≡ drop (i + n) xs
drop-drop n zero xs = ap (λ k. drop k xs) (sym (zero-add n))
drop-drop n (suc i) [] = drop-nil n ∙ sym (drop-nil (suc i + n))
drop-drop n (suc i) (x ∷ xs) =
    let sum : suc (i + n) ≡ suc i + n = omega arith in
    drop-drop n i xs ∙ ap (λ k. drop k (x ∷ xs)) sum

module _ (maps : List Grid) (row col : ℕ) where
  -- in each column of the stretch, the combination is the cells of the cursors
  pub alike : (cs : List RunCursorValue) (picks : List ℕ) (n j : ℕ) → map to_come cs ≡ map (λ p. drop col (row_of_map_at_place maps row p)) picks → All (λ c. n ≤ c.left) cs → j < n → combination_at_row_and_column maps picks row (col + j) ≡ map (λ c. c.cell) cs
  alike [] [] n j e all h = refl
  alike [] (p ∷ picks) n j e all h = cc
  alike (c ∷ cs) [] n j e all h = cc
  alike (c ∷ cs) (p ∷ picks) n j e all h =
      let here : to_come c ≡ drop col (row_of_map_at_place maps row p) = ap (first-or []) e in
      let others : map to_come cs ≡ map (λ p. drop col (row_of_map_at_place maps row p)) picks = ap (drop 1) e in
      let within : j < c.left = omega (arith, head_of (λ (x : RunCursorValue). n ≤ x.left) c cs all) in
      let cell : cell_of_map_at_place maps row (col + j) p ≡ c.cell = cell-row maps row (col + j) p ∙ sym (get_or-drop col (row_of_map_at_place maps row p) j None) ∙ ap (λ l. get_or l j None) (sym here) ∙ first-cell c j within in
      ap (λ x. x ∷ combination_at_row_and_column maps picks row (col + j)) cell ∙ ap (λ l. c.cell ∷ l) (alike cs picks n j others (tail_of (λ (x : RunCursorValue). n ≤ x.left) c cs all) h)

  -- in each column within the region, each cursor has a cell
  pub alive : (cs : List RunCursorValue) (picks : List ℕ) (cols : ℕ) → map to_come cs ≡ map (λ p. drop col (row_of_map_at_place maps row p)) picks → All (λ p. length (row_of_map_at_place maps row p) ≡ cols) picks → col < cols → All CursorHasNoEmptyLaterRun cs → All (λ c. 0 < c.left) cs
  alive cs picks cols e wide h ready i d within =
      let c = get_or cs i d in
      let same_length : length cs ≡ length picks = sym (length-map cs to_come) ∙ ap length e ∙ length-map picks (λ p. drop col (row_of_map_at_place maps row p)) in
      let in_picks : i < length picks = omega (arith, same_length) in
      let p = get_or picks i 0 in
      let here : to_come c ≡ drop col (row_of_map_at_place maps row p) =
      sym (get_or-map to_come cs i d (to_come d) within) ∙ ap (λ l. get_or l i (to_come d)) e ∙ get_or-map (λ p. drop col (row_of_map_at_place maps row p)) picks i 0 (to_come d) in_picks in
      some c (ready i d within) (row_of_map_at_place maps row p) here (wide i 0 in_picks)
    where
      some : (c : RunCursorValue) → CursorHasNoEmptyLaterRun c → (line : List CellValue) → to_come c ≡ drop col line → length line ≡ cols → 0 < c.left
      some c r line e w = by c.left refl
        where
          by : (n : ℕ) → c.left ≡ n → 0 < c.left
          by zero z =
              let none : length (cells_of_runs c.runs) ≡ 0 = ap (λ (l : List RunValue). length (cells_of_runs l)) (r.present z) in
              absurd (omega (arith, z, none, w, h, ap length e, length-append (replicate c.left c.cell) (cells_of_runs c.runs), length-replicate c.left c.cell, length-drop col line))
          by (suc n) z = omega (arith, z)

-- after a stretch, the cursors are past its columns
pub passed-on : (maps : List Grid) (row col n : ℕ) (old new : List RunCursorValue) (picks : List ℕ) → map to_come new ≡ map (λ c. drop n (to_come c)) old → map to_come old ≡ map (λ p. drop col (row_of_map_at_place maps row p)) picks → map to_come new ≡ map (λ p. drop (col + n) (row_of_map_at_place maps row p)) picks
passed-on maps row col n old new picks e f = e ∙ twice old picks f
  where
    twice : (old : List RunCursorValue) (picks : List ℕ) → map to_come old ≡ map (λ p. drop col (row_of_map_at_place maps row p)) picks → map (λ c. drop n (to_come c)) old ≡ map (λ p. drop (col + n) (row_of_map_at_place maps row p)) picks
    twice [] [] f = refl
    twice [] (p ∷ picks) f = cc
    twice (c ∷ old) [] f = cc
    twice (c ∷ old) (p ∷ picks) f =
        let here : to_come c ≡ drop col (row_of_map_at_place maps row p) = ap (first-or []) f in
        let others : map to_come old ≡ map (λ p. drop col (row_of_map_at_place maps row p)) picks = ap (drop 1) f in
        ap (λ l. l ∷ map (λ c. drop n (to_come c)) old) (ap (drop n) here ∙ drop-drop n col (row_of_map_at_place maps row p)) ∙ ap (λ l. drop (col + n) (row_of_map_at_place maps row p) ∷ l) (twice old picks others)

-- ---- the combinations of a stretch

-- n columns with the same combination
pub stretch : (f : ℕ → Combination) (k : Combination) (col n : ℕ) → ((j : ℕ) → j < n → f (col + j) ≡ k) → map f (range_with_len 0 (col + n)) ≡ map f (range_with_len 0 col) ++ replicate n k
stretch f k col zero same = ap (λ c. map f (range_with_len 0 c)) (add-zero col) ∙ sym (append-nil (map f (range_with_len 0 col)))
stretch f k col (suc n) same =
    let sum : col + suc n ≡ col + n + 1 = omega arith in
    ap (λ c. map f (range_with_len 0 c)) sum ∙ map-range_with_len_more f 0 (col + n) (col + n) (omega arith)
    ∙ ap (λ l. l ++ f (col + n) ∷ []) (stretch f k col n (λ j h. same j (omega arith)))
    ∙ ap (λ x. (map f (range_with_len 0 col) ++ replicate n k) ++ x ∷ []) (same n (omega arith))
    ∙ append_assoc (map f (range_with_len 0 col)) (replicate n k) (k ∷ []) ∙ ap (λ l. map f (range_with_len 0 col) ++ l) (sym (replicate-more n k))
  where
    replicate-more : (n : ℕ) (x : Combination) → replicate (suc n) x ≡ replicate n x ++ x ∷ []
    replicate-more zero x = refl
    replicate-more (suc n) x = ap (λ (l : List Combination). x ∷ l) (replicate-more n x)

pub kept-replicate : (skip : Skip) (q : Combination) (n : ℕ) (b : Bool) → combination_is_left_out skip q ≡ b → kept_cells skip (replicate n q) ≡ cond b [] (replicate n q)
kept-replicate skip q zero true l = refl
kept-replicate skip q zero false l = refl
kept-replicate skip q (suc n) true l = rw l (kept-replicate skip q n true l)
kept-replicate skip q (suc n) false l = rw l (ap (λ (z : List Combination). q ∷ z) (kept-replicate skip q n false l))

-- ---- all cells so far

range_more : (a n j : ℕ) → a + n ≡ j → range_with_len a (suc n) ≡ range_with_len a n ++ j ∷ []
range_more a zero j e = ap (λ (k : ℕ). k ∷ []) (omega arith)
range_more a (suc n) j e = ap (λ (l : List ℕ). a ∷ l) (range_more (a + 1) n j (omega arith))

module _ (maps : List Grid) (picks : List ℕ) (cols : ℕ) where
  -- one more row appends its combinations
  pub all_combinations_more : (r : ℕ) → all_combinations maps picks (suc r) cols ≡ all_combinations maps picks r cols ++ row_combinations maps picks cols r
  all_combinations_more r =
      ap (flat_map (row_combinations maps picks cols)) (range_more 0 r r (omega arith))
      ∙ flat_map-append (row_combinations maps picks cols) (range_with_len 0 r) (r ∷ [])
      ∙ ap (λ (l : List Combination). all_combinations maps picks r cols ++ l) (append-nil (row_combinations maps picks cols r))

  pub length_all : (r : ℕ) → length (all_combinations maps picks r cols) ≡ r * cols
  length_all zero = omega arith
  length_all (suc r) =
      rw (all_combinations_more r) (omega (arith, length-append (all_combinations maps picks r cols) (row_combinations maps picks cols r), length_all r, length-map-range_with_len (combination_at_row_and_column maps picks r) 0 cols))
