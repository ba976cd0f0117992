-- Combinations stored side by side.
use Rattle.std.proofs.Common.{◌≡◌, ℕ, zero, suc, ◌+◌, ◌*◌, ◌<◌, ◌≤◌, ◌++◌, List, [], ◌∷◌, Bool, true, false, cond, length, take, drop, get_or, set, refl, ap, sym, ◌∙◌, arith, length-drop, take_all}
use Rattle.std.proofs.Math.Nat.{suc-mul}
use Rattle.std.proofs.Math.Seq.{drop-drop}
use Rattle.std.proofs.lemmas.List.{take-append-le, drop-append-le}
use Rattle.std.proofs.lemmas.List.Sums.{sum_by_push, sum_by-set, get_or-le-sum_by}
use Rattle.cell_core.specs.Grid.{CellValue}
use Rattle.cell_stats_combinations.specs.Combinations.{Combination}
use Rattle.cell_stats_combinations.specs.Listed.{CombinationCounts, entry_count_of_combination}
use Rattle.cell_stats_combinations.specs.Listed.{listed_count_of_combination}
use Rattle.cell_stats_combinations.specs.parts.Same.{are_same_combination}
use Rattle.cell_stats_combinations.specs.SideBySide.{counted_combinations_of_flat_list}
use Rattle.cell_stats_combinations.proofs.GatheredLemmas.{entry-own, cond-add}

pub length-side : (w : ℕ) (cells : List CellValue) (ns : List ℕ)
    → length (counted_combinations_of_flat_list w cells ns) ≡ length ns
length-side w cells [] = refl
length-side w cells (n ∷ ns) = ap suc (length-side w (drop w cells) ns)

-- the combination at the next place is one width further on
key-next : (w i : ℕ) (cells : List CellValue) → take w (drop (i * w) (drop w cells)) ≡ take w (drop (suc i * w) cells)
key-next w i cells =
    let same : w + i * w ≡ suc i * w = omega (arith, suc-mul i w) in
    ap (take w) (drop-drop (i * w) w cells ∙ ap (λ n. drop n cells) same)

zero-times : (n : ℕ) → 0 ≡ 0 * n
zero-times n = grind arith

key-first : (w : ℕ) (cells : List CellValue) → take w cells ≡ take w (drop (0 * w) cells)
key-first w cells = ap (λ n. take w (drop n cells)) (zero-times w)

pub side-at : (w : ℕ) (cells : List CellValue) (ns : List ℕ) (i : ℕ) (d : Combination × ℕ) (e : ℕ) → i < length ns
    → get_or (counted_combinations_of_flat_list w cells ns) i d ≡ (take w (drop (i * w) cells), get_or ns i e)
side-at w cells [] i d e within = absurd (omega (arith, within))
side-at w cells (n ∷ ns) zero d e within = ap (λ (k : Combination). (k, n)) (key-first w cells)
side-at w cells (n ∷ ns) (suc i) d e within =
    side-at w (drop w cells) ns i d e (omega (arith, within)) ∙ ap (λ (k : Combination). (k, get_or ns i e)) (key-next w i cells)

-- setting a count sets it in the entries side by side
pub side-set : (w : ℕ) (cells : List CellValue) (ns : List ℕ) (i m : ℕ) → i < length ns
    → counted_combinations_of_flat_list w cells (set ns i m) ≡ set (counted_combinations_of_flat_list w cells ns) i
    (take w (drop (i * w) cells), m)
side-set w cells [] i m within = absurd (omega (arith, within))
side-set w cells (n ∷ ns) zero m within =
    ap (λ (k : Combination). (k, m) ∷ counted_combinations_of_flat_list w (drop w cells) ns) (key-first w cells)
side-set w cells (n ∷ ns) (suc i) m within =
    ap (λ (l : CombinationCounts). (take w cells, n) ∷ l) (side-set w (drop w cells) ns i m (omega (arith, within))
    ∙ ap (λ (k : Combination). set (counted_combinations_of_flat_list w (drop w cells) ns) i (k, m))
    (key-next w i cells))

-- appending a combination and its count appends an entry
pub side-push : (w : ℕ) (cells key : List CellValue) (ns : List ℕ) (n : ℕ) → length cells ≡ length ns * w → length key ≡ w
    → counted_combinations_of_flat_list w (cells ++ key) (ns ++ n ∷ []) ≡ counted_combinations_of_flat_list w cells ns
    ++ (key, n) ∷ []
side-push w cells key [] n side wide =
    let none : cells ≡ [] = nothing cells (side ∙ sym (zero-times w)) in
    ap (λ (l : List CellValue). (take w (l ++ key), n) ∷ []) none
    ∙ ap (λ (k : Combination). (k, n) ∷ []) (take_all w key (omega (arith, wide)))
  where
    nothing : (xs : List CellValue) → length xs ≡ 0 → xs ≡ []
    nothing [] e = refl
    nothing (x ∷ xs) e = absurd (omega (arith, e))
side-push w cells key (m ∷ ns) n side wide =
    let long : length cells ≡ length ns * w + w = side ∙ suc-mul (length ns) w in
    let enough : w ≤ length cells = omega (arith, long) in
    let rest : length (drop w cells) ≡ length ns * w = omega (arith, long, length-drop w cells) in
    ap (λ (k : Combination). (k, m) ∷ counted_combinations_of_flat_list w (drop w (cells ++ key)) (ns ++ n ∷ [])) (take-append-le w cells key enough)
    ∙ ap (λ (l : List CellValue). (take w cells, m) ∷ counted_combinations_of_flat_list w l (ns ++ n ∷ [])) (drop-append-le w cells key enough)
    ∙ ap (λ (l : CombinationCounts). (take w cells, m) ∷ l) (side-push w (drop w cells) key ns n rest wide)

-- appending a new combination adds its count
pub gathered-push : (k : Combination) (w : ℕ) (key cells : List CellValue) (ns : List ℕ) (n : ℕ) → length cells ≡ length ns * w
    → length key ≡ w → listed_count_of_combination k (counted_combinations_of_flat_list w (cells ++ key) (ns ++ n ∷ []))
    ≡ listed_count_of_combination k (counted_combinations_of_flat_list w cells ns) + cond
    (are_same_combination k key) n 0
gathered-push k w key cells ns n side wide =
    ap (listed_count_of_combination k) (side-push w cells key ns n side wide) ∙ sum_by_push (entry_count_of_combination k) (counted_combinations_of_flat_list w cells ns) (key, n)

module _ (k : Combination) (w : ℕ) (cells : List CellValue) (ns : List ℕ) (at : ℕ) (key : List CellValue) (within : at < length ns)
    (same : key ≡ take w (drop (at * w) cells)) where
  inside : at < length (counted_combinations_of_flat_list w cells ns)
  inside = omega (arith, within, length-side w cells ns)

  -- replacing the count of a place takes the old count away and adds the new one
  turned : (m : ℕ) → listed_count_of_combination k (counted_combinations_of_flat_list w cells (set ns at m)) + cond
      (are_same_combination k key) (get_or ns at 0) 0
      ≡ listed_count_of_combination k (counted_combinations_of_flat_list w cells ns) + cond
      (are_same_combination k key) m 0
  turned m =
      let all = counted_combinations_of_flat_list w cells ns in
      let there = side-at w cells ns at ([], 0) 0 within in
      let sums = sum_by-set (entry_count_of_combination k) all at (take w (drop (at * w) cells), m) ([], 0) inside in
      let new = ap (listed_count_of_combination k) (side-set w cells ns at m within) in
      let was = ap (entry_count_of_combination k) there in
      let old = ap (λ x. cond (are_same_combination k x) (get_or ns at 0) 0) same in
      let now = ap (λ x. cond (are_same_combination k x) m 0) same in
      omega (arith, sums, new, was, old, now)

  -- setting the count of a place to 0 takes its count away
  pub gathered-set : listed_count_of_combination k (counted_combinations_of_flat_list w cells (set ns at 0)) + cond
      (are_same_combination k key) (get_or ns at 0) 0
      ≡ listed_count_of_combination k (counted_combinations_of_flat_list w cells ns)
  gathered-set = let none : ℕ = 0 in omega (arith, turned none, nothing (are_same_combination k key) none refl)
    where
      nothing : (b : Bool) (m : ℕ) → m ≡ 0 → cond b m 0 ≡ 0
      nothing true m e = e
      nothing false m e = refl

  -- raising the count of a place raises the count of its combination
  pub gathered-more : (n : ℕ) → listed_count_of_combination k (counted_combinations_of_flat_list w cells
      (set ns at (get_or ns at 0 + n)))
      ≡ listed_count_of_combination k (counted_combinations_of_flat_list w cells ns) + cond
      (are_same_combination k key) n 0
  gathered-more n = omega (arith, turned (get_or ns at 0 + n), cond-add (are_same_combination k key) (get_or ns at 0) n)

  -- the count of a place is at most the count of its combination
  pub gathered-least : k ≡ key → get_or ns at 0 ≤ listed_count_of_combination k
      (counted_combinations_of_flat_list w cells ns)
  gathered-least own =
      let all = counted_combinations_of_flat_list w cells ns in
      let there = side-at w cells ns at ([], 0) 0 within in
      let least = get_or-le-sum_by (entry_count_of_combination k) all at ([], 0) inside in
      omega (arith, least, ap (entry_count_of_combination k) there, entry-own k (take w (drop (at * w) cells), get_or ns at 0) (sym (own ∙ same)))
