-- The number of a tile's patch that is found in the runs of all tiles.
use Rattle.std.proofs.Common.{◌≡◌, ◌∙◌, ℕ, zero, suc, ◌+◌, ◌-◌, ◌<◌, ◌≤◌, ◌==◌, Bool, true, false, List, [], ◌∷◌}
use Rattle.std.proofs.Common.{◌++◌, Some, length, take, drop, get_or, sum, refl, ap, sym, arith, ⊎_elim, length-drop}
use Rattle.std.proofs.Common.{cond}
use Rattle.std.proofs.lemmas.Bool.{cases_eq, cond-false, cond-true}
use Rattle.std.proofs.lemmas.Bool.Decides.{Decides-eqb}
use Rattle.std.proofs.lemmas.Grind.{common_steps}
use Rattle.std.proofs.lemmas.List.{get_or-drop, get_or-take, length-take-le}
use Rattle.std.proofs.lemmas.List.Sums.{sum_by-cons}
use Rattle.cell_join_numbers.specs.declared.stretch.ConsecutiveClumps.{ConsecutiveClumps}
use Rattle.cell_join_numbers.specs.Stretches.{consecutive_clumps_from_unfinished, consecutive_clumps_from_tile}
use Rattle.cell_join_numbers.specs.Stretches.{consecutive_clumps_of_tile, consecutive_clumps_of_all_tiles}
use Rattle.cell_join_patches.specs.PatchNumbers.{number_in_full_map, number_in_run, run_has_patch}

-- ---- runs one after another

found-here : (run : ConsecutiveClumps) (runs : List ConsecutiveClumps) (tile k : ℕ) → run_has_patch tile k run ≡ true
    → number_in_full_map (run ∷ runs) tile k ≡ Some (number_in_run k run)
found-here run runs tile k has =
    cond-true (run_has_patch tile k run) (Some (number_in_run k run)) (number_in_full_map runs tile k) has

found-later : (run : ConsecutiveClumps) (runs : List ConsecutiveClumps) (tile k : ℕ)
    → run_has_patch tile k run ≡ false → number_in_full_map (run ∷ runs) tile k ≡ number_in_full_map runs tile k
found-later run runs tile k lacks =
    cond-false (run_has_patch tile k run) (Some (number_in_run k run)) (number_in_full_map runs tile k) lacks

found-first : (xs ys : List ConsecutiveClumps) (tile k n : ℕ) → number_in_full_map xs tile k ≡ Some n
    → number_in_full_map (xs ++ ys) tile k ≡ Some n
found-first [] ys tile k n is = cc
found-first (run ∷ xs) ys tile k n is = by (run_has_patch tile k run) refl (found-first xs ys tile k n)
  where
    by : (b : Bool) → run_has_patch tile k run ≡ b
        → (number_in_full_map xs tile k ≡ Some n → number_in_full_map (xs ++ ys) tile k ≡ Some n)
        → number_in_full_map (run ∷ xs ++ ys) tile k ≡ Some n
    by true has rest = found-here run (xs ++ ys) tile k has ∙ sym (found-here run xs tile k has) ∙ is
    by false lacks rest = found-later run (xs ++ ys) tile k lacks ∙ rest (sym (found-later run xs tile k lacks) ∙ is)

-- ---- the runs of a tile

abbrev one : (tile first last number : ℕ) → ConsecutiveClumps
one tile first last number = record { tile = tile; first = first; last = last; number = number }

one-has : (tile first last number k : ℕ) → first ≤ k → k ≤ last
    → run_has_patch tile k (one tile first last number) ≡ true
one-has tile first last number k low high = grind (arith, common_steps, low, high)

one-lacks : (tile first last number k : ℕ) → last < k → run_has_patch tile k (one tile first last number) ≡ false
one-lacks tile first last number k past = grind (arith, common_steps, past)

other-lacks : (tile other first last number k : ℕ) → (other ≡ tile → ⊥)
    → run_has_patch tile k (one other first last number) ≡ false
other-lacks tile other first last number k apart = grind (arith, common_steps, apart)

-- the next number extends the run, or begins a run
abbrev runs_with : (tile first last number n : ℕ) → List ℕ → Bool → List ConsecutiveClumps
runs_with tile first last number n ns b =
    cond b (consecutive_clumps_from_unfinished tile first (last + 1) number n ns)
    (one tile first last number ∷ consecutive_clumps_from_unfinished tile (last + 1) (last + 1) n n ns)

-- the clumps of the unfinished run have the numbers that follow its number
in-unfinished : (ns : List ℕ) (tile first last number previous k : ℕ) → first ≤ k → k ≤ last
    → number_in_full_map (consecutive_clumps_from_unfinished tile first last number previous ns) tile k
    ≡ Some (number + (k - first))
in-unfinished [] tile first last number previous k low high =
    found-here (one tile first last number) [] tile k (one-has tile first last number k low high)
in-unfinished (n ∷ ns) tile first last number previous k low high =
    by (n == previous + 1) (in-unfinished ns tile first (last + 1) number n k low (omega (arith, high)))
  where
    by : (b : Bool)
        → number_in_full_map (consecutive_clumps_from_unfinished tile first (last + 1) number n ns) tile k
        ≡ Some (number + (k - first))
        → number_in_full_map (runs_with tile first last number n ns b) tile k ≡ Some (number + (k - first))
    by true rest = rest
    by false rest =
        found-here (one tile first last number)
        (consecutive_clumps_from_unfinished tile (last + 1) (last + 1) n n ns) tile k
        (one-has tile first last number k low high)

-- the next clumps have the next numbers
after-unfinished : (ns : List ℕ) (tile first last number previous k : ℕ) → first ≤ last
    → previous ≡ number + (last - first) → last < k → k - last - 1 < length ns
    → number_in_full_map (consecutive_clumps_from_unfinished tile first last number previous ns) tile k
    ≡ Some (get_or ns (k - last - 1) 0)
after-unfinished [] tile first last number previous k up is past few = absurd (omega (arith, few))
after-unfinished (n ∷ ns) tile first last number previous k up is past few =
    ⊎_elim
    (λ (next : k ≡ last + 1).
    let at : k - last - 1 ≡ 0 = omega (arith, next) in
    let fits : (start m : ℕ) → start ≤ last + 1 → m + (last + 1 - start) ≡ n
    → number_in_full_map (consecutive_clumps_from_unfinished tile start (last + 1) m n ns) tile k
    ≡ Some (get_or (n ∷ ns) (k - last - 1) 0) = λ start m low sum.
    let same : m + (k - start) ≡ n = omega (arith, next, sum) in
    in-unfinished ns tile start (last + 1) m n k (omega (arith, low, next)) (omega (arith, next))
    ∙ ap (λ (x : ℕ). Some x) (same ∙ ap (λ (i : ℕ). get_or (n ∷ ns) i 0) (sym at)) in
    by (n == previous + 1) refl
    (λ (same : n ≡ previous + 1). fits first number (omega (arith, up)) (omega (arith, up, is, same)))
    (fits (last + 1) n (omega arith) (omega arith)))
    (λ (apart : k ≡ last + 1 → ⊥).
    let later : last + 1 < k = omega (arith, past, apart) in
    let fewer : k - (last + 1) - 1 < length ns = omega (arith, few, later) in
    let at : k - last - 1 ≡ suc (k - (last + 1) - 1) = omega (arith, later) in
    let move = ap (λ (i : ℕ). Some (get_or (n ∷ ns) i 0)) (sym at) in
    by (n == previous + 1) refl
    (λ (same : n ≡ previous + 1).
    after-unfinished ns tile first (last + 1) number n k (omega (arith, up)) (omega (arith, up, is, same)) later fewer
    ∙ move)
    (after-unfinished ns tile (last + 1) (last + 1) n n k (omega arith) (omega arith) later fewer ∙ move))
    (cases_eq k (last + 1))
  where
    by : (b : Bool) → (n == previous + 1) ≡ b
        → (n ≡ previous + 1
        → number_in_full_map (consecutive_clumps_from_unfinished tile first (last + 1) number n ns) tile k
        ≡ Some (get_or (n ∷ ns) (k - last - 1) 0))
        → number_in_full_map (consecutive_clumps_from_unfinished tile (last + 1) (last + 1) n n ns) tile k
        ≡ Some (get_or (n ∷ ns) (k - last - 1) 0)
        → number_in_full_map (runs_with tile first last number n ns b) tile k
        ≡ Some (get_or (n ∷ ns) (k - last - 1) 0)
    by true next more anew = more ((Decides-eqb n (previous + 1)).0 next)
    by false next more anew =
        found-later (one tile first last number)
        (consecutive_clumps_from_unfinished tile (last + 1) (last + 1) n n ns) tile k
        (one-lacks tile first last number k past)
        ∙ anew

-- clump k of a tile has the number at index k - 1 of the tile's numbers
in-tile : (ns : List ℕ) (tile k : ℕ) → 1 ≤ k → k ≤ length ns
    → number_in_full_map (consecutive_clumps_of_tile tile ns) tile k ≡ Some (get_or ns (k - 1) 0)
in-tile [] tile k low high = absurd (omega (arith, low, high))
in-tile (n ∷ ns) tile k low high =
    ⊎_elim
    (λ (only : k ≡ 1).
    let at : k - 1 ≡ 0 = omega (arith, only) in
    let same : n + (k - 1) ≡ n = omega (arith, only) in
    in-unfinished ns tile 1 1 n n k low (omega (arith, only))
    ∙ ap (λ (x : ℕ). Some x) (same ∙ ap (λ (i : ℕ). get_or (n ∷ ns) i 0) (sym at)))
    (λ (apart : k ≡ 1 → ⊥).
    let past : 1 < k = omega (arith, low, apart) in
    let at : k - 1 ≡ suc (k - 1 - 1) = omega (arith, past) in
    after-unfinished ns tile 1 1 n n k (omega arith) (omega arith) past (omega (arith, high, past))
    ∙ ap (λ (i : ℕ). Some (get_or (n ∷ ns) i 0)) (sym at))
    (cases_eq k 1)

-- ---- the runs of other tiles

module _ (tile other k : ℕ) (apart : other ≡ tile → ⊥) (rest : List ConsecutiveClumps) where
  past-unfinished : (ns : List ℕ) (first last number previous : ℕ)
      → number_in_full_map (consecutive_clumps_from_unfinished other first last number previous ns ++ rest) tile k
      ≡ number_in_full_map rest tile k
  past-unfinished [] first last number previous =
      found-later (one other first last number) rest tile k (other-lacks tile other first last number k apart)
  past-unfinished (n ∷ ns) first last number previous =
      by (n == previous + 1) (past-unfinished ns first (last + 1) number n)
      (past-unfinished ns (last + 1) (last + 1) n n)
    where
      by : (b : Bool)
          → number_in_full_map (consecutive_clumps_from_unfinished other first (last + 1) number n ns ++ rest) tile k
          ≡ number_in_full_map rest tile k
          → number_in_full_map (consecutive_clumps_from_unfinished other (last + 1) (last + 1) n n ns ++ rest) tile k
          ≡ number_in_full_map rest tile k
          → number_in_full_map (runs_with other first last number n ns b ++ rest) tile k
          ≡ number_in_full_map rest tile k
      by true more anew = more
      by false more anew =
          found-later (one other first last number)
          (consecutive_clumps_from_unfinished other (last + 1) (last + 1) n n ns ++ rest) tile k
          (other-lacks tile other first last number k apart)
          ∙ anew

  past-tile : (ns : List ℕ) → number_in_full_map (consecutive_clumps_of_tile other ns ++ rest) tile k
      ≡ number_in_full_map rest tile k
  past-tile [] = refl
  past-tile (n ∷ ns) = past-unfinished ns 1 1 n n

-- ---- all tiles

from-tile : (clumps numbers : List ℕ) (start t k : ℕ) → t < length clumps → 1 ≤ k → k ≤ get_or clumps t 0
    → sum clumps ≤ length numbers
    → number_in_full_map (consecutive_clumps_from_tile start clumps numbers) (start + t) k
    ≡ Some (get_or numbers (sum (take t clumps) + (k - 1)) 0)
from-tile [] numbers start t k lt low high many = absurd (omega (arith, lt))
from-tile (count ∷ clumps) numbers start zero k lt low high many =
    let total = sum_by-cons (λ (x : ℕ). x) count clumps in
    let long : length (take count numbers) ≡ count = length-take-le count numbers (omega (arith, many, total)) in
    let here : start + 0 ≡ start = omega arith in
    let first : k - 1 ≡ 0 + (k - 1) = omega arith in
    let read = get_or-take count numbers (k - 1) 0 (omega (arith, low, high)) in
    found-first (consecutive_clumps_of_tile start (take count numbers))
    (consecutive_clumps_from_tile (start + 1) clumps (drop count numbers)) (start + 0) k
    (get_or numbers (k - 1) 0)
    (ap (λ (tile : ℕ). number_in_full_map (consecutive_clumps_of_tile start (take count numbers)) tile k) here
    ∙ in-tile (take count numbers) start k low (omega (arith, high, long))
    ∙ ap (λ (x : ℕ). Some x) read)
    ∙ ap (λ (i : ℕ). Some (get_or numbers i 0)) first
from-tile (count ∷ clumps) numbers start (suc t) k lt low high many =
    let total = sum_by-cons (λ (x : ℕ). x) count clumps in
    let before = sum_by-cons (λ (x : ℕ). x) count (take t clumps) in
    let long = length-drop count numbers in
    let next : start + suc t ≡ start + 1 + t = omega arith in
    let at : count + (sum (take t clumps) + (k - 1)) ≡ sum (count ∷ take t clumps) + (k - 1) = omega (arith, before) in
    past-tile (start + suc t) start k (λ e. omega (arith, e))
    (consecutive_clumps_from_tile (start + 1) clumps (drop count numbers)) (take count numbers)
    ∙ ap (λ (tile : ℕ).
    number_in_full_map (consecutive_clumps_from_tile (start + 1) clumps (drop count numbers)) tile k) next
    ∙ from-tile clumps (drop count numbers) (start + 1) t k (omega (arith, lt)) low high
    (omega (arith, many, total, long))
    ∙ ap (λ (x : ℕ). Some x) (get_or-drop count numbers (sum (take t clumps) + (k - 1)) 0
    ∙ ap (λ (i : ℕ). get_or numbers i 0) at)

-- the runs of all tiles give clump k of tile t + 1 the number at its index among the clumps of all tiles
pub number-looked-up : (clumps numbers : List ℕ) (t k : ℕ) → t < length clumps → 1 ≤ k → k ≤ get_or clumps t 0
    → length numbers ≡ sum clumps
    → number_in_full_map (consecutive_clumps_of_all_tiles clumps numbers) (t + 1) k
    ≡ Some (get_or numbers (sum (take t clumps) + (k - 1)) 0)
number-looked-up clumps numbers t k lt low high many =
    let tile : t + 1 ≡ 1 + t = omega arith in
    ap (λ (i : ℕ). number_in_full_map (consecutive_clumps_of_all_tiles clumps numbers) i k) tile
    ∙ from-tile clumps numbers 1 t k lt low high (omega (arith, many))
