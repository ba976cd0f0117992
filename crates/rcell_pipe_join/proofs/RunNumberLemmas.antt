-- The runs of tiles represent the numbers from which they were made.
use Rattle.std.proofs.Common.{◌≡◌, ℕ, zero, suc, ◌+◌, ◌-◌, ◌≤◌, ◌==◌, List, [], ◌∷◌, ◌++◌, length, take, drop, sum}
use Rattle.std.proofs.Common.{Bool, true, false, cond, refl, ap, ◌∙◌, arith, append_assoc}
use Rattle.std.proofs.Common.{length-drop, flat_map}
use Rattle.std.specs.List.{range_with_len}
use Rattle.std.proofs.lemmas.Bool.Decides.{Decides-eqb}
use Rattle.std.proofs.lemmas.List.{take-append-drop}
use Rattle.std.proofs.lemmas.List.Concat.{flat_map-append}
use Rattle.std.proofs.lemmas.List.Sums.{sum_by-cons}
use Rattle.cell_join_numbers.specs.declared.stretch.ConsecutiveClumps.{ConsecutiveClumps}
use Rattle.cell_join_numbers.specs.Stretches.{consecutive_clumps_from_unfinished, consecutive_clumps_from_tile}
use Rattle.cell_join_numbers.specs.Stretches.{consecutive_clumps_of_tile, consecutive_clumps_of_all_tiles}

abbrev numbers_of : List ConsecutiveClumps → List ℕ
numbers_of runs = flat_map (λ (run : ConsecutiveClumps). range_with_len run.number (run.last + 1 - run.first)) runs

range-push : (n count : ℕ) → range_with_len n (suc count) ≡ range_with_len n count ++ ((n + count) ∷ [])
range-push n zero = ap (λ (k : ℕ). k ∷ []) (omega arith)
range-push n (suc count) =
    ap (λ (l : List ℕ). n ∷ l) (range-push (n + 1) count
    ∙ ap (λ (k : ℕ). range_with_len (n + 1) count ++ (k ∷ [])) (omega arith))

abbrev one : (tile first last number : ℕ) → ConsecutiveClumps
one tile first last number = record { tile = tile; first = first; last = last; number = number }

behind : (ns : List ℕ) (tile first last number previous : ℕ) → first ≤ last → previous ≡ number + (last - first)
    → numbers_of (consecutive_clumps_from_unfinished tile first last number previous ns)
    ≡ range_with_len number (last + 1 - first) ++ ns
behind [] tile first last number previous up is = refl
behind (n ∷ ns) tile first last number previous up is =
    by (n == previous + 1) refl
    (λ (same : n ≡ previous + 1).
    behind ns tile first (last + 1) number n (omega (arith, up)) (omega (arith, up, is, same)))
    (behind ns tile (last + 1) (last + 1) n n (omega arith) (omega arith))
  where
    by : (t : Bool) → (n == previous + 1) ≡ t
        → (n ≡ previous + 1 → numbers_of (consecutive_clumps_from_unfinished tile first (last + 1) number n ns)
        ≡ range_with_len number (last + 1 + 1 - first) ++ ns)
        → numbers_of (consecutive_clumps_from_unfinished tile (last + 1) (last + 1) n n ns)
        ≡ range_with_len n (last + 1 + 1 - (last + 1)) ++ ns
        → numbers_of (cond t (consecutive_clumps_from_unfinished tile first (last + 1) number n ns)
        (one tile first last number ∷ consecutive_clumps_from_unfinished tile (last + 1) (last + 1) n n ns))
        ≡ range_with_len number (last + 1 - first) ++ (n ∷ ns)
    by true next more anew =
        let same : n ≡ previous + 1 = (Decides-eqb n (previous + 1)).0 next in
        let long : last + 1 + 1 - first ≡ suc (last + 1 - first) = omega arith in
        let own : number + (last + 1 - first) ≡ n = omega (arith, up, is, same) in
        more same
        ∙ ap (λ (k : ℕ). range_with_len number k ++ ns) long
        ∙ ap (λ (l : List ℕ). l ++ ns) (range-push number (last + 1 - first))
        ∙ append_assoc (range_with_len number (last + 1 - first)) ((number + (last + 1 - first)) ∷ []) ns
        ∙ ap (λ (k : ℕ). range_with_len number (last + 1 - first) ++ (k ∷ ns)) own
    by false next more anew =
        let single : last + 1 + 1 - (last + 1) ≡ 1 = omega arith in
        ap (λ (l : List ℕ). range_with_len number (last + 1 - first) ++ l)
        (anew ∙ ap (λ (k : ℕ). range_with_len n k ++ ns) single)

in-tile : (tile : ℕ) (ns : List ℕ) → numbers_of (consecutive_clumps_of_tile tile ns) ≡ ns
in-tile tile [] = refl
in-tile tile (n ∷ ns) = behind ns tile 1 1 n n (omega arith) (omega arith)

of-tiles : (clumps : List ℕ) (tile : ℕ) (numbers : List ℕ) → length numbers ≡ sum clumps
    → numbers_of (consecutive_clumps_from_tile tile clumps numbers) ≡ numbers
of-tiles [] tile [] same = refl
of-tiles [] tile (n ∷ ns) same = absurd (omega arith)
of-tiles (count ∷ clumps) tile numbers same =
    let total : sum (count ∷ clumps) ≡ count + sum clumps = sum_by-cons (λ (x : ℕ). x) count clumps in
    flat_map-append (λ (run : ConsecutiveClumps). range_with_len run.number (run.last + 1 - run.first))
    (consecutive_clumps_of_tile tile (take count numbers)) (consecutive_clumps_from_tile (tile + 1) clumps
    (drop count numbers))
    ∙ (λ i. in-tile tile (take count numbers) i
    ++ of-tiles clumps (tile + 1) (drop count numbers) (omega (arith, length-drop count numbers)) i)
    ∙ take-append-drop count numbers

-- the numbers of all runs, one run after another
pub runs-represent : (clumps numbers : List ℕ) → length numbers ≡ sum clumps
    → numbers_of (consecutive_clumps_of_all_tiles clumps numbers) ≡ numbers
runs-represent clumps numbers same = of-tiles clumps 1 numbers same
