-- Lengths laid end to end, and the length in which a number lies.
use Rattle.std.proofs.Common.{◌≡◌, ℕ, zero, suc, ◌+◌, ◌-◌, ◌<◌, ◌≤◌, List, [], ◌∷◌, take, length, get_or, ap, sym, ◌∙◌, arith, subst, ⊎_elim, ltb}
use Rattle.std.specs.Prelude.{sum}
use Rattle.std.proofs.lemmas.Bool.{cases_lt, cond-true, cond-false, lt-ltb, le-ltb}
use Rattle.std.proofs.lemmas.List.Sums.{sum_by-cons}
use Rattle.cell_join_tiles.specs.Beginnings.{place_of_interval_containing}

pub sum-cons : (n : ℕ) (ns : List ℕ) → sum (n ∷ ns) ≡ n + sum ns
sum-cons n ns = sum_by-cons (λ (k : ℕ). k) n ns

here : (n : ℕ) (ns : List ℕ) (x : ℕ) → x < n → place_of_interval_containing (n ∷ ns) x ≡ 0
here n ns x lt = cond-true (ltb x n) 0 (suc (place_of_interval_containing ns (x - n))) (lt-ltb x n lt)

later : (n : ℕ) (ns : List ℕ) (x : ℕ) → n ≤ x → place_of_interval_containing (n ∷ ns) x
    ≡ suc (place_of_interval_containing ns (x - n))
later n ns x le = cond-false (ltb x n) 0 (suc (place_of_interval_containing ns (x - n))) (le-ltb x n le)

-- a number lies in the i-th stretch
pub record Lies (ns : List ℕ) (x i : ℕ) : Type 0 where
  pub inside : i < length ns
  pub low : sum (take i ns) ≤ x
  pub high : x < sum (take i ns) + get_or ns i 0

pub lies : (ns : List ℕ) (x : ℕ) → x < sum ns → Lies ns x (place_of_interval_containing ns x)
lies [] x lt = absurd (omega (arith, lt))
lies (n ∷ ns) x lt =
    ⊎_elim
    (λ at. subst (Lies (n ∷ ns) x) (sym (here n ns x at)) (record { inside = omega arith; low = omega arith; high = omega (arith, at) }))
    (λ past. subst (Lies (n ∷ ns) x) (sym (later n ns x past)) (next past (lies ns (x - n) (omega (arith, past, lt, sum-cons n ns)))))
    (cases_lt x n)
  where
    next : n ≤ x → Lies ns (x - n) (place_of_interval_containing ns (x - n))
        → Lies (n ∷ ns) x (suc (place_of_interval_containing ns (x - n)))
    next past rest =
        let k = place_of_interval_containing ns (x - n) in
        record {
          inside = omega (arith, rest.inside);
          low = omega (arith, rest.low, past, sum-cons n (take k ns));
          high = omega (arith, rest.high, past, sum-cons n (take k ns));
        }

-- a number lies in only one stretch
pub stretch-is : (ns : List ℕ) (i x : ℕ) → Lies ns x i → place_of_interval_containing ns x ≡ i
stretch-is [] i x h = absurd (omega (arith, h.inside))
stretch-is (n ∷ ns) zero x h = here n ns x (omega (arith, h.high))
stretch-is (n ∷ ns) (suc i) x h =
    let from = sum-cons n (take i ns) in
    later n ns x (omega (arith, h.low, from)) ∙ ap suc (stretch-is ns i (x - n) (record {
      inside = omega (arith, h.inside);
      low = omega (arith, h.low, from);
      high = omega (arith, h.high, from);
    }))

-- a stretch ends before a later one begins
pub ends-before : (ns : List ℕ) (i k : ℕ) → i < k → k ≤ length ns → sum (take i ns) + get_or ns i 0 ≤ sum (take k ns)
ends-before [] i k lt le = absurd (omega (arith, lt, le))
ends-before (n ∷ ns) i zero lt le = absurd (omega (arith, lt))
ends-before (n ∷ ns) zero (suc k) lt le = omega (arith, sum-cons n (take k ns))
ends-before (n ∷ ns) (suc i) (suc k) lt le = omega (arith, ends-before ns i k (omega (arith, lt)) (omega (arith, le)), sum-cons n (take i ns), sum-cons n (take k ns))
