-- The next clump extends a run, or begins a new one.
use Rattle.std.proofs.Common.{◌≡◌, ℕ, ◌+◌, List, ◌∷◌, Bool, true, false, cond, ◌==◌, ap}
use Rattle.cell_join_numbers.specs.declared.stretch.ConsecutiveClumps.{ConsecutiveClumps}
use Rattle.cell_join_numbers.specs.Stretches.{consecutive_clumps_from_unfinished}

module _ (tile first last number previous n : ℕ) (ns : List ℕ) where
  abbrev here : ConsecutiveClumps
  here = record { tile = tile; first = first; last = last; number = number }

  pub goes-on : (n == previous + 1) ≡ true → consecutive_clumps_from_unfinished tile first last number previous (n ∷ ns) ≡ consecutive_clumps_from_unfinished tile first (last + 1) number n ns
  goes-on e = ap (λ (b : Bool). cond b (consecutive_clumps_from_unfinished tile first (last + 1) number n ns) (here ∷ consecutive_clumps_from_unfinished tile (last + 1) (last + 1) n n ns)) e

  pub begins-anew : (n == previous + 1) ≡ false → consecutive_clumps_from_unfinished tile first last number previous (n ∷ ns) ≡ here ∷ consecutive_clumps_from_unfinished tile (last + 1) (last + 1) n n ns
  begins-anew e = ap (λ (b : Bool). cond b (consecutive_clumps_from_unfinished tile first (last + 1) number n ns) (here ∷ consecutive_clumps_from_unfinished tile (last + 1) (last + 1) n n ns)) e
