-- A list with an element found for each index.
use Rattle.std.proofs.Common.{◌≡◌, ℕ, zero, suc, ◌<◌, List, [], ◌∷◌, length, get_or, refl, ap, arith}

-- a list of n elements in which each element has the property of its index
pub record Found {X : Type 0} (P : ℕ → X → Type 0) (n : ℕ) : Type 0 where
  pub all : List X
  pub many : length all ≡ n
  pub each : (k : ℕ) (d : X) → k < n → P k (get_or all k d)

pub found : {X : Type 0} (P : ℕ → X → Type 0) (n : ℕ) → ((k : ℕ) → k < n → (x : X) × P k x) → Found P n
found {X} P zero some = record { all = []; many = refl; each = λ k d lt. absurd (omega (arith, lt)) }
found {X} P (suc n) some =
    let first = some 0 (omega arith) in
    let rest = found (λ k x. P (suc k) x) n (λ k lt. some (suc k) (omega (arith, lt))) in
    record { all = first.0 ∷ rest.all; many = ap suc rest.many; each = at first.0 first.1 rest }
  where
    at : (x : X) → P 0 x → (rest : Found (λ k y. P (suc k) y) n) → (k : ℕ) (d : X) → k < suc n → P k (get_or (x ∷ rest.all) k d)
    at x is rest zero d lt = is
    at x is rest (suc k) d lt = rest.each k d (omega (arith, lt))
