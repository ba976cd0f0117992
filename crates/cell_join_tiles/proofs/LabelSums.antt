-- Sums of the first n terms, and the two consecutive sums between which a number lies.
use Rattle.std.proofs.Common.{◌≡◌, ℕ, zero, suc, ◌+◌, ◌<◌, ◌≤◌, List, [], ◌∷◌, take, length, get_or, arith, ⊎_elim}
use Rattle.std.specs.Prelude.{sum, sum_by}
use Rattle.std.proofs.lemmas.Bool.{cases_lt}
use Rattle.std.proofs.lemmas.List.Sums.{sum_by-cons}
use Rattle.cell_join_tiles.specs.Beginnings.{BegunClumpCountsByRow, clump_count_of_tile_row}
use Rattle.cell_join_tiles.specs.Beginnings.{begun_clump_count_before_row}
use Rattle.cell_join_tiles.specs.Beginnings.{begun_clump_count_above_in_tiles}
use Rattle.cell_join_tiles.proofs.StretchLemmas.{sum-cons}

-- ---- sums of any terms

module _ {X : Type 0} (f : X → ℕ) where
  pub more-le : (xs : List X) (i k : ℕ) → i ≤ k → sum_by f (take i xs) ≤ sum_by f (take k xs)
  more-le xs zero k le = omega arith
  more-le [] (suc i) k le = omega arith
  more-le (x ∷ xs) (suc i) zero le = absurd (omega (arith, le))
  more-le (x ∷ xs) (suc i) (suc k) le = omega (arith, sum_by-cons f x (take i xs), sum_by-cons f x (take k xs), more-le xs i k (omega (arith, le)))

  pub next-one : (xs : List X) (i : ℕ) (d : X) → i < length xs → sum_by f (take (suc i) xs) ≡ sum_by f (take i xs) + f (get_or xs i d)
  next-one [] i d lt = absurd (omega (arith, lt))
  next-one (x ∷ xs) zero d lt = omega (arith, sum_by-cons f x (take 0 xs))
  next-one (x ∷ xs) (suc i) d lt = omega (arith, sum_by-cons f x (take (suc i) xs), sum_by-cons f x (take i xs), next-one xs i d (omega (arith, lt)))

  pub all-of : (xs : List X) (n : ℕ) → length xs ≤ n → sum_by f (take n xs) ≡ sum_by f xs
  all-of [] zero le = omega arith
  all-of [] (suc n) le = omega arith
  all-of (x ∷ xs) zero le = absurd (omega (arith, le))
  all-of (x ∷ xs) (suc n) le = omega (arith, sum_by-cons f x (take n xs), sum_by-cons f x xs, all-of xs n (omega (arith, le)))

-- a number lies between two consecutive sums
pub record Between (f : ℕ → ℕ) (n x : ℕ) : Type 0 where
  pub at : ℕ
  pub inside : at < n
  pub low : f at ≤ x
  pub high : x < f (suc at)

pub between : (f : ℕ → ℕ) (n x : ℕ) → f 0 ≤ x → x < f n → Between f n x
between f zero x low high = absurd (omega (arith, low, high))
between f (suc n) x low high =
    ⊎_elim
    (λ lt. let t = between f n x low lt in record { at = t.at; inside = omega (arith, t.inside); low = t.low; high = t.high })
    (λ past. record { at = n; inside = omega arith; low = past; high = high })
    (cases_lt x (f n))

-- ---- clumps that begin

-- the count before the next row is the count before this row plus the count in this row
pub begun-next : (begun : BegunClumpCountsByRow) (i : ℕ) → begun_clump_count_before_row begun (suc i)
    ≡ begun_clump_count_before_row begun i + get_or begun i 0
begun-next [] zero = omega arith
begun-next [] (suc i) = omega arith
begun-next (n ∷ begun) zero = omega (arith, sum-cons n (take 0 begun))
begun-next (n ∷ begun) (suc i) = omega (arith, sum-cons n (take (suc i) begun), sum-cons n (take i begun), begun-next begun i)

abbrev pub in_line : List BegunClumpCountsByRow → ℕ → ℕ
in_line tiles i = sum_by (λ begun. get_or begun i 0) tiles

pub above-next : (tiles : List BegunClumpCountsByRow) (i : ℕ)
    → begun_clump_count_above_in_tiles tiles (suc i) ≡ begun_clump_count_above_in_tiles tiles i + in_line tiles i
above-next [] i = omega arith
above-next (t ∷ tiles) i =
    omega (
      arith,
      sum_by-cons (λ (begun : BegunClumpCountsByRow). begun_clump_count_before_row begun (suc i)) t tiles,
      sum_by-cons (λ (begun : BegunClumpCountsByRow). begun_clump_count_before_row begun i) t tiles,
      sum_by-cons (λ (begun : BegunClumpCountsByRow). get_or begun i 0) t tiles,
      begun-next t i,
      above-next tiles i,
    )

pub above-le : (tiles : List BegunClumpCountsByRow) (i k : ℕ) → i ≤ k
    → begun_clump_count_above_in_tiles tiles i ≤ begun_clump_count_above_in_tiles tiles k
above-le [] i k le = omega arith
above-le (t ∷ tiles) i k le =
    omega (
      arith,
      sum_by-cons (λ (begun : BegunClumpCountsByRow). begun_clump_count_before_row begun i) t tiles,
      sum_by-cons (λ (begun : BegunClumpCountsByRow). begun_clump_count_before_row begun k) t tiles,
      more-le (λ (n : ℕ). n) t i k le,
      above-le tiles i k le,
    )

pub above-none : (tiles : List BegunClumpCountsByRow) → begun_clump_count_above_in_tiles tiles 0 ≡ 0
above-none [] = omega arith
above-none (t ∷ tiles) = omega (
  arith,
  sum_by-cons (λ (begun : BegunClumpCountsByRow). begun_clump_count_before_row begun
      0) t tiles,
  above-none tiles,
)

pub above-whole : (tiles : List BegunClumpCountsByRow) (n : ℕ) → ((c : ℕ) → c < length tiles → length (get_or tiles c []) ≤ n) → begun_clump_count_above_in_tiles tiles n ≡ clump_count_of_tile_row tiles
above-whole [] n short = omega arith
above-whole (t ∷ tiles) n short =
    omega (
      arith,
      sum_by-cons (λ (begun : BegunClumpCountsByRow). begun_clump_count_before_row begun n) t tiles,
      sum_by-cons (λ (begun : BegunClumpCountsByRow). sum begun) t tiles,
      all-of (λ (k : ℕ). k) t n (short 0 (omega arith)),
      above-whole tiles n (λ c lt. short (suc c) (omega (arith, lt))),
    )
