-- The labels of pairs, each listed once.
use Rattle.std.proofs.Common.{◌≡◌, ℕ, zero, suc, ◌<◌, ◌≤◌, List, [], ◌∷◌, ◌++◌, take, drop, length, get_or, refl, ap, sym, ◌∙◌, arith}
use Rattle.std.specs.Prelude.{All, Contains, sum}
use Rattle.std.proofs.lemmas.List.Sums.{sum_by-cons}
use Rattle.std.proofs.Math.Seq.{take-append_seam}
use Rattle.std.specs.List.{AllPairs}
use Rattle.std.proofs.lemmas.List.{get_or_append_left, get_or_push}
use Rattle.std.proofs.lemmas.List.Elements.{Contains-get_or}
use Rattle.cell_join_numbers.specs.UnionFind.{AreRootsOfLabels}
use Rattle.cell_join_numbers.specs.SparseLabels.{IncludesLabelsOfPairs}
use Rattle.cell_join_numbers.specs.SparseNumbers.{labels_of_pairs, AreLabelsOfPairs}

pub labels-append : (xs ys : List (ℕ × ℕ)) → labels_of_pairs (xs ++ ys) ≡ labels_of_pairs xs ++ labels_of_pairs ys
labels-append [] ys = refl
labels-append (x ∷ xs) ys = ap (λ (l : List ℕ). x.0 ∷ x.1 ∷ l) (labels-append xs ys)

pub record HasBoth (labels : List ℕ) (pair : ℕ × ℕ) : Type 0 where
  pub one : Contains labels pair.0
  pub other : Contains labels pair.1

-- both labels of a pair are in the list
pair-labels : (pairs : List (ℕ × ℕ)) (i : ℕ) (d : ℕ × ℕ) → i < length pairs → HasBoth (labels_of_pairs pairs) (get_or pairs i d)
pair-labels [] i d lt = absurd (omega (arith, lt))
pair-labels (x ∷ pairs) zero d lt = record { one = (0, omega arith, refl); other = (1, omega arith, refl) }
pair-labels (x ∷ pairs) (suc i) d lt =
    let t = pair-labels pairs i d (omega (arith, lt)) in
    let c = t.one in
    let e = t.other in
    record { one = (suc (suc c.0), omega (arith, c.1), c.2); other = (suc (suc e.0), omega (arith, e.1), e.2) }

pub all-paired : (pairs : List (ℕ × ℕ)) (paired : List ℕ) → AreLabelsOfPairs pairs paired → All (λ pair. Contains paired pair.0 × Contains paired pair.1) pairs
all-paired pairs paired are i d lt =
    let t = pair-labels pairs i d lt in
    ((are (get_or pairs i d).0).1 t.one, (are (get_or pairs i d).1).1 t.other)

labels-few : (n : ℕ) (pairs : List (ℕ × ℕ)) → All (λ pair. (pair.0 < n) × (pair.1 < n)) pairs → (i l : ℕ) → i < length (labels_of_pairs pairs) → get_or (labels_of_pairs pairs) i l ≡ l → l < n
labels-few n [] few i l lt is = absurd (omega (arith, lt))
labels-few n (x ∷ pairs) few zero l lt is = let t = few 0 x (omega arith) in omega (arith, t.0, is)
labels-few n (x ∷ pairs) few (suc zero) l lt is = let t = few 0 x (omega arith) in omega (arith, t.1, is)
labels-few n (x ∷ pairs) few (suc (suc i)) l lt is =
    labels-few n pairs (λ k d inside. few (suc k) d (omega (arith, inside))) i l (omega (arith, lt)) is

pub few-paired : (n : ℕ) (pairs : List (ℕ × ℕ)) (paired : List ℕ) → All (λ pair. (pair.0 < n) × (pair.1 < n)) pairs → AreLabelsOfPairs pairs paired → All (λ l. l < n) paired
few-paired n pairs paired few are i d lt =
    let c = (are (get_or paired i d)).0 (Contains-get_or paired i d lt) in
    labels-few n pairs few c.0 (get_or paired i d) c.1 c.2

pub are-touching : (n : ℕ) (pairs : List (ℕ × ℕ)) (paired : List ℕ) → AllPairs ◌<◌ paired → AreLabelsOfPairs pairs paired → All (λ pair. (pair.0 < n) × (pair.1 < n)) pairs → IncludesLabelsOfPairs n pairs paired
are-touching n pairs paired order are few = record { in_order = order; few = few-paired n pairs paired few are; paired = all-paired pairs paired are }

-- each element of a list is at most the sum of the list
element-le : (xs : List ℕ) (i d : ℕ) → i < length xs → get_or xs i d ≤ sum xs
element-le [] i d lt = absurd (omega (arith, lt))
element-le (x ∷ xs) zero d lt = omega (arith, sum_by-cons (λ (n : ℕ). n) x xs)
element-le (x ∷ xs) (suc i) d lt = omega (arith, sum_by-cons (λ (n : ℕ). n) x xs, element-le xs i d (omega (arith, lt)))

pub all-touching : (pairs : List (ℕ × ℕ)) (paired : List ℕ) → AllPairs ◌<◌ paired → AreLabelsOfPairs pairs paired → IncludesLabelsOfPairs (suc (sum paired)) pairs paired
all-touching pairs paired order are = record { in_order = order; few = λ i d lt. omega (arith, element-le paired i d lt); paired = all-paired pairs paired are }

-- in an empty table, each label leads to itself
pub no-labels : AreRootsOfLabels [] (λ k. k)
no-labels = record {
  reports = record {
    points = λ k lt. absurd (omega (arith, lt));
    itself = λ k lt e. absurd (omega (arith, lt));
    is_open = λ k lt. absurd (omega (arith, lt));
    low = λ k lt. absurd (omega (arith, lt));
  };
  beyond = λ k le. refl;
}

-- overwriting a whole list leaves only the new elements
pub written-whole : (n : ℕ) (new old : List ℕ) → length new ≡ n → take n (new ++ drop (length new) old) ≡ new
written-whole n new old size = ap (λ (m : ℕ). take m (new ++ drop (length new) old)) (sym size) ∙ take-append_seam new (drop (length new) old)

-- appending a number leaves the earlier numbers unchanged
pub push-before : (xs ys : List ℕ) (y k : ℕ) → ys ≡ xs ++ y ∷ [] → k < length xs → get_or ys k 0 ≡ get_or xs k 0
push-before xs ys y k e lt = ap (λ (l : List ℕ). get_or l k 0) e ∙ get_or_append_left xs (y ∷ []) 0 k lt

pub push-at : (xs ys : List ℕ) (y k : ℕ) → ys ≡ xs ++ y ∷ [] → length xs ≡ k → get_or ys k 0 ≡ y
push-at xs ys y k e long = ap (λ (l : List ℕ). get_or l k 0) e ∙ get_or_push xs y 0 k long
