-- The labels that labels lead to, while pairs are joined.
use Rattle.std.proofs.Common.{◌≡◌, ℕ, zero, suc, ◌<◌, ◌≤◌, List, [], ◌∷◌, ◌++◌, length, get_or, set, refl, ap, sym, ◌∙◌, arith, subst, ⊎_elim, max, min}
use Rattle.std.proofs.Math.ListN.{length-set}
use Rattle.std.proofs.lemmas.Bool.{cases_eq}
use Rattle.std.specs.Prelude.{Contains}
use Rattle.cell_clumps.specs.parts.Labels.{LabelsPointToSmallerOrSelf, root_after_linking_roots, root_label_after_join}
use Rattle.cell_clumps.proofs.LabelLemmas.{closed_high, closed_other, by_order, LabelsLeadToRoots-halved, LabelsLeadToRoots-joined}
use Rattle.cell_clumps.proofs.MeetingLemmas.{after_join_one, after_join_keeps}
use Rattle.cell_join_numbers.specs.UnionFind.{AreRootsOfLabels, roots_after_all_joins}

-- ---- functions that agree at each label

-- ---- one more label

-- ---- halving a path

pub AreRootsOfLabels-halved : (table : List ℕ) (x : ℕ) (f : ℕ → ℕ) → LabelsPointToSmallerOrSelf table → x < length table → AreRootsOfLabels table f → AreRootsOfLabels (set table x (get_or table (get_or table x 0) 0)) f
AreRootsOfLabels-halved table x f down inside h = record {
  reports = LabelsLeadToRoots-halved table x f down inside h.reports;
  beyond = λ k le. h.beyond k (omega (arith, le, length-set table x (get_or table (get_or table x 0) 0)));
}

-- ---- joining two labels

-- an open label larger than the open labels of two joined labels still leads to itself
join-other : (f : ℕ → ℕ) (a b k : ℕ) → f k ≡ k → f a < k → f b < k → root_label_after_join f a b k ≡ k
join-other f a b k own one other =
    let most : max (f a) (f b) < k = omega (arith, one, other) in
    closed_other f (max (f a) (f b)) (min (f a) (f b)) k (λ e. absurd (omega (arith, e, own, most))) ∙ own

pub AreRootsOfLabels-joined : (table : List ℕ) (a b first second high low : ℕ) (f : ℕ → ℕ) → a < length table → b < length table → AreRootsOfLabels table f → first ≡ f a → second ≡ f b → high ≡ max first second → low ≡ min first second → AreRootsOfLabels (set table high low) (root_label_after_join f a b)
AreRootsOfLabels-joined table a b first second high low f a_in b_in h one other high_is low_is = record {
  reports = LabelsLeadToRoots-joined table a b first second high low f a_in b_in h.reports one other high_is
      low_is;
  beyond = λ k le.
      let past : length table ≤ k = omega (arith, le, length-set table high low) in
      join-other f a b k (h.beyond k past) (omega (arith, h.reports.low a a_in, a_in, past)) (omega (arith, h.reports.low b b_in, b_in, past));
}

-- ---- joining the labels of pairs

pub after_all-append : (f : ℕ → ℕ) (xs ys : List (ℕ × ℕ)) → roots_after_all_joins f (xs ++ ys)
    ≡ roots_after_all_joins (roots_after_all_joins f xs) ys
after_all-append f [] ys = refl
after_all-append f (x ∷ xs) ys = after_all-append (root_label_after_join f x.0 x.1) xs ys

pub after_all-keeps : (ps : List (ℕ × ℕ)) (f : ℕ → ℕ) (a b : ℕ) → f a ≡ f b
    → roots_after_all_joins f ps a ≡ roots_after_all_joins f ps b
after_all-keeps [] f a b e = e
after_all-keeps (p ∷ ps) f a b e = after_all-keeps ps (root_label_after_join f p.0 p.1) a b
    (after_join_keeps f p.0 p.1 a b e)

-- the labels of each pair lead to the same label
first-meets : (p : ℕ × ℕ) (ps : List (ℕ × ℕ)) (f : ℕ → ℕ) (a b : ℕ) → p ≡ (a, b) → roots_after_all_joins f (p ∷ ps) a ≡ roots_after_all_joins f (p ∷ ps) b
first-meets p ps f a b e =
    let one : p.0 ≡ a = ap (λ (x : ℕ × ℕ). x.0) e in
    let other : p.1 ≡ b = ap (λ (x : ℕ × ℕ). x.1) e in
    subst (λ (n : ℕ). roots_after_all_joins f (p ∷ ps) n ≡ roots_after_all_joins f (p ∷ ps) b) one
    (subst (λ (n : ℕ). roots_after_all_joins f (p ∷ ps) p.0 ≡ roots_after_all_joins f (p ∷ ps) n) other
    (after_all-keeps ps (root_label_after_join f p.0 p.1) p.0 p.1 (after_join_one f p.0 p.1)))

meets-at : (ps : List (ℕ × ℕ)) (f : ℕ → ℕ) (a b i : ℕ) → i < length ps → get_or ps i (a, b) ≡ (a, b) → roots_after_all_joins f ps a ≡ roots_after_all_joins f ps b
meets-at [] f a b i lt e = absurd (omega (arith, lt))
meets-at (p ∷ ps) f a b zero lt e = first-meets p ps f a b e
meets-at (p ∷ ps) f a b (suc i) lt e = meets-at ps (root_label_after_join f p.0 p.1) a b i (omega (arith, lt)) e

pub after_all-meets : (ps : List (ℕ × ℕ)) (f : ℕ → ℕ) (a b : ℕ) → Contains ps (a, b) → roots_after_all_joins f ps a ≡ roots_after_all_joins f ps b
after_all-meets ps f a b c = meets-at ps f a b c.0 c.1 c.2

-- a symmetric and transitive relation
pub record IsLinking (R : ℕ → ℕ → Type 0) : Type 0 where
  pub turned : (a b : ℕ) → R a b → R b a
  pub chained : (a b c : ℕ) → R a b → R b c → R a c

closed-linked : (R : ℕ → ℕ → Type 0) → IsLinking R → (f : ℕ → ℕ) (high low k : ℕ) → R high low → R k (f k) → R k (root_after_linking_roots f high low k)
closed-linked R link f high low k down here =
    ⊎_elim (λ e. subst (R k) (sym (closed_high f high low k e)) (link.chained k high low (subst (R k) e here) down))
    (λ ne. subst (R k) (sym (closed_other f high low k ne)) here) (cases_eq (f k) high)

pub after_all-linked : (R : ℕ → ℕ → Type 0) → IsLinking R → (ps : List (ℕ × ℕ)) (f : ℕ → ℕ) → ((k : ℕ) → R k (f k)) → ((a b : ℕ) → Contains ps (a, b) → R a b) → (k : ℕ) → R k (roots_after_all_joins f ps k)
after_all-linked R link [] f here pairs k = here k
after_all-linked R link (p ∷ ps) f here pairs k = after_all-linked R link ps (root_label_after_join f p.0 p.1) joined (λ a b c. pairs a b (suc c.0, omega (arith, c.1), c.2)) k
  where
    near : R p.0 p.1
    near = pairs p.0 p.1 (0, omega arith, refl)

    from_a : R (f p.0) (f p.1)
    from_a = link.chained (f p.0) p.0 (f p.1) (link.turned p.0 (f p.0) (here p.0)) (link.chained p.0 p.1 (f p.1) near (here p.1))

    joined : (k : ℕ) → R k (root_label_after_join f p.0 p.1 k)
    joined k =
        let down = by_order R (f p.0) (f p.1) from_a (link.turned (f p.0) (f p.1) from_a) in
        closed-linked R link f (max (f p.0) (f p.1)) (min (f p.0) (f p.1)) k down (here k)
