-- Lengths laid end to end, and the length in which a number lies.
use Rattle.std.proofs.Common.{◌≡◌, ℕ, zero, suc, ◌+◌, ◌-◌, ◌<◌, ◌≤◌, List, [], ◌∷◌, take, length, get_or, ap, sym, ◌∙◌, arith, subst, inl, inr, ⊎_elim, ◌⊎◌, ltb, cond, false}
use Rattle.std.specs.Prelude.{All, sum}
use Rattle.std.proofs.lemmas.Bool.{cases_lt, cond-true, cond-false, lt-ltb}
use Rattle.std.proofs.lemmas.List.Sums.{sum_by-cons}
use Rattle.std.proofs.lemmas.List.Elements.{All-head, All-tail}

sum-more : (n : ℕ) (ns : List ℕ) → sum (n ∷ ns) ≡ n + sum ns
sum-more n ns = sum_by-cons (λ (k : ℕ). k) n ns

-- the number at which a stretch begins
abbrev pub before : List ℕ → ℕ → ℕ
before ns i = sum (take i ns)

pub before-more : (n : ℕ) (ns : List ℕ) (i : ℕ) → before (n ∷ ns) (suc i) ≡ n + before ns i
before-more n ns i = sum-more n (take i ns)

-- the index of the stretch in which a number lies
abbrev pub index_in : List ℕ → ℕ → ℕ
index_in [] x = 0
index_in (n ∷ ns) x = cond (ltb x n) 0 (suc (index_in ns (x - n)))

not-less : (a b : ℕ) → b ≤ a → ltb a b ≡ false
not-less a b le = grind (arith, le)

index-here : (n : ℕ) (ns : List ℕ) (x : ℕ) → x < n → index_in (n ∷ ns) x ≡ 0
index-here n ns x lt = cond-true (ltb x n) 0 (suc (index_in ns (x - n))) (lt-ltb x n lt)

index-later : (n : ℕ) (ns : List ℕ) (x : ℕ) → n ≤ x → index_in (n ∷ ns) x ≡ suc (index_in ns (x - n))
index-later n ns x le = cond-false (ltb x n) 0 (suc (index_in ns (x - n))) (not-less x n le)

-- a number is at the end of one stretch, and the next number at the start of the next stretch
pub record Crosses (ns : List ℕ) (x y : ℕ) (i : ℕ) : Type 0 where
  pub inside : suc i < length ns
  pub first : index_in ns x ≡ i
  pub second : index_in ns y ≡ suc i
  pub last : x + 1 ≡ before ns i + get_or ns i 0
  pub next : y ≡ before ns (suc i)

pub next-to : (ns : List ℕ) → All (λ n. 0 < n) ns → (x y : ℕ) → y ≡ x + 1 → y < sum ns → (index_in ns x ≡ index_in ns y) ⊎ Crosses ns x y (index_in ns x)
next-to [] some x y e lt = absurd (omega (arith, lt))
next-to (n ∷ ns) some x y e lt =
    ⊎_elim
    (λ x_past. later x_past (next-to ns (All-tail (λ n. 0 < n) n ns some) (x - n) (y - n) (omega (arith, e, x_past)) (omega (arith, lt, sum-more n ns, e, x_past))))
    (λ x_here. ⊎_elim
    (λ y_here. inl (index-here n ns x x_here ∙ sym (index-here n ns y y_here)))
    (λ y_past. at_end ns (All-tail (λ n. 0 < n) n ns some) (omega (arith, lt, sum-more n ns, y_past, e, x_here)) x_here y_past lt)
    (cases_lt y n))
    (back (cases_lt x n))
  where
    back : (x < n) ⊎ (n ≤ x) → (n ≤ x) ⊎ (x < n)
    back (inl h) = inr h
    back (inr h) = inl h

    later : n ≤ x → (index_in ns (x - n) ≡ index_in ns (y - n)) ⊎ Crosses ns (x - n) (y - n) (index_in ns (x - n)) → (index_in (n ∷ ns) x ≡ index_in (n ∷ ns) y) ⊎ Crosses (n ∷ ns) x y (index_in (n ∷ ns) x)
    later past (inl same) = inl (index-later n ns x past ∙ ap suc same ∙ sym (index-later n ns y (omega (arith, past, e))))
    later past (inr c) =
        let i = index_in ns (x - n) in
        let y_past : n ≤ y = omega (arith, past, e) in
        inr (subst (Crosses (n ∷ ns) x y) (sym (index-later n ns x past)) (record {
          inside = omega (arith, c.inside);
          first = index-later n ns x past;
          second = index-later n ns y y_past ∙ ap suc c.second;
          last = omega (arith, c.last, past, before-more n ns i);
          next = omega (arith, c.next, y_past, before-more n ns (suc i));
        }))

    at_end : (ms : List ℕ) → All (λ n. 0 < n) ms → 0 < sum ms → x < n → n ≤ y → y < sum (n ∷ ms) → (index_in (n ∷ ms) x ≡ index_in (n ∷ ms) y) ⊎ Crosses (n ∷ ms) x y (index_in (n ∷ ms) x)
    at_end [] pos more x_here y_past lt = absurd (omega (arith, more))
    at_end (m ∷ ms) pos more x_here y_past lt =
        let m_some : 0 < m = All-head (λ n. 0 < n) m ms pos in
        let at : index_in (m ∷ ms) (y - n) ≡ 0 = index-here m ms (y - n) (omega (arith, m_some, e, x_here)) in
        inr (subst (Crosses (n ∷ m ∷ ms) x y) (sym (index-here n (m ∷ ms) x x_here)) (record {
          inside = omega arith;
          first = index-here n (m ∷ ms) x x_here;
          second = index-later n (m ∷ ms) y y_past ∙ ap suc at;
          last = omega (arith, x_here, y_past, e);
          next = omega (arith, x_here, y_past, e, before-more n (m ∷ ms) 0);
        }))

pub before-next : (ns : List ℕ) (i : ℕ) → i < length ns → before ns (suc i) ≡ before ns i + get_or ns i 0
before-next [] i lt = absurd (omega (arith, lt))
before-next (n ∷ ns) zero lt = omega (arith, before-more n ns 0)
before-next (n ∷ ns) (suc i) lt = omega (arith, before-next ns i (omega (arith, lt)), before-more n ns i, before-more n ns (suc i))
