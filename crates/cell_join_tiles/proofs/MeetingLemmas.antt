-- The pairs of labels whose cells meet at a cut.
use Rattle.std.proofs.Common.{◌≡◌, ℕ, zero, suc, ◌+◌, ◌<◌, ◌≤◌, [], ◌∷◌, ◌++◌, List, Option, Some, None, true, false, length, get_or, refl, ap, sym, ◌∙◌, arith, subst, inl, inr, ⊎_elim, ◌⊎◌}
use Rattle.std.specs.Prelude.{flat_map}
use Rattle.std.specs.List.{Contains, range_with_len}
use Rattle.std.specs.Ordering.{int_eq}
use Rattle.std.proofs.lemmas.Bool.{cases_lt, cases_eq, cases_Bool, cond-true, cond-false}
use Rattle.std.proofs.lemmas.Bool.Decides.{Decides-int_eq}
use Rattle.std.proofs.lemmas.List.{get_or_past, append-nil, map-id}
use Rattle.std.proofs.lemmas.List.Concat.{flat_map-cons}
use Rattle.std.proofs.lemmas.List.Elements.{Contains-append_left, Contains-append_right, Contains-append_cases}
use Rattle.std.proofs.lemmas.List.FromFn.{map-range_with_len_more}
use Rattle.std.proofs.lemmas.Grind.{flat_map-append}
use Rattle.cell_clumps.specs.declared.clump.Joining.{Joining}
use Rattle.cell_clumps.specs.declared.clump.Joining.TheVariants.{Edges, EdgesAndCorners}
use Rattle.cell_clumps.specs.Clumps.{DifferByOne}
use Rattle.cell_join_tiles.specs.declared.marks.Mark.{Mark}
use Rattle.cell_join_tiles.specs.SeamLines.{UnfinishedConsecutiveClumps, label_pair_of_equal_cells}
use Rattle.cell_join_tiles.specs.SeamLines.{label_pairs_of_adjacent_lines}
use Rattle.cell_join_tiles.specs.SeamLines.{label_pairs_of_opposite_cells}

-- the places in two adjacent lines whose cells touch
abbrev pub Touch : Joining → ℕ → ℕ → Type 0
Touch Edges c d = c ≡ d
Touch EdgesAndCorners c d = (c ≡ d) ⊎ DifferByOne c d

-- ---- two marks

pub label_pair_of_equal_cells-alike : (a b : Mark) → int_eq a.category b.category ≡ true → label_pair_of_equal_cells (Some a) (Some b) ≡ (a.label, b.label) ∷ []
label_pair_of_equal_cells-alike a b t = cond-true (int_eq a.category b.category) ((a.label, b.label) ∷ []) [] t

pub label_pair_of_equal_cells-unlike : (a b : Mark) → int_eq a.category b.category ≡ false
    → label_pair_of_equal_cells (Some a) (Some b) ≡ []
label_pair_of_equal_cells-unlike a b f = cond-false (int_eq a.category b.category) ((a.label, b.label) ∷ []) [] f

label_pair_of_equal_cells-same : (a b : Mark) → a.category ≡ b.category
    → label_pair_of_equal_cells (Some a) (Some b) ≡ (a.label, b.label) ∷ []
label_pair_of_equal_cells-same a b e = label_pair_of_equal_cells-alike a b ((Decides-int_eq a.category b.category).1 e)

-- ---- one more place

range-more : (n : ℕ) → range_with_len 0 (n + 1) ≡ range_with_len 0 n ++ n ∷ []
range-more n = sym (map-id (range_with_len 0 (n + 1))) ∙ map-range_with_len_more (λ (k : ℕ). k) 0 n n (omega arith) ∙ ap (λ ks. ks ++ n ∷ []) (map-id (range_with_len 0 n))

pub places-more : (f : ℕ → List (ℕ × ℕ)) (n : ℕ) → flat_map f (range_with_len 0 (n + 1)) ≡ flat_map f (range_with_len 0 n) ++ f n
places-more f n =
    ap (flat_map f) (range-more n) ∙ flat_map-append f (range_with_len 0 n) (n ∷ []) ∙ ap (λ ps. flat_map f (range_with_len 0 n) ++ ps) (flat_map-cons f n [] ∙ append-nil (f n))

-- ---- the pairs that meet

pub places-have : (f : ℕ → List (ℕ × ℕ)) (x : ℕ × ℕ) (a n c : ℕ) → a ≤ c → c < a + n → Contains (f c) x → Contains (flat_map f (range_with_len a n)) x
places-have f x a zero c low high h = absurd (omega (arith, low, high))
places-have f x a (suc n) c low high h =
    let split : flat_map f (range_with_len a (suc n)) ≡ f a ++ flat_map f (range_with_len (a + 1) n) = flat_map-cons f a (range_with_len (a + 1) n) in
    subst (λ ps. Contains ps x) (sym split)
    (⊎_elim (λ e. Contains-append_left (f a) (flat_map f (range_with_len (a + 1) n)) x (subst (λ (k : ℕ). Contains (f k) x) (sym e) h))
    (λ ne. Contains-append_right (f a) (flat_map f (range_with_len (a + 1) n)) x (places-have f x (a + 1) n c (above ne) (omega (arith, high)) h)) (cases_eq a c))
  where
    above : (a ≡ c → ⊥) → a + 1 ≤ c
    above ne = ⊎_elim (λ lt. omega (arith, lt)) (λ le. absurd (ne (omega (arith, le, low)))) (cases_lt a c)

pub places-only : (f : ℕ → List (ℕ × ℕ)) (x : ℕ × ℕ) (a n : ℕ) → Contains (flat_map f (range_with_len a n)) x → (c : ℕ) × Contains (f c) x × (c < a + n)
places-only f x a zero h = absurd (omega (arith, h.1))
places-only f x a (suc n) h =
    let split : flat_map f (range_with_len a (suc n)) ≡ f a ++ flat_map f (range_with_len (a + 1) n) = flat_map-cons f a (range_with_len (a + 1) n) in
    ⊎_elim (λ here. (a, here, omega arith)) (λ later. let t = places-only f x (a + 1) n later in (t.0, t.1, omega (arith, t.2)))
    (Contains-append_cases (f a) (flat_map f (range_with_len (a + 1) n)) x (subst (λ ps. Contains ps x) split h))

-- a place with a mark is inside the line
pub mark-inside : (line : UnfinishedConsecutiveClumps) (k : ℕ) (x : Mark) → get_or line k None ≡ Some x
    → k < length line
mark-inside line k x e =
    ⊎_elim (λ lt. lt)
    (λ past. absurd (let none : get_or line k None ≡ None = get_or_past line k None past in let both : None ≡ Some x = sym none ∙ e in cc))
    (cases_lt k (length line))

one-has : (o p : Option Mark) (x y : Mark) → o ≡ Some x → p ≡ Some y → x.category ≡ y.category → Contains (label_pair_of_equal_cells o p) (x.label, y.label)
one-has o p x y one other same =
    let is : label_pair_of_equal_cells o p ≡ (x.label, y.label) ∷ [] = ap (λ z. label_pair_of_equal_cells z p) one ∙ ap (label_pair_of_equal_cells (Some x)) other ∙ label_pair_of_equal_cells-same x y same in
    subst (λ ps. Contains ps (x.label, y.label)) (sym is) (0, omega arith, refl)

module _ (one other : UnfinishedConsecutiveClumps) where
  abbrev here : ℕ → Option Mark
  here k = get_or one k None

  abbrev there : ℕ → Option Mark
  there k = get_or other k None

  pub label_pairs_of_adjacent_lines-have : (j : Joining) (c d : ℕ) (x y : Mark) → Touch j c d → here c ≡ Some x → there d ≡ Some y → x.category ≡ y.category → Contains (label_pairs_of_adjacent_lines j one other) (x.label, y.label)
  label_pairs_of_adjacent_lines-have Edges c d x y touch first second same =
      places-have (label_pairs_of_opposite_cells Edges one other) (x.label, y.label) 0 (length one) c (omega arith) (omega (arith, mark-inside one c x first))
      (one-has (here c) (there c) x y first (ap there touch ∙ second) same)
  label_pairs_of_adjacent_lines-have EdgesAndCorners c d x y touch first second same = by touch
    where
      inside : c < length one
      inside = mark-inside one c x first

      by : (c ≡ d) ⊎ DifferByOne c d → Contains (label_pairs_of_adjacent_lines EdgesAndCorners one other)
          (x.label, y.label)
      by (inl e) =
          places-have (label_pairs_of_opposite_cells EdgesAndCorners one other) (x.label, y.label) 0 (length one) c (omega arith) (omega (arith, inside))
          (Contains-append_left (label_pair_of_equal_cells (here c) (there c) ++ label_pair_of_equal_cells (here c) (there (c + 1))) (label_pair_of_equal_cells (here (c + 1)) (there c)) (x.label, y.label)
          (Contains-append_left (label_pair_of_equal_cells (here c) (there c)) (label_pair_of_equal_cells (here c) (there (c + 1))) (x.label, y.label) (one-has (here c) (there c) x y first (ap there e ∙ second) same)))
      by (inr (inl e)) =
          places-have (label_pairs_of_opposite_cells EdgesAndCorners one other) (x.label, y.label) 0 (length one) c (omega arith) (omega (arith, inside))
          (Contains-append_left (label_pair_of_equal_cells (here c) (there c) ++ label_pair_of_equal_cells (here c) (there (c + 1))) (label_pair_of_equal_cells (here (c + 1)) (there c)) (x.label, y.label)
          (Contains-append_right (label_pair_of_equal_cells (here c) (there c)) (label_pair_of_equal_cells (here c) (there (c + 1))) (x.label, y.label) (one-has (here c) (there (c + 1)) x y first (ap there e ∙ second) same)))
      by (inr (inr e)) =
          places-have (label_pairs_of_opposite_cells EdgesAndCorners one other) (x.label, y.label) 0 (length one) d (omega arith) (omega (arith, inside, e))
          (Contains-append_right (label_pair_of_equal_cells (here d) (there d) ++ label_pair_of_equal_cells (here d) (there (d + 1))) (label_pair_of_equal_cells (here (d + 1)) (there d)) (x.label, y.label)
          (one-has (here (d + 1)) (there d) x y (ap here e ∙ first) second same))

  -- two places whose marks form a pair
  pub record Meets (j : Joining) (a b : ℕ) : Type 0 where
    pub c : ℕ
    pub d : ℕ
    pub x : Mark
    pub y : Mark
    pub touch : Touch j c d
    pub at_one : get_or one c None ≡ Some x
    pub at_other : get_or other d None ≡ Some y
    pub same : x.category ≡ y.category
    pub first : a ≡ x.label
    pub second : b ≡ y.label

  meets-from : (j : Joining) (c d : ℕ) (a b : ℕ) → Touch j c d → (o p : Option Mark) → here c ≡ o → there d ≡ p → Contains (label_pair_of_equal_cells o p) (a, b) → Meets j a b
  meets-from j c d a b touch None p is_one is_other h = absurd (omega (arith, h.1))
  meets-from j c d a b touch (Some x) None is_one is_other h = absurd (omega (arith, h.1))
  meets-from j c d a b touch (Some x) (Some y) is_one is_other h =
      ⊎_elim
      (λ t. let same : x.category ≡ y.category = (Decides-int_eq x.category y.category).0 t in
      let only : Contains ((x.label, y.label) ∷ []) (a, b) = subst (λ ps. Contains ps (a, b)) (label_pair_of_equal_cells-same x y same) h in
      let is = single (x.label, y.label) (a, b) only in
      record { c = c; d = d; x = x; y = y; touch = touch; at_one = is_one; at_other = is_other; same = same; first = sym (ap (λ (z : ℕ × ℕ). z.0) is); second = sym (ap (λ (z : ℕ × ℕ). z.1) is) })
      (λ f. absurd (let none : Contains [] (a, b) = subst (λ ps. Contains ps (a, b)) (label_pair_of_equal_cells-unlike x y f) h in omega (arith, none.1)))
      (cases_Bool (int_eq x.category y.category))
    where
      single : (z w : ℕ × ℕ) → Contains (z ∷ []) w → z ≡ w
      single z w h = at h.0 h.1 h.2
        where
          at : (i : ℕ) → i < 1 → get_or (z ∷ []) i w ≡ w → z ≡ w
          at zero lt e = e
          at (suc i) lt e = absurd (omega (arith, lt))

  pub label_pairs_of_adjacent_lines-only : (j : Joining) (a b : ℕ)
      → Contains (label_pairs_of_adjacent_lines j one other) (a, b) → Meets j a b
  label_pairs_of_adjacent_lines-only Edges a b h =
      let t = places-only (label_pairs_of_opposite_cells Edges one other) (a, b) 0 (length one) h in
      meets-from Edges t.0 t.0 a b refl (here t.0) (there t.0) refl refl t.1
  label_pairs_of_adjacent_lines-only EdgesAndCorners a b h =
      let t = places-only (label_pairs_of_opposite_cells EdgesAndCorners one other) (a, b) 0 (length one) h in
      let c = t.0 in
      ⊎_elim
      (λ more. ⊎_elim (λ own. meets-from EdgesAndCorners c c a b (inl refl) (here c) (there c) refl refl own)
      (λ right. meets-from EdgesAndCorners c (c + 1) a b (inr (inl refl)) (here c) (there (c + 1)) refl refl right)
      (Contains-append_cases (label_pair_of_equal_cells (here c) (there c)) (label_pair_of_equal_cells (here c)
      (there (c + 1))) (a, b) more))
      (λ left. meets-from EdgesAndCorners (c + 1) c a b (inr (inr refl)) (here (c + 1)) (there c) refl refl left)
      (Contains-append_cases (label_pair_of_equal_cells (here c) (there c) ++ label_pair_of_equal_cells (here c) (there (c + 1))) (label_pair_of_equal_cells (here (c + 1)) (there c)) (a, b) t.1)
