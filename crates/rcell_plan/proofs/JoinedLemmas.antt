-- A property of joined needs holds for each of them.
use Rattle.std.proofs.Common.{◌≡◌, ℕ, ℤ, suc, pos, negsuc, ◌+◌, ◌≤◌, ◌-◌, ◌+ℤ◌, List, [], ◌∷◌, ◌++◌, map, Option}
use Rattle.std.proofs.Common.{Bool, true, false, ◌||◌, cond, refl, ap, sym, subst, ◌∙◌, arith}
use Rattle.std.specs.Prelude.{All, nat_lt, slice_get, if◌then◌else◌}
use Rattle.std.proofs.Math.IntN.{sub_ℕ, +ℤ_assoc}
use Rattle.std.proofs.lemmas.List.Elements.{All-nil, All-cons, All-head, All-tail}
use Rattle.cell_core.specs.Grid.{Grid}
use Rattle.cell_calc_language.specs.Grammatical.{cell_count_up_or_left, cell_count_down_or_right}
use Rattle.cell_calc_language.specs.Offsets.{cell_of_optional_map}
use Rattle.rcell_plan.specs.declared.needs.Margin.{Margin}
use Rattle.rcell_plan.specs.declared.needs.MapNeed.{MapNeed}
use Rattle.rcell_plan.specs.Needs.{margin_covering_both_margins, sum_of_margins, need_covering_both_needs}
use Rattle.rcell_plan.specs.Needs.{needs_with_added_need, needs_with_added_needs}
use Rattle.rcell_plan.specs.NeedsLaw.{OffsetStaysWithinMargin, MapsAgreeWithinMarginOrInFull, ShelvesAgreeInNeed}

-- ---- parts of lists

module _ {X : Type 0} (P : X → Type 0) where
  pub all_left : (xs ys : List X) → All P (xs ++ ys) → All P xs
  all_left [] ys h = All-nil P
  all_left (x ∷ xs) ys h = All-cons P x xs (All-head P x (xs ++ ys) h) (all_left xs ys (All-tail P x (xs ++ ys) h))

  pub all_right : (xs ys : List X) → All P (xs ++ ys) → All P ys
  all_right [] ys h = h
  all_right (x ∷ xs) ys h = all_right xs ys (All-tail P x (xs ++ ys) h)

  pub all_of_map : {Y : Type 0} (f : Y → X) (ys : List Y) → All P (map f ys) → All (λ y. P (f y)) ys
  all_of_map f [] h = All-nil (λ y. P (f y))
  all_of_map f (y ∷ ys) h = All-cons (λ y. P (f y)) y ys (All-head P (f y) (map f ys) h)
      (all_of_map f ys (All-tail P (f y) (map f ys) h))

-- ---- a list of joined needs

-- if joined needs have the property, both needs have it
abbrev pub Splits : (MapNeed → Type 0) → Type 0
Splits P = (a b : MapNeed) → a.place ≡ b.place → P (need_covering_both_needs a b) → P a × P b

module _ (P : MapNeed → Type 0) (splits : Splits P) where
  pub needs_with_added_need-all : (xs : List MapNeed) (n : MapNeed) → All P (needs_with_added_need xs n) → All P xs
      × P n
  needs_with_added_need-all [] n h = (All-nil P, All-head P n [] h)
  needs_with_added_need-all (x ∷ xs) n h = by_case (nat_lt x.place n.place) refl (nat_lt n.place x.place) refl
      (needs_with_added_need-all xs n) h
    where
      by_case : (b : Bool) → nat_lt x.place n.place ≡ b → (c : Bool) → nat_lt n.place x.place ≡ c
          → (All P (needs_with_added_need xs n) → All P xs × P n)
          → All P (if b then x ∷ needs_with_added_need xs n else (if c then n ∷ x
          ∷ xs else need_covering_both_needs x n ∷ xs))
          → All P (x ∷ xs) × P n
      by_case true e c f behind h =
          let both = behind (All-tail P x (needs_with_added_need xs n) h) in
          (All-cons P x xs (All-head P x (needs_with_added_need xs n) h) both.0, both.1)
      by_case false e true f behind h = (All-tail P n (x ∷ xs) h, All-head P n (x ∷ xs) h)
      by_case false e false f behind h =
          let same : x.place ≡ n.place = grind arith in
          let both = splits x n same (All-head P (need_covering_both_needs x n) xs h) in
          (All-cons P x xs both.0 (All-tail P (need_covering_both_needs x n) xs h), both.1)

  pub needs_with_added_needs-all : (xs ns : List MapNeed) → All P (needs_with_added_needs xs ns) → All P xs × All P ns
  needs_with_added_needs-all xs [] h = (h, All-nil P)
  needs_with_added_needs-all xs (n ∷ ns) h =
      let behind = needs_with_added_needs-all (needs_with_added_need xs n) ns h in
      let both = needs_with_added_need-all xs n behind.0 in
      (both.0, All-cons P n ns both.1 behind.1)

-- ---- margins

pub within_first : (a b : Margin) (rows cols : ℤ) → OffsetStaysWithinMargin a rows cols
    → OffsetStaysWithinMargin (margin_covering_both_margins a b) rows cols
within_first a b rows cols h = record {
  up = omega (arith, h.up);
  down = omega (arith, h.down);
  left = omega
      (arith, h.left);
  right = omega (arith, h.right);
}

pub within_second : (a b : Margin) (rows cols : ℤ) → OffsetStaysWithinMargin b rows cols
    → OffsetStaysWithinMargin (margin_covering_both_margins a b) rows cols
within_second a b rows cols h = record {
  up = omega (arith, h.up);
  down = omega (arith, h.down);
  left = omega
      (arith, h.left);
  right = omega (arith, h.right);
}

up-sub : (p n : ℕ) → cell_count_up_or_left (sub_ℕ p (suc n)) ≤ suc n
up-sub p n = by_case (nat_lt p (suc n))
  where
    by_case : (b : Bool) → cell_count_up_or_left (cond b (negsuc (suc n - suc p)) (pos (p - suc n))) ≤ suc n
    by_case true = omega arith
    by_case false = omega arith

down-sub : (p n : ℕ) → cell_count_down_or_right (sub_ℕ p (suc n)) ≤ p
down-sub p n = by_case (nat_lt p (suc n))
  where
    by_case : (b : Bool) → cell_count_down_or_right (cond b (negsuc (suc n - suc p)) (pos (p - suc n))) ≤ p
    by_case true = omega arith
    by_case false = omega arith

up-add : (a b : ℤ) → cell_count_up_or_left (a +ℤ b) ≤ cell_count_up_or_left a + cell_count_up_or_left b
up-add (pos a) (pos b) = omega arith
up-add (pos a) (negsuc b) = omega (arith, up-sub a b)
up-add (negsuc a) (pos b) = omega (arith, up-sub b a)
up-add (negsuc a) (negsuc b) = omega arith

down-add : (a b : ℤ) → cell_count_down_or_right (a +ℤ b) ≤ cell_count_down_or_right a + cell_count_down_or_right b
down-add (pos a) (pos b) = omega arith
down-add (pos a) (negsuc b) = omega (arith, down-sub a b)
down-add (negsuc a) (pos b) = omega (arith, down-sub b a)
down-add (negsuc a) (negsuc b) = omega arith

within_both : (a b : Margin) (rows cols more_rows more_cols : ℤ) → OffsetStaysWithinMargin a rows cols
    → OffsetStaysWithinMargin b more_rows more_cols
    → OffsetStaysWithinMargin (sum_of_margins a b) (rows +ℤ more_rows) (cols +ℤ more_cols)
within_both a b rows cols more_rows more_cols h k = record {
  up = omega (arith, up-add rows more_rows, h.up, k.up);
  down = omega (arith, down-add rows more_rows, h.down, k.down);
  left = omega (arith, up-add cols more_cols, h.left, k.left);
  right = omega (arith, down-add cols more_cols, h.right, k.right);
}

-- ---- maps that are alike

module _ (o p : Option Grid) (row col : ℤ) where
  alike_both : (whole other : Bool) (a b : Margin) → MapsAgreeWithinMarginOrInFull (whole || other)
      (margin_covering_both_margins a b) o p row col
      → MapsAgreeWithinMarginOrInFull whole a o p row col × MapsAgreeWithinMarginOrInFull other b o p row col
  alike_both true true a b h = (h, h)
  alike_both true false a b h = (h, λ rows cols _. ap (λ m. cell_of_optional_map m (row +ℤ rows) (col +ℤ cols)) h)
  alike_both false true a b h = (λ rows cols _. ap (λ m. cell_of_optional_map m (row +ℤ rows) (col +ℤ cols)) h, h)
  alike_both false false a b h = (
    λ rows cols within. h rows cols (within_first a b rows cols within),
    λ rows cols within. h rows cols
        (within_second a b rows cols within),
  )

  -- maps that are alike around a cell are alike around each cell within the margin
  pub alike_moved : (whole : Bool) (a b : Margin) (rows cols : ℤ) → OffsetStaysWithinMargin a rows cols
      → MapsAgreeWithinMarginOrInFull whole (sum_of_margins a b) o p row col
      → MapsAgreeWithinMarginOrInFull whole b o p (row +ℤ rows) (col +ℤ cols)
  alike_moved true a b rows cols within h = h
  alike_moved false a b rows cols within h = λ more_rows more_cols more.
      let on_rows : row +ℤ rows +ℤ more_rows ≡ row +ℤ (rows +ℤ more_rows) = +ℤ_assoc row rows more_rows in
      let on_cols : col +ℤ cols +ℤ more_cols ≡ col +ℤ (cols +ℤ more_cols) = +ℤ_assoc col cols more_cols in
      (λ i. cell_of_optional_map o (on_rows i) (on_cols i))
      ∙ h (rows +ℤ more_rows) (cols +ℤ more_cols) (within_both a b rows cols more_rows more_cols within more)
      ∙ (λ i. cell_of_optional_map p (sym on_rows i) (sym on_cols i))

pub alike_splits : (x y : List Grid) (row col : ℤ) → Splits (ShelvesAgreeInNeed x y row col)
alike_splits x y row col a b same h =
    let both = alike_both (slice_get x a.place) (slice_get y a.place) row col a.whole b.whole a.margin b.margin h in (
      both.0,
      subst (λ (place : ℕ). MapsAgreeWithinMarginOrInFull b.whole b.margin (slice_get x place)
          (slice_get y place) row col)
          same both.1,
    )

-- the map at the need's place is the same in both lists
abbrev pub IsSameMap : (a b : List Grid) → MapNeed → Type 0
IsSameMap a b n = slice_get a n.place ≡ slice_get b n.place

pub same_splits : (x y : List Grid) → Splits (IsSameMap x y)
same_splits x y a b same h = (h, subst (λ (place : ℕ). slice_get x place ≡ slice_get y place) same h)
