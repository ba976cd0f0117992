-- The cells that get labels of their own, and their count.
use Rattle.std.proofs.Common.{◌≡◌, ℕ, zero, suc, ℤ, true, false, not, ◌+◌, ◌-◌, ◌*◌, ◌<◌, ◌≤◌, List, [], ◌∷◌, ◌++◌, Some, None, length, get_or, refl, ap, sym, ◌∙◌, arith, inl, inr, ⊎_elim, ◌⊎◌, is_some}
use Rattle.std.proofs.Math.Nat.{mul-le-mul_right}
use Rattle.std.proofs.lemmas.Bool.{or_left, or_right, or_cases, not_from_true, not_from_false, false_from_ne_true, cases_lt, cases_Bool, cond-true, cond-false, and_from, and_left, and_right}
use Rattle.std.proofs.lemmas.List.{length_push, get_or_push, get_or_append_left, get_or_past}
use Rattle.std.proofs.lemmas.List.Elements.{All-get_or}
use Rattle.std.proofs.lemmas.Nat.{div-mul-add, mod-mul-add, mul-add-lt}
use Rattle.cell_core_values.specs.Cell.{cell_eq, cell_eq-Decides}
use Rattle.cell_core.specs.Grid.{Grid, CellValue, RowsFillRegion, cell_at, row_at}
use Rattle.cell_clumps.specs.declared.clump.Joining.{Joining}
use Rattle.cell_clumps.specs.declared.clump.Joining.TheVariants.{Edges, EdgesAndCorners}
use Rattle.cell_clumps.specs.Clumps.{Position, cell_at_position, IsEarlierCell, AreAdjacent}
use Rattle.cell_clumps.specs.parts.CellPlaces.{position_at_row_and_column, position_at_place, place_of_position}
use Rattle.cell_clumps.specs.parts.CellPlaces.{IsInsideMap}
use Rattle.cell_clumps.specs.parts.Starts.{IsLeftNeighbour, IsUpperNeighbour, IsUpperLeftNeighbour, IsUpperRightNeighbour, IsEarlierNeighbour, cell_to_the_left, cell_to_the_north_of, cell_to_the_upper_left, cell_to_the_upper_right, has_equal_earlier_neighbour, cell_begins_new_label, cells_that_begin_labels, count_of_begun_labels, cell_that_began_label}

pub same_position : (p : Position) (r c : ℕ) → p.row ≡ r → p.col ≡ c → p ≡ position_at_row_and_column r c
same_position p r c e d = ap (λ (x : ℕ). position_at_row_and_column x p.col) e ∙ ap (position_at_row_and_column r) d

-- converting a cell to its place and back gives the cell
pub cell_of-place : (w r c : ℕ) → c < w → position_at_place w (r * w + c) ≡ position_at_row_and_column r c
cell_of-place w r c lt = same_position (position_at_place w (r * w + c)) r c (div-mul-add r w c lt)
    (mod-mul-add r w c lt)

pub place_lt : (w : ℕ) (p q : Position) → p.col < w → IsEarlierCell p q → place_of_position w p < place_of_position w q
place_lt w p q inside (inl lt) = let whole : (p.row + 1) * w ≤ q.row * w = mul-le-mul_right w (omega arith) in omega arith
place_lt w p q inside (inr h) = let same : p.row * w ≡ q.row * w = ap (λ (n : ℕ). n * w) h.0 in let lt = h.1 in omega arith

pub place_inside : (m : Grid) (p : Position) → IsInsideMap m p
    → place_of_position m.region.cols p < m.region.rows * m.region.cols
place_inside m p inside = let lt = mul-add-lt p.row m.region.cols p.col m.region.rows inside.0 inside.1 in omega arith

-- cells with the same place are the same
pub one_place : (w : ℕ) (p q : Position) → p.col < w → q.col < w → place_of_position w p ≡ place_of_position w q → p ≡ q
one_place w p q p_in q_in e = sym (cell_of-place w p.row p.col p_in) ∙ ap (position_at_place w) e ∙ cell_of-place w q.row q.col q_in

-- a cell that is not null is inside the map
pub inside_map : (m : Grid) (p : Position) (v : ℤ) → RowsFillRegion m.region m.rows → cell_at_position m p ≡ Some v
    → IsInsideMap m p
inside_map m p v filled is =
    let count = filled.count in
    let row : p.row < length m.rows =
    ⊎_elim (λ lt. lt)
    (λ le. let past : row_at m p.row ≡ [] = get_or_past m.rows p.row [] le in
    let null : cell_at_position m p ≡ None = ap (λ (xs : List CellValue). get_or xs p.col None) past in
    absurd (let none : None ≡ Some v = sym null ∙ is in cc)) (cases_lt p.row (length m.rows)) in
    let col : p.col < length (row_at m p.row) =
    ⊎_elim (λ lt. lt) (λ le. let past : cell_at_position m p ≡ None = get_or_past (row_at m p.row) p.col None le in absurd (let none : None ≡ Some v = sym past ∙ is in cc)) (cases_lt p.col (length (row_at m p.row))) in
    let wide = All-get_or (λ xs. length xs ≡ m.region.cols) m.rows p.row [] row filled.width in
    (omega arith, omega arith)

-- ---- the neighbours that come before a cell

pub earlier_before : (j : Joining) (r c : ℕ) (q : Position) → IsEarlierNeighbour j r c q
    → IsEarlierCell q (position_at_row_and_column r c)
earlier_before Edges r c q (inl h) = inr (h.0, let e = h.1 in omega arith)
earlier_before Edges r c q (inr h) = inl (let e = h.0 in omega arith)
earlier_before EdgesAndCorners r c q (inl (inl h)) = inr (h.0, let e = h.1 in omega arith)
earlier_before EdgesAndCorners r c q (inl (inr h)) = inl (let e = h.0 in omega arith)
earlier_before EdgesAndCorners r c q (inr (inl h)) = inl (let e = h.0 in omega arith)
earlier_before EdgesAndCorners r c q (inr (inr h)) = inl (let e = h.0 in omega arith)

pub earlier_adjacent : (j : Joining) (r c : ℕ) (q : Position) → IsEarlierNeighbour j r c q
    → AreAdjacent j q (position_at_row_and_column r c)
earlier_adjacent Edges r c q (inl h) = inl (h.0, inl h.1)
earlier_adjacent Edges r c q (inr h) = inr (inl h.0, h.1)
earlier_adjacent EdgesAndCorners r c q (inl (inl h)) = inl (inl (h.0, inl h.1))
earlier_adjacent EdgesAndCorners r c q (inl (inr h)) = inl (inr (inl h.0, h.1))
earlier_adjacent EdgesAndCorners r c q (inr (inl h)) = inr (inl h.0, inl h.1)
earlier_adjacent EdgesAndCorners r c q (inr (inr h)) = inr (inl h.0, inr (sym h.1))

not_before : (r c : ℕ) (q : Position) → IsEarlierCell q (position_at_row_and_column r c) → (r < q.row) ⊎ ((q.row ≡ r) × (c < q.col + 1)) → ⊥
not_before r c q (inl lt) (inl gt) = omega arith
not_before r c q (inl lt) (inr h) = let e = h.0 in omega arith
not_before r c q (inr g) (inl gt) = let e = g.0 in omega arith
not_before r c q (inr g) (inr h) = let less = g.1 in let more = h.1 in omega arith

-- an adjacent cell that comes earlier is one of the neighbours that `IsEarlierNeighbour` lists
pub adjacent_earlier : (j : Joining) (r c : ℕ) (q : Position) → AreAdjacent j q (position_at_row_and_column r c) → IsEarlierCell q (position_at_row_and_column r c) → IsEarlierNeighbour j r c q
adjacent_earlier Edges r c q (inl (e, inl h)) before = inl (e, h)
adjacent_earlier Edges r c q (inl (e, inr h)) before = absurd (not_before r c q before (inr (e, omega arith)))
adjacent_earlier Edges r c q (inr (inl h, e)) before = inr (h, e)
adjacent_earlier Edges r c q (inr (inr h, e)) before = absurd (not_before r c q before (inl (omega arith)))
adjacent_earlier EdgesAndCorners r c q (inl (inl (e, inl h))) before = inl (inl (e, h))
adjacent_earlier EdgesAndCorners r c q (inl (inl (e, inr h))) before = absurd (not_before r c q before (inr (e, omega arith)))
adjacent_earlier EdgesAndCorners r c q (inl (inr (inl h, e))) before = inl (inr (h, e))
adjacent_earlier EdgesAndCorners r c q (inl (inr (inr h, e))) before = absurd (not_before r c q before (inl (omega arith)))
adjacent_earlier EdgesAndCorners r c q (inr (inl h, inl e)) before = inr (inl (h, e))
adjacent_earlier EdgesAndCorners r c q (inr (inl h, inr e)) before = inr (inr (h, sym e))
adjacent_earlier EdgesAndCorners r c q (inr (inr h, e)) before = absurd (not_before r c q before (inl (omega arith)))

-- ---- the cells that get labels of their own

left_at : (m : Grid) (r c : ℕ) (q : Position) → IsLeftNeighbour r c q → cell_to_the_left m r c ≡ cell_at_position m q
left_at m r c q h = let e = h.1 in let z : c ≡ suc q.col = omega arith in ap (cell_to_the_left m r) z ∙ ap (λ (x : ℕ). cell_at m x q.col) (sym h.0)

labelled_row_above_tile_row : (m : Grid) (r c : ℕ) (q : Position) → IsUpperNeighbour r c q
    → cell_to_the_north_of m r c ≡ cell_at_position m q
labelled_row_above_tile_row m r c q h = let e = h.0 in let z : r ≡ suc q.row = omega arith in ap (λ (x : ℕ). cell_to_the_north_of m x c) z ∙ ap (cell_at m q.row) (sym h.1)

upper_left_at : (m : Grid) (r c : ℕ) (q : Position) → IsUpperLeftNeighbour r c q
    → cell_to_the_upper_left m r c ≡ cell_at_position m q
upper_left_at m r c q h = let e = h.0 in let z : r ≡ suc q.row = omega arith in ap (λ (x : ℕ). cell_to_the_upper_left m x c) z ∙ left_at m q.row c q (refl, h.1)

upper_right_at : (m : Grid) (r c : ℕ) (q : Position) → IsUpperRightNeighbour r c q
    → cell_to_the_upper_right m r c ≡ cell_at_position m q
upper_right_at m r c q h =
    let e = h.0 in let d = h.1 in let z : r ≡ suc q.row = omega arith in let y : suc c ≡ q.col = omega arith in
    ap (λ (x : ℕ). cell_to_the_upper_right m x c) z ∙ ap (cell_at m q.row) y

left_found : (m : Grid) (r c : ℕ) (v : ℤ) → cell_to_the_left m r c ≡ Some v → (q : Position) × IsLeftNeighbour r c q × (cell_at_position m q ≡ Some v)
left_found m r zero v e = absurd (let none : None ≡ Some v = e in cc)
left_found m r (suc c) v e = (position_at_row_and_column r c, (refl, omega arith), e)

above_found : (m : Grid) (r c : ℕ) (v : ℤ) → cell_to_the_north_of m r c ≡ Some v → (q : Position) × IsUpperNeighbour r c q × (cell_at_position m q ≡ Some v)
above_found m zero c v e = absurd (let none : None ≡ Some v = e in cc)
above_found m (suc r) c v e = (position_at_row_and_column r c, (omega arith, refl), e)

upper_left_found : (m : Grid) (r c : ℕ) (v : ℤ) → cell_to_the_upper_left m r c ≡ Some v → (q : Position) × IsUpperLeftNeighbour r c q × (cell_at_position m q ≡ Some v)
upper_left_found m zero c v e = absurd (let none : None ≡ Some v = e in cc)
upper_left_found m (suc r) c v e = let t = left_found m r c v e in let row = t.1.0 in (t.0, (omega arith, t.1.1), t.2)

upper_right_found : (m : Grid) (r c : ℕ) (v : ℤ) → cell_to_the_upper_right m r c ≡ Some v → (q : Position) × IsUpperRightNeighbour r c q × (cell_at_position m q ≡ Some v)
upper_right_found m zero c v e = absurd (let none : None ≡ Some v = e in cc)
upper_right_found m (suc r) c v e = (position_at_row_and_column r (suc c), (omega arith, omega arith), e)

pub alike_from : (x y : CellValue) (v : ℤ) → x ≡ Some v → y ≡ Some v → cell_eq x y ≡ true
alike_from x y v e d = (cell_eq-Decides x y).1 (e ∙ sym d)

pub alike_to : (x y : CellValue) (v : ℤ) → y ≡ Some v → cell_eq x y ≡ true → x ≡ Some v
alike_to x y v d is = (cell_eq-Decides x y).0 is ∙ d

meets_from : (j : Joining) (m : Grid) (r c : ℕ) (v : ℤ) → cell_at_position m (position_at_row_and_column r c) ≡ Some v → (q : Position) → IsEarlierNeighbour j r c q → cell_at_position m q ≡ Some v → has_equal_earlier_neighbour j m r c ≡ true
meets_from Edges m r c v is q (inl h) e = or_left _ _ (alike_from _ _ v (left_at m r c q h ∙ e) is)
meets_from Edges m r c v is q (inr h) e = or_right _ _ (alike_from _ _ v (labelled_row_above_tile_row m r c q h ∙ e) is)
meets_from EdgesAndCorners m r c v is q (inl (inl h)) e = or_left _ _ (or_left _ _ (alike_from _ _ v (left_at m r c q h ∙ e) is))
meets_from EdgesAndCorners m r c v is q (inl (inr h)) e = or_left _ _ (or_right _ _ (alike_from _ _ v (labelled_row_above_tile_row m r c q h ∙ e) is))
meets_from EdgesAndCorners m r c v is q (inr (inl h)) e = or_right _ _ (or_left _ _ (alike_from _ _ v (upper_left_at m r c q h ∙ e) is))
meets_from EdgesAndCorners m r c v is q (inr (inr h)) e = or_right _ _ (or_right _ _ (alike_from _ _ v (upper_right_at m r c q h ∙ e) is))

meets_none : (j : Joining) (m : Grid) (r c : ℕ) (v : ℤ) → cell_at_position m (position_at_row_and_column r c) ≡ Some v → ((q : Position) → IsEarlierNeighbour j r c q → cell_at_position m q ≡ Some v → ⊥) → has_equal_earlier_neighbour j m r c ≡ true → ⊥
meets_none Edges m r c v is none e =
    ⊎_elim (λ d. let t = left_found m r c v (alike_to _ _ v is d) in none t.0 (inl t.1) t.2)
    (λ d. let t = above_found m r c v (alike_to _ _ v is d) in none t.0 (inr t.1) t.2) (or_cases _ _ e)
meets_none EdgesAndCorners m r c v is none e =
    ⊎_elim
    (λ f. ⊎_elim (λ d. let t = left_found m r c v (alike_to _ _ v is d) in none t.0 (inl (inl t.1)) t.2)
    (λ d. let t = above_found m r c v (alike_to _ _ v is d) in none t.0 (inl (inr t.1)) t.2) (or_cases _ _ f))
    (λ f. ⊎_elim (λ d. let t = upper_left_found m r c v (alike_to _ _ v is d) in none t.0 (inr (inl t.1)) t.2)
    (λ d. let t = upper_right_found m r c v (alike_to _ _ v is d) in none t.0 (inr (inr t.1)) t.2) (or_cases _ _ f))
    (or_cases _ _ e)

pub begins_none : (j : Joining) (m : Grid) (r c : ℕ) (v : ℤ) → cell_at_position m (position_at_row_and_column r c) ≡ Some v → (q : Position) → IsEarlierNeighbour j r c q → cell_at_position m q ≡ Some v → cell_begins_new_label j m (position_at_row_and_column r c) ≡ false
begins_none j m r c v is q earlier e = and_right (is_some (cell_at_position m (position_at_row_and_column r c))) (not (has_equal_earlier_neighbour j m r c)) (not_from_true _ (meets_from j m r c v is q earlier e))

pub begins_from : (j : Joining) (m : Grid) (r c : ℕ) (v : ℤ) → cell_at_position m (position_at_row_and_column r c) ≡ Some v → ((q : Position) → IsEarlierNeighbour j r c q → cell_at_position m q ≡ Some v → ⊥) → cell_begins_new_label j m (position_at_row_and_column r c) ≡ true
begins_from j m r c v is none = and_from (is_some (cell_at_position m (position_at_row_and_column r c))) (not (has_equal_earlier_neighbour j m r c)) (rw is refl) (not_from_false _ (false_from_ne_true _ (meets_none j m r c v is none)))

pub begins_null : (j : Joining) (m : Grid) (p : Position) → cell_at_position m p ≡ None
    → cell_begins_new_label j m p ≡ false
begins_null j m p is = and_left (is_some (cell_at_position m p)) (not (has_equal_earlier_neighbour j m p.row p.col))
    (rw is refl)

-- ---- how many of the first cells get labels of their own

-- a function that never falls from one number to the next never falls
pub grows : (f : ℕ → ℕ) → ((k : ℕ) → f k ≤ f (suc k)) → (k n : ℕ) → k ≤ n → f k ≤ f n
grows f step k zero le = let e : k ≡ 0 = omega arith in rw e (omega arith)
grows f step k (suc n) le =
    ⊎_elim (λ (lt : k < suc n). let before = grows f step k n (omega arith) in let more = step n in omega arith)
    (λ (ge : suc n ≤ k). let e : k ≡ suc n = omega arith in rw e (omega arith)) (cases_lt k (suc n))

module _ (j : Joining) (m : Grid) where
  starts_more : (k : ℕ) → cell_begins_new_label j m (position_at_place m.region.cols k) ≡ true → cells_that_begin_labels j m (suc k) ≡ cells_that_begin_labels j m k ++ position_at_place m.region.cols k ∷ []
  starts_more k is = cond-true (cell_begins_new_label j m (position_at_place m.region.cols k)) _ _ is

  starts_same : (k : ℕ) → cell_begins_new_label j m (position_at_place m.region.cols k) ≡ false → cells_that_begin_labels j m (suc k) ≡ cells_that_begin_labels j m k
  starts_same k is = cond-false (cell_begins_new_label j m (position_at_place m.region.cols k)) _ _ is

  count_more : (k : ℕ) → cell_begins_new_label j m (position_at_place m.region.cols k) ≡ true
      → count_of_begun_labels j m (suc k) ≡ count_of_begun_labels j m k + 1
  count_more k is = ap (length {A = Position}) (starts_more k is) ∙ length_push (cells_that_begin_labels j m k) (position_at_place m.region.cols k)

  count_same : (k : ℕ) → cell_begins_new_label j m (position_at_place m.region.cols k) ≡ false
      → count_of_begun_labels j m (suc k) ≡ count_of_begun_labels j m k
  count_same k is = ap (length {A = Position}) (starts_same k is)

  count_step : (k : ℕ) → (count_of_begun_labels j m k ≤ count_of_begun_labels j m (suc k))
      × (count_of_begun_labels j m (suc k) ≤ count_of_begun_labels j m k + 1)
  count_step k =
      ⊎_elim (λ yes'. let e = count_more k yes' in (omega arith, omega arith)) (λ no'. let e = count_same k no' in (omega arith, omega arith))
      (cases_Bool (cell_begins_new_label j m (position_at_place m.region.cols k)))

  pub count_le : (k n : ℕ) → k ≤ n → count_of_begun_labels j m k ≤ count_of_begun_labels j m n
  count_le = grows (count_of_begun_labels j m) (λ k. (count_step k).0)

  pub starts_most : (k : ℕ) → count_of_begun_labels j m k ≤ k
  starts_most zero = omega arith
  starts_most (suc k) = let before = starts_most k in let step = (count_step k).1 in omega arith

  kept_step : (n k : ℕ) (e : Position) → k < count_of_begun_labels j m n → get_or (cells_that_begin_labels j m (suc n)) k e ≡ get_or (cells_that_begin_labels j m n) k e
  kept_step n k e lt =
      ⊎_elim (λ yes'. ap (λ (ps : List Position). get_or ps k e) (starts_more n yes') ∙ get_or_append_left (cells_that_begin_labels j m n) (position_at_place m.region.cols n ∷ []) e k lt)
      (λ no'. ap (λ (ps : List Position). get_or ps k e) (starts_same n no')) (cases_Bool (cell_begins_new_label j m (position_at_place m.region.cols n)))

  kept_from : (n d k : ℕ) (e : Position) → k < count_of_begun_labels j m n → get_or (cells_that_begin_labels j m (d + n)) k e ≡ get_or (cells_that_begin_labels j m n) k e
  kept_from n zero k e lt = let z : 0 + n ≡ n = omega arith in ap
      (λ (x : ℕ). get_or (cells_that_begin_labels j m x) k e) z
  kept_from n (suc d) k e lt =
      let z : suc d + n ≡ suc (d + n) = omega arith in
      let more = count_le n (d + n) (omega arith) in
      ap (λ (x : ℕ). get_or (cells_that_begin_labels j m x) k e) z ∙ kept_step (d + n) k e (omega arith)
      ∙ kept_from n d k e lt

  -- each label has a place, which is the place of the cell that got the label
  found : (n k : ℕ) (e : Position) → k < count_of_begun_labels j m n → (x : ℕ) × (x < n) × (cell_begins_new_label j m (position_at_place m.region.cols x) ≡ true) × (count_of_begun_labels j m x ≡ k) × (get_or (cells_that_begin_labels j m n) k e ≡ position_at_place m.region.cols x)
  found zero k e lt = absurd (omega arith)
  found (suc n) k e lt =
      let old : k < count_of_begun_labels j m n → (x : ℕ) × (x < suc n) × (cell_begins_new_label j m (position_at_place m.region.cols x) ≡ true) × (count_of_begun_labels j m x ≡ k) × (get_or (cells_that_begin_labels j m (suc n)) k e ≡ position_at_place m.region.cols x) = λ below.
      let t = found n k e below in
      (t.0, let less = t.1 in omega arith, t.2, t.3, kept_step n k e below ∙ t.4) in
      ⊎_elim old
      (λ le. ⊎_elim
      (λ yes'. let more = count_more n yes' in
      let here : count_of_begun_labels j m n ≡ k = omega arith in
      (n, omega arith, yes', here, ap (λ (ps : List Position). get_or ps k e) (starts_more n yes') ∙ get_or_push (cells_that_begin_labels j m n) (position_at_place m.region.cols n) e k here))
      (λ no'. let same = count_same n no' in absurd (omega arith))
      (cases_Bool (cell_begins_new_label j m (position_at_place m.region.cols n))))
      (cases_lt k (count_of_begun_labels j m n))

  start_is : (k : ℕ) → cell_that_began_label j m k ≡ get_or (cells_that_begin_labels j m
      (m.region.rows * m.region.cols)) k (position_at_row_and_column 0 0)
  unfolding cell_that_began_label
  start_is k = refl

  begins_at : (r c : ℕ) → c < m.region.cols → cell_begins_new_label j m (position_at_row_and_column r c) ≡ cell_begins_new_label j m (position_at_place m.region.cols (r * m.region.cols + c))
  begins_at r c lt = ap (cell_begins_new_label j m) (sym (cell_of-place m.region.cols r c lt))

  -- the count grows by 1 after a cell that gets its own label
  pub count_begins : (r c : ℕ) → c < m.region.cols → cell_begins_new_label j m (position_at_row_and_column r c) ≡ true → count_of_begun_labels j m (suc (r * m.region.cols + c)) ≡ count_of_begun_labels j m (r * m.region.cols + c) + 1
  count_begins r c lt is = count_more (r * m.region.cols + c) (sym (begins_at r c lt) ∙ is)

  pub count_stays : (r c : ℕ) → c < m.region.cols → cell_begins_new_label j m (position_at_row_and_column r c) ≡ false → count_of_begun_labels j m (suc (r * m.region.cols + c)) ≡ count_of_begun_labels j m (r * m.region.cols + c)
  count_stays r c lt is = count_same (r * m.region.cols + c) (sym (begins_at r c lt) ∙ is)

  -- a cell that gets a label of its own gets the number of such cells before it as its label
  pub start_here : (p : Position) → IsInsideMap m p → cell_begins_new_label j m p ≡ true → cell_that_began_label j m (count_of_begun_labels j m (place_of_position m.region.cols p)) ≡ p
  start_here p inside is =
      let place : ℕ = place_of_position m.region.cols p in
      let begun : cell_begins_new_label j m (position_at_place m.region.cols place)
      ≡ true = sym (begins_at p.row p.col inside.1) ∙ is in
      let more = count_more place begun in
      let within = place_inside m p inside in
      let e : ((m.region.rows * m.region.cols) - suc place) + suc place ≡ m.region.rows * m.region.cols = omega arith in
      let kept = kept_from (suc place) ((m.region.rows * m.region.cols) - suc place) (count_of_begun_labels j m place) (position_at_row_and_column 0 0) (omega arith) in
      start_is (count_of_begun_labels j m place)
      ∙ ap (λ (n : ℕ). get_or (cells_that_begin_labels j m n) (count_of_begun_labels j m place)
      (position_at_row_and_column 0 0))
      (sym e) ∙ kept
      ∙ ap (λ (ps : List Position). get_or ps (count_of_begun_labels j m place) (position_at_row_and_column 0 0))
      (starts_more place begun)
      ∙ get_or_push (cells_that_begin_labels j m place) (position_at_place m.region.cols place)
      (position_at_row_and_column 0 0)
      (count_of_begun_labels j m place) refl
      ∙ cell_of-place m.region.cols p.row p.col inside.1

  -- each label is the own label of some cell
  pub start_found : (k : ℕ) → k < count_of_begun_labels j m (m.region.rows * m.region.cols) → (x : ℕ) × (x < m.region.rows * m.region.cols) × (cell_begins_new_label j m (cell_that_began_label j m k) ≡ true) × (count_of_begun_labels j m x ≡ k) × (cell_that_began_label j m k ≡ position_at_place m.region.cols x)
  start_found k lt =
      let t = found (m.region.rows * m.region.cols) k (position_at_row_and_column 0 0) lt in
      let here : cell_that_began_label j m k ≡ position_at_place m.region.cols t.0 = start_is k ∙ t.4 in
      (t.0, t.1, ap (cell_begins_new_label j m) here ∙ t.2, t.3, here)
