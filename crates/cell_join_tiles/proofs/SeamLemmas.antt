-- The cells that meet at the cuts of a grid have paired labels.
use Rattle.std.proofs.Common.{◌≡◌, ℕ, suc, ℤ, ◌+◌, ◌-◌, ◌<◌, [], ◌∷◌, List, Option, Some, None, IsSome, take, length, get_or, refl, ap, sym, ◌∙◌, arith, subst, inl, inr, ⊎_elim, ◌⊎◌, ltb, cond}
use Rattle.std.specs.Prelude.{sum, ◌↔◌}
use Rattle.std.specs.List.{All, Contains}
use Rattle.std.specs.Option.{option_map}
use Rattle.cell_core.specs.Grid.{Grid, CellValue}
use Rattle.cell_clumps.specs.declared.clump.Joining.{Joining}
use Rattle.cell_clumps.specs.declared.clump.Joining.TheVariants.{Edges, EdgesAndCorners}
use Rattle.cell_clumps.specs.Clumps.{Position, cell_at_position, DifferByOne, AreAdjacent}
use Rattle.cell_clumps.specs.parts.CellPlaces.{position_at_row_and_column}
use Rattle.cell_clumps.proofs.PathLemmas.{AreAdjacent-sym}
use Rattle.cell_join_numbers.specs.ClumpParts.{position_in_full_map}
use Rattle.cell_join_numbers.proofs.ClumpCellLemmas.{is-some, rows-near}
use Rattle.cell_join_numbers.specs.Labelled.{AreLabelsOfMeetingCells}
use Rattle.cell_join_tiles.proofs.LengthLemmas.{before-next, index_in, Crosses, next-to}
use Rattle.cell_join_tiles.proofs.MeetingLemmas.{Touch, mark-inside, label_pairs_of_adjacent_lines-have}
use Rattle.cell_join_tiles.proofs.MeetingLemmas.{label_pairs_of_adjacent_lines-only}
use Rattle.cell_join_tiles.specs.Beginnings.{place_of_interval_containing, rectangle_of_tile_in_grid}
use Rattle.cell_join_tiles.specs.Borders.{CellsAreInOneTile}
use Rattle.cell_join_tiles.specs.declared.marks.Mark.{Mark}
use Rattle.cell_join_tiles.specs.SeamLines.{UnfinishedConsecutiveClumps, label_pairs_of_adjacent_lines, labelled_category_at_position, IsLineOfFullMap, AreSeamLines, IsPairAcrossColumnSeam, IsPairAcrossRowSeam, SeamLinesGiveLabelPairs}
use Rattle.cell_join_tiles.proofs.StretchLemmas.{Lies, lies}

-- ---- cells that touch

touch-more : (n : ℕ) (j : Joining) (c d : ℕ) → Touch j c d → Touch j (n + c) (n + d)
touch-more n Edges c d h = ap (λ k. n + k) h
touch-more n EdgesAndCorners c d (inl h) = inl (ap (λ k. n + k) h)
touch-more n EdgesAndCorners c d (inr (inl h)) = inr (inl (omega (arith, h)))
touch-more n EdgesAndCorners c d (inr (inr h)) = inr (inr (omega (arith, h)))

touch-less : (n : ℕ) (j : Joining) (c d : ℕ) → Touch j (n + c) (n + d) → Touch j c d
touch-less n Edges c d h = omega (arith, h)
touch-less n EdgesAndCorners c d (inl h) = inl (omega (arith, h))
touch-less n EdgesAndCorners c d (inr (inl h)) = inr (inl (omega (arith, h)))
touch-less n EdgesAndCorners c d (inr (inr h)) = inr (inr (omega (arith, h)))

down-touch : (j : Joining) (p q : Position) → Touch j p.col q.col → p.row + 1 ≡ q.row → AreAdjacent j p q
down-touch Edges p q touch next = inr (inl next, touch)
down-touch EdgesAndCorners p q (inl e) next = inl (inr (inl next, e))
down-touch EdgesAndCorners p q (inr h) next = inr (inl next, h)

across-touch : (j : Joining) (p q : Position) → Touch j p.row q.row → p.col + 1 ≡ q.col → AreAdjacent j p q
across-touch Edges p q touch next = inl (touch, inl next)
across-touch EdgesAndCorners p q (inl e) next = inl (inl (e, inl next))
across-touch EdgesAndCorners p q (inr h) next = inr (h, inl next)

touch-down : (j : Joining) (p q : Position) → AreAdjacent j p q → p.row + 1 ≡ q.row → Touch j p.col q.col
touch-down Edges p q (inl h) next = absurd (let e = h.0 in omega (arith, e, next))
touch-down Edges p q (inr h) next = h.1
touch-down EdgesAndCorners p q (inl (inl h)) next = absurd (let e = h.0 in omega (arith, e, next))
touch-down EdgesAndCorners p q (inl (inr h)) next = inl h.1
touch-down EdgesAndCorners p q (inr h) next = inr h.1

touch-across : (j : Joining) (p q : Position) → AreAdjacent j p q → p.col + 1 ≡ q.col → Touch j p.row q.row
touch-across Edges p q (inl h) next = h.0
touch-across Edges p q (inr h) next = absurd (let e = h.1 in omega (arith, e, next))
touch-across EdgesAndCorners p q (inl (inl h)) next = inl h.0
touch-across EdgesAndCorners p q (inl (inr h)) next = absurd (let e = h.1 in omega (arith, e, next))
touch-across EdgesAndCorners p q (inr h) next = inr h.0

cols-near : (j : Joining) (p q : Position) → AreAdjacent j p q → (p.col ≡ q.col) ⊎ DifferByOne p.col q.col
cols-near Edges p q (inl e) = inr e.1
cols-near Edges p q (inr e) = inl e.1
cols-near EdgesAndCorners p q (inl (inl e)) = inr e.1
cols-near EdgesAndCorners p q (inl (inr e)) = inl e.1
cols-near EdgesAndCorners p q (inr h) = inr h.1

-- ---- one stretch, or two side by side

one-index : (ns : List ℕ) (x : ℕ) → index_in ns x ≡ place_of_interval_containing ns x
one-index [] x = refl
one-index (n ∷ ns) x = ap (λ (k : ℕ). cond (ltb x n) 0 (suc k)) (one-index ns (x - n))

-- a number at the end of a stretch, with the next number at the beginning of the next stretch
record Over (ns : List ℕ) (x y : ℕ) : Type 0 where
  inside : suc (place_of_interval_containing ns x) < length ns
  last : x + 1 ≡ sum (take (place_of_interval_containing ns x) ns) + get_or ns (place_of_interval_containing ns x) 0
  next : y ≡ sum (take (suc (place_of_interval_containing ns x)) ns)

abbrev Steps : List ℕ → ℕ → ℕ → Type 0
Steps ns x y = (place_of_interval_containing ns x ≡ place_of_interval_containing ns y) ⊎ (Over ns x y ⊎ Over ns y x)

over : (ns : List ℕ) (x y : ℕ) → Crosses ns x y (index_in ns x) → Over ns x y
over ns x y c =
    let d = subst (Crosses ns x y) (one-index ns x) c in
    record { inside = d.inside; last = d.last; next = d.next }

steps : (ns : List ℕ) → All (λ n. 0 < n) ns → (x y : ℕ) → x < sum ns → y < sum ns → (x ≡ y) ⊎ DifferByOne x y → Steps ns x y
steps ns some x y x_lt y_lt (inl e) = inl (ap (place_of_interval_containing ns) e)
steps ns some x y x_lt y_lt (inr (inl e)) =
    ⊎_elim (λ same. inl (sym (one-index ns x) ∙ same ∙ one-index ns y)) (λ c. inr (inl (over ns x y c))) (next-to ns some x y (sym e) y_lt)
steps ns some x y x_lt y_lt (inr (inr e)) =
    ⊎_elim (λ same. inl (sym (one-index ns x) ∙ sym same ∙ one-index ns y)) (λ c. inr (inr (over ns y x c))) (next-to ns some y x (sym e) x_lt)

module _ (j : Joining) (whole : Grid) (label_of : Position → ℕ) where
  abbrev mark : Position → Option Mark
  mark = labelled_category_at_position whole label_of

  -- ---- marks

  pub record Marks (p : Position) (m : Mark) : Type 0 where
    pub cell : cell_at_position whole p ≡ Some m.category
    pub label : m.label ≡ label_of p

  marks : (p : Position) (m : Mark) → mark p ≡ Some m → Marks p m
  marks p m e = by (cell_at_position whole p) refl e
    where
      by : (v : CellValue) → cell_at_position whole p ≡ v → option_map (λ c. record { category = c; label = label_of p }) v ≡ Some m → Marks p m
      by None is e = cc
      by (Some v) is e =
          let same : ◌≡◌ {A = Mark} (record { category = v; label = label_of p }) m = cc in
          record { cell = is ∙ ap (λ (x : Mark). Some x.category) same; label = sym (ap (λ (x : Mark). x.label) same) }

  mark-is : (p : Position) (v : ℤ) → cell_at_position whole p ≡ Some v → mark p ≡ Some (record { category = v; label = label_of p })
  mark-is p v is = ap (option_map (λ c. record { category = c; label = label_of p })) is

  -- ---- two lines whose cells meet

  pub record IsCut (one other : UnfinishedConsecutiveClumps) : Type 0 where
    pub count : ℕ
    pub at : ℕ → Position
    pub beside : ℕ → Position
    pub first : IsLineOfFullMap whole label_of count at one
    pub second : IsLineOfFullMap whole label_of count beside other
    pub near : (k l : ℕ) → Touch j k l → AreAdjacent j (at k) (beside l)

  in-line : (line : UnfinishedConsecutiveClumps) (count : ℕ) (at : ℕ → Position) → IsLineOfFullMap whole label_of count at line → (k : ℕ) (m : Mark) → get_or line k None ≡ Some m → mark (at k) ≡ Some m
  in-line line count at is k m e =
      let lt : k < count = omega (arith, mark-inside line k m e, is.long) in
      sym (is.each k lt) ∙ e

  cut-only : (one other : UnfinishedConsecutiveClumps) → IsCut one other → (a b : ℕ) → Contains (label_pairs_of_adjacent_lines j one other) (a, b) → AreLabelsOfMeetingCells j whole label_of a b
  cut-only one other cut a b h =
      let m = label_pairs_of_adjacent_lines-only one other j a b h in
      let x = marks (cut.at m.c) m.x (in-line one cut.count cut.at cut.first m.c m.x m.at_one) in
      let y = marks (cut.beside m.d) m.y (in-line other cut.count cut.beside cut.second m.d m.y m.at_other) in
      record {
        one = cut.at m.c;
        other = cut.beside m.d;
        category = m.x.category;
        adjacent = cut.near m.c m.d m.touch;
        first = x.cell;
        second = y.cell ∙ ap Some (sym m.same);
        first_label = m.first ∙ x.label;
        second_label = m.second ∙ y.label;
      }

  pair-of : (one other : UnfinishedConsecutiveClumps) (cut : IsCut one other) (p q : Position) (v : ℤ) (k l : ℕ) → cut.at k ≡ p → cut.beside l ≡ q → k < cut.count → l < cut.count → Touch j k l → cell_at_position whole p ≡ Some v → cell_at_position whole q ≡ Some v → Contains (label_pairs_of_adjacent_lines j one other) (label_of p, label_of q)
  pair-of one other cut p q v k l p_is q_is k_lt l_lt touch first second =
      let a = cut.first in
      let b = cut.second in
      label_pairs_of_adjacent_lines-have one other j k l (record { category = v; label = label_of p }) (record { category = v; label = label_of q }) touch
      (a.each k k_lt ∙ ap mark p_is ∙ mark-is p v first) (b.each l l_lt ∙ ap mark q_is ∙ mark-is q v second) refl

  module _ (heights widths : List ℕ) (left right : ℕ → ℕ → UnfinishedConsecutiveClumps) (first last : ℕ → UnfinishedConsecutiveClumps) (pairs : List (ℕ × ℕ)) (some_rows : All (λ n. 0 < n) heights) (some_cols : All (λ n. 0 < n) widths) (within : (p : Position) → IsSome (cell_at_position whole p) → (p.row < sum heights) × (p.col < sum widths)) (lines : AreSeamLines whole heights widths label_of left right first last) (are : (pair : ℕ × ℕ) → Contains pairs pair ↔ (IsPairAcrossColumnSeam j heights widths left right pair ⊎ IsPairAcrossRowSeam j heights first last pair)) where
    height-some : (r : ℕ) → r < length heights → 0 < get_or heights r 0
    height-some r lt = some_rows r 0 lt

    width-some : (c : ℕ) → c < length widths → 0 < get_or widths c 0
    width-some c lt = some_cols c 0 lt

    -- the facing columns of two neighbouring tiles are a cut
    side-cut : (r c : ℕ) → r < length heights → suc c < length widths → IsCut (right r c) (left r (suc c))
    side-cut r c r_lt c_lt =
        let w = get_or widths c 0 in
        let c_in : c < length widths = omega (arith, c_lt) in
        record {
          count = get_or heights r 0;
          at = λ k. position_in_full_map (rectangle_of_tile_in_grid heights widths r c)
              (position_at_row_and_column k (get_or widths c 0 - 1));
          beside = λ k. position_in_full_map (rectangle_of_tile_in_grid heights widths r (suc c))
              (position_at_row_and_column k 0);
          first = lines.rights r c r_lt c_in;
          second = lines.lefts r (suc c) r_lt c_lt;
          near = λ k l touch. across-touch j (position_in_full_map (rectangle_of_tile_in_grid heights widths r c) (position_at_row_and_column k (w - 1))) (position_in_full_map (rectangle_of_tile_in_grid heights widths r (suc c)) (position_at_row_and_column l 0)) (touch-more (sum (take r heights)) j k l touch) (omega (arith, width-some c c_in, before-next widths c c_in));
        }

    -- the facing rows of two neighbouring rows of tiles are a cut
    row-cut : (r : ℕ) → suc r < length heights → IsCut (last r) (first (suc r))
    row-cut r r_lt =
        let h = get_or heights r 0 in
        let r_in : r < length heights = omega (arith, r_lt) in
        record {
          count = sum widths;
          at = λ k. position_at_row_and_column (sum (take r heights) + (get_or heights r 0 - 1)) k;
          beside = λ k. position_at_row_and_column (sum (take (suc r) heights)) k;
          first = lines.lasts r r_in;
          second = lines.firsts (suc r) r_lt;
          near = λ k l touch. down-touch j (position_at_row_and_column (sum (take r heights) + (h - 1)) k) (position_at_row_and_column (sum (take (suc r) heights)) l) touch (omega (arith, height-some r r_in, before-next heights r r_in));
        }

    only : (a b : ℕ) → Contains pairs (a, b) → AreLabelsOfMeetingCells j whole label_of a b
    only a b h =
        ⊎_elim
        (λ side. cut-only (right side.0 side.1) (left side.0 (suc side.1)) (side-cut side.0 side.1 side.2 side.3) a b side.4)
        (λ row. cut-only (last row.0) (first (suc row.0)) (row-cut row.0 row.1) a b row.2)
        ((are (a, b)).0 h)

    -- two adjacent cells on either side of a cut between rows of tiles make a pair
    row-pair : (p q : Position) (v : ℤ) → AreAdjacent j p q → Over heights p.row q.row → p.col < sum widths → q.col < sum widths → cell_at_position whole p ≡ Some v → cell_at_position whole q ≡ Some v → Contains pairs (label_of p, label_of q)
    unfolding row-cut
    row-pair p q v near c p_lt q_lt one other =
        let r = place_of_interval_containing heights p.row in
        let r_lt : r < length heights = (let h = c.inside in omega (arith, h)) in
        let some = height-some r r_lt in
        let next = before-next heights r r_lt in
        let p_row : sum (take r heights) + (get_or heights r 0 - 1) ≡ p.row = omega (arith, c.last, some) in
        let q_row : sum (take (suc r) heights) ≡ q.row = sym c.next in
        (are (label_of p, label_of q)).1 (inr (
          r,
          c.inside,
          pair-of (last r) (first (suc r)) (row-cut r c.inside) p q v p.col q.col (λ i. record { row = p_row i; col = p.col }) (λ i. record { row = q_row i; col = q.col }) p_lt q_lt (touch-down j p q near (omega (arith, c.last, c.next, next))) one other,
        ))

    -- two adjacent cells on either side of a cut between columns of tiles make a pair
    side-pair : (p q : Position) (v : ℤ) (r : ℕ) → AreAdjacent j p q → Lies heights p.row r → Lies heights q.row r → Over widths p.col q.col → cell_at_position whole p ≡ Some v → cell_at_position whole q ≡ Some v → Contains pairs (label_of p, label_of q)
    unfolding side-cut
    side-pair p q v r near pr qr s one other =
        let c = place_of_interval_containing widths p.col in
        let c_lt : c < length widths = (let h = s.inside in omega (arith, h)) in
        let some = width-some c c_lt in
        let next = before-next widths c c_lt in
        let p_row : sum (take r heights) + (p.row - sum (take r heights)) ≡ p.row = omega (arith, pr.low) in
        let q_row : sum (take r heights) + (q.row - sum (take r heights)) ≡ q.row = omega (arith, qr.low) in
        let p_col : sum (take c widths) + (get_or widths c 0 - 1) ≡ p.col = omega (arith, s.last, some) in
        let q_col : sum (take (suc c) widths) + 0 ≡ q.col = omega (arith, s.next) in
        let touch = touch-across j p q near (omega (arith, s.last, s.next, next)) in
        let touch_in : Touch j (sum (take r heights) + (p.row - sum (take r heights))) (sum (take r heights) + (q.row - sum (take r heights))) = subst (λ (n : ℕ). Touch j n (sum (take r heights) + (q.row - sum (take r heights)))) (sym p_row) (subst (λ (n : ℕ). Touch j p.row n) (sym q_row) touch) in
        (are (label_of p, label_of q)).1 (inl (
          r,
          c,
          pr.inside,
          s.inside,
          pair-of (right r c) (left r (suc c)) (side-cut r c pr.inside s.inside) p q v (p.row - sum (take r heights)) (q.row - sum (take r heights)) (λ i. record { row = p_row i; col = p_col i }) (λ i. record { row = q_row i; col = q_col i }) (omega (arith, pr.low, pr.high)) (omega (arith, qr.low, qr.high)) (touch-less (sum (take r heights)) j (p.row - sum (take r heights)) (q.row - sum (take r heights)) touch_in) one other,
        ))

    abbrev Met : Position → Position → Type 0
    Met p q = Contains pairs (label_of p, label_of q) ⊎ Contains pairs (label_of q, label_of p)

    meet : (p q : Position) (v : ℤ) → AreAdjacent j p q → cell_at_position whole p ≡ Some v → cell_at_position whole q ≡ Some v → (CellsAreInOneTile heights widths p q → ⊥) → Met p q
    meet p q v near one other apart = by (steps heights some_rows p.row q.row p_in.0 q_in.0 (rows-near j p q near)) (steps widths some_cols p.col q.col p_in.1 q_in.1 (cols-near j p q near))
      where
        p_in : (p.row < sum heights) × (p.col < sum widths)
        p_in = within p (is-some (cell_at_position whole p) v one)

        q_in : (q.row < sum heights) × (q.col < sum widths)
        q_in = within q (is-some (cell_at_position whole q) v other)

        by : Steps heights p.row q.row → Steps widths p.col q.col → Met p q
        by (inl one_row) (inl one_col) = absurd (apart (one_row, one_col))
        by (inl one_row) (inr (inl s)) =
            inl (side-pair p q v (place_of_interval_containing heights p.row) near (lies heights p.row p_in.0) (subst (Lies heights q.row) (sym one_row) (lies heights q.row q_in.0)) s one other)
        by (inl one_row) (inr (inr s)) =
            inr (side-pair q p v (place_of_interval_containing heights q.row) (AreAdjacent-sym j p q near) (lies heights q.row q_in.0) (subst (Lies heights p.row) one_row (lies heights p.row p_in.0)) s other one)
        by (inr (inl s)) cols = inl (row-pair p q v near s p_in.1 q_in.1 one other)
        by (inr (inr s)) cols = inr (row-pair q p v (AreAdjacent-sym j p q near) s q_in.1 p_in.1 other one)

pub seam-lines-pair : SeamLinesGiveLabelPairs
seam-lines-pair j whole heights widths label_of left right first last pairs some_rows some_cols within lines are = record {
  meet = meet j whole label_of heights widths left right first last pairs some_rows some_cols within lines are;
  only = only j whole label_of heights widths left right first last pairs some_rows some_cols within lines are;
}
