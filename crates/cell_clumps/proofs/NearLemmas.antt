-- The labels that a cell shares with the neighbours before it.
use Rattle.std.proofs.Common.{◌≡◌, ◌≢◌, ℕ, suc, ℤ, ◌+◌, ◌<◌, Bool, true, false, not, List, Option, Some, None, length}
use Rattle.std.proofs.Common.{refl, ap, sym, ◌∙◌, arith, subst, inl, inr, ⊎_elim, ◌⊎◌}
use Rattle.cell_core.specs.Grid.{Grid, CellValue}
use Rattle.cell_core_values.specs.Cell.{cell_eq}
use Rattle.std.proofs.lemmas.Bool.{both_ways, not-true, not-false}
use Rattle.cell_clumps.specs.declared.clump.Joining.{Joining}
use Rattle.cell_clumps.specs.declared.clump.Joining.TheVariants.{Edges, EdgesAndCorners}
use Rattle.cell_clumps.specs.declared.near.LabelledCell.{LabelledCell}
use Rattle.cell_clumps.specs.declared.near.EarlierNeighbours.{EarlierNeighbours}
use Rattle.cell_clumps.specs.Clumps.{Position, cell_at_position, AreAdjacent, AreCellsConnected}
use Rattle.cell_clumps.specs.parts.Labels.{LabelsLeadToRoots, root_label_after_join}
use Rattle.cell_clumps.specs.parts.CellPlaces.{position_at_row_and_column, place_of_position}
use Rattle.cell_clumps.specs.parts.ClumpsRead.{AreNeighbourLabelsInTable, AreEarlierNeighboursOfCell}
use Rattle.cell_clumps.specs.parts.ClumpsRead.{AreLabelsOfCellsRead, HasNoEqualEarlierNeighbour}
use Rattle.cell_clumps.specs.parts.ClumpsRead.{CellSharesNeighbourLabel}
use Rattle.cell_clumps.specs.parts.ClumpsRead.{SharesNeighbourLabelInAnyMap, SharesCornerLabelInAnyMap}
use Rattle.cell_clumps.specs.parts.ClumpsRead.{IsLabelSharedWithNeighbour, IsLabelSharedAtCorners}
use Rattle.cell_clumps.specs.parts.ClumpsRead.{IsLabelledCellOfMapOrNull}
use Rattle.cell_clumps.specs.parts.ClumpsRead.{IsCellAlreadyLabelled, clump_label_at_position}
use Rattle.cell_clumps.specs.parts.Starts.{IsLeftNeighbour, IsUpperNeighbour, IsUpperLeftNeighbour}
use Rattle.cell_clumps.specs.parts.Starts.{IsUpperRightNeighbour, IsEarlierNeighbour, cell_that_began_label}
use Rattle.cell_clumps.proofs.PathLemmas.{AreJoined-adjacent, AreJoined-sym, AreJoined-trans}
use Rattle.cell_clumps.proofs.MeetingLemmas.{AreSound-joined, after_join_keeps, after_join_one}
use Rattle.cell_clumps.proofs.StartLemmas.{same_position, earlier_adjacent, count_le, alike_from, alike_to}

-- a cell that the test finds equal to a category has this category
pub is_alike : (x y : CellValue) (v : ℤ) (b : Bool) → y ≡ Some v → b ≡ cell_eq x y → b ≡ true → x ≡ Some v
is_alike x y v b is test yes' = alike_to x y v is (sym test ∙ yes')

pub is_unlike : (x y : CellValue) (v : ℤ) (b : Bool) → y ≡ Some v → b ≡ cell_eq x y → b ≡ false → x ≡ Some v → ⊥
is_unlike x y v b is test no' e = both_ways (cell_eq x y) (sym test ∙ no') (alike_from x y v e is)

pub ne_unlike : (x y : CellValue) (v : ℤ) (b : Bool) → y ≡ Some v → b ≡ not (cell_eq x y) → b ≡ true → x ≡ Some v → ⊥
ne_unlike x y v b is test yes' = is_unlike x y v (cell_eq x y) is refl (not-true _ (sym test ∙ yes'))

pub ne_alike : (x y : CellValue) (v : ℤ) (b : Bool) → y ≡ Some v → b ≡ not (cell_eq x y) → b ≡ false → x ≡ Some v
ne_alike x y v b is test no' = is_alike x y v (cell_eq x y) is refl (not-false _ (sym test ∙ no'))

-- a cell is adjacent to the cell on its right
beside : (j : Joining) (p q : Position) → p.row ≡ q.row → p.col + 1 ≡ q.col → AreAdjacent j p q
beside Edges p q e d = inl (e, inl d)
beside EdgesAndCorners p q e d = inl (inl (e, inl d))

below : (j : Joining) (p q : Position) → q.row + 1 ≡ p.row → p.col ≡ q.col → AreAdjacent j p q
below Edges p q e d = inr (inr e, d)
below EdgesAndCorners p q e d = inl (inr (inr e, d))

-- a neighbour with the same category, its label, and that it was read
pub record Reported (m : Grid) (count : ℕ) (label_of : Position
    → ℕ) (q : Position) (v : ℤ) (x : LabelledCell) : Type 0 where
  pub cell : x.cell ≡ Some v
  pub is : cell_at_position m q ≡ Some v
  pub label : x.label ≡ label_of q
  pub read : place_of_position m.region.cols q < count

report : (m : Grid) (count : ℕ) (label_of : Position → ℕ) (Lies : Position → Type 0) (x : LabelledCell) (v : ℤ)
    → IsLabelledCellOfMapOrNull m count label_of Lies x → x.cell ≡ Some v → (q : Position) × Lies q
    × Reported m count label_of q v x
report m count label_of Lies x v h e = let t = h.some v e in (
  t.0,
  t.1,
  record { cell = e; is = t.2; label = t.3; read = t.4 },
)

reported : (m : Grid) (count : ℕ) (label_of : Position → ℕ) (Lies : Position → Type 0) (x : LabelledCell) (v : ℤ)
    → IsLabelledCellOfMapOrNull m count label_of Lies x → ((p q : Position) → Lies p → Lies q → p ≡ q)
    → (q : Position) → Lies q
    → cell_at_position m q ≡ Some v → Reported m count label_of q v x
reported m count label_of Lies x v h one q lies is =
    let t = report m count label_of Lies x v h (h.all q v lies is) in
    subst (λ (p : Position). Reported m count label_of p v x) (one t.0 q t.1 lies) t.2

module _ (m : Grid) (count : ℕ) (label_of : Position → ℕ) (r c : ℕ) (v : ℤ) (near : EarlierNeighbours)
    (n : AreEarlierNeighboursOfCell m count label_of r c near) where
  pub label_left : (q : Position) → IsLeftNeighbour r c q → cell_at_position m q ≡ Some v
      → Reported m count label_of q v near.left
  label_left = reported m count label_of (IsLeftNeighbour r c) near.left v n.left
      (λ p q h g. let a = h.0 in let b = g.0 in let x = h.1 in let y = g.1 in same_position p q.row q.col
      (omega arith) (omega arith))

  pub label_above : (q : Position) → IsUpperNeighbour r c q → cell_at_position m q ≡ Some v
      → Reported m count label_of q v near.above
  label_above = reported m count label_of (IsUpperNeighbour r c) near.above v n.above
      (λ p q h g. let a = h.0 in let b = g.0 in let x = h.1 in let y = g.1 in same_position p q.row q.col
      (omega arith) (omega arith))

  pub label_upper_left : (q : Position) → IsUpperLeftNeighbour r c q → cell_at_position m q ≡ Some v
      → Reported m count label_of q v near.upper_left
  label_upper_left = reported m count label_of (IsUpperLeftNeighbour r c) near.upper_left v n.upper_left
      (λ p q h g. let a = h.0 in let b = g.0 in let x = h.1 in let y = g.1 in same_position p q.row q.col
      (omega arith) (omega arith))

  pub label_upper_right : (q : Position) → IsUpperRightNeighbour r c q → cell_at_position m q ≡ Some v
      → Reported m count label_of q v near.upper_right
  label_upper_right = reported m count label_of (IsUpperRightNeighbour r c) near.upper_right v n.upper_right
      (λ p q h g. let a = h.0 in let b = g.0 in let x = h.1 in let y = g.1 in same_position p q.row q.col
      (omega arith) (omega arith))

-- the label of each cell that was read is in the table
pub label_below : (j : Joining) (m : Grid) (table labels : List ℕ) (open_of : ℕ → ℕ)
    → AreLabelsOfCellsRead j m table labels open_of → (q : Position) (v : ℤ) → cell_at_position m q ≡ Some v
    → IsCellAlreadyLabelled m labels q → clump_label_at_position m labels q < length table
label_below j m table labels open_of rd q v is read =
    let few = rd.few q v is read in
    let le = count_le j m (suc (place_of_position m.region.cols q)) (length labels) (omega arith) in
    let long = rd.long in
    omega arith

pub inside_near : (j : Joining) (m : Grid) (table labels : List ℕ) (open_of : ℕ
    → ℕ) (r c : ℕ) (near : EarlierNeighbours) → AreLabelsOfCellsRead j m table labels open_of
    → AreEarlierNeighboursOfCell m (length labels) (clump_label_at_position m labels) r c near
    → AreNeighbourLabelsInTable (length table) near
inside_near j m table labels open_of r c near rd n = record {
  left = λ v e. from v near.left (report m (length labels) (clump_label_at_position m labels)
      (IsLeftNeighbour r c) near.left v n.left e).2;
  upper_left = λ v e. from v near.upper_left (report m (length labels) (clump_label_at_position m labels)
      (IsUpperLeftNeighbour r c) near.upper_left v n.upper_left e).2;
  above = λ v e. from v near.above (report m (length labels) (clump_label_at_position m labels)
      (IsUpperNeighbour r c) near.above v n.above e).2;
  upper_right = λ v e. from v near.upper_right (report m (length labels) (clump_label_at_position m labels)
      (IsUpperRightNeighbour r c) near.upper_right v n.upper_right e).2;
}
  where
    from : {q : Position} (v : ℤ) (x : LabelledCell) → Reported m (length labels)
        (clump_label_at_position m labels) q v x
        → x.label < length table
    from {q} v x t = let lt = label_below j m table labels open_of rd q v t.is t.read in let e = t.label in omega arith

module _ (j : Joining) (m : Grid) (r c : ℕ) (v : ℤ) (table labels : List ℕ) (f : ℕ
    → ℕ) (rd : AreLabelsOfCellsRead j m table labels f) where
  abbrev ReportedOf : Position → LabelledCell → Type 0
  ReportedOf q x = Reported m (length labels) (clump_label_at_position m labels) q v x

  -- adjacent cells of the same category that were read lead to the same label
  met : (p q : Position) (x y : LabelledCell) → AreAdjacent j p q → ReportedOf p x → ReportedOf q y
      → f (clump_label_at_position m labels p) ≡ f y.label
  met p q x y near t s = rd.meet p q v near t.is s.is t.read s.read ∙ ap f (sym s.label)

  -- a cell takes a neighbour's label if every earlier neighbour of its category leads to the same label
  pub shared : (q : Position) (x : LabelledCell) → IsEarlierNeighbour j r c q → ReportedOf q x
      → ((p : Position) → IsEarlierNeighbour j r c p → cell_at_position m p ≡ Some v
      → f (clump_label_at_position m labels p) ≡ f x.label) → CellSharesNeighbourLabel j m table labels f r c v x.label
  shared q x earlier t meet = record {
    after = f;
    sound = rd.sound;
    keeps = λ a b e. e;
    from = q;
    earlier = earlier;
    alike = t.is;
    same = t.label;
    meet = meet;
  }

  -- a cell takes a label after the labels of two neighbours were joined
  pub shared_joined : (new : List ℕ) (p q : Position) (x y : LabelledCell)
      → cell_at_position m (position_at_row_and_column r c) ≡ Some v → IsEarlierNeighbour j r c p
      → IsEarlierNeighbour j r c q
      → ReportedOf p x → ReportedOf q y → length new ≡ length table
      → LabelsLeadToRoots new (root_label_after_join f x.label y.label)
      → ((s : Position) → IsEarlierNeighbour j r c s → cell_at_position m s ≡ Some v
      → (f (clump_label_at_position m labels s) ≡ f x.label) ⊎ (f (clump_label_at_position m labels s) ≡ f y.label))
      → CellSharesNeighbourLabel j m new labels f r c v y.label
  shared_joined new p q x y is p_earlier q_earlier t s long reports meet =
      let to_start : (k : Position) (z : LabelledCell) → ReportedOf k z
      → AreCellsConnected j m (cell_that_began_label j m z.label) k = λ k z reported. subst
      (λ (l : ℕ). AreCellsConnected j m (cell_that_began_label j m l) k) (sym reported.label)
      (rd.joined k v reported.is reported.read) in
      let here : (k : Position) → IsEarlierNeighbour j r c k → cell_at_position m k ≡ Some v
      → AreCellsConnected j m k (position_at_row_and_column r c) = λ k earlier k_is. AreJoined-adjacent j m k
      (position_at_row_and_column r c) v
      (earlier_adjacent j r c k earlier) k_is is in
      let one = AreJoined-trans j m _ p _ (to_start p x t) (here p p_earlier t.is) in
      let other = AreJoined-trans j m _ q _ (to_start q y s) (here q q_earlier s.is) in
      let x_in : x.label < length table = (let lt = label_below j m table labels f rd p v t.is t.read in let
      e = t.label in omega arith) in
      let y_in : y.label < length table = (let lt = label_below j m table labels f rd q v s.is s.read in let
      e = s.label in omega arith) in
      record {
        after = root_label_after_join f x.label y.label;
        sound = AreSound-joined j m table new f x.label y.label rd.sound long reports x_in y_in
            (AreJoined-trans j m _ _ _ one (AreJoined-sym j m _ _ other));
        keeps = after_join_keeps f x.label y.label;
        from = q;
        earlier = q_earlier;
        alike = s.is;
        same = s.label;
        meet = λ k earlier k_is. ⊎_elim (λ e. after_join_keeps f x.label y.label _ x.label e
            ∙ after_join_one f x.label y.label) (λ e. after_join_keeps f x.label y.label _ y.label e)
            (meet k earlier k_is);
      }

-- ---- neighbours by edges

module _ (m : Grid) (r c : ℕ) (v : ℤ) (table labels : List ℕ) (f : ℕ
    → ℕ) (near : EarlierNeighbours) (n : AreEarlierNeighboursOfCell m (length labels)
    (clump_label_at_position m labels) r c near) (rd : AreLabelsOfCellsRead Edges m table labels f) where
  pub edges_above : (near.left.cell ≡ Some v → ⊥) → near.above.cell ≡ Some v
      → CellSharesNeighbourLabel Edges m table labels f r c v near.above.label
  edges_above not_left above =
      let t = report m (length labels) (clump_label_at_position m labels)
      (IsUpperNeighbour r c) near.above v n.above above in
      shared Edges m r c v table labels f rd t.0 near.above (inr t.1) t.2
      (λ p earlier is. ⊎_elim (λ h. absurd (not_left (label_left m (length labels)
      (clump_label_at_position m labels) r c v near n p h is).cell))
      (λ h. ap f (sym (label_above m (length labels) (clump_label_at_position m labels) r c v near n p h is).label))
      earlier)

  pub edges_left : near.left.cell ≡ Some v → (near.above.cell ≡ Some v → near.upper_left.cell ≡ Some v)
      → CellSharesNeighbourLabel Edges m table labels f r c v near.left.label
  edges_left left between =
      let t = report m (length labels) (clump_label_at_position m labels)
      (IsLeftNeighbour r c) near.left v n.left left in
      shared Edges m r c v table labels f rd t.0 near.left (inl t.1) t.2
      (λ p earlier is. ⊎_elim (λ h. ap f (sym (label_left m (length labels)
      (clump_label_at_position m labels) r c v near n p h is).label))
      (λ h. let a = label_above m (length labels) (clump_label_at_position m labels) r c v near n p h is in
      let u = report m (length labels) (clump_label_at_position m labels)
      (IsUpperLeftNeighbour r c) near.upper_left v n.upper_left (between a.cell) in
      let x = u.1.0 in let y = u.1.1 in let z = t.1.0 in let w = t.1.1 in let i = h.0 in let k = h.1 in
      sym (met Edges m r c v table labels f rd t.0 u.0 near.left near.upper_left (below Edges t.0 u.0 (omega arith)
      (omega arith)) t.2 u.2
      ∙ ap f u.2.label
      ∙ met Edges m r c v table labels f rd u.0 p near.upper_left near.above (beside Edges u.0 p (omega arith)
      (omega arith)) u.2 a
      ∙ ap f a.label)
      ∙ ap f (sym t.2.label)) earlier)

  pub edges_joined : (new : List ℕ) → cell_at_position m (position_at_row_and_column r c) ≡ Some v
      → near.left.cell ≡ Some v
      → near.above.cell ≡ Some v → length new ≡ length table → LabelsLeadToRoots new
      (root_label_after_join f near.above.label near.left.label)
      → CellSharesNeighbourLabel Edges m new labels f r c v near.left.label
  edges_joined new is left above long reports =
      let t = report m (length labels) (clump_label_at_position m labels)
      (IsUpperNeighbour r c) near.above v n.above above in
      let l = report m (length labels) (clump_label_at_position m labels)
      (IsLeftNeighbour r c) near.left v n.left left in
      shared_joined Edges m r c v table labels f rd new t.0 l.0 near.above near.left is (inr t.1)
      (inl l.1) t.2 l.2 long reports
      (λ p earlier p_is. ⊎_elim (λ h. inr (ap f (sym (label_left m (length labels)
      (clump_label_at_position m labels) r c v near n p h p_is).label)))
      (λ h. inl (ap f (sym (label_above m (length labels) (clump_label_at_position m labels) r c v near n p h
      p_is).label)))
      earlier)

-- ---- neighbours by edges and corners

module _ (m : Grid) (r c : ℕ) (v : ℤ) (table labels : List ℕ) (f : ℕ
    → ℕ) (near : EarlierNeighbours) (n : AreEarlierNeighboursOfCell m (length labels)
    (clump_label_at_position m labels) r c near) (rd : AreLabelsOfCellsRead EdgesAndCorners m table labels f) where
  -- a property that holds of each of the four neighbours of the category holds of every earlier neighbour of the
  -- category
  each : (P : Position → Type 0) → ((p : Position) → IsLeftNeighbour r c p
      → Reported m (length labels) (clump_label_at_position m labels) p v near.left → P p)
      → ((p : Position) → IsUpperNeighbour r c p → Reported m (length labels)
      (clump_label_at_position m labels) p v near.above
      → P p) → ((p : Position) → IsUpperLeftNeighbour r c p → Reported m (length labels)
      (clump_label_at_position m labels) p v near.upper_left → P p) → ((p : Position) → IsUpperRightNeighbour r c p
      → Reported m (length labels) (clump_label_at_position m labels) p v near.upper_right → P p) → (p : Position)
      → IsEarlierNeighbour EdgesAndCorners r c p → cell_at_position m p ≡ Some v → P p
  each P left above upper_left upper_right p (inl (inl h)) is = left p h
      (label_left m (length labels) (clump_label_at_position m labels) r c v near n p h is)
  each P left above upper_left upper_right p (inl (inr h)) is = above p h
      (label_above m (length labels) (clump_label_at_position m labels) r c v near n p h is)
  each P left above upper_left upper_right p (inr (inl h)) is = upper_left p h (label_upper_left m (length labels)
      (clump_label_at_position m labels) r c v near n p h is)
  each P left above upper_left upper_right p (inr (inr h)) is = upper_right p h (label_upper_right m (length labels)
      (clump_label_at_position m labels) r c v near n p h is)

  pub corners_above : near.above.cell ≡ Some v → CellSharesNeighbourLabel EdgesAndCorners m table labels f r c v
      near.above.label
  corners_above above =
      let t = report m (length labels) (clump_label_at_position m labels)
      (IsUpperNeighbour r c) near.above v n.above above in
      let z = t.1.0 in let w = t.1.1 in
      shared EdgesAndCorners m r c v table labels f rd t.0 near.above (inl (inr t.1)) t.2
      (each (λ p. f (clump_label_at_position m labels p) ≡ f near.above.label)
      (λ p h s. let a = h.0 in let b = h.1 in met EdgesAndCorners m r c v table labels f rd p t.0 near.left near.above
      (inr (inr (omega arith), inl (omega arith))) s t.2)
      (λ p h s. ap f (sym s.label))
      (λ p h s. let a = h.0 in let b = h.1 in met EdgesAndCorners m r c v table labels f rd p t.0 near.upper_left
      near.above (beside EdgesAndCorners p t.0 (omega arith) (omega arith)) s t.2)
      (λ p h s. let a = h.0 in let b = h.1 in sym (met EdgesAndCorners m r c v table labels f rd t.0 p near.above
      near.upper_right (beside EdgesAndCorners t.0 p (omega arith) (omega arith)) t.2 s ∙ ap f s.label)
      ∙ ap f (sym t.2.label)))

  -- if the upper left and the left neighbour have the category, their labels lead to the same label
  under_left : (p l : Position) → IsUpperLeftNeighbour r c p → IsLeftNeighbour r c l
      → Reported m (length labels) (clump_label_at_position m labels) p v near.upper_left
      → Reported m (length labels) (clump_label_at_position m labels) l v near.left
      → f (clump_label_at_position m labels p) ≡ f near.left.label
  under_left p l h g s t =
      let a = h.0 in let b = h.1 in let z = g.0 in let w = g.1 in
      sym (met EdgesAndCorners m r c v table labels f rd l p near.left near.upper_left
      (below EdgesAndCorners l p (omega arith) (omega arith)) t s ∙ ap f s.label) ∙ ap f (sym t.label)

  -- if the neighbour above and the left neighbour have the category, their labels lead to the same label
  over_left : (p l : Position) → IsUpperNeighbour r c p → IsLeftNeighbour r c l
      → Reported m (length labels) (clump_label_at_position m labels) p v near.above → Reported m (length labels)
      (clump_label_at_position m labels) l v near.left → f (clump_label_at_position m labels p) ≡ f near.left.label
  over_left p l h g s t =
      let a = h.0 in let b = h.1 in let z = g.0 in let w = g.1 in
      met EdgesAndCorners m r c v table labels f rd p l near.above near.left (inr (
        inl (omega arith),
        inr
            (omega arith),
      )) s t

  pub corners_left : near.left.cell ≡ Some v → (near.upper_right.cell ≡ Some v → near.above.cell ≡ Some v)
      → CellSharesNeighbourLabel EdgesAndCorners m table labels f r c v near.left.label
  corners_left left between =
      let t = report m (length labels) (clump_label_at_position m labels)
      (IsLeftNeighbour r c) near.left v n.left left in
      let z = t.1.0 in let w = t.1.1 in
      shared EdgesAndCorners m r c v table labels f rd t.0 near.left (inl (inl t.1)) t.2
      (each (λ p. f (clump_label_at_position m labels p) ≡ f near.left.label)
      (λ p h s. ap f (sym s.label))
      (λ p h s. over_left p t.0 h t.1 s t.2)
      (λ p h s. under_left p t.0 h t.1 s t.2)
      (λ p h s. let u = report m (length labels) (clump_label_at_position m labels)
      (IsUpperNeighbour r c) near.above v n.above
      (between s.cell) in
      let a = h.0 in let b = h.1 in let x = u.1.0 in let y = u.1.1 in
      sym (met EdgesAndCorners m r c v table labels f rd u.0 p near.above near.upper_right
      (beside EdgesAndCorners u.0 p (omega arith) (omega arith)) u.2 s ∙ ap f s.label)
      ∙ over_left u.0 t.0 u.1 t.1 u.2 t.2))

  pub corners_joined_left : (new : List ℕ) → cell_at_position m (position_at_row_and_column r c) ≡ Some v
      → (near.above.cell ≡ Some v → ⊥) → near.left.cell ≡ Some v → near.upper_right.cell ≡ Some v
      → length new ≡ length table → LabelsLeadToRoots new
      (root_label_after_join f near.upper_right.label near.left.label)
      → CellSharesNeighbourLabel EdgesAndCorners m new labels f r c v near.left.label
  corners_joined_left new is not_above left upper_right long reports =
      let t = report m (length labels) (clump_label_at_position m labels)
      (IsUpperRightNeighbour r c) near.upper_right v n.upper_right upper_right in
      let l = report m (length labels) (clump_label_at_position m labels)
      (IsLeftNeighbour r c) near.left v n.left left in
      shared_joined EdgesAndCorners m r c v table labels f rd new t.0 l.0 near.upper_right near.left is
      (inr (inr t.1)) (inl (inl l.1)) t.2 l.2 long reports
      (each (λ p. (f (clump_label_at_position m labels p) ≡ f near.upper_right.label) ⊎
      (f (clump_label_at_position m labels p)
      ≡ f near.left.label))
      (λ p h s. inr (ap f (sym s.label)))
      (λ p h s. absurd (not_above s.cell))
      (λ p h s. inr (under_left p l.0 h l.1 s l.2))
      (λ p h s. inl (ap f (sym s.label))))

  module _ (none : (q : Position) → IsLeftNeighbour r c q ⊎ IsUpperNeighbour r c q → cell_at_position m q ≡ Some v
      → ⊥) where
    pub corners_upper_right : (near.upper_left.cell ≡ Some v → ⊥) → near.upper_right.cell ≡ Some v
        → CellSharesNeighbourLabel EdgesAndCorners m table labels f r c v near.upper_right.label
    corners_upper_right not_upper_left upper_right =
        let t = report m (length labels) (clump_label_at_position m labels)
        (IsUpperRightNeighbour r c) near.upper_right v n.upper_right upper_right in
        shared EdgesAndCorners m r c v table labels f rd t.0 near.upper_right (inr (inr t.1)) t.2
        (each (λ p. f (clump_label_at_position m labels p) ≡ f near.upper_right.label)
        (λ p h s. absurd (none p (inl h) s.is))
        (λ p h s. absurd (none p (inr h) s.is))
        (λ p h s. absurd (not_upper_left s.cell))
        (λ p h s. ap f (sym s.label)))

    pub corners_upper_left : near.upper_left.cell ≡ Some v → (near.upper_right.cell ≡ Some v
        → near.upper_right.label ≡ near.upper_left.label) → CellSharesNeighbourLabel EdgesAndCorners m table labels f
        r c
        v near.upper_left.label
    corners_upper_left upper_left same =
        let t = report m (length labels) (clump_label_at_position m labels)
        (IsUpperLeftNeighbour r c) near.upper_left v n.upper_left upper_left in
        shared EdgesAndCorners m r c v table labels f rd t.0 near.upper_left (inr (inl t.1)) t.2
        (each (λ p. f (clump_label_at_position m labels p) ≡ f near.upper_left.label)
        (λ p h s. absurd (none p (inl h) s.is))
        (λ p h s. absurd (none p (inr h) s.is))
        (λ p h s. ap f (sym s.label))
        (λ p h s. ap f (sym s.label ∙ same s.cell)))

    pub corners_joined : (new : List ℕ) → cell_at_position m (position_at_row_and_column r c) ≡ Some v
        → near.upper_left.cell ≡ Some v
        → near.upper_right.cell ≡ Some v → length new ≡ length table
        → LabelsLeadToRoots new (root_label_after_join f near.upper_right.label near.upper_left.label)
        → CellSharesNeighbourLabel EdgesAndCorners m new labels f r c v near.upper_left.label
    corners_joined new is upper_left upper_right long reports =
        let t = report m (length labels) (clump_label_at_position m labels)
        (IsUpperRightNeighbour r c) near.upper_right v n.upper_right upper_right in
        let u = report m (length labels) (clump_label_at_position m labels)
        (IsUpperLeftNeighbour r c) near.upper_left v n.upper_left upper_left in
        shared_joined EdgesAndCorners m r c v table labels f rd new t.0 u.0 near.upper_right near.upper_left is
        (inr (inr t.1)) (inr (inl u.1)) t.2 u.2 long reports
        (each (λ p. (f (clump_label_at_position m labels p) ≡ f near.upper_right.label) ⊎
        (f (clump_label_at_position m labels p)
        ≡ f near.upper_left.label))
        (λ p h s. absurd (none p (inl h) s.is))
        (λ p h s. absurd (none p (inr h) s.is))
        (λ p h s. inr (ap f (sym s.label)))
        (λ p h s. inl (ap f (sym s.label))))

pub corners_only : (r : Option ℕ) (cell : CellValue) (near : EarlierNeighbours) (old new : List ℕ)
    → IsLabelSharedAtCorners cell near old new r
    → ((label : ℕ) → SharesCornerLabelInAnyMap cell near old new label
    → SharesNeighbourLabelInAnyMap EdgesAndCorners cell near old new label)
    → ((near.upper_left.cell ≢ cell) × (near.upper_right.cell ≢ cell)
    → HasNoEqualEarlierNeighbour EdgesAndCorners cell near)
    → IsLabelSharedWithNeighbour EdgesAndCorners cell near old new r
corners_only None cell near old new shares some none = (shares.0, none shares.1)
corners_only (Some label) cell near old new shares some none = some label shares
