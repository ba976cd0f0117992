-- Each cell has only one number.
use Rattle.std.proofs.Common.{◌≡◌, ℕ, suc, pos, ◌+◌, ◌-◌, ◌<◌, ◌≤◌, [], ◌∷◌, List, Some, None, IsSome, length, get_or, drop, refl, ap, sym, ◌∙◌, arith, subst, inl, inr, ⊎_elim, ◌⊎◌}
use Rattle.std.specs.List.{Contains, AllPairs}
use Rattle.std.proofs.lemmas.List.{get_or_read, get_or_default, get_or-drop, length-drop, same_lists}
use Rattle.std.proofs.lemmas.List.Elements.{All-get_or}
use Rattle.std.specs.FinMap as finmap
use Rattle.std.specs.Ordering.{int_cmp}
use Rattle.cell_core_values.specs.Region.{RegionValue}
use Rattle.std.proofs.lemmas.Bool.{cases_order}
use Rattle.cell_core.specs.Grid.{Grid, CellValue, RowsFillRegion, cell_at}
use Rattle.cell_clumps.specs.declared.clump.Joining.{Joining}
use Rattle.cell_clumps.specs.Clumps.{Position, cell_at_position, IsEarlierCell, HasClumpNumber, IsClumpMapOf}
use Rattle.cell_clumps.specs.ClumpLaw.{ClumpMapIsUnique}
use Rattle.cell_clumps.proofs.PathLemmas.{AreJoined-sym, AreJoined-trans}
use Rattle.cell_clumps.specs.parts.CellPlaces.{position_at_row_and_column}
use Rattle.cell_clumps.proofs.StartLemmas.{same_position}

pub IsBefore-asym : (p q : Position) → IsEarlierCell p q → IsEarlierCell q p → ⊥
IsBefore-asym p q (inl a) (inl b) = absurd (omega arith)
IsBefore-asym p q (inl a) (inr b) = absurd (let e = b.0 in omega arith)
IsBefore-asym p q (inr a) (inl b) = absurd (let e = a.0 in omega arith)
IsBefore-asym p q (inr a) (inr b) = absurd (let one = a.1 in let other = b.1 in omega arith)

-- two cells are the same, or one comes before the other
pub cases_before : (p q : Position) → (p ≡ q) ⊎ (IsEarlierCell p q ⊎ IsEarlierCell q p)
cases_before p q =
    ⊎_elim
    (λ row. ⊎_elim (λ col. inl (same_position p q.row q.col row col))
    (λ apart. ⊎_elim (λ lt. inr (inl (inr (row, lt)))) (λ lt. inr (inr (inr (sym row, lt)))) apart) (cases_order p.col q.col))
    (λ apart. ⊎_elim (λ lt. inr (inl (inl lt))) (λ lt. inr (inr (inl lt))) apart)
    (cases_order p.row q.row)

-- of two lists in row order, one whose cells are all in the other is at most as long
pub within_le : (xs ys : List Position) → AllPairs IsEarlierCell xs → AllPairs IsEarlierCell ys → ((p : Position) → Contains xs p → Contains ys p) → length xs ≤ length ys
within_le [] ys xs_order ys_order within = omega arith
within_le (x ∷ xs) ys xs_order ys_order within =
    let t = within x (0, omega arith, refl) in
    let k : ℕ = t.0 in
    let here : (d : Position) → x ≡ get_or ys k d = get_or_read ys k x t.1 (sym t.2) in
    let within_rest : (p : Position) → Contains xs p → Contains (drop (suc k) ys) p = λ p h.
    let i : ℕ = h.0 in
    let i_lt = h.1 in
    let before : IsEarlierCell x p = subst (λ (q : Position). IsEarlierCell x q) h.2 (xs_order 0 (suc i) p (omega arith) (omega arith)) in
    let s = within p (suc i, omega arith, h.2) in
    let l : ℕ = s.0 in
    let l_lt = s.1 in
    ⊎_elim
    (λ e. let same : x ≡ p = here p ∙ ap (λ (n : ℕ). get_or ys n p) (sym e) ∙ s.2 in
    absurd (IsBefore-asym x p before (subst (λ (q : Position). IsEarlierCell q x) same (subst (λ (q : Position). IsEarlierCell x q) (sym same) before))))
    (λ apart. ⊎_elim
    (λ lt. absurd (IsBefore-asym x p before (subst (λ (q : Position). IsEarlierCell p q) (sym (here p)) (subst (λ (q : Position). IsEarlierCell q (get_or ys k p)) s.2 (ys_order l k p lt t.1)))))
    (λ lt. let e : suc k + (l - suc k) ≡ l = omega arith in
    (l - suc k, (let long = length-drop (suc k) ys in omega arith), get_or-drop (suc k) ys (l - suc k) p ∙ ap (λ (n : ℕ). get_or ys n p) e ∙ s.2))
    apart)
    (cases_order l k) in
    let rest = within_le xs (drop (suc k) ys)
    (λ i j d lt inside. xs_order (suc i) (suc j) d (omega arith) (omega arith))
    (λ i j d lt inside. let long = length-drop (suc k) ys in
    subst (λ (q : Position). IsEarlierCell (get_or (drop (suc k) ys) i d) q) (sym (get_or-drop (suc k) ys j d))
    (subst (λ (q : Position). IsEarlierCell q (get_or ys (suc k + j) d)) (sym (get_or-drop (suc k) ys i d)) (ys_order (suc k + i) (suc k + j) d (omega arith) (omega arith))))
    within_rest in
    let inside = t.1 in
    let long = length-drop (suc k) ys in
    omega arith

-- a cell has only one number
pub HasClumpNumber-one : (j : Joining) (m : Grid) (p : Position) (n k : ℕ) → HasClumpNumber j m p n
    → HasClumpNumber j m p k → n ≡ k
HasClumpNumber-one j m p n k h g =
    let joined = AreJoined-trans j m h.first p g.first h.joined (AreJoined-sym j m g.first p g.joined) in
    let same : h.first ≡ g.first =
    ⊎_elim (λ e. e)
    (λ apart. ⊎_elim (λ before. absurd (g.is_first.none_before h.first before joined)) (λ before. absurd (h.is_first.none_before g.first before (AreJoined-sym j m h.first g.first joined))) apart)
    (cases_before h.first g.first) in
    let one : length h.firsts ≤ length g.firsts = within_le h.firsts g.firsts h.up_to.in_order g.up_to.in_order
    (λ q within. let both = (h.up_to.exactly q).0 within in
    (g.up_to.exactly q).1 (both.0, λ before. both.1 (subst (λ (f : Position). IsEarlierCell f q) (sym same) before))) in
    let other : length g.firsts ≤ length h.firsts = within_le g.firsts h.firsts g.up_to.in_order h.up_to.in_order
    (λ q within. let both = (g.up_to.exactly q).0 within in
    (h.up_to.exactly q).1 (both.0, λ before. both.1 (subst (λ (f : Position). IsEarlierCell f q) same before))) in
    let n_is = h.count in
    let k_is = g.count in
    omega arith

-- two clumpings of a map are equal at each cell
cells_one : (j : Joining) (m a b : Grid) → IsClumpMapOf j m a → IsClumpMapOf j m b → (p : Position) → cell_at_position a p ≡ cell_at_position b p
cells_one j m a b one other p = at_cell (cell_at_position m p) refl
  where
    at_cell : (x : CellValue) → cell_at_position m p ≡ x → cell_at_position a p ≡ cell_at_position b p
    at_cell None e = one.nulls p e ∙ sym (other.nulls p e)
    at_cell (Some v) e =
        let some : IsSome (cell_at_position m p) = rw e refl in
        let n = one.numbered p some in
        let k = other.numbered p some in
        n.2 ∙ ap (λ (i : ℕ). Some (pos i)) (HasClumpNumber-one j m p n.0 k.0 n.1 k.1) ∙ sym k.2

-- maps with the same region and the same cells have the same rows
pub same_rows : (a b : Grid) → RowsFillRegion a.region a.rows → RowsFillRegion b.region b.rows → a.region ≡ b.region → ((r c : ℕ) → r < a.region.rows → c < a.region.cols → cell_at a r c ≡ cell_at b r c) → a.rows ≡ b.rows
same_rows a b a_filled b_filled region cells =
    let a_count = a_filled.count in
    let b_count = b_filled.count in
    let rows : a.region.rows ≡ b.region.rows = ap (λ (r : RegionValue). r.rows) region in
    let cols : a.region.cols ≡ b.region.cols = ap (λ (r : RegionValue). r.cols) region in
    same_lists a.rows b.rows (omega arith)
    (λ r d lt.
    let r_lt : r < length b.rows = omega arith in
    let a_wide : length (get_or a.rows r []) ≡ a.region.cols = All-get_or (λ xs. length xs ≡ a.region.cols) a.rows r [] lt a_filled.width in
    let b_wide : length (get_or b.rows r []) ≡ b.region.cols = All-get_or (λ xs. length xs ≡ b.region.cols) b.rows r [] r_lt b_filled.width in
    get_or_default a.rows r d [] lt
    ∙ same_lists (get_or a.rows r []) (get_or b.rows r []) (omega arith)
    (λ c e c_lt. get_or_default (get_or a.rows r []) c e None c_lt ∙ cells r c (omega arith) (omega arith) ∙ get_or_default (get_or b.rows r []) c None e (omega arith))
    ∙ get_or_default b.rows r [] d r_lt)

pub same_grid : (a b : Grid) → a.region ≡ b.region → a.rows ≡ b.rows → a.labels ≡ b.labels → a ≡ b
same_grid a b region rows labels =
    let first : a ≡ record a { region = b.region } = ap (λ (r : RegionValue). record a { region = r }) region in
    let second : record a { region = b.region } ≡ record b { labels = a.labels } = ap (λ (rs : List (List CellValue)). record { region = b.region; rows = rs; labels = a.labels }) rows in
    first ∙ second ∙ ap (λ (l : finmap.FinMap int_cmp (List ℕ)). record b { labels = l }) labels

pub clump_map_is_unique : ClumpMapIsUnique
clump_map_is_unique j m a b a_filled b_filled one other =
    let region : a.region ≡ b.region = one.region ∙ sym other.region in
    same_grid a b region (same_rows a b a_filled b_filled region (λ r c _ _. cells_one j m a b one other (position_at_row_and_column r c))) (one.labels ∙ sym other.labels)
