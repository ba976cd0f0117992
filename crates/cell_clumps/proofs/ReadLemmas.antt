-- One more cell is read.
use Rattle.std.proofs.Common.{◌≡◌, ℕ, suc, ℤ, true, ◌+◌, ◌*◌, ◌<◌, ◌++◌, ◌∷◌, [], List, Some, None, length, take, drop, refl, ap, sym, ◌∙◌, arith, subst, ⊎_elim}
use Rattle.std.proofs.lemmas.Bool.{cases_lt, both_ways}
use Rattle.std.proofs.lemmas.List.{length_push, get_or_push, get_or_append_left, take_at}
use Rattle.cell_core.specs.Grid.{Grid}
use Rattle.cell_clumps.specs.declared.clump.Joining.{Joining}
use Rattle.cell_clumps.specs.Clumps.{Position, cell_at_position, IsEarlierCell, AreAdjacent, AreCellsConnected}
use Rattle.cell_clumps.specs.parts.Labels.{LabelsPointToSmallerOrSelf}
use Rattle.cell_clumps.specs.parts.Meetings.{LabelsLeadToConnectedRoots}
use Rattle.cell_clumps.specs.parts.CellPlaces.{position_at_row_and_column, place_of_position, IsInsideMap}
use Rattle.cell_clumps.specs.parts.ClumpsRead.{AreLabelsOfCellsRead, RootsExistForLabelsOfCellsRead}
use Rattle.cell_clumps.specs.parts.ClumpsRead.{CellSharesNeighbourLabel}
use Rattle.cell_clumps.specs.parts.ClumpsRead.{IsCellAlreadyLabelled, clump_label_at_position}
use Rattle.cell_clumps.specs.parts.Starts.{IsEarlierNeighbour, cell_begins_new_label, count_of_begun_labels}
use Rattle.cell_clumps.specs.parts.Starts.{cell_that_began_label}
use Rattle.cell_clumps.proofs.LabelLemmas.{extended, extended_old}
use Rattle.cell_clumps.proofs.LawLemmas.{cases_before}
use Rattle.cell_clumps.proofs.MeetingLemmas.{AreSound-push}
use Rattle.cell_clumps.proofs.NearLemmas.{label_below}
use Rattle.cell_clumps.proofs.PathLemmas.{AreAdjacent-sym, AreJoined-adjacent, AreJoined-refl, AreJoined-trans}
use Rattle.cell_clumps.proofs.StartLemmas.{one_place, place_lt, earlier_adjacent, earlier_before, adjacent_earlier, begins_none, begins_from, begins_null, count_begins, count_stays, start_here}

-- a cell with a smaller place comes earlier
pub before_of : (w : ℕ) (p q : Position) → p.col < w → q.col < w → place_of_position w p < place_of_position w q
    → IsEarlierCell p q
before_of w p q p_in q_in lt =
    ⊎_elim (λ e. absurd (let same = ap (place_of_position w) e in omega arith))
    (λ apart. ⊎_elim (λ before. before) (λ after. absurd (let less = place_lt w q p q_in after in omega arith)) apart)
    (cases_before p q)

module _ (j : Joining) (m : Grid) (table labels : List ℕ) (f : ℕ → ℕ) (rd : AreLabelsOfCellsRead j m table labels f) (r c l : ℕ) (c_in : c < m.region.cols) (count : length labels ≡ r * m.region.cols + c) where
  -- the labels, with this cell's label appended
  abbrev pub one_more : List ℕ
  one_more = labels ++ l ∷ []

  long : length one_more ≡ suc (r * m.region.cols + c)
  long = (let e = length_push labels l in omega arith)

  kept : (q : Position) → IsCellAlreadyLabelled m labels q → clump_label_at_position m one_more q
      ≡ clump_label_at_position m labels q
  kept q read = get_or_append_left labels (l ∷ []) 0 (place_of_position m.region.cols q) read

  last : clump_label_at_position m one_more (position_at_row_and_column r c) ≡ l
  last = get_or_push labels l 0 (r * m.region.cols + c) count

  -- a property of each cell that was read before, and of this cell, holds of every cell read
  by_cell : (P : Position → ℕ → Type 0) (q : Position) → q.col < m.region.cols → IsCellAlreadyLabelled m one_more q → (IsCellAlreadyLabelled m labels q → P q (clump_label_at_position m labels q)) → P (position_at_row_and_column r c) l → P q (clump_label_at_position m one_more q)
  by_cell P q q_in read old new =
      ⊎_elim (λ lt. subst (P q) (sym (kept q lt)) (old lt))
      (λ le. let longer = long in
      let e : q ≡ position_at_row_and_column r c = one_place m.region.cols q
      (position_at_row_and_column r c) q_in c_in (omega arith) in
      subst (λ (x : Position). P x (clump_label_at_position m one_more x)) (sym e)
      (subst (P (position_at_row_and_column r c)) (sym last) new))
      (cases_lt (place_of_position m.region.cols q) (length labels))

  earlier_of : (q : Position) (v : ℤ) → cell_at_position m q ≡ Some v → IsCellAlreadyLabelled m labels q → AreAdjacent j q (position_at_row_and_column r c) → IsEarlierNeighbour j r c q
  earlier_of q v is read near = adjacent_earlier j r c q near (before_of m.region.cols q (position_at_row_and_column r c) ((rd.inside q v is).1) c_in (omega arith))

  grown : (new : List ℕ) (g : ℕ → ℕ) → length new ≡ count_of_begun_labels j m (suc (r * m.region.cols + c)) → LabelsLeadToConnectedRoots j m new g → ((a b : ℕ) → a < length table → b < length table → f a ≡ f b → g a ≡ g b) → ((v : ℤ) → cell_at_position m (position_at_row_and_column r c) ≡ Some v → (l < count_of_begun_labels j m (suc (r * m.region.cols + c))) × AreCellsConnected j m (cell_that_began_label j m l) (position_at_row_and_column r c)) → (cell_begins_new_label j m (position_at_row_and_column r c) ≡ true → l ≡ count_of_begun_labels j m (r * m.region.cols + c)) → ((q : Position) (v : ℤ) → IsEarlierNeighbour j r c q → cell_at_position m q ≡ Some v → cell_at_position m (position_at_row_and_column r c) ≡ Some v → IsCellAlreadyLabelled m labels q → g (clump_label_at_position m labels q) ≡ g l) → AreLabelsOfCellsRead j m new one_more g
  grown new g new_long sound keeps here own meet = record {
    inside = rd.inside;
    long = new_long ∙ ap (count_of_begun_labels j m) (sym long);
    sound = sound;
    few = λ p v is read. by_cell (λ x k. cell_at_position m x ≡ Some v → k < count_of_begun_labels j m (suc (place_of_position m.region.cols x))) p ((rd.inside p v is).1) read
        (λ old e. rd.few p v e old) (λ e. (here v e).0) is;
    joined = λ p v is read. by_cell (λ x k. cell_at_position m x ≡ Some v → AreCellsConnected j m (cell_that_began_label j m k) x) p ((rd.inside p v is).1) read
        (λ old e. rd.joined p v e old) (λ e. (here v e).1) is;
    own = λ p inside is read. by_cell (λ x k. cell_begins_new_label j m x ≡ true → k ≡ count_of_begun_labels j m (place_of_position m.region.cols x)) p inside.1 read
        (λ old e. rd.own p inside e old) own is;
    meet = λ p q v near p_is q_is p_read q_read.
        by_cell (λ x k. AreAdjacent j x q → cell_at_position m x ≡ Some v → g k ≡ g (clump_label_at_position m one_more q)) p ((rd.inside p v p_is).1) p_read
        (λ p_old near_x x_is. by_cell (λ y k. AreAdjacent j p y → cell_at_position m y ≡ Some v → g (clump_label_at_position m labels p) ≡ g k) q ((rd.inside q v q_is).1) q_read
        (λ q_old near_y y_is. keeps _ _ (label_below j m table labels f rd p v p_is p_old) (label_below j m table labels f rd q v q_is q_old) (rd.meet p q v near p_is q_is p_old q_old))
        (λ near_y y_is. meet p v (earlier_of p v p_is p_old near_y) p_is y_is p_old) near q_is)
        (λ near_x x_is. by_cell (λ y k. AreAdjacent j (position_at_row_and_column r c) y → cell_at_position m y ≡ Some v → g l ≡ g k) q ((rd.inside q v q_is).1) q_read
        (λ q_old near_y y_is. sym (meet q v (earlier_of q v q_is q_old (AreAdjacent-sym j (position_at_row_and_column r c) q near_y)) q_is x_is q_old))
        (λ near_y y_is. refl) near_x q_is) near p_is;
  }

  -- a null cell was read
  pub read_null : cell_at_position m (position_at_row_and_column r c) ≡ None
      → RootsExistForLabelsOfCellsRead j m table one_more
  read_null is =
      let none = begins_null j m (position_at_row_and_column r c) is in
      let stays = count_stays j m r c c_in none in
      let never : (v : ℤ) → cell_at_position m (position_at_row_and_column r c) ≡ Some v → ⊥ = λ v e. let both : None ≡ Some v = sym is ∙ e in cc in
      record {
        open_of = f;
        read = grown table f (rd.long ∙ ap (count_of_begun_labels j m) count ∙ sym stays) rd.sound (λ a b _ _ e. e)
            (λ v e. absurd (never v e))
            (λ e. absurd (both_ways (cell_begins_new_label j m (position_at_row_and_column r c)) none e))
            (λ q v _ _ e _. absurd (never v e));
      }

  -- the cell shares the label of a neighbour
  pub read_shared : (new : List ℕ) (v : ℤ) → cell_at_position m (position_at_row_and_column r c) ≡ Some v → length new ≡ length table → CellSharesNeighbourLabel j m new labels f r c v l → RootsExistForLabelsOfCellsRead j m new one_more
  read_shared new v is same s =
      let near = earlier_adjacent j r c s.from s.earlier in
      let inside = rd.inside s.from v s.alike in
      let before = place_lt m.region.cols s.from (position_at_row_and_column r c) inside.1
      (earlier_before j r c s.from s.earlier) in
      let from_read : IsCellAlreadyLabelled m labels s.from = omega arith in
      let none = begins_none j m r c v is s.from s.earlier s.alike in
      let stays = count_stays j m r c c_in none in
      let below = label_below j m table labels f rd s.from v s.alike from_read in
      let total : length table ≡ count_of_begun_labels j m (r * m.region.cols + c) = rd.long
      ∙ ap (count_of_begun_labels j m) count in
      let is_same = s.same in
      record {
        open_of = s.after;
        read = grown new s.after (same ∙ total ∙ sym stays) s.sound (λ a b _ _ e. s.keeps a b e)
            (λ u e. (
              omega arith,
              subst (λ (k : ℕ). AreCellsConnected j m (cell_that_began_label j m k) (position_at_row_and_column r c))
                  (sym is_same)
                  (AreJoined-trans j m _ s.from _ (rd.joined s.from v s.alike from_read) (AreJoined-adjacent j m s.from (position_at_row_and_column r c) v near s.alike is)),
            ))
            (λ e. absurd (both_ways (cell_begins_new_label j m (position_at_row_and_column r c)) none e))
            (λ q u earlier q_is e _. let both : Some v ≡ Some u = sym is ∙ e in let one : u ≡ v = cc in s.meet q earlier (q_is ∙ ap Some one));
      }

  -- the cell gets a label of its own
  pub read_new : (v : ℤ) → cell_at_position m (position_at_row_and_column r c) ≡ Some v → LabelsPointToSmallerOrSelf table → ((q : Position) → IsEarlierNeighbour j r c q → cell_at_position m q ≡ Some v → ⊥) → l ≡ length table → RootsExistForLabelsOfCellsRead j m (table ++ l ∷ []) one_more
  read_new v is down none own =
      let begun = begins_from j m r c v is none in
      let more = count_begins j m r c c_in begun in
      let total : length table ≡ count_of_begun_labels j m (r * m.region.cols + c) = rd.long
      ∙ ap (count_of_begun_labels j m) count in
      let own_is : l ≡ count_of_begun_labels j m (r * m.region.cols + c) = own ∙ total in
      let inside = rd.inside (position_at_row_and_column r c) v is in
      let n : ℕ = length table in
      let push : LabelsLeadToConnectedRoots j m (table ++ l ∷ []) (extended f n) = subst (λ (k : ℕ). LabelsLeadToConnectedRoots j m (table ++ k ∷ []) (extended f n)) (sym own) (AreSound-push j m table f down rd.sound) in
      let grows = length_push table l in
      record {
        open_of = extended f n;
        read = grown (table ++ l ∷ []) (extended f n) (omega arith) push
            (λ a b a_in b_in e. extended_old f n a a_in ∙ e ∙ sym (extended_old f n b b_in))
            (λ u e. (
              omega arith,
              subst (λ (p : Position). AreCellsConnected j m p (position_at_row_and_column r c)) (sym (ap (cell_that_began_label j m) own_is ∙ start_here j m (position_at_row_and_column r c) inside begun)) (AreJoined-refl j m (position_at_row_and_column r c) v is),
            ))
            (λ _. own_is)
            (λ q u earlier q_is e _. absurd (let both : Some v ≡ Some u = sym is ∙ e in let one : u ≡ v = cc in none q earlier (q_is ∙ ap Some one)));
      }

-- writing back a slice of the same length replaces the items
pub written_back : (new items : List ℕ) (n : ℕ) → length new ≡ n → take n (new ++ drop (length new) items) ≡ new
written_back new items n e = take_at new (drop (length new) items) n e

-- before the first cell, nothing was read
pub read_nothing : (j : Joining) (m : Grid) → ((p : Position) (v : ℤ) → cell_at_position m p ≡ Some v → IsInsideMap m p) → RootsExistForLabelsOfCellsRead j m [] []
read_nothing j m inside = record {
  open_of = λ k. k;
  read = record {
    inside = inside;
    long = refl;
    sound = record {
      reports = record {
        points = λ k lt. absurd (omega arith);
        itself = λ k lt e. absurd (omega arith);
        is_open = λ k lt. absurd (omega arith);
        low = λ k lt. absurd (omega arith);
      };
      joined = λ k lt. absurd (omega arith);
    };
    few = λ p v is lt. absurd (omega arith);
    joined = λ p v is lt. absurd (omega arith);
    own = λ p in_map is lt. absurd (omega arith);
    meet = λ p q v near p_is q_is p_lt q_lt. absurd (omega arith);
  };
}
