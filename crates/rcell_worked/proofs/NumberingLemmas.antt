-- Tests that a map of numbers is the clump map of a map, given the first cell of each clump and a path to each cell.
use Rattle.std.proofs.Common.{◌≡◌, ℕ, zero, suc, ℤ, pos, negsuc, ◌+◌, ◌-◌, ◌<◌, ◌≤◌, Bool, true, false, not, ◌&&◌, ◌||◌}
use Rattle.std.proofs.Common.{eqb, ltb, leb, List, [], ◌∷◌, length, take, get_or, Some, None, IsSome, is_some}
use Rattle.std.proofs.Common.{refl, ap, sym, ◌∙◌, subst, arith, ⊎_elim}
use Rattle.std.specs.Bool.{Decides}
use Rattle.std.proofs.lemmas.Bool.{and_from, and_parts, cases_lt, eqb-true, ltb-true, leb-true}
use Rattle.std.proofs.lemmas.Bool.Decides.{Decides-and, Decides-or, Decides-eqb, Decides-ltb, Decides-below_and}
use Rattle.std.proofs.lemmas.List.{get_or_default, get_or-take, length-take-le}
use Rattle.cell_core_values.specs.Cell.{cell_eq, cell_eq-Decides}
use Rattle.cell_core.specs.Grid.{Grid, CellValue, RowsFillRegion, empty_category_labels}
use Rattle.cell_clumps.specs.declared.clump.Joining.{Joining}
use Rattle.cell_clumps.specs.declared.clump.Joining.TheVariants.{Edges, EdgesAndCorners}
use Rattle.cell_clumps.specs.Clumps.{Position, cell_at_position, IsEarlierCell, DifferByOne, CellsShareEdge}
use Rattle.cell_clumps.specs.Clumps.{AreAdjacent, AreCellsConnected, IsFirstCellOfClump, HasClumpNumber, IsClumpMapOf}
use Rattle.cell_clumps.specs.parts.CellPlaces.{position_at_row_and_column}
use Rattle.cell_clumps.proofs.LawLemmas.{IsBefore-asym, cases_before}
use Rattle.cell_clumps.proofs.MeetingLemmas.{some_of}
use Rattle.cell_clumps.proofs.PathLemmas.{AreJoined-refl, AreJoined-adjacent, AreJoined-trans, AreJoined-sym}
use Rattle.cell_clumps.proofs.PathLemmas.{AreJoined-first, AreJoined-along}
use Rattle.cell_clumps.proofs.StartLemmas.{inside_map}

-- ---- tests

abbrev are_neighbours : ℕ → ℕ → Bool
are_neighbours i j = eqb (i + 1) j || eqb (j + 1) i

abbrev share_edge : Position → Position → Bool
share_edge p q = (eqb p.row q.row && are_neighbours p.col q.col) || (are_neighbours p.row q.row && eqb p.col q.col)

abbrev pub are_adjacent : Joining → Position → Position → Bool
are_adjacent Edges p q = share_edge p q
are_adjacent EdgesAndCorners p q = share_edge p q || (are_neighbours p.row q.row && are_neighbours p.col q.col)

abbrev pub is_earlier : Position → Position → Bool
is_earlier p q = ltb p.row q.row || (eqb p.row q.row && ltb p.col q.col)

neighbours_decided : (i j : ℕ) → Decides (are_neighbours i j) (DifferByOne i j)
neighbours_decided i j = Decides-or (eqb (i + 1) j) (eqb (j + 1) i) (Decides-eqb (i + 1) j) (Decides-eqb (j + 1) i)

edge_decided : (p q : Position) → Decides (share_edge p q) (CellsShareEdge p q)
edge_decided p q =
    Decides-or (eqb p.row q.row && are_neighbours p.col q.col) (are_neighbours p.row q.row && eqb p.col q.col)
    (Decides-and (eqb p.row q.row) (are_neighbours p.col q.col) (Decides-eqb p.row q.row)
    (neighbours_decided p.col q.col))
    (Decides-and (are_neighbours p.row q.row) (eqb p.col q.col) (neighbours_decided p.row q.row)
    (Decides-eqb p.col q.col))

adjacent_decided : (j : Joining) (p q : Position) → Decides (are_adjacent j p q) (AreAdjacent j p q)
adjacent_decided Edges p q = edge_decided p q
adjacent_decided EdgesAndCorners p q =
    Decides-or (share_edge p q) (are_neighbours p.row q.row && are_neighbours p.col q.col) (edge_decided p q)
    (Decides-and (are_neighbours p.row q.row) (are_neighbours p.col q.col) (neighbours_decided p.row q.row)
    (neighbours_decided p.col q.col))

earlier_decided : (p q : Position) → Decides (is_earlier p q) (IsEarlierCell p q)
earlier_decided p q =
    Decides-or (ltb p.row q.row) (eqb p.row q.row && ltb p.col q.col) (Decides-ltb p.row q.row)
    (Decides-and (eqb p.row q.row) (ltb p.col q.col) (Decides-eqb p.row q.row) (Decides-ltb p.col q.col))

-- a test holds for each number below n
abbrev pub all_below : (ℕ → Bool) → ℕ → Bool
all_below f zero = true
all_below f (suc n) = f n && all_below f n

below_at : (f : ℕ → Bool) (n : ℕ) → all_below f n ≡ true → (k : ℕ) → k < n → f k ≡ true
below_at f n all =
    (Decides-below_and f (λ k. f k ≡ true) (all_below f) (λ k. (λ e. e, λ e. e)) refl (λ _. refl) n).0 all

-- a test holds for a cell unless the cell is null
abbrev unless_null : Grid → (Position → Bool) → Position → Bool
unless_null m f p = not (is_some (cell_at_position m p)) || f p

abbrev pub each_cell : Grid → (Position → Bool) → Bool
each_cell m f = all_below (λ r. all_below (λ c. unless_null m f (position_at_row_and_column r c)) m.region.cols)
    m.region.rows

if_some : (x t : Bool) → (not x || t) ≡ true → x ≡ true → t ≡ true
if_some true t both some = both
if_some false t both some = let no : false ≡ true = some in cc

cell_tested : (m : Grid) (f : Position → Bool) → RowsFillRegion m.region m.rows → each_cell m f ≡ true
    → (p : Position) (v : ℤ) → cell_at_position m p ≡ Some v → f p ≡ true
cell_tested m f filled all p v is =
    let inside = inside_map m p v filled is in
    let row = below_at (λ r. all_below (λ c. unless_null m f (position_at_row_and_column r c)) m.region.cols)
    m.region.rows all p.row
    inside.0 in
    let here = below_at (λ c. unless_null m f (position_at_row_and_column p.row c)) m.region.cols row p.col inside.1 in
    if_some (is_some (cell_at_position m p)) (f p) here (ap (λ (x : CellValue). is_some x) is)

-- ---- a numbering

-- the number in a cell; 0 if there is none
abbrev pub number_in : CellValue → ℕ
number_in None = 0
number_in (Some (pos n)) = n
number_in (Some (negsuc n)) = 0

is_number : (x : CellValue) → 0 < number_in x → x ≡ Some (pos (number_in x))
is_number None some = absurd (omega (arith, some))
is_number (Some (pos n)) some = refl
is_number (Some (negsuc n)) some = absurd (omega (arith, some))

-- the cells lead from one to the next, have the category v, and end at q
abbrev pub leads : Joining → Grid → CellValue → Position → List Position → Position → Bool
leads j m v p [] q = cell_eq (cell_at_position m p) v && (eqb p.row q.row && eqb p.col q.col)
leads j m v p (next ∷ others) q =
    cell_eq (cell_at_position m p) v && (are_adjacent j p next && leads j m v next others q)

-- the test of a cell: its number is the number of a clump, a path leads from the first cell of this clump to it, and it
-- does not precede that first cell
abbrev pub is_numbered : Joining → Grid → Grid → List Position → (Position → List Position) → Position → Bool
is_numbered j m numbers firsts path p =
    let n = number_in (cell_at_position numbers p) in
    let first = get_or firsts (n - 1) (position_at_row_and_column 0 0) in
    (ltb 0 n && leb n (length firsts))
    && (leads j m (cell_at_position m p) first (path p) p && not (is_earlier p first))

-- the test of two cells: if they are adjacent and have the same category, they have the same number
abbrev pub is_kept : Joining → Grid → Grid → Position → Position → Bool
is_kept j m numbers p q =
    not (are_adjacent j p q && cell_eq (cell_at_position m p) (cell_at_position m q))
    || eqb (number_in (cell_at_position numbers p)) (number_in (cell_at_position numbers q))

-- the test of the first cell of clump k + 1: it is not null, it has this number, and it follows the earlier first cells
abbrev pub is_next : Grid → Grid → List Position → ℕ → Bool
is_next m numbers firsts k =
    let first = get_or firsts k (position_at_row_and_column 0 0) in
    (is_some (cell_at_position m first) && eqb (number_in (cell_at_position numbers first)) (suc k))
    && all_below (λ i. is_earlier (get_or firsts i (position_at_row_and_column 0 0)) first) k

-- the map of numbers passes the tests
pub record Passes (j : Joining) (m numbers : Grid) (firsts : List Position) (path : Position → List Position)
    : Type 0 where
  pub given : RowsFillRegion m.region m.rows
  pub filled : RowsFillRegion numbers.region numbers.rows
  pub region : numbers.region ≡ m.region
  pub labels : numbers.labels ≡ empty_category_labels
  pub cells : each_cell m (is_numbered j m numbers firsts path) ≡ true
  pub pairs : each_cell m (λ p. each_cell m (is_kept j m numbers p)) ≡ true
  pub nexts : all_below (is_next m numbers firsts) (length firsts) ≡ true
  pub nulls : each_cell numbers (λ p. is_some (cell_at_position m p)) ≡ true

module _ (j : Joining) (m numbers : Grid) (firsts : List Position) (path : Position → List Position)
    (passes : Passes j m numbers firsts path) where
  abbrev number : Position → ℕ
  number p = number_in (cell_at_position numbers p)

  abbrev first_at : ℕ → Position
  first_at k = get_or firsts k (position_at_row_and_column 0 0)

  abbrev first_of : Position → Position
  first_of p = first_at (number p - 1)

  -- ---- consequences of the tests

  record AreAllLabelsNumbered (p : Position) : Type 0 where
    some : 0 < number p
    most : number p ≤ length firsts
    led : leads j m (cell_at_position m p) (first_of p) (path p) p ≡ true
    later : IsEarlierCell p (first_of p) → ⊥

  numbered : (p : Position) (v : ℤ) → cell_at_position m p ≡ Some v → AreAllLabelsNumbered p
  numbered p v is =
      let n = number p in
      let led = leads j m (cell_at_position m p) (first_of p) (path p) p in
      let earlier = is_earlier p (first_of p) in
      let both = and_parts (ltb 0 n && leb n (length firsts)) (led && not earlier)
      (cell_tested m (is_numbered j m numbers firsts path) passes.given passes.cells p v is) in
      let range = and_parts (ltb 0 n) (leb n (length firsts)) both.0 in
      let rest = and_parts led (not earlier) both.1 in
      record {
        some = ltb-true 0 n range.0;
        most = leb-true n (length firsts) range.1;
        led = rest.0;
        later = λ before. let yes' : earlier ≡ true = (earlier_decided p (first_of p)).1 before in
            let no : false ≡ true = sym (ap not yes') ∙ rest.1 in cc;
      }

  kept : (p q : Position) (v : ℤ) → AreAdjacent j p q → cell_at_position m p ≡ Some v → cell_at_position m q ≡ Some v
      → number p ≡ number q
  kept p q v near p_is q_is =
      let here = cell_tested m (λ s. each_cell m (is_kept j m numbers s)) passes.given passes.pairs p v p_is in
      let there = cell_tested m (is_kept j m numbers p) passes.given here q v q_is in
      let alike : cell_eq (cell_at_position m p) (cell_at_position m q) ≡ true =
      (cell_eq-Decides (cell_at_position m p) (cell_at_position m q)).1 (p_is ∙ sym q_is) in
      let both : (are_adjacent j p q && cell_eq (cell_at_position m p) (cell_at_position m q)) ≡ true =
      and_from (are_adjacent j p q) (cell_eq (cell_at_position m p) (cell_at_position m q))
      ((adjacent_decided j p q).1 near) alike in
      eqb-true (number p) (number q)
      (if_some (are_adjacent j p q && cell_eq (cell_at_position m p) (cell_at_position m q)) (eqb (number p) (number q))
      there both)

  record IsNext (k : ℕ) : Type 0 where
    some : IsSome (cell_at_position m (first_at k))
    number_is : number (first_at k) ≡ suc k
    after : (i : ℕ) → i < k → IsEarlierCell (first_at i) (first_at k)

  next_first : (k : ℕ) → k < length firsts → IsNext k
  next_first k lt =
      let first = first_at k in
      let some = is_some (cell_at_position m first) in
      let counted = eqb (number first) (suc k) in
      let before = λ (i : ℕ). is_earlier (first_at i) first in
      let both = and_parts (some && counted) (all_below before k)
      (below_at (is_next m numbers firsts) (length firsts) passes.nexts k lt) in
      let own = and_parts some counted both.0 in
      record {
        some = own.0;
        number_is = eqb-true (number first) (suc k) own.1;
        after = λ i less. (earlier_decided (first_at i) first).0 (below_at before k both.1 i less);
      }

  -- ---- cells that are joined

  led_cell : (v : CellValue) (p : Position) (others : List Position) (q : Position) → leads j m v p others q ≡ true
      → cell_at_position m p ≡ v
  led_cell v p [] q led =
      (cell_eq-Decides (cell_at_position m p) v).0
      ((and_parts (cell_eq (cell_at_position m p) v) (eqb p.row q.row && eqb p.col q.col) led).0)
  led_cell v p (next ∷ others) q led =
      (cell_eq-Decides (cell_at_position m p) v).0
      ((and_parts (cell_eq (cell_at_position m p) v) (are_adjacent j p next && leads j m v next others q) led).0)

  led_joined : (v : ℤ) (p : Position) (others : List Position) (q : Position) → leads j m (Some v) p others q ≡ true
      → AreCellsConnected j m p q
  led_joined v p [] q led =
      let same = and_parts (eqb p.row q.row) (eqb p.col q.col)
      ((and_parts (cell_eq (cell_at_position m p) (Some v)) (eqb p.row q.row && eqb p.col q.col) led).1) in
      let is : p ≡ q = ap (λ (r : ℕ). position_at_row_and_column r p.col) (eqb-true p.row q.row same.0)
      ∙ ap (position_at_row_and_column q.row) (eqb-true p.col q.col same.1) in
      subst (AreCellsConnected j m p) is (AreJoined-refl j m p v (led_cell (Some v) p [] q led))
  led_joined v p (next ∷ others) q led =
      let rest = and_parts (are_adjacent j p next) (leads j m (Some v) next others q)
      ((and_parts (cell_eq (cell_at_position m p) (Some v))
      (are_adjacent j p next && leads j m (Some v) next others q) led).1) in
      AreJoined-trans j m p next q
      (AreJoined-adjacent j m p next v ((adjacent_decided j p next).0 rest.0)
      (led_cell (Some v) p (next ∷ others) q led) (led_cell (Some v) next others q rest.1))
      (led_joined v next others q rest.1)

  first_joined : (p : Position) (v : ℤ) → cell_at_position m p ≡ Some v → AreCellsConnected j m (first_of p) p
  first_joined p v is =
      led_joined v (first_of p) (path p) p
      (subst (λ (x : CellValue). leads j m x (first_of p) (path p) p ≡ true) is (numbered p v is).led)

  joined_number : (p q : Position) → AreCellsConnected j m p q → number p ≡ number q
  joined_number = AreJoined-along j m number kept

  number_joined : (p q : Position) (v u : ℤ) → cell_at_position m p ≡ Some v → cell_at_position m q ≡ Some u
      → number p ≡ number q → AreCellsConnected j m p q
  number_joined p q v u p_is q_is same =
      AreJoined-trans j m p (first_of p) q (AreJoined-sym j m (first_of p) p (first_joined p v p_is))
      (subst (λ (n : ℕ). AreCellsConnected j m (first_at (n - 1)) q) (sym same) (first_joined q u q_is))

  -- ---- first cells

  first_is : (p : Position) (v : ℤ) → cell_at_position m p ≡ Some v → IsFirstCellOfClump j m (first_of p)
  first_is p v is =
      let joined = first_joined p v is in
      let first = AreJoined-first j m (first_of p) p joined in
      record {
        category = rw first refl;
        none_before = λ q before to_first.
            let q_is = AreJoined-first j m q (first_of p) to_first in
            let same : number q ≡ number p =
            joined_number q (first_of p) to_first ∙ joined_number (first_of p) p joined in
            (numbered q to_first.category q_is).later
            (subst (λ (n : ℕ). IsEarlierCell q (first_at (n - 1))) (sym same) before);
      }

  own : (p : Position) → IsFirstCellOfClump j m p → first_of p ≡ p
  own p first =
      let v = some_of (cell_at_position m p) first.category in
      ⊎_elim (λ e. e)
      (λ apart. ⊎_elim (λ before. absurd (first.none_before (first_of p) before (first_joined p v.0 v.1)))
      (λ after. absurd ((numbered p v.0 v.1).later after)) apart) (cases_before (first_of p) p)

  -- the listed first cell of each number is a first cell
  next_is : (k : ℕ) → k < length firsts → IsFirstCellOfClump j m (first_at k)
  next_is k lt =
      let next = next_first k lt in
      let v = some_of (cell_at_position m (first_at k)) next.some in
      let same : number (first_at k) - 1 ≡ k = let e = next.number_is in omega (arith, e) in
      subst (λ (n : ℕ). IsFirstCellOfClump j m (first_at n)) same (first_is (first_at k) v.0 v.1)

  never_before : (p : Position) → IsEarlierCell p p → ⊥
  never_before p before = IsBefore-asym p p before before

  has_number : (p : Position) (v : ℤ) → cell_at_position m p ≡ Some v → HasClumpNumber j m p (number p)
  has_number p v is =
      let n = number p in
      let has = numbered p v is in
      let some = has.some in
      let most = has.most in
      let long = length-take-le n firsts most in
      let at = λ (i : ℕ) (d : Position) (lt : i < n). get_or-take n firsts i d lt
      ∙ get_or_default firsts i d (position_at_row_and_column 0 0) (omega (arith, lt, most)) in
      record {
        first = first_of p;
        is_first = first_is p v is;
        joined = first_joined p v is;
        firsts = take n firsts;
        up_to = record {
          in_order = λ i k d lt within.
              let less : k < n = omega (arith, within, long) in
              let before = (next_first k (omega (arith, less, most))).after i lt in
              subst (λ (s : Position). IsEarlierCell s (get_or (take n firsts) k d))
              (sym (at i d (omega (arith, lt, less))))
              (subst (IsEarlierCell (first_at i)) (sym (at k d less)) before);
          exactly = λ q. (
            λ within.
                let i : ℕ = within.0 in
                let inside = within.1 in
                let lt : i < n = omega (arith, inside, long) in
                let here : first_at i ≡ q = sym (at i q lt) ∙ within.2 in (
                  subst (IsFirstCellOfClump j m) here (next_is i (omega (arith, lt, most))),
                  λ before. ⊎_elim (λ less. IsBefore-asym (first_at i) (first_of p)
                      ((next_first (n - 1) (omega (arith, some, most))).after i less)
                      (subst (IsEarlierCell (first_of p)) (sym here) before))
                      (λ le. let same : n - 1 ≡ i = omega (arith, le, lt) in
                      never_before q (subst (λ (s : Position). IsEarlierCell s q) (ap first_at same ∙ here) before))
                      (cases_lt i (n - 1)),
                ),
            λ both.
                let u = some_of (cell_at_position m q) both.0.category in
                let its = numbered q u.0 u.1 in
                let q_some = its.some in
                let q_most = its.most in
                let k : ℕ = number q - 1 in
                let here : first_at k ≡ q = own q both.0 in
                ⊎_elim (λ lt. (k, omega (arith, lt, long), at k q lt ∙ here))
                (λ le. absurd (both.1 (subst (IsEarlierCell (first_of p)) here
                ((next_first k (omega (arith, q_some, q_most))).after (n - 1) (omega (arith, le, some))))))
                (cases_lt k n),
          );
        };
        count = long;
      }

  -- ---- the map of numbers

  some_number : (p : Position) (v : ℤ) → cell_at_position m p ≡ Some v
      → cell_at_position numbers p ≡ Some (pos (number p))
  some_number p v is = is_number (cell_at_position numbers p) (numbered p v is).some

  null_number : (p : Position) → cell_at_position m p ≡ None → (x : CellValue) → cell_at_position numbers p ≡ x
      → cell_at_position numbers p ≡ None
  null_number p none None is = is
  null_number p none (Some v) is =
      let some = cell_tested numbers (λ s. is_some (cell_at_position m s)) passes.filled passes.nulls p v is in
      let no : false ≡ true = sym (ap (λ (x : CellValue). is_some x) none) ∙ some in cc

  pub clumped : IsClumpMapOf j m numbers
  clumped = record {
    region = passes.region;
    labels = passes.labels;
    nulls = λ p none. null_number p none (cell_at_position numbers p) refl;
    numbered = λ p some.
        let v = some_of (cell_at_position m p) some in
        (number p, has_number p v.0 v.1, some_number p v.0 v.1);
    same = λ p q some other.
        let v = some_of (cell_at_position m p) some in
        let u = some_of (cell_at_position m q) other in (
          λ e. number_joined p q v.0 u.0 v.1 u.1 (ap number_in e),
          λ joined. some_number p v.0 v.1 ∙ ap (λ (n : ℕ). Some (pos n)) (joined_number p q joined)
              ∙ sym (some_number q u.0 u.1),
        );
  }
