-- Statements preserve what their needs imply about two shelves.
use Rattle.std.proofs.Common.{◌≡◌, ℕ, ℤ, zero, suc, pos, negsuc, ◌+◌, ◌<◌, ◌≤◌, List, [], ◌∷◌, ◌++◌, map, length}
use Rattle.std.proofs.Common.{get_or, Option, Some, None, refl, ap, sym, subst, ◌∙◌, arith, ⊎_elim, ◌⊎◌, inl, inr}
use Rattle.std.specs.Prelude.{All, slice_get}
use Rattle.std.proofs.Math.IntN.{+ℤ_idr}
use Rattle.std.proofs.Math.ListN as list
use Rattle.std.proofs.lemmas.Bool.{cases_lt}
use Rattle.std.proofs.lemmas.List.{get_or_past, length-map}
use Rattle.std.proofs.lemmas.List.Elements.{All-head, All-get_or, All-push, All-map, All-weaker}
use Rattle.std.proofs.lemmas.Option.{same_Some, slice_get_past, slice_get-get_or}
use Rattle.cell_core_values.specs.Region.{RegionValue}
use Rattle.cell_core.specs.Grid.{Grid, CellValue, RowsFillRegion, cell_at}
use Rattle.cell_core.specs.Shelf.{ShelfValue}
use Rattle.cell_calc_language.specs.Applied.{grid_position}
use Rattle.cell_calc_language.specs.Offsets.{item_at_integer_or_default, row_of_map_or_empty, cell_of_optional_map}
use Rattle.cell_calc_language.specs.Offsets.{cell_of_map_or_null}
use Rattle.cell_calc_language.specs.Formula.{Formula}
use Rattle.cell_calc_language.specs.Value.{value}
use Rattle.rcell_plan.proofs.MapLemmas.{one-map-of-values}
use Rattle.cell_cats.specs.Rule.{RuleValue, new_category}
use Rattle.cell_cats.specs.Reclass.{reclassed_map, reclassed_row}
use Rattle.cell_clumps.specs.declared.clump.Joining.{Joining}
use Rattle.cell_clumps.proofs.LawLemmas.{clump_map_is_unique}
use Rattle.rcell.specs.Making.{IsMapOfExpressionValues, IsMapOfClumpNumbers, MapExistsAndSatisfiesRelation}
use Rattle.rcell.specs.Making.{shelf_with_map_at_end}
use Rattle.rcell_script.specs.declared.command.Command.{Command}
use Rattle.rcell_script.specs.declared.command.Command.TheVariants.{Mapcalc, Reclass, Clump, Stats, OutAscii}
use Rattle.rcell_script.specs.declared.statement.Statement.{Statement}
use Rattle.rcell.specs.After.{IsShelfAfterCommand}
use Rattle.rcell_plan.specs.declared.needs.MapNeed.{MapNeed}
use Rattle.rcell_plan.specs.Needs.{need_of_own_cell, requiring_full_map}
use Rattle.rcell_plan.specs.Plans.{needs_of_map_at_place, maps_read_by_expression, needs_of_reads, needs_after_command}
use Rattle.rcell_plan.specs.Plans.{needs_of_given_maps_from, needs_of_given_maps}
use Rattle.rcell_plan.specs.NeedsLaw.{ShelvesAgreeInNeed, MapFillsRegion, IsShelfAfterStatements}
use Rattle.rcell_plan.specs.NeedsLaw.{needs_after_statements, MapNeedsAreEnough}
use Rattle.rcell_plan.proofs.JoinedLemmas.{all_of_map, IsSameMap}
use Rattle.rcell_plan.proofs.ReadLemmas.{IsSettled, expression_alike, expression_same}

-- ---- maps of one region

-- two maps that have the same cells inside the region have the same cells everywhere
inside_enough : (region : RegionValue) (m n : Grid) → RowsFillRegion region m.rows → RowsFillRegion region n.rows
    → (row col : ℤ)
    → ((r c : ℕ) → row ≡ pos r → col ≡ pos c → r < region.rows → c < region.cols
    → cell_at m r c ≡ cell_at n r c) → cell_of_map_or_null m row col ≡ cell_of_map_or_null n row col
inside_enough region m n fm fn (negsuc r) (negsuc c) inside = refl
inside_enough region m n fm fn (negsuc r) (pos c) inside = refl
inside_enough region m n fm fn (pos r) (negsuc c) inside = refl
inside_enough region m n fm fn (pos r) (pos c) inside =
    ⊎_elim (λ row_in. ⊎_elim (λ col_in. inside r c refl refl row_in col_in) (λ past. beyond row_in past)
    (cases_lt c region.cols))
    (λ past.
    let m_count = fm.count in
    let n_count = fn.count in
    ap (λ l. get_or l c None) (get_or_past m.rows r [] (omega (arith, m_count, past)))
    ∙ sym (ap (λ l. get_or l c None) (get_or_past n.rows r [] (omega (arith, n_count, past)))))
    (cases_lt r region.rows)
  where
    wide : (k : Grid) → RowsFillRegion region k.rows → r < region.rows → region.cols ≤ c
        → get_or (get_or k.rows r []) c None ≡ None
    wide k fk row_in past =
        let count = fk.count in
        let e : length (get_or k.rows r []) ≡ region.cols = All-get_or (λ l. length l ≡ region.cols) k.rows r []
        (omega (arith, count, row_in)) fk.width in
        get_or_past (get_or k.rows r []) c None (omega (arith, e, past))

    beyond : r < region.rows → region.cols ≤ c → get_or (get_or m.rows r []) c None ≡ get_or (get_or n.rows r []) c None
    beyond row_in past = wide m fm row_in past ∙ sym (wide n fn row_in past)

-- ---- one more map

module _ (R : List MapNeed → Option Grid → Option Grid → Type 0) (needs : List MapNeed) (m n : Grid)
    (new : R needs (Some m) (Some n)) (none : R [] None None) where
  grown : (known : List (List MapNeed)) (x y : List Grid) → length x ≡ length known → length y ≡ length known
      → ((place : ℕ) → R (needs_of_map_at_place known place) (slice_get x place) (slice_get y place))
      → (place : ℕ) → R (needs_of_map_at_place (known ++ needs ∷ []) place) (slice_get (x ++ m ∷ []) place)
      (slice_get (y ++ n ∷ []) place)
  grown [] [] [] xs ys h zero = new
  grown [] [] [] xs ys h (suc place) = none
  grown (k ∷ known) (a ∷ x) (b ∷ y) xs ys h zero = h zero
  grown (k ∷ known) (a ∷ x) (b ∷ y) xs ys h (suc place) = grown known x y (omega (arith, xs))
      (omega (arith, ys)) (λ i. h (suc i)) place
  grown [] (a ∷ x) y xs ys h place = absurd (let no : ⊥ = omega (arith, xs) in no)
  grown [] [] (b ∷ y) xs ys h place = absurd (let no : ⊥ = omega (arith, ys) in no)
  grown (k ∷ known) [] y xs ys h place = absurd (let no : ⊥ = omega (arith, xs) in no)
  grown (k ∷ known) (a ∷ x) [] xs ys h place = absurd (let no : ⊥ = omega (arith, ys) in no)

-- the relation between two shelves while statements are executed
record AreSettled (a b : List Grid) (region : RegionValue) (known : List (List MapNeed))
    (x y : ShelfValue) : Type 0 where
  first_region : x.region ≡ region
  second_region : y.region ≡ region
  first : All (MapFillsRegion region) x.maps
  second : All (MapFillsRegion region) y.maps
  first_count : length x.maps ≡ length known
  second_count : length y.maps ≡ length known
  maps : (place : ℕ) → IsSettled a b (needs_of_map_at_place known place) (slice_get x.maps place)
      (slice_get y.maps place)

pub length-more : {A : Type 0} (xs : List A) (x : A) → length (xs ++ x ∷ []) ≡ suc (length xs)
length-more [] x = refl
length-more (y ∷ xs) x = ap suc (length-more xs x)

module _ (a b : List Grid) (region : RegionValue) (known : List (List MapNeed)) (x y : ShelfValue)
    (h : AreSettled a b region known x y) where
  with_maps : (target : List ℕ) (needs : List MapNeed) (m n : Grid) → MapFillsRegion region m → MapFillsRegion region n
      → ((row col : ℤ) → All (ShelvesAgreeInNeed a b row col) needs
      → cell_of_map_or_null m row col ≡ cell_of_map_or_null n row col)
      → (All (IsSameMap a b) needs → m ≡ n)
      → AreSettled a b region (known ++ needs ∷ []) (shelf_with_map_at_end x target m)
      (shelf_with_map_at_end y target n)
  with_maps target needs m n of_m of_n cells same = record {
    first_region = h.first_region;
    second_region = h.second_region;
    first = All-push (MapFillsRegion region) x.maps m h.first of_m;
    second = All-push (MapFillsRegion region) y.maps n h.second of_n;
    first_count = length-more x.maps m ∙ ap suc h.first_count ∙ sym (length-more known needs);
    second_count = length-more y.maps n ∙ ap suc h.second_count ∙ sym (length-more known needs);
    maps = grown (IsSettled a b) needs m n
        (record { cells = cells; same = λ all. ap (λ (g : Grid). Some g) (same all) })
        (record { cells = λ row col all. refl; same = λ all. refl })
        known x.maps y.maps h.first_count h.second_count h.maps;
  }

  -- the statement r.mapcalc makes the same cells over both shelves

  same_value : (f : Formula) (r c : ℕ)
      → value f x.maps (grid_position region r c) ≡ value f y.maps (grid_position region r c)
      → (m n : Grid) → IsMapOfExpressionValues f x m → IsMapOfExpressionValues f y n → r < region.rows → c < region.cols
      → cell_at m r c ≡ cell_at n r c
  same_value f r c same m n are_m are_n row_in col_in =
      are_m.cells r c (subst (λ (e : RegionValue). r < e.rows) (sym h.first_region) row_in)
      (subst (λ (e : RegionValue). c < e.cols) (sym h.first_region) col_in)
      ∙ ap (λ (e : RegionValue). value f x.maps (grid_position e r c)) h.first_region
      ∙ same
      ∙ sym (ap (λ (e : RegionValue). value f y.maps (grid_position e r c)) h.second_region)
      ∙ sym (are_n.cells r c (subst (λ (e : RegionValue). r < e.rows) (sym h.second_region) row_in)
      (subst (λ (e : RegionValue). c < e.cols) (sym h.second_region) col_in))

  of_values : (f : Formula) (z : ShelfValue) (m : Grid) → z.region ≡ region → IsMapOfExpressionValues f z m
      → MapFillsRegion region m
  of_values f z m is are = record {
    region_is = are.region ∙ is;
    filled = subst (λ (e : RegionValue). RowsFillRegion e m.rows) (are.region ∙ is) are.filled;
  }

  settled_values : (target : List ℕ) (f : Formula) (m n : Grid) → IsMapOfExpressionValues f x m
      → IsMapOfExpressionValues f y n
      → AreSettled a b region (known ++ needs_of_reads known (maps_read_by_expression f)
      ∷ []) (shelf_with_map_at_end x target m)
      (shelf_with_map_at_end y target n)
  settled_values target f m n are_m are_n =
      let of_m = of_values f x m h.first_region are_m in
      let of_n = of_values f y n h.second_region are_n in
      with_maps target (needs_of_reads known (maps_read_by_expression f)) m n of_m of_n cells (λ all. same all)
    where
      cells : (row col : ℤ) → All (ShelvesAgreeInNeed a b row col) (needs_of_reads known (maps_read_by_expression f))
          → cell_of_map_or_null m row col ≡ cell_of_map_or_null n row col
      cells row col all =
          inside_enough region m n (of_values f x m h.first_region are_m).filled
          (of_values f y n h.second_region are_n).filled row col (λ r c row_is col_is row_in col_in.
          same_value f r c
          (expression_alike a b x.maps y.maps known h.maps f (grid_position region r c)
          (subst (λ (z : ℤ). All (ShelvesAgreeInNeed a b z (pos c))
          (needs_of_reads known (maps_read_by_expression f))) row_is
          (subst (λ (z : ℤ). All (ShelvesAgreeInNeed a b row z)
          (needs_of_reads known (maps_read_by_expression f))) col_is all)))
          m n are_m are_n row_in col_in)

      moved_values : All (IsSameMap a b) (needs_of_reads known (maps_read_by_expression f))
          → IsMapOfExpressionValues f x n
      moved_values all = record {
        region = are_n.region ∙ h.second_region ∙ sym h.first_region;
        filled = are_n.filled;
        labels = are_n.labels;
        cells = λ r c row_in col_in.
            are_n.cells r c (subst (λ (e : RegionValue). r < e.rows)
            (h.first_region ∙ sym h.second_region) row_in) (subst (λ (e : RegionValue). c < e.cols)
            (h.first_region ∙ sym h.second_region) col_in)
            ∙ ap (λ (e : RegionValue). value f y.maps (grid_position e r c)) (h.second_region ∙ sym h.first_region)
            ∙ sym (expression_same a b x.maps y.maps known h.maps f (grid_position x.region r c) all);
      }

      same : All (IsSameMap a b) (needs_of_reads known (maps_read_by_expression f)) → m ≡ n
      same all = one-map-of-values f f x m n are_m (moved_values all) (λ r c _ _. refl)

  -- each map on the shelves has the region

  of_region : (z : ShelfValue) (place : ℕ) (m : Grid) → All (MapFillsRegion region) z.maps
      → slice_get z.maps place ≡ Some m → MapFillsRegion region m
  of_region z place m all is = by (cases_lt place (length z.maps))
    where
      by : (place < length z.maps) ⊎ (length z.maps ≤ place) → MapFillsRegion region m
      by (inl within) = subst (MapFillsRegion region) (same_Some (get_or z.maps place m) m
          (sym (slice_get-get_or z.maps place m within) ∙ is))
          (All-get_or (MapFillsRegion region) z.maps place m within all)
      by (inr past) = absurd (cc (is, slice_get_past z.maps place past))

pub of_map : {H : Grid → Type 0} (o : Option Grid) → MapExistsAndSatisfiesRelation H o
    → (m : Grid) × ((o ≡ Some m) × H m)
of_map None h = absurd h
of_map (Some m) h = (m, (refl, h))

-- ---- r.reclass

reclass_row : (rules : List RuleValue) (row : List CellValue) (col : ℤ)
    → item_at_integer_or_default None (reclassed_row rules row) col
    ≡ new_category rules (item_at_integer_or_default None row col)
reclass_row rules row (pos c) = list.get_or-map (new_category rules) row c None
reclass_row rules row (negsuc c) = refl

reclass_rows : (rules : List RuleValue) (rows : List (List CellValue)) (row : ℤ)
    → item_at_integer_or_default [] (map (reclassed_row rules) rows) row
    ≡ reclassed_row rules (item_at_integer_or_default [] rows row)
reclass_rows rules rows (pos r) = list.get_or-map (reclassed_row rules) rows r []
reclass_rows rules rows (negsuc r) = refl

-- a cell of a reclassified map is the new category of the cell
pub reclass_cell : (rules : List RuleValue) (g : Grid) (row col : ℤ)
    → cell_of_map_or_null (reclassed_map rules g) row col ≡ new_category rules (cell_of_map_or_null g row col)
reclass_cell rules g row col = ap (λ l. item_at_integer_or_default None l col) (reclass_rows rules g.rows row)
    ∙ reclass_row rules (row_of_map_or_empty g row) col

pub reclass_of_region : (region : RegionValue) (rules : List RuleValue) (g : Grid) → MapFillsRegion region g
    → MapFillsRegion region (reclassed_map rules g)
reclass_of_region region rules g h = record {
  region_is = h.region_is;
  filled = record {
    count = length-map g.rows (reclassed_row rules) ∙ h.filled.count;
    width = All-map (λ l. length l ≡ region.cols) (reclassed_row rules) g.rows
        (All-weaker (λ l. length l ≡ region.cols) (λ l. length (reclassed_row rules l) ≡ region.cols)
        (λ l is. length-map l (new_category rules) ∙ is) g.rows h.filled.width);
  };
}

module _ (a b : List Grid) (region : RegionValue) (known : List (List MapNeed)) (x y : ShelfValue)
    (h : AreSettled a b region known x y) where
  settled_classes : (place : ℕ) (target : List ℕ) (rules : List RuleValue) (g k : Grid)
      → slice_get x.maps place ≡ Some g → slice_get y.maps place ≡ Some k
      → AreSettled a b region (known ++ needs_of_map_at_place known place ∷ []) (shelf_with_map_at_end x target
      (reclassed_map rules g))
      (shelf_with_map_at_end y target (reclassed_map rules k))
  settled_classes place target rules g k g_is k_is =
      with_maps a b region known x y h target (needs_of_map_at_place known place) (reclassed_map rules g)
      (reclassed_map rules k)
      (reclass_of_region region rules g (of_region a b region known x y h x place g h.first g_is))
      (reclass_of_region region rules k (of_region a b region known x y h y place k h.second k_is))
      (λ row col all.
      reclass_cell rules g row col
      ∙ ap (new_category rules) (sym (ap (λ o. cell_of_optional_map o row col) g_is) ∙ (h.maps place).cells row col all
      ∙ ap (λ o. cell_of_optional_map o row col) k_is)
      ∙ sym (reclass_cell rules k row col))
      (λ all. ap (reclassed_map rules) (same_Some g k (sym g_is ∙ (h.maps place).same all ∙ k_is)))

  settled_numbers : (place : ℕ) (target : List ℕ) (joining : Joining) (g k m n : Grid)
      → slice_get x.maps place ≡ Some g → slice_get y.maps place ≡ Some k
      → IsMapOfClumpNumbers joining g m → IsMapOfClumpNumbers joining k n
      → AreSettled a b region (known ++ map requiring_full_map (needs_of_map_at_place known place)
      ∷ []) (shelf_with_map_at_end x target m)
      (shelf_with_map_at_end y target n)
  settled_numbers place target joining g k m n g_is k_is are_m are_n =
      with_maps a b region known x y h target (map requiring_full_map (needs_of_map_at_place known place)) m n
      (of_numbers g m (of_region a b region known x y h x place g h.first g_is) are_m)
      (of_numbers k n (of_region a b region known x y h y place k h.second k_is) are_n)
      (λ row col all. ap (λ (o : Grid). cell_of_map_or_null o row col)
      (same (all_of_map (ShelvesAgreeInNeed a b row col) requiring_full_map (needs_of_map_at_place known place) all)))
      (λ all. same (all_of_map (IsSameMap a b) requiring_full_map (needs_of_map_at_place known place) all))
    where
      of_numbers : (given made : Grid) → MapFillsRegion region given → IsMapOfClumpNumbers joining given made
          → MapFillsRegion region made
      of_numbers given made of_given are = record {
        region_is = are.clumping.region ∙ of_given.region_is;
        filled = subst (λ (e : RegionValue). RowsFillRegion e made.rows)
            (are.clumping.region ∙ of_given.region_is) are.filled;
      }

      same : All (IsSameMap a b) (needs_of_map_at_place known place) → m ≡ n
      same all =
          let one : g ≡ k = same_Some g k (sym g_is ∙ (h.maps place).same all ∙ k_is) in
          clump_map_is_unique joining k m n are_m.filled are_n.filled
          (subst (λ (e : Grid). IsMapOfClumpNumbers joining e m) one are_m).clumping are_n.clumping

  same_shelves : (after : List (List MapNeed)) (next other z w : ShelfValue) → next ≡ z → other ≡ w
      → AreSettled a b region after z w → AreSettled a b region after next other
  same_shelves after next other z w first second settled =
      subst (λ (s : ShelfValue). AreSettled a b region after s other) (sym first)
      (subst (λ (s : ShelfValue). AreSettled a b region after z s) (sym second) settled)

  -- one statement preserves the relation
  settled_after : (command : Command) (next other : ShelfValue) → IsShelfAfterCommand x command next
      → IsShelfAfterCommand y command other
      → AreSettled a b region (needs_after_command known command) next other
  settled_after (Mapcalc target f) next other u v =
      same_shelves (needs_after_command known (Mapcalc target f)) next other (shelf_with_map_at_end x target u.0)
      (shelf_with_map_at_end y target v.0) u.1.1 v.1.1
      (settled_values a b region known x y h target f u.0 v.0 u.1.0 v.1.0)
  settled_after (Reclass place target rules) next other u v =
      let g = of_map (slice_get x.maps place) u in
      let k = of_map (slice_get y.maps place) v in
      same_shelves (needs_after_command known (Reclass place target rules)) next other
      (shelf_with_map_at_end x target (reclassed_map rules g.0)) (shelf_with_map_at_end y target
      (reclassed_map rules k.0)) g.1.1 k.1.1
      (settled_classes place target rules g.0 k.0 g.1.0 k.1.0)
  settled_after (Clump place target joining) next other u v =
      let g = of_map (slice_get x.maps place) u.1.0 in
      let k = of_map (slice_get y.maps place) v.1.0 in
      same_shelves (needs_after_command known (Clump place target joining)) next other
      (shelf_with_map_at_end x target u.0)
      (shelf_with_map_at_end y target v.0) u.1.1 v.1.1
      (settled_numbers place target joining g.0 k.0 u.0 v.0 g.1.0 k.1.0 g.1.1 k.1.1)
  settled_after (Stats places options) next other u v = same_shelves known next other x y u v h
  settled_after (OutAscii place null_text) next other u v = same_shelves known next other x y u v h

-- all statements preserve the relation
settled_all : (a b : List Grid) (region : RegionValue) (known : List (List MapNeed)) (x y next other : ShelfValue)
    (statements : List Statement) → AreSettled a b region known x y
    → IsShelfAfterStatements x statements next → IsShelfAfterStatements y statements other
    → AreSettled a b region (needs_after_statements known statements) next other
settled_all a b region known x y next other [] h u v =
    subst (λ (z : ShelfValue). AreSettled a b region known z other) u
    (subst (λ (z : ShelfValue). AreSettled a b region known x z) v h)
settled_all a b region known x y next other (s ∷ ss) h u v =
    settled_all a b region (needs_after_command known s.command) u.0 v.0 next other ss
    (settled_after a b region known x y h s.command u.0 v.0 u.1.0 v.1.0) u.1.1 v.1.1

-- ---- the maps that are given

given_at : (first count k : ℕ) → k < count → needs_of_map_at_place (needs_of_given_maps_from first count) k
    ≡ need_of_own_cell (first + k) ∷ []
given_at first zero k lt = absurd (let no : ⊥ = omega (arith, lt) in no)
given_at first (suc count) zero lt = let e : first + 0 ≡ first = omega arith in rw e refl
given_at first (suc count) (suc k) lt =
    let e : first + 1 + k ≡ first + suc k = omega arith in
    given_at (first + 1) count k (omega (arith, lt)) ∙ ap (λ n. need_of_own_cell n ∷ []) e

length-given : (first count : ℕ) → length (needs_of_given_maps_from first count) ≡ count
length-given first zero = refl
length-given first (suc count) = ap suc (length-given (first + 1) count)

settled_given : (a b : List Grid) → length b ≡ length a → (place : ℕ)
    → IsSettled a b (needs_of_map_at_place (needs_of_given_maps (length a)) place) (slice_get a place)
    (slice_get b place)
settled_given a b count place = ⊎_elim within past (cases_lt place (length a))
  where
    itself : IsSettled a b (need_of_own_cell place ∷ []) (slice_get a place) (slice_get b place)
    itself = record {
      cells = λ row col all.
          (λ i. cell_of_optional_map (slice_get a place) (sym (+ℤ_idr row) i) (sym (+ℤ_idr col) i))
          ∙ All-head (ShelvesAgreeInNeed a b row col) (need_of_own_cell place) [] all (pos 0) (pos 0)
          (record { up = omega arith; down = omega arith; left = omega arith; right = omega arith })
          ∙ (λ i. cell_of_optional_map (slice_get b place) (+ℤ_idr row i) (+ℤ_idr col i));
      same = λ all. All-head (IsSameMap a b) (need_of_own_cell place) [] all;
    }

    within : place < length a → IsSettled a b (needs_of_map_at_place (needs_of_given_maps (length a)) place)
        (slice_get a place)
        (slice_get b place)
    within lt = subst (λ (needs : List MapNeed). IsSettled a b needs (slice_get a place) (slice_get b place))
        (sym (given_at 0 (length a) place lt ∙ ap (λ (n : ℕ). need_of_own_cell n ∷ [])
        (let e : 0 + place ≡ place = omega arith in e))) itself

    past : length a ≤ place → IsSettled a b (needs_of_map_at_place (needs_of_given_maps (length a)) place)
        (slice_get a place)
        (slice_get b place)
    past le =
        let none : slice_get a place ≡ slice_get b place = slice_get_past a place le
        ∙ sym (slice_get_past b place (omega (arith, count, le))) in
        record {
          cells = λ row col all. ap (λ (o : Option Grid). cell_of_optional_map o row col) none;
          same =
              λ all. none;
        }

pub map_needs_are_enough : MapNeedsAreEnough
map_needs_are_enough a b x y statements h u v place row col all =
    ((settled_all a.maps b.maps a.region (needs_of_given_maps (length a.maps)) a b x y statements
    (record {
      first_region = refl;
      second_region = sym h.region;
      first = h.first;
      second = h.second;
      first_count = sym (length-given 0 (length a.maps));
      second_count = h.count ∙ sym (length-given 0 (length a.maps));
      maps = settled_given a.maps b.maps h.count;
    }) u v).maps place).cells row col all
