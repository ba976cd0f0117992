-- Labels are replaced by numbers.
use Rattle.std.proofs.Common.{◌≡◌, ℕ, zero, suc, ℤ, true, false, ◌+◌, ◌*◌, ◌<◌, ◌≤◌, ◌++◌, [], ◌∷◌, List, Some, None, is_some, pos, length, get_or, set, refl, ap, sym, ◌∙◌, arith, ⊎_elim, eq-eqb, add-one, get_or-set_other, get_or-set_same}
use Rattle.std.proofs.lemmas.List.{length-set, length_push, get_or_past}
use Rattle.std.proofs.lemmas.Bool.{cases_lt, cases_order, cases_Bool, ne_eqb, cond-true, cond-false}
use Rattle.cell_core.specs.Grid.{Grid, CellValue}
use Rattle.std.proofs.Math.Nat.{mul-le-mul_right}
use Rattle.cell_core_values.specs.Region.{IsValidRegion, RegionValue}
use Rattle.cell_clumps.specs.declared.clump.Joining.{Joining}
use Rattle.cell_clumps.specs.Clumps.{Position, cell_at_position}
use Rattle.cell_clumps.specs.parts.Labels.{LabelsPointToSmallerOrSelf}
use Rattle.cell_clumps.specs.parts.Meetings.{LabelsLeadToConnectedRoots}
use Rattle.cell_clumps.specs.parts.ClumpsRead.{IsCellAlreadyLabelled, clump_label_at_position}
use Rattle.cell_clumps.specs.parts.Starts.{cell_that_began_label}
use Rattle.cell_clumps.specs.parts.ClumpNumbers.{is_first, first_cells_of_roots_below_label, clump_number_of_root, clump_number_of_cell, AreLabelsNumberedBeforePlace, CanNumberLabelsFromPlace, cell_of_clump_map}
use Rattle.cell_clumps.specs.parts.LabelTables.{IsLabelTableOfMap}
use Rattle.cell_clumps.proofs.StartLemmas.{grows, place_inside, starts_most}

-- ---- counting open labels, place by place

pub firsts_more : (j : Joining) (m : Grid) (labels : List ℕ) (k : ℕ) → is_first labels k ≡ true → first_cells_of_roots_below_label j m labels (suc k) ≡ first_cells_of_roots_below_label j m labels k ++ cell_that_began_label j m k ∷ []
firsts_more j m labels k is = cond-true (is_first labels k) _ _ is

pub firsts_same : (j : Joining) (m : Grid) (labels : List ℕ) (k : ℕ) → is_first labels k ≡ false → first_cells_of_roots_below_label j m labels (suc k) ≡ first_cells_of_roots_below_label j m labels k
firsts_same j m labels k is = cond-false (is_first labels k) _ _ is

count_more : (j : Joining) (m : Grid) (labels : List ℕ) (k : ℕ) → is_first labels k ≡ true → length (first_cells_of_roots_below_label j m labels (suc k)) ≡ length (first_cells_of_roots_below_label j m labels k) + 1
count_more j m labels k is = ap (length {A = Position}) (firsts_more j m labels k is) ∙ length_push (first_cells_of_roots_below_label j m labels k) (cell_that_began_label j m k)

count_step : (j : Joining) (m : Grid) (labels : List ℕ) (k : ℕ) → length (first_cells_of_roots_below_label j m labels k) ≤ length (first_cells_of_roots_below_label j m labels (suc k))
count_step j m labels k =
    ⊎_elim (λ yes'. let e = count_more j m labels k yes' in omega arith)
    (λ no'. let e = ap (length {A = Position}) (firsts_same j m labels k no') in omega arith) (cases_Bool (is_first labels k))

pub count_most : (j : Joining) (m : Grid) (labels : List ℕ) (k : ℕ)
    → length (first_cells_of_roots_below_label j m labels k) ≤ k
count_most j m labels zero = omega arith
count_most j m labels (suc k) =
    let before = count_most j m labels k in
    ⊎_elim (λ yes'. let e = count_more j m labels k yes' in omega arith)
    (λ no'. let e = ap (length {A = Position}) (firsts_same j m labels k no') in omega arith) (cases_Bool (is_first labels k))

-- a larger open label has a larger number
pub number_lt : (j : Joining) (m : Grid) (labels : List ℕ) (a b : ℕ) → a < b → is_first labels b ≡ true → clump_number_of_root j m labels a < clump_number_of_root j m labels b
number_lt j m labels a b lt is =
    let before = grows (λ n. length (first_cells_of_roots_below_label j m labels n)) (count_step j m labels) (suc a) b
    (omega arith) in
    let more = count_more j m labels b is in
    omega arith

pub number_apart : (j : Joining) (m : Grid) (labels : List ℕ) (a b : ℕ) → is_first labels a ≡ true → is_first labels b ≡ true → clump_number_of_root j m labels a ≡ clump_number_of_root j m labels b → a ≡ b
number_apart j m labels a b a_is b_is same =
    ⊎_elim (λ e. e)
    (λ apart. ⊎_elim (λ lt. absurd (let less = number_lt j m labels a b lt b_is in omega arith)) (λ lt. absurd (let less = number_lt j m labels b a lt a_is in omega arith)) apart)
    (cases_order a b)

-- ---- numbering the table, place by place

-- writing the number of the open label extends the numbered places by one
number_written : (j : Joining) (m : Grid) (labels : List ℕ) (open_of : ℕ → ℕ) (place : ℕ) (table : List ℕ) (count new v : ℕ) → AreLabelsNumberedBeforePlace j m labels open_of place table count → place < length table → v ≡ clump_number_of_root j m labels (open_of place) → new ≡ length (first_cells_of_roots_below_label j m labels (suc place)) → AreLabelsNumberedBeforePlace j m labels open_of (place + 1) (set table place v) new
number_written j m labels open_of place table count new v h inside is counted = record {
  long = length-set table place v ∙ h.long;
  later = λ k le. get_or-set_other table place k v 0 (omega arith) ∙ h.later k (omega arith);
  done = λ k lt. ⊎_elim (λ below. get_or-set_other table place k v 0 (omega arith) ∙ h.done k below)
      (λ le. let e : k ≡ place = omega arith in
      ap (λ (n : ℕ). get_or (set table place v) n 0) e ∙ get_or-set_same table place v 0 inside ∙ is ∙ ap (λ (n : ℕ). clump_number_of_root j m labels (open_of n)) (sym e)) (cases_lt k place);
  counted = counted ∙ ap (λ (n : ℕ). length (first_cells_of_roots_below_label j m labels n)) (sym (add-one place));
}

-- an open label gets the next number
pub AreLabelsNumberedBeforePlace-open : (j : Joining) (m : Grid) (labels : List ℕ) (open_of : ℕ → ℕ) (place : ℕ) (table : List ℕ) (count : ℕ) → LabelsLeadToConnectedRoots j m labels open_of → AreLabelsNumberedBeforePlace j m labels open_of place table count → place < length table → get_or table place 0 ≡ place → AreLabelsNumberedBeforePlace j m labels open_of (place + 1) (set table place (count + 1)) (count + 1)
AreLabelsNumberedBeforePlace-open j m labels open_of place table count sound h inside here =
    let open' : get_or labels place 0 ≡ place = sym (h.later place (omega arith)) ∙ here in
    let is : open_of place ≡ place = sound.reports.itself place (let long = h.long in omega arith) open' in
    let more = count_more j m labels place (eq-eqb _ _ open') in
    let counted : count + 1 ≡ length (first_cells_of_roots_below_label j m labels (suc place)) = ap (λ (n : ℕ). n + 1) h.counted ∙ sym more in
    number_written j m labels open_of place table count (count + 1) (count + 1) h inside (counted ∙ ap (λ (n : ℕ). clump_number_of_root j m labels n) (sym is)) counted

-- a closed label gets the number of the label that it points to
pub AreLabelsNumberedBeforePlace-closed : (j : Joining) (m : Grid) (labels : List ℕ) (open_of : ℕ → ℕ) (place : ℕ) (table : List ℕ) (count : ℕ) → LabelsLeadToConnectedRoots j m labels open_of → AreLabelsNumberedBeforePlace j m labels open_of place table count → place < length table → get_or table place 0 < place → AreLabelsNumberedBeforePlace j m labels open_of (place + 1) (set table place (get_or table (get_or table place 0) 0)) count
AreLabelsNumberedBeforePlace-closed j m labels open_of place table count sound h inside less =
    let long = h.long in
    let same_label : get_or table place 0 ≡ get_or labels place 0 = h.later place (omega arith) in
    let up : ℕ = get_or table place 0 in
    let leads : open_of up ≡ open_of place = ap open_of same_label ∙ sound.reports.points place (omega arith) in
    let is : get_or table up 0 ≡ clump_number_of_root j m labels (open_of place) = h.done up less ∙ ap (λ (n : ℕ). clump_number_of_root j m labels n) leads in
    let same = firsts_same j m labels place (ne_eqb _ _ (λ e. absurd (omega arith))) in
    number_written j m labels open_of place table count count (get_or table up 0) h inside is (h.counted ∙ ap (length {A = Position}) (sym same))

-- the table can be numbered from its first place
pub CanNumberLabelsFromPlace-first : (table : List ℕ) → LabelsPointToSmallerOrSelf table
    → CanNumberLabelsFromPlace 0 table
CanNumberLabelsFromPlace-first table down = record {
  down = λ k le. down k;
  most = λ k. ⊎_elim (λ lt. let le = down k in omega arith) (λ ge. let past : get_or table k 0 ≡ 0 = get_or_past table k 0 ge in omega arith) (cases_lt k (length table));
}

pub AreLabelsNumberedBeforePlace-first : (j : Joining) (m : Grid) (table : List ℕ) (open_of : ℕ → ℕ) → AreLabelsNumberedBeforePlace j m table open_of 0 table 0
AreLabelsNumberedBeforePlace-first j m table open_of = record {
  long = refl;
  later = λ k le. refl;
  done = λ k lt. absurd (omega arith);
  counted = refl;
}

-- ---- the numbers of cells

module _ (j : Joining) (m : Grid) (table : List ℕ) (h : IsLabelTableOfMap j m table) where
  pub number_is : (p : Position) → clump_number_of_cell j m table h p ≡ clump_number_of_root j m table (h.has_read.open_of (clump_label_at_position m h.labels p))
  unfolding clump_number_of_cell
  number_is p = refl

  pub cell_numbered : (p : Position) (v : ℤ) → cell_at_position m p ≡ Some v → cell_of_clump_map j m table h p ≡ Some (pos (clump_number_of_cell j m table h p))
  cell_numbered p v is = cond-true (is_some (cell_at_position m p)) (Some (pos (clump_number_of_cell j m table h p))) None (ap (λ (x : CellValue). is_some x) is)

  pub cell_null : (p : Position) → cell_at_position m p ≡ None → cell_of_clump_map j m table h p ≡ None
  cell_null p is = cond-false (is_some (cell_at_position m p)) (Some (pos (clump_number_of_cell j m table h p))) None (ap (λ (x : CellValue). is_some x) is)

  pub read_all : (p : Position) (v : ℤ) → cell_at_position m p ≡ Some v → IsCellAlreadyLabelled m h.labels p
  read_all p v is = let lt = place_inside m p (h.has_read.read.inside p v is) in let long = h.long in omega arith

-- a table has at most as many labels as the map has cells
pub table_short : (j : Joining) (m : Grid) (table : List ℕ) → IsLabelTableOfMap j m table → IsValidRegion m.region → length table < 2147483648
table_short j m table h region =
    let most = starts_most j m (length h.labels) in
    let long = h.has_read.read.long in
    let all = h.long in
    let cells = region.cells_most in
    omega arith

-- adding a row's labels keeps the count within its limit
pub row_fits : (e : RegionValue) (count row : ℕ) → IsValidRegion e → row < e.rows → count ≤ row * e.cols → count + e.cols < 2147483648
row_fits e count row is inside most =
    let cells = is.cells_most in
    let whole : (row + 1) * e.cols ≤ e.rows * e.cols = mul-le-mul_right e.cols (omega arith) in
    omega arith
