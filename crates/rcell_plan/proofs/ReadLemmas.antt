-- An expression has the same value over two shelves that agree on what its reads need.
use Rattle.std.proofs.Common.{◌≡◌, ℕ, ℤ, pos, ◌+ℤ◌, List, [], ◌∷◌, ◌++◌, Option, refl, ap, subst, ◌∙◌, arith}
use Rattle.std.specs.Prelude.{All, slice_get, flat_map}
use Rattle.std.proofs.lemmas.List.Elements.{All-nil, All-cons, All-head, All-weaker}
use Rattle.cell_core.specs.Grid.{Grid, CellValue}
use Rattle.cell_calc_language.specs.Applied.{PositionAndGridSize, negated_cell, logical_negation_of_cell}
use Rattle.cell_calc_language.specs.Applied.{operator_value, call_result}
use Rattle.cell_calc_language.specs.Offsets.{cell_of_optional_map}
use Rattle.cell_calc_grammar.specs.declared.step.Step.{Step}
use Rattle.cell_calc_grammar.specs.declared.step.Step.TheVariants as step
use Rattle.cell_calc_grammar.specs.Postfix.{postfix, postfix_all}
use Rattle.cell_calc_language.specs.Formula.{Formula, Number, Map, Negated, Not, Binary, Call, ArgumentFormulas}
use Rattle.cell_calc_language.specs.Formula.{NoTrees, Then}
use Rattle.cell_calc_language.specs.Formula.{argument_count}
use Rattle.cell_calc_language.specs.Value.{value, argument_values}
use Rattle.rcell_plan.specs.declared.needs.MapNeed.{MapNeed}
use Rattle.rcell_plan.specs.Needs.{margin_containing_offset, need_widened_by_margin, needs_with_added_needs}
use Rattle.rcell_plan.specs.Plans.{map_read_by_step, needs_of_map_at_place, needs_of_read, needs_of_reads}
use Rattle.rcell_plan.specs.NeedsLaw.{OffsetStaysWithinMargin, ShelvesAgreeInNeed}
use Rattle.rcell_plan.proofs.JoinedLemmas.{Splits, all_left, all_right, all_of_map, needs_with_added_needs-all}
use Rattle.rcell_plan.proofs.JoinedLemmas.{alike_moved}
use Rattle.rcell_plan.proofs.JoinedLemmas.{alike_splits, IsSameMap, same_splits, within_first, within_second}

-- ---- values

-- a step reads the same cell at a position over both lists of maps
abbrev pub ReadsAlike : (x y : List Grid) → PositionAndGridSize → Step ℕ → Type 0
ReadsAlike x y s (step.Map i down right) = cell_of_optional_map (slice_get x i) (pos s.row +ℤ down)
    (pos s.col +ℤ right) ≡ cell_of_optional_map (slice_get y i) (pos s.row +ℤ down) (pos s.col +ℤ right)
ReadsAlike x y s (step.Number n) = Unit {0}
ReadsAlike x y s step.Negated = Unit {0}
ReadsAlike x y s step.Not = Unit {0}
ReadsAlike x y s (step.Binary op) = Unit {0}
ReadsAlike x y s (step.Call f n) = Unit {0}

module _ (x y : List Grid) (s : PositionAndGridSize) where
  mutual
    pub value_alike : (f : Formula) → All (ReadsAlike x y s) (postfix f) → value f x s ≡ value f y s
    value_alike (Number n) h = refl
    value_alike (Map i down right) h = All-head (ReadsAlike x y s) (step.Map i down right) [] h
    value_alike (Negated a) h = ap negated_cell (value_alike a
        (all_left (ReadsAlike x y s) (postfix a) (step.Negated ∷ []) h))
    value_alike (Not a) h = ap logical_negation_of_cell (value_alike a (all_left (ReadsAlike x y s) (postfix a)
        (step.Not ∷ []) h))
    value_alike (Binary op a b) h =
        let rest = all_right (ReadsAlike x y s) (postfix a) (postfix b ++ step.Binary op ∷ []) h in
        let first : value a x s ≡ value a y s = value_alike a
        (all_left (ReadsAlike x y s) (postfix a) (postfix b ++ step.Binary op ∷ []) h) in
        let second : value b x s ≡ value b y s = value_alike b
        (all_left (ReadsAlike x y s) (postfix b) (step.Binary op ∷ []) rest) in
        ap (λ v. operator_value op v (value b x s)) first ∙ ap (λ v. operator_value op (value a y s) v) second
    value_alike (Call f xs) h =
        ap (λ vs. call_result f s vs) (values_alike xs (all_left (ReadsAlike x y s) (postfix_all xs)
        (step.Call f (argument_count xs) ∷ []) h))

    values_alike : (xs : ArgumentFormulas) → All (ReadsAlike x y s) (postfix_all xs)
        → argument_values xs x s ≡ argument_values xs y s
    values_alike NoTrees h = refl
    values_alike (Then a xs) h =
        let first : value a x s ≡ value a y s = value_alike a
        (all_left (ReadsAlike x y s) (postfix a) (postfix_all xs) h) in
        let rest : argument_values xs x s ≡ argument_values xs y s = values_alike xs
        (all_right (ReadsAlike x y s) (postfix a) (postfix_all xs) h) in
        ap (λ (v : CellValue). v ∷ argument_values xs x s) first ∙ ap (λ (vs : List CellValue). value a y s ∷ vs) rest

-- ---- the needs of reads

module _ (P : MapNeed → Type 0) (splits : Splits P) (known : List (List MapNeed)) where
  -- a property of the needs of all reads holds for the needs of each read
  pub needs_of_reads-all : (reads : List MapNeed) → All P (needs_of_reads known reads)
      → All (λ read. All P (needs_of_read known read)) reads
  needs_of_reads-all reads h = parts reads (needs_with_added_needs-all P splits []
      (flat_map (needs_of_read known) reads) h).1
    where
      parts : (reads : List MapNeed) → All P (flat_map (needs_of_read known) reads)
          → All (λ read. All P (needs_of_read known read)) reads
      parts [] h = All-nil (λ read. All P (needs_of_read known read))
      parts (r ∷ rs) h =
          All-cons (λ read. All P (needs_of_read known read)) r rs
          (all_left P (needs_of_read known r) (flat_map (needs_of_read known) rs) h)
          (parts rs (all_right P (needs_of_read known r) (flat_map (needs_of_read known) rs) h))

-- a property of all reads holds for the reads of each step
module _ (Q : MapNeed → Type 0) (splits : Splits Q) where
  abbrev OfStep : Step ℕ → Type 0
  OfStep s = All Q (map_read_by_step s)

  pub reads_of_steps : (steps : List (Step ℕ)) → All Q
      (needs_with_added_needs [] (flat_map map_read_by_step steps)) → All OfStep steps
  reads_of_steps steps h = parts steps (needs_with_added_needs-all Q splits [] (flat_map map_read_by_step steps) h).1
    where
      parts : (steps : List (Step ℕ)) → All Q (flat_map map_read_by_step steps) → All OfStep steps
      parts [] h = All-nil OfStep
      parts (s ∷ ss) h =
          All-cons OfStep s ss (all_left Q (map_read_by_step s) (flat_map map_read_by_step ss) h)
          (parts ss (all_right Q (map_read_by_step s) (flat_map map_read_by_step ss) h))

module _ (a b : List Grid) (known : List (List MapNeed)) where
  -- the maps that a read needs are alike around each cell within its margin
  abbrev pub ReadsAround : (row col : ℤ) → MapNeed → Type 0
  ReadsAround row col read = (rows cols : ℤ) → OffsetStaysWithinMargin read.margin rows cols
      → All (ShelvesAgreeInNeed a b (row +ℤ rows) (col +ℤ cols)) (needs_of_map_at_place known read.place)

  around_splits : (row col : ℤ) → Splits (ReadsAround row col)
  around_splits row col m n same h = (
    λ rows cols within. h rows cols (within_first m.margin n.margin rows cols within),
    λ rows cols within. subst (λ (place : ℕ). All (ShelvesAgreeInNeed a b (row +ℤ rows) (col +ℤ cols))
        (needs_of_map_at_place known place)) same (h rows cols (within_second m.margin n.margin rows cols within)),
  )

  read_around : (row col : ℤ) (read : MapNeed) → All (ShelvesAgreeInNeed a b row col) (needs_of_read known read)
      → ReadsAround row col read
  read_around row col read h rows cols within =
      All-weaker (λ n. ShelvesAgreeInNeed a b row col (need_widened_by_margin read.margin n))
      (ShelvesAgreeInNeed a b (row +ℤ rows) (col +ℤ cols))
      (λ n alike. alike_moved (slice_get a n.place) (slice_get b n.place) row col n.whole read.margin n.margin
      rows cols within alike)
      (needs_of_map_at_place known read.place) (all_of_map (ShelvesAgreeInNeed a b row col)
      (need_widened_by_margin read.margin)
      (needs_of_map_at_place known read.place) h)

  -- the maps that each step needs are alike around the cells that it reads
  pub steps_around : (row col : ℤ) (steps : List (Step ℕ))
      → All (ShelvesAgreeInNeed a b row col) (needs_of_reads known
      (needs_with_added_needs [] (flat_map map_read_by_step steps)))
      → All (λ s. All (ReadsAround row col) (map_read_by_step s)) steps
  steps_around row col steps h =
      let reads = needs_with_added_needs [] (flat_map map_read_by_step steps) in
      reads_of_steps (ReadsAround row col) (around_splits row col) steps
      (All-weaker (λ read. All (ShelvesAgreeInNeed a b row col) (needs_of_read known read)) (ReadsAround row col)
      (read_around row col) reads
      (needs_of_reads-all (ShelvesAgreeInNeed a b row col) (alike_splits a b row col) known reads h))

  -- the maps that a read needs are the same maps
  abbrev pub ReadsSame : MapNeed → Type 0
  ReadsSame read = All (IsSameMap a b) (needs_of_map_at_place known read.place)

  same_read_splits : Splits ReadsSame
  same_read_splits m n same h = (
    h,
    subst (λ (place : ℕ). All (IsSameMap a b)
        (needs_of_map_at_place known place)) same h,
  )

  pub steps_same : (steps : List (Step ℕ)) → All (IsSameMap a b)
      (needs_of_reads known (needs_with_added_needs [] (flat_map map_read_by_step steps)))
      → All (λ s. All ReadsSame (map_read_by_step s)) steps
  steps_same steps h =
      let reads = needs_with_added_needs [] (flat_map map_read_by_step steps) in
      reads_of_steps ReadsSame same_read_splits steps
      (All-weaker (λ read. All (IsSameMap a b) (needs_of_read known read)) ReadsSame
      (λ read all. all_of_map (IsSameMap a b) (need_widened_by_margin read.margin)
      (needs_of_map_at_place known read.place) all) reads
      (needs_of_reads-all (IsSameMap a b) (same_splits a b) known reads h))

within_itself : (down right : ℤ) → OffsetStaysWithinMargin (margin_containing_offset down right) down right
within_itself down right = record { up = omega arith; down = omega arith; left = omega arith; right = omega arith }

-- ---- an expression over two shelves

-- a map has the same cell over both shelves if the maps it needs are alike there, and is the same map if they
-- are the same
pub record IsSettled (a b : List Grid) (needs : List MapNeed) (o p : Option Grid) : Type 0 where
  pub cells : (row col : ℤ) → All (ShelvesAgreeInNeed a b row col) needs
      → cell_of_optional_map o row col ≡ cell_of_optional_map p row col
  pub same : All (IsSameMap a b) needs → o ≡ p

module _ (a b x y : List Grid) (known : List (List MapNeed))
    (settled : (place : ℕ) → IsSettled a b (needs_of_map_at_place known place) (slice_get x place)
    (slice_get y place)) where
  pub expression_alike : (f : Formula) (s : PositionAndGridSize) → All (ShelvesAgreeInNeed a b (pos s.row) (pos s.col))
      (needs_of_reads known (needs_with_added_needs [] (flat_map map_read_by_step (postfix f))))
      → value f x s ≡ value f y s
  expression_alike f s h =
      value_alike x y s f
      (All-weaker (λ t. All (ReadsAround a b known (pos s.row) (pos s.col)) (map_read_by_step t))
      (ReadsAlike x y s) one (postfix f)
      (steps_around a b known (pos s.row) (pos s.col) (postfix f) h))
    where
      one : (t : Step ℕ) → All (ReadsAround a b known (pos s.row) (pos s.col)) (map_read_by_step t)
          → ReadsAlike x y s t
      one (step.Map i down right) all =
          (settled i).cells (pos s.row +ℤ down) (pos s.col +ℤ right)
          (All-head (ReadsAround a b known (pos s.row) (pos s.col)) _ [] all down right (within_itself down right))
      one (step.Number n) all = tt
      one step.Negated all = tt
      one step.Not all = tt
      one (step.Binary op) all = tt
      one (step.Call f n) all = tt

  pub expression_same : (f : Formula) (s : PositionAndGridSize) → All (IsSameMap a b)
      (needs_of_reads known (needs_with_added_needs [] (flat_map map_read_by_step (postfix f))))
      → value f x s ≡ value f y s
  expression_same f s h =
      value_alike x y s f
      (All-weaker (λ t. All (ReadsSame a b known) (map_read_by_step t)) (ReadsAlike x y s) one (postfix f)
      (steps_same a b known (postfix f) h))
    where
      one : (t : Step ℕ) → All (ReadsSame a b known) (map_read_by_step t) → ReadsAlike x y s t
      one (step.Map i down right) all =
          ap (λ m. cell_of_optional_map m (pos s.row +ℤ down) (pos s.col +ℤ right))
          ((settled i).same (All-head (ReadsSame a b known) _ [] all))
      one (step.Number n) all = tt
      one step.Negated all = tt
      one step.Not all = tt
      one (step.Binary op) all = tt
      one (step.Call f n) all = tt
