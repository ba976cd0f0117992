-- An expression's reads cover its reach, and each map occurs once in them.
use Rattle.std.proofs.Common.{◌≡◌, ℕ, zero, suc, ℤ, ◌+◌, ◌<◌, ◌≤◌, max, List, [], ◌∷◌, ◌++◌, map, Bool, true, false}
use Rattle.std.proofs.Common.{◌||◌, refl, ap, sym, ◌∙◌, arith}
use Rattle.std.specs.Prelude.{All, ◌==◌, nat_lt, flat_map, if◌then◌else◌}
use Rattle.std.proofs.lemmas.List.Elements.{All-nil, All-cons, All-head, All-tail, All-weaker, All-push}
use Rattle.cell_core.specs.Grid.{Grid, CellValue}
use Rattle.cell_calc_grammar.specs.declared.function.Function.{Function}
use Rattle.cell_calc_grammar.specs.declared.function.Function.TheVariants as function
use Rattle.cell_calc_language.specs.Applied.{PositionAndGridSize, negated_cell, logical_negation_of_cell}
use Rattle.cell_calc_language.specs.Applied.{operator_value, call_result}
use Rattle.cell_calc_grammar.specs.Tree.{fold_maps}
use Rattle.cell_calc_grammar.specs.declared.step.Step.{Step}
use Rattle.cell_calc_grammar.specs.declared.step.Step.TheVariants as step
use Rattle.cell_calc_grammar.specs.Postfix.{postfix, value_of_step_map_or_default, fold_maps_of_steps}
use Rattle.cell_calc_grammar.proofs.PostfixLemmas.{fold-postfix}
use Rattle.cell_calc_language.proofs.FormulaSteps.{greatest}
use Rattle.cell_calc_language.specs.Formula.{Formula, Number, Map, Negated, Not, Binary, Call, ArgumentFormulas}
use Rattle.cell_calc_language.specs.Formula.{NoTrees, Then}
use Rattle.cell_calc_language.specs.Reach.{rows_read_above_at_offset, rows_read_below_at_offset}
use Rattle.cell_calc_language.specs.Value.{value, argument_values}
use Rattle.rcell_plan.specs.HaloParts.{columns_read_left_at_offset, columns_read_right_at_offset, calls, call_any}
use Rattle.rcell_plan.specs.HaloParts.{value_seen_from, values_seen_from}
use Rattle.rcell_plan.specs.LocalLaw.{is_position_function}
use Rattle.rcell_script.specs.declared.command.Command.{Command}
use Rattle.rcell_script.specs.declared.command.Command.TheVariants.{Mapcalc, Reclass, Clump, Stats, OutAscii}
use Rattle.rcell_script.specs.declared.statement.Statement.{Statement}
use Rattle.rcell_plan.specs.declared.needs.MapNeed.{MapNeed}
use Rattle.rcell_plan.specs.declared.planning.Plan.{Plan}
use Rattle.rcell_plan.specs.Needs.{need_of_own_cell, need_covering_both_needs, requiring_full_map}
use Rattle.rcell_plan.specs.Needs.{needs_with_added_need, needs_with_added_needs}
use Rattle.rcell_plan.specs.Plans.{map_read_by_step, maps_read_by_expression, maps_read_by_command}
use Rattle.rcell_plan.specs.Plans.{needs_of_map_at_place, needs_of_read}
use Rattle.rcell_plan.specs.Plans.{command_needs, command_makes_map, needs_after_command, plan_of_statement}
use Rattle.rcell_plan.specs.Plans.{plans_of_statements}
use Rattle.rcell_plan.specs.Plans.{needs_of_given_maps_from, needs_of_given_maps}
use Rattle.rcell_plan.specs.ReadsLaw.{ExpressionReadsMatchReach, NeedPlacesAscendAbovePlace, NeedPlacesAscend}
use Rattle.rcell_plan.specs.ReadsLaw.{PlansListMapsInOrder, ExpressionWithoutPositionIgnoresPosition}

-- ---- the order of places

past_with_need : (place : ℕ) (xs : List MapNeed) (n : MapNeed) → place < n.place → NeedPlacesAscendAbovePlace place xs
    → NeedPlacesAscendAbovePlace place (needs_with_added_need xs n)
past_with_need place [] n lt h = (lt, tt)
past_with_need place (x ∷ xs) n lt h = by_case (nat_lt x.place n.place) refl (nat_lt n.place x.place) refl
    (λ less. past_with_need x.place xs n less h.1)
  where
    by_case : (b : Bool) → nat_lt x.place n.place ≡ b → (c : Bool) → nat_lt n.place x.place ≡ c
        → (x.place < n.place → NeedPlacesAscendAbovePlace x.place (needs_with_added_need xs n))
        → NeedPlacesAscendAbovePlace place (if b then x ∷ needs_with_added_need xs n else (if c then n ∷ x
        ∷ xs else need_covering_both_needs x n ∷ xs))
    by_case true e c f behind = (h.0, behind (grind arith))
    by_case false e true f behind = (lt, (grind arith, h.1))
    by_case false e false f behind = (h.0, h.1)

ascend_with_need : (xs : List MapNeed) (n : MapNeed) → NeedPlacesAscend xs
    → NeedPlacesAscend (needs_with_added_need xs n)
ascend_with_need [] n h = tt
ascend_with_need (x ∷ xs) n h = by_case (nat_lt x.place n.place) refl (nat_lt n.place x.place) refl
  where
    by_case : (b : Bool) → nat_lt x.place n.place ≡ b → (c : Bool) → nat_lt n.place x.place ≡ c
        → NeedPlacesAscend (if b then x ∷ needs_with_added_need xs n else (if c then n ∷ x
        ∷ xs else need_covering_both_needs x n ∷ xs))
    by_case true e c f = past_with_need x.place xs n (grind arith) h
    by_case false e true f = (grind arith, h)
    by_case false e false f = h

ascend_with_needs : (xs ns : List MapNeed) → NeedPlacesAscend xs → NeedPlacesAscend (needs_with_added_needs xs ns)
ascend_with_needs xs [] h = h
ascend_with_needs xs (n ∷ ns) h = ascend_with_needs (needs_with_added_need xs n) ns (ascend_with_need xs n h)

past_wholly : (place : ℕ) (xs : List MapNeed) → NeedPlacesAscendAbovePlace place xs
    → NeedPlacesAscendAbovePlace place (map requiring_full_map xs)
past_wholly place [] h = tt
past_wholly place (x ∷ xs) h = (h.0, past_wholly x.place xs h.1)

ascend_wholly : (xs : List MapNeed) → NeedPlacesAscend xs → NeedPlacesAscend (map requiring_full_map xs)
ascend_wholly [] h = tt
ascend_wholly (x ∷ xs) h = past_wholly x.place xs h

reads_ascend : (c : Command) → NeedPlacesAscend (maps_read_by_command c)
reads_ascend (Mapcalc target f) = ascend_with_needs [] (flat_map map_read_by_step (postfix f)) tt
reads_ascend (Reclass place target rules) = tt
reads_ascend (Clump place target joining) = tt
reads_ascend (Stats places options) = ascend_with_needs [] (map need_of_own_cell places) tt
reads_ascend (OutAscii place null_text) = tt

at_ascends : (known : List (List MapNeed)) (place : ℕ) → All NeedPlacesAscend known
    → NeedPlacesAscend (needs_of_map_at_place known place)
at_ascends [] place h = tt
at_ascends (k ∷ known) zero h = All-head NeedPlacesAscend k known h
at_ascends (k ∷ known) (suc place) h = at_ascends known place (All-tail NeedPlacesAscend k known h)

needs_ascend : (known : List (List MapNeed)) (c : Command) → All NeedPlacesAscend known
    → NeedPlacesAscend (command_needs known c)
needs_ascend known (Mapcalc target f) h = ascend_with_needs [] (flat_map (needs_of_read known)
    (maps_read_by_expression f)) tt
needs_ascend known (Reclass place target rules) h = at_ascends known place h
needs_ascend known (Clump place target joining) h = ascend_wholly (needs_of_map_at_place known place)
    (at_ascends known place h)
needs_ascend known (Stats places options) h = ascend_with_needs []
    (flat_map (needs_of_read known) (needs_with_added_needs [] (map need_of_own_cell places))) tt
needs_ascend known (OutAscii place null_text) h = at_ascends known place h

after_ascends : (known : List (List MapNeed)) (c : Command) → All NeedPlacesAscend known
    → All NeedPlacesAscend (needs_after_command known c)
after_ascends known c h = by_case (command_makes_map c)
  where
    by_case : (b : Bool) → All NeedPlacesAscend (if b then known ++ command_needs known c ∷ [] else known)
    by_case true = All-push NeedPlacesAscend known (command_needs known c) h (needs_ascend known c h)
    by_case false = h

given_ascend : (first count : ℕ) → All NeedPlacesAscend (needs_of_given_maps_from first count)
given_ascend first zero = All-nil NeedPlacesAscend
given_ascend first (suc count) = All-cons NeedPlacesAscend (need_of_own_cell first
    ∷ []) (needs_of_given_maps_from (first + 1) count) tt
    (given_ascend (first + 1) count)

all_ascend : (known : List (List MapNeed)) (statements : List Statement) → All NeedPlacesAscend known
    → All (λ p. NeedPlacesAscend p.reads × NeedPlacesAscend p.needs) (plans_of_statements known statements)
all_ascend known [] h = All-nil (λ (p : Plan). NeedPlacesAscend p.reads × NeedPlacesAscend p.needs)
all_ascend known (s ∷ ss) h =
    All-cons (λ (p : Plan). NeedPlacesAscend p.reads × NeedPlacesAscend p.needs) (plan_of_statement known s)
    (plans_of_statements (needs_after_command known s.command) ss)
    (reads_ascend s.command, needs_ascend known s.command h)
    (all_ascend (needs_after_command known s.command) ss (after_ascends known s.command h))

pub plans_list_maps_in_order : PlansListMapsInOrder
plans_list_maps_in_order count statements = all_ascend (needs_of_given_maps count) statements (given_ascend 0 count)

-- ---- the largest of a place

module _ (g : MapNeed → ℕ) where
  abbrev here : ℕ → MapNeed → ℕ
  here i n = if i == n.place then g n else 0

  abbrev most : ℕ → List MapNeed → ℕ
  most i [] = 0
  most i (n ∷ ns) = max (here i n) (most i ns)

  none_past : (i place : ℕ) (xs : List MapNeed) → i ≤ place → NeedPlacesAscendAbovePlace place xs → most i xs ≡ 0
  none_past i place [] le h = refl
  none_past i place (x ∷ xs) le h =
      let less : i < x.place = omega (arith, le, h.0) in
      let other : (i == x.place) ≡ false = grind arith in
      let rest : most i xs ≡ 0 = none_past i x.place xs (omega (arith, less)) h.1 in
      rw (other, rest) refl

  itself : (n : MapNeed) → here n.place n ≡ g n
  itself n = let same : (n.place == n.place) ≡ true = grind arith in rw same refl

  -- in ascending needs, each need has the maximum of its place
  alone_past : (place : ℕ) (xs : List MapNeed) → NeedPlacesAscendAbovePlace place xs
      → All (λ n. (place < n.place) × (g n ≡ most n.place xs)) xs
  alone_past place [] h = All-nil (λ n. (place < n.place) × (g n ≡ most n.place []))
  alone_past place (x ∷ xs) h =
      All-cons (λ n. (place < n.place) × (g n ≡ most n.place (x ∷ xs))) x xs (
        h.0,
        (let none : most x.place xs ≡ 0 = none_past x.place x.place xs (omega arith) h.1 in
            rw (none, itself x) (omega arith)),
      )
      (All-weaker (λ n. (x.place < n.place) × (g n ≡ most n.place xs))
      (λ n. (place < n.place) × (g n ≡ most n.place (x ∷ xs)))
      (λ n k.
      let before = h.0 in
      let after = k.0 in
      let other : (n.place == x.place) ≡ false = grind arith in
      (omega (arith, before, after), rw other (k.1 ∙ omega arith))) xs (alone_past x.place xs h.1))

  pub alone : (xs : List MapNeed) → NeedPlacesAscend xs → All (λ n. g n ≡ most n.place xs) xs
  alone [] h = All-nil (λ n. g n ≡ most n.place [])
  alone (x ∷ xs) h =
      All-cons (λ n. g n ≡ most n.place (x ∷ xs)) x xs
      (let none : most x.place xs ≡ 0 = none_past x.place x.place xs (omega arith) h in
      rw (none, itself x) (omega arith))
      (All-weaker (λ n. (x.place < n.place) × (g n ≡ most n.place xs)) (λ n. g n ≡ most n.place (x ∷ xs))
      (λ n k.
      let after = k.0 in
      let other : (n.place == x.place) ≡ false = grind arith in
      rw other (k.1 ∙ omega arith)) xs (alone_past x.place xs h))

  module _ (joins : (a b : MapNeed) → g (need_covering_both_needs a b) ≡ max (g a) (g b)) where
    most_with_need : (i : ℕ) (xs : List MapNeed) (n : MapNeed)
        → most i (needs_with_added_need xs n) ≡ max (most i xs) (here i n)
    most_with_need i [] n = omega arith
    most_with_need i (x ∷ xs) n = by_case (nat_lt x.place n.place) refl (nat_lt n.place x.place) refl
        (most_with_need i xs n)
      where
        both : x.place ≡ n.place → here i (need_covering_both_needs x n) ≡ max (here i x) (here i n)
        both same = by_place (i == x.place) refl
          where
            by_place : (b : Bool) → (i == x.place) ≡ b → here i (need_covering_both_needs x n)
                ≡ max (here i x) (here i n)
            by_place true e = let f : (i == n.place) ≡ true = ap (λ p. i == p) (sym same) ∙ e in
                rw (e, f, joins x n) refl
            by_place false e = let f : (i == n.place) ≡ false = ap (λ p. i == p) (sym same) ∙ e in rw (e, f) refl

        by_case : (b : Bool) → nat_lt x.place n.place ≡ b → (c : Bool) → nat_lt n.place x.place ≡ c
            → most i (needs_with_added_need xs n) ≡ max (most i xs) (here i n)
            → most i (if b then x ∷ needs_with_added_need xs n else (if c then n ∷ x
            ∷ xs else need_covering_both_needs x n ∷ xs)) ≡ max
            (max (here i x) (most i xs)) (here i n)
        by_case true e c f behind = rw behind (omega arith)
        by_case false e true f behind = omega arith
        by_case false e false f behind =
            let same : x.place ≡ n.place = grind arith in
            let joint : here i (need_covering_both_needs x n) ≡ max (here i x) (here i n) = both same in
            rw joint (omega arith)

    most_with_needs : (i : ℕ) (xs ns : List MapNeed) → most i (needs_with_added_needs xs ns)
        ≡ max (most i xs) (most i ns)
    most_with_needs i xs [] = omega arith
    most_with_needs i xs (n ∷ ns) = most_with_needs i (needs_with_added_need xs n) ns
        ∙ rw (most_with_need i xs n) (omega arith)

    most-append : (i : ℕ) (xs ys : List MapNeed) → most i (xs ++ ys) ≡ max (most i xs) (most i ys)
    most-append i [] ys = omega arith
    most-append i (x ∷ xs) ys = rw (most-append i xs ys) (omega arith)

    -- the maximum at a place over the listed reads is the maximum over all steps
    pub most_steps : (at : ℕ → ℤ → ℤ → ℕ) (i : ℕ) → ((s : Step ℕ)
        → most i (map_read_by_step s) ≡ value_of_step_map_or_default at 0 s)
        → (f : Formula)
        → most i (maps_read_by_expression f) ≡ fold_maps_of_steps at 0 max (postfix f)
    most_steps at i one f = most_with_needs i [] (flat_map map_read_by_step (postfix f)) ∙ steps (postfix f)
      where
        steps : (ss : List (Step ℕ)) → max 0 (most i (flat_map map_read_by_step ss))
            ≡ fold_maps_of_steps at 0 max ss
        steps [] = omega arith
        steps (s ∷ ss) =
            let rest : max 0 (most i (flat_map map_read_by_step ss)) ≡ fold_maps_of_steps at 0 max ss = steps ss in
            let first : most i (map_read_by_step s) ≡ value_of_step_map_or_default at 0 s = one s in
            rw (most-append i (map_read_by_step s) (flat_map map_read_by_step ss), first, ← rest) (omega arith)

-- ---- the reads of an expression are its reach

step_up : (i : ℕ) (s : Step ℕ) → most (λ n. n.margin.up) i (map_read_by_step s)
    ≡ value_of_step_map_or_default (rows_read_above_at_offset i) 0 s
step_up i (step.Map j down right) = omega arith
step_up i (step.Number n) = refl
step_up i step.Negated = refl
step_up i step.Not = refl
step_up i (step.Binary op) = refl
step_up i (step.Call f n) = refl

step_down : (i : ℕ) (s : Step ℕ) → most (λ n. n.margin.down) i (map_read_by_step s)
    ≡ value_of_step_map_or_default (rows_read_below_at_offset i) 0 s
step_down i (step.Map j down right) = omega arith
step_down i (step.Number n) = refl
step_down i step.Negated = refl
step_down i step.Not = refl
step_down i (step.Binary op) = refl
step_down i (step.Call f n) = refl

step_left : (i : ℕ) (s : Step ℕ) → most (λ n. n.margin.left) i (map_read_by_step s)
    ≡ value_of_step_map_or_default (columns_read_left_at_offset i) 0 s
step_left i (step.Map j down right) = omega arith
step_left i (step.Number n) = refl
step_left i step.Negated = refl
step_left i step.Not = refl
step_left i (step.Binary op) = refl
step_left i (step.Call f n) = refl

step_right : (i : ℕ) (s : Step ℕ) → most (λ n. n.margin.right) i (map_read_by_step s)
    ≡ value_of_step_map_or_default (columns_read_right_at_offset i) 0 s
step_right i (step.Map j down right) = omega arith
step_right i (step.Number n) = refl
step_right i step.Negated = refl
step_right i step.Not = refl
step_right i (step.Binary op) = refl
step_right i (step.Call f n) = refl

module _ (f : Formula) where
  -- the margins of the reads are the expression's reach in each direction
  toward : (g : MapNeed → ℕ) → ((a b : MapNeed) → g (need_covering_both_needs a b) ≡ max (g a) (g b))
      → (at : ℕ → ℕ → ℤ → ℤ → ℕ)
      → ((i : ℕ) (s : Step ℕ) → most g i (map_read_by_step s) ≡ value_of_step_map_or_default (at i) 0 s)
      → All (λ n. g n ≡ fold_maps (at n.place) 0 max f) (maps_read_by_expression f)
  toward g joins at one =
      All-weaker (λ n. g n ≡ most g n.place (maps_read_by_expression f)) (λ n. g n ≡ fold_maps (at n.place) 0 max f)
      (λ n is. is ∙ most_steps g joins (at n.place) n.place (one n.place) f
      ∙ fold-postfix (at n.place) 0 max greatest f)
      (maps_read_by_expression f) (alone g (maps_read_by_expression f)
      (ascend_with_needs [] (flat_map map_read_by_step (postfix f)) tt))

pub expression_reads_match_reach : ExpressionReadsMatchReach
expression_reads_match_reach f =
    let up = toward f (λ n. n.margin.up) (λ a b. refl) rows_read_above_at_offset step_up in
    let down = toward f (λ n. n.margin.down) (λ a b. refl) rows_read_below_at_offset step_down in
    let left = toward f (λ n. n.margin.left) (λ a b. refl) columns_read_left_at_offset step_left in
    let right = toward f (λ n. n.margin.right) (λ a b. refl) columns_read_right_at_offset step_right in
    λ k d lt. λ i. record { up = up k d lt i; down = down k d lt i; left = left k d lt i; right = right k d lt i }

-- ---- the position

silent : (f : Function) (here reported : PositionAndGridSize) (xs : List CellValue) → is_position_function f ≡ false
    → call_result f reported xs ≡ call_result f here xs
silent function.If here reported xs h = refl
silent function.IsNull here reported xs h = refl
silent function.Null here reported xs h = refl
silent function.Abs here reported xs h = refl
silent function.Min here reported xs h = refl
silent function.Max here reported xs h = refl
silent function.Mode here reported xs h = refl
silent function.Row here reported xs h = cc
silent function.Column here reported xs h = cc
silent function.RowCount here reported xs h = cc
silent function.ColumnCount here reported xs h = cc
silent function.Eval here reported xs h = refl
silent function.KnownMin here reported xs h = refl
silent function.KnownMax here reported xs h = refl
silent function.KnownMode here reported xs h = refl

or-left : (a b : Bool) → (a || b) ≡ false → a ≡ false
or-left true b h = cc
or-left false b h = refl

or-right : (a b : Bool) → (a || b) ≡ false → b ≡ false
or-right true b h = cc
or-right false b h = h

module _ (maps : List Grid) (here reported : PositionAndGridSize) where
  mutual
    reported_same : (f : Formula) → calls is_position_function f ≡ false
        → value_seen_from f maps here reported ≡ value f maps here
    reported_same (Number n) h = refl
    reported_same (Map i down right) h = refl
    reported_same (Negated a) h = ap negated_cell (reported_same a h)
    reported_same (Not a) h = ap logical_negation_of_cell (reported_same a h)
    reported_same (Binary op a b) h =
        let first : value_seen_from a maps here reported ≡ value a maps here = reported_same a
        (or-left (calls is_position_function a) (calls is_position_function b) h) in
        let second : value_seen_from b maps here reported ≡ value b maps here = reported_same b
        (or-right (calls is_position_function a) (calls is_position_function b) h) in
        ap (λ v. operator_value op v (value_seen_from b maps here reported)) first
        ∙ ap (λ v. operator_value op (value a maps here) v) second
    reported_same (Call f xs) h =
        silent f here reported (values_seen_from xs maps here reported) (or-left (is_position_function f) (call_any is_position_function xs) h)
        ∙ ap (λ vs. call_result f here vs) (all_reported xs (or-right (is_position_function f)
        (call_any is_position_function xs) h))

    all_reported : (xs : ArgumentFormulas) → call_any is_position_function xs ≡ false
        → values_seen_from xs maps here reported ≡ argument_values xs maps here
    all_reported NoTrees h = refl
    all_reported (Then a xs) h =
        let first : value_seen_from a maps here reported ≡ value a maps here = reported_same a
        (or-left (calls is_position_function a) (call_any is_position_function xs) h) in
        let rest : values_seen_from xs maps here reported ≡ argument_values xs maps here = all_reported xs
        (or-right (calls is_position_function a) (call_any is_position_function xs) h) in
        ap (λ (v : CellValue). v ∷ values_seen_from xs maps here reported) first
        ∙ ap (λ (vs : List CellValue). value a maps here ∷ vs) rest

pub expression_without_position_ignores_position : ExpressionWithoutPositionIgnoresPosition
expression_without_position_ignores_position f h maps here reported = reported_same maps here reported f h
