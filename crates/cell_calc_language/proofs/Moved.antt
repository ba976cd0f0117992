-- Expressions whose leaves are replaced by other places.
use Rattle.std.proofs.Common.{◌≡◌, ◌<◌, ◌≤◌, ◌+◌, ℕ, pos, ◌+ℤ◌, List, [], ◌∷◌, ◌++◌, length, take, drop, get_or, map, refl, sym, ap, ◌∙◌, arith}
use Rattle.std.specs.Prelude.{All}
use Rattle.std.proofs.Math.Seq.{take-append_seam, drop-append_seam}
use Rattle.std.proofs.lemmas.List.{map_more}
use Rattle.std.proofs.lemmas.List.Elements.{All-take, All-drop, All-same, All-head, All-more, All-weaker}
use Rattle.cell_core.specs.Grid.{Grid}
use Rattle.cell_calc_grammar.specs.declared.step.Step.{Step}
use Rattle.cell_calc_grammar.specs.declared.step.Step.TheVariants as step
use Rattle.cell_calc_language.specs.Compact.{AreMapsAtPlaces}
use Rattle.cell_calc_language.specs.Formula.{Formula, Number, Map, Negated, Not, Binary, Call, ArgumentFormulas, NoTrees, Then, argument_count}
use Rattle.cell_calc_language.specs.Applied.{PositionAndGridSize, operator_value, call_result, negated_cell}
use Rattle.cell_calc_language.specs.Applied.{logical_negation_of_cell}
use Rattle.cell_calc_language.specs.Offsets.{cell_of_optional_map}
use Rattle.cell_calc_language.specs.Value.{value, argument_values}
use Rattle.cell_calc_grammar.specs.Postfix.{postfix, postfix_all, step_with_leaf_replaced}
use Rattle.cell_calc_grammar.specs.Tree.{with_leaves, with_leaves_all}
use Rattle.cell_calc_language.specs.parts.TreeSteps.{position_among_places, StepReadsListedPlace}
use Rattle.cell_calc_language.proofs.Index.{index_there}

-- a property of the steps of a list holds of the steps of each of its two parts
front : (P : Step ℕ → Type 0) (xs ys : List (Step ℕ)) → All P (xs ++ ys) → All P xs
front P xs ys all = All-same P xs (take (length xs) (xs ++ ys)) (sym (take-append_seam xs ys)) (All-take P (length xs) (xs ++ ys) all)

back : (P : Step ℕ → Type 0) (xs ys : List (Step ℕ)) → All P (xs ++ ys) → All P ys
back P xs ys all = All-same P ys (drop (length xs) (xs ++ ys)) (sym (drop-append_seam xs ys)) (All-drop P (length xs) (xs ++ ys) all)

mutual
  -- an expression over the listed places has the same values over the maps that they select
  pub value-moved : (places : List ℕ) (maps picked : List Grid) → AreMapsAtPlaces places maps picked → (s : PositionAndGridSize) (f : Formula)
      → All (StepReadsListedPlace places) (postfix f) → value (with_leaves (position_among_places places) f) picked s
      ≡ value f maps s
  value-moved places maps picked are s (Number n) all = refl
  value-moved places maps picked are s (Map i down right) all =
      ap (λ m. cell_of_optional_map m (pos s.row +ℤ down) (pos s.col +ℤ right))
      (are (position_among_places places i) i (index_there places i (All-head (StepReadsListedPlace places)
      (step.Map i down right) [] all)))
  value-moved places maps picked are s (Negated a) all =
      ap (λ v. negated_cell v) (value-moved places maps picked are s a (front (StepReadsListedPlace places) (postfix a) (step.Negated ∷ []) all))
  value-moved places maps picked are s (Not a) all =
      ap (λ v. logical_negation_of_cell v) (value-moved places maps picked are s a (front (StepReadsListedPlace places) (postfix a) (step.Not ∷ []) all))
  value-moved places maps picked are s (Binary op a b) all =
      let first = value-moved places maps picked are s a (front (StepReadsListedPlace places) (postfix a) (postfix b ++ step.Binary op ∷ []) all) in
      let second =
      value-moved places maps picked are s b
      (front (StepReadsListedPlace places) (postfix b) (step.Binary op ∷ []) (back (StepReadsListedPlace places) (postfix a) (postfix b ++ step.Binary op ∷ []) all)) in
      ap (λ v. operator_value op v (value (with_leaves (position_among_places places) b) picked s)) first ∙ ap (λ v. operator_value op (value a maps s) v) second
  value-moved places maps picked are s (Call f xs) all =
      ap (λ vs. call_result f s vs) (values-moved places maps picked are s xs (front (StepReadsListedPlace places) (postfix_all xs) (step.Call f (argument_count xs) ∷ []) all))

  values-moved : (places : List ℕ) (maps picked : List Grid) → AreMapsAtPlaces places maps picked
      → (s : PositionAndGridSize) (xs : ArgumentFormulas)
      → All (StepReadsListedPlace places) (postfix_all xs) → argument_values (with_leaves_all (position_among_places places) xs) picked s ≡ argument_values xs maps s
  values-moved places maps picked are s NoTrees all = refl
  values-moved places maps picked are s (Then a xs) all =
      let first = value-moved places maps picked are s a (front (StepReadsListedPlace places) (postfix a)
      (postfix_all xs) all) in
      let others = values-moved places maps picked are s xs (back (StepReadsListedPlace places) (postfix a)
      (postfix_all xs) all) in
      ap (λ v. v ∷ argument_values (with_leaves_all (position_among_places places) xs) picked s) first ∙ ap (λ vs. value a maps s ∷ vs) others

-- steps over listed places are unchanged when more places are appended
pub same-moved : (places more : List ℕ) → ((i : ℕ) → position_among_places places i < length places → position_among_places more i ≡ position_among_places places i)
    → (steps : List (Step ℕ)) → All (StepReadsListedPlace places) steps → map (step_with_leaf_replaced (position_among_places more)) steps ≡ map (step_with_leaf_replaced (position_among_places places)) steps
same-moved places more kept [] all = refl
same-moved places more kept (s ∷ steps) all =
    let others = same-moved places more kept steps (back (StepReadsListedPlace places) (s ∷ []) steps all) in
    ap (λ l. step_with_leaf_replaced (position_among_places more) s ∷ l) others ∙ ap (λ t. t ∷ map (step_with_leaf_replaced (position_among_places places)) steps) (one s (All-head (StepReadsListedPlace places) s steps all))
  where
    one : (s : Step ℕ) → StepReadsListedPlace places s → step_with_leaf_replaced (position_among_places more) s
        ≡ step_with_leaf_replaced (position_among_places places) s
    one (step.Map i down right) h = ap (λ k. step.Map k down right) (kept i h)
    one _ h = refl

-- one more step extends the steps over listed places
pub moved_more : (places more : List ℕ) (steps : List (Step ℕ)) (i : ℕ) (d : Step ℕ) (others : List (Step ℕ)) (other : Step ℕ) → i < length steps
    → ((i : ℕ) → position_among_places places i < length places → position_among_places more i ≡ position_among_places places i) → All (StepReadsListedPlace places) (take i steps)
    → others ≡ map (step_with_leaf_replaced (position_among_places places)) (take i steps)
    → other ≡ step_with_leaf_replaced (position_among_places more) (get_or steps i d)
    → others ++ other ∷ [] ≡ map (step_with_leaf_replaced (position_among_places more)) (take (i + 1) steps)
moved_more places more steps i d others other lt kept listed is here =
    ap (λ l. l ++ other ∷ []) (is ∙ sym (same-moved places more kept (take i steps) listed))
    ∙ ap (λ s. map (step_with_leaf_replaced (position_among_places more)) (take i steps) ++ s ∷ []) here
    ∙ sym (map_more (step_with_leaf_replaced (position_among_places more)) steps i d lt)

-- a step over a listed place is still over a listed place when others are appended
pub still_listed : (places more : List ℕ) → ((i : ℕ) → position_among_places places i < length places → position_among_places more i ≡ position_among_places places i)
    → length places ≤ length more → (s : Step ℕ) → StepReadsListedPlace places s → StepReadsListedPlace more s
still_listed places more kept longer (step.Map i down right) h = rw (kept i h) (omega (arith, longer, h))
still_listed places more kept longer _ h = tt

pub listed_more : (places more : List ℕ) (steps : List (Step ℕ)) (i : ℕ) (d : Step ℕ) → i < length steps
    → ((i : ℕ) → position_among_places places i < length places
    → position_among_places more i ≡ position_among_places places i) → length places ≤ length more
    → All (StepReadsListedPlace places) (take i steps) → StepReadsListedPlace more (get_or steps i d)
    → All (StepReadsListedPlace more) (take (i + 1) steps)
listed_more places more steps i d lt kept longer listed here =
    All-more (StepReadsListedPlace more) steps i d lt
    (All-weaker (StepReadsListedPlace places) (StepReadsListedPlace more) (λ s h. still_listed places more kept longer s h) (take i steps) listed) here
