-- Facts about an expression that follow from its steps.
use Rattle.std.proofs.Common.{◌≡◌, ◌<◌, ◌≤◌, ◌+◌, ◌^◌, ℕ, ℤ, List, [], ◌∷◌, ◌++◌, length, take, get_or, max, sym, ap, ◌∙◌, arith, inl, inr}
use Rattle.std.specs.Prelude.{All}
use Rattle.std.proofs.lemmas.List.{take_more}
use Rattle.std.proofs.lemmas.List.Elements.{All-nil, All-cons, All-append, All-weaker}
use Rattle.cell_calc_grammar.specs.declared.step.Step.{Step}
use Rattle.cell_calc_grammar.specs.declared.step.Step.TheVariants as step
use Rattle.cell_calc_grammar.specs.Postfix.{postfix, postfix_all, value_of_step_map_or_default, fold_maps_of_steps}
use Rattle.cell_calc_grammar.proofs.PostfixLemmas.{IsJoin, fold-append, fold-postfix}
use Rattle.cell_calc_language.specs.Grammatical.{IsGrammatical, AreGrammatical}
use Rattle.cell_calc_language.specs.Compact.{ReadsMap, AreReading}
use Rattle.cell_calc_language.specs.Formula.{Formula, Number, Map, Negated, Not, Binary, Call, ArgumentFormulas, NoTrees, Then, argument_count}
use Rattle.cell_calc_language.specs.Reach.{map_place_limit_at_offset, rows_read_above_at_offset}
use Rattle.cell_calc_language.specs.Reach.{rows_read_below_at_offset, map_place_limit_of_formula}
use Rattle.cell_calc_language.specs.Reach.{map_place_limit_of_formulas, rows_read_above_by_formula}
use Rattle.cell_calc_language.specs.Reach.{rows_read_below_by_formula, FormulaIsWithinLimits}
use Rattle.cell_calc_language.specs.parts.TreeSteps.{StepIsWithinLimits, StepReadsMapAtPlace}

-- the maximum is a join
pub greatest : IsJoin ℕ 0 max
greatest = record { left = λ n. omega arith; right = λ n. omega arith; both = λ k m n. omega arith }

-- one more step updates the maximum
pub greatest_more : (at : ℕ → ℤ → ℤ → ℕ) (xs : List (Step ℕ)) (i : ℕ) (d : Step ℕ) (was next new : ℕ)
    → i < length xs
    → was ≡ fold_maps_of_steps at 0 max (take i xs) → next ≡ value_of_step_map_or_default at 0 (get_or xs i d) → new ≡ max was next → new ≡ fold_maps_of_steps at 0 max (take (i + 1) xs)
greatest_more at xs i d was next new lt before here is =
    let last : max (value_of_step_map_or_default at 0 (get_or xs i d)) 0
    ≡ value_of_step_map_or_default at 0 (get_or xs i d) = omega arith in
    is ∙ ap (λ n. max n next) before ∙ ap (λ n. max (fold_maps_of_steps at 0 max (take i xs)) n) (here ∙ sym last)
    ∙ sym (fold-append at 0 max greatest (take i xs) (get_or xs i d ∷ [])) ∙ ap (λ l. fold_maps_of_steps at 0 max l) (sym (take_more xs i d lt))

pub top-postfix : (f : Formula) → fold_maps_of_steps map_place_limit_at_offset 0 max (postfix f)
    ≡ map_place_limit_of_formula f
top-postfix f = fold-postfix map_place_limit_at_offset 0 max greatest f

pub up-postfix : (i : ℕ) (f : Formula) → fold_maps_of_steps (rows_read_above_at_offset i) 0 max (postfix f)
    ≡ rows_read_above_by_formula i f
up-postfix i f = fold-postfix (rows_read_above_at_offset i) 0 max greatest f

pub down-postfix : (i : ℕ) (f : Formula) → fold_maps_of_steps (rows_read_below_at_offset i) 0 max (postfix f)
    ≡ rows_read_below_by_formula i f
down-postfix i f = fold-postfix (rows_read_below_at_offset i) 0 max greatest f

-- no step exceeds the maximum
pub below_greatest : (at : ℕ → ℤ → ℤ → ℕ) (xs : List (Step ℕ))
    → All (λ s. value_of_step_map_or_default at 0 s ≤ fold_maps_of_steps at 0 max xs) xs
below_greatest at [] = All-nil (λ s. value_of_step_map_or_default at 0 s ≤ fold_maps_of_steps at 0 max [])
below_greatest at (x ∷ xs) =
    All-cons (λ s. value_of_step_map_or_default at 0 s ≤ fold_maps_of_steps at 0 max (x ∷ xs)) x xs (omega arith)
    (All-weaker (λ s. value_of_step_map_or_default at 0 s ≤ fold_maps_of_steps at 0 max xs) (λ s. value_of_step_map_or_default at 0 s ≤ fold_maps_of_steps at 0 max (x ∷ xs)) (λ s h. omega (arith, h)) xs (below_greatest at xs))

-- a property of all steps before the last one and of the last one holds of all steps
with_last : (P : Step ℕ → Type 0) (xs : List (Step ℕ)) (s : Step ℕ) → All P xs → P s
    → All P (xs ++ s ∷ [])
with_last P xs s all last = All-append P xs (s ∷ []) all (All-cons P s [] last (All-nil P))

mutual
  few_steps : (f : Formula) → IsGrammatical f → map_place_limit_of_formula f < 2 ^ 64
      → All StepIsWithinLimits (postfix f)
  few_steps (Number n) h t = All-cons StepIsWithinLimits (step.Number n) [] h (All-nil StepIsWithinLimits)
  few_steps (Map i down right) h t = All-cons StepIsWithinLimits (step.Map i down right) [] (t, (h.0, h.1.0)) (All-nil StepIsWithinLimits)
  few_steps (Negated a) h t = with_last StepIsWithinLimits (postfix a) step.Negated (few_steps a h t) tt
  few_steps (Not a) h t = with_last StepIsWithinLimits (postfix a) step.Not (few_steps a h t) tt
  few_steps (Binary op a b) h t =
      All-append StepIsWithinLimits (postfix a) (postfix b ++ step.Binary op ∷ []) (few_steps a h.0 (omega (arith, t)))
      (with_last StepIsWithinLimits (postfix b) (step.Binary op) (few_steps b h.1 (omega (arith, t))) tt)
  few_steps (Call f xs) h t = with_last StepIsWithinLimits (postfix_all xs) (step.Call f (argument_count xs))
      (few_all xs h.1 t) tt

  few_all : (xs : ArgumentFormulas) → AreGrammatical xs → map_place_limit_of_formulas xs < 2 ^ 64
      → All StepIsWithinLimits (postfix_all xs)
  few_all NoTrees h t = All-nil StepIsWithinLimits
  few_all (Then a xs) h t = All-append StepIsWithinLimits (postfix a) (postfix_all xs) (few_steps a h.0 (omega (arith, t))) (few_all xs h.1 (omega (arith, t)))

pub proper_steps : (f : Formula) → FormulaIsWithinLimits f → All StepIsWithinLimits (postfix f)
proper_steps f h = few_steps f h.0 h.1

-- the property P holds of each place that a step reads
abbrev pub AreReads : (ℕ → Type 0) → Step ℕ → Type 0
AreReads P s = (i : ℕ) → StepReadsMapAtPlace i s → P i

mutual
  pub reads_steps : (P : ℕ → Type 0) (f : Formula) → ((i : ℕ) → ReadsMap i f → P i) → All (AreReads P) (postfix f)
  reads_steps P (Number n) h = All-cons (AreReads P) (step.Number n) [] (λ i no. absurd no) (All-nil (AreReads P))
  reads_steps P (Map j down right) h = All-cons (AreReads P) (step.Map j down right) [] h (All-nil (AreReads P))
  reads_steps P (Negated a) h = with_last (AreReads P) (postfix a) step.Negated (reads_steps P a h) (λ i no. absurd no)
  reads_steps P (Not a) h = with_last (AreReads P) (postfix a) step.Not (reads_steps P a h) (λ i no. absurd no)
  reads_steps P (Binary op a b) h =
      All-append (AreReads P) (postfix a) (postfix b ++ step.Binary op ∷ []) (reads_steps P a (λ i r. h i (inl r)))
      (with_last (AreReads P) (postfix b) (step.Binary op) (reads_steps P b (λ i r. h i (inr r))) (λ i no. absurd no))
  reads_steps P (Call f xs) h = with_last (AreReads P) (postfix_all xs) (step.Call f (argument_count xs)) (reads_all P xs h) (λ i no. absurd no)

  reads_all : (P : ℕ → Type 0) (xs : ArgumentFormulas) → ((i : ℕ) → AreReading i xs → P i)
      → All (AreReads P) (postfix_all xs)
  reads_all P NoTrees h = All-nil (AreReads P)
  reads_all P (Then a xs) h =
      All-append (AreReads P) (postfix a) (postfix_all xs) (reads_steps P a (λ i r. h i (inl r))) (reads_all P xs (λ i r. h i (inr r)))
