-- Properties of the single steps of an expression.
use Rattle.std.specs.Prelude.{◌≡◌, ◌≤◌, ◌<◌, ◌+◌, ◌^◌, ◌==◌, ℕ, List, [], ◌∷◌, length, map, max, All, if◌then◌else◌}
use Rattle.cell_calc_grammar.specs.declared.step.Step.{Step}
use Rattle.cell_calc_grammar.specs.declared.step.Step.TheVariants.{Number, Map, Negated, Not, Binary, Call}
use Rattle.cell_calc_grammar.specs.Postfix.{postfix, tree_of_steps, step_with_leaf_replaced, fold_maps_of_steps}
use Rattle.cell_calc_language.specs.Grammatical.{cell_count_up_or_left, cell_count_down_or_right}
use Rattle.cell_calc_language.specs.Compact.{ReadsMap, FormulaReadsMapsAtPlaces, AreDistinctPlaces}
use Rattle.cell_calc_language.specs.Formula.{Formula}
use Rattle.cell_calc_language.specs.Reach.{FormulaIsWithinLimits, map_place_limit_at_offset}

-- the steps belong to an expression that the language allows
pub record AreStepsOfAllowedExpression (steps : List (Step ℕ)) : Type 0 where
  pub postfix : steps ≡ postfix (tree_of_steps steps)
  pub proper : FormulaIsWithinLimits (tree_of_steps steps)

-- the step is a category, or an offset and an index that the language allows
abbrev pub StepIsWithinLimits : Step ℕ → Type 0
StepIsWithinLimits (Number n) = n ≤ 2147483647
StepIsWithinLimits (Map i down right) = (i + 1 < 2 ^ 64) × ((cell_count_up_or_left down ≤ 255)
    × (cell_count_down_or_right down ≤ 255))
StepIsWithinLimits Negated = Unit {0}
StepIsWithinLimits Not = Unit {0}
StepIsWithinLimits (Binary op) = Unit {0}
StepIsWithinLimits (Call f n) = Unit {0}

-- the step reads the map at index i
abbrev pub StepReadsMapAtPlace : ℕ → Step ℕ → Type 0
StepReadsMapAtPlace i (Map j down right) = i ≡ j
StepReadsMapAtPlace i (Number n) = ⊥
StepReadsMapAtPlace i Negated = ⊥
StepReadsMapAtPlace i Not = ⊥
StepReadsMapAtPlace i (Binary op) = ⊥
StepReadsMapAtPlace i (Call f n) = ⊥

-- the position of an index in a list, or the length of the list if it is not in the list
abbrev pub position_among_places : List ℕ → ℕ → ℕ
position_among_places [] i = 0
position_among_places (p ∷ places) i = if p == i then 0 else position_among_places places i + 1

-- the index that a step reads is in the list
abbrev pub StepReadsListedPlace : List ℕ → Step ℕ → Type 0
StepReadsListedPlace places (Map i down right) = position_among_places places i < length places
StepReadsListedPlace places (Number n) = Unit {0}
StepReadsListedPlace places Negated = Unit {0}
StepReadsListedPlace places Not = Unit {0}
StepReadsListedPlace places (Binary op) = Unit {0}
StepReadsListedPlace places (Call f n) = Unit {0}

-- listed indices keep their positions, and no index is added twice
pub record ExtendsListWithoutDuplicates (old new : List ℕ) : Type 0 where
  pub kept : (i : ℕ) → position_among_places old i < length old
      → position_among_places new i ≡ position_among_places old i
  pub distinct : AreDistinctPlaces old → AreDistinctPlaces new

-- `others` are the steps `all`, renumbered over a list of only the indices that they read
pub record AreStepsRenumberedToReadMaps (all others : List (Step ℕ)) (places : List ℕ) : Type 0 where
  pub steps : others ≡ map (step_with_leaf_replaced (position_among_places places)) all
  pub listed : All (StepReadsListedPlace places) all
  pub count : length places ≡ fold_maps_of_steps map_place_limit_at_offset 0 max others
  pub distinct : AreDistinctPlaces places
  pub read : (f : Formula) → All (λ s. (i : ℕ) → StepReadsMapAtPlace i s → ReadsMap i f) all
      → FormulaReadsMapsAtPlaces places f
