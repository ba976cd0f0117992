-- The number line cut into pieces, each with the output of its categories.
use Rattle.std.specs.Prelude.{◌≡◌, ℤ, negsuc, ◌≤ℤ◌, ◌<ℤ◌, List, Option, Some, None, if◌then◌else◌}
use Rattle.std.specs.BTreeMap.{get}
use Rattle.std.specs.Ordering.{int_cmp}
use Rattle.cell_cats.specs.Rule.{RuleValue, is_between_ends, lists, output_for_category}
use Rattle.cell_cats.specs.declared.rule.Output.{Output}
use Rattle.cell_cats.specs.declared.pieces.RuleOutputIntervals.{RuleOutputIntervals}

-- the output at x: the output of the last piece that starts at or before x
pub record IsOutputOfIntervalAtNumber (starts : ℤ → Option (Option Output)) (x : ℤ)
    (output : Option Output) : Type 0 where
  pub start : ℤ
  pub before : start ≤ℤ x
  pub begins : starts start ≡ Some output
  pub last : (q : ℤ) → start <ℤ q → q ≤ℤ x → starts q ≡ None

-- `outputs` is the output of each category, and of each larger whole number
abbrev pub AreIntervalOutputsAtAllNumbers : (ℤ → Option Output) → (ℤ → Option (Option Output)) → Type 0
AreIntervalOutputsAtAllNumbers outputs starts = (x : ℤ) → negsuc 2147483647 ≤ℤ x
    → IsOutputOfIntervalAtNumber starts x (outputs x)

-- the outputs after a new output was assigned to the categories of a range
abbrev pub outputs_after_range_assigned : ℤ × ℤ → Output → (ℤ → Option Output) → ℤ → Option Output
outputs_after_range_assigned ends output outputs x = if is_between_ends ends x then Some output else outputs x

-- the outputs after the output of a rule was assigned to the categories that it lists
abbrev pub outputs_after_rule_assigned : RuleValue → (ℤ → Option Output) → ℤ → Option Output
outputs_after_rule_assigned rule outputs x = if lists x rule then Some rule.output else outputs x

-- the pieces represent these outputs
abbrev pub IntervalsHaveOutputs : (ℤ → Option Output) → RuleOutputIntervals → Type 0
IntervalsHaveOutputs outputs pieces = AreIntervalOutputsAtAllNumbers outputs (get int_cmp pieces.starts)

-- the pieces agree with the rules: each category has the output that the rules assign to it
abbrev pub IntervalsAgreeWithRules : List RuleValue → RuleOutputIntervals → Type 0
IntervalsAgreeWithRules rules pieces = IntervalsHaveOutputs (output_for_category rules) pieces

-- the new pieces represent the outputs of the old ones, changed by `assign_output_to_range`
abbrev pub AreIntervalOutputsChangedBy : ((ℤ → Option Output) → ℤ → Option Output) → RuleOutputIntervals
    → RuleOutputIntervals → Type 0
AreIntervalOutputsChangedBy assign_output_to_range old new = (outputs : ℤ → Option Output)
    → IntervalsHaveOutputs outputs old → IntervalsHaveOutputs (assign_output_to_range outputs) new

-- no piece starts between the two numbers, inclusive, and all other starts are unchanged
pub record IsRangeClearedOfIntervalStarts (from to : ℤ) (old new : ℤ → Option (Option Output)) : Type 0 where
  pub before : (q : ℤ) → q <ℤ from → new q ≡ old q
  pub after : (q : ℤ) → to <ℤ q → new q ≡ old q
  pub cleared : (q : ℤ) → from ≤ℤ q → q ≤ℤ to → new q ≡ None
