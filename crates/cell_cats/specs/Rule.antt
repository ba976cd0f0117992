-- Rules of r.reclass, the new category of a cell, and the label of a category (r.reclass manual; allowing `*` before
-- other rules is our own choice).
use Rattle.std.specs.Prelude.{ℕ, ℤ, int_le, Bool, true, false, ◌&&◌, ◌||◌, ◌==◌, List, [], ◌∷◌, length, Option, Some, None, if◌then◌else◌}
use Rattle.std.specs.List.{list_any}
use Rattle.std.specs.Option.{option_map, option_or}
use Rattle.std.specs.Ordering.{int_eq}
use Rattle.cell_core.specs.Grid.{CellValue}
use Rattle.cell_cats.specs.declared.rule.Output.{Output}
use Rattle.cell_cats.specs.declared.rule.Output.TheVariants.{Same, To}

-- a rule: the ends of the ranges that it lists, or none for `*`; its output; and its label, empty if it has none
pub record RuleValue : Type 0 where
  pub listed : Option (List (ℤ × ℤ))
  pub output : Output
  pub label : List ℕ

-- the category is between the two ends, which may be in either order
abbrev pub is_between_ends : ℤ × ℤ → ℤ → Bool
is_between_ends ends x = (int_le ends.0 x && int_le x ends.1) || (int_le ends.1 x && int_le x ends.0)

-- some range in the list contains the category
abbrev pub ranges_contain_category : Option (List (ℤ × ℤ)) → ℤ → Bool
ranges_contain_category None x = false
ranges_contain_category (Some ranges) x = list_any (λ ends. is_between_ends ends x) ranges

-- the rule lists the category
abbrev pub lists : ℤ → RuleValue → Bool
lists x rule = ranges_contain_category rule.listed x

-- the rule is a rule for `*`
abbrev pub is_star_rule : RuleValue → Bool
is_star_rule rule = no_list rule.listed
  where
    no_list : Option (List (ℤ × ℤ)) → Bool
    no_list None = true
    no_list (Some ranges) = false

-- the last element that passes a test
abbrev pub last_element_that_passes : {A : Type 0} → (A → Bool) → List A → Option A
last_element_that_passes p [] = None
last_element_that_passes p (x ∷ xs) = option_or (last_element_that_passes p xs) (if p x then Some x else None)

-- the output of the last rule that passes a test
abbrev pub output_of_last_passing_rule : (RuleValue → Bool) → List RuleValue → Option Output
output_of_last_passing_rule p rules = option_map (λ rule. rule.output) (last_element_that_passes p rules)

-- the output of the last rule that lists the category or, if no rule lists it, of the last rule for `*`
abbrev pub output_for_category : List RuleValue → ℤ → Option Output
output_for_category rules x = option_or (output_of_last_passing_rule (lists x) rules)
    (output_of_last_passing_rule is_star_rule rules)

-- the new cell of a category under this output; null if there is no output
abbrev pub new_cell_of_output : ℤ → Option Output → CellValue
new_cell_of_output x None = None
new_cell_of_output x (Some Same) = Some x
new_cell_of_output x (Some (To cell)) = cell

-- the new category of a cell
abbrev pub new_category : List RuleValue → CellValue → CellValue
new_category rules None = None
new_category rules (Some x) = new_cell_of_output x (output_for_category rules x)

-- the category that the output always produces, if there is one
abbrev pub fixed_category_of_output : Output → Option ℤ
fixed_category_of_output Same = None
fixed_category_of_output (To cell) = cell

-- the category that a rule labels: its output, if the rule has a label and its output is a category
abbrev pub labelled_category : RuleValue → Option ℤ
labelled_category rule = if length rule.label == 0 then None else fixed_category_of_output rule.output

-- the optional category is k
abbrev pub optional_category_equals : ℤ → Option ℤ → Bool
optional_category_equals k None = false
optional_category_equals k (Some c) = int_eq k c

-- the rule labels the category
abbrev pub labels : ℤ → RuleValue → Bool
labels k rule = optional_category_equals k (labelled_category rule)

-- the label of a category, from the last rule that labels it
abbrev pub label_of_category : List RuleValue → ℤ → Option (List ℕ)
label_of_category rules k = option_map (λ rule. rule.label) (last_element_that_passes (labels k) rules)
