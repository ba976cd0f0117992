-- A reclassified map (r.reclass manual).
use Rattle.std.specs.Prelude.{ℕ, ℤ, List, map, Option, reverse}
use Rattle.std.specs.List.{filter_map}
use Rattle.std.specs.Option.{option_map}
use Rattle.std.specs.FinMap.{FinMap, from_entries}
use Rattle.std.specs.Ordering.{int_cmp}
use Rattle.cell_core.specs.Grid.{CellValue, Grid}
use Rattle.cell_cats.specs.Rule.{RuleValue, new_category, labelled_category}

-- the row with each cell replaced by its new category
abbrev pub reclassed_row : List RuleValue → List CellValue → List CellValue
reclassed_row rules row = map (new_category rules) row

abbrev pub reclassed_rows : List RuleValue → List (List CellValue) → List (List CellValue)
reclassed_rows rules rows = map (reclassed_row rules) rows

-- the category that a rule labels, together with its label
abbrev pub category_and_label_of_rule : RuleValue → Option (ℤ × List ℕ)
category_and_label_of_rule rule = option_map (λ k. (k, rule.label)) (labelled_category rule)

-- the labels of the rules; if two rules label one category, the later rule applies, because `from_entries` keeps the
-- first entry of the reversed list
abbrev pub labels_of_rules : List RuleValue → FinMap int_cmp (List ℕ)
labels_of_rules rules = from_entries (filter_map category_and_label_of_rule (reverse rules))

-- the reclassified map: the same region, rows with the new categories, and only the labels of the rules
abbrev pub reclassed_map : List RuleValue → Grid → Grid
reclassed_map rules given = record {
  region = given.region;
  rows = reclassed_rows rules given.rows;
  labels = labels_of_rules rules;
}
