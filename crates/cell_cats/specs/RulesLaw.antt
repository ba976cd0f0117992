-- The rule that keeps every category, and worked examples of rule lines.
use Rattle.std.specs.Prelude.{pos, ◌≡◌, List, [], ◌∷◌, Some, None, Ok, Err, codes}
use Rattle.cell_core.specs.Grid.{CellValue}
use Rattle.cell_cats.specs.Rule.{RuleValue}
use Rattle.cell_cats.specs.Reclass.{reclassed_rows}
use Rattle.cell_cats.specs.RuleReading.{rule_of_line, line_kind_and_rules_after_line}
use Rattle.cell_cats.specs.declared.rule.Output.TheVariants.{To}
use Rattle.cell_cats.specs.declared.rules.LineKind.TheVariants.{Rule, Skipped, End}
use Rattle.cell_cats.specs.declared.rules.RuleFault.TheVariants.{BadRule, BadNumber}

-- the single rule `* = *` keeps the rows of every map
abbrev pub StarRuleKeepsRows : Type 0
StarRuleKeepsRows = (rules : List RuleValue) → line_kind_and_rules_after_line [] (codes "* = *") ≡ Ok (Rule, rules) → (rows : List (List CellValue)) → reclassed_rows rules rows ≡ rows

-- worked examples of rule lines
pub record RuleLineExamples : Type 0 where
  pub low : rule_of_line (codes "1 thru 3 = 7 low") ≡ Ok (record { listed = Some ((pos 1, pos 3) ∷ []); output = To (Some (pos 7)); label = codes "low" })
  pub turned : rule_of_line (codes "5 thru 1 = 2") ≡ Ok (record { listed = Some ((pos 5, pos 1) ∷ []); output = To (Some (pos 2)); label = [] })
  pub commas : rule_of_line (codes "*,=5") ≡ Ok (record { listed = None; output = To (Some (pos 5)); label = [] })
  pub half : rule_of_line (codes "1 thru = 3") ≡ Err BadRule
  pub word : rule_of_line (codes "x = 3") ≡ Err BadNumber
  pub starred : rule_of_line (codes "3 = *") ≡ Err BadRule
  pub shape_first : rule_of_line (codes "x = thru") ≡ Err BadRule
  pub no_output : rule_of_line (codes "1 thru x =") ≡ Err BadRule
  pub large : rule_of_line (codes "1 = 99999999999") ≡ Err BadNumber
  pub comment : line_kind_and_rules_after_line [] (codes "  # x") ≡ Ok (Skipped, [])
  pub ended : line_kind_and_rules_after_line [] (codes " end ") ≡ Ok (End, [])
  pub not_ended : line_kind_and_rules_after_line [] (codes "end,") ≡ Err BadRule
