-- Cells whose new category is cached.
use Rattle.std.specs.Prelude.{◌≡◌, List, All}
use Rattle.cell_cats.specs.Rule.{RuleValue, new_category}
use Rattle.cell_cats.specs.declared.known.Known.{Known}
use Rattle.cell_cats.specs.declared.pieces.RuleOutputIntervals.{RuleOutputIntervals}
use Rattle.cell_cats.specs.parts.Pieces.{IntervalsAgreeWithRules}

-- each cached cell is stored with its new category
abbrev pub AreCachedCategoriesRight : List RuleValue → List Known → Type 0
AreCachedCategoriesRight rules known = All (λ k. k.reclassed ≡ new_category rules k.cell) known

-- the statement holds for all rules that agree with these pieces and these cached categories
abbrev pub HoldsForRulesOfIntervalsAndCache : RuleOutputIntervals → List Known → (List RuleValue → Type 0) → Type 0
HoldsForRulesOfIntervalsAndCache pieces known Holds = (rules : List RuleValue) → IntervalsAgreeWithRules rules pieces
    → AreCachedCategoriesRight rules known → Holds rules
