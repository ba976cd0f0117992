use Rattle.std.proofs.Common.{◌≡◌, ◌<◌, ◌++◌, List, length, take, drop}
use Rattle.cell_cats.specs.Rule.{RuleValue}
use Rattle.cell_cats.specs.Reclass.{reclassed_row}
use Rattle.cell_cats.specs.parts.KnownCategories.{AreCachedCategoriesRight}
use Rattle.cell_cats.specs.parts.Pieces.{IntervalsAgreeWithRules}
use Rattle.cell_cats.proofs.reclassing.reclass_row_cells.Given as goal

abbrev pub invariant-loop-i : goal.invariant-loop-i
invariant-loop-i l = record {
  row : (rules : List RuleValue) → IntervalsAgreeWithRules rules l.pieces → AreCachedCategoriesRight rules l.fn.known
      → l.row ≡ reclassed_row rules (take l.i l.fn.row) ++ drop l.i l.fn.row;
  some : 0 < length l.known;
  right : (rules : List RuleValue) → IntervalsAgreeWithRules rules l.pieces
      → AreCachedCategoriesRight rules l.fn.known → AreCachedCategoriesRight rules l.known;
}
