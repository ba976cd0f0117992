use Rattle.std.proofs.Common.{◌≡◌, ◌<◌, ◌≤◌, ◌+◌, ◌++◌, [], ◌∷◌, List, All, length}
use Rattle.cell_core.specs.Runs.{AdjacentRunsDiffer, cells_of_runs}
use Rattle.cell_cats.specs.Rule.{RuleValue}
use Rattle.cell_cats.specs.Reclass.{reclassed_row}
use Rattle.cell_cats.specs.parts.KnownCategories.{AreCachedCategoriesRight}
use Rattle.cell_cats.specs.parts.Pieces.{IntervalsAgreeWithRules}
use Rattle.cell_cats.proofs.reclassing.write_reclassed_runs.Given as goal

abbrev pub invariant-loop-cell : goal.invariant-loop-cell
invariant-loop-cell l = record {
  whole : (rules : List RuleValue) → IntervalsAgreeWithRules rules l.pieces → AreCachedCategoriesRight rules l.fn.known
      → cells_of_runs (l.made.items ++ l.run ∷ []) ++ reclassed_row rules (cells_of_runs l.cell-iterator)
      ≡ reclassed_row rules (cells_of_runs l.fn.given);
  lengths : All (λ run. 0 < run.1) l.made.items;
  longer : 0 < l.run.1;
  apart : AdjacentRunsDiffer (l.made.items ++ l.run ∷ []);
  more : All (λ run. 0 < run.1) l.cell-iterator;
  few : l.run.1 + length (cells_of_runs l.cell-iterator) ≤ length (cells_of_runs l.fn.given);
  some : 0 < length l.known;
  right : (rules : List RuleValue) → IntervalsAgreeWithRules rules l.pieces
      → AreCachedCategoriesRight rules l.fn.known → AreCachedCategoriesRight rules l.known;
}
