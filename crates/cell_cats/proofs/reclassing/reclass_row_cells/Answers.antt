use Rattle.std.proofs.Common.{set, ap, ◌∙◌, arith}
use Rattle.std.proofs.lemmas.List.Edits.{map_over_more}
use Rattle.cell_cats.specs.Rule.{new_category}
use Rattle.cell_cats.proofs.reclassing.reclass_row_cells.Goals as goal

pub loop-i-preserved : goal.loop-i-preserved
loop-i-preserved c =
    let is = c.loop-i.invariant in
    let row = c.loop-i.row in
    let i = c.loop-i.i in
    let cell = c.index-row-i.result in
    record {
      row = λ rules of known.
          ap (set row i) (c.cached_new_category.ensures.value rules of (is.right rules of known))
          ∙ map_over_more (new_category rules) c.args.row.now row i cell c.loop-i-test.true
          (is.row rules of known) c.index-row-i.is;
      some = omega (arith, c.cached_new_category.auto.known, is.some);
      right = λ rules of known. c.cached_new_category.ensures.right rules of (is.right rules of known);
    }
