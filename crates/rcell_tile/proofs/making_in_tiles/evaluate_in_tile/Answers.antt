use Rattle.std.proofs.Common.{arith, sym, subst}
use Rattle.cell_calc_language.specs.Formula.{Formula}
use Rattle.rcell.specs.Making.{IsMapOfExpressionValues}
use Rattle.rcell_tile.specs.TileMaps.{full_region}
use Rattle.rcell_tile.proofs.making_in_tiles.evaluate_in_tile.Goals as goal

pub expression_rewritten_for_tile-requires : goal.expression_rewritten_for_tile-requires
expression_rewritten_for_tile-requires c =
    let valid = c.full_rows.ensures.valid in
    let rows = c.full_rows.ensures.value in
    let cols = c.full_cols.ensures.value in
    let top = c.outer_top.ensures.value in
    let left = c.outer_left.ensures.value in
    let outer = valid.outer in
    record {
      rows_most = omega (arith, rows, valid.rows_most);
      cols_most = omega (arith, cols, valid.cols_most);
      top_most = omega (arith, top, outer.bottom, valid.rows_most);
      left_most = omega (arith, left, outer.right, valid.cols_most);
    }

pub returns : goal.returns
returns c =
    let p = c.args.place.now in
    let is = c.in_ok-rewritten.ensures.value (full_region p c.args.shelf.now.region) p.outer
    (record {
      rows_are = sym c.full_rows.ensures.value;
      cols_are = sym c.full_cols.ensures.value;
      top_is =
          sym c.outer_top.ensures.value;
      left_is = sym c.outer_left.ensures.value;
    }) in
    subst (λ (f : Formula). IsMapOfExpressionValues f c.args.shelf.now c.in_ok-made.made) is c.in_ok-made.ensures
