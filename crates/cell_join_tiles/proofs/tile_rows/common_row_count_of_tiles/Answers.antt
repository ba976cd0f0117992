use Rattle.std.proofs.Common.{◌≡◌, ◌<◌, length, ap, sym, ◌∙◌, arith, ⊎_elim}
use Rattle.std.proofs.lemmas.Bool.{cases_lt}
use Rattle.std.specs.Vec.{vec_len}
use Rattle.cell_join_tiles.specs.declared.border.TileBorder.{TileBorder}
use Rattle.cell_join_tiles.specs.Values.{TileBorderValue, value_of_tile_border, values_of_tile_borders}
use Rattle.cell_join_tiles.specs.parts.RowMarks.{border_of_tile_in_row}
use Rattle.cell_join_tiles.proofs.RowStepLemmas.{value-at, values-long}
use Rattle.cell_join_tiles.proofs.tile_rows.common_row_count_of_tiles.Goals as goal

pub returns-then-len-rows-clause-none : goal.returns-then-len-rows-clause-none
returns-then-len-rows-clause-none c = λ rows even.
    let row = c.args.row.now in
    let col = c.loop-col.col in
    let inside : col < length row = c.loop-col-test.true in
    let here : border_of_tile_in_row (values_of_tile_borders row) col ≡ value_of_tile_border c.index-row-col.result = value-at row col c.index-row-col.result inside ∙ ap value_of_tile_border (sym c.index-row-col.is) in
    let first : border_of_tile_in_row (values_of_tile_borders row) 0 ≡ value_of_tile_border c.index-row-0.result = value-at row 0 c.index-row-0.result (omega (arith, inside)) ∙ ap value_of_tile_border (sym c.index-row-0.is) in
    let one = even col (omega (arith, inside, values-long row)) in
    let other = even 0 (omega (arith, inside, values-long row)) in
    let long = ap (λ (b : TileBorderValue). length b.begun) here in
    let high = ap (λ (b : TileBorderValue). length b.begun) first in
    let len = ap (λ (b : TileBorder). vec_len b.begun) c.index-row-col.is in
    let len_first = ap (λ (b : TileBorder). vec_len b.begun) c.index-row-0.is in
    absurd (omega (arith, one, other, long, high, len, len_first, c.len.ensures, c.len-rows.ensures, c.if-len-rows.true))

pub loop-col-preserved : goal.loop-col-preserved
loop-col-preserved c = λ k lt.
    let row = c.args.row.now in
    let col = c.loop-col.col in
    ⊎_elim
    (λ below. c.loop-col.invariant k below)
    (λ ge.
    let e : k ≡ col = omega (arith, ge, lt) in
    let here : border_of_tile_in_row (values_of_tile_borders row) col ≡ value_of_tile_border c.index-row-col.result = value-at row col c.index-row-col.result c.loop-col-test.true ∙ ap value_of_tile_border (sym c.index-row-col.is) in
    let long = ap (λ (b : TileBorderValue). length b.begun) (ap (border_of_tile_in_row (values_of_tile_borders row)) e
    ∙ here) in
    let len = ap (λ (b : TileBorder). vec_len b.begun) c.index-row-col.is in
    omega (arith, long, len, c.len.ensures, c.if-len-rows.false))
    (cases_lt k col)
