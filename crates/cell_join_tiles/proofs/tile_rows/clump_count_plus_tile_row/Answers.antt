use Rattle.std.proofs.Common.{◌≡◌, ◌+◌, ◌<◌, ◌≤◌, [], ℕ, List, length, get_or, ap, sym, ◌∙◌, arith}
use Rattle.std.specs.Prelude.{sum}
use Rattle.cell_join_tiles.specs.declared.border.TileBorder.{TileBorder}
use Rattle.cell_join_tiles.specs.Beginnings.{clump_count_of_tile_row}
use Rattle.cell_join_tiles.specs.Values.{values_of_tile_borders}
use Rattle.cell_join_tiles.specs.parts.RowMarks.{begun_clump_counts_of_tile_row}
use Rattle.cell_join_tiles.proofs.RowLabelLemmas.{clumps-first, clumps-more}
use Rattle.cell_join_tiles.proofs.RowStepLemmas.{begun-at, begun-long}
use Rattle.cell_join_tiles.proofs.RunLemmas.{if-none}
use Rattle.cell_join_tiles.proofs.tile_rows.clump_count_plus_tile_row.Goals as goal

pub returns-in_err-all-clause-none : goal.returns-in_err-all-clause-none
returns-in_err-all-clause-none c =
    let row = c.args.row.now in
    let tiles = begun_clump_counts_of_tile_row (values_of_tile_borders row) in
    let col = c.loop-col.col in
    let tile = c.index-row-col.result in
    let inside : col < length row = c.loop-col-test.true in
    let begun : get_or tiles col [] ≡ tile.begun.items = begun-at row col tile inside ∙ ap (λ (b : TileBorder). b.begun.items) (sym c.index-row-col.is) in
    let value : sum c.as_slice.result.now ≡ sum (get_or tiles col []) = ap (λ (l : List ℕ). sum l) (c.as_slice.ensures.value ∙ sym (begun-at row col tile inside)) in
    let more = clumps-more tiles col (omega (arith, inside, begun-long row)) in
    if-none c.from_residual.result (18446744073709551616 ≤ c.args.clumps + clump_count_of_tile_row tiles)
    (omega (arith, c.in_err-all.ensures.none, c.loop-col.invariant, value, more, clumps-first tiles (col + 1)))

pub loop-col-preserved : goal.loop-col-preserved
loop-col-preserved c =
    let row = c.args.row.now in
    let tiles = begun_clump_counts_of_tile_row (values_of_tile_borders row) in
    let col = c.loop-col.col in
    let tile = c.index-row-col.result in
    let inside : col < length row = c.loop-col-test.true in
    let begun : get_or tiles col [] ≡ tile.begun.items = begun-at row col tile inside ∙ ap (λ (b : TileBorder). b.begun.items) (sym c.index-row-col.is) in
    let value : sum c.as_slice.result.now ≡ sum (get_or tiles col []) = ap (λ (l : List ℕ). sum l) (c.as_slice.ensures.value ∙ sym (begun-at row col tile inside)) in
    let more = clumps-more tiles col (omega (arith, inside, begun-long row)) in
    omega (arith, c.in_ok-all.ensures.some, c.loop-col.invariant, value, more)
