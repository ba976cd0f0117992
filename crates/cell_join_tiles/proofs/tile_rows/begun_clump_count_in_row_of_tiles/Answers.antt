use Rattle.std.proofs.Common.{◌≡◌, ◌+◌, ◌<◌, [], ℕ, List, length, get_or, ap, sym, ◌∙◌, arith}
use Rattle.cell_join_tiles.specs.declared.border.TileBorder.{TileBorder}
use Rattle.cell_join_tiles.specs.Values.{values_of_tile_borders}
use Rattle.cell_join_tiles.specs.parts.RowMarks.{begun_clump_counts_of_tile_row}
use Rattle.cell_join_tiles.proofs.RowLabelLemmas.{in-each-first, in-each-more}
use Rattle.cell_join_tiles.proofs.RowStepLemmas.{begun-at, begun-long}
use Rattle.cell_join_tiles.proofs.tile_rows.begun_clump_count_in_row_of_tiles.Goals as goal

pub overflow_add-all : goal.overflow_add-all
overflow_add-all c =
    let row = c.args.tiles.now in
    let tiles = begun_clump_counts_of_tile_row (values_of_tile_borders row) in
    let col = c.loop-col.col in
    let tile = c.index-tiles-col.result in
    let inside : col < length row = c.loop-col-test.true in
    let begun : get_or tiles col [] ≡ tile.begun.items = begun-at row col tile inside ∙ ap (λ (b : TileBorder). b.begun.items) (sym c.index-tiles-col.is) in
    let value : c.begun_clump_count_in_row_of_tile-all.result ≡ get_or (get_or tiles col []) c.args.row 0 = c.begun_clump_count_in_row_of_tile-all.ensures ∙ ap (λ (l : List ℕ). get_or l c.args.row 0) (c.as_slice.ensures.value ∙ sym (begun-at row col tile inside)) in
    let more = in-each-more tiles c.args.row col (omega (arith, inside, begun-long row)) in
    record { fits = omega (arith, c.loop-col.invariant, value, more, in-each-first tiles c.args.row (col + 1), c.requires) }

pub loop-col-preserved : goal.loop-col-preserved
loop-col-preserved c =
    let row = c.args.tiles.now in
    let tiles = begun_clump_counts_of_tile_row (values_of_tile_borders row) in
    let col = c.loop-col.col in
    let tile = c.index-tiles-col.result in
    let inside : col < length row = c.loop-col-test.true in
    let begun : get_or tiles col [] ≡ tile.begun.items = begun-at row col tile inside ∙ ap (λ (b : TileBorder). b.begun.items) (sym c.index-tiles-col.is) in
    let value : c.begun_clump_count_in_row_of_tile-all.result ≡ get_or (get_or tiles col []) c.args.row 0 = c.begun_clump_count_in_row_of_tile-all.ensures ∙ ap (λ (l : List ℕ). get_or l c.args.row 0) (c.as_slice.ensures.value ∙ sym (begun-at row col tile inside)) in
    let more = in-each-more tiles c.args.row col (omega (arith, inside, begun-long row)) in
    omega (arith, c.loop-col.invariant, value, more)
