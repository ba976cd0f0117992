use Rattle.std.proofs.Common.{◌≡◌, ◌∙◌, ◌+◌, ◌≤◌, ◌^◌, ℕ, Vec, ap, sym, arith}
use Rattle.std.specs.Global.{Global}
use Rattle.cell_join_tiles.specs.Beginnings.{clump_count_of_tile_grid, clump_count_of_tile_row}
use Rattle.cell_join_tiles.specs.JoinedBorders.{begun_clump_counts_of_grid}
use Rattle.cell_join_tiles.specs.Values.{values_of_tile_borders}
use Rattle.cell_join_tiles.specs.declared.border.TileBorder.{TileBorder}
use Rattle.cell_join_tiles.specs.parts.RowMarks.{begun_clump_counts_of_tile_row}
use Rattle.cell_join_tiles.proofs.RunLemmas.{if-none}
use Rattle.rcell_pipe_borders.specs.BorderGrids.{borders_as_values}
use Rattle.rcell_pipe_borders.proofs.PatchLemmas.{patches-first, patches-more, row-patches}
use Rattle.rcell_pipe_borders.proofs.tiles.patch_count_of_tiles.Goals as goal

pub returns-in_err-patches-clause-none : goal.returns-in_err-patches-clause-none
returns-in_err-patches-clause-none c =
    let i = c.loop-row.row-index in
    let more = patches-more c.args.grid.now i c.row-item.result c.loop-row-test.true in
    let value = row-patches c.args.grid.now i c.row-item.result c.as_slice.result.now c.row-item.is
    c.as_slice.ensures.value in
    let first = patches-first c.args.grid.now (i + 1) in
    if-none c.from_residual.result
    (18446744073709551616 ≤ clump_count_of_tile_grid (begun_clump_counts_of_grid (borders_as_values c.args.grid.now)))
    (omega (arith, c.in_err-patches.ensures.none, c.loop-row.invariant, value, more, first))

pub loop-row-preserved : goal.loop-row-preserved
loop-row-preserved c =
    let i = c.loop-row.row-index in
    let more = patches-more c.args.grid.now i c.row-item.result c.loop-row-test.true in
    let value = row-patches c.args.grid.now i c.row-item.result c.as_slice.result.now c.row-item.is
    c.as_slice.ensures.value in
    omega (arith, c.in_ok-patches.ensures.some, c.loop-row.invariant, value, more)
