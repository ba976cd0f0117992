use Rattle.std.proofs.Common.{◌≡◌, ◌∙◌, ◌+◌, ◌-◌, ◌<◌, arith, sym, ap, subst}
use Rattle.cell_core.specs.Grid.{Grid, row_at}
use Rattle.cell_core_values.specs.Region.{RegionValue}
use Rattle.cell_patches.specs.declared.tile_position.TilePosition.{TilePosition}
use Rattle.cell_patches.specs.parts.Passes.{AreRowsAroundRow, AreMeasuresOfPatchesUpToCell, tile_rows_before}
use Rattle.cell_patches.proofs.read_rows.add_row_of_map_to_patches.Goals as goal

pub add_row_of_runs_to_patches-requires : goal.add_row_of_runs_to_patches-requires
add_row_of_runs_to_patches-requires g c =
    let row = c.args.row - c.args.position.top in
    let numbers = c.requires.0 in
    let position = c.requires.1.0 in
    let around = c.requires.1.1.1.0 in
    let wide = c.requires.1.1.1.1.0 in
    let read = c.requires.1.1.1.1.1 in
    let top = ap (λ (p : TilePosition). p.top) position in
    let rows = ap (λ (m : Grid). m.region.rows) numbers in
    let cols = ap (λ (m : Grid). m.region.cols) numbers in
    let region = ap (λ (r : RegionValue). r.rows) c.region.ensures.value in
    let tile_rows = c.rows.ensures.value in
    let start = c.if-row-position.false in
    let end = c.if-rows-tile_row.false in
    let width = c.stretches.ensures.width in
    let at : c.args.row ≡ g.tile.position.top + row = omega arith in
    let lt : row < g.tile.numbers.region.rows = omega arith in
    let before : tile_rows_before g.tile.numbers g.tile.position.top c.args.row ≡ row = omega arith in (
      record {
        valid = c.requires.1.1.0;
        same = sym position;
        row = lt;
        at = subst (λ x. AreRowsAroundRow g.tile.map x c.args.lines.now) at around;
        wide = wide;
      },
      (
        c.stretches.ensures.written ∙ sym (ap (λ (m : Grid). row_at m row) numbers),
        (
          width ∙ sym cols,
          (
            c.stretches.ensures.some,
            subst (λ x. AreMeasuresOfPatchesUpToCell g.tile x 0 c.args.patches.now.items) before read,
          ),
        ),
      ),
    )
