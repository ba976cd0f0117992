use Rattle.std.proofs.Common.{◌≡◌, ◌∙◌, ◌+◌, ◌-◌, ◌<◌, arith, sym, ap, subst, inl}
use Rattle.cell_core.specs.Grid.{Grid, cell_at}
use Rattle.cell_core_values.specs.Region.{RegionValue}
use Rattle.cell_patches.specs.declared.tile_position.TilePosition.{TilePosition}
use Rattle.cell_patches.specs.parts.Passes.{AreCoresOfPatchesUpToCell, AreDiamondStepsOfRow, tile_rows_before}
use Rattle.cell_patches.proofs.ResultLemmas.{on_ok}
use Rattle.cell_patches.proofs.CoreLemmas.{read_despite_cores}
use Rattle.cell_patches.proofs.core_counts.add_row_of_map_to_cores.Goals as goal

pub add_row_of_cells_to_cores-requires : goal.add_row_of_cells_to_cores-requires
add_row_of_cells_to_cores-requires g c =
    let numbers = c.requires.0 in
    let position = c.requires.1.0 in
    let valid = c.requires.1.1.0 in
    let row_lt = c.requires.1.1.1.0 in
    let here = c.requires.1.1.1.1.0 in
    let steps = c.requires.1.1.1.1.1.0 in
    let read = c.requires.1.1.1.1.1.1.0 in
    let some = c.requires.1.1.1.1.1.1.1.0 in
    let counted = c.requires.1.1.1.1.1.1.1.1 in
    let top = ap (λ (p : TilePosition). p.top) position in
    let left = ap (λ (p : TilePosition). p.left) position in
    let first = c.saturating_add-first.ensures in
    let rows_most = valid.rows_most in
    let rows = ap (λ (m : Grid). m.region.rows) numbers in
    let region = ap (λ (r : RegionValue). r.rows) c.region.ensures.value in
    let tile_rows = c.rows.ensures.value in
    let start = c.if-row-first.false in
    let end = c.if-rows-tile_row.false in
    let at : c.args.row ≡ g.tile.position.top + (c.args.row - c.saturating_add-first.result) + c.args.depth =
    omega arith in
    let lt : c.args.row - c.saturating_add-first.result < g.tile.numbers.region.rows = omega arith in
    let before : tile_rows_before g.tile.numbers (g.tile.position.top + c.args.depth) c.args.row
    ≡ c.args.row - c.saturating_add-first.result = omega arith in (
      numbers,
      (
        record {
          valid = valid;
          same = sym left;
          row = lt;
          at = λ k. here k ∙ ap (λ x. cell_at g.tile.map x k) at;
          have_steps = subst (λ x. AreDiamondStepsOfRow g.tile.map x c.args.steps.now) at steps;
        },
        (
          λ k n is. read.all (c.args.row - c.saturating_add-first.result) k n (inl (omega arith)) is,
          subst (λ x. AreCoresOfPatchesUpToCell g.tile c.args.depth x 0 c.args.patches.now.items) before counted,
        ),
      ),
    )

pub returns-clause-read : goal.returns-clause-read
returns-clause-read g c =
    on_ok c.add_row_of_cells_to_cores.result _ _
    (λ others. read_despite_cores g.tile _ 0 c.args.patches.now.items c.add_row_of_cells_to_cores.new.patches.items
    others c.requires.1.1.1.1.1.1.0)
    c.add_row_of_cells_to_cores.ensures.others
