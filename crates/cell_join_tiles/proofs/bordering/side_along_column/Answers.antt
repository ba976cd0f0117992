use Rattle.std.proofs.Common.{◌<◌, ap, sym, ◌∙◌, subst}
use Rattle.cell_core_values.specs.Region.{RegionValue}
use Rattle.cell_join_tiles.proofs.bordering.side_along_column.Goals as goal

pub returns-clause-side : goal.returns-clause-side
returns-clause-side c =
    let rows = ap (λ (r : RegionValue). r.rows) c.requires.region in
    record {
      long = c.in_ok-cells_of_map_column.ensures.long;
      each_cell = c.in_ok-cells_of_map_column.ensures.each;
      each_number = λ k lt. c.in_ok-cells_of_map_column-2.ensures.each k (rw rows lt);
    }

pub returns-clause-numbers : goal.returns-clause-numbers
returns-clause-numbers c =
    c.in_ok-cells_of_map_column-2.ensures.long ∙ ap (λ (r : RegionValue). r.rows) c.requires.region
