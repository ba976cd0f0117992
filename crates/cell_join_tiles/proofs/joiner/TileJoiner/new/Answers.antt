use Rattle.std.proofs.Common.{ap}
use Rattle.cell_join_tiles.specs.parts.Spans.{labels_of_tile_ranges}
use Rattle.cell_join_tiles.proofs.RowsLemmas.{joined-nothing}
use Rattle.cell_join_tiles.proofs.joiner.TileJoiner.new.Goals as goal

pub returns-clause-none : goal.returns-clause-none
returns-clause-none c =
    joined-nothing c.args.joining c.new.result.items c.new-2.result.items (labels_of_tile_ranges c.new-3.result.items) c.new.ensures.items c.new-2.ensures.items (ap labels_of_tile_ranges c.new-3.ensures.items)
