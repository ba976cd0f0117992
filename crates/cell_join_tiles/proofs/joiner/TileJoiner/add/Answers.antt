use Rattle.std.proofs.Common.{◌++◌, ◌∷◌, [], ℕ, List, length, map, refl, ap, sym, subst, ◌∙◌}
use Rattle.std.specs.List.{range_with_len}
use Rattle.cell_join_tiles.specs.declared.border.TileBorder.{TileBorder}
use Rattle.cell_join_tiles.specs.JoinedTiles.{JoinerHasJoinedTileRows, TileJoinerValue}
use Rattle.cell_join_tiles.specs.SeamLines.{label_pairs_of_adjacent_lines}
use Rattle.cell_join_tiles.specs.Values.{values_of_tile_borders}
use Rattle.cell_join_tiles.specs.parts.RowLabels.{labels_of_clumps_in_tile}
use Rattle.cell_join_tiles.specs.parts.RowMarks.{AddsLabelPairs, begun_clump_counts_of_tile_row}
use Rattle.cell_join_tiles.specs.parts.RowMarks.{labelled_first_rows_of_tiles}
use Rattle.cell_join_tiles.specs.parts.RowMarks.{labelled_last_rows_of_tiles, label_pairs_within_tile_row}
use Rattle.cell_join_tiles.specs.parts.Spans.{labels_of_tile_ranges}
use Rattle.cell_join_tiles.proofs.RowsLemmas.{joined-more}
use Rattle.cell_join_tiles.proofs.RowStepLemmas.{values-long}
use Rattle.cell_join_tiles.proofs.joiner.TileJoiner.add.Goals as goal

pub returns-clause-joined : goal.returns-clause-joined
returns-clause-joined c = λ grid h.
    let i = c.self.inside in
    let j = i.joining in
    let base = i.clumps in
    let borders = c.as_slice-borders.result.now in
    let row = values_of_tile_borders borders in
    let long = sym (values-long borders) in
    let p = c.in_ok-joined.joined in
    let now = c.in_ok-joined.ensures in
    let old : TileJoinerValue = record { joining = j; clumps = base; pairs = i.pairs.items; above = i.above.items; tiles = labels_of_tile_ranges i.tiles.items } in
    let new : TileJoinerValue = record { joining = j; clumps = c.in-Some-clump_count_plus_tile_row.clumps; pairs = c.add_label_pairs_of_adjacent_lines.new.pairs.items; above = p.last.items; tiles = labels_of_tile_ranges p.tiles.items } in
    let are = subst (JoinerHasJoinedTileRows grid) (sym c.self.view_is) h in
    let within : AddsLabelPairs i.pairs.items p.pairs.items (label_pairs_within_tile_row j base row (length row)) = subst (λ (n : ℕ). AddsLabelPairs i.pairs.items p.pairs.items (label_pairs_within_tile_row j base row n)) long now.pairs in
    let above = c.deref.ensures.value in
    let first = c.deref-2.ensures.value ∙ now.first ∙ ap (labelled_first_rows_of_tiles base row) long in
    let meet : AddsLabelPairs p.pairs.items c.add_label_pairs_of_adjacent_lines.new.pairs.items (label_pairs_of_adjacent_lines j i.above.items (labelled_first_rows_of_tiles base row (length row))) = subst (AddsLabelPairs p.pairs.items c.add_label_pairs_of_adjacent_lines.new.pairs.items) (λ k. label_pairs_of_adjacent_lines j (above k) (first k)) c.in_ok-add_label_pairs_of_adjacent_lines.ensures in
    let last = now.last ∙ ap (labelled_last_rows_of_tiles base row) long in
    let tiles = now.tiles ∙ ap (λ (n : ℕ). labels_of_tile_ranges i.tiles.items ++ map (labels_of_clumps_in_tile base (begun_clump_counts_of_tile_row row)) (range_with_len 0 n)) long in
    subst (λ (bs : List TileBorder). JoinerHasJoinedTileRows (grid ++ values_of_tile_borders bs
    ∷ []) new) c.as_slice-borders.ensures.value
    (joined-more grid row old new p.pairs.items are refl c.in-Some-clump_count_plus_tile_row.ensures.some within meet
    last tiles)
