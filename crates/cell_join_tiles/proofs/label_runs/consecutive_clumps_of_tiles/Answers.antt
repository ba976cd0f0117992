use Rattle.std.proofs.Common.{◌+◌, ◌++◌, List, Vec, drop, map, ap, sym, ◌∙◌, arith, append_assoc, append-nil}
use Rattle.std.proofs.lemmas.List.{drop_all}
use Rattle.std.specs.Global.{Global}
use Rattle.cell_join_numbers.specs.Stretches.{consecutive_clumps_of_tile}
use Rattle.cell_join_numbers.specs.declared.stretch.ConsecutiveClumps.{ConsecutiveClumps}
use Rattle.cell_join_tiles.specs.declared.spans.LabelRange.{LabelRange}
use Rattle.cell_join_tiles.specs.parts.LabelRuns.{consecutive_clumps_by_labels}
use Rattle.cell_join_tiles.specs.parts.Spans.{labels_of_ranges, labels_of_tile_ranges}
use Rattle.cell_join_tiles.proofs.RunLemmas.{tiles-split}
use Rattle.cell_join_tiles.proofs.label_runs.consecutive_clumps_of_tiles.Goals as goal

pub loop-tile-init : goal.loop-tile-init
loop-tile-init c = λ number are. ap (λ (l : List ConsecutiveClumps). l
    ++ consecutive_clumps_by_labels number 1 (labels_of_tile_ranges c.args.tiles.now)) c.new-runs.ensures.items

pub loop-tile-preserved : goal.loop-tile-preserved
loop-tile-preserved c = λ number are.
    let tiles = c.args.tiles.now in
    let k = c.loop-tile.tile in
    let spans = c.as_slice.result.now in
    let old = c.loop-tile.runs.items in
    let own = consecutive_clumps_of_tile (k + 1) (map number (labels_of_ranges spans)) in
    let rest = consecutive_clumps_by_labels number (k + 1 + 1) (labels_of_tile_ranges (drop (k + 1) tiles)) in
    let split = tiles-split number tiles k c.index-tiles-tile.result c.loop-tile-test.true spans
    (c.as_slice.ensures.value ∙ ap (λ (v : Vec LabelRange Global). v.items) c.index-tiles-tile.is) in
    ap (λ (l : List ConsecutiveClumps). l ++ rest) (c.in_ok-add_consecutive_clumps_of_tile.ensures number are)
    ∙ append_assoc old own rest
    ∙ ap (λ (l : List ConsecutiveClumps). old ++ l) (sym split)
    ∙ c.loop-tile.invariant number are

pub returns : goal.returns
returns c = λ number are.
    let tiles = c.args.tiles.now in
    let k = c.loop-tile.tile in
    let none = drop_all k tiles (omega (arith, c.loop-tile-test.false)) in
    sym (append-nil c.loop-tile.runs.items)
    ∙ ap (λ l. c.loop-tile.runs.items ++ consecutive_clumps_by_labels number (k + 1) (labels_of_tile_ranges l))
    (sym none)
    ∙ c.loop-tile.invariant number are
