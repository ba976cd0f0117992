use Rattle.std.proofs.Common.{◌≡◌, ◌<◌, ◌+◌, ℕ, List, length, get_or, ap, arith, sym, subst, ◌∙◌}
use Rattle.std.proofs.lemmas.Grind.{get_or_default_zero}
use Rattle.cell_join_numbers.specs.SparseNumbers.{AreNumbersOfPairedLabels}
use Rattle.cell_join_tiles.specs.JoinedTiles.{JoinerHasJoinedTileRows, AreConsecutiveClumpsOfTiles}
use Rattle.cell_join_tiles.specs.JoinedTiles.{IsClumpCountOfTileGrid}
use Rattle.cell_join_tiles.specs.JoinedTiles.{TileJoinerValue}
use Rattle.cell_join_tiles.specs.parts.LabelRuns.{consecutive_clumps_by_labels}
use Rattle.cell_join_tiles.specs.parts.Spans.{labels_of_tile_ranges}
use Rattle.cell_join_tiles.proofs.FinishLemmas.{grid-clumps, grid-runs}
use Rattle.cell_join_tiles.proofs.joiner.TileJoiner.finish.Goals as goal

pub returns-clause-runs : goal.returns-clause-runs
returns-clause-runs c = λ grid h.
    let i = c.self.inside in
    let v = c.args.self in
    let s = c.in_ok-sparse.sparse in
    let old : TileJoinerValue = record { joining = i.joining; clumps = i.clumps; pairs = i.pairs.items; above = i.above.items; tiles = labels_of_tile_ranges i.tiles.items } in
    let are = subst (JoinerHasJoinedTileRows grid) (sym c.self.view_is) h in
    let numbered : AreNumbersOfPairedLabels i.pairs.items s.paired.items s.numbers.items s.roots.items = subst (λ (ps : List (ℕ × ℕ)). AreNumbersOfPairedLabels ps s.paired.items s.numbers.items s.roots.items) c.deref.ensures.value c.in_ok-sparse.ensures.numbered in
    let runs = c.in_ok-runs.ensures numbered.number numbered.are ∙ ap (λ tiles. consecutive_clumps_by_labels numbered.number 1 (labels_of_tile_ranges tiles)) c.deref-2.ensures.value in
    subst (λ (j : TileJoinerValue). AreConsecutiveClumpsOfTiles j.joining grid c.in_ok-runs.runs.items) c.self.view_is
    (grid-runs grid old are s.paired.items s.numbers.items s.roots.items numbered c.in_ok-runs.runs.items runs)

pub returns-clause-clumps : goal.returns-clause-clumps
returns-clause-clumps c = λ grid h.
    let i = c.self.inside in
    let s = c.in_ok-sparse.sparse in
    let old : TileJoinerValue = record { joining = i.joining; clumps = i.clumps; pairs = i.pairs.items; above = i.above.items; tiles = labels_of_tile_ranges i.tiles.items } in
    let are = subst (JoinerHasJoinedTileRows grid) (sym c.self.view_is) h in
    let numbered : AreNumbersOfPairedLabels i.pairs.items s.paired.items s.numbers.items s.roots.items = subst (λ (ps : List (ℕ × ℕ)). AreNumbersOfPairedLabels ps s.paired.items s.numbers.items s.roots.items) c.deref.ensures.value c.in_ok-sparse.ensures.numbered in
    let long : c.len-paired.result ≡ length s.paired.items = omega (arith, c.len-paired.ensures) in
    let inside : c.len-paired.result < length s.roots.items = omega (arith, long, c.in_ok-sparse.ensures.ready.long_roots) in
    let value = c.index.ensures ∙ get_or_default_zero s.roots.items c.len-paired.result c.index.result.now inside ∙ ap (λ (k : ℕ). get_or s.roots.items k 0) long in
    subst (λ (j : TileJoinerValue). IsClumpCountOfTileGrid j.joining grid (c.saturating_sub.result + c.index.result.now)) c.self.view_is
    (grid-clumps grid old are s.paired.items s.numbers.items s.roots.items numbered (c.saturating_sub.result + c.index.result.now) (omega (arith, c.saturating_sub.ensures, long, value)))
