use Rattle.std.proofs.Common.{◌≡◌, ◌≢◌, ◌<◌, ◌+◌, All, List, length, drop, vec_len, None}
use Rattle.std.specs.Option.{IsSome}
use Rattle.std.specs.Vec.Iter.{into_iter_items, into_iter_len}
use Rattle.cell_core_devices.specs.Device.{ComingBytes}
use Rattle.cell_core_devices.specs.declared.source.Asked.TheVariants.{Going, Again}
use Rattle.rcell.specs.Sources.{ReadsAgreeWithContents, Named, SourcesHoldSupposedContents}
use Rattle.rcell.specs.Loading.{shelf_with_remaining_grids}
use Rattle.rcell.proofs.loading.load_grids.Given as goal

abbrev pub invariant-loop-name : goal.invariant-loop-name
invariant-loop-name g l =
    let supposed = g.R.Source.supposed in
    let left = into_iter_items l.name-iterator in
    record {
      loads : (named : List Named) (hs : List ComingBytes) → SourcesHoldSupposedContents supposed hs l.fn.grids.items
          named
          → ReadsAgreeWithContents supposed hs l.sources.items
          → (others : List Named) × (SourcesHoldSupposedContents supposed (drop l.grid hs) left others
          × (shelf_with_remaining_grids 0 None named ≡ shelf_with_remaining_grids l.grid l.shelf others));
      asked : All (λ grid. g.R.Source.asked grid.1 ≡ Going) l.fn.grids.items
          → All (λ grid. g.R.Source.asked grid.1 ≡ Going) left × All (λ s. g.R.Source.asked s ≢ Again) l.sources.items;
      count : l.grid + into_iter_len l.name-iterator ≡ vec_len l.fn.grids;
      read : length l.sources.items ≡ l.grid;
      len : into_iter_len l.name-iterator ≡ length left;
      begun : 0 < l.grid → IsSome l.shelf;
    }
