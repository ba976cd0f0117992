use Rattle.std.proofs.Common.{◌≡◌, ◌∙◌, true, Result, Ok, Err, Some, refl}
use Rattle.cell_core_devices.specs.Device.{ComingBytes}
use Rattle.cell_core_devices.specs.declared.source.Asked.TheVariants.{Going}
use Rattle.cell_core.specs.Shelf.{ShelfValue}
use Rattle.rcell_tile.specs.TileRuns.{RunShelvesValue}
use Rattle.rcell_pipe_request.specs.declared.place.PlaceAndRegion.{PlaceAndRegion}
use Rattle.rcell_pipe_request.specs.RequestPlaces.{place_and_region_reading}
use Rattle.rcell_pipe_request.specs.Requests.{maps_reading, run_over_shelves_reading, tile_run_request_reading}
use Rattle.rcell_pipe_request.specs.Requests.{run_request_as_value}
use Rattle.rcell_pipe_request.specs.declared.error.RequestError.{RequestError}
use Rattle.rcell_pipe_request.specs.declared.error.RequestStop.{RequestStop}
use Rattle.rcell_pipe_request.specs.declared.error.RequestStop.TheVariants as request_stops
use Rattle.rcell_pipe_request.specs.Feeds.{RequestReaderValue, OpenSourceReachesState, ReadsToEndWithErrorPosition}
use Rattle.rcell_pipe_request.specs.Feeds.{request_reader_may_hold_bytes, left}
use Rattle.rcell_pipe_request.proofs.request.read_tile_run_request.Goals as goal

-- what is read to the end after other fields is read to the end with them
read_after : {X Y : Type 0} (view : X → Y) (old mid new : RequestReaderValue)
    (result : Result X RequestStop) (rest all : ComingBytes → Result (Y × ComingBytes) RequestError)
    → ((c : ComingBytes) → request_reader_may_hold_bytes c mid ≡ true → (request_reader_may_hold_bytes c old ≡ true)
    × (all (left c old) ≡ rest (left c mid)))
    → OpenSourceReachesState Going old mid → ReadsToEndWithErrorPosition view mid result new rest
    → ReadsToEndWithErrorPosition view old result new all
read_after view old mid new (Ok x) rest all before stays reads = (
  λ c is.
      let one = reads.0 c is in
      let first = before c one.0 in (first.0, first.1 ∙ one.1),
  λ going. reads.1 (stays going),
)
read_after view old mid new (Err request_stops.Memory) rest all before stays reads = (
  λ c is. (before c (reads.0 c is)).0,
  λ going. reads.1 (stays going),
)
read_after view old mid new (Err (request_stops.Error error)) rest all before stays reads = (
  λ c is.
      let one = reads.0 c is in
      let first = before c one.0 in (first.0, first.1 ∙ one.1),
  λ going. reads.1 (stays going),
)

-- after the place, the region and the maps, the script and the questions are read
after_maps : (c at read : ComingBytes) (placed : PlaceAndRegion) (shelf : ShelfValue) (shelves : RunShelvesValue)
    → place_and_region_reading c ≡ Ok (placed, at) → maps_reading placed.region at ≡ Ok (shelf, read)
    → shelves ≡ record { outer = shelf; place = Some placed.place }
    → tile_run_request_reading c ≡ run_over_shelves_reading shelves read
unfolding tile_run_request_reading
after_maps c at read placed shelf shelves one other same = rw (one, other, same) refl

pub returns-in-Ok-of_tile : goal.returns-in-Ok-of_tile
returns-in-Ok-of_tile g c =
    read_after run_request_as_value c.args.feed.now c.read_maps.new.feed
    c.read_run_over_shelves.new.feed c.read_run_over_shelves.result
    (run_over_shelves_reading c.in-Ok-of_tile.shelves) tile_run_request_reading
    (λ w is.
    let maps = c.in-Ok-read_maps.ensures.reads.0 w is in
    let placed = c.in-Ok.ensures.reads.0 w maps.0 in (
      placed.0,
      after_maps _ _ _ c.in-Ok.placed c.in-Ok-read_maps.shelf c.in-Ok-of_tile.shelves placed.1 maps.1
          c.in-Ok-of_tile.ensures,
    ))
    (λ going. c.in-Ok-read_maps.ensures.reads.1 (c.in-Ok.ensures.reads.1 going))
    c.read_run_over_shelves.ensures
