use Rattle.std.proofs.Common.{◌∙◌, ap, arith}
use Rattle.cell_core_values.specs.Region.{RegionValue, IsValidRegion}
use Rattle.cell_patches.proofs.ZoneLemmas.{counted_all, counted_none, room_for}
use Rattle.cell_patches.proofs.zones.count_cells_by_patch_and_zone.Goals as goal

pub loop-row-init : goal.loop-row-init
loop-row-init c = record {
  counted = counted_none (record { numbers = c.args.numbers.now; zones = c.args.zones.now }) c.in_ok-counts.counts
      c.in_ok-counts.ensures.none c.in_ok-counts.ensures.leads;
  long = c.in_ok-counts.ensures.long;
}

pub close-requires-clause-room : goal.close-requires-clause-room
close-requires-clause-room c = λ v z.
    let region = c.region-region.ensures.value in
    let valid : IsValidRegion c.args.numbers.now.region = rw region at c.rows-row-end.ensures.region in
    let end = c.rows-row-end.ensures.value ∙ ap (λ (r : RegionValue). r.rows) region in
    let within = c.loop-row.auto.row-end in
    let room =
    room_for (record { numbers = c.args.numbers.now; zones = c.args.zones.now }) c.loop-row.row 0 c.loop-row.counts
    c.loop-row.invariant.counted valid (omega arith) (omega arith) v z in
    omega arith

pub returns-clause-counted : goal.returns-clause-counted
returns-clause-counted c =
    let region = c.region-region.ensures.value in
    let end = c.rows-row-end.ensures.value ∙ ap (λ (r : RegionValue). r.rows) region in
    let within = c.loop-row.auto.row-end in
    let past = c.loop-row-test.false in
    counted_all (record { numbers = c.args.numbers.now; zones = c.args.zones.now }) c.loop-row.row c.loop-row.counts
    c.close.new.self c.loop-row.invariant.counted (omega arith) c.in_ok-close.ensures.same
    c.in_ok-close.ensures.closed c.in_ok-close.ensures.leads
