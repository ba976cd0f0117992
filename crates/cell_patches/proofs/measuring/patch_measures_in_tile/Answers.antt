use Rattle.std.proofs.Common.{refl}
use Rattle.cell_core_values.specs.Region.{IsValidRegion}
use Rattle.cell_patches.proofs.ResultLemmas.{if_ok}
use Rattle.cell_patches.proofs.MeasureLemmas.{numbered, measured_all}
use Rattle.cell_patches.proofs.measuring.patch_measures_in_tile.Goals as goal

pub measure_patches_in_all_rows-requires : goal.measure_patches_in_all_rows-requires
measure_patches_in_all_rows-requires c =
    let valid : IsValidRegion c.args.map.now.region = rw c.region-2.ensures.value at c.rows-rows.ensures.region in (
      refl,
      (
        refl,
        (
          refl,
          (
            numbered c.args.joining c.args.map.now c.args.numbers.now c.args.position
                c.clump_numbers_have_no_gaps.ensures c.requires.clumping c.requires.inside c.region.ensures.filled
                c.region-2.ensures.filled valid,
            c.requires.depth,
          ),
        ),
      ),
    )

pub returns : goal.returns
returns c =
    let valid : IsValidRegion c.args.map.now.region = rw c.region-2.ensures.value at c.rows-rows.ensures.region in
    let are = numbered c.args.joining c.args.map.now c.args.numbers.now c.args.position
    c.clump_numbers_have_no_gaps.ensures c.requires.clumping c.requires.inside c.region.ensures.filled
    c.region-2.ensures.filled valid in
    if_ok c.measure_patches_in_all_rows.result _ _
    (λ patches. measured_all c.args.joining c.args.map.now c.args.numbers.now c.args.position c.args.depth patches.items
    c.clump_numbers_have_no_gaps.ensures c.requires.clumping are)
    c.measure_patches_in_all_rows.ensures
