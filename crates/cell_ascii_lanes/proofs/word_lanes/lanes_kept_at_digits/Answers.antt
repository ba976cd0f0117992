use Rattle.std.proofs.Common.{◌<◌, length, get_or, arith, ap, ◌∙◌}
use Rattle.std.proofs.lemmas.Simd.{get_or-zip2}
use Rattle.std.proofs.lemmas.List.{get_or-map, length-map}
use Rattle.cell_ascii_lanes.specs.parts.LaneTables.{lane_mask_of_digit}
use Rattle.cell_ascii_lanes.proofs.ByteLaneLemmas.{table_is}
use Rattle.cell_ascii_lanes.proofs.word_lanes.lanes_kept_at_digits.Goals as goal
use lib.Bits.{bit_and}

pub returns : goal.returns
returns c = λ p lt.
    let places = c.args.places in
    let lanes = c.args.lanes in
    let masks = c.looked_up_table_bytes.result in
    let is = c.looked_up_table_bytes.ensures lane_mask_of_digit (table_is lane_mask_of_digit) in
    let inside : p < length places = omega (arith, c.fits-places.0) in
    let long : p < length masks = omega (arith, ap length is, length-map places lane_mask_of_digit) in
    get_or-zip2 bit_and masks lanes p 0 0 0 long (omega (arith, c.fits-lanes.0))
    ∙ ap (λ n. bit_and n (get_or lanes p 0)) (ap (λ l. get_or l p 0) is
    ∙ get_or-map lane_mask_of_digit places p 0 0 inside)
