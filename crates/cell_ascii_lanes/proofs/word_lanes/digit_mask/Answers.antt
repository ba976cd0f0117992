use Rattle.std.proofs.Common.{◌%◌, ◌^◌, map, replicate, ap, ◌∙◌, arith}
use Rattle.std.proofs.lemmas.Simd.{zip2_splat, map-map, mask_l-mod}
use Rattle.std.proofs.lemmas.List.{length-map}
use Rattle.cell_core_values.specs.Digits.{is_digit}
use Rattle.cell_ascii_lanes.specs.parts.LaneTables.{table_place_of_byte}
use Rattle.cell_ascii_lanes.proofs.ByteLaneLemmas.{under, each_byte}
use Rattle.cell_ascii_lanes.proofs.word_lanes.digit_mask.Goals as goal
use lib.Lanes.{zip2, mask_l, top}

pub returns : goal.returns
returns c =
    let v = c.args.bytes in
    let tests = ap (λ l. zip2 under l (replicate 64 10)) c.table_places_of_bytes.ensures
    ∙ zip2_splat under (map table_place_of_byte v) 64 10 (length-map v table_place_of_byte ∙ c.fits-bytes.0) ∙ map-map (λ x. under x 10) table_place_of_byte v in
    ap (λ l. mask_l l % 2 ^ 64) (ap (map (top 7)) tests ∙ each_byte (λ a. under (table_place_of_byte a) 10) is_digit tt v c.fits-bytes.1)
    ∙ mask_l-mod (map is_digit v) 64 (omega (arith, length-map v is_digit, c.fits-bytes.0))
