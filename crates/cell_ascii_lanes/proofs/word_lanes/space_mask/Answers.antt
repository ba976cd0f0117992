use Rattle.std.proofs.Common.{◌%◌, ◌^◌, map, ap, ◌∙◌, arith, bit_and}
use Rattle.std.proofs.lemmas.Simd.{zip2_splat, mask_l-mod}
use Rattle.std.proofs.lemmas.List.{length-map}
use Rattle.cell_ascii_meaning.specs.GridTokens.{is_space}
use Rattle.cell_ascii_lanes.proofs.ByteLaneLemmas.{alike, space_at, small_low, spaces_are, table_is}
use Rattle.cell_ascii_lanes.proofs.word_lanes.space_mask.Goals as goal
use lib.Lanes.{zip2, mask_l, top}

pub looked_up_table_bytes-requires : goal.looked_up_table_bytes-requires
looked_up_table_bytes-requires c = λ k.
    let v = c.args.bytes in
    rw (zip2_splat bit_and v 64 15 c.fits-bytes.0) (small_low v k)

pub returns : goal.returns
returns c =
    let v = c.args.bytes in
    let long = c.fits-bytes.0 in
    let lanes = c.looked_up_table_bytes.ensures space_at (table_is space_at)
    ∙ ap (map space_at) (zip2_splat bit_and v 64 15 long) in
    ap (λ l. mask_l (map (top 7) (zip2 alike l v)) % 2 ^ 64) lanes
    ∙ ap (λ l. mask_l l % 2 ^ 64) (spaces_are v c.fits-bytes.1)
    ∙ mask_l-mod (map is_space v) 64 (omega (arith, length-map v is_space, long))
