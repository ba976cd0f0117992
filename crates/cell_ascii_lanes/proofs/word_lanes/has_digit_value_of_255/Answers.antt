use Rattle.std.proofs.Common.{◌≡◌, ◌≤◌, ◌%◌, ◌^◌, ℕ, Bool, true, false, not, cond, eqb, length, map, get_or, replicate, arith, ap, ap₂, sym, refl, ◌∙◌, w8, Fits}
use Rattle.std.proofs.lemmas.Bool.{eqb-true}
use Rattle.std.proofs.lemmas.Simd.{zip2_splat, map-map, get_or-zip2, length-zip2, Each1-get_or}
use Rattle.std.proofs.lemmas.List.{length-map}
use Rattle.cell_ascii_lanes.specs.parts.LaneTables.{table_place_of_byte}
use Rattle.cell_ascii_lanes.proofs.ByteLaneLemmas.{under, large_lanes, digit_large, none_at, not_large}
use Rattle.cell_ascii_lanes.proofs.word_lanes.has_digit_value_of_255.Goals as goal
use lib.Bits.{bit_and}
use lib.Lanes.{zip2, mask_l, top}

is_none : (m : ℕ) → not (eqb m 0) ≡ false → m ≡ 0
is_none m e = by (eqb m 0) refl e
  where
    by : (b : Bool) → eqb m 0 ≡ b → not b ≡ false → m ≡ 0
    by true e o = eqb-true m 0 e
    by false e o = cc

pub returns : goal.returns
returns c = λ none p lt digit.
    let v = c.args.bytes in
    let w = c.args.values in
    let long = c.fits-bytes.0 in
    let tests = ap (λ l. zip2 under l (replicate 64 10)) c.table_places_of_bytes.ensures
    ∙ zip2_splat under (map table_place_of_byte v) 64 10 (length-map v table_place_of_byte ∙ long) ∙ map-map (λ x. under x 10) table_place_of_byte v in
    let hits = zip2_splat (λ a b. cond (eqb a b) 255 0) w 64 255 c.fits-values.0 in
    let size = long ∙ sym c.fits-values.0 in
    let all = ap (map (top 7)) (ap₂ (zip2 bit_and) tests hits) ∙ large_lanes v w size c.fits-bytes.1 in
    let few : length (zip2 digit_large v w) ≤ 64 = omega (arith, length-zip2 digit_large v w size, long) in
    let zero = sym (ap (λ l. mask_l l % 2 ^ 64) all) ∙ is_none _ none in
    let off = none_at (zip2 digit_large v w) p few zero in
    let here = sym (get_or-zip2 digit_large v w p 0 0 false (omega (arith, long)) (omega (arith, c.fits-values.0))) ∙ off in
    not_large (get_or v p 0) (get_or w p 0) (Each1-get_or (Fits w8) w p 0 (omega (arith, c.fits-values.0)) c.fits-values.1).fits here digit
