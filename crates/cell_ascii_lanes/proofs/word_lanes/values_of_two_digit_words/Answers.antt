use Rattle.std.proofs.Common.{◌≡◌, ◌<◌, ℕ, length, map, get_or, arith, ap, ap₂, ◌∙◌, List}
use Rattle.cell_ascii_lanes.specs.parts.LaneTables.{table_place_of_byte, table_place_of_byte_at_position}
use Rattle.cell_ascii_lanes.specs.parts.LaneTables.{ones_digit_value}
use Rattle.cell_ascii_lanes.specs.parts.LaneTables.{tens_digit_value, capped_sum, place_of_lane_before}
use Rattle.cell_ascii_lanes.proofs.ByteLaneLemmas.{table_is, looked, small_place}
use Rattle.cell_ascii_lanes.proofs.word_lanes.values_of_two_digit_words.Goals as goal

few : (places bytes : List ℕ) → places ≡ map table_place_of_byte bytes → (k : ℕ) → get_or places k 0 < 16
few places bytes is k = rw is (small_place bytes k)

pub at : (f : ℕ → ℕ) (lanes places bytes : List ℕ) → lanes ≡ map f places → places ≡ map table_place_of_byte bytes
    → (p : ℕ)
    → p < length bytes
    → get_or lanes p 0 ≡ f (table_place_of_byte_at_position bytes p)
at f lanes places bytes looked_is is p within = ap (λ l. get_or l p 0) (looked_is ∙ ap (map f) is)
    ∙ looked f bytes p within

before_few : (p : ℕ) → p < 64 → place_of_lane_before p < 64
before_few p lt = omega arith

pub looked_up_table_bytes-tens-requires : goal.looked_up_table_bytes-tens-requires
looked_up_table_bytes-tens-requires c = few c.table_places_of_bytes-places.result c.args.bytes
    c.table_places_of_bytes-places.ensures

pub looked_up_table_bytes-requires : goal.looked_up_table_bytes-requires
looked_up_table_bytes-requires c = few c.table_places_of_bytes-places.result c.args.bytes
    c.table_places_of_bytes-places.ensures

pub returns : goal.returns
returns c = λ p lt.
    let bytes = c.args.bytes in
    let places = c.table_places_of_bytes-places.result in
    let is = c.table_places_of_bytes-places.ensures in
    let q = place_of_lane_before p in
    let before : q < 64 = before_few p lt in
    let here : p < length bytes = omega (arith, c.fits-bytes.0) in
    let there : q < length bytes = omega (arith, c.fits-bytes.0, before) in
    c.capped_lane_sums.ensures p lt
    ∙ ap₂ capped_sum (at ones_digit_value c.looked_up_table_bytes.result places bytes
    (c.looked_up_table_bytes.ensures ones_digit_value (table_is ones_digit_value)) is p here)
    (c.lanes_rotated_by_one.ensures p lt ∙ at tens_digit_value c.looked_up_table_bytes-tens.result places bytes
    (c.looked_up_table_bytes-tens.ensures tens_digit_value (table_is tens_digit_value)) is q there)
