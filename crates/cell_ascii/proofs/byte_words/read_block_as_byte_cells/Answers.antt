use Rattle.std.proofs.Common.{◌≡◌, ◌-◌, ℕ, List, Bool, true, false, map, length, take, get_or, cond, arith, ap, sym, refl, ◌∙◌, length-take}
use Rattle.std.specs.Int.{bit_at}
use Rattle.std.proofs.lemmas.List.{get_or-take}
use Rattle.cell_ascii_meaning.specs.GridTokens.{is_space}
use Rattle.cell_ascii_meaning.specs.EdgeNumbers.{is_digit}
use Rattle.cell_ascii.specs.TableWords.{blanks}
use Rattle.cell_ascii_lanes.specs.WordLanes.{AreStarsOrThreeDigitNumbers, is_null_star}
use Rattle.cell_ascii_lanes.proofs.ByteEndLemmas.{ends_of, front, length-front, front-mask, length-ends}
use Rattle.cell_ascii.proofs.ByteBlockLemmas.{short_block, cell_bytes_are, star_bytes, put_holds, put_low, ends_are, word_at, sixty_four_ends}
use Rattle.cell_ascii_lanes.proofs.BlockByteLemmas.{space_no_digit}
use Rattle.cell_ascii.proofs.byte_words.read_block_as_byte_cells.Goals as goal
use lib.Lanes.{mask_l}

digit_no_space : (b : ℕ) → is_digit b ≡ true → is_space b ≡ false
digit_no_space b e = by (is_space b) refl
  where
    by : (s : Bool) → is_space b ≡ s → is_space b ≡ false
    by true o = let no = space_no_digit b o in cc
    by false o = o

short_from : (bs : List ℕ) (m d s : ℕ) → m ≡ mask_l (blanks bs) → d ≡ mask_l (map is_digit (take 64 bs)) → s ≡ mask_l (map is_null_star (take 64 bs))
    → AreStarsOrThreeDigitNumbers (18446744073709551615 - m) d s → AreStarsOrThreeDigitNumbers (18446744073709551615 - mask_l (blanks bs)) (mask_l (map is_digit (take 64 bs))) (mask_l (map is_null_star (take 64 bs)))
short_from bs m d s a b e is = rw (a, b, e) at is

pub word_values_and_if_below_255-are_small-requires : goal.word_values_and_if_below_255-are_small-requires
word_values_and_if_below_255-are_small-requires c = λ p lt digit.
    let bs = c.args.buffered.now in
    let long = c.requires.buffered in
    let space : is_space (get_or bs p 0) ≡ false = digit_no_space (get_or bs p 0) (sym (ap is_digit (get_or-take 64 bs p 0 lt)) ∙ digit) in
    ap (λ n. bit_at (18446744073709551615 - n) p) c.blank_bits_of_block-blanks.ensures ∙ word_at bs long p lt ∙ ap (λ b. 1 - cond b 1 0) space

pub returns-clause-cells : goal.returns-clause-cells
returns-clause-cells c = λ h plain usual.
    let bs = c.args.buffered.now in
    let long = c.requires.buffered in
    let lanes = c.put_cell_bytes_in_lanes.new.lanes in
    let short = short_from bs c.blank_bits_of_block-blanks.result c.digit_mask.result c.star_mask-stars.result c.blank_bits_of_block-blanks.ensures c.digit_mask.ensures c.star_mask-stars.ensures (c.are_stars_or_short_numbers.ensures c.if-not-are_stars_or_short_numbers.false) in
    let block = short_block bs long short in
    let bytes = cell_bytes_are bs long c.word_values_and_if_below_255-are_small.result.0 lanes (c.word_values_and_if_below_255-are_small.ensures c.if-not-are_small.false) c.put_cell_bytes_in_lanes.ensures in
    let size : length (take 64 lanes) ≡ 64 = omega (
      arith,
      length-take 64 lanes,
      c.put_cell_bytes_in_lanes.auto.lanes,
    ) in
    let low = c.lowest_bits_up_to_set_bit_count-ends.ensures in
    put_holds h bs long (take 64 lanes) size (star_bytes h plain usual bs long block (take 64 lanes) bytes) low.place low.within c.lowest_bits_up_to_set_bit_count-ends.result c.put_selected_lanes_in_row-count.result c.put_selected_lanes_in_row-count.new.row
    (ends_are bs long c.blank_bits_of_block-blanks.result c.lowest_bits_up_to_set_bit_count-ends.result low.place c.blank_bits_of_block-blanks.ensures low.is) c.put_selected_lanes_in_row-count.ensures

pub returns-clause-count : goal.returns-clause-count
returns-clause-count c =
    let bs = c.args.buffered.now in
    let low = c.lowest_bits_up_to_set_bit_count-ends.ensures in
    let es = ends_of (blanks bs) in
    let ms = front low.place es in
    let wide : length ms ≡ 64 = length-front low.place es ∙ length-ends (blanks bs) ∙ sixty_four_ends bs c.requires.buffered in
    let is = ends_are bs c.requires.buffered c.blank_bits_of_block-blanks.result c.lowest_bits_up_to_set_bit_count-ends.result low.place c.blank_bits_of_block-blanks.ensures low.is in
    omega (arith, (c.put_selected_lanes_in_row-count.ensures ms wide (is ∙ front-mask low.place es)).0, low.few)

pub returns-clause-within : goal.returns-clause-within
returns-clause-within c =
    let bs = c.args.buffered.now in
    let low = c.lowest_bits_up_to_set_bit_count-ends.ensures in
    put_low bs c.requires.buffered low.place low.within c.lowest_bits_up_to_set_bit_count-ends.result
    (ends_are bs c.requires.buffered c.blank_bits_of_block-blanks.result c.lowest_bits_up_to_set_bit_count-ends.result low.place c.blank_bits_of_block-blanks.ensures low.is)
