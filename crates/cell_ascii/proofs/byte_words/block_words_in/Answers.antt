use Rattle.std.proofs.Common.{◌≡◌, ◌≤◌, Bool, true, false, length, take, get_or, arith, ap, sym, refl, ◌∙◌, length-take}
use Rattle.std.specs.Int.{bit_at}
use Rattle.cell_ascii_meaning.specs.GridTokens.{is_space}
use Rattle.cell_ascii.specs.TableWords.{blanks}
use Rattle.cell_ascii_lanes.proofs.ByteBitLemmas.{bit}
use Rattle.cell_ascii_lanes.proofs.BlockByteLemmas.{bit_of}
use Rattle.cell_ascii_lanes.proofs.ByteEndLemmas.{ends_of, front, length-front, front-mask, length-ends}
use Rattle.cell_ascii_lanes.proofs.NullWordLemmas.{AreNullLanes, some_size}
use Rattle.cell_ascii.proofs.ByteBlockLemmas.{null_bytes, put_holds, put_low, ends_are, sixty_four_ends}
use Rattle.cell_ascii.proofs.byte_words.block_words_in.Goals as goal

on : (b : Bool) → bit b ≡ 1 → b ≡ true
on true e = refl
on false e = absurd (omega arith)

pub put_nulls-requires-clause-some : goal.put_nulls-requires-clause-some
put_nulls-requires-clause-some c =
    some_size c.blank_bits_of_block-blanks.result c.digit_mask-digits.result c.other_starts-starts.result
    c.moved_on-marked.result c.args.size c.other_starts-starts.type_inv
    c.other_starts-starts.ensures (c.are_short_numbers-are_stars_or_short_numbers.ensures.short
    c.if-not-are_stars_or_short_numbers.false)
    c.moved_on-marked.ensures.each

pub returns-clause-cells : goal.returns-clause-cells
returns-clause-cells c = λ h plain null.
    let bs = c.args.buffered.now in
    let long : 64 ≤ length bs = omega (arith, c.requires.buffered) in
    let lanes = c.put_nulls.new.lanes in
    let short = c.are_short_numbers-are_stars_or_short_numbers.ensures.short
    c.if-not-are_stars_or_short_numbers.false in
    let block : AreNullLanes bs lanes c.args.key c.args.size = record {
      blanks = c.blank_bits_of_block-blanks.result;
      digits = c.digit_mask-digits.result;
      starts = c.other_starts-starts.result;
      marked = c.moved_on-marked.result;
      has_three = c.are_short_numbers-are_stars_or_short_numbers.result.1;
      values = c.number_values-are_small.result.0;
      blanks_are = c.blank_bits_of_block-blanks.ensures;
      digits_are = c.digit_mask-digits.ensures;
      starts_are = c.other_starts-starts.ensures;
      marked_low = c.moved_on-marked.ensures.low;
      marked_each = c.moved_on-marked.ensures.each;
      short = short;
      two = c.are_short_numbers-are_stars_or_short_numbers.ensures.two;
      numbers = c.number_values-are_small.ensures c.if-not-are_small.false;
      nulls = c.put_nulls.ensures.nulls c.if-not-put_nulls.false;
      others = λ q lt other.
          c.put_nulls.ensures.others q other ∙ c.put_values.ensures q lt;
    } in
    let some = some_size c.blank_bits_of_block-blanks.result c.digit_mask-digits.result c.other_starts-starts.result
    c.moved_on-marked.result c.args.size c.other_starts-starts.type_inv
    c.other_starts-starts.ensures short c.moved_on-marked.ensures.each in
    let first = on (is_space (get_or bs 0 0))
    (sym (bit_of bs long is_space 0 (omega arith)) ∙ ap (λ n. bit_at n 0) (sym c.blank_bits_of_block-blanks.ensures)
    ∙ short.first) in
    let size : length (take 64 lanes) ≡ 64 = omega (arith, length-take 64 lanes, c.put_nulls.auto.lanes) in
    let low = c.lowest_bits_up_to_set_bit_count-ends.ensures in
    put_holds h bs long (take 64 lanes) size
    (null_bytes h plain bs c.requires.buffered (λ k. (c.type_inv.buffered k).fits) lanes c.args.key c.args.size null
    block some first) low.place low.within c.lowest_bits_up_to_set_bit_count-ends.result
    c.put_selected_lanes_in_row-count.result c.put_selected_lanes_in_row-count.new.row
    (ends_are bs long c.blank_bits_of_block-blanks.result c.lowest_bits_up_to_set_bit_count-ends.result low.place
    c.blank_bits_of_block-blanks.ensures
    low.is) c.put_selected_lanes_in_row-count.ensures

pub returns-clause-count : goal.returns-clause-count
returns-clause-count c =
    let bs = c.args.buffered.now in
    let low = c.lowest_bits_up_to_set_bit_count-ends.ensures in
    let es = ends_of (blanks bs) in
    let ms = front low.place es in
    let wide : length ms ≡ 64 = length-front low.place es ∙ length-ends (blanks bs)
    ∙ sixty_four_ends bs (omega (arith, c.requires.buffered)) in
    let is = ends_are bs (omega (arith, c.requires.buffered)) c.blank_bits_of_block-blanks.result
    c.lowest_bits_up_to_set_bit_count-ends.result
    low.place c.blank_bits_of_block-blanks.ensures low.is in
    omega (arith, (c.put_selected_lanes_in_row-count.ensures ms wide (is ∙ front-mask low.place es)).0, low.few)

pub returns-clause-within : goal.returns-clause-within
returns-clause-within c =
    let bs = c.args.buffered.now in
    let low = c.lowest_bits_up_to_set_bit_count-ends.ensures in
    put_low bs (omega (arith, c.requires.buffered)) low.place low.within c.lowest_bits_up_to_set_bit_count-ends.result
    (ends_are bs (omega (arith, c.requires.buffered)) c.blank_bits_of_block-blanks.result
    c.lowest_bits_up_to_set_bit_count-ends.result
    low.place
    c.blank_bits_of_block-blanks.ensures low.is)
