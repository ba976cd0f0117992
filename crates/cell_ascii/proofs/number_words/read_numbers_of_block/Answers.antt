use Rattle.std.proofs.Common.{◌≡◌, ◌<◌, ◌≤◌, ◌+◌, ◌-◌, ◌++◌, ◌∷◌, [], ◌∙◌, ap, ap₂, arith, length, length-drop}
use Rattle.std.proofs.Common.{length-take, length-set, refl, sym, take, drop, set, pos, Some}
use Rattle.std.specs.List.{list_all}
use Rattle.std.proofs.lemmas.List.{take_more_set, drop-set-lt, take_rest}
use Rattle.std.proofs.lemmas.Grind.{drop_more_same}
use Rattle.cell_ascii_meaning.specs.EdgeNumbers.{is_digit}
use Rattle.cell_ascii.proofs.WordLemmas.{BytesHoldNextCellsAndLineFeeds-none}
use Rattle.cell_ascii.proofs.NumberWordLemmas.{number_block, first_ends, two_numbers, number_more}
use Rattle.cell_ascii.proofs.number_words.read_numbers_of_block.Goals as goal
use lib.Count.{count_trailing_zeros}

pub pairs-init : goal.pairs-init
pairs-init c =
    let bs = c.args.buffered.now in
    let long : 64 ≤ length bs = omega (arith, c.requires.buffered) in
    let block = number_block bs long c.blank_bits_of_block-blanks.result c.digit_mask.result
    c.blank_bits_of_block-blanks.ensures
    c.digit_mask.ensures
    (c.are_numbers_up_to_seven_digits.ensures c.if-not-are_numbers_up_to_seven_digits.false) in
    let ends = first_ends bs long block.first c.blank_bits_of_block-blanks.result
    c.blank_bits_of_block-blanks.ensures in
    record {
      within = omega arith;
      low = omega arith;
      blank = block.first;
      ends = c.without_lowest_set_bit-ends.ensures ∙ ends.1;
      cells = λ h plain. BytesHoldNextCellsAndLineFeeds-none h bs;
      rest = refl;
    }

pub overflow_sub-first : goal.overflow_sub-first
overflow_sub-first c =
    let two = two_numbers c.args.buffered.now (omega (arith, c.requires.buffered))
    (number_block c.args.buffered.now (omega (arith, c.requires.buffered)) c.blank_bits_of_block-blanks.result
    c.digit_mask.result
    c.blank_bits_of_block-blanks.ensures
    c.digit_mask.ensures (c.are_numbers_up_to_seven_digits.ensures c.if-not-are_numbers_up_to_seven_digits.false))
    c.pairs.last c.pairs.ends c.without_lowest_set_bit-others.result c.pairs.invariant.blank
    (omega (arith, c.if-ends-ne0.true))
    c.pairs.invariant.ends c.without_lowest_set_bit-others.ensures (omega (arith, c.if-others-eq0.false)) in
    omega (arith, two.first.some)

pub overflow_sub-first-in-pairs : goal.overflow_sub-first-in-pairs
overflow_sub-first-in-pairs c =
    let two = two_numbers c.args.buffered.now (omega (arith, c.requires.buffered))
    (number_block c.args.buffered.now (omega (arith, c.requires.buffered)) c.blank_bits_of_block-blanks.result
    c.digit_mask.result
    c.blank_bits_of_block-blanks.ensures
    c.digit_mask.ensures (c.are_numbers_up_to_seven_digits.ensures c.if-not-are_numbers_up_to_seven_digits.false))
    c.pairs.last c.pairs.ends c.without_lowest_set_bit-others.result c.pairs.invariant.blank
    (omega (arith, c.if-ends-ne0.true))
    c.pairs.invariant.ends c.without_lowest_set_bit-others.ensures (omega (arith, c.if-others-eq0.false)) in
    omega (arith, two.first.some)

pub overflow_sub-second : goal.overflow_sub-second
overflow_sub-second c =
    let two = two_numbers c.args.buffered.now (omega (arith, c.requires.buffered))
    (number_block c.args.buffered.now (omega (arith, c.requires.buffered)) c.blank_bits_of_block-blanks.result
    c.digit_mask.result
    c.blank_bits_of_block-blanks.ensures
    c.digit_mask.ensures (c.are_numbers_up_to_seven_digits.ensures c.if-not-are_numbers_up_to_seven_digits.false))
    c.pairs.last c.pairs.ends c.without_lowest_set_bit-others.result c.pairs.invariant.blank
    (omega (arith, c.if-ends-ne0.true))
    c.pairs.invariant.ends c.without_lowest_set_bit-others.ensures (omega (arith, c.if-others-eq0.false)) in
    omega (arith, two.second.some)

pub overflow_sub-second-in-pairs : goal.overflow_sub-second-in-pairs
overflow_sub-second-in-pairs c =
    let two = two_numbers c.args.buffered.now (omega (arith, c.requires.buffered))
    (number_block c.args.buffered.now (omega (arith, c.requires.buffered)) c.blank_bits_of_block-blanks.result
    c.digit_mask.result
    c.blank_bits_of_block-blanks.ensures
    c.digit_mask.ensures (c.are_numbers_up_to_seven_digits.ensures c.if-not-are_numbers_up_to_seven_digits.false))
    c.pairs.last c.pairs.ends c.without_lowest_set_bit-others.result c.pairs.invariant.blank
    (omega (arith, c.if-ends-ne0.true))
    c.pairs.invariant.ends c.without_lowest_set_bit-others.ensures (omega (arith, c.if-others-eq0.false)) in
    omega (arith, two.second.some)

pub values_of_two_words-values-requires-clause-few : goal.values_of_two_words-values-requires-clause-few
values_of_two_words-values-requires-clause-few c =
    let two = two_numbers c.args.buffered.now (omega (arith, c.requires.buffered))
    (number_block c.args.buffered.now (omega (arith, c.requires.buffered)) c.blank_bits_of_block-blanks.result
    c.digit_mask.result
    c.blank_bits_of_block-blanks.ensures
    c.digit_mask.ensures (c.are_numbers_up_to_seven_digits.ensures c.if-not-are_numbers_up_to_seven_digits.false))
    c.pairs.last c.pairs.ends c.without_lowest_set_bit-others.result c.pairs.invariant.blank
    (omega (arith, c.if-ends-ne0.true))
    c.pairs.invariant.ends c.without_lowest_set_bit-others.ensures (omega (arith, c.if-others-eq0.false)) in
    (omega (arith, two.first.few), omega (arith, two.second.few))

pub values_of_two_words-values-requires-clause-buffered : goal.values_of_two_words-values-requires-clause-buffered
values_of_two_words-values-requires-clause-buffered c =
    let bs = c.args.buffered.now in
    let two = two_numbers c.args.buffered.now (omega (arith, c.requires.buffered))
    (number_block c.args.buffered.now (omega (arith, c.requires.buffered)) c.blank_bits_of_block-blanks.result
    c.digit_mask.result
    c.blank_bits_of_block-blanks.ensures
    c.digit_mask.ensures (c.are_numbers_up_to_seven_digits.ensures c.if-not-are_numbers_up_to_seven_digits.false))
    c.pairs.last c.pairs.ends c.without_lowest_set_bit-others.result c.pairs.invariant.blank
    (omega (arith, c.if-ends-ne0.true))
    c.pairs.invariant.ends c.without_lowest_set_bit-others.ensures (omega (arith, c.if-others-eq0.false)) in
    let first = count_trailing_zeros 64 c.pairs.ends in
    let at = c.pairs.last + 1 in (
      omega (
        arith,
        c.requires.buffered,
        two.first.end.few,
        two.first.some,
        length-take (length bs - at)
            (drop at bs),
        length-drop at bs,
      ),
      omega (
        arith,
        c.requires.buffered,
        two.first.end.few,
        length-take (length bs - (first + 1))
            (drop (first + 1) bs),
        length-drop (first + 1) bs,
      ),
    )

pub values_of_two_words-values-requires-clause-digits : goal.values_of_two_words-values-requires-clause-digits
values_of_two_words-values-requires-clause-digits c =
    let bs = c.args.buffered.now in
    let two = two_numbers c.args.buffered.now (omega (arith, c.requires.buffered))
    (number_block c.args.buffered.now (omega (arith, c.requires.buffered)) c.blank_bits_of_block-blanks.result
    c.digit_mask.result
    c.blank_bits_of_block-blanks.ensures
    c.digit_mask.ensures (c.are_numbers_up_to_seven_digits.ensures c.if-not-are_numbers_up_to_seven_digits.false))
    c.pairs.last c.pairs.ends c.without_lowest_set_bit-others.result c.pairs.invariant.blank
    (omega (arith, c.if-ends-ne0.true))
    c.pairs.invariant.ends c.without_lowest_set_bit-others.ensures (omega (arith, c.if-others-eq0.false)) in
    let last = c.pairs.last in
    let first = count_trailing_zeros 64 c.pairs.ends in
    let second = count_trailing_zeros 64 c.without_lowest_set_bit-others.result in
    let one_size : first - last - 1 ≡ first - (last + 1) = omega arith in
    let two_size : second - first - 1 ≡ second - (first + 1) = omega arith in (
      ap₂ (λ n l. list_all is_digit (take n l)) one_size (take_rest bs (last + 1)) ∙ two.first.digits,
      ap₂ (λ n l. list_all is_digit (take n l)) two_size (take_rest bs (first + 1)) ∙ two.second.digits,
    )

pub pairs-smaller : goal.pairs-smaller
pairs-smaller c =
    let two = two_numbers c.args.buffered.now (omega (arith, c.requires.buffered))
    (number_block c.args.buffered.now (omega (arith, c.requires.buffered)) c.blank_bits_of_block-blanks.result
    c.digit_mask.result
    c.blank_bits_of_block-blanks.ensures
    c.digit_mask.ensures (c.are_numbers_up_to_seven_digits.ensures c.if-not-are_numbers_up_to_seven_digits.false))
    c.pairs.last c.pairs.ends c.without_lowest_set_bit-others.result c.pairs.invariant.blank
    (omega (arith, c.if-ends-ne0.true))
    c.pairs.invariant.ends c.without_lowest_set_bit-others.ensures (omega (arith, c.if-others-eq0.false)) in
    omega (arith, two.first.some, two.second.some, two.second.end.few)

pub pairs-preserved : goal.pairs-preserved
pairs-preserved c =
    let bs = c.args.buffered.now in
    let long : 64 ≤ length bs = omega (arith, c.requires.buffered) in
    let two = two_numbers c.args.buffered.now (omega (arith, c.requires.buffered))
    (number_block c.args.buffered.now (omega (arith, c.requires.buffered)) c.blank_bits_of_block-blanks.result
    c.digit_mask.result
    c.blank_bits_of_block-blanks.ensures
    c.digit_mask.ensures (c.are_numbers_up_to_seven_digits.ensures c.if-not-are_numbers_up_to_seven_digits.false))
    c.pairs.last c.pairs.ends c.without_lowest_set_bit-others.result c.pairs.invariant.blank
    (omega (arith, c.if-ends-ne0.true))
    c.pairs.invariant.ends c.without_lowest_set_bit-others.ensures (omega (arith, c.if-others-eq0.false)) in
    let row = c.pairs.row in
    let i = c.pairs.i in
    let first = count_trailing_zeros 64 c.pairs.ends in
    let values = c.values_of_two_words-values in
    let a = Some (pos values.result.0) in
    let b = Some (pos values.result.1) in
    let next = set row i a in
    let room : i + 2 ≤ length row = omega (arith, c.pairs-test.true) in
    let more : i + 2 ≡ i + 1 + 1 = omega arith in
    let one : take (i + 1) next ≡ take i row ++ a ∷ [] = take_more_set row i a (omega (arith, room)) in
    let other : take (i + 1 + 1) (set next (i + 1) b) ≡ take (i + 1) next ++ b ∷ [] =
    take_more_set next (i + 1) b (omega (arith, room, length-set row i a)) in
    let all : take (i + 2) (set next (i + 1) b) ≡ (take i row ++ a ∷ []) ++ b ∷ [] =
    ap (λ n. take n (set next (i + 1) b)) more ∙ other ∙ ap (λ l. l ++ b ∷ []) one in
    let here : i < i + 2 = omega arith in
    let there : i + 1 < i + 2 = omega arith in
    let rest : drop (i + 2) row ≡ drop (i + 2) c.args.row.now =
    ap (λ n. drop n row) more ∙ drop_more_same row c.args.row.now (i + 1)
    (drop_more_same row c.args.row.now i c.pairs.invariant.rest)
    ∙ ap (λ n. drop n c.args.row.now) (sym more) in
    rw (c.cell_of_short_number.ensures, c.cell_of_short_number-in-pairs.ensures)
    (record {
      within = two.second.end.few;
      low = omega (arith, room, length-set next (i + 1) b, length-set row i a);
      blank = two.second.end.blank;
      ends = c.without_lowest_set_bit-ends-in-pairs.ensures ∙ two.second.end.next;
      cells = λ h plain.
          let so_far = number_more h plain bs long (take i row) i c.pairs.last c.pairs.ends values.result.0
          c.pairs.invariant.within c.pairs.invariant.blank
          two.first values.ensures.first values.ensures.small.0 (c.pairs.invariant.cells h plain) in
          let done = number_more h plain bs long (take i row ++ a
          ∷ []) (i + 1) first c.without_lowest_set_bit-others.result
          values.result.1 two.first.end.few two.first.end.blank
          two.second values.ensures.second values.ensures.small.1 so_far in
          rw (all, more) done;
      rest = drop-set-lt (i + 2) next (i + 1) b there ∙ drop-set-lt (i + 2) row i a here ∙ rest;
    })
