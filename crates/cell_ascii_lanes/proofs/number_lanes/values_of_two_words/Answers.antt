use Rattle.std.proofs.Common.{arith}
use Rattle.cell_ascii_lanes.proofs.NumberLemmas.{joined, words_count, twos_few, fours_few, eights_few, first_value}
use Rattle.cell_ascii_lanes.proofs.NumberLemmas.{second_value}
use Rattle.cell_ascii_lanes.proofs.number_lanes.values_of_two_words.Goals as goal

pub twos-requires : goal.twos-requires
twos-requires c =
    words_count c.word_moved_to_end_of_lanes.result c.word_moved_to_end_of_lanes-2.result c.args.first.now
    c.args.second.now
    c.args.size c.args.size_of_second
    c.word_moved_to_end_of_lanes.ensures.long c.requires.few c.requires.buffered c.requires.digits
    c.word_moved_to_end_of_lanes.ensures.word
    c.word_moved_to_end_of_lanes-2.ensures.word

pub fours-requires : goal.fours-requires
fours-requires c =
    let low = words_count c.word_moved_to_end_of_lanes.result c.word_moved_to_end_of_lanes-2.result c.args.first.now
    c.args.second.now c.args.size
    c.args.size_of_second
    c.word_moved_to_end_of_lanes.ensures.long c.requires.few c.requires.buffered c.requires.digits
    c.word_moved_to_end_of_lanes.ensures.word
    c.word_moved_to_end_of_lanes-2.ensures.word in
    twos_few (joined c.word_moved_to_end_of_lanes.result c.word_moved_to_end_of_lanes-2.result) c.twos.result low
    c.twos.ensures

pub values_of_eight_digits-requires : goal.values_of_eight_digits-requires
values_of_eight_digits-requires c =
    let low = words_count c.word_moved_to_end_of_lanes.result c.word_moved_to_end_of_lanes-2.result c.args.first.now
    c.args.second.now c.args.size
    c.args.size_of_second
    c.word_moved_to_end_of_lanes.ensures.long c.requires.few c.requires.buffered c.requires.digits
    c.word_moved_to_end_of_lanes.ensures.word
    c.word_moved_to_end_of_lanes-2.ensures.word in
    fours_few c.twos.result c.fours.result (twos_few (joined c.word_moved_to_end_of_lanes.result
    c.word_moved_to_end_of_lanes-2.result) c.twos.result low
    c.twos.ensures) c.fours.ensures

pub returns-clause-first : goal.returns-clause-first
returns-clause-first c =
    first_value c.word_moved_to_end_of_lanes.result c.word_moved_to_end_of_lanes-2.result c.args.first.now
    c.args.second.now
    c.args.size c.args.size_of_second
    c.word_moved_to_end_of_lanes.ensures.long c.requires.few c.requires.buffered c.requires.digits
    c.word_moved_to_end_of_lanes.ensures.word
    c.word_moved_to_end_of_lanes-2.ensures.word
    c.twos.result c.fours.result c.values_of_eight_digits.result c.twos.ensures c.fours.ensures
    c.values_of_eight_digits.ensures

pub returns-clause-second : goal.returns-clause-second
returns-clause-second c =
    second_value c.word_moved_to_end_of_lanes.result c.word_moved_to_end_of_lanes-2.result c.args.first.now
    c.args.second.now
    c.args.size c.args.size_of_second
    c.word_moved_to_end_of_lanes.ensures.long c.requires.few c.requires.buffered c.requires.digits
    c.word_moved_to_end_of_lanes.ensures.word
    c.word_moved_to_end_of_lanes-2.ensures.word
    c.twos.result c.fours.result c.values_of_eight_digits.result c.twos.ensures c.fours.ensures
    c.values_of_eight_digits.ensures

pub returns-clause-small : goal.returns-clause-small
returns-clause-small c =
    let low = words_count c.word_moved_to_end_of_lanes.result c.word_moved_to_end_of_lanes-2.result c.args.first.now
    c.args.second.now c.args.size
    c.args.size_of_second
    c.word_moved_to_end_of_lanes.ensures.long c.requires.few c.requires.buffered c.requires.digits
    c.word_moved_to_end_of_lanes.ensures.word
    c.word_moved_to_end_of_lanes-2.ensures.word in
    let two = twos_few (joined c.word_moved_to_end_of_lanes.result c.word_moved_to_end_of_lanes-2.result)
    c.twos.result low
    c.twos.ensures in
    let four = fours_few c.twos.result c.fours.result two c.fours.ensures in
    let small = eights_few c.fours.result c.values_of_eight_digits.result four c.values_of_eight_digits.ensures in
    (small 0 (omega arith), small 1 (omega arith))
