use Rattle.std.proofs.Common.{◌≡◌, ◌≤◌, ◌+◌, ◌%◌, ◌^◌, ◌∙◌, ap, sym, arith, take}
use Rattle.std.specs.Int.RustNames.{count_ones}
use Rattle.cell_ascii_meaning.specs.GridTokens.{line_feed_count}
use Rattle.cell_ascii.proofs.BitLemmas.{below, feeds_before}
use Rattle.cell_ascii.proofs.word_table.line_count_after_first_bytes.Goals as goal

pub returns-then-feeds-eq0 : goal.returns-then-feeds-eq0
unfolding count_ones
returns-then-feeds-eq0 c =
    let bs = c.args.buffered.now in
    let n = c.args.n in
    let zero : 0 % 2 ^ n ≡ 0 = omega arith in
    let none : line_feed_count (take n bs) ≡ 0 =
    sym (feeds_before n bs (omega (arith, c.requires.within))) ∙ ap (λ m. count_ones (m % 2 ^ n)) (sym c.line_feed_bits_of_block-feeds.ensures ∙ c.if-feeds-eq0.true) ∙ ap count_ones zero in
    omega (arith, none)

pub returns : goal.returns
returns c =
    let n = c.args.n in
    let few : n ≤ 64 = omega (arith, c.requires.within) in
    ap (λ k. c.args.lines + k)
    (below c.line_feed_bits_of_block-feeds.result n c.requires.within ∙ ap (λ m. count_ones (m % 2 ^ n)) c.line_feed_bits_of_block-feeds.ensures ∙ feeds_before n c.args.buffered.now few)
