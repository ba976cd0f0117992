use Rattle.std.proofs.Common.{◌≡◌, ◌≤◌, ◌<◌, ◌-◌, ◌∙◌, sym, arith, rules, length, take, drop}
use Rattle.std.specs.Prelude.{slice_index_or}
use Rattle.cell_ascii.proofs.BufferedLemmas.{first_rest, holds_word}
use Rattle.cell_ascii.proofs.short_cells.length_of_spaced_word.Goals as goal

pub returns-then-i-le-MOST_WORD_BYTES-clause-word : goal.returns-then-i-le-MOST_WORD_BYTES-clause-word
returns-then-i-le-MOST_WORD_BYTES-clause-word c =
    let buffered = c.args.buffered.now in
    let rest = take (length buffered - 1) (drop 1 buffered) in
    let i = c.loop-i.i in
    let first : slice_index_or buffered 0 0 ≡ 32 = search rules in
    let some : 1 ≤ length buffered = omega arith in
    let within : i < length rest = search rules in
    holds_word buffered rest i (first_rest buffered 32 some first) (omega arith) (omega arith) within c.loop-i.invariant.word (sym c.is_space.ensures ∙ c.if-is_space.true)
