use Rattle.std.proofs.Common.{◌≡◌, ◌≤◌, ◌<◌, ◌+◌, ◌-◌, ◌*◌, ◌/◌, ℕ, arith}
use Rattle.cell_ascii.proofs.AgainLemmas.{comes_again}
use Rattle.cell_ascii.proofs.short_cells.repetition_count_of_first_word.Goals as goal

enough_bytes : (times bytes n : ℕ) → 0 < n → 0 < bytes → times ≡ (bytes - 1) / n → times * n + 1 ≤ bytes
enough_bytes times bytes n some more e = let least : (bytes - 1) / n * n ≤ bytes - 1 = omega arith in rw e
    (omega (arith, least))

pub returns-clause-again : goal.returns-clause-again
returns-clause-again c =
    let more : 0 < c.byte_count_continuing_period-bytes.result = omega (arith, c.if-bytes-eq0.false) in
    comes_again c.args.buffered.now c.args.n c.byte_count_continuing_period-bytes.result
    c.quotient_by_word_length.result c.byte_count_continuing_period-bytes.ensures.alike
    (enough_bytes c.quotient_by_word_length.result c.byte_count_continuing_period-bytes.result c.args.n
    c.requires.some more c.quotient_by_word_length.ensures)
