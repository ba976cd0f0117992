use Rattle.std.proofs.Common.{◌≡◌, ℕ, ◌<◌, get_or, false}
use Rattle.cell_core_values.specs.Words.{is_equals_sign}
use Rattle.cell_core_values.proofs.words.texts_around_equals_sign.Given as goal

abbrev pub invariant-loop-i : goal.invariant-loop-i
invariant-loop-i l = (k : ℕ) → k < l.i → is_equals_sign (get_or l.text k 0) ≡ false
