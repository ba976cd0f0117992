use Rattle.std.proofs.Common.{◌≡◌, drop, map}
use Rattle.rcell_script.specs.OptionReading.{options_in_words, options_with_words}
use Rattle.rcell_script.proofs.options.options_in_words.Given as goal

abbrev pub invariant-loop-word : goal.invariant-loop-word
invariant-loop-word l = options_in_words l.form (map (λ w. w.now) l.words)
    ≡ options_with_words l.form l.options (map (λ w. w.now) (drop l.word-index l.words))
