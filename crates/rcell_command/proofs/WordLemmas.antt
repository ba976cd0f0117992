-- Words, and the bytes of borrowed words.
use Rattle.std.proofs.Common.{Bor, ◌≡◌, List}
use Rattle.std.specs.List.{list_any}
use Rattle.clap.proofs.WalkLemmas.{list_any-map}
use Rattle.clap.specs.Walk.{Text, texts}
use Rattle.rcell_command.specs.CommandWords.{begins_with_hyphen, has_word_starting_with_hyphen}

pub hyphens_of_texts : (words : List (Bor Text)) → list_any (λ word. begins_with_hyphen word.now) words
    ≡ has_word_starting_with_hyphen (texts words)
hyphens_of_texts words = list_any-map begins_with_hyphen (λ (w : Bor Text). w.now) words
