-- The words of a command line (profile).
use Rattle.std.specs.Prelude.{ℕ, Bool, not, List, [], ◌∷◌, ◌==◌, false, codes}
use Rattle.std.specs.List.{list_any}
use Rattle.cell_core_values.specs.Letters.{byte}

-- the word begins with a hyphen
abbrev pub begins_with_hyphen : List ℕ → Bool
begins_with_hyphen [] = false
begins_with_hyphen (b ∷ rest) = b == byte (codes "-")

-- some word begins with a hyphen
abbrev pub has_word_starting_with_hyphen : List (List ℕ) → Bool
has_word_starting_with_hyphen words = list_any begins_with_hyphen words

-- there are at least two words, and the first does not begin with a hyphen
abbrev pub is_valid_command_line : List (List ℕ) → Bool
is_valid_command_line (first ∷ word ∷ words) = not (begins_with_hyphen first)
is_valid_command_line words = false
