-- The words of a line (profile), the parts of a value between commas (r.stats manual), and a key with its value
-- (r.stats manual).
use Rattle.std.specs.Prelude.{ℕ, Bool, true, false, ◌||◌, ◌==◌, nat_lt, List, [], ◌∷◌, length, Option, Some, None, if◌then◌else◌, codes}
use Rattle.std.specs.List.{filter, slice_split, position_or_len, before_first, after_first}
use Rattle.cell_core_values.specs.Letters.{byte}
use Rattle.cell_core_values.specs.Blanks.{is_blank}

-- the word has at least one byte
abbrev pub is_nonempty_word : List ℕ → Bool
is_nonempty_word [] = false
is_nonempty_word (b ∷ bs) = true

-- the longest runs of bytes that are not blanks
abbrev pub words_of_line : List ℕ → List (List ℕ)
words_of_line line = filter is_nonempty_word (slice_split is_blank line)

-- the byte is a blank or a comma
abbrev pub is_blank_or_comma : ℕ → Bool
is_blank_or_comma b = is_blank b || b == byte (codes ",")

-- the longest runs of bytes that are neither blanks nor commas
abbrev pub words_between_blanks_or_commas : List ℕ → List (List ℕ)
words_between_blanks_or_commas line = filter is_nonempty_word (slice_split is_blank_or_comma line)

-- the parts between commas
abbrev pub parts_between_commas : List ℕ → List (List ℕ)
parts_between_commas text = slice_split (λ b. b == byte (codes ",")) text

-- the byte is an equals sign
abbrev pub is_equals_sign : ℕ → Bool
is_equals_sign b = b == byte (codes "=")

-- the texts before and after the first equals sign, if there is one
abbrev pub texts_around_equals_sign : List ℕ → Option (List ℕ × List ℕ)
texts_around_equals_sign text = if nat_lt (position_or_len is_equals_sign text) (length text) then Some
    (before_first is_equals_sign text, after_first is_equals_sign text) else None
