-- Blanks in a line (profile).
use Rattle.std.specs.Prelude.{ℕ, Bool, ◌||◌, ◌==◌, List, [], ◌∷◌, if◌then◌else◌, codes}
use Rattle.std.specs.List.{list_all}
use Rattle.cell_core_values.specs.Letters.{byte}

-- the byte is a space, a tab or a carriage return
abbrev pub is_blank : ℕ → Bool
is_blank b = (b == byte (codes " ") || b == byte (codes "\t")) || b == byte (codes "\r")

-- the text without leading blanks
abbrev pub without_leading_blanks : List ℕ → List ℕ
without_leading_blanks [] = []
without_leading_blanks (b ∷ bs) = if is_blank b then without_leading_blanks bs else b ∷ bs

-- the text without trailing blanks
abbrev pub without_trailing_blanks : List ℕ → List ℕ
without_trailing_blanks [] = []
without_trailing_blanks (b ∷ bs) = if list_all is_blank (b ∷ bs) then [] else b ∷ without_trailing_blanks bs

-- the text without leading and trailing blanks
abbrev pub trimmed_text : List ℕ → List ℕ
trimmed_text text = without_trailing_blanks (without_leading_blanks text)
