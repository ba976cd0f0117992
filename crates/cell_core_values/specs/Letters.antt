-- Letters of texts, written as letters, for example `byte (codes ",")` or `is_byte_in_text (codes "clnN1")`.
use Rattle.std.specs.Prelude.{ℕ, Bool, ◌==◌, List, [], ◌∷◌}
use Rattle.std.specs.List.{list_any}

-- the only byte of a text
abbrev pub byte : List ℕ → ℕ
byte [] = 0
byte (b ∷ bs) = b

-- the byte occurs in the text
abbrev pub is_byte_in_text : List ℕ → ℕ → Bool
is_byte_in_text letters b = list_any (λ letter. letter == b) letters
