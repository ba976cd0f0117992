-- Lines without a command (profile).
use Rattle.std.specs.Prelude.{ℕ, Bool, false, ◌==◌, List, [], ◌∷◌, ◌≡◌, true, codes}
use Rattle.cell_cats.specs.RuleLine.{is_blank_or_comment_line}
use Rattle.cell_core_values.specs.Blanks.{trimmed_text}
use Rattle.cell_core_values.specs.Letters.{byte}

-- a word starts a comment if its first byte is `#`
abbrev pub starts_comment : List ℕ → Bool
starts_comment [] = false
starts_comment (b ∷ bs) = b == byte (codes "#")

-- a line without a command: blank, or a comment
abbrev pub IsSkippedLine : List ℕ → Type 0
IsSkippedLine bytes = is_blank_or_comment_line (trimmed_text bytes) ≡ true
