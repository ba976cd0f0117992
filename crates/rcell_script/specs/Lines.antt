-- The numbered lines of a script (profile).
use Rattle.std.specs.Prelude.{ℕ, List, [], ◌∷◌, map, ◌+◌}
use Rattle.bstr.specs.Text.{lines_of, without_terminator}

-- a script is split at line feeds; a carriage return right before a line feed is not part of the line
abbrev pub script_lines : List ℕ → List (List ℕ)
script_lines text = map without_terminator (lines_of text)

-- a line and its number
pub record ScriptLine : Type 0 where
  pub number : ℕ
  pub bytes : List ℕ

-- lines with their numbers, starting at `first`
abbrev pub numbered_lines : ℕ → List (List ℕ) → List ScriptLine
numbered_lines first [] = []
numbered_lines first (l ∷ ls) = record { number = first; bytes = l } ∷ numbered_lines (first + 1) ls
