-- A line without content, in terms of its words and in terms of its bytes.
use Rattle.std.proofs.Common.{◌≡◌, ℕ, Bool, true, false, List, [], ◌∷◌, refl, sym, ◌∙◌}
use Rattle.std.specs.List.{filter, slice_split, onto_first}
use Rattle.cell_cats.specs.RuleLine.{is_blank_or_comment_line}
use Rattle.cell_core_values.specs.Blanks.{is_blank, without_trailing_blanks, trimmed_text}
use Rattle.cell_core_values.specs.Words.{is_nonempty_word, words_of_line}
use Rattle.rcell_script.specs.Skipped.{starts_comment}

-- the words have no content: there are none, or they are a comment
abbrev pub say_nothing : List (List ℕ) → Bool
say_nothing [] = true
say_nothing (w ∷ ws) = starts_comment w

first_word : (b : ℕ) (parts : List (List ℕ)) → say_nothing (filter is_nonempty_word (onto_first b parts))
    ≡ starts_comment (b ∷ [])
first_word b [] = refl
first_word b (part ∷ parts) = refl

first_kept : (b : ℕ) (bs : List ℕ) → is_blank b ≡ false → is_blank_or_comment_line (without_trailing_blanks (b ∷ bs))
    ≡ starts_comment (b ∷ [])
first_kept b bs e = rw e refl

-- a line has no content exactly if its text without leading blanks is empty or a comment
pub say_nothing-trimmed : (line : List ℕ) → say_nothing (words_of_line line)
    ≡ is_blank_or_comment_line (trimmed_text line)
say_nothing-trimmed [] = refl
say_nothing-trimmed (b ∷ bs) = by (is_blank b) refl (say_nothing-trimmed bs)
  where
    by : (blank : Bool) → is_blank b ≡ blank → say_nothing (words_of_line bs) ≡ is_blank_or_comment_line (trimmed_text bs) → say_nothing (words_of_line (b ∷ bs)) ≡ is_blank_or_comment_line (trimmed_text (b ∷ bs))
    by true e rest = rw e rest
    by false e rest = rw e (first_word b (slice_split is_blank bs) ∙ sym (first_kept b bs e))
