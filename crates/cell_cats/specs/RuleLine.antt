-- The rule that a line spells (r.reclass manual; comments, blank lines and commas are our own choice).
use Rattle.std.specs.Prelude.{ℕ, ℤ, ◌≡◌, ◌≢◌, ◌<◌, ◌⊎◌, ◌==◌, Bool, true, false, List, [], ◌∷◌, ◌++◌, length, Option, Some, None, codes}
use Rattle.std.specs.List.{before_first, after_first, list_any}
use Rattle.cell_core_values.specs.Letters.{byte}
use Rattle.cell_core_values.specs.Blanks.{is_blank, trimmed_text}
use Rattle.cell_core_values.specs.WholeNumbers.{whole_number_in_category_range}
use Rattle.cell_core_values.specs.Words.{is_equals_sign, words_between_blanks_or_commas}
use Rattle.cell_cats.specs.Rule.{RuleValue}
use Rattle.cell_cats.specs.declared.rule.Output.{Output}
use Rattle.cell_cats.specs.declared.rule.Output.TheVariants.{Same, To}

-- the line is blank or a comment
abbrev pub is_blank_or_comment_line : List ℕ → Bool
is_blank_or_comment_line [] = true
is_blank_or_comment_line (b ∷ bs) = b == byte (codes "#")

-- the words spell ranges, one after another: `N thru N`, or a single `N` for both ends
pub data SpellsRanges : List (List ℕ) → List (ℤ × ℤ) → Type 0 where
  none : SpellsRanges [] []
  one : {word : List ℕ} {words : List (List ℕ)} {end : ℤ} {ranges : List (ℤ × ℤ)}
      → whole_number_in_category_range word ≡ Some end → SpellsRanges words ranges
      → SpellsRanges (word ∷ words) ((end, end) ∷ ranges)
  thru : {word other : List ℕ} {words : List (List ℕ)} {end last : ℤ} {ranges : List (ℤ × ℤ)}
      → whole_number_in_category_range word ≡ Some end → whole_number_in_category_range other ≡ Some last
      → SpellsRanges words ranges
      → SpellsRanges (word ∷ codes "thru" ∷ other ∷ words) ((end, last) ∷ ranges)

-- the words spell the left side of a rule: `*`, or one or more ranges
abbrev pub SpellsRuleLeftSide : List (List ℕ) → Option (List (ℤ × ℤ)) → Type 0
SpellsRuleLeftSide words None = words ≡ codes "*" ∷ []
SpellsRuleLeftSide words (Some ranges) = (0 < length words) × SpellsRanges words ranges

-- the word spells an output: `*`, null or a category
abbrev pub SpellsRuleOutput : List ℕ → Output → Type 0
SpellsRuleOutput word Same = word ≡ codes "*"
SpellsRuleOutput word (To None) = (word ≡ codes "NULL") ⊎ (word ≡ codes "null")
SpellsRuleOutput word (To (Some category)) = whole_number_in_category_range word ≡ Some category

-- the first word of the right side
abbrev pub output_word_in_right_side : List ℕ → List ℕ
output_word_in_right_side right = before_first is_blank right

-- the label: the text after the first word of the right side
abbrev pub label_in_right_side : List ℕ → List ℕ
label_in_right_side right = trimmed_text (after_first is_blank right)

-- the line spells a rule; its two sides are separated by the first equals sign, and `*` is an output only if the left
-- side is `*`
pub record SpellsRule (line : List ℕ) (rule : RuleValue) : Type 0 where
  pub not_skipped : is_blank_or_comment_line (trimmed_text line) ≡ false
  pub not_end : trimmed_text line ≢ codes "end"
  pub left : List ℕ
  pub right : List ℕ
  pub sides : line ≡ left ++ (codes "=" ++ right)
  pub before : list_any is_equals_sign left ≡ false
  pub listed : SpellsRuleLeftSide (words_between_blanks_or_commas left) rule.listed
  pub output : SpellsRuleOutput (output_word_in_right_side (trimmed_text right)) rule.output
  pub kept : rule.output ≡ Same → rule.listed ≡ None
  pub label : label_in_right_side (trimmed_text right) ≡ rule.label
