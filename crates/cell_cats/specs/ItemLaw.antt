-- The items on the left side of a rule line (r.reclass manual).
use Rattle.std.specs.Prelude.{ℕ, ◌≡◌, ◌↔◌, Bool, true, ◌&&◌, List, [], ◌∷◌, map, Option, Some, None, codes}
use Rattle.std.specs.List.{flat_map, list_all}
use Rattle.cell_cats.specs.RuleReading.{is_number_word, rule_items_in_words}

-- an item as written: a word and, for a range, the word after `thru`
abbrev pub RuleItem : Type 0
RuleItem = List ℕ × Option (List ℕ)

-- `thru` and the second word if the item is a range, and otherwise no words
abbrev pub thru_and_second_word_of_item : Option (List ℕ) → List (List ℕ)
thru_and_second_word_of_item None = []
thru_and_second_word_of_item (Some b) = codes "thru" ∷ b ∷ []

-- all words of an item
abbrev pub words_of_rule_item : RuleItem → List (List ℕ)
words_of_rule_item item = item.0 ∷ thru_and_second_word_of_item item.1

-- the second word, if there is one, stands for a number
abbrev pub is_absent_or_number_word : Option (List ℕ) → Bool
is_absent_or_number_word None = true
is_absent_or_number_word (Some b) = is_number_word b

-- all words of the item except `thru` stand for numbers
abbrev pub rule_item_has_number_ends : RuleItem → Bool
rule_item_has_number_ends item = is_number_word item.0 && is_absent_or_number_word item.1

-- the second end of an item; a single word is both ends
abbrev pub second_end_of_rule_item : List ℕ → Option (List ℕ) → List ℕ
second_end_of_rule_item a None = a
second_end_of_rule_item a (Some b) = b

-- the two ends of an item
abbrev pub ends_of_rule_item : RuleItem → List ℕ × List ℕ
ends_of_rule_item item = (item.0, second_end_of_rule_item item.0 item.1)

-- the words spell items, one after another, and `ends` are the ends of these items
pub record WordsSpellRuleItems (words : List (List ℕ)) (ends : List (List ℕ × List ℕ)) : Type 0 where
  pub items : List RuleItem
  pub good : list_all rule_item_has_number_ends items ≡ true
  pub words_are : flat_map words_of_rule_item items ≡ words
  pub ends_are : map ends_of_rule_item items ≡ ends

-- words are read as items if and only if they spell these items
abbrev pub WordsAreReadAsSpelledRuleItems : Type 0
WordsAreReadAsSpelledRuleItems = (words : List (List ℕ)) (ends : List (List ℕ × List ℕ)) → (rule_items_in_words words ≡ Some ends) ↔ WordsSpellRuleItems words ends
