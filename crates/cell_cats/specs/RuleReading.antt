-- How a rule line is read, with its errors, and the law that exactly the spelled rules are read (r.reclass manual).
use Rattle.std.specs.Prelude.{ℕ, ℤ, Bool, true, false, not, ◌&&◌, ◌||◌, ◌≡◌, ◌↔◌, List, [], ◌∷◌, ◌++◌, Option, Some, None, Result, Ok, Err, if◌then◌else◌, bytes_eq, codes}
use Rattle.std.specs.Option.{option_map, option_and_then, ok_or}
use Rattle.cell_core_values.specs.Answers.{◌>>=◌}
use Rattle.cell_core_values.specs.Blanks.{trimmed_text}
use Rattle.cell_core_values.specs.WholeNumbers.{whole_number_in_category_range}
use Rattle.cell_core_values.specs.Words.{is_nonempty_word, words_between_blanks_or_commas, texts_around_equals_sign}
use Rattle.cell_cats.specs.Rule.{RuleValue}
use Rattle.cell_cats.specs.RuleLine.{is_blank_or_comment_line, output_word_in_right_side, label_in_right_side}
use Rattle.cell_cats.specs.RuleLine.{SpellsRule}
use Rattle.cell_cats.specs.declared.rule.Output.{Output}
use Rattle.cell_cats.specs.declared.rule.Output.TheVariants.{Same, To}
use Rattle.cell_cats.specs.declared.rules.LineKind.{LineKind}
use Rattle.cell_cats.specs.declared.rules.LineKind.TheVariants.{Rule, Skipped, End}
use Rattle.cell_cats.specs.declared.rules.RuleFault.{RuleFault}
use Rattle.cell_cats.specs.declared.rules.RuleFault.TheVariants.{BadRule, BadNumber}

-- the word is `thru`
abbrev pub is_thru_word : List ℕ → Bool
is_thru_word word = bytes_eq word (codes "thru")

-- the word is an asterisk
abbrev pub is_star : List ℕ → Bool
is_star word = bytes_eq word (codes "*")

-- the word denotes null as an output
abbrev pub is_null_word : List ℕ → Bool
is_null_word word = bytes_eq word (codes "NULL") || bytes_eq word (codes "null")

-- the word stands for a number, whether or not it is in range
abbrev pub is_number_word : List ℕ → Bool
is_number_word word = not (is_thru_word word) && not (is_star word)

-- the items with another item at the start, if both of its ends stand for numbers
abbrev pub items_with_number_item_in_front : List ℕ → List ℕ → Option (List (List ℕ × List ℕ))
    → Option (List (List ℕ × List ℕ))
items_with_number_item_in_front a b items = if is_number_word a && is_number_word b then option_map (λ more. (a, b)
    ∷ more) items else None

-- the two ends of each item in the words: `N thru N`, or a single `N` for both ends
abbrev pub rule_items_in_words : List (List ℕ) → Option (List (List ℕ × List ℕ))
rule_items_in_words [] = Some []
rule_items_in_words (a ∷ []) = items_with_number_item_in_front a a (Some [])
rule_items_in_words (a ∷ b ∷ []) = items_with_number_item_in_front a a (items_with_number_item_in_front b b (Some []))
rule_items_in_words (a ∷ b ∷ c ∷ words) = if is_thru_word b then items_with_number_item_in_front a c (rule_items_in_words words) else items_with_number_item_in_front a a (rule_items_in_words (b ∷ c ∷ words))

-- a left side: the ends of its items, or none for `*`
abbrev pub RuleLeftSide : Type 0
RuleLeftSide = Option (List (List ℕ × List ℕ))

-- the only word is `*`
abbrev pub is_lone_star : List (List ℕ) → Bool
is_lone_star [] = false
is_lone_star (w ∷ []) = is_star w
is_lone_star (w ∷ v ∷ words) = false

-- the items of one or more words
abbrev pub rule_items_of_nonempty_words : List (List ℕ) → Option (List (List ℕ × List ℕ))
rule_items_of_nonempty_words [] = None
rule_items_of_nonempty_words (w ∷ words) = rule_items_in_words (w ∷ words)

-- the left side that the words spell
abbrev pub rule_left_side_of_words : List (List ℕ) → Option RuleLeftSide
rule_left_side_of_words words = if is_lone_star words then Some None else option_map Some
    (rule_items_of_nonempty_words words)

-- the word may be an output; `*` may be an output only if the left side is `*`
abbrev pub is_rule_output_word : Bool → List ℕ → Bool
is_rule_output_word star word = (is_nonempty_word word && not (is_thru_word word)) && (star || not (is_star word))

abbrev pub is_star_left_side : RuleLeftSide → Bool
is_star_left_side None = true
is_star_left_side (Some items) = false

-- the numbers of two ends, if both are in range
abbrev pub parsed_range : List ℕ × List ℕ → Option (ℤ × ℤ)
parsed_range item = option_and_then (λ a. option_map (λ b. (a, b)) (whole_number_in_category_range item.1))
    (whole_number_in_category_range item.0)

-- the ranges of items, if all numbers are in range
abbrev pub parsed_ranges : List (List ℕ × List ℕ) → Option (List (ℤ × ℤ))
parsed_ranges [] = Some []
parsed_ranges (item ∷ items) = option_and_then (λ range. option_map (λ ranges. range ∷ ranges) (parsed_ranges items)) (parsed_range item)

-- the ranges of a left side, if all numbers are in range
abbrev pub ranges_of_left_side : RuleLeftSide → Option (Option (List (ℤ × ℤ)))
ranges_of_left_side None = Some None
ranges_of_left_side (Some items) = option_map Some (parsed_ranges items)

-- the output that a word denotes, if its number is in range
abbrev pub parsed_rule_output : List ℕ → Option Output
parsed_rule_output word = if is_null_word word then Some (To None) else (if is_star word then Some Same else option_map (λ n. To (Some n)) (whole_number_in_category_range word))

-- the rule of a well-formed line, or the error in its numbers
abbrev pub rule_or_number_fault : List ℕ → RuleLeftSide → Result RuleValue RuleFault
rule_or_number_fault right left =
    ok_or (ranges_of_left_side left) BadNumber >>= λ listed. ok_or
    (parsed_rule_output (output_word_in_right_side right)) BadNumber >>= λ output.
    Ok (record { listed = listed; output = output; label = label_in_right_side right })

-- the rule of a line with these two sides, or the error in its form or its numbers
abbrev pub rule_or_fault_of_sides : List ℕ → RuleLeftSide → Result RuleValue RuleFault
rule_or_fault_of_sides right left = if is_rule_output_word (is_star_left_side left)
    (output_word_in_right_side right) then rule_or_number_fault right left else Err BadRule

-- the rule that a line spells; its form is checked before its numbers
abbrev pub rule_of_line : List ℕ → Result RuleValue RuleFault
rule_of_line line =
    ok_or (texts_around_equals_sign line) BadRule >>= λ sides. ok_or (rule_left_side_of_words (words_between_blanks_or_commas sides.0)) BadRule >>= λ left. rule_or_fault_of_sides (trimmed_text sides.1) left

-- the kind of a line, and the rules after reading the line
abbrev pub line_kind_and_rules_after_line : List RuleValue → List ℕ → Result (LineKind × List RuleValue) RuleFault
line_kind_and_rules_after_line rules line =
    if is_blank_or_comment_line (trimmed_text line) then Ok (Skipped, rules)
    else (if bytes_eq (trimmed_text line) (codes "end") then Ok (End, rules) else (rule_of_line line >>= λ rule. Ok (Rule, rules ++ rule ∷ [])))

-- a line adds a rule if and only if it spells that rule
abbrev pub LinesAddRulesTheySpell : Type 0
LinesAddRulesTheySpell = (rules : List RuleValue) (line : List ℕ) (rule : RuleValue) → (line_kind_and_rules_after_line rules line ≡ Ok (Rule, rules ++ rule ∷ [])) ↔ SpellsRule line rule
