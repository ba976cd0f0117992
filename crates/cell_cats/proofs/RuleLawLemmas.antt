-- A rule line is read as the rule that it spells.
use Rattle.std.proofs.Common.{◌≡◌, ◌≢◌, ℕ, ℤ, Bool, true, false, cond, List, [], ◌∷◌, ◌++◌, Option}
use Rattle.std.proofs.Common.{Some, None, Result, Ok, Err, codes, inl, inr, refl, ap, sym, subst, ◌∙◌}
use Rattle.std.specs.Prelude.{◌||◌, bytes_eq}
use Rattle.std.specs.Option.{option_map, ok_or}
use Rattle.cell_core_values.specs.Answers.{◌>>=◌}
use Rattle.std.specs.Cmp.Lexicographic.{bytes_decides}
use Rattle.cell_core_values.specs.Blanks.{trimmed_text}
use Rattle.cell_core_values.specs.WholeNumbers.{whole_number_in_category_range}
use Rattle.cell_core_values.specs.Words.{words_between_blanks_or_commas, texts_around_equals_sign}
use Rattle.cell_cats.specs.Rule.{RuleValue}
use Rattle.cell_cats.specs.RuleLine.{is_blank_or_comment_line, SpellsRuleOutput, output_word_in_right_side}
use Rattle.cell_cats.specs.RuleLine.{label_in_right_side}
use Rattle.cell_cats.specs.RuleLine.{SpellsRule}
use Rattle.cell_cats.specs.RuleReading.{is_star, RuleLeftSide, rule_left_side_of_words, is_rule_output_word}
use Rattle.cell_cats.specs.RuleReading.{is_star_left_side}
use Rattle.cell_cats.specs.RuleReading.{parsed_ranges, ranges_of_left_side, parsed_rule_output, rule_or_fault_of_sides}
use Rattle.cell_cats.specs.RuleReading.{rule_of_line, LinesAddRulesTheySpell}
use Rattle.cell_cats.specs.declared.rule.Output.{Output}
use Rattle.cell_cats.specs.declared.rule.Output.TheVariants.{Same, To}
use Rattle.cell_cats.specs.declared.rules.LineKind.{LineKind}
use Rattle.cell_cats.specs.declared.rules.LineKind.TheVariants.{Rule, Skipped, End}
use Rattle.cell_cats.specs.declared.rules.RuleFault.{RuleFault}
use Rattle.cell_cats.specs.declared.rules.RuleFault.TheVariants.{BadRule, BadNumber}
use Rattle.cell_cats.proofs.PairLemmas.{sides-sound, sides-complete}
use Rattle.cell_cats.proofs.RangeLawLemmas.{number-other, listed-sound, listed-complete}

output-sound : (word : List ℕ) (output : Output) → parsed_rule_output word ≡ Some output → SpellsRuleOutput word output
output-sound word output e =
    by (bytes_eq word (codes "NULL")) (bytes_eq word (codes "null")) (is_star word)
    (whole_number_in_category_range word) refl refl
    refl refl output e
  where
    by : (capital small star : Bool) (number : Option ℤ) → bytes_eq word (codes "NULL") ≡ capital
        → bytes_eq word (codes "null") ≡ small → is_star word ≡ star → whole_number_in_category_range word ≡ number
        → (output : Output) → cond (capital || small) (Some (To None))
        (cond star (Some Same) (option_map (λ n. To (Some n)) number)) ≡ Some output → SpellsRuleOutput word output
    by true small star number c m s n output h = let same : To None ≡ output = cc in
        subst (SpellsRuleOutput word) same (inl ((bytes_decides word (codes "NULL")).0 c))
    by false true star number c m s n output h = let same : To None ≡ output = cc in
        subst (SpellsRuleOutput word) same (inr ((bytes_decides word (codes "null")).0 m))
    by false false true number c m s n output h = let same : Same ≡ output = cc in
        subst (SpellsRuleOutput word) same ((bytes_decides word (codes "*")).0 s)
    by false false false None c m s n output h = cc
    by false false false (Some category) c m s n output h = let same : To (Some category) ≡ output = cc in
        subst (SpellsRuleOutput word) same n

or-true : (a : Bool) → (a || true) ≡ true
or-true true = refl
or-true false = refl

or-false : (a : Bool) → (a || false) ≡ true → a ≡ true
or-false true e = refl
or-false false e = e

-- any number in range may be on the right
number-fits : (star : Bool) (word : List ℕ) (n : ℤ) → whole_number_in_category_range word ≡ Some n
    → is_rule_output_word star word ≡ true
number-fits star [] n e = cc
number-fits star (b ∷ bs) n e =
    rw (number-other (b ∷ bs) (codes "thru") n e refl, number-other (b ∷ bs) (codes "*") n e refl) (or-true star)

output-complete : (star : Bool) (word : List ℕ) (output : Output) → SpellsRuleOutput word output
    → (output ≡ Same → star ≡ true)
    → (parsed_rule_output word ≡ Some output) × (is_rule_output_word star word ≡ true)
output-complete star word Same s kept = (ap parsed_rule_output s, ap (is_rule_output_word star) s ∙ rw (kept refl) refl)
output-complete star word (To None) (inl s) kept = (
  ap parsed_rule_output s,
  ap (is_rule_output_word star) s
      ∙ or-true star,
)
output-complete star word (To None) (inr s) kept = (
  ap parsed_rule_output s,
  ap (is_rule_output_word star) s
      ∙ or-true star,
)
output-complete star word (To (Some category)) s kept = (
  rw (
    number-other word (codes "NULL") category s refl,
    number-other word (codes "null") category s refl,
    number-other
        word (codes "*") category s refl,
    s,
  ) refl,
  number-fits star word category s,
)

-- an output that keeps the category is allowed only if the left side is `*`
kept-star : (star : Bool) (word : List ℕ) (output : Output) → SpellsRuleOutput word output
    → is_rule_output_word star word ≡ true
    → output ≡ Same → star ≡ true
kept-star star word output s fits same =
    let word_is : word ≡ codes "*" = subst (SpellsRuleOutput word) same s in
    or-false star (ap (is_rule_output_word star) (sym word_is) ∙ fits)

star-lists : (side : RuleLeftSide) (listed : Option (List (ℤ × ℤ))) → ranges_of_left_side side ≡ Some listed
    → is_star_left_side side ≡ true → listed ≡ None
star-lists None listed e star = cc
star-lists (Some items) listed e star = cc

lists-star : (side : RuleLeftSide) (listed : Option (List (ℤ × ℤ))) → ranges_of_left_side side ≡ Some listed
    → listed ≡ None
    → is_star_left_side side ≡ true
lists-star None listed e none = refl
lists-star (Some items) listed e none = by (parsed_ranges items) e
  where
    by : (o : Option (List (ℤ × ℤ))) → option_map Some o ≡ Some listed → false ≡ true
    by None h = cc
    by (Some ranges) h = cc

-- the two sides of a rule line that was read, and what they were read as
record Taken (line : List ℕ) (rule : RuleValue) : Type 0 where
  left : List ℕ
  right : List ℕ
  pair : texts_around_equals_sign line ≡ Some (left, right)
  side : RuleLeftSide
  side_is : rule_left_side_of_words (words_between_blanks_or_commas left) ≡ Some side
  fits : is_rule_output_word (is_star_left_side side) (output_word_in_right_side (trimmed_text right)) ≡ true
  listed : Option (List (ℤ × ℤ))
  listed_is : ranges_of_left_side side ≡ Some listed
  output : Output
  output_is : parsed_rule_output (output_word_in_right_side (trimmed_text right)) ≡ Some output
  whole : record { listed = listed; output = output; label = label_in_right_side (trimmed_text right) } ≡ rule

module _ (line : List ℕ) (rule : RuleValue) where
  at_side : (left right : List ℕ) → texts_around_equals_sign line ≡ Some (left, right) → (side : RuleLeftSide)
      → rule_left_side_of_words (words_between_blanks_or_commas left) ≡ Some side
      → rule_or_fault_of_sides (trimmed_text right) side ≡ Ok rule → Taken line rule
  at_side left right pair side is e =
      by (is_rule_output_word (is_star_left_side side) (output_word_in_right_side (trimmed_text right)))
      (ranges_of_left_side side)
      (parsed_rule_output (output_word_in_right_side (trimmed_text right))) refl refl refl e
    where
      by : (fits : Bool) (listed : Option (Option (List (ℤ × ℤ)))) (output : Option Output)
          → is_rule_output_word (is_star_left_side side) (output_word_in_right_side (trimmed_text right)) ≡ fits
          → ranges_of_left_side side ≡ listed → parsed_rule_output (output_word_in_right_side (trimmed_text right))
          ≡ output
          → cond fits (ok_or listed BadNumber >>= λ l. ok_or output BadNumber >>= λ o. Ok
          (record { listed = l; output = o; label = label_in_right_side (trimmed_text right) })) (Err BadRule)
          ≡ Ok rule → Taken line rule
      by false listed output f l o h = cc
      by true None output f l o h = cc
      by true (Some listed) None f l o h = cc
      by true (Some listed) (Some output) f l o h =
          let same : record { listed = listed; output = output; label = label_in_right_side (trimmed_text right) }
          ≡ rule =
          cc in
          record {
            left = left;
            right = right;
            pair = pair;
            side = side;
            side_is = is;
            fits = f;
            listed = listed;
            listed_is = l;
            output = output;
            output_is = o;
            whole = same;
          }

  at_sides : (left right : List ℕ) → texts_around_equals_sign line ≡ Some (left, right) → (side : Option RuleLeftSide)
      → rule_left_side_of_words (words_between_blanks_or_commas left) ≡ side
      → (ok_or side BadRule >>= rule_or_fault_of_sides (trimmed_text right)) ≡ Ok rule → Taken line rule
  at_sides left right pair None is e = cc
  at_sides left right pair (Some side) is e = at_side left right pair side is e

  at_line : (sides : Option (List ℕ × List ℕ)) → texts_around_equals_sign line ≡ sides
      → (ok_or sides BadRule >>= λ sides. ok_or (rule_left_side_of_words
      (words_between_blanks_or_commas sides.0)) BadRule >>=
      λ left. rule_or_fault_of_sides
      (trimmed_text sides.1) left) ≡ Ok rule → Taken line rule
  at_line None pair e = cc
  at_line (Some (left, right)) pair e = at_sides left right pair
      (rule_left_side_of_words (words_between_blanks_or_commas left)) refl e

  -- a rule line that was read spells its rule
  pub rule-sound : is_blank_or_comment_line (trimmed_text line) ≡ false → trimmed_text line ≢ codes "end"
      → rule_of_line line ≡ Ok rule
      → SpellsRule line rule
  rule-sound not_skipped not_end e =
      let t = at_line (texts_around_equals_sign line) refl e in
      let s = sides-sound line t.left t.right t.pair in
      let output = output-sound (output_word_in_right_side (trimmed_text t.right)) t.output t.output_is in
      subst (SpellsRule line) t.whole (record {
        not_skipped = not_skipped;
        not_end = not_end;
        left = t.left;
        right = t.right;
        sides = s.0;
        before = s.1;
        listed = listed-sound (words_between_blanks_or_commas t.left) t.listed
            (record { side = t.side; is = t.side_is; read = t.listed_is });
        output = output;
        kept = λ same. star-lists t.side t.listed t.listed_is
            (kept-star (is_star_left_side t.side) (output_word_in_right_side
            (trimmed_text t.right)) t.output output t.fits same);
        label = refl;
      })

  -- a line that spells a rule is read as that rule
  pub rule-complete : SpellsRule line rule → rule_of_line line ≡ Ok rule
  rule-complete s =
      let l = listed-complete (words_between_blanks_or_commas s.left) rule.listed s.listed in
      let o = output-complete (is_star_left_side l.side) (output_word_in_right_side
      (trimmed_text s.right)) rule.output s.output
      (λ same. lists-star l.side rule.listed l.read (s.kept same)) in
      let pair : texts_around_equals_sign line ≡ Some (s.left, s.right) = ap texts_around_equals_sign s.sides
      ∙ sides-complete s.left s.right s.before in
      rw (pair, l.is, o.1, l.read, o.0, s.label) refl

last-same : {X : Type 0} (xs : List X) (x y : X) → xs ++ x ∷ [] ≡ xs ++ y ∷ [] → x ≡ y
last-same [] x y e = cc
last-same (z ∷ xs) x y e = last-same xs x y cc

pub rules-are-read : LinesAddRulesTheySpell
rules-are-read rules line rule = (
  λ e. by (is_blank_or_comment_line (trimmed_text line)) (bytes_eq (trimmed_text line) (codes "end"))
      (rule_of_line line) refl refl refl e,
  complete,
)
  where
    by : (skipped end : Bool) (read : Result RuleValue RuleFault)
        → is_blank_or_comment_line (trimmed_text line) ≡ skipped
        → bytes_eq (trimmed_text line) (codes "end") ≡ end → rule_of_line line ≡ read
        → cond {A = Result (LineKind
        × List RuleValue) RuleFault} skipped (Ok (Skipped, rules))
        (cond end (Ok (End, rules)) (read >>= λ rule. Ok (Rule, rules ++ rule ∷ [])))
        ≡ Ok (Rule, rules ++ rule ∷ []) → SpellsRule line rule
    by true end read s n r h =
        let same : ◌≡◌ {A = LineKind × List RuleValue} (Skipped, rules) (Rule, rules ++ rule ∷ []) = cc in
        let kinds : Skipped ≡ Rule = ap (λ p. p.0) same in cc
    by false true read s n r h =
        let same : ◌≡◌ {A = LineKind × List RuleValue} (End, rules) (Rule, rules ++ rule ∷ []) = cc in
        let kinds : End ≡ Rule = ap (λ p. p.0) same in cc
    by false false (Err fault) s n r h = cc
    by false false (Ok other) s n r h =
        let same : ◌≡◌ {A = LineKind × List RuleValue} (Rule, rules ++ other ∷ []) (
          Rule,
          rules ++ rule
              ∷ [],
        ) = cc in
        let one : other ≡ rule = last-same rules other rule (ap (λ p. p.1) same) in
        let inside : trimmed_text line ≢ codes "end" = λ e. let t : bytes_eq (trimmed_text line) (codes "end") ≡ true =
        (bytes_decides (trimmed_text line) (codes "end")).1 e in cc in
        rule-sound line rule s inside (r ∙ ap Ok one)

    apart : trimmed_text line ≢ codes "end" → bytes_eq (trimmed_text line) (codes "end") ≡ false
    apart other = at (bytes_eq (trimmed_text line) (codes "end")) refl
      where
        at : (end : Bool) → bytes_eq (trimmed_text line) (codes "end") ≡ end
            → bytes_eq (trimmed_text line) (codes "end") ≡ false
        at true e = absurd (other ((bytes_decides (trimmed_text line) (codes "end")).0 e))
        at false e = e

    complete : SpellsRule line rule
        → cond {A = Result (LineKind
        × List RuleValue) RuleFault} (is_blank_or_comment_line (trimmed_text line)) (Ok (Skipped, rules))
        (cond (bytes_eq (trimmed_text line) (codes "end")) (Ok (End, rules))
        (rule_of_line line >>= λ rule. Ok (Rule, rules ++ rule ∷ []))) ≡ Ok (Rule, rules ++ rule ∷ [])
    complete s = rw (s.not_skipped, apart s.not_end, rule-complete line rule s) refl
