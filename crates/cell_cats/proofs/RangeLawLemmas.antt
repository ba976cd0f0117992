-- Words are read as ranges, and ranges are spelled by words.
use Rattle.std.proofs.Common.{◌≡◌, ℕ, ℤ, ◌<◌, Bool, true, false, cond, List, [], ◌∷◌}
use Rattle.std.proofs.Common.{map, length, Option, Some, None, codes, refl, ap, sym, subst, ◌∙◌, arith}
use Rattle.std.specs.Prelude.{bytes_eq}
use Rattle.std.specs.List.{flat_map}
use Rattle.std.specs.Option.{option_map, option_and_then}
use Rattle.std.specs.Cmp.Lexicographic.{bytes_decides}
use Rattle.cell_core_values.specs.WholeNumbers.{whole_number_in_category_range}
use Rattle.cell_cats.specs.RuleLine as line
use Rattle.cell_cats.specs.RuleLine.{SpellsRanges, SpellsRuleLeftSide}
use Rattle.cell_cats.specs.RuleReading.{is_star, is_number_word, rule_items_in_words, RuleLeftSide}
use Rattle.cell_cats.specs.RuleReading.{rule_left_side_of_words}
use Rattle.cell_cats.specs.RuleReading.{parsed_ranges, ranges_of_left_side}
use Rattle.cell_cats.specs.ItemLaw.{RuleItem, words_of_rule_item, ends_of_rule_item, WordsSpellRuleItems}
use Rattle.cell_cats.proofs.ItemLawLemmas.{both, add, none, items-are-read}

-- the text of a number differs from any word that is not a number
pub number-other : (word other : List ℕ) (n : ℤ) → whole_number_in_category_range word ≡ Some n
    → whole_number_in_category_range other ≡ None
    → bytes_eq word other ≡ false
number-other word other n e none = by (bytes_eq word other) refl
  where
    by : (same : Bool) → bytes_eq word other ≡ same → bytes_eq word other ≡ false
    by true is =
        let word_is : word ≡ other = (bytes_decides word other).0 is in
        let found : whole_number_in_category_range other ≡ Some n = ap whole_number_in_category_range (sym word_is)
        ∙ e in
        cc
    by false is = is

pub number-end : (word : List ℕ) (n : ℤ) → whole_number_in_category_range word ≡ Some n → is_number_word word ≡ true
number-end word n e = rw (number-other word (codes "thru") n e refl, number-other word (codes "*") n e refl) refl

-- the two numbers of an item that was read as a range
record Numbers (item : List ℕ × List ℕ) (items : List (List ℕ × List ℕ)) (ranges : List (ℤ × ℤ)) : Type 0 where
  range : ℤ × ℤ
  more : List (ℤ × ℤ)
  first : whole_number_in_category_range item.0 ≡ Some range.0
  second : whole_number_in_category_range item.1 ≡ Some range.1
  rest : parsed_ranges items ≡ Some more
  whole : range ∷ more ≡ ranges

numbers : (item : List ℕ × List ℕ) (items : List (List ℕ × List ℕ)) (ranges : List (ℤ × ℤ))
    → parsed_ranges (item ∷ items) ≡ Some ranges → Numbers item items ranges
numbers item items ranges e = by (whole_number_in_category_range item.0) (whole_number_in_category_range item.1)
    (parsed_ranges items) refl refl refl e
  where
    by : (a b : Option ℤ) (o : Option (List (ℤ × ℤ))) → whole_number_in_category_range item.0 ≡ a
        → whole_number_in_category_range item.1 ≡ b
        → parsed_ranges items ≡ o
        → option_and_then (λ range. option_map (λ ranges. range ∷ ranges) o)
        (option_and_then (λ a. option_map (λ b. (a, b)) b) a) ≡ Some ranges → Numbers item items ranges
    by None b o f s r h = cc
    by (Some a) None o f s r h = cc
    by (Some a) (Some b) None f s r h = cc
    by (Some a) (Some b) (Some more) f s r h =
        record { range = (a, b); more = more; first = f; second = s; rest = r; whole = cc }

-- the words of items whose ends are numbers spell their ranges
items-spell : (items : List RuleItem) (ranges : List (ℤ × ℤ))
    → parsed_ranges (map ends_of_rule_item items) ≡ Some ranges
    → SpellsRanges (flat_map words_of_rule_item items) ranges
items-spell [] ranges e = let same : [] ≡ ranges = cc in subst (SpellsRanges []) same line.SpellsRanges.none
items-spell ((word, None) ∷ items) ranges e =
    let n = numbers (word, word) (map ends_of_rule_item items) ranges e in
    let one : Some n.range.0 ≡ Some n.range.1 = sym n.first ∙ n.second in
    let last : n.range.0 ≡ n.range.1 = cc in
    let pair : (n.range.0, n.range.0) ≡ n.range = ap (λ x. (n.range.0, x)) last in
    subst (SpellsRanges (word ∷ flat_map words_of_rule_item items)) (ap (λ r. r ∷ n.more) pair ∙ n.whole)
    (line.SpellsRanges.one n.first (items-spell items n.more n.rest))
items-spell ((word, Some other) ∷ items) ranges e =
    let n = numbers (word, other) (map ends_of_rule_item items) ranges e in
    subst (SpellsRanges (word ∷ codes "thru" ∷ other ∷ flat_map words_of_rule_item items)) n.whole
    (line.SpellsRanges.thru n.first n.second (items-spell items n.more n.rest))

-- the words are read as items, and the items as these ranges
record IsRead (words : List (List ℕ)) (ranges : List (ℤ × ℤ)) : Type 0 where
  ends : List (List ℕ × List ℕ)
  items : rule_items_in_words words ≡ Some ends
  read : parsed_ranges ends ≡ Some ranges

record Spelled (words : List (List ℕ)) (ranges : List (ℤ × ℤ)) : Type 0 where
  ends : List (List ℕ × List ℕ)
  items : WordsSpellRuleItems words ends
  read : parsed_ranges ends ≡ Some ranges

ranges-more : (a b : List ℕ) (m n : ℤ) (ends : List (List ℕ × List ℕ)) (ranges : List (ℤ × ℤ))
    → whole_number_in_category_range a ≡ Some m → whole_number_in_category_range b ≡ Some n
    → parsed_ranges ends ≡ Some ranges → parsed_ranges ((a, b) ∷ ends) ≡ Some ((m, n) ∷ ranges)
ranges-more a b m n ends ranges first second rest = rw (first, second, rest) refl

spelled : {words : List (List ℕ)} {ranges : List (ℤ × ℤ)} → SpellsRanges words ranges → Spelled words ranges
spelled line.SpellsRanges.none = record { ends = []; items = none; read = refl }
spelled (line.SpellsRanges.one {word} {words} {end} {ranges} number more) =
    let s = spelled more in
    record {
      ends = (word, word) ∷ s.ends;
      items = add words s.ends (word, None) (both (is_number_word word) true (number-end word end number) refl) s.items;
      read = ranges-more word word end end s.ends ranges number number s.read;
    }
spelled (line.SpellsRanges.thru {word} {other} {words} {end} {last} {ranges} number second more) =
    let s = spelled more in
    record {
      ends = (word, other) ∷ s.ends;
      items = add words s.ends (word, Some other)
          (both (is_number_word word) (is_number_word other) (number-end word end number)
          (number-end other last second)) s.items;
      read = ranges-more word other end last s.ends ranges number second s.read;
    }

ranges-sound : (words : List (List ℕ)) (ranges : List (ℤ × ℤ)) → IsRead words ranges → SpellsRanges words ranges
ranges-sound words ranges r =
    let are = (items-are-read words r.ends).0 r.items in
    subst (λ l. SpellsRanges l ranges) are.words_are (items-spell are.items ranges (ap parsed_ranges are.ends_are
    ∙ r.read))

ranges-complete : (words : List (List ℕ)) (ranges : List (ℤ × ℤ)) → SpellsRanges words ranges → IsRead words ranges
ranges-complete words ranges s = let p = spelled s in
    record { ends = p.ends; items = (items-are-read words p.ends).1 p.items; read = p.read }

-- a left side that was read, and the ranges that it lists
pub record IsLeft (words : List (List ℕ)) (listed : Option (List (ℤ × ℤ))) : Type 0 where
  pub side : RuleLeftSide
  pub is : rule_left_side_of_words words ≡ Some side
  pub read : ranges_of_left_side side ≡ Some listed

-- a left side other than `*` is read as the ranges of its items
left-items : (words : List (List ℕ)) (listed : Option (List (ℤ × ℤ))) (side : RuleLeftSide)
    → option_map Some (rule_items_in_words words) ≡ Some side → ranges_of_left_side side ≡ Some listed
    → 0 < length words → SpellsRuleLeftSide words listed
left-items words listed side is read some = by (rule_items_in_words words) refl side is read listed refl
  where
    by : (o : Option (List (List ℕ × List ℕ))) → rule_items_in_words words ≡ o → (side : RuleLeftSide)
        → option_map Some o ≡ Some side
        → ranges_of_left_side side ≡ Some listed
        → (l : Option (List (ℤ × ℤ))) → listed ≡ l → SpellsRuleLeftSide words listed
    by None e side i r l same = cc
    by (Some ends) e None i r l same = cc
    by (Some ends) e (Some others) i r l same = of (parsed_ranges others) refl r
      where
        of : (o : Option (List (ℤ × ℤ))) → parsed_ranges others ≡ o → option_map Some o ≡ Some listed
            → SpellsRuleLeftSide words listed
        of None f h = cc
        of (Some ranges) f h =
            let said : Some ranges ≡ listed = cc in
            let both : ends ≡ others = cc in
            subst (SpellsRuleLeftSide words) said (
              some,
              ranges-sound words ranges (record {
                ends = others;
                items = e
                    ∙ ap Some both;
                read = f;
              }),
            )

pub listed-sound : (words : List (List ℕ)) (listed : Option (List (ℤ × ℤ))) → IsLeft words listed
    → SpellsRuleLeftSide words listed
listed-sound [] listed l = let none : None ≡ Some l.side = l.is in cc
listed-sound (word ∷ []) listed l = by (is_star word) refl l.is
  where
    by : (star : Bool) → is_star word ≡ star
        → cond star (Some None) (option_map Some (rule_items_in_words (word ∷ []))) ≡ Some l.side
        → SpellsRuleLeftSide (word ∷ []) listed
    by true e is =
        let none : None ≡ l.side = cc in
        let said : Some None ≡ Some listed = ap ranges_of_left_side none ∙ l.read in
        let same : None ≡ listed = cc in
        subst (SpellsRuleLeftSide (word ∷ [])) same (ap (λ w. w ∷ []) ((bytes_decides word (codes "*")).0 e))
    by false e is = left-items (word ∷ []) listed l.side is l.read (omega arith)
listed-sound (word ∷ other ∷ words) listed l = left-items (word ∷ other ∷ words) listed l.side l.is l.read (omega arith)

pub listed-complete : (words : List (List ℕ)) (listed : Option (List (ℤ × ℤ))) → SpellsRuleLeftSide words listed
    → IsLeft words listed
listed-complete words None s = record { side = None; is = rw s refl; read = refl }
listed-complete [] (Some ranges) s = absurd (omega (arith, s.0))
listed-complete (word ∷ []) (Some ranges) s = by word ranges s.1 (ranges-complete (word ∷ []) ranges s.1)
  where
    by : (word : List ℕ) (ranges : List (ℤ × ℤ)) → SpellsRanges (word ∷ []) ranges → IsRead (word ∷ []) ranges
        → IsLeft (word ∷ []) (Some ranges)
    by word _ (line.SpellsRanges.one {end = end} number more) r =
        record {
          side = Some r.ends;
          is = ap (λ t. cond {A = Option RuleLeftSide} t (Some None) (option_map Some (rule_items_in_words (word
              ∷ []))))
              (number-other word (codes "*") end number refl)
              ∙ ap (option_map Some) r.items;
          read = rw r.read refl;
        }
listed-complete (word ∷ other ∷ words) (Some ranges) s =
    let r = ranges-complete (word ∷ other ∷ words) ranges s.1 in
    record { side = Some r.ends; is = rw r.items refl; read = rw r.read refl }
