-- Words are read as items, and items are written as words.
use Rattle.std.proofs.Common.{◌≡◌, ℕ, Bool, true, false, cond, List, [], ◌∷◌, ◌++◌, map, Option, Some, None, codes, refl, ap, sym, subst, ◌∙◌}
use Rattle.std.specs.Prelude.{◌&&◌, not}
use Rattle.std.specs.List.{flat_map, list_all}
use Rattle.std.specs.Option.{option_map}
use Rattle.std.specs.Cmp.Lexicographic.{bytes_decides}
use Rattle.cell_cats.specs.RuleReading.{is_thru_word, is_star, is_number_word, items_with_number_item_in_front}
use Rattle.cell_cats.specs.RuleReading.{rule_items_in_words}
use Rattle.cell_cats.specs.ItemLaw.{RuleItem, words_of_rule_item, rule_item_has_number_ends, ends_of_rule_item}
use Rattle.cell_cats.specs.ItemLaw.{WordsSpellRuleItems}
use Rattle.cell_cats.specs.ItemLaw.{WordsAreReadAsSpelledRuleItems}

pub both-left : (a b : Bool) → (a && b) ≡ true → a ≡ true
both-left true b e = refl
both-left false b e = e

pub both-right : (a b : Bool) → (a && b) ≡ true → b ≡ true
both-right true b e = e
both-right false b e = cc

pub both : (a b : Bool) → a ≡ true → b ≡ true → (a && b) ≡ true
both a b e f = rw (e, f) refl

-- a word that stands for a number is not `thru`
end-not_thru : (w : List ℕ) → is_number_word w ≡ true → is_thru_word w ≡ false
end-not_thru w e = by (is_thru_word w) (is_star w) e
  where
    by : (t s : Bool) → (not t && not s) ≡ true → t ≡ false
    by true s h = cc
    by false s h = refl

-- the result of reading an item: both its ends are good, and the remaining words were read
record Read (a b : List ℕ) (rest : Option (List (List ℕ × List ℕ))) (ends : List (List ℕ × List ℕ)) : Type 0 where
  more : List (List ℕ × List ℕ)
  good : (is_number_word a && is_number_word b) ≡ true
  read : rest ≡ Some more
  whole : (a, b) ∷ more ≡ ends

items_with_number_item_in_front-some : (a b : List ℕ) (rest : Option (List (List ℕ × List ℕ))) (ends : List (List ℕ × List ℕ)) → items_with_number_item_in_front a b rest ≡ Some ends → Read a b rest ends
items_with_number_item_in_front-some a b rest ends e = by (is_number_word a && is_number_word b) rest refl refl e
  where
    by : (g : Bool) (o : Option (List (List ℕ × List ℕ))) → (is_number_word a && is_number_word b) ≡ g → rest ≡ o
        → cond g (option_map (λ more. (a, b) ∷ more) o) None ≡ Some ends → Read a b rest ends
    by true (Some more) good is h = record { more = more; good = good; read = is; whole = cc }
    by true None good is h = cc
    by false o good is h = cc

-- adding a good item at the head keeps the words and the ends in step
pub add : (words : List (List ℕ)) (ends : List (List ℕ × List ℕ)) (item : RuleItem)
    → rule_item_has_number_ends item ≡ true
    → WordsSpellRuleItems words ends → WordsSpellRuleItems (words_of_rule_item item ++ words) (ends_of_rule_item item
    ∷ ends)
add words ends item good are = record {
  items = item ∷ are.items;
  good = both (rule_item_has_number_ends item) (list_all rule_item_has_number_ends are.items) good are.good;
  words_are = ap (λ l. words_of_rule_item item ++ l) are.words_are;
  ends_are = ap (λ l. ends_of_rule_item item ∷ l) are.ends_are;
}

pub none : WordsSpellRuleItems [] []
none = record { items = []; good = refl; words_are = refl; ends_are = refl }

add-one : (words : List (List ℕ)) (a : List ℕ) (ends : List (List ℕ × List ℕ)) → ((more : List (List ℕ × List ℕ)) → rule_items_in_words words ≡ Some more → WordsSpellRuleItems words more)
    → items_with_number_item_in_front a a (rule_items_in_words words) ≡ Some ends → WordsSpellRuleItems (a ∷ words) ends
add-one words a ends rest e =
    let r = items_with_number_item_in_front-some a a (rule_items_in_words words) ends e in
    subst (λ l. WordsSpellRuleItems (a ∷ words) l) r.whole (add words r.more (a, None) (both (is_number_word a) true (both-left (is_number_word a) (is_number_word a) r.good) refl) (rest r.more r.read))

add-range : (words : List (List ℕ)) (a t b : List ℕ) (ends : List (List ℕ × List ℕ)) → is_thru_word t ≡ true → ((more : List (List ℕ × List ℕ)) → rule_items_in_words words ≡ Some more → WordsSpellRuleItems words more)
    → items_with_number_item_in_front a b (rule_items_in_words words) ≡ Some ends
    → WordsSpellRuleItems (a ∷ t ∷ b ∷ words) ends
add-range words a t b ends thru rest e =
    let r = items_with_number_item_in_front-some a b (rule_items_in_words words) ends e in
    let word : codes "thru" ≡ t = sym ((bytes_decides t (codes "thru")).0 thru) in
    subst (λ l. WordsSpellRuleItems (a ∷ t ∷ b ∷ words) l) r.whole
    (subst (λ w. WordsSpellRuleItems (a ∷ w ∷ b ∷ words) ((a, b) ∷ r.more)) word (add words r.more (a, Some b) r.good (rest r.more r.read)))

-- words that are read as items are the words of those items
read-written : (words : List (List ℕ)) (ends : List (List ℕ × List ℕ)) → rule_items_in_words words ≡ Some ends → WordsSpellRuleItems words ends
read-written [] ends e = let same : [] ≡ ends = cc in subst (λ l. WordsSpellRuleItems [] l) same none
read-written (a ∷ []) ends e = add-one [] a ends (read-written []) e
read-written (a ∷ b ∷ []) ends e = add-one (b ∷ []) a ends (read-written (b ∷ [])) e
read-written (a ∷ t ∷ b ∷ words) ends e = by (λ more h. read-written words more h) (λ more h. read-written (t ∷ b ∷ words) more h) (is_thru_word t) refl e
  where
    by : ((more : List (List ℕ × List ℕ)) → rule_items_in_words words ≡ Some more → WordsSpellRuleItems words more)
        → ((more : List (List ℕ × List ℕ)) → rule_items_in_words (t ∷ b ∷ words) ≡ Some more
        → WordsSpellRuleItems (t ∷ b ∷ words) more)
        → (thru : Bool) → is_thru_word t ≡ thru → cond thru (items_with_number_item_in_front a b (rule_items_in_words words)) (items_with_number_item_in_front a a (rule_items_in_words (t ∷ b ∷ words))) ≡ Some ends → WordsSpellRuleItems (a ∷ t ∷ b ∷ words) ends
    by rest others true is h = add-range words a t b ends is rest h
    by rest others false is h = add-one (t ∷ b ∷ words) a ends others h

-- a word before the words of items is read as an item of its own
one-read : (a : List ℕ) (items : List RuleItem) → list_all rule_item_has_number_ends items ≡ true → rule_items_in_words (a ∷ flat_map words_of_rule_item items) ≡ items_with_number_item_in_front a a (rule_items_in_words (flat_map words_of_rule_item items))
one-read a [] good = refl
one-read a ((b, None) ∷ []) good = refl
one-read a ((b, None) ∷ (item ∷ items)) good =
    let first : is_thru_word b ≡ false = end-not_thru b (both-left (is_number_word b) true (both-left (rule_item_has_number_ends (b, None)) (list_all rule_item_has_number_ends (item ∷ items)) good)) in
    rw first refl
one-read a ((b, Some d) ∷ items) good =
    let first : is_thru_word b ≡ false = end-not_thru b (both-left (is_number_word b) (is_number_word d) (both-left (rule_item_has_number_ends (b, Some d)) (list_all rule_item_has_number_ends items) good)) in
    rw first refl

items_with_number_item_in_front-good : (a b : List ℕ) (more : List (List ℕ × List ℕ)) → (is_number_word a && is_number_word b) ≡ true → items_with_number_item_in_front a b (Some more) ≡ Some ((a, b) ∷ more)
items_with_number_item_in_front-good a b more e = rw e refl

-- the words of good items are read as these items
pub written-read : (items : List RuleItem) → list_all rule_item_has_number_ends items ≡ true
    → rule_items_in_words (flat_map words_of_rule_item items) ≡ Some (map ends_of_rule_item items)
written-read [] good = refl
written-read ((a, None) ∷ items) good =
    let rest : list_all rule_item_has_number_ends items ≡ true = both-right (rule_item_has_number_ends (a, None))
    (list_all rule_item_has_number_ends items) good in
    let first : is_number_word a ≡ true = both-left (is_number_word a) true (both-left (rule_item_has_number_ends (a, None)) (list_all rule_item_has_number_ends items) good) in
    one-read a items rest ∙ ap (items_with_number_item_in_front a a) (written-read items rest) ∙ items_with_number_item_in_front-good a a (map ends_of_rule_item items) (both (is_number_word a) (is_number_word a) first first)
written-read ((a, Some b) ∷ items) good =
    ap (items_with_number_item_in_front a b) (written-read items (both-right (rule_item_has_number_ends (a, Some b))
    (list_all rule_item_has_number_ends items) good))
    ∙ items_with_number_item_in_front-good a b (map ends_of_rule_item items)
    (both-left (rule_item_has_number_ends (a, Some b))
    (list_all rule_item_has_number_ends items) good)

pub items-are-read : WordsAreReadAsSpelledRuleItems
items-are-read words ends = (
  read-written words ends,
  λ are. ap rule_items_in_words (sym are.words_are) ∙ written-read are.items are.good ∙ ap Some are.ends_are,
)
