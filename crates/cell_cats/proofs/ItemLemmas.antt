-- Items and ranges, one at a time.
use Rattle.std.proofs.Common.{◌≡◌, cond, Ok, Err, ℕ, ℤ, ◌+◌, ◌-◌, ◌<◌, ◌≤◌, length, take, drop, get_or, arith, take_all, length-drop}
use Rattle.std.proofs.Common.{drop-drop, Bool, true, false, List, [], ◌∷◌, ◌++◌, Bor, Option, Some, None, refl, ap, sym, ◌∙◌, append_assoc, append-nil}
use Rattle.std.specs.Prelude.{◌&&◌, ◌==◌}
use Rattle.std.specs.Option.{option_map, ok_or}
use Rattle.std.proofs.lemmas.List.{map-append, at_drop_more}
use Rattle.cell_cats.specs.parts.ItemWords.{bytes_of_words, bytes_of_rule_item_ends}
use Rattle.cell_cats.specs.RuleReading.{is_number_word, items_with_number_item_in_front, rule_items_in_words}
use Rattle.cell_cats.specs.RuleReading.{RuleLeftSide}
use Rattle.cell_cats.specs.RuleReading.{is_lone_star, rule_left_side_of_words, parsed_range, parsed_ranges}
use Rattle.cell_cats.specs.declared.rules.RuleFault.{RuleFault}
use Rattle.cell_cats.specs.declared.rules.RuleFault.TheVariants.{BadRule}

-- the given items, followed by the optional ones
abbrev pub after : {X : Type 0} → List X → Option (List X) → Option (List X)
after xs o = option_map (λ more. xs ++ more) o

pub after-nil : {X : Type 0} (o : Option (List X)) → o ≡ after [] o
after-nil None = refl
after-nil (Some ys) = refl

pub after-one : {X : Type 0} (xs : List X) (x : X) (o : Option (List X)) → after xs (option_map (λ more. x ∷ more) o) ≡ after (xs ++ x ∷ []) o
after-one xs x None = refl
after-one xs x (Some ys) = ap Some (sym (append_assoc xs (x ∷ []) ys))

pub after-all : {X : Type 0} (xs : List X) → after xs (Some []) ≡ Some xs
after-all xs = ap Some (append-nil xs)

-- an item with two good ends is put before the other items
pub items_with_number_item_in_front-good : (a b : List ℕ) (o : Option (List (List ℕ × List ℕ))) → is_number_word a ≡ true → is_number_word b ≡ true → items_with_number_item_in_front a b o ≡ option_map (λ more. (a, b) ∷ more) o
items_with_number_item_in_front-good a b o ea eb = rw (ea, eb) refl

pub items_with_number_item_in_front-bad : (a b : List ℕ) (o : Option (List (List ℕ × List ℕ))) → (is_number_word a && is_number_word b) ≡ false → items_with_number_item_in_front a b o ≡ None
items_with_number_item_in_front-bad a b o e = rw e refl

both-left : (a b : Bool) → (a && b) ≡ true → a ≡ true
both-left true b e = refl
both-left false b e = e

both-right : (a b : Bool) → (a && b) ≡ true → b ≡ true
both-right true b e = e
both-right false b e = cc

-- each item that is read is appended to the items so far
pub items-step : (ws : List (Bor (List ℕ))) (i n : ℕ) (d b : Bor (List ℕ)) (done new : List (Bor (List ℕ) × Bor (List ℕ)))
    → i < length ws → n ≤ length (take (length ws - (i + 1)) (drop (i + 1) ws))
    → rule_items_in_words ((get_or ws i d).now ∷ bytes_of_words (take (length ws - (i + 1)) (drop (i + 1) ws))) ≡ items_with_number_item_in_front (get_or ws i d).now b.now (rule_items_in_words (bytes_of_words (drop n (take (length ws - (i + 1)) (drop (i + 1) ws)))))
    → (is_number_word (get_or ws i d).now && is_number_word b.now) ≡ true
    → new ≡ done ++ (get_or ws i d, b) ∷ []
    → rule_items_in_words (bytes_of_words ws) ≡ after (bytes_of_rule_item_ends done)
    (rule_items_in_words (bytes_of_words (drop i ws)))
    → (rule_items_in_words (bytes_of_words ws) ≡ after (bytes_of_rule_item_ends new) (rule_items_in_words (bytes_of_words (drop (i + 1 + n) ws)))) × (i + 1 + n ≤ length ws)
items-step ws i n d b done new h within first good pushed so_far =
    let rest : take (length ws - (i + 1)) (drop (i + 1) ws) ≡ drop (i + 1) ws = take_all (length ws - (i + 1)) (drop (i + 1) ws) (omega (arith, length-drop (i + 1) ws)) in
    let within-rest : n ≤ length (drop (i + 1) ws) = rw (sym rest) within in
    let a = (get_or ws i d).now in
    let first-rest : rule_items_in_words (a ∷ bytes_of_words (drop (i + 1) ws)) ≡ items_with_number_item_in_front a b.now (rule_items_in_words (bytes_of_words (drop n (drop (i + 1) ws))))
    = ap (λ l. rule_items_in_words (a ∷ bytes_of_words l)) (sym rest) ∙ first ∙ ap (λ l. items_with_number_item_in_front a b.now (rule_items_in_words (bytes_of_words (drop n l)))) rest in
    let one : rule_items_in_words (bytes_of_words (drop i ws)) ≡ option_map (λ more. (a, b.now) ∷ more) (rule_items_in_words (bytes_of_words (drop (i + 1 + n) ws)))
    = at_drop_more (λ l. rule_items_in_words (bytes_of_words l)) ws i d h ∙ first-rest ∙ ap (λ l. items_with_number_item_in_front a b.now (rule_items_in_words (bytes_of_words l))) (drop-drop n (i + 1) ws)
    ∙ items_with_number_item_in_front-good a b.now (rule_items_in_words (bytes_of_words (drop (i + 1 + n) ws))) (both-left (is_number_word a) (is_number_word b.now) good) (both-right (is_number_word a) (is_number_word b.now) good) in
    let last : bytes_of_rule_item_ends new ≡ bytes_of_rule_item_ends done ++ (a, b.now) ∷ [] = ap bytes_of_rule_item_ends pushed ∙ map-append (λ item. (item.0.now, item.1.now)) done ((get_or ws i d, b) ∷ []) in (
      so_far ∙ ap (after (bytes_of_rule_item_ends done)) one ∙ after-one (bytes_of_rule_item_ends done) (a, b.now) (rule_items_in_words (bytes_of_words (drop (i + 1 + n) ws))) ∙ ap (λ l. after l (rule_items_in_words (bytes_of_words (drop (i + 1 + n) ws)))) (sym last),
      omega (arith, length-drop (i + 1) ws, within-rest),
    )

-- if an item's ends are not good, the words are not read as items
pub items-stop : (ws : List (Bor (List ℕ))) (i n : ℕ) (d b : Bor (List ℕ)) (done : List (Bor (List ℕ) × Bor (List ℕ)))
    → i < length ws
    → rule_items_in_words ((get_or ws i d).now ∷ bytes_of_words (take (length ws - (i + 1)) (drop (i + 1) ws)))
    ≡ items_with_number_item_in_front (get_or ws i d).now b.now (rule_items_in_words (bytes_of_words (drop n (take (length ws - (i + 1)) (drop (i + 1) ws)))))
    → (is_number_word (get_or ws i d).now && is_number_word b.now) ≡ false
    → rule_items_in_words (bytes_of_words ws) ≡ after (bytes_of_rule_item_ends done)
    (rule_items_in_words (bytes_of_words (drop i ws)))
    → rule_items_in_words (bytes_of_words ws) ≡ None
items-stop ws i n d b done h first bad so_far =
    let words = take (length ws - (i + 1)) (drop (i + 1) ws) in
    let rest : words ≡ drop (i + 1) ws =
    take_all (length ws - (i + 1)) (drop (i + 1) ws) (omega (arith, length-drop (i + 1) ws)) in
    let a = (get_or ws i d).now in
    let none : rule_items_in_words (bytes_of_words (drop i ws)) ≡ None =
    at_drop_more (λ l. rule_items_in_words (bytes_of_words l)) ws i d h
    ∙ ap (λ l. rule_items_in_words (a ∷ bytes_of_words l)) (sym rest) ∙ first
    ∙ items_with_number_item_in_front-bad a b.now (rule_items_in_words (bytes_of_words (drop n words))) bad in
    so_far ∙ ap (after (bytes_of_rule_item_ends done)) none

-- each step appends one range of the items, or finds an item without a range
module _ (items : List (Bor (List ℕ) × Bor (List ℕ))) (i : ℕ) (d : Bor (List ℕ) × Bor (List ℕ)) (done : List (ℤ × ℤ)) (h : i < length items) (so_far : parsed_ranges (bytes_of_rule_item_ends items) ≡ after done (parsed_ranges (bytes_of_rule_item_ends (drop i items)))) where
  pub ranges-step : (range : ℤ × ℤ) (new : List (ℤ × ℤ)) → parsed_range ((get_or items i d).0.now, (get_or items i d).1.now) ≡ Some range → new ≡ done ++ range ∷ []
      → parsed_ranges (bytes_of_rule_item_ends items) ≡ after new
      (parsed_ranges (bytes_of_rule_item_ends (drop (i + 1) items)))
  ranges-step range new good pushed =
      let rest = parsed_ranges (bytes_of_rule_item_ends (drop (i + 1) items)) in
      let one : parsed_ranges (bytes_of_rule_item_ends (drop i items)) ≡ option_map (λ more. range ∷ more) rest = at_drop_more (λ l. parsed_ranges (bytes_of_rule_item_ends l)) items i d h ∙ rw good refl in
      so_far ∙ ap (after done) one ∙ after-one done range rest ∙ ap (λ l. after l rest) (sym pushed)

  pub ranges-stop : parsed_range ((get_or items i d).0.now, (get_or items i d).1.now) ≡ None → parsed_ranges (bytes_of_rule_item_ends items) ≡ None
  ranges-stop bad =
      let none : parsed_ranges (bytes_of_rule_item_ends (drop i items)) ≡ None = at_drop_more (λ l. parsed_ranges (bytes_of_rule_item_ends l)) items i d h ∙ rw bad refl in
      so_far ∙ ap (after done) none

-- words other than a lone `*` are read as items
module _ (ws : List (Bor (List ℕ))) (lone : false ≡ is_lone_star (bytes_of_words ws)) (some : false ≡ (length ws == 0)) where
  left-items : rule_left_side_of_words (bytes_of_words ws) ≡ option_map Some (rule_items_in_words (bytes_of_words ws))
  left-items = by ws lone some
    where
      by : (ws : List (Bor (List ℕ))) → false ≡ is_lone_star (bytes_of_words ws) → false ≡ (length ws == 0)
          → rule_left_side_of_words (bytes_of_words ws) ≡ option_map Some (rule_items_in_words (bytes_of_words ws))
      by [] lone some = cc
      by (w ∷ ws) lone some = ap (λ t. cond {A = Option RuleLeftSide} t (Some None)
          (option_map Some (rule_items_in_words (bytes_of_words (w ∷ ws))))) (sym lone)

  pub left-fails : (fault : RuleFault) → ok_or (rule_items_in_words (bytes_of_words ws)) BadRule ≡ Err fault
      → ok_or (rule_left_side_of_words (bytes_of_words ws)) BadRule ≡ Err fault
  left-fails fault e = ap (λ o. ok_or o BadRule) left-items ∙ by (rule_items_in_words (bytes_of_words ws)) e
    where
      by : (o : Option (List (List ℕ × List ℕ))) → ok_or o BadRule ≡ Err fault
          → ok_or {T = RuleLeftSide} (option_map Some o) BadRule ≡ Err fault
      by None e = let same : BadRule ≡ fault = cc in ap Err same
      by (Some items) e = cc

  pub left-found : (items : List (List ℕ × List ℕ)) → ok_or (rule_items_in_words (bytes_of_words ws)) BadRule ≡ Ok items
      → ok_or (rule_left_side_of_words (bytes_of_words ws)) BadRule ≡ Ok (Some items)
  left-found items e = ap (λ o. ok_or o BadRule) left-items ∙ by (rule_items_in_words (bytes_of_words ws)) e
    where
      by : (o : Option (List (List ℕ × List ℕ))) → ok_or o BadRule ≡ Ok items
          → ok_or {T = RuleLeftSide} (option_map Some o) BadRule ≡ Ok (Some items)
      by None e = cc
      by (Some others) e = let same : others ≡ items = cc in ap (λ l. Ok (Some l)) same
