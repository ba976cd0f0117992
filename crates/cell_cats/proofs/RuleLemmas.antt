-- The last element that passes a test, when elements are appended one by one.
use Rattle.std.proofs.Common.{◌≡◌, ℕ, ◌+◌, ◌<◌, Bool, true, false, List, [], ◌∷◌, ◌++◌, length, take, get_or, Option, Some, refl, ap, sym, ◌∙◌}
use Rattle.std.specs.Option.{option_map}
use Rattle.std.proofs.lemmas.List.{take_more}
use Rattle.cell_cats.specs.Rule.{RuleValue, last_element_that_passes, output_of_last_passing_rule}
use Rattle.cell_cats.specs.declared.rule.Output.{Output}

-- an appended element that passes is the last one that passes
pub last_element_that_passes-yes : {A : Type 0} (p : A → Bool) (xs : List A) (x : A) → p x ≡ true
    → last_element_that_passes p (xs ++ x ∷ []) ≡ Some x
last_element_that_passes-yes p [] x e = rw e refl
last_element_that_passes-yes p (y ∷ ys) x e = rw (last_element_that_passes-yes p ys x e) refl

-- an appended element that does not pass changes nothing
pub last_element_that_passes-no : {A : Type 0} (p : A → Bool) (xs : List A) (x : A) → p x ≡ false → last_element_that_passes p (xs ++ x ∷ []) ≡ last_element_that_passes p xs
last_element_that_passes-no p [] x e = rw e refl
last_element_that_passes-no p (y ∷ ys) x e = rw (last_element_that_passes-no p ys x e) refl

pub output_of_last_passing_rule-yes : (p : RuleValue → Bool) (xs : List RuleValue) (i : ℕ) (d : RuleValue) → i < length xs → p (get_or xs i d) ≡ true
    → output_of_last_passing_rule p (take (i + 1) xs) ≡ Some (get_or xs i d).output
output_of_last_passing_rule-yes p xs i d h e = ap (λ l. output_of_last_passing_rule p l) (take_more xs i d h) ∙ ap (option_map (λ rule. rule.output)) (last_element_that_passes-yes p (take i xs) (get_or xs i d) e)

pub output_of_last_passing_rule-no : (p : RuleValue → Bool) (xs : List RuleValue) (i : ℕ) (d : RuleValue) → i < length xs → p (get_or xs i d) ≡ false
    → output_of_last_passing_rule p (take (i + 1) xs) ≡ output_of_last_passing_rule p (take i xs)
output_of_last_passing_rule-no p xs i d h e = ap (λ l. output_of_last_passing_rule p l) (take_more xs i d h) ∙ ap (option_map (λ rule. rule.output)) (last_element_that_passes-no p (take i xs) (get_or xs i d) e)

-- if the next rule lists the category, the output is this rule's output
pub listed : (p : RuleValue → Bool) (xs : List RuleValue) (i : ℕ) (d r : RuleValue) → i < length xs → r ≡ get_or xs i d → true ≡ p r
    → Some r.output ≡ output_of_last_passing_rule p (take (i + 1) xs)
listed p xs i d r h is e = ap (λ rule. Some rule.output) is ∙ sym (output_of_last_passing_rule-yes p xs i d h (sym (e
    ∙ ap p is)))

-- if the next rule does not list the category, the output stays
pub left_out : (p : RuleValue → Bool) (xs : List RuleValue) (i : ℕ) (d r : RuleValue) {now : Option Output} → i < length xs → r ≡ get_or xs i d → false ≡ p r
    → now ≡ output_of_last_passing_rule p (take i xs) → now ≡ output_of_last_passing_rule p (take (i + 1) xs)
left_out p xs i d r h is e so_far = so_far ∙ sym (output_of_last_passing_rule-no p xs i d h (sym (e ∙ ap p is)))
