-- The labels of rules: added one rule at a time, and looked up by category.
use Rattle.std.proofs.Common.{◌≡◌, ℕ, ℤ, ◌+◌, ◌<◌, Bool, true, false, cond, List, [], ◌∷◌, ◌++◌, length, take, get_or, Option, Some, None, refl, ap, sym, ◌∙◌}
use Rattle.std.specs.Prelude.{reverse}
use Rattle.std.specs.List.{filter_map, cons_option}
use Rattle.std.specs.Option.{option_map, option_or}
use Rattle.std.specs.FinMap.{FinMap, get, insert, find, from_entries, get-from_entries}
use Rattle.std.specs.Ordering.{int_cmp, eq_by_cmp}
use Rattle.std.specs.Cmp.{int_cmp_total}
use Rattle.std.proofs.lemmas.List.{take_more, reverse-append}
use Rattle.std.proofs.lemmas.List.Elements.{filter_map-append}
use Rattle.cell_core.specs.Grid.{Grid}
use Rattle.cell_cats.specs.Rule.{RuleValue, last_element_that_passes, labelled_category, optional_category_equals}
use Rattle.cell_cats.specs.Rule.{labels, label_of_category}
use Rattle.cell_cats.specs.Reclass.{category_and_label_of_rule, labels_of_rules}

-- the map with the entry inserted, if there is one
abbrev with_entry : Option (ℤ × List ℕ) → FinMap int_cmp (List ℕ) → FinMap int_cmp (List ℕ)
with_entry None m = m
with_entry (Some e) m = insert m e.0 e.1

entry-first : (o : Option (ℤ × List ℕ)) (es : List (ℤ × List ℕ)) → from_entries {R = int_cmp} (cons_option o es) ≡ with_entry o (from_entries es)
entry-first None es = refl
entry-first (Some e) es = refl

labels_of-push : (xs : List RuleValue) (x : RuleValue) → labels_of_rules (xs ++ x ∷ []) ≡ with_entry (category_and_label_of_rule x) (labels_of_rules xs)
labels_of-push xs x =
    ap (λ l. from_entries {R = int_cmp} (filter_map category_and_label_of_rule l)) (reverse-append xs (x ∷ []))
    ∙ entry-first (category_and_label_of_rule x) (filter_map category_and_label_of_rule (reverse xs))

labels_of-more : (xs : List RuleValue) (i : ℕ) (d r : RuleValue) → i < length xs → r ≡ get_or xs i d → labels_of_rules (take (i + 1) xs) ≡ with_entry (category_and_label_of_rule r) (labels_of_rules (take i xs))
labels_of-more xs i d r h is =
    ap labels_of_rules (take_more xs i d h) ∙ labels_of-push (take i xs) (get_or xs i d) ∙ ap (λ rule. with_entry (category_and_label_of_rule rule) (labels_of_rules (take i xs))) (sym is)

-- a rule that labels a category inserts its label
labels_of-some : (xs : List RuleValue) (i : ℕ) (d r : RuleValue) (k : ℤ) → i < length xs → r ≡ get_or xs i d → Some k ≡ labelled_category r
    → insert (labels_of_rules (take i xs)) k r.label ≡ labels_of_rules (take (i + 1) xs)
labels_of-some xs i d r k h is e =
    ap (λ o. with_entry (option_map (λ c. (c, r.label)) o) (labels_of_rules (take i xs))) e ∙ sym (labels_of-more xs i d r h is)

-- a rule that labels no category leaves the labels unchanged
labels_of-none : (xs : List RuleValue) (i : ℕ) (d r : RuleValue) → i < length xs → r ≡ get_or xs i d
    → None ≡ labelled_category r
    → labels_of_rules (take i xs) ≡ labels_of_rules (take (i + 1) xs)
labels_of-none xs i d r h is e =
    ap (λ o. with_entry (option_map (λ c. (c, r.label)) o) (labels_of_rules (take i xs))) e ∙ sym (labels_of-more xs i d r h is)

module _ (given : Grid) (xs : List RuleValue) (i : ℕ) (d r : RuleValue) (within : i < length xs) (is : r ≡ get_or xs i d) (old : Grid) (so_far : old ≡ record given { labels = labels_of_rules (take i xs) }) where
  -- inserting the rule's label makes the map's labels the labels of one more rule
  pub labels-some : (k : ℤ) (text : List ℕ) (new : Grid) → Some k ≡ labelled_category r → text ≡ r.label → new ≡ record old { labels = insert old.labels k text }
      → new ≡ record given { labels = labels_of_rules (take (i + 1) xs) }
  labels-some k text new e same set =
      set ∙ ap (λ (m : Grid). record m { labels = insert m.labels k text }) so_far
      ∙ ap (λ (t : List ℕ). record given { labels = insert (labels_of_rules (take i xs)) k t }) same
      ∙ ap (λ ls. record given { labels = ls }) (labels_of-some xs i d r k within is e)

  -- a rule that labels no category leaves the map unchanged
  pub labels-none : None ≡ labelled_category r → old ≡ record given { labels = labels_of_rules (take (i + 1) xs) }
  labels-none e = so_far ∙ ap (λ ls. record given { labels = ls }) (labels_of-none xs i d r within is e)

-- a key in two joined lists is found in the first list, or otherwise in the second
find-append : (k : ℤ) (es fs : List (ℤ × List ℕ)) → find int_cmp k (es ++ fs) ≡ option_or (find int_cmp k es) (find int_cmp k fs)
find-append k [] fs = refl
find-append k (e ∷ es) fs = rw (find-append k es fs) (by (eq_by_cmp int_cmp k e.0))
  where
    by : (b : Bool) → cond b (Some e.1) (option_or (find int_cmp k es) (find int_cmp k fs)) ≡ option_or (cond b (Some e.1) (find int_cmp k es)) (find int_cmp k fs)
    by true = refl
    by false = refl

map-or : {A B : Type 0} (f : A → B) (a b : Option A) → option_or (option_map f a) (option_map f b) ≡ option_map f (option_or a b)
map-or f None b = refl
map-or f (Some a) b = refl

abbrev label_where : RuleValue → Bool → Option (List ℕ)
label_where r b = option_map (λ rule. rule.label) (cond b (Some r) None)

-- the entry of a single rule is found exactly if the rule labels the category
find-one : (k : ℤ) (r : RuleValue) → find int_cmp k (filter_map category_and_label_of_rule (r ∷ []))
    ≡ label_where r (labels k r)
find-one k r = by (labelled_category r)
  where
    one : (c : ℤ) (b : Bool) → cond b (Some r.label) None ≡ label_where r b
    one c true = refl
    one c false = refl

    by : (o : Option ℤ) → find int_cmp k (cons_option (option_map (λ c. (c, r.label)) o) []) ≡ label_where r (optional_category_equals k o)
    by None = refl
    by (Some c) = one c (optional_category_equals k (Some c))

-- in the reversed rules, the first entry found is the label of the last rule
find-reversed : (k : ℤ) (rules : List RuleValue) → find int_cmp k (filter_map category_and_label_of_rule (reverse rules)) ≡ label_of_category rules k
find-reversed k [] = refl
find-reversed k (r ∷ rules) =
    ap (λ l. find int_cmp k (filter_map category_and_label_of_rule l)) (reverse-append (r ∷ []) rules)
    ∙ ap (find int_cmp k) (filter_map-append category_and_label_of_rule (reverse rules) (r ∷ []))
    ∙ find-append k (filter_map category_and_label_of_rule (reverse rules)) (filter_map category_and_label_of_rule (r
    ∷ []))
    ∙ rw (find-reversed k rules, find-one k r) (map-or (λ rule. rule.label) (last_element_that_passes (labels k) rules) (cond (labels k r) (Some r) None))

-- the label of a category is the one given by the last rule that labels it
pub get-labels_of : (rules : List RuleValue) (k : ℤ) → get (labels_of_rules rules) k ≡ label_of_category rules k
get-labels_of rules k = get-from_entries int_cmp_total (filter_map category_and_label_of_rule (reverse rules)) k ∙ find-reversed k rules
