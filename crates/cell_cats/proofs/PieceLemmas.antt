-- Pieces of the number line: how to insert the beginning of a piece, and how to paint a range.
use Rattle.std.proofs.Common.{◌≡◌, ℕ, ◌+◌, ◌<◌, length, take, get_or, ◌||◌, ℤ, pos, negsuc, ◌+ℤ◌, ◌≤ℤ◌, ◌<ℤ◌, Bool, true, false, List, [], ◌∷◌, Option, Some, None, refl, sym, ap, subst, ◌∙◌, arith, if◌then◌else◌}
use Rattle.std.proofs.lemmas.Int.{ints, clamps, by_lt_z}
use Rattle.std.specs.Int.{int_min, int_max}
use Rattle.std.specs.Cmp.{int_ranks}
use Rattle.std.specs.Option.{IsSome}
use Rattle.std.specs.Ordering.{int_cmp, is_gt, is_lt, is_eq, MatchOrdering}
use Rattle.std.specs.declared.cmp.Ordering.{Ordering}
use Rattle.std.specs.declared.cmp.Ordering.TheVariants.{Less, Equal, Greater}
use Rattle.std.specs.List.{list_any}
use Rattle.std.specs.Option.{option_or}
use Rattle.std.proofs.lemmas.List.{take_more}
use Rattle.std.proofs.lemmas.List.Folds.{list_any-append}
use Rattle.cell_cats.specs.Rule.{RuleValue, is_between_ends, lists, output_of_last_passing_rule}
use Rattle.cell_cats.specs.parts.Pieces.{IsOutputOfIntervalAtNumber, AreIntervalOutputsAtAllNumbers}
use Rattle.cell_cats.specs.parts.Pieces.{IntervalsHaveOutputs}
use Rattle.cell_cats.specs.parts.Pieces.{outputs_after_range_assigned, outputs_after_rule_assigned}
use Rattle.cell_cats.specs.declared.pieces.RuleOutputIntervals.{RuleOutputIntervals}
use Rattle.cell_cats.proofs.RuleLemmas.{listed, left_out}
use Rattle.cell_cats.specs.declared.rule.Output.{Output}

pub le_from_not_gt : (a b : ℤ) → is_gt (int_cmp a b) ≡ false → a ≤ℤ b
le_from_not_gt a b h = grind (arith, ints)

pub le_from_not_lt : (a b : ℤ) → is_lt (int_cmp a b) ≡ false → b ≤ℤ a
le_from_not_lt a b h = grind (arith, ints)

pub not_gt_from_le : (a b : ℤ) → a ≤ℤ b → is_gt (int_cmp a b) ≡ false
not_gt_from_le a b h = grind (arith, ints)

pub apart : (a b : ℤ) → (b ≡ a → ⊥) → is_eq (int_cmp a b) ≡ false
apart a b h = go (int_cmp a b) (int_ranks a b)
  where
    go : (o : Ordering) → MatchOrdering o (a <ℤ b) (a ≡ b) (b <ℤ a) → is_eq o ≡ false
    go Less k = refl
    go Equal k = absurd (h (sym k))
    go Greater k = refl

none_unless : {A : Type 0} (o : Option A) → (IsSome o → ⊥) → o ≡ None
none_unless None h = refl
none_unless (Some a) h = absurd (h refl)

moved : {starts : ℤ → Option (Option Output)} {x : ℤ} {a b : Option Output} → a ≡ b → IsOutputOfIntervalAtNumber starts x a → IsOutputOfIntervalAtNumber starts x b
moved {starts} {x} e p = subst (IsOutputOfIntervalAtNumber starts x) e p

-- each place has only one output
same-output : {starts : ℤ → Option (Option Output)} {x : ℤ} {a b : Option Output} → IsOutputOfIntervalAtNumber starts x a → IsOutputOfIntervalAtNumber starts x b → a ≡ b
same-output {starts} {x} {a} {b} p q =
    by_lt_z p.start q.start
    (λ h. let none : starts q.start ≡ None = p.last q.start h q.before in let some : starts q.start ≡ Some b = q.begins in cc)
    (λ h. by_lt_z q.start p.start
    (λ k. let none : starts p.start ≡ None = q.last p.start k p.before in let some : starts p.start ≡ Some a = p.begins in cc)
    (λ k. let same : p.start ≡ q.start = omega (arith, ints) in
    let one : starts p.start ≡ Some a = p.begins in
    let two : starts q.start ≡ Some b = q.begins in cc))

-- the output at the last beginning found is the output of the place
pub output-found : (starts : ℤ → Option (Option Output)) (outputs : ℤ → Option Output) (x s : ℤ) (output : Option Output)
    → negsuc 2147483647 ≤ℤ x → s ≤ℤ x → starts s ≡ Some output → ((q : ℤ) → q ≤ℤ x → IsSome (starts q) → q ≤ℤ s)
    → AreIntervalOutputsAtAllNumbers outputs starts → output ≡ outputs x
output-found starts outputs x s output low before begins last all =
    let found : IsOutputOfIntervalAtNumber starts x output = record {
      start = s;
      before = before;
      begins = begins;
      last = λ q h k. none_unless (starts q) (λ some. let most : q ≤ℤ s = last q k some in omega (arith, ints));
    } in
    same-output found (all x low)

-- cutting a piece in two changes no output
pub cut : (old new : ℤ → Option (Option Output)) (outputs : ℤ → Option Output) (p : ℤ) → negsuc 2147483647 ≤ℤ p
    → new p ≡ Some (outputs p) → ((q : ℤ) → (q ≡ p → ⊥) → new q ≡ old q) → AreIntervalOutputsAtAllNumbers outputs old → AreIntervalOutputsAtAllNumbers outputs new
cut old new outputs p low at others all x above =
    let s = all x above in
    by_lt_z x p
    (λ h. record {
      start = s.start;
      before = s.before;
      begins = others s.start (λ e. let k : s.start ≤ℤ x = s.before in omega (arith, ints)) ∙ s.begins;
      last = λ q a b. others q (λ e. omega (arith, ints)) ∙ s.last q a b;
    })
    (λ h. by_lt_z p s.start
    (λ k. record {
      start = s.start;
      before = s.before;
      begins = others s.start (λ e. omega (arith, ints)) ∙ s.begins;
      last = λ q a b. others q (λ e. omega (arith, ints)) ∙ s.last q a b;
    })
    (λ k.
    let there : IsOutputOfIntervalAtNumber old p (outputs x) = record {
      start = s.start;
      before = k;
      begins = s.begins;
      last = λ q a b. s.last q a (omega (arith, ints));
    } in
    record {
      start = p;
      before = h;
      begins = at ∙ ap (λ (o : Option Output). Some o) (same-output (all p low) there);
      last = λ q a b. others q (λ e. omega (arith, ints)) ∙ s.last q (omega (arith, ints)) b;
    }))

-- painting a range sets the outputs of the range, if a piece begins right after the range
pub range-painted : (old new : ℤ → Option (Option Output)) (outputs : ℤ → Option Output) (ends : ℤ × ℤ) (output : Output) (from to : ℤ) (after : Option Output)
    → from ≤ℤ to → ((x : ℤ) → from ≤ℤ x → x ≤ℤ to → is_between_ends ends x ≡ true) → ((x : ℤ) → x <ℤ from → is_between_ends ends x ≡ false) → ((x : ℤ) → to <ℤ x → is_between_ends ends x ≡ false)
    → old (to +ℤ pos 1) ≡ Some after → new from ≡ Some (Some output)
    → ((q : ℤ) → q <ℤ from → new q ≡ old q) → ((q : ℤ) → to <ℤ q → new q ≡ old q) → ((q : ℤ) → from <ℤ q → q ≤ℤ to → new q ≡ None)
    → AreIntervalOutputsAtAllNumbers outputs old → AreIntervalOutputsAtAllNumbers
    (outputs_after_range_assigned ends output outputs) new
range-painted old new outputs ends output from to after order within under over next at below above cleared all x low =
    let s = all x low in
    let kept : is_between_ends ends x ≡ false → outputs x ≡ outputs_after_range_assigned ends output outputs x = λ e. sym (ap (λ (b : Bool). if b then Some output else outputs x) e) in
    by_lt_z x from
    (λ h. moved (kept (under x h)) (record {
      start = s.start;
      before = s.before;
      begins = below s.start (let k : s.start ≤ℤ x = s.before in omega (arith, ints)) ∙ s.begins;
      last = λ q a b. below q (omega (arith, ints)) ∙ s.last q a b;
    }))
    (λ h. by_lt_z to x
    (λ k. by_lt_z to s.start
    (λ far. moved (kept (over x k)) (record {
      start = s.start;
      before = s.before;
      begins = above s.start far ∙ s.begins;
      last = λ q a b. above q (omega (arith, ints)) ∙ s.last q a b;
    }))
    (λ near.
    let none : old (to +ℤ pos 1) ≡ None = s.last (to +ℤ pos 1) (omega (arith, ints)) (omega (arith, ints)) in
    let some : old (to +ℤ pos 1) ≡ Some after = next in
    cc))
    (λ k. moved (sym (ap (λ (b : Bool). if b then Some output else outputs x) (within x h k))) (record {
      start = from;
      before = h;
      begins = at;
      last = λ q a b. cleared q a (omega (arith, ints));
    })))

inside : (a b from to x : ℤ) → from ≡ int_min a b → to ≡ int_max a b → from ≤ℤ x → x ≤ℤ to
    → is_between_ends (a, b) x ≡ true
inside a b from to x e f h k = grind (arith, ints)

under : (a b from x : ℤ) → from ≡ int_min a b → x <ℤ from → is_between_ends (a, b) x ≡ false
under a b from x e h = grind (arith, ints)

over : (a b to x : ℤ) → to ≡ int_max a b → to <ℤ x → is_between_ends (a, b) x ≡ false
over a b to x e h = grind (arith, ints)

-- `RuleOutputIntervals::assign_output_to_range` cuts the line after the range, clears the range and inserts its beginning
pub painted-over : (old cut_off cleared new : ℤ → Option (Option Output)) (outputs : ℤ → Option Output) (ends : ℤ × ℤ) (output : Output) (from to next : ℤ)
    → from ≡ int_min ends.0 ends.1 → to ≡ int_max ends.0 ends.1 → next ≡ to +ℤ pos 1 → negsuc 2147483647 ≤ℤ next
    → cut_off next ≡ Some (outputs next) → ((q : ℤ) → is_eq (int_cmp next q) ≡ false → cut_off q ≡ old q)
    → ((q : ℤ) → q <ℤ from → cleared q ≡ cut_off q) → ((q : ℤ) → to <ℤ q → cleared q ≡ cut_off q) → ((q : ℤ) → from ≤ℤ q → q ≤ℤ to → cleared q ≡ None)
    → new from ≡ Some (Some output) → ((q : ℤ) → is_eq (int_cmp from q) ≡ false → new q ≡ cleared q)
    → AreIntervalOutputsAtAllNumbers outputs old → AreIntervalOutputsAtAllNumbers
    (outputs_after_range_assigned ends output outputs) new
painted-over old cut_off cleared new outputs ends output from to next least most after low at others before beyond within begins rest all =
    range-painted cut_off new outputs ends output from to (outputs next) (omega (arith, ints, clamps))
    (λ x h k. inside ends.0 ends.1 from to x least most h k) (λ x h. under ends.0 ends.1 from x least h) (λ x h. over ends.0 ends.1 to x most h)
    (subst (λ (n : ℤ). cut_off n ≡ Some (outputs next)) after at) begins
    (λ q h. rest q (apart from q (λ e. omega (arith, ints))) ∙ before q h)
    (λ q h. rest q (apart from q (λ e. omega (arith, ints, clamps))) ∙ beyond q h)
    (λ q h k. rest q (apart from q (λ e. omega (arith, ints))) ∙ within q (omega (arith, ints)) k)
    (cut old cut_off outputs next low at (λ q ne. others q (apart next q ne)) all)

-- functions with the same values describe the same pieces
pub outputs-same : (f g : ℤ → Option Output) (pieces : RuleOutputIntervals) → ((x : ℤ) → f x ≡ g x) → IntervalsHaveOutputs f pieces → IntervalsHaveOutputs g pieces
outputs-same f g pieces same all = λ x low. moved (same x) (all x low)

either : {A : Type 0} (a b : Bool) (u v : A) → (if b then u else (if a then u else v)) ≡ (if a || (b || false) then u else v)
either true true u v = refl
either true false u v = refl
either false true u v = refl
either false false u v = refl

-- painting one more range of a rule extends the painted ranges by that range
pub range-more : (ranges : List (ℤ × ℤ)) (i : ℕ) (d : ℤ × ℤ) (output : Output) (outputs : ℤ → Option Output) (x : ℤ) → i < length ranges
    → outputs_after_range_assigned (get_or ranges i d) output (λ y. if list_any (λ ends. is_between_ends ends y) (take i ranges) then Some output else outputs y) x
    ≡ (if list_any (λ ends. is_between_ends ends x) (take (i + 1) ranges) then Some output else outputs x)
range-more ranges i d output outputs x h =
    either (list_any (λ ends. is_between_ends ends x) (take i ranges)) (is_between_ends (get_or ranges i d) x) (Some output) (outputs x)
    ∙ sym (ap (λ (b : Bool). if b then Some output else outputs x)
    (ap (list_any (λ ends. is_between_ends ends x)) (take_more ranges i d h) ∙ list_any-append (λ ends. is_between_ends ends x) (take i ranges) (get_or ranges i d ∷ [])))

-- applying one more rule extends the applied rules by that rule
pub rule-more : (rules : List RuleValue) (i : ℕ) (d rule : RuleValue) (star : Option Output) (x : ℤ) → i < length rules → rule ≡ get_or rules i d
    → outputs_after_rule_assigned rule (λ y. option_or (output_of_last_passing_rule (lists y) (take i rules)) star) x ≡ option_or (output_of_last_passing_rule (lists x) (take (i + 1) rules)) star
rule-more rules i d rule star x h is = go (lists x rule) refl
  where
    go : (b : Bool) → b ≡ lists x rule → (if b then Some rule.output else option_or (output_of_last_passing_rule (lists x) (take i rules)) star) ≡ option_or (output_of_last_passing_rule (lists x) (take (i + 1) rules)) star
    go true e = ap (λ (o : Option Output). option_or o star) (listed (lists x) rules i d rule h is e)
    go false e = ap (λ (o : Option Output). option_or o star) (left_out (lists x) rules i d rule h is e refl)
