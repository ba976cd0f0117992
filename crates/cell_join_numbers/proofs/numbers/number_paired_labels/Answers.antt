use Rattle.std.proofs.Common.{◌≡◌, ℕ, length, ap, ◌∙◌, arith, subst, refl, ⊎_elim}
use Rattle.std.proofs.lemmas.Bool.{cases_lt}
use Rattle.std.proofs.lemmas.List.{length_push}
use Rattle.cell_join_numbers.specs.LabelNumbers.{root_labels_below}
use Rattle.cell_join_numbers.specs.SparseNumbers.{FirstNodesHoldLabelNumbers}
use Rattle.cell_join_numbers.proofs.PairLabelLemmas.{push-before, push-at}
use Rattle.cell_join_numbers.proofs.NumberedLemmas.{places-first}
use Rattle.cell_join_numbers.proofs.numbers.number_paired_labels.Goals as goal

pub loop-place-init : goal.loop-place-init
loop-place-init c =
    let none = ap (length {A = ℕ}) c.new-roots.ensures.items in
    record {
      long = refl;
      ready = λ k le. c.requires.down k;
      few = omega arith;
      many = omega (arith, none);
      under = λ k lt. absurd (omega (arith, lt));
      low = λ k lt. absurd (omega (arith, lt));
      numbered = λ labels pairs touching is. places-first labels pairs c.args.paired.now c.args.table.now touching is;
      roots = λ k lt. absurd (omega (arith, lt));
    }

pub loop-place-preserved : goal.loop-place-preserved
loop-place-preserved c =
    let old = c.loop-place.roots.items in
    let new = c.push.new.self.items in
    let count = c.loop-place.count in
    let place = c.loop-place.place in
    let before = c.loop-place.invariant in
    let items = c.in_ok-push.ensures.items in
    record {
      long = c.number_label_at_place-count.auto.table ∙ before.long;
      ready = λ k le.
          let same = c.number_label_at_place-count.ensures.later k (omega (arith, le)) in
          let high = before.ready k (omega (arith, le)) in
          omega (arith, same, high);
      few = c.number_label_at_place-count.ensures.few;
      many = let one = ap (length {A = ℕ}) items in let long = length_push old count in omega (arith, one, long, before.many);
      under = λ k lt. ⊎_elim
          (λ below. let same = push-before old new count k items (omega (arith, below, before.many)) in let less = before.under k below in omega (arith, same, less))
          (λ ge. let here = push-at old new count k items (omega (arith, before.many, ge, lt)) in omega (arith, here, before.few, ge))
          (cases_lt k place);
      low = c.number_label_at_place-count.ensures.low;
      numbered = λ labels pairs touching is. c.number_label_at_place-count.ensures.numbered labels pairs c.args.table.now (before.numbered labels pairs touching is);
      roots = λ k lt labels pairs touching is. ⊎_elim
          (λ below. push-before old new count k items (omega (arith, below, before.many)) ∙ before.roots k below labels pairs touching is)
          (λ ge.
          let e : place ≡ k = omega (arith, ge, lt) in
          push-at old new count k items (omega (arith, before.many, e)) ∙ (before.numbered labels pairs touching is).counted ∙ ap (λ (n : ℕ). length (root_labels_below c.args.table.now n)) e)
          (cases_lt k place);
    }

pub returns-clause-ready : goal.returns-clause-ready
returns-clause-ready c =
    let old = c.loop-place.roots.items in
    let new = c.push-2.new.self.items in
    let count = c.loop-place.count in
    let place = c.loop-place.place in
    let before = c.loop-place.invariant in
    let items = c.in_ok-push-2.ensures.items in
    let end : place ≡ length c.args.paired.now = omega (arith, before.long, c.requires.long) in
    record {
      in_order = c.requires.in_order;
      long = before.long ∙ c.requires.long;
      long_roots = let one = ap (length {A = ℕ}) items in let long = length_push old count in omega (arith, one, long, before.many, end);
      low = λ k lt. before.low k (omega (arith, lt, end));
      few = λ k le. ⊎_elim
          (λ below. let same = push-before old new count k items (omega (arith, below, before.many)) in let less = before.under k below in omega (arith, same, less))
          (λ ge. let here = push-at old new count k items (omega (arith, before.many, ge, le, end)) in omega (arith, here, before.few, ge))
          (cases_lt k place);
    }

pub returns-clause-roots : goal.returns-clause-roots
returns-clause-roots c = λ k le labels pairs touching is.
    let old = c.loop-place.roots.items in
    let new = c.push-2.new.self.items in
    let count = c.loop-place.count in
    let place = c.loop-place.place in
    let before = c.loop-place.invariant in
    let items = c.in_ok-push-2.ensures.items in
    let end : place ≡ length c.args.paired.now = omega (arith, before.long, c.requires.long) in
    ⊎_elim
    (λ below. push-before old new count k items (omega (arith, below, before.many)) ∙ before.roots k below labels pairs touching is)
    (λ ge.
    let e : place ≡ k = omega (arith, ge, le, end) in
    push-at old new count k items (omega (arith, before.many, e)) ∙ (before.numbered labels pairs touching is).counted ∙ ap (λ (n : ℕ). length (root_labels_below c.args.table.now n)) e)
    (cases_lt k place)

pub returns-clause-numbered : goal.returns-clause-numbered
returns-clause-numbered c = λ labels pairs touching is.
    let before = c.loop-place.invariant in
    let end : c.loop-place.place ≡ length c.args.paired.now = omega (arith, before.long, c.requires.long) in
    (c.loop-place.count, subst (λ (n : ℕ). FirstNodesHoldLabelNumbers labels pairs c.args.paired.now c.args.table.now n c.loop-place.table c.loop-place.count) end (before.numbered labels pairs touching is))
