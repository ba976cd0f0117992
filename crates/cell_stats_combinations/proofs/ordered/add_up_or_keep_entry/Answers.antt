use Rattle.std.proofs.Common.{◌≡◌, ◌+◌, ◌<◌, ◌^◌, ℕ, [], Fits, w64, get_or, arith, sym, ap, ◌∙◌}
use Rattle.cell_stats_combinations.specs.Combinations.{Combination}
use Rattle.cell_stats_combinations.specs.parts.Same.{are_same_combination}
use Rattle.cell_stats_combinations.proofs.OrderLemmas.{same-is}
use Rattle.cell_stats_combinations.proofs.JoinLemmas.{any, joined-same, joined-next}
use Rattle.cell_stats_combinations.proofs.ordered.add_up_or_keep_entry.Goals as goal

within : {at size all : ℕ} → at < size → size ≡ all → at < all
within h same = omega arith

before : {last at size : ℕ} → last < at → at < size → last < size
before low high = omega arith

fit : (a b : ℕ) {c : ℕ} → c ≡ a → c + b < 2 ^ 64 → Fits w64 (a + b)
fit a b same room = omega arith

pub overflow_add-entries : goal.overflow_add-entries
overflow_add-entries c =
    let now = c.args.entries.now in
    let d = c.index-entries-at.result in
    let e = c.index-entries-last.result in
    let one = same-is (get_or now c.args.at d).0 (get_or now c.args.last d).0 (sym (c.entries_have_same_combination.ensures d) ∙ c.if-entries_have_same_combination.true) in
    fit (get_or now c.args.last e).1 (get_or now c.args.at d).1
    (ap (λ (x : Combination × ℕ). x.1) (any now c.args.last d e (before c.requires.places.0 c.requires.places.1)))
    (c.requires.fits d (sym one))

pub returns-then-entries_have_same_combination : goal.returns-then-entries_have_same_combination
returns-then-entries_have_same_combination c =
    record {
      joined = λ old rising zeros joined.
          let now = c.args.entries.now in
          let last = c.args.last in
          let at = c.args.at in
          let d = c.index-entries-at.result in
          let inside = before c.requires.places.0 c.requires.places.1 in
          let other : get_or now at d ≡ get_or old at d = joined.others at d (omega arith) in
          let one = same-is (get_or now at d).0 (get_or now last d).0
          (sym (c.entries_have_same_combination.ensures d) ∙ c.if-entries_have_same_combination.true) in
          joined-same old rising zeros now last at d joined (within c.requires.places.1 joined.size) _
          (ap (λ (x : Combination × ℕ). x.0) (any now last c.index-entries-last-then-entries_have_same_combination.result d inside))
          (ap (λ (x : Combination × ℕ). x.1 + (get_or now at d).1) (any now last c.index-entries-last.result d inside)
          ∙ ap (λ (x : Combination × ℕ). (get_or now last d).1 + x.1) other)
          (ap (λ (x : Combination × ℕ). x.0) (sym other) ∙ one);
    }

pub returns : goal.returns
returns c =
    record {
      joined = λ old rising zeros joined.
          let now = c.args.entries.now in
          let last = c.args.last in
          let at = c.args.at in
          let d : Combination × ℕ = ([], 0) in
          joined-next old rising zeros now last at d joined (within c.requires.places.1 joined.size) c.swap.new.self
          c.swap.ensures.by_index c.swap.ensures.len
          (ap (λ (x : Combination × ℕ). are_same_combination x.0 (get_or now last d).0)
          (sym (joined.others at d (omega arith)))
          ∙ sym (c.entries_have_same_combination.ensures d) ∙ c.if-entries_have_same_combination.false);
    }
