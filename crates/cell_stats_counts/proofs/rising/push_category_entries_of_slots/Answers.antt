use Rattle.std.proofs.Common.{◌≡◌, ◌+◌, ℕ, Bool, true, nat_eq, sym, ◌∙◌, arith}
use Rattle.std.proofs.lemmas.Bool.{eqb-true}
use Rattle.cell_stats_counts.proofs.AscendLemmas.{ascends-none}
use Rattle.cell_stats_counts.proofs.rising.push_category_entries_of_slots.Goals as goal

nothing : {b : Bool} (n : ℕ) → b ≡ nat_eq n 0 → b ≡ true → n ≡ 0
nothing n e t = eqb-true n 0 (sym e ∙ t)

same : (n : ℕ) → n ≡ n + 0
same n = omega arith

pub loop-place-init : goal.loop-place-init
loop-place-init c = record {
  counted = λ k. same _;
  no_zero = c.requires.no_zero;
  end = λ empty. ascends-none _ _ (sym c.args.entries.now.ok.0 ∙ nothing _ c.is_empty.ensures empty);
}
