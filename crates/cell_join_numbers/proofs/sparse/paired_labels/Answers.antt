use Rattle.std.proofs.Common.{◌≡◌, ◌<◌, ℕ, List, eqb, sym, subst}
use Rattle.std.specs.Prelude.{Contains}
use Rattle.std.specs.List.{AllPairs, dedup}
use Rattle.std.proofs.lemmas.List.Filters.{dedup_is}
use Rattle.std.proofs.lemmas.List.Kept.{AllPairs-from_increasing, Contains-dedup_nat, Contains-from_dedup}
use Rattle.std.proofs.lemmas.List.Sorted.{Contains-permutation, IsPermutation-sym}
use Rattle.std.proofs.lemmas.Map.Keys.{IsStrictlyIncreasing-dedup}
use Rattle.cell_join_numbers.specs.SparseNumbers.{labels_of_pairs}
use Rattle.cell_join_numbers.proofs.sparse.paired_labels.Goals as goal

pub returns-clause-ascending : goal.returns-clause-ascending
returns-clause-ascending c =
    let sorted : List ℕ = c.sort_unstable.new.self.items in
    let is : c.dedup.new.self.items ≡ dedup eqb sorted =
    dedup_is eqb sorted c.dedup.new.self.items c.dedup.ensures.filtered in
    subst (λ (l : List ℕ). AllPairs ◌<◌ l) (sym is)
    (AllPairs-from_increasing (dedup eqb sorted) (IsStrictlyIncreasing-dedup sorted c.sort_unstable.ensures.sorted))

pub returns-clause-same : goal.returns-clause-same
returns-clause-same c = λ label.
    let sorted : List ℕ = c.sort_unstable.new.self.items in
    let given : List ℕ = c.in_ok-paired.paired.items in
    let is : c.dedup.new.self.items ≡ dedup eqb sorted =
    dedup_is eqb sorted c.dedup.new.self.items c.dedup.ensures.filtered in
    let moved = c.sort_unstable.ensures.permutation in
    let all : given ≡ labels_of_pairs c.args.pairs.now = c.in_ok-paired.ensures in (
      λ has. subst (λ (l : List ℕ). Contains l label) all (Contains-permutation sorted given label
          (IsPermutation-sym given sorted moved)
          (Contains-from_dedup eqb sorted label (subst (λ (l : List ℕ). Contains l label) is has))),
      λ has. subst (λ (l : List ℕ). Contains l label) (sym is) (Contains-dedup_nat sorted label
          (Contains-permutation given sorted label moved (subst (λ (l : List ℕ). Contains l label) (sym all) has))),
    )
