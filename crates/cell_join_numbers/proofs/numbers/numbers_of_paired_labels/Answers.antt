use Rattle.std.proofs.Common.{suc, ◌≡◌, ◌≤◌, ℕ, List, [], length, ap, sym, subst, arith, get_or}
use Rattle.std.specs.Prelude.{sum}
use Rattle.cell_join_numbers.specs.UnionFind.{AreRootsOfLabels}
use Rattle.cell_join_numbers.specs.LabelNumbers.{root_labels_below}
use Rattle.cell_join_numbers.specs.SparseLabels.{IncludesLabelsOfPairs, IsUnionFindOfPairedLabels}
use Rattle.cell_join_numbers.specs.SparseLabels.{root_place_after_joins_of_pairs}
use Rattle.cell_join_numbers.specs.SparseNumbers.{AreLabelsOfPairs, FirstNodesHoldLabelNumbers}
use Rattle.cell_join_numbers.specs.SparseNumbers.{AreNumbersOfPairedLabels}
use Rattle.cell_join_numbers.proofs.PairLabelLemmas.{all-touching, are-touching, no-labels, written-whole}
use Rattle.cell_join_numbers.proofs.NumberedLemmas.{number-pairs}
use Rattle.cell_join_numbers.proofs.numbers.numbers_of_paired_labels.Goals as goal

pub unite_nodes_of_pairs-requires-clause-all : goal.unite_nodes_of_pairs-requires-clause-all
unite_nodes_of_pairs-requires-clause-all c = subst (AreLabelsOfPairs c.args.pairs.now)
    (sym c.deref.ensures.value) c.in_ok-paired.ensures.same

pub returns-clause-numbered : goal.returns-clause-numbered
returns-clause-numbered c =
    let pairs = c.args.pairs.now in
    let paired = c.in_ok-paired.paired.items in
    let most = suc (sum paired) in
    let order = c.in_ok-paired.ensures.ascending in
    let same_labels = c.in_ok-paired.ensures.same in
    let touching = all-touching pairs paired order same_labels in
    let none : c.new-table.result.items ≡ [] = c.new-table.ensures.items in
    let first = c.in_ok-add_root_nodes.ensures.leads (λ k. k) (subst (λ (t : List ℕ). AreRootsOfLabels t (λ k. k))
    (sym none) no-labels) in
    let at_slice = subst (λ (t : List ℕ). AreRootsOfLabels t (λ k. k)) (sym c.as_mut_slice-each.ensures.value) first in
    let joined = c.unite_nodes_of_pairs.new.table in
    let one : c.deref.result.now ≡ paired = c.deref.ensures.value in
    let two : c.deref-2.result.now ≡ paired = c.deref-2.ensures.value in
    let lead : AreRootsOfLabels joined (root_place_after_joins_of_pairs paired pairs) = subst
    (λ (ts : List ℕ). AreRootsOfLabels joined (root_place_after_joins_of_pairs ts pairs)) one
    (c.unite_nodes_of_pairs.ensures.leads (λ k. k) at_slice) in
    let long : length joined ≡ length paired = omega (
      arith,
      c.unite_nodes_of_pairs.auto.table,
      c.as_mut_slice-each.ensures.len,
      c.in_ok-add_root_nodes.ensures.long,
      ap (length {A = ℕ}) none,
      c.len.ensures,
    ) in
    let is : IsUnionFindOfPairedLabels pairs paired joined = record { long = long; leads = lead } in
    let touching_too = subst (IncludesLabelsOfPairs most pairs) (sym two) touching in
    let is_too = subst (λ (ts : List ℕ). IsUnionFindOfPairedLabels pairs ts joined) (sym two) is in
    let t = c.in_ok-roots.ensures.numbered most pairs touching_too is_too in
    let numbers = c.number_paired_labels.new.table in
    let done : FirstNodesHoldLabelNumbers most pairs paired joined (length paired) numbers t.0 = subst
    (λ (ts : List ℕ). FirstNodesHoldLabelNumbers most pairs ts joined (length ts) numbers t.0) two t.1 in
    let roots = c.in_ok-roots.roots.items in
    let counted : (k : ℕ) → k ≤ length paired → get_or roots k 0 ≡ length (root_labels_below joined k) = λ k le.
    let same = ap (length {A = ℕ}) two in
    c.in_ok-roots.ensures.roots k (omega (arith, le, same)) most pairs touching_too is_too in
    let value = written-whole c.add_root_nodes.new.table.len numbers c.add_root_nodes.new.table.items (omega arith) in
    subst (λ (ns : List ℕ). AreNumbersOfPairedLabels pairs paired ns roots) (sym value)
    (number-pairs most pairs paired joined numbers roots t.0
    (λ labels below. are-touching labels pairs paired order same_labels below) done counted)
