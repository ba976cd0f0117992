use Rattle.std.proofs.Common.{◌≡◌, ℕ, ◌+◌, [], ◌∷◌, ◌++◌, List, get_or, take, map, ap, sym, ◌∙◌, arith, subst}
use Rattle.std.proofs.lemmas.List.{take_more, map-append}
use Rattle.cell_join_numbers.specs.SparseLabels.{places_of_label_pair}
use Rattle.cell_join_numbers.specs.UnionFind.{AreRootsOfLabels, roots_after_all_joins}
use Rattle.cell_join_numbers.proofs.PairLabelLemmas.{all-paired}
use Rattle.cell_join_numbers.proofs.PlaceLemmas.{contained-place}
use Rattle.cell_join_numbers.proofs.UnionLemmas.{after_all-append}
use Rattle.cell_join_numbers.proofs.sparse.unite_nodes_of_pairs.Goals as goal

pub unite_nodes-requires-clause-one_inside : goal.unite_nodes-requires-clause-one_inside
unite_nodes-requires-clause-one_inside c =
    let pairs = c.args.pairs.now in
    let both = all-paired pairs c.args.paired.now c.requires.all c.loop-pair.pair-index (0, 0) c.loop-pair-test.true in
    let at = contained-place c.args.paired.now c.requires.in_order (get_or pairs c.loop-pair.pair-index (0, 0)).0 both.0 in
    omega (arith, at.inside, c.requires.long, c.loop-pair.invariant.long, c.place_in_paired_labels.ensures)

pub unite_nodes-requires-clause-other_inside : goal.unite_nodes-requires-clause-other_inside
unite_nodes-requires-clause-other_inside c =
    let pairs = c.args.pairs.now in
    let both = all-paired pairs c.args.paired.now c.requires.all c.loop-pair.pair-index (0, 0) c.loop-pair-test.true in
    let at = contained-place c.args.paired.now c.requires.in_order (get_or pairs c.loop-pair.pair-index (0, 0)).1 both.1 in
    omega (arith, at.inside, c.requires.long, c.loop-pair.invariant.long, c.place_in_paired_labels-in-loop-pair.ensures)

pub loop-pair-preserved : goal.loop-pair-preserved
loop-pair-preserved c =
    let pairs = c.args.pairs.now in
    let paired = c.args.paired.now in
    let i = c.loop-pair.pair-index in
    let new = c.unite_nodes.new.table in
    let places = places_of_label_pair paired in
    let pair : ℕ × ℕ = get_or pairs i (0, 0) in
    let one : (c.place_in_paired_labels.result, c.place_in_paired_labels-in-loop-pair.result) ≡ places pair = λ k. (c.place_in_paired_labels.ensures k, c.place_in_paired_labels-in-loop-pair.ensures k) in
    record {
      down = c.unite_nodes.ensures.down;
      long = c.unite_nodes.auto.table ∙ c.loop-pair.invariant.long;
      leads = λ root_of given.
          let done = map places (take i pairs) in
          let now = c.unite_nodes.ensures.leads _ (c.loop-pair.invariant.leads root_of given) in
          let joined : AreRootsOfLabels new (roots_after_all_joins (roots_after_all_joins root_of done) (places pair ∷ [])) = subst (λ (p : ℕ × ℕ). AreRootsOfLabels new (roots_after_all_joins (roots_after_all_joins root_of done) (p ∷ []))) one now in
          let all : map places (take (i + 1) pairs) ≡ done ++ places pair ∷ [] = ap (map places) (take_more pairs i (0, 0) c.loop-pair-test.true) ∙ map-append places (take i pairs) (pair ∷ []) in
          subst (λ (ps : List (ℕ × ℕ)). AreRootsOfLabels new (roots_after_all_joins root_of ps)) (sym all) (subst (AreRootsOfLabels new) (sym (after_all-append root_of done (places pair ∷ []))) joined);
    }
