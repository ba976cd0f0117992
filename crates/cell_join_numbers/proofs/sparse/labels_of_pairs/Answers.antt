use Rattle.std.proofs.Common.{◌≡◌, ℕ, ◌+◌, [], ◌∷◌, ◌++◌, List, get_or, take, ap, sym, ◌∙◌, append_assoc}
use Rattle.std.proofs.lemmas.List.{take_more}
use Rattle.cell_join_numbers.specs.SparseNumbers.{labels_of_pairs}
use Rattle.cell_join_numbers.proofs.PairLabelLemmas.{labels-append}
use Rattle.cell_join_numbers.proofs.sparse.labels_of_pairs.Goals as goal

pub loop-pair-preserved : goal.loop-pair-preserved
loop-pair-preserved c =
    let pairs = c.args.pairs.now in
    let i = c.loop-pair.pair-index in
    let pair : ℕ × ℕ = get_or pairs i (0, 0) in
    let all : labels_of_pairs (take (i + 1) pairs) ≡ labels_of_pairs (take i pairs) ++ pair.0 ∷ pair.1 ∷ [] =
    ap labels_of_pairs (take_more pairs i (0, 0) c.loop-pair-test.true) ∙ labels-append (take i pairs) (pair ∷ []) in
    c.in_ok-push-2.ensures.items
    ∙ ap (λ (l : List ℕ). l ++ pair.1 ∷ []) (c.in_ok-push.ensures.items ∙ ap (λ (l : List ℕ). l ++ pair.0 ∷ []) c.loop-pair.invariant)
    ∙ append_assoc (labels_of_pairs (take i pairs)) (pair.0 ∷ []) (pair.1 ∷ [])
    ∙ sym all
