use Rattle.std.proofs.Common.{◌≡◌, ◌∙◌, ◌+◌, ◌<◌, ℕ, List, [], ◌∷◌, ◌++◌, length, take, get_or, refl, sym, ap, arith}
use Rattle.std.specs.FinMap as finmap
use Rattle.std.specs.Ordering.{int_cmp}
use Rattle.std.proofs.lemmas.List.{take_more, map_push}
use Rattle.cell_core.specs.Grid.{Grid}
use Rattle.rcell_pipe_request.specs.declared.head.CategoryLabel.{CategoryLabel}
use Rattle.rcell_pipe_request.specs.Heads.{LabelValue, label_as_value, labels_as_values}
use Rattle.rcell_pipe_request.specs.Requests.{label_map_with_added_labels}
use Rattle.rcell_pipe_request.proofs.named_map.set_labels.Goals as goal

-- one more label is added
label_map_with_added_labels-push : (labels : finmap.FinMap int_cmp (List ℕ)) (before : List LabelValue) (label : LabelValue) → label_map_with_added_labels labels (before ++ label ∷ []) ≡ finmap.insert (label_map_with_added_labels labels before) label.category label.text
unfolding label_map_with_added_labels
label_map_with_added_labels-push labels [] label = refl
label_map_with_added_labels-push labels (first ∷ before) label = label_map_with_added_labels-push (finmap.insert labels first.category first.text) before label

-- the map has one more label
labels_more : (first now new : Grid) (labels : List CategoryLabel) (i : ℕ) (label : CategoryLabel) → i < length labels → label ≡ get_or labels i label
    → now ≡ record first { labels = label_map_with_added_labels first.labels (labels_as_values (take i labels)) } → new ≡ record now { labels = finmap.insert now.labels label.category label.text.items }
    → new ≡ record first { labels = label_map_with_added_labels first.labels (labels_as_values (take (i + 1) labels)) }
labels_more first now new labels i label within item before set =
    let more : labels_as_values (take (i + 1) labels) ≡ labels_as_values (take i labels) ++ label_as_value label ∷ [] =
    ap labels_as_values (take_more labels i label within ∙ ap (λ (x : CategoryLabel). take i labels ++ x
    ∷ []) (sym item))
    ∙ map_push label_as_value (take i labels) label in
    let grown : label_map_with_added_labels first.labels (labels_as_values (take (i + 1) labels)) ≡ finmap.insert (label_map_with_added_labels first.labels (labels_as_values (take i labels))) label.category label.text.items =
    ap (label_map_with_added_labels first.labels) more ∙ label_map_with_added_labels-push first.labels (labels_as_values (take i labels)) (label_as_value label) in
    set ∙ ap (λ (m : Grid). record m { labels = finmap.insert m.labels label.category label.text.items }) before
    ∙ ap (λ (ls : finmap.FinMap int_cmp (List ℕ)). record first { labels = ls }) (sym grown)

pub loop-label-init : goal.loop-label-init
unfolding label_map_with_added_labels
loop-label-init c = refl

pub loop-label-preserved : goal.loop-label-preserved
loop-label-preserved c =
    labels_more c.args.map.now c.loop-label.map c.set_label.new.map c.args.labels.now c.loop-label.label-index c.label-item.result (omega arith) c.label-item.is c.loop-label.invariant c.in-Ok.ensures
