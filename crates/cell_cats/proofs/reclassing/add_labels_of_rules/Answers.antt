use Rattle.std.proofs.Common.{◌∙◌, ap, rules, SFits, w32, to_z-of_z}
use Rattle.std.specs.FinMap.{insert}
use Rattle.cell_core.specs.Grid.{Grid}
use Rattle.cell_cats.proofs.LabelLemmas.{labels-some, labels-none}
use Rattle.cell_cats.proofs.reclassing.add_labels_of_rules.Goals.{in-Some+in_ok-set_label, in_default}
use Rattle.cell_cats.proofs.reclassing.add_labels_of_rules.Goals as goal

pub loop-rule-preserved : goal.loop-rule-preserved
loop-rule-preserved c =
    elim c.match-labelled_category.branch [
      | in-Some+in_ok-set_label w ↦
          let fits : SFits w32 w.in-Some.category = search rules in
          let old : Grid = c.loop-rule.made in
          let set = w.in_ok-set_label.ensures.ok ∙ ap (λ k. record old { labels = insert old.labels k w.label.result.now }) (to_z-of_z fits) in
          w.made-is
          ∙ labels-some c.args.made.now _ _ _ c.rule-item.result c.loop-rule-test.true c.rule-item.is c.loop-rule.made c.loop-rule.invariant
          w.in-Some.category w.label.result.now _ w.in-Some.ensures.value w.label.ensures set
      | in_default w ↦
          w.made-is
          ∙ labels-none c.args.made.now _ _ _ c.rule-item.result c.loop-rule-test.true c.rule-item.is c.loop-rule.made c.loop-rule.invariant w.in_default.ensures.value
    ]
