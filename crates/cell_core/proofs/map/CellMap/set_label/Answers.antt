use Rattle.std.proofs.Common.{◌∙◌, ap, map, w32}
use Rattle.std.proofs.lemmas.Int.{to_z-of_z}
use Rattle.std.specs.FinMap.{insert, from_entries}
use Rattle.cell_core.proofs.LabelLemmas.{insert-labels}
use Rattle.cell_core.proofs.map.CellMap.set_label.Goals as goal

-- the ordered map holds the copied label at the category, and its other labels are unchanged
pub returns-clause-ok : goal.returns-clause-ok
returns-clause-ok c =
    let old = c.self.inside.labels.entries in
    let updates = rw (to_z-of_z w32 c.args.category c.ranges.category) at c.in_ok-insert.ensures.updates in
    let labels = insert-labels (λ v. v.items) old c.insert.new.self.entries c.args.category c.in_ok-label.label updates.0
    ∙ ap (insert (from_entries (map (λ e. (e.0, e.1.items)) old)) c.args.category) c.in_ok-label.ensures.items in
    rw (← c.self.view_is) (λ i. record { region = c.self.inside.rows.region; rows = c.self.inside.rows.rows; labels = labels i })
