use Rattle.std.proofs.Common.{◌∙◌, ◌++◌, ◌∷◌, [], ap, unwrap_or}
use Rattle.std.specs.Option.{option_map}
use Rattle.cell_stats_combinations.specs.Listed.{CombinationCounts}
use Rattle.rcell_pipe_join.proofs.GroupLemmas.{entry-added, items-or-new}
use Rattle.rcell_pipe_join.proofs.patch_sums.add_to_group.Goals as goal

pub returns : goal.returns
returns c =
    let found = ap (λ v. v.items) c.unwrap_or-entries.ensures
    ∙ items-or-new c.remove.result c.new.result c.new.ensures.items
    ∙ ap (λ v. unwrap_or (option_map (λ w. w.items) v) []) c.remove.ensures.value in
    entry-added c.args.groups.now.entries c.remove.new.self.entries c.insert.new.self.entries c.args.number
    c.push.new.self c.args.entry c.remove.ensures.updates.0 c.in_ok-insert.ensures.updates.0
    (c.in_ok-push.ensures.items ∙ ap (λ (l : CombinationCounts). l ++ c.args.entry ∷ []) found)
