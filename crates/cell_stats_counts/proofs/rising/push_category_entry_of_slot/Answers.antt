use Rattle.cell_stats_counts.proofs.AscendLemmas.{ascends-push}
use Rattle.cell_stats_counts.proofs.rising.push_category_entry_of_slot.Goals as goal

pub returns-clause-end : goal.returns-clause-end
returns-clause-end c = λ rising.
    rw c.in_ok-push_category_with_count.ensures
    (ascends-push _ _ _ (c.is_known_above_listed_categories-ascends.ensures.ascending rising)
    (c.is_known_above_listed_categories-ascends.ensures.above rising))
