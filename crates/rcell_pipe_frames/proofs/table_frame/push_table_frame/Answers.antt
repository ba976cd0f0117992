use Rattle.std.proofs.Common.{◌≡◌, ◌∙◌, ℕ, All, length, ap, sym, subst}
use Rattle.cell_core_devices.proofs.BlockLemmas.{appends_then}
use Rattle.cell_stats_combinations.specs.Combinations.{Combination}
use Rattle.cell_stats.specs.CategoryTables.{CombinationsWithCounts}
use Rattle.cell_stats.specs.TableText.{table_entries_to_print}
use Rattle.rcell_pipe_frames.proofs.TableLemmas.{printed-all, labels-same}
use Rattle.rcell_pipe_frames.proofs.table_frame.push_table_frame.Goals as goal

pub push_asked_labels-requires-clause-width : goal.push_asked_labels-requires-clause-width
push_asked_labels-requires-clause-width g c =
    let after = c.args.options.now.after in
    let pairs = c.args.table.now.pairs in
    let wide : All (λ (pair : Combination × ℕ). length pair.0
    ≡ length c.args.places.now) (table_entries_to_print after pairs) =
    subst (λ (n : ℕ). All (λ (pair : Combination × ℕ). length pair.0 ≡ n) (table_entries_to_print after pairs)) c.requires.width (printed-all (λ (pair : Combination × ℕ). length pair.0 ≡ c.args.table.now.width) after pairs c.width-width.ensures.wide) in
    subst (λ (l : CombinationsWithCounts). All (λ (pair : Combination × ℕ). length pair.0 ≡ length c.args.places.now) l) (sym c.entries_to_print-4.ensures) wide

pub returns : goal.returns
returns g c =
    let pairs = table_entries_to_print c.args.options.now.after c.args.table.now.pairs in
    let count : c.count_entries-count.result ≡ length pairs = c.count_entries-count.ensures
    ∙ ap length c.entries_to_print.ensures in
    appends_then (appends_then (appends_then (rw count at c.push_table_frame_head.ensures) (rw c.entries_to_print-2.ensures at c.push_asked_counts.ensures)) (rw c.entries_to_print-3.ensures at c.push_combinations.ensures))
    (rw (c.entries_to_print-4.ensures, sym (labels-same c.args.shelf.now.maps c.args.places.now pairs)) at c.push_asked_labels.ensures)
