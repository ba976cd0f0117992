use Rattle.std.proofs.Common.{◌≡◌, ◌+◌, ◌<◌, ◌≤◌, ℕ, length, map, true, false, sym, ap, ◌∙◌}
use Rattle.std.specs.Vec.{with_items}
use Rattle.std.proofs.lemmas.List.{length-map, with_items_is}
use Rattle.cell_stats_combinations.specs.Combinations.{Combination}
use Rattle.cell_stats_combinations.specs.LeftOut.{combination_is_left_out}
use Rattle.cell_stats_combinations.specs.Listed.{listed_count_of_combination}
use Rattle.cell_stats_combinations.specs.PairPlaces.{count_of_combination_in_slots}
use Rattle.cell_stats_counts.specs.parts.RowCells.{combination_cell_count_from_column}
use Rattle.cell_stats_counts.specs.parts.Alone.{combination_of_one_cell}
use Rattle.cell_stats_counts.proofs.RowLemmas.{combination_cell_count_from_column-end, alone-at, cell-left, cell-more}
use Rattle.cell_stats_counts.proofs.RowLemmas.{cell-few}
use Rattle.cell_stats_counts.proofs.RowLemmas.{joined, joined_few, none, one_more, next_few}
use Rattle.cell_stats_counts.proofs.RowLemmas.{inside, before_end, still_some, past, at_end}
use Rattle.cell_stats_counts.proofs.varied.count_cells_one_by_one.Goals as goal
use Rattle.cell_stats_counts.proofs.varied.count_cells_one_by_one.Goals.{then-not-combination_is_left_out+in_ok-add_pair_count}
use Rattle.cell_stats_counts.proofs.varied.count_cells_one_by_one.Goals.{else-not-combination_is_left_out}

pub loop-col-preserved-then-col-cells : goal.loop-col-preserved-then-col-cells
loop-col-preserved-then-col-cells c =
    let inv = c.loop-col.invariant in
    let skip = c.args.skip in
    let row = c.args.cells.now in
    let cells = map combination_of_one_cell row in
    let col = c.count_cells_while_in_first_slot-col.result in
    let table = c.loop-col.table in
    let listed : Combination → ℕ = λ k. listed_count_of_combination k c.loop-col.entries.items in
    let new = c.count_cells_while_in_first_slot-col.new.places in
    let same = with_items_is table.places new (c.count_cells_while_in_first_slot-col.auto.places
    ∙ c.as_mut_slice-places.ensures.len) in
    let q = combination_of_one_cell c.index-cells-col.result in
    let within : col < length cells = inside c.if-col-cells.true (length-map row combination_of_one_cell) in
    let here = alone-at row col _ c.if-col-cells.true c.index-cells-col.is in
    let counts : (k : Combination) → count_of_combination_in_slots 1 k (with_items table.places new).items + listed k
    + combination_cell_count_from_column skip k cells col
    ≡ count_of_combination_in_slots 1 k c.args.table.now.places.items + listed_count_of_combination k
    c.args.entries.now.items
    + combination_cell_count_from_column skip k cells 0 = λ k.
    joined (listed k) (combination_cell_count_from_column skip k cells c.loop-col.col)
    (combination_cell_count_from_column skip k cells col) _ (ap (count_of_combination_in_slots 1 k) same)
    (c.count_cells_while_in_first_slot-col.ensures.counts k) (ap (count_of_combination_in_slots 1 k)
    c.as_mut_slice-places.ensures.value) (inv.counts k) in
    let few : (k : Combination) → count_of_combination_in_slots 1 k (with_items table.places new).items + listed k
    ≤ count_of_combination_in_slots 1 k c.args.table.now.places.items + listed_count_of_combination k
    c.args.entries.now.items + col = λ k.
    joined_few (listed k) c.loop-col.col col _ (ap (count_of_combination_in_slots 1 k) same)
    (c.count_cells_while_in_first_slot-col.ensures.few k) (ap (count_of_combination_in_slots 1 k)
    c.as_mut_slice-places.ensures.value) (inv.few k) in
    elim c.if-not-combination_is_left_out.branch [
      | then-not-combination_is_left_out+in_ok-add_pair_count w ↦
          let kept : combination_is_left_out skip q ≡ false = sym c.combination_is_left_out.ensures
          ∙ w.if-not-combination_is_left_out.true in
          let grown = w.in_ok-add_pair_count.ensures.ok in
          record {
            counts = λ k. rw w.table-is (rw w.entries-is
                (cell-more skip k cells col q within here _ _ _ kept (grown k) (counts k)));
            few = λ k. rw w.table-is (rw w.entries-is (one_more _
                (cell-few skip k cells col q within here _ _ 0 _ (grown k) (none _ (few k)))));
            some = rw w.table-is w.in_ok-add_pair_count.ensures.places;
            no_zero = rw w.entries-is w.in_ok-add_pair_count.ensures.no_zero;
            within = before_end c.if-col-cells.true;
          }
      | else-not-combination_is_left_out w ↦
          let left : combination_is_left_out skip q ≡ true = sym c.combination_is_left_out.ensures
          ∙ w.if-not-combination_is_left_out.false in
          record {
            counts = λ k. rw w.table-is (rw w.entries-is
                (cell-left skip k cells col q within here _ _ left (counts k)));
            few = λ k. rw w.table-is (rw w.entries-is (next_few _ col (few k)));
            some = rw w.table-is (still_some
                (ap length same ∙ c.count_cells_while_in_first_slot-col.auto.places
                ∙ ap length c.as_mut_slice-places.ensures.value) inv.some);
            no_zero = rw w.entries-is inv.no_zero;
            within = before_end c.if-col-cells.true;
          }
    ]

pub returns-clause-ok : goal.returns-clause-ok
returns-clause-ok c = λ k.
    let row = c.args.cells.now in
    let ended = past (length-map row combination_of_one_cell) c.loop-col-test.false in
    at_end _ (combination_cell_count_from_column-end c.args.skip k
    (map combination_of_one_cell row) c.loop-col.col ended)
    (c.loop-col.invariant.counts k)
