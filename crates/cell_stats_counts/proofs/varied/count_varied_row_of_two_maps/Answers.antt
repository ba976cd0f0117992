use Rattle.std.proofs.Common.{◌≡◌, ◌+◌, ◌<◌, ◌≤◌, ℕ, List, [], ◌∷◌, length, true, false, sym, ap, ◌∙◌}
use Rattle.std.specs.Vec.{with_items}
use Rattle.std.proofs.lemmas.List.{with_items_is}
use Rattle.cell_core_values.specs.Region.{RegionValue}
use Rattle.cell_core.specs.Grid.{CellValue, row_at}
use Rattle.cell_stats_combinations.specs.Combinations.{Combination}
use Rattle.cell_stats_combinations.specs.LeftOut.{combination_is_left_out}
use Rattle.cell_stats_combinations.specs.Listed.{listed_count_of_combination}
use Rattle.cell_stats_combinations.specs.PairPlaces.{count_of_combination_in_slots}
use Rattle.cell_stats_counts.specs.parts.RowCells.{combinations_of_two_rows, combination_cell_count_from_column}
use Rattle.cell_stats_counts.proofs.RowLemmas.{combination_cell_count_from_column-end, length-both, pair-at, cell-left}
use Rattle.cell_stats_counts.proofs.RowLemmas.{cell-more, cell-few}
use Rattle.cell_stats_counts.proofs.RowLemmas.{joined, joined_few, none, one_more, next_few}
use Rattle.cell_stats_counts.proofs.RowLemmas.{inside, before_end, still_some, past, at_end}
use Rattle.cell_stats_counts.proofs.varied.count_varied_row_of_two_maps.Goals as goal
use Rattle.cell_stats_counts.proofs.varied.count_varied_row_of_two_maps.Goals.{then-not-combination_is_left_out+in_ok-add_pair_count}
use Rattle.cell_stats_counts.proofs.varied.count_varied_row_of_two_maps.Goals.{else-not-combination_is_left_out}

wide_as : {first firsts second seconds : List CellValue} {cols others : ℕ} → first ≡ firsts → length firsts ≡ cols
    → second ≡ seconds → length seconds ≡ others → others ≡ cols → length second ≡ length first
wide_as is wide is_too wide_too same = ap length is_too ∙ wide_too ∙ same ∙ sym (ap length is ∙ wide)

pub loop-col-preserved-then-col-first : goal.loop-col-preserved-then-col-first
loop-col-preserved-then-col-first c =
    let inv = c.loop-col.invariant in
    let skip = c.args.skip in
    let first = c.as_slice-first.result.now in
    let second = c.as_slice-second.result.now in
    let cells = combinations_of_two_rows first second in
    let col = c.count_pairs_while_in_near_slots-col.result in
    let table = c.loop-col.table in
    let listed : Combination → ℕ = λ k. listed_count_of_combination k c.loop-col.entries.items in
    let new = c.count_pairs_while_in_near_slots-col.new.places in
    let same = with_items_is table.places new (c.count_pairs_while_in_near_slots-col.auto.places
    ∙ c.as_mut_slice.ensures.len) in
    let q = c.index-first-col.result ∷ c.index-second-col.result ∷ [] in
    let wide = wide_as c.as_slice-first.ensures.value c.in_ok-firsts.ensures.width c.as_slice-second.ensures.value
    c.in_ok-seconds.ensures.width (ap (λ (r : RegionValue). r.cols) c.requires.region) in
    let within : col < length cells = inside c.if-col-first.true (length-both first second wide) in
    let here = pair-at first second col _ _ c.if-col-first.true wide c.index-first-col.is c.index-second-col.is in
    let counts : (k : Combination) → count_of_combination_in_slots 2 k (with_items table.places new).items + listed k
    + combination_cell_count_from_column skip k cells col
    ≡ count_of_combination_in_slots 2 k c.args.table.now.places.items + listed_count_of_combination k
    c.args.entries.now.items
    + combination_cell_count_from_column skip k cells 0 = λ k.
    joined (listed k) (combination_cell_count_from_column skip k cells c.loop-col.col)
    (combination_cell_count_from_column skip k cells col) _ (ap (count_of_combination_in_slots 2 k) same)
    (c.count_pairs_while_in_near_slots-col.ensures.counts k) (ap (count_of_combination_in_slots 2 k)
    c.as_mut_slice.ensures.value) (inv.counts k) in
    let few : (k : Combination) → count_of_combination_in_slots 2 k (with_items table.places new).items + listed k
    ≤ count_of_combination_in_slots 2 k c.args.table.now.places.items + listed_count_of_combination k
    c.args.entries.now.items + col = λ k.
    joined_few (listed k) c.loop-col.col col _ (ap (count_of_combination_in_slots 2 k) same)
    (c.count_pairs_while_in_near_slots-col.ensures.few k) (ap (count_of_combination_in_slots 2 k)
    c.as_mut_slice.ensures.value) (inv.few k) in
    elim c.if-not-combination_is_left_out.branch [
      | then-not-combination_is_left_out+in_ok-add_pair_count w ↦
          let kept : combination_is_left_out skip q ≡ false = sym c.combination_is_left_out.ensures
          ∙ w.if-not-combination_is_left_out.true in
          let grown = w.in_ok-add_pair_count.ensures.ok in
          record {
            counts = λ k. rw w.table-is (rw w.entries-is
                (cell-more skip k cells col q within here _ _ _ kept (grown k) (counts k)));
            few = λ k. rw w.table-is (rw w.entries-is (one_more _
                (cell-few skip k cells col q within here _ _ 0 _ (grown k) (none _ (few k)))));
            some = rw w.table-is w.in_ok-add_pair_count.ensures.places;
            no_zero = rw w.entries-is w.in_ok-add_pair_count.ensures.no_zero;
            within = before_end c.if-col-first.true;
          }
      | else-not-combination_is_left_out w ↦
          let left : combination_is_left_out skip q ≡ true = sym c.combination_is_left_out.ensures
          ∙ w.if-not-combination_is_left_out.false in
          record {
            counts = λ k. rw w.table-is (rw w.entries-is
                (cell-left skip k cells col q within here _ _ left (counts k)));
            few = λ k. rw w.table-is (rw w.entries-is (next_few _ col (few k)));
            some = rw w.table-is (still_some
                (ap length same ∙ c.count_pairs_while_in_near_slots-col.auto.places
                ∙ ap length c.as_mut_slice.ensures.value) inv.some);
            no_zero = rw w.entries-is inv.no_zero;
            within = before_end c.if-col-first.true;
          }
    ]

pub returns-clause-ok : goal.returns-clause-ok
returns-clause-ok c = λ k.
    let first = c.as_slice-first.result.now in
    let second = c.as_slice-second.result.now in
    let wide = wide_as c.as_slice-first.ensures.value c.in_ok-firsts.ensures.width c.as_slice-second.ensures.value
    c.in_ok-seconds.ensures.width (ap (λ (r : RegionValue). r.cols) c.requires.region) in
    let ended = past (length-both first second wide) c.loop-col-test.false in
    let old = count_of_combination_in_slots 2 k c.args.table.now.places.items + listed_count_of_combination k
    c.args.entries.now.items in
    at_end _ (combination_cell_count_from_column-end c.args.skip k
    (combinations_of_two_rows first second) c.loop-col.col ended) (c.loop-col.invariant.counts k)
    ∙ ap (λ l. old + combination_cell_count_from_column c.args.skip k (combinations_of_two_rows l second) 0)
    (c.as_slice-first.ensures.value ∙ c.in_ok-firsts.ensures.cells)
    ∙ ap (λ l. old + combination_cell_count_from_column c.args.skip k
    (combinations_of_two_rows (row_at c.args.one.now c.args.row) l) 0)
    (c.as_slice-second.ensures.value ∙ c.in_ok-seconds.ensures.cells)
