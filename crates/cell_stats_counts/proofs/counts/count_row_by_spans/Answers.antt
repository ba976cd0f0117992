use Rattle.std.proofs.Common.{◌≡◌, ◌<◌, ◌≤◌, ◌^◌, arith, ap, refl, sym, ◌∙◌, ◌+◌, ℕ}
use Rattle.cell_core_values.specs.Region.{RegionValue}
use Rattle.cell_stats_counts.specs.parts.CountsUnderWay.{counted_cell_count_of_combination}
use Rattle.cell_stats_combinations.specs.SideBySide.{count_of_counted_combination}
use Rattle.cell_stats_counts.proofs.RunCountLemmas.{fits-alone}
use Rattle.cell_stats_counts.proofs.RowLemmas.{twin, counted-both}
use Rattle.cell_stats_counts.proofs.counts.count_row_by_spans.Goals as goal

below : {n m most : ℕ} → n < m → m ≡ most → n < most
below lower same = omega arith

before : {n m most : ℕ} → n < m → m ≤ most → n ≤ most
before lower high = omega arith

just_one : {n : ℕ} → 1 ≤ n → n < 2 → n ≡ 1
just_one some few = omega arith

just_two : {n : ℕ} → 2 ≤ n → n < 3 → n ≡ 2
just_two some few = omega arith

-- the counts of the table and the list fit
part : (paired listed gathered wide cols : ℕ) → wide ≡ cols → paired + listed + gathered + cols < 2 ^ 64
    → paired + listed + wide < 2 ^ 64
part paired listed gathered wide cols same all = omega arith

-- the table and the list account for the whole increase
whole : (paired listed gathered now later more : ℕ) → now + later ≡ paired + listed + more
    → now + later + gathered ≡ paired + listed + gathered + more
whole paired listed gathered now later more grown = omega arith

same_cols : {wide cols : ℕ} → wide ≡ cols → cols ≤ 65535 → wide < 2 ^ 32
same_cols same high = omega arith

pub count_varied_row_of_two_maps-requires-clause-fits : goal.count_varied_row_of_two_maps-requires-clause-fits
count_varied_row_of_two_maps-requires-clause-fits c = λ k.
    let picks = c.args.selection.picks.now in
    let region = c.requires.region in
    let two = just_two c.in-len2.len_at_least c.in-len2.len_below in
    let few = before c.requires.row_in_range region.rows_most in
    let was = sym (ap (λ w. counted_cell_count_of_combination w k c.args.places.now c.args.entries.now.items) two)
    ∙ c.requires.counted k in
    let cols = c.args.selection.shelf.now.region.cols in
    let wide = ap (λ (r : RegionValue). r.cols) c.map-one.ensures.region in
    part _ _ (count_of_counted_combination 2 k c.args.places.now.wide) _ cols wide
    (fits-alone c.args.selection.skip k c.args.selection.shelf.now.maps picks c.args.row
    cols (counted_cell_count_of_combination 2 k c.args.places.now c.args.entries.now.items) cols few region.cols_most
    was
    refl)

pub returns-then-row_changes_often-clause-ok : goal.returns-then-row_changes_often-clause-ok
returns-then-row_changes_often-clause-ok c = λ k.
    let picks = c.args.selection.picks.now in
    let two = just_two c.in-len2.len_at_least c.in-len2.len_below in
    let was = sym (ap (λ w. counted_cell_count_of_combination w k c.args.places.now c.args.entries.now.items) two)
    ∙ c.requires.counted k in
    let wide = ap (λ (r : RegionValue). r.cols) c.map-one.ensures.region in
    let ensures = c.in_ok-count_varied_row_of_two_maps.ensures in
    counted-both c.args.selection.skip k c.args.selection.shelf.now.maps picks c.args.row _ _
    c.args.selection.shelf.now.region.cols c.map-one.result.now c.map-other.result.now
    (counted_cell_count_of_combination 2 k c.args.places.now c.args.entries.now.items) _
    (twin picks _ two) c.map-one.ensures.value c.map-other.ensures.value (ensures.width ∙ wide)
    (ensures.width_of_other ∙ wide) was
    (ap (λ w. counted_cell_count_of_combination w k (record {
      wide = c.args.places.now.wide;
      pairs = c.count_varied_row_of_two_maps.new.table;
    })
    c.count_varied_row_of_two_maps.new.entries.items) two
    ∙ whole _ _ (count_of_counted_combination 2 k c.args.places.now.wide) _ _ _ (ensures.ok k))

pub move_cursors_to_row_start-requires-clause-picked : goal.move_cursors_to_row_start-requires-clause-picked
move_cursors_to_row_start-requires-clause-picked c = c.requires.picked

pub move_cursors_to_row_start-requires-clause-row_in_range : goal.move_cursors_to_row_start-requires-clause-row_in_range
move_cursors_to_row_start-requires-clause-row_in_range c = c.requires.row_in_range

pub move_cursors_to_row_start-requires-clause-width : goal.move_cursors_to_row_start-requires-clause-width
move_cursors_to_row_start-requires-clause-width c = c.requires.cursors
