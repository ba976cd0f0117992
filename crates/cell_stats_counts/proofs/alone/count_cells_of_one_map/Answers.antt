use Rattle.std.proofs.Common.{Result, Ok, Err, ◌≡◌, ◌+◌, ◌*◌, ◌<◌, ◌≤◌, ◌^◌, ℕ, [], ◌∷◌, length, map}
use Rattle.std.proofs.Common.{refl, ap, sym, ◌∙◌, arith, mul-le-mul}
use Rattle.std.proofs.lemmas.List.{length-map}
use Rattle.std.specs.Result.{OnOk}
use Rattle.cell_core_values.specs.Region.{RegionValue}
use Rattle.cell_core_values.specs.SmallCells.{cell_of_stored_byte}
use Rattle.cell_core.specs.Grid.{row_at}
use Rattle.cell_stats_combinations.specs.Combinations.{Combination, all_combinations}
use Rattle.cell_stats_combinations.specs.LeftOut.{kept_cells}
use Rattle.cell_stats_counts.specs.Counts.{cell_count_of_combination}
use Rattle.cell_stats_counts.specs.parts.Alone.{combination_of_one_cell}
use Rattle.cell_stats_counts.specs.parts.ByteCounts.{count_added_by_byte_cell, sum_over_counted_bytes}
use Rattle.cell_stats_counts.specs.parts.CountsUnderWay.{counted_cell_count_of_combination}
use Rattle.cell_stats_counts.proofs.ByteCountLemmas.{cells-sum, length-sum}
use Rattle.cell_stats_counts.proofs.RunCountLemmas.{counted-alone, few-alone, fits-alone}
use Rattle.cell_stats_counts.proofs.alone.count_cells_of_one_map.Goals.{in-Some, in_default+in_ok-count_row_of_one_map}
use Rattle.cell_stats_counts.proofs.alone.count_cells_of_one_map.Goals as goal

early : {row last rows : ℕ} → row < last → last ≡ rows → rows ≤ 65535 → row ≤ 65535
early before all few = omega arith

ended : {row last rows : ℕ} → row ≤ last → last ≤ row → last ≡ rows → row ≡ rows
ended within end all = omega arith

high_enough : {row last rows : ℕ} → row ≤ last → last ≡ rows → rows ≤ 65535 → row ≤ 65535
high_enough before all few = omega arith

-- a consequence of a property holds if the result is `Ok`
on_ok : {T E P Q : Type 0} (result : Result T E) → (P → Q) → OnOk result P → OnOk result Q
on_ok (Ok x) step p = step p
on_ok (Err e) step p = p

all_fit : (total one : ℕ) {sum most : ℕ} → total + one < 2 ^ 63 → sum ≤ most → most ≤ 65535 * 65535
    → total + sum < 2 ^ 64
all_fit total one small few most = omega arith

-- the total without the bytes fits because the total with them does
fits : (total bytes more : ℕ) → total + bytes + more < 2 ^ 64 → total + more < 2 ^ 64
fits total bytes more all = omega arith

-- a row held as bytes adds to the counts of bytes; any other row adds to the places
by_bytes : (total old more : ℕ) {new : ℕ} → new ≡ old + more → total + new ≡ total + old + more
by_bytes total old more grown = omega arith

by_places : (bytes old more : ℕ) {new : ℕ} → new ≡ old + more → new + bytes ≡ old + bytes + more
by_places bytes old more grown = omega arith

one_row : (row : ℕ) {new old more cols : ℕ} → new ≡ old + more → more ≡ cols → old ≤ row * cols → new ≤ (row + 1) * cols
one_row row {cols = cols} grown wide few =
    let next : (row + 1) * cols ≡ row * cols + cols = omega arith in
    omega (arith, grown, wide, few, next)

no_bytes : (row cols : ℕ) {old : ℕ} → old ≤ row * cols → old ≤ (row + 1) * cols
no_bytes row cols few =
    let next : (row + 1) * cols ≡ row * cols + cols = omega arith in
    omega (arith, few, next)

pub count_row_of_one_map-requires-clause-fits : goal.count_row_of_one_map-requires-clause-fits
count_row_of_one_map-requires-clause-fits c = λ k.
    let region = c.rows-row-end.ensures.region in
    let few = early c.loop-row-test.true c.rows-row-end.ensures.value region.rows_most in
    let cols = ap (λ (r : RegionValue). r.cols) c.map-grid.ensures.region in
    let same = ap (λ (r : RegionValue). r.cols) c.region.ensures.value in
    fits (counted_cell_count_of_combination 1 k c.loop-row.places c.loop-row.entries.items) _ _
    (fits-alone c.args.skip k c.args.shelf.now.maps (c.args.pick ∷ []) c.loop-row.row c.args.shelf.now.region.cols _ _
    few (rw (← same) region.cols_most) (c.loop-row.invariant.counted k) cols)

pub loop-row-preserved : goal.loop-row-preserved
loop-row-preserved c =
    let skip = c.args.skip in
    let maps = c.args.shelf.now.maps in
    let row = c.loop-row.row in
    let cols = c.args.shelf.now.region.cols in
    let grid = c.map-grid.result.now in
    let inv = c.loop-row.invariant in
    let now = c.match-bytes in
    let same : grid.region.cols ≡ cols = ap (λ (r : RegionValue). r.cols) c.map-grid.ensures.region in
    let total = λ (k : Combination). counted_cell_count_of_combination 1 k c.loop-row.places c.loop-row.entries.items in
    let next = λ (k : Combination) (new : ℕ) (wide : length (row_at grid row) ≡ cols).
    counted-alone skip k maps (c.args.pick ∷ []) row c.args.pick cols grid
    (total k + sum_over_counted_bytes (count_added_by_byte_cell skip k) 0 c.loop-row.counts) new refl
    c.map-grid.ensures.value wide
    (inv.counted k) in
    elim c.match-bytes.branch [
      | in-Some w ↦
          let bytes = w.in-Some.bytes.now in
          let cells = w.in-Some.ensures.cells in
          let wide = sym (ap length cells) ∙ length-map bytes cell_of_stored_byte ∙ w.in-Some.ensures.width ∙ same in
          record {
            counted = λ k. rw (w.places-is, w.entries-is, w.counts-is)
                (next k _ wide
                (by_bytes (total k) _ _ (w.add_bytes_to_byte_counts.ensures (count_added_by_byte_cell skip k)
                ∙ ap (λ m. sum_over_counted_bytes (count_added_by_byte_cell skip k) 0 c.loop-row.counts + m)
                (sym (cells-sum skip k bytes) ∙ ap (λ l. cell_count_of_combination k
                (kept_cells skip (map combination_of_one_cell l))) cells))));
            few = rw w.counts-is
                (one_row row (w.add_bytes_to_byte_counts.ensures (λ b. 1)) (sym (length-sum bytes)
                ∙ w.in-Some.ensures.width
                ∙ same)
                inv.few);
            going = rw (w.places-is, w.entries-is) inv.going;
          }
      | in_default+in_ok-count_row_of_one_map w ↦
          let ensures = w.in_ok-count_row_of_one_map.ensures in
          record {
            counted = λ k. rw (w.places-is, w.entries-is, w.counts-is)
                (next k _ (w.count_row_of_one_map.ensures.width ∙ same)
                (by_places (sum_over_counted_bytes (count_added_by_byte_cell skip k) 0 c.loop-row.counts) _ _
                (ensures.ok k)));
            few = rw w.counts-is (no_bytes row cols inv.few);
            going = rw (w.places-is, w.entries-is) ensures.going;
          }
    ]

pub add_byte_counts_as_cell_counts-requires-clause-fits : goal.add_byte_counts_as_cell_counts-requires-clause-fits
add_byte_counts_as_cell_counts-requires-clause-fits c = λ k.
    let region = c.rows-row-end.ensures.region in
    let cols = c.args.shelf.now.region.cols in
    let same : c.region.result.cols ≡ cols = ap (λ (r : RegionValue). r.cols) c.region.ensures.value in
    let wide : cols ≤ 65535 = rw (← same) region.cols_most in
    let high = high_enough c.loop-row.auto.row-end c.rows-row-end.ensures.value region.rows_most in
    all_fit (counted_cell_count_of_combination 1 k c.loop-row.places c.loop-row.entries.items) _
    (few-alone c.args.skip k c.args.shelf.now.maps (c.args.pick ∷ []) c.loop-row.row cols _ high wide
    (c.loop-row.invariant.counted k))
    c.loop-row.invariant.few (mul-le-mul high wide)

pub returns-clause-ok : goal.returns-clause-ok
returns-clause-ok c =
    let maps = c.args.shelf.now.maps in
    let cols = c.args.shelf.now.region.cols in
    let last = ended c.loop-row.auto.row-end c.loop-row-test.false
    (c.rows-row-end.ensures.value ∙ ap (λ (r : RegionValue). r.rows) c.region.ensures.value) in
    on_ok c.add_byte_counts_as_cell_counts.result (λ counted k.
    counted k ∙ c.loop-row.invariant.counted k
    ∙ ap (λ r. cell_count_of_combination k (kept_cells c.args.skip (all_combinations maps (c.args.pick
    ∷ []) r cols))) last)
    c.add_byte_counts_as_cell_counts.ensures.ok
