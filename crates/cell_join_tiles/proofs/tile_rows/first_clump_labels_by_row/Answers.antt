use Rattle.std.proofs.Common.{◌≡◌, ◌+◌, ℕ, List, length, ap, sym, ◌∙◌, arith, ⊎_elim}
use Rattle.std.proofs.lemmas.Bool.{cases_lt}
use Rattle.std.proofs.lemmas.List.{length_push}
use Rattle.cell_join_numbers.proofs.PairLabelLemmas.{push-at, push-before}
use Rattle.cell_join_tiles.specs.Beginnings.{begun_clump_count_above_in_tiles}
use Rattle.cell_join_tiles.specs.Values.{values_of_tile_borders}
use Rattle.cell_join_tiles.specs.parts.RowMarks.{begun_clump_counts_of_tile_row}
use Rattle.cell_join_tiles.proofs.LabelSums.{above-none}
use Rattle.cell_join_tiles.proofs.RowLabelLemmas.{above-all, above-more}
use Rattle.cell_join_tiles.proofs.tile_rows.first_clump_labels_by_row.Goals as goal

pub loop-row-init : goal.loop-row-init
loop-row-init c =
    let none = ap (λ (l : List ℕ). length l) c.new-firsts.ensures.items in
    record {
      long = omega (arith, none);
      label = omega (arith, above-none (begun_clump_counts_of_tile_row (values_of_tile_borders c.args.tiles.now)));
      each = λ i lt. absurd (omega (arith, lt));
    }

pub overflow_add-label : goal.overflow_add-label
overflow_add-label c =
    let tiles = begun_clump_counts_of_tile_row (values_of_tile_borders c.args.tiles.now) in
    let row = c.loop-row.row in
    record { fits = omega (arith, c.loop-row.invariant.label, c.begun_clump_count_in_row_of_tiles-label.ensures, above-more tiles row, above-all tiles (row + 1), c.requires.fits) }

pub loop-row-preserved : goal.loop-row-preserved
loop-row-preserved c =
    let tiles = begun_clump_counts_of_tile_row (values_of_tile_borders c.args.tiles.now) in
    let row = c.loop-row.row in
    let was = c.loop-row.invariant in
    let old = c.loop-row.firsts.items in
    let new = c.push.new.self.items in
    let items = c.in_ok-push.ensures.items in
    record {
      long = let one = ap (λ (l : List ℕ). length l) items in omega (arith, one, length_push old c.loop-row.label, was.long);
      label = omega (arith, was.label, c.begun_clump_count_in_row_of_tiles-label.ensures, above-more tiles row);
      each = λ i lt. ⊎_elim
          (λ below. push-before old new c.loop-row.label i items (omega (arith, below, was.long)) ∙ was.each i below)
          (λ ge.
          let e : i ≡ row = omega (arith, ge, lt) in
          push-at old new c.loop-row.label i items (omega (arith, was.long, e)) ∙ was.label ∙ ap (λ (n : ℕ). c.args.base + begun_clump_count_above_in_tiles tiles n) (sym e))
          (cases_lt i row);
    }
