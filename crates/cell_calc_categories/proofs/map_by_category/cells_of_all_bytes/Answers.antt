use Rattle.std.proofs.Common.{◌≡◌, ◌+◌, ◌∷◌, [], length, length-append, ap, ◌∙◌, arith}
use Rattle.cell_core_values.specs.SmallCells.{cell_of_stored_byte}
use Rattle.cell_calc_categories.proofs.Categories.{one_pushed}
use Rattle.cell_calc_categories.proofs.map_by_category.cells_of_all_bytes.Goals as goal

pub loop-byte-preserved : goal.loop-byte-preserved
loop-byte-preserved c =
    let old = c.loop-byte.cells.items in
    let x = c.cell_of_byte.result in
    let is = c.in_ok-push.ensures.items in
    record {
      count = ap (λ l. length l) is ∙ length-append old (x ∷ []) ∙ ap (λ n. n + 1) c.loop-byte.invariant.count;
      within = omega (arith, c.loop-byte-test.true);
      each = rw is (one_pushed (λ b v. v ≡ cell_of_stored_byte b) old x c.loop-byte.byte c.loop-byte.invariant.count
          c.loop-byte.invariant.each c.cell_of_byte.ensures);
    }
