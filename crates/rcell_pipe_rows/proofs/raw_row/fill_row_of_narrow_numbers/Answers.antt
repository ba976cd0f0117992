use Rattle.std.proofs.Common.{◌≡◌, ◌&&◌, ◌||◌, Bool, true, false, not, negsuc}
use Rattle.std.proofs.Common.{w32, to_z, of_z, refl, ap, ◌∙◌, arith, rules}
use Rattle.std.specs.Ordering.{int_eq}
use Rattle.rcell_pipe_rows.specs.RawRows.{is_nodata}
use Rattle.rcell_pipe_rows.proofs.RowLemmas.{cells_more, outside_more}
use Rattle.rcell_pipe_rows.proofs.raw_row.fill_row_of_narrow_numbers.Goals as goal

spread : (a b c : Bool) → ((a || b) && c) ≡ ((a && c) || (b && c))
spread true true true = refl
spread true true false = refl
spread true false true = refl
spread true false false = refl
spread false b c = refl

pub loop-i-preserved : goal.loop-i-preserved
loop-i-preserved c =
    let kind = c.args.kind in
    let nodata = c.args.nodata in
    let mask = c.args.mask.now in
    let bytes = c.args.bytes.now in
    let i = c.loop-i.i in
    let strict = not (is_nodata nodata (negsuc 2147483647)) in
    let found = c.loop-i.found in
    let more = c.is_invalid_narrow_number_at_place-found.result in
    let null = c.null_number_or_smallest_i32-null.result in
    let same : to_z w32 (of_z w32 null) ≡ null = search rules in
    record {
      cells = cells_more kind nodata mask bytes i c.loop-i.cells c.raw_cell_at_place_of_narrow_row.result (omega arith)
          c.loop-i.invariant.cells (c.raw_cell_at_place_of_narrow_row.ensures nodata
          (λ n category. ap (int_eq n) same ∙ c.null_number_or_smallest_i32-null.ensures n category));
      outside = spread found more strict
          ∙ outside_more kind nodata mask bytes i (found && strict) (more && strict) c.loop-i.invariant.outside
          (c.is_invalid_narrow_number_at_place-found.ensures nodata);
    }
