use Rattle.std.proofs.Common.{◌≡◌, ◌<◌, ℤ, pos, negsuc, FitsSigned, w64, subst, unsigned_abs, arith}
use Rattle.std.proofs.lemmas.Int.{ints}
use Rattle.cell_ascii_writer.proofs.LengthLemmas.{region_length}
use Rattle.cell_ascii_writer.proofs.writer.region_text_is_short.Goals as goal

wide : (z : ℤ) → FitsSigned w64 z → unsigned_abs z < 18446744073709551616
wide (pos n) fits = grind (arith, ints, fits.sfits)
wide (negsuc n) fits = grind (arith, ints, fits.sfits)

edge : {z e : ℤ} → z ≡ e → FitsSigned w64 z → unsigned_abs e < 18446744073709551616
edge {z} is fits = subst (λ (x : ℤ). unsigned_abs x < 18446744073709551616) is (wide z fits)

pub returns-clause-lines : goal.returns-clause-lines
returns-clause-lines c =
    region_length c.args.region (edge c.north.ensures.value (record { sfits = c.north.type_inv })) (edge c.south.ensures.value (record { sfits = c.south.type_inv }))
    (edge c.east.ensures.value (record { sfits = c.east.type_inv })) (edge c.west.ensures.value (record { sfits = c.west.type_inv }))
    c.rows.ensures.region.rows_most c.rows.ensures.region.cols_most

pub returns-clause-rows : goal.returns-clause-rows
returns-clause-rows c = c.rows.ensures.region.rows_most

pub returns-clause-cols : goal.returns-clause-cols
returns-clause-cols c = c.rows.ensures.region.cols_most
