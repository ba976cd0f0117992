use Rattle.std.proofs.Common.{◌<◌, ◌++◌, [], ◌∷◌, length, take, get_or, ap, sym, ◌∙◌, arith}
use Rattle.std.proofs.Math.Facts.{Fits-lt-pow}
use Rattle.std.proofs.lemmas.List.{take_more_set, map_more, map-append}
use Rattle.cell_core_values.specs.SmallCells.{cell_of_stored_byte, cells_of_bytes}
use Rattle.cell_cats.specs.Rule.{new_category}
use Rattle.cell_cats.specs.Reclass.{reclassed_row}
use Rattle.cell_cats.proofs.byte_table.write_reclassed_bytes.Goals as goal

pub loop-i-preserved : goal.loop-i-preserved
loop-i-preserved c = λ rules table.
    let bytes = c.args.bytes.now in
    let i = c.loop-i.i in
    let byte = get_or bytes i 0 in
    let new = get_or c.args.table.now byte 0 in
    let inside : i < length bytes = omega arith in
    ap cells_of_bytes (take_more_set c.loop-i.row i new (omega arith))
    ∙ map-append cell_of_stored_byte (take i c.loop-i.row) (new ∷ [])
    ∙ ap (λ cells. cells ++ cell_of_stored_byte new ∷ []) (c.loop-i.invariant rules table)
    ∙ ap (λ cell. reclassed_row rules (cells_of_bytes (take i bytes)) ++ cell ∷ []) (table byte (Fits-lt-pow (c.type_inv.bytes i)))
    ∙ sym (ap (reclassed_row rules) (map_more cell_of_stored_byte bytes i 0 inside)
    ∙ map-append (new_category rules) (cells_of_bytes (take i bytes)) (cell_of_stored_byte byte ∷ []))
