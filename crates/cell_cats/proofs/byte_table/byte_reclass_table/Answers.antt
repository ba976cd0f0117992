use Rattle.std.proofs.Common.{◌≡◌, ◌≢◌, List, ◌<◌, length, get_or, set, None, ap, sym, ◌∙◌, arith, length-set}
use Rattle.std.proofs.Common.{below_more, get_or-set_same, get_or-set_other}
use Rattle.std.proofs.lemmas.List.{get_or-map, length-map}
use Rattle.cell_core_values.specs.SmallCells.{cell_of_stored_byte, cells_of_bytes}
use Rattle.cell_core.specs.Grid.{CellValue}
use Rattle.cell_cats.specs.Rule.{new_category}
use Rattle.cell_cats.proofs.byte_table.byte_reclass_table.Goals as goal

pub loop-byte-preserved : goal.loop-byte-preserved
loop-byte-preserved c =
    let cells = c.loop-byte.cells.items in
    let byte = c.loop-byte.byte in
    let new = c.apply.result in
    let inside : byte < length cells = omega (arith, c.loop-byte.invariant.size, c.loop-byte-test.true) in
    record {
      size = length-set cells byte new ∙ c.loop-byte.invariant.size;
      right = λ rules of.
          below_more (λ b. get_or (set cells byte new) b None ≡ new_category rules (cell_of_stored_byte b)) byte
          (λ b below.
          let other : b ≢ byte = omega arith in
          get_or-set_other cells byte b new None other
          ∙ c.loop-byte.invariant.right rules of b below)
          (get_or-set_same cells byte new None inside
          ∙ c.apply.ensures rules of ∙ ap (new_category rules) c.cell_of_byte.ensures);
    }

pub returns-clause-right : goal.returns-clause-right
returns-clause-right c = λ rules of b below.
    let table = c.in_ok-table.table.items in
    let cells = c.loop-byte.cells.items in
    let same : cells_of_bytes table ≡ cells = c.in_ok-table.ensures ∙ c.deref-2.ensures.value in
    let size : length table ≡ 256 = sym (length-map table cell_of_stored_byte) ∙ ap length same
    ∙ c.loop-byte.invariant.size in
    sym (get_or-map cell_of_stored_byte table b 0 None (omega (arith, size, below))) ∙ ap (λ (l : List CellValue). get_or l b None) same
    ∙ c.loop-byte.invariant.right rules of b (omega (arith, below, c.loop-byte-test.false))
