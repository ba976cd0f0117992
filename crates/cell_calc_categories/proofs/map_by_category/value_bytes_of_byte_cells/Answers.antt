use Rattle.std.proofs.Common.{◌<◌, ◌≡◌, length, map, get_or, ap, sym, subst, ◌∙◌, arith, None}
use Rattle.std.proofs.lemmas.List.{get_or-map, length-map, get_or_default}
use Rattle.cell_core_values.specs.SmallCells.{cell_of_stored_byte, cells_of_bytes}
use Rattle.cell_calc.specs.RowValues.{at}
use Rattle.cell_calc_categories.specs.parts.CategorySpans.{IsCellInCategoryInterval}
use Rattle.cell_calc_categories.proofs.Categories.{byte_within}
use Rattle.cell_calc_categories.proofs.map_by_category.value_bytes_of_byte_cells.Goals as goal

pub replace_cells_by_table_values-requires-clause-within : goal.replace_cells_by_table_values-requires-clause-within
replace_cells_by_table_values-requires-clause-within c = λ i d lt.
    let cells = c.in_ok-buffer.buffer.items in
    let made = c.in_ok-buffer.ensures in
    let same = c.as_mut_slice-cells.ensures.value in
    let below : i < 256 = omega (arith, lt, ap (λ l. length l) same, made.count) in
    let there : i < length cells = omega (arith, below, made.count) in
    subst (IsCellInCategoryInterval c.args.span) (sym (ap (λ l. get_or l i d) same ∙ get_or_default cells i d None there
    ∙ made.each i below))
    (byte_within c.args.span c.requires.span i below)

pub returns-clause-bytes : goal.returns-clause-bytes
returns-clause-bytes c = λ f is b lt.
    let bytes = c.in_ok-bytes.bytes.items in
    let cells = c.as_mut_slice-cells.result.now in
    let made = c.in_ok-buffer.ensures in
    let same = c.as_mut_slice-cells.ensures.value in
    let stands : cells_of_bytes bytes ≡ map f cells = c.in_ok-bytes.ensures
    ∙ c.replace_cells_by_table_values.ensures f is in
    let wide : b < length cells = omega (arith, lt, ap (λ l. length l) same, made.count) in
    let there : b < length bytes = omega (
      arith,
      wide,
      ap
          (λ l. length l) stands,
      length-map bytes cell_of_stored_byte,
      length-map cells f,
    ) in
    sym (get_or-map cell_of_stored_byte bytes b 0 None there) ∙ ap (λ l. at l b) stands
    ∙ get_or-map f cells b None None wide
    ∙ ap f (ap (λ l. at l b) same ∙ made.each b lt)

pub returns-clause-size : goal.returns-clause-size
returns-clause-size c =
    let bytes = c.in_ok-bytes.bytes.items in
    sym (length-map bytes cell_of_stored_byte) ∙ ap (λ l. length l) c.in_ok-bytes.ensures
    ∙ c.replace_cells_by_table_values.auto.cells
    ∙ ap (λ l. length l) c.as_mut_slice-cells.ensures.value ∙ c.in_ok-buffer.ensures.count
