use Rattle.std.proofs.Common.{◌≡◌, ℕ, List, Option, None, [], ◌∷◌, ◌++◌, map, get_or, ap, sym, ◌∙◌, append_assoc, arith}
use Rattle.std.specs.Prelude.{sum}
use Rattle.std.specs.List.{range_with_len}
use Rattle.std.proofs.lemmas.List.FromFn.{map-range_with_len_more}
use Rattle.cell_core.specs.Grid.{CellValue}
use Rattle.cell_join_tiles.specs.declared.marks.Mark.{Mark}
use Rattle.cell_join_tiles.specs.parts.RowLabels.{label_of_clump_from_first_labels}
use Rattle.cell_join_tiles.specs.parts.RowMarks.{labelled_category_of_cell}
use Rattle.cell_join_tiles.proofs.marks.add_labelled_categories_of_side.Goals as goal

pub loop-place-preserved : goal.loop-place-preserved
loop-place-preserved c =
    let old : List (Option Mark) = c.args.line.now.items in
    let label = label_of_clump_from_first_labels c.args.firsts.now c.args.begun.now in
    let clumps = sum c.args.begun.now in
    let cells = c.args.side.now.cells.items in
    let numbers = c.args.side.now.numbers.items in
    let k = c.loop-place.place in
    let f : ℕ → Option Mark = λ i. labelled_category_of_cell label clumps (get_or cells i None)
    (get_or numbers i None) in
    let cell : c.cell_at_place_or_null-cell.result ≡ get_or cells k None = c.cell_at_place_or_null-cell.ensures ∙ ap (λ (l : List CellValue). get_or l k None) c.deref.ensures.value in
    let number : c.cell_at_place_or_null-number.result ≡ get_or numbers k None = c.cell_at_place_or_null-number.ensures ∙ ap (λ (l : List CellValue). get_or l k None) c.deref-in-loop-place.ensures.value in
    let mark : c.labelled_category_of_cell.result ≡ f k = c.labelled_category_of_cell.ensures
    ∙ (λ i. labelled_category_of_cell label clumps (cell i) (number i)) in
    c.in_ok-push.ensures.items ∙ ap (λ (l : List (Option Mark)). l ++ c.labelled_category_of_cell.result
    ∷ []) c.loop-place.invariant
    ∙ append_assoc old (map f (range_with_len 0 k)) (c.labelled_category_of_cell.result ∷ [])
    ∙ ap (λ (x : Option Mark). old ++ (map f (range_with_len 0 k) ++ x ∷ [])) mark
    ∙ ap (λ (l : List (Option Mark)). old ++ l) (sym (map-range_with_len_more f 0 k k (omega arith)))
