use Rattle.std.proofs.Common.{◌≡◌, ◌+◌, ◌-◌, ◌≤◌, ◌∙◌, ap, arith, refl, length, length-append, length-drop}
use Rattle.std.proofs.Common.{length-take, take, drop, ◌++◌, ◌∷◌, []}
use Rattle.std.proofs.lemmas.List.{take_rest}
use Rattle.cell_ascii.specs.parts.FrontCells.{first_cells_of_bytes_or_row, cells_cut_into_rows}
use Rattle.cell_ascii.proofs.RowsLemmas.{row_within, rows_after, row_part, rows_below}
use Rattle.cell_ascii.proofs.row_pushing.push_rows_of_bytes_or_cells.Goals as goal

pub rows-init : goal.rows-init
rows-init c = record { region = refl; rows = refl; count = refl; cells = omega (arith, c.requires.width) }

pub rows-preserved : goal.rows-preserved
rows-preserved c =
    let bytes = c.args.bytes.now in
    let cells = c.args.cells.now in
    let n = length cells in
    let all = first_cells_of_bytes_or_row (n, c.args.is_bytes) bytes cells in
    let at = c.rows.at in
    let cols = c.args.cols in
    let left = c.rows.left in
    let front = c.rows.builder.rows in
    let is = c.rows.invariant in
    let rest = take (length bytes - at) (drop at bytes) in
    let part = take (at + cols - at) (drop at cells) in
    let row = first_cells_of_bytes_or_row (length part, c.args.is_bytes) rest part in
    let one : left - 1 + 1 ≡ left = omega (arith, c.rows-test.true) in
    let within : at + cols ≤ n = row_within at left cols n c.rows-test.true is.cells in
    let next : at + cols - at ≡ cols = omega arith in
    let width : length part ≡ cols = omega
    (arith, length-take (at + cols - at) (drop at cells), length-drop at cells, within) in
    let same : row ≡ take cols (drop at all) =
    ap (λ k. first_cells_of_bytes_or_row (k, c.args.is_bytes) rest part) width
    ∙ ap (λ l. first_cells_of_bytes_or_row (cols, c.args.is_bytes) l part) (take_rest bytes at)
    ∙ ap (λ k. first_cells_of_bytes_or_row (cols, c.args.is_bytes) (drop at bytes) (take k (drop at cells))) next
    ∙ row_part c.args.is_bytes bytes cells at cols n within in
    let grown : c.push_row_of_bytes_or_cells.new.builder.rows ≡ front ++ row
    ∷ [] = ap (λ b. b.rows) c.in_ok-push_row_of_bytes_or_cells.ensures.ok in
    let longer : length c.push_row_of_bytes_or_cells.new.builder.rows ≡ length front + 1 = ap length grown
    ∙ length-append front
    (row ∷ []) in
    record {
      region = ap (λ b. b.region) c.in_ok-push_row_of_bytes_or_cells.ensures.ok ∙ is.region;
      rows = ap (λ l. l ++ cells_cut_into_rows cols (left - 1) (drop (at + cols) all)) grown
          ∙ rows_below front all row at cols left (left - 1) one same ∙ is.rows;
      count = omega (arith, longer, one, is.count);
      cells = rows_after at left (left - 1) cols n one is.cells;
    }
