use Rattle.std.proofs.Common.{◌≡◌, ◌+◌, ◌-◌, ◌<◌, ℕ, get_or, length, ap, sym, ◌∙◌, arith}
use Rattle.cell_join_tiles.specs.Beginnings.{begun_clump_count_before_row, row_where_clump_number_begins}
use Rattle.cell_join_tiles.proofs.StretchLemmas.{stretch-is}
use Rattle.cell_join_tiles.proofs.RowLabelLemmas.{ends-rise, row-is, no-row, end-before, low-in-tile}
use Rattle.cell_join_tiles.proofs.row_labels.label_of_tile_clump.Goals as goal

pub cells_of_map_row-row-requires : goal.cells_of_map_row-row-requires
cells_of_map_row-row-requires c = ends-rise c.args.begun.now c.args.ends.now c.requires.ends

pub returns-clause-some : goal.returns-clause-some
returns-clause-some c =
    let firsts = c.args.firsts.now in
    let begun = c.args.begun.now in
    let ends = c.args.ends.now in
    let row = c.cells_of_map_row-row.result in
    let clump = c.args.clump in
    let inside : row < length begun = omega (arith, c.if-row-begun.false) in
    let lies = row-is begun ends c.requires.ends row clump inside c.cells_of_map_row-row.ensures.before (c.cells_of_map_row-row.ensures.after row (omega arith) (omega (arith, inside, c.requires.ends.long))) in
    let is : row_where_clump_number_begins begun clump ≡ row = stretch-is begun row clump lies in
    let end = end-before begun ends c.requires.ends row inside in
    let value : get_or firsts row 0 + (clump - (get_or ends row 0 - get_or begun row 0)) ≡ get_or firsts row 0 + (clump - begun_clump_count_before_row begun row) = omega (arith, end) in
    (low-in-tile begun row clump lies, value ∙ sym (ap (λ (i : ℕ). get_or firsts i 0 + (clump - begun_clump_count_before_row begun i)) is))

pub returns-then-row-begun-clause-none : goal.returns-then-row-begun-clause-none
returns-then-row-begun-clause-none c =
    no-row c.args.begun.now c.args.ends.now c.requires.ends c.cells_of_map_row-row.result c.args.clump (omega (arith, c.if-row-begun.true)) c.cells_of_map_row-row.ensures.inside c.cells_of_map_row-row.ensures.before
