use Rattle.std.proofs.Common.{◌≡◌, ◌<◌, ◌∷◌, ◌++◌, ◌+◌, [], length, take, take_all, map, ap, sym, ◌∙◌, arith}
use Rattle.std.proofs.lemmas.List.{map_more}
use Rattle.cell_core.specs.Grid.{row_at}
use Rattle.cell_calc_categories.specs.parts.ValueTables.{rows_with_function_applied}
use Rattle.cell_calc_categories.proofs.map_by_category.map_of_table_values.Goals as goal

pub push_values_of_row-requires-clause-room : goal.push_values_of_row-requires-clause-room
push_values_of_row-requires-clause-room c =
    let rows = c.rows-row-end.ensures.value ∙ ap (λ r. r.rows) c.region-region.ensures.value in
    omega (arith, c.loop-row.invariant.count, c.loop-row-test.true, rows)

pub loop-row-preserved : goal.loop-row-preserved
loop-row-preserved c =
    let held = c.loop-row.invariant in
    let pushed = c.in_ok-push_values_of_row.ensures in
    let given = c.args.given.now in
    let row = c.loop-row.row in
    let rows = c.rows-row-end.ensures.value ∙ ap (λ r. r.rows) c.region-region.ensures.value in
    let lt : row < length given.rows = omega
    (arith, c.region-region.ensures.filled.count, c.loop-row-test.true, rows) in
    record {
      region = pushed.region;
      count = pushed.count ∙ ap (λ n. n + 1) held.count;
      bytes = c.push_values_of_row.auto.bytes ∙ held.bytes;
      cells = c.push_values_of_row.auto.cells ∙ held.cells;
      rows = λ f is small. pushed.row f is small ∙ ap (λ l. l ++ map f (row_at given row) ∷ []) (held.rows f is small)
          ∙ sym (map_more (λ l. map f l) given.rows row [] lt);
    }

pub finish-requires : goal.finish-requires
finish-requires c =
    let held = c.loop-row.invariant in
    let rows = c.rows-row-end.ensures.value ∙ ap (λ r. r.rows) (c.region-region.ensures.value ∙ sym held.region) in
    omega (arith, held.count, c.loop-row-test.false, c.loop-row.auto.row-end, rows)

pub returns-clause-region : goal.returns-clause-region
returns-clause-region c = ap (λ m. m.region) c.finish.ensures ∙ c.loop-row.invariant.region

pub returns-clause-rows : goal.returns-clause-rows
returns-clause-rows c = λ f is small.
    let given = c.args.given.now in
    let rows = c.rows-row-end.ensures.value ∙ ap (λ r. r.rows) c.region-region.ensures.value in
    ap (λ m. m.rows) c.finish.ensures ∙ c.loop-row.invariant.rows f is small
    ∙ ap (rows_with_function_applied f) (take_all c.loop-row.row given.rows (omega
    (arith, c.region-region.ensures.filled.count, c.loop-row-test.false, rows)))
