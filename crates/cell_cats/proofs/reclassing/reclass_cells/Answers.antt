use Rattle.std.proofs.Common.{◌≡◌, ℕ, ◌+◌, ◌<◌, ◌++◌, ◌∷◌, [], List, Option, Some, None, IfSome, ap, sym, subst, ◌∙◌}
use Rattle.std.proofs.Common.{arith, length, length-append}
use Rattle.std.proofs.lemmas.List.{length-map}
use Rattle.std.specs.Option.{option_map}
use Rattle.cell_core.specs.Grid.{CellValue, UnfinishedMap, Grid, row_at}
use Rattle.cell_core.specs.Runs.{RunValue, cells_of_runs}
use Rattle.cell_cats.specs.Rule.{RuleValue, new_category}
use Rattle.cell_cats.specs.Reclass.{reclassed_row}
use Rattle.cell_cats.specs.parts.ByteTables.{IsByteReclassTable}
use Rattle.cell_cats.specs.parts.KnownCategories.{AreCachedCategoriesRight}
use Rattle.cell_cats.specs.parts.Pieces.{IntervalsAgreeWithRules}
use Rattle.cell_cats.proofs.ReclassLemmas.{rows-more}
use Rattle.cell_cats.proofs.reclassing.reclass_cells.Goals.{then-len-row+in_ok-push_row, else-len-row+in_ok-write_reclassed_runs+in_ok-push_row_of_runs}
use Rattle.cell_cats.proofs.reclassing.reclass_cells.Goals as goal

row_inside : {row end rows : ℕ} → row < end → end ≡ rows → row < rows
row_inside before all = omega arith

-- a property of the kept bytes also holds of the bytes shown
shown : {V B : Type 0} (items : V → List ℕ) (now : B → List ℕ) (P : List ℕ → Type 0) (kept : Option V) (shows : Option B) (table : B)
    → shows ≡ Some table → option_map now shows ≡ option_map items kept → IfSome kept (λ bytes. P (items bytes)) → P (now table)
shown items now P None shows table is same holds = let none : Some (now table) ≡ None = sym (ap (option_map now) is) ∙ same in cc
shown items now P (Some bytes) shows table is same holds =
    let both : Some (now table) ≡ Some (items bytes) = sym (ap (option_map now) is) ∙ same in
    let one : items bytes ≡ now table = cc in
    subst P one holds

pub write_reclassed_bytes-requires-clause-size : goal.write_reclassed_bytes-requires-clause-size
write_reclassed_bytes-requires-clause-size c =
    shown (λ bytes. bytes.items) (λ bytes. bytes.now) (λ bytes. length bytes ≡ 256) c.in_ok-new_bytes.new_bytes c.as_deref-table.result c.in-Some-Some.table
    c.in-Some-Some.is-0 c.as_deref-table.ensures.value c.in_ok-new_bytes.ensures.size

pub push_row_of_runs-requires-clause-width : goal.push_row_of_runs-requires-clause-width
push_row_of_runs-requires-clause-width c =
    let rules : List RuleValue = c.args.rules.now in
    ap (λ (runs : List RunValue). length (cells_of_runs runs)) c.deref.ensures.value
    ∙ ap length (c.in_ok-write_reclassed_runs.ensures.row rules c.in_ok-pieces.ensures c.loop-r.invariant.right)
    ∙ length-map (cells_of_runs c.runs-runs.result) (new_category rules)
    ∙ c.runs-runs.ensures.width ∙ ap (λ r. r.cols) (sym c.loop-r.invariant.region)

pub loop-r-preserved-in-Some-Some : goal.loop-r-preserved-in-Some-Some
loop-r-preserved-in-Some-Some c =
    let rules : List RuleValue = c.args.rules.now in
    let given : Grid = c.args.given.now in
    let old : UnfinishedMap = c.loop-r.builder in
    let is = c.loop-r.invariant in
    let new = reclassed_row rules (row_at given c.loop-r.r) in
    let within : c.loop-r.r < length given.rows =
    row_inside c.loop-r-test.true (c.rows-r-end.ensures.value ∙ ap (λ r. r.rows) c.region-region.ensures.value ∙ sym c.region-region.ensures.filled.count) in
    let table : IsByteReclassTable rules c.in-Some-Some.table.now =
    shown (λ bytes. bytes.items) (λ bytes. bytes.now) (λ bytes. (rules : List RuleValue) → IntervalsAgreeWithRules rules c.in_ok-pieces.pieces → IsByteReclassTable rules bytes)
    c.in_ok-new_bytes.new_bytes c.as_deref-table.result c.in-Some-Some.table
    c.in-Some-Some.is-0 c.as_deref-table.ensures.value c.in_ok-new_bytes.ensures.right rules c.in_ok-pieces.ensures in
    let row = c.write_reclassed_bytes.ensures rules table ∙ ap (reclassed_row rules) c.in-Some-Some.ensures.cells in
    let done : c.push_row_of_bytes.new.self ≡ record old { rows = old.rows ++ new ∷ [] } =
    c.in_ok-push_row_of_bytes.ensures.ok ∙ ap (λ (cells : List CellValue). record old {
      rows = old.rows ++ cells
          ∷ [];
    }) row in
    let pushed = ap (λ (b : UnfinishedMap). b.rows) done in
    record {
      rows = rows-more rules given old.rows c.push_row_of_bytes.new.self.rows c.loop-r.r within is.rows pushed;
      region = ap (λ (b : UnfinishedMap). b.region) done ∙ is.region;
      count = ap length pushed ∙ length-append old.rows (new ∷ []) ∙ ap (λ n. n + 1) is.count;
      width = is.width;
      byte_width = c.write_reclassed_bytes.auto.row ∙ is.byte_width;
      some = is.some;
      right = is.right;
    }

pub loop-r-preserved : goal.loop-r-preserved
loop-r-preserved c =
    let rules : List RuleValue = c.args.rules.now in
    let given : Grid = c.args.given.now in
    let old : UnfinishedMap = c.loop-r.builder in
    let is = c.loop-r.invariant in
    let new = reclassed_row rules (row_at given c.loop-r.r) in
    let within : c.loop-r.r < length given.rows =
    row_inside c.loop-r-test.true (c.rows-r-end.ensures.value ∙ ap (λ r. r.rows) c.region-region.ensures.value ∙ sym c.region-region.ensures.filled.count) in
    let more : List CellValue → UnfinishedMap = λ cells. record old { rows = old.rows ++ cells ∷ [] } in
    let done : (c.if-len-row.builder ≡ more new) × AreCachedCategoriesRight rules c.if-len-row.known
    = elim c.if-len-row.branch [
      | then-len-row+in_ok-push_row w ↦
          let row = w.reclass_row_cells.ensures.row rules c.in_ok-pieces.ensures is.right
          ∙ ap (reclassed_row rules) w.copy_row.ensures in (
            w.builder-is ∙ w.in_ok-push_row.ensures.ok ∙ ap more row,
            subst (AreCachedCategoriesRight rules) (sym w.known-is)
                (w.reclass_row_cells.ensures.right rules c.in_ok-pieces.ensures is.right),
          )
      | else-len-row+in_ok-write_reclassed_runs+in_ok-push_row_of_runs w ↦
          let row = ap cells_of_runs w.deref.ensures.value
          ∙ w.in_ok-write_reclassed_runs.ensures.row rules c.in_ok-pieces.ensures is.right
          ∙ ap (reclassed_row rules) c.runs-runs.ensures.written in (
            w.builder-is ∙ w.in_ok-push_row_of_runs.ensures.ok ∙ ap more row,
            subst (AreCachedCategoriesRight rules) (sym w.known-is) (w.write_reclassed_runs.ensures.right rules c.in_ok-pieces.ensures is.right),
          )
    ] in
    let pushed = ap (λ (b : UnfinishedMap). b.rows) done.0 in
    record {
      rows = rows-more rules given old.rows c.if-len-row.builder.rows c.loop-r.r within is.rows pushed;
      region = ap (λ (b : UnfinishedMap). b.region) done.0 ∙ is.region;
      count = ap length pushed ∙ length-append old.rows (new ∷ []) ∙ ap (λ n. n + 1) is.count;
      width = c.if-len-row.auto.row ∙ is.width;
      byte_width = is.byte_width;
      some = omega (arith, c.if-len-row.auto.known, is.some);
      right = done.1;
    }
