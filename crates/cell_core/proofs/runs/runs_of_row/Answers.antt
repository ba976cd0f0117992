use Rattle.std.proofs.Common.{◌≡◌, ◌∙◌, ◌+◌, ◌++◌, [], List, drop, sym, ap, arith}
use Rattle.std.proofs.lemmas.List.{nil_from_length, take_rest}
use Rattle.cell_core.specs.Grid.{CellValue}
use Rattle.cell_core.specs.Runs.{RunValue, AreMaximalRuns, cells_of_runs}
use Rattle.cell_core.specs.parts.RowForms.{runs_of_cells, runs_continuing_first_run}
use Rattle.cell_core.proofs.RowLemmas.{cells_of_runs-runs_of_cells, AreMaximalRuns-runs_of_cells}
use Rattle.cell_core.proofs.MarkLemmas.{run_begins, block_after}
use Rattle.cell_core.proofs.runs.runs_of_row.Goals as goal
use Rattle.cell_core.proofs.runs.runs_of_row.Goals.{in-Some+else-parts-test+in_ok-push_runs_of_last_cells, in_default}

pub parts-init : goal.parts-init
parts-init c =
    let none = c.in_ok-runs.ensures.items in
    record {
      within = omega arith;
      few = omega arith;
      whole = ap (λ (l : List RunValue). l ++ runs_continuing_first_run (c.in-Some.first.now, 1) c.in-Some.others.now) none ∙ sym (run_begins c.in-Some.first.now c.in-Some.others.now) ∙ ap runs_of_cells (sym c.in-Some.ensures.cases.0);
    }

pub parts-preserved : goal.parts-preserved
parts-preserved c =
    let others = c.in-Some.others.now in
    let at = c.parts.at in
    record {
      within = omega (arith, c.parts-test.true, c.parts.invariant.within);
      few = omega (arith, c.in_ok-run.ensures.count, c.parts.invariant.few);
      whole = c.in_ok-run.ensures.runs (drop (at + 64) others)
          ∙ ap (λ (l : List CellValue). c.parts.runs.items ++ runs_continuing_first_run c.parts.run l)
          (block_after others at)
          ∙ c.parts.invariant.whole;
    }

written : (runs : List RunValue) (row : List CellValue) → runs ≡ runs_of_cells row → cells_of_runs runs ≡ row
written runs row e = ap cells_of_runs e ∙ cells_of_runs-runs_of_cells row

are_runs : (runs : List RunValue) (row : List CellValue) → runs ≡ runs_of_cells row → AreMaximalRuns runs
are_runs runs row e = rw e (AreMaximalRuns-runs_of_cells row)

pub returns-clause-written : goal.returns-clause-written
returns-clause-written c =
    elim c.match-split_first.branch [
      | in-Some+else-parts-test+in_ok-push_runs_of_last_cells w ↦
          rw w.runs-is
          (written _ c.args.row.now
          (w.in_ok-push_runs_of_last_cells.ensures ∙ ap (λ (l : List CellValue). w.parts.runs.items ++ runs_continuing_first_run w.parts.run l) (take_rest w.in-Some.others.now w.parts.at) ∙ w.parts.invariant.whole))
      | in_default w ↦
          let none = nil_from_length c.args.row.now w.in_default.ensures.cases in
          rw (w.runs-is, c.in_ok-runs.ensures.items) (sym none)
    ]

pub returns-clause-runs : goal.returns-clause-runs
returns-clause-runs c =
    elim c.match-split_first.branch [
      | in-Some+else-parts-test+in_ok-push_runs_of_last_cells w ↦
          rw w.runs-is
          (are_runs _ c.args.row.now
          (w.in_ok-push_runs_of_last_cells.ensures ∙ ap (λ (l : List CellValue). w.parts.runs.items ++ runs_continuing_first_run w.parts.run l) (take_rest w.in-Some.others.now w.parts.at) ∙ w.parts.invariant.whole))
      | in_default w ↦
          rw (w.runs-is, c.in_ok-runs.ensures.items) (AreMaximalRuns-runs_of_cells [])
    ]
