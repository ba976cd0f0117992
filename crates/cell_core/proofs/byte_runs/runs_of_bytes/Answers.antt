use Rattle.std.proofs.Common.{◌∙◌, ◌++◌, List, ℕ, drop, sym, ap, rules, arith}
use Rattle.std.proofs.lemmas.List.{take_rest, drop-drop}
use Rattle.cell_core_values.specs.SmallCells.{cells_of_bytes}
use Rattle.cell_core.specs.Runs.{RunValue}
use Rattle.cell_core.specs.parts.RowForms.{runs_from_nth_cell_of_run}
use Rattle.cell_core.proofs.RowLemmas.{cells_of_runs-runs_of_cells, AreMaximalRuns-runs_of_cells}
use Rattle.cell_core.proofs.ByteLemmas.{runs_from_nth_cell_of_run-one, all-runs}
use Rattle.cell_core.proofs.byte_runs.runs_of_bytes.Goals as goal

pub blocks-2-init : goal.blocks-2-init
blocks-2-init c = record {
  within = search (rules, c.if-is_empty.false);
  few = omega arith;
  whole = ap (λ (l : List RunValue). l ++ runs_from_nth_cell_of_run 1
      (cells_of_bytes c.args.bytes.now)) c.in_ok-runs.ensures.items
      ∙ runs_from_nth_cell_of_run-one (cells_of_bytes c.args.bytes.now);
}

pub blocks-2-preserved : goal.blocks-2-preserved
blocks-2-preserved c =
    let bytes = c.args.bytes.now in
    let at = c.blocks-2.at in
    let rest = drop at bytes in
    let next = rw (take_rest bytes at) at c.in_ok-count.ensures.runs in
    record {
      within = omega (arith, c.blocks-2-test.true);
      few = omega (arith, c.in_ok-count.ensures.count, c.blocks-2.invariant.few);
      whole = ap (λ (l : List ℕ). c.push_runs_of_byte_block.new.runs.items
          ++ runs_from_nth_cell_of_run c.in_ok-count.count (cells_of_bytes l))
          (sym (drop-drop 64 at bytes))
          ∙ next ∙ c.blocks-2.invariant.whole;
    }

pub returns-clause-written : goal.returns-clause-written
returns-clause-written c =
    let b = c.blocks-2 in
    let all =
    all-runs c.args.bytes.now b.at b.count b.runs.items c.push_runs_of_last_cells.new.runs.items c.cell_of_byte.result
    c.write_bytes_as_cells.new.cells
    b.invariant.within c.cell_of_byte.ensures c.write_bytes_as_cells.ensures c.in_ok-push_runs_of_last_cells.ensures
    b.invariant.whole in
    rw all (cells_of_runs-runs_of_cells (cells_of_bytes c.args.bytes.now))

pub returns-clause-runs : goal.returns-clause-runs
returns-clause-runs c =
    let b = c.blocks-2 in
    let all =
    all-runs c.args.bytes.now b.at b.count b.runs.items c.push_runs_of_last_cells.new.runs.items c.cell_of_byte.result
    c.write_bytes_as_cells.new.cells
    b.invariant.within c.cell_of_byte.ensures c.write_bytes_as_cells.ensures c.in_ok-push_runs_of_last_cells.ensures
    b.invariant.whole in
    rw all (AreMaximalRuns-runs_of_cells (cells_of_bytes c.args.bytes.now))
