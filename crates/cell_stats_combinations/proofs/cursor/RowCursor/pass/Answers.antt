use Rattle.std.proofs.Common.{sym}
use Rattle.cell_core.specs.Runs.{cells_of_runs}
use Rattle.cell_stats_combinations.proofs.CursorLemmas.{drop-run, ready-next}
use Rattle.cell_stats_combinations.proofs.cursor.RowCursor.pass.Goals as goal

pub returns-in-Some-clause-ready : goal.returns-in-Some-clause-ready
returns-in-Some-clause-ready c =
    let ready = rw (← c.self.view_is) at c.requires.ready in
    ready-next _ _ _ _ c.in-Some.ensures.steps ready.runs

pub returns-else-self-eq0-clause-cells : goal.returns-else-self-eq0-clause-cells
returns-else-self-eq0-clause-cells c =
    let old = c.self.inside in
    let within = rw (← c.self.view_is) at c.requires.within in
    rw (← c.self.view_is) (sym (drop-run c.args.count old.left old.cell (cells_of_runs old.runs) within))
