use Rattle.cell_stats_combinations.proofs.CursorLemmas.{ready-next}
use Rattle.cell_stats_combinations.proofs.cursor.RowCursor.over.Goals as goal

pub returns-in-Some-clause-ready : goal.returns-in-Some-clause-ready
returns-in-Some-clause-ready c = ready-next _ _ _ _ c.in-Some.ensures.steps c.requires
