use Rattle.cell_core_values.proofs.NameLemmas.{place_of-own}
use Rattle.cell_core_values.proofs.name.Names.name.Goals as goal

-- each of the distinct names is found at its own place
pub returns-clause-place : goal.returns-clause-place
returns-clause-place c =
    rw (← c.self.view_is) (place_of-own c.self.inside.names.items c.args.i c.index.result.now c.self.invariant.0 (rw c.self.view_is c.requires) c.index.ensures)
