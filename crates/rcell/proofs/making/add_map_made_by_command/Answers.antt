use Rattle.rcell.proofs.making.add_map_made_by_command.Goals as goal

pub returns-in-Mapcalc-clause-ok : goal.returns-in-Mapcalc-clause-ok
returns-in-Mapcalc-clause-ok c = rw c.in-Mapcalc.is c.make_map_of_expression_values.ensures.ok

pub returns-in-Clump-clause-ok : goal.returns-in-Clump-clause-ok
returns-in-Clump-clause-ok c = rw c.in-Clump.is c.make_map_of_clump_numbers.ensures.ok
