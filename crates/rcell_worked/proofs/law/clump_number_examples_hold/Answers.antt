use Rattle.rcell_worked.proofs.ClumpLemmas.{by_edges, by_corners}
use Rattle.rcell_worked.proofs.law.clump_number_examples_hold.Goals as goal

pub returns : goal.returns
returns c = record { by_edges = by_edges; by_corners = by_corners }
