-- Worked grids of r.out.ascii, and an expression with an offset.
use Rattle.std.specs.Prelude.{[], ◌∷◌, codes}
use Rattle.rcell_worked.specs.WorkedRuns.{ScriptPrintsOutput, NamedGridText}

-- a map of one row
abbrev pub one_row_grid : NamedGridText
one_row_grid = (codes "row", codes "north: 1\nsouth: 0\neast: 1.5\nwest: 0\nrows: 1\ncols: 3\n1 2 *\n")

pub record GridExamplesHold : Type 0 where
  -- the map itself, with a different text for null
  pub written : ScriptPrintsOutput (one_row_grid ∷ []) (codes "r.out.ascii input=row null_value=NA\n")
      (codes "north: 1\nsouth: 0\neast: 1.5\nwest: 0\nrows: 1\ncols: 3\nnull: NA\n1 2 NA\n")
  -- the cell to the right, or null beyond the edge
  pub moved : ScriptPrintsOutput (one_row_grid ∷ []) (codes "r.mapcalc next = row[0,1]\nr.out.ascii input=next\n")
      (codes "north: 1\nsouth: 0\neast: 1.5\nwest: 0\nrows: 1\ncols: 3\n2 * *\n")
