-- Worked clump maps of r.clump.
use Rattle.std.specs.Prelude.{ℕ, List, [], ◌∷◌, ◌++◌, codes}
use Rattle.rcell_worked.specs.WorkedRuns.{ScriptPrintsOutput, NamedGridText}

-- the header of a grid of four rows and four columns
abbrev pub four_by_four_header : List ℕ
four_by_four_header = codes "north: 4\nsouth: 0\neast: 4\nwest: 0\nrows: 4\ncols: 4\n"

-- the map of WorkedNumbers
abbrev pub four_by_four_grid : NamedGridText
four_by_four_grid = (codes "field", four_by_four_header ++ codes "5 7 5 *\n5 5 5 0\n* 0 * 5\n0 5 5 5\n")

pub record ClumpMapExamplesHold : Type 0 where
  -- the clump numbers by edges; null stays null
  pub by_edges : ScriptPrintsOutput (four_by_four_grid ∷ []) (codes
      "r.clump input=field output=clumps\nr.out.ascii input=clumps\n")
      (four_by_four_header ++ codes "1 2 1 *\n1 1 1 3\n* 4 * 5\n6 5 5 5\n")
  -- the clump numbers by edges and corners
  pub by_corners : ScriptPrintsOutput (four_by_four_grid ∷ [])
      (codes "r.clump -d input=field output=clumps\nr.out.ascii input=clumps\n")
      (four_by_four_header ++ codes "1 2 1 *\n1 1 1 3\n* 4 * 1\n4 1 1 1\n")
