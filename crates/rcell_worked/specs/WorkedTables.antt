-- Worked tables of r.stats.
use Rattle.std.specs.Prelude.{[], ◌∷◌, codes}
use Rattle.rcell_worked.specs.WorkedRuns.{ScriptPrintsOutput, land_grid, zone_grid}

pub record TableExamplesHold : Type 0 where
  -- the first example of the documents: the count of each category, with null last
  pub counted : ScriptPrintsOutput (land_grid ∷ []) (codes "r.stats -c input=land\n") (codes "1 5\n2 4\n3 2\n* 1\n")
  -- the counts of the categories, without null
  pub without_null : ScriptPrintsOutput (land_grid ∷ []) (codes "r.stats -c -n input=land\n") (codes "1 5\n2 4\n3 2\n")
  -- two maps, and the table after one of its combinations
  pub crossed : ScriptPrintsOutput (land_grid ∷ zone_grid ∷ [])
      (codes "r.stats -c input=zone,land separator=comma null_value=NA\nr.stats -c -n input=zone,land after=7,2\n")
      (codes "7,1,3\n7,2,1\n7,3,1\n8,1,2\n8,2,3\n8,NA,1\nNA,3,1\n7 3 1\n8 1 2\n8 2 3\n")
  -- one line per cell
  pub each_cell : ScriptPrintsOutput (land_grid ∷ []) (codes "r.stats -1 -n input=land\n")
      (codes "1\n1\n2\n1\n2\n2\n2\n3\n3\n1\n1\n")
  -- new categories, and a cell that no rule covers
  pub grouped : ScriptPrintsOutput (land_grid ∷ [])
      (codes "r.reclass input=land output=wood\n1 3 = 7 wood\n* = 8\nend\nr.stats -c input=wood\n")
      (codes "7 7\n8 4\n* 1\n")
  -- the labels of the new categories
  pub labelled : ScriptPrintsOutput (land_grid ∷ [])
      (codes "r.reclass input=land output=wood\n1 3 = 7 wood\n* = 8\nend\nr.stats -c -l input=wood\n")
      (codes "7 wood 7\n8  4\n* no data 1\n")
