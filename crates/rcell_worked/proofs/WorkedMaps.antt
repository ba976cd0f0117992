-- The maps of the worked runs, and how their tables are printed.
use Rattle.std.proofs.Common.{pos, true, false, [], ◌∷◌, None, codes}
use Rattle.cell_core.specs.Grid.{Grid, empty_category_labels}
use Rattle.cell_core.specs.Shelf.{ShelfValue}
use Rattle.cell_stats_combinations.specs.declared.skip.Skip.TheVariants.{Nothing}
use Rattle.rcell.specs.Loading.{shelf_of_one_map}
use Rattle.rcell_script.specs.declared.command.StatsOptions.{StatsOptions}
use Rattle.rcell_worked.specs.WorkedNumbers.{cell_of_category}

abbrev pub land_map : Grid
land_map = record {
  region = record { north = pos 300000000; south = pos 0; east = pos 400000000; west = pos 0; rows = 3; cols = 4 };
  rows = (cell_of_category 1 ∷ cell_of_category 1 ∷ cell_of_category 2 ∷ None ∷ [])
      ∷ (cell_of_category 1 ∷ cell_of_category 2 ∷ cell_of_category 2 ∷ cell_of_category 2 ∷ [])
      ∷ (cell_of_category 3 ∷ cell_of_category 3 ∷ cell_of_category 1 ∷ cell_of_category 1 ∷ []) ∷ [];
  labels = empty_category_labels;
}

abbrev pub zone_map : Grid
zone_map = record {
  region = land_map.region;
  rows = (cell_of_category 7 ∷ cell_of_category 7 ∷ cell_of_category 8 ∷ cell_of_category 8 ∷ [])
      ∷ (cell_of_category 7 ∷ cell_of_category 7 ∷ cell_of_category 8 ∷ cell_of_category 8 ∷ [])
      ∷ (None ∷ cell_of_category 7 ∷ cell_of_category 8 ∷ cell_of_category 8 ∷ []) ∷ [];
  labels = empty_category_labels;
}

-- the map of the request
abbrev pub small_map : Grid
small_map = record {
  region = record { north = pos 200000000; south = pos 0; east = pos 300000000; west = pos 0; rows = 2; cols = 3 };
  rows = (cell_of_category 1 ∷ cell_of_category 1 ∷ cell_of_category 2 ∷ [])
      ∷ (cell_of_category 2 ∷ cell_of_category 2 ∷ None ∷ []) ∷ [];
  labels = empty_category_labels;
}

abbrev pub land_shelf : ShelfValue
land_shelf = shelf_of_one_map (codes "land") land_map

abbrev pub both_shelf : ShelfValue
both_shelf = record {
  region = land_map.region;
  names = codes "land" ∷ codes "zone" ∷ [];
  maps = land_map ∷ zone_map ∷ [];
}

abbrev pub small_shelf : ShelfValue
small_shelf = shelf_of_one_map (codes "land") small_map

-- the options of `r.stats -c`
abbrev pub counts : StatsOptions
counts = record {
  skip = Nothing;
  labels = false;
  counts = true;
  cells = false;
  separator = 32;
  null_text = codes "*";
  after = None;
}
