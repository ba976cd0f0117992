-- Two worked requests: the one in docs/pipe.md, and one with a second map that has negative numbers, a mask and a
-- label, and a third that is sent as the text of a grid.
use Rattle.std.specs.Prelude.{ℕ, pos, negsuc, ◌≡◌, true, false, List, [], ◌∷◌, ◌++◌, Some, None, codes}
use Rattle.cell_core.specs.Grid.{CellValue, empty_category_labels}
use Rattle.cell_clumps.specs.declared.clump.Joining.TheVariants.{EdgesAndCorners}
use Rattle.rcell_pipe_rows.specs.declared.kind.CellType.TheVariants.{U8, I16}
use Rattle.rcell_pipe_law.specs.RequestLaw.{IsSendableRequest, SentRequest, request_bytes}
use Rattle.rcell_pipe_law.specs.SentMaps.{SentCell, SentMap, SentRegion, SentRows, SentText, Numbers, Text}
use Rattle.rcell_pipe_law.specs.SentMaps.{grid_of_sent_map}
use Rattle.rcell_pipe_law.specs.SentQuestions.{SentQuestion}

abbrev pub visible_sent_cell : ℕ → SentCell
visible_sent_cell n = record { number = pos n; hidden = false }

abbrev pub negative_sent_cell : ℕ → SentCell
negative_sent_cell n = record { number = negsuc n; hidden = false }

abbrev pub hidden : SentCell
hidden = record { number = pos 7; hidden = true }

abbrev pub docs_example_region : SentRegion
docs_example_region = record {
  region = record { north = pos 200000000; south = pos 0; east = pos 300000000; west = pos 0; rows = 2; cols = 3 };
  north = codes "2";
  south = codes "0";
  east = codes "3";
  west = codes "0";
}

abbrev pub docs_example_rows : SentRows
docs_example_rows = record {
  format = record { kind = U8; nodata = Some (pos 255); is_masked = false };
  rows = (visible_sent_cell 1 ∷ visible_sent_cell 1 ∷ visible_sent_cell 2 ∷ [])
      ∷ (visible_sent_cell 2 ∷ visible_sent_cell 2 ∷ visible_sent_cell 255 ∷ []) ∷ [];
}

abbrev pub docs_example_map : SentMap
docs_example_map = record { name = codes "land"; labels = []; cells = Numbers docs_example_rows }

abbrev pub example_heat_rows : SentRows
example_heat_rows = record {
  format = record { kind = I16; nodata = None; is_masked = true };
  rows = (negative_sent_cell 1 ∷ hidden ∷ visible_sent_cell 3 ∷ []) ∷ (visible_sent_cell 3 ∷ visible_sent_cell 3
      ∷ negative_sent_cell 299 ∷ []) ∷ [];
}

abbrev pub example_heat_map : SentMap
example_heat_map = record {
  name = codes "heat";
  labels = record { category = negsuc 1; text = codes "cold" } ∷ [];
  cells = Numbers example_heat_rows;
}

abbrev pub example_grid_text : List ℕ
example_grid_text = codes "north: 2\nsouth: 0\neast: 3\nwest: 0\nrows: 2\ncols: 3\n5 5 *\n-1 5 5\n"

abbrev pub example_text_map_cells : List (List CellValue)
example_text_map_cells = (Some (pos 5) ∷ Some (pos 5) ∷ None ∷ [])
    ∷ (Some (negsuc 0) ∷ Some (pos 5) ∷ Some (pos 5) ∷ []) ∷ []

abbrev pub example_text : SentText
example_text = record {
  text = example_grid_text;
  map = record { region = docs_example_region.region; rows = example_text_map_cells; labels = empty_category_labels };
}

abbrev pub example_text_map : SentMap
example_text_map = record { name = codes "town"; labels = []; cells = Text example_text }

abbrev pub script : List ℕ
script = codes "r.stats -c input=land\n"

abbrev pub docs_example_request : SentRequest
docs_example_request = record {
  region = docs_example_region;
  maps = docs_example_map ∷ [];
  script = script;
  questions = [];
}

abbrev pub example_heat_question : SentQuestion
example_heat_question = record {
  map = codes "heat";
  joining = EdgesAndCorners;
  depth = 2;
  zones = Some (codes "land");
  wanted = record { patches = true; numbers = true; border = false };
}

abbrev pub example_heat_request : SentRequest
example_heat_request = record {
  region = docs_example_region;
  maps = docs_example_map ∷ example_heat_map ∷ example_text_map ∷ [];
  script = script;
  questions = example_heat_question ∷ [];
}

-- the region, one map, a script of 22 bytes, and no questions
abbrev pub docs_example_request_bytes : List ℕ
docs_example_request_bytes =
    (1 ∷ 50 ∷ 1 ∷ 48 ∷ 1 ∷ 51 ∷ 1 ∷ 48 ∷ 2 ∷ 0 ∷ 0 ∷ 0 ∷ 3 ∷ 0 ∷ 0 ∷ 0 ∷ [])
    ++ (1 ∷ 0 ∷ 0 ∷ 0 ∷ 4 ∷ []) ++ codes "land"
    ++ (1 ∷ 1 ∷ 255 ∷ 0 ∷ 0 ∷ 0 ∷ 0 ∷ 0 ∷ 0 ∷ 0 ∷ 0 ∷ 0 ∷ 0 ∷ 0 ∷ 1 ∷ 1 ∷ [])
    ++ (2 ∷ 2 ∷ 2 ∷ 255 ∷ 22 ∷ 0 ∷ 0 ∷ 0 ∷ []) ++ codes "r.stats -c input=land\n"
    ++ (0 ∷ 0 ∷ 0 ∷ 0 ∷ [])

-- the region, three maps, where each row of the second is followed by its mask and the third is a text of 63 bytes, and
-- one question
abbrev pub example_heat_request_bytes : List ℕ
example_heat_request_bytes =
    (1 ∷ 50 ∷ 1 ∷ 48 ∷ 1 ∷ 51 ∷ 1 ∷ 48 ∷ 2 ∷ 0 ∷ 0 ∷ 0 ∷ 3 ∷ 0 ∷ 0 ∷ 0 ∷ [])
    ++ (3 ∷ 0 ∷ 0 ∷ 0 ∷ 4 ∷ []) ++ codes "land"
    ++ (1 ∷ 1 ∷ 255 ∷ 0 ∷ 0 ∷ 0 ∷ 0 ∷ 0 ∷ 0 ∷ 0 ∷ 0 ∷ 0 ∷ 0 ∷ 0 ∷ 1 ∷ 1 ∷ [])
    ++ (2 ∷ 2 ∷ 2 ∷ 255 ∷ 4 ∷ []) ++ codes "heat"
    ++ (4 ∷ 2 ∷ 0 ∷ 0 ∷ 0 ∷ 0 ∷ 0 ∷ 0 ∷ 0 ∷ 0 ∷ [])
    ++ (1 ∷ 0 ∷ 0 ∷ 0 ∷ 254 ∷ 255 ∷ 255 ∷ 255 ∷ 4 ∷ 0 ∷ []) ++ codes "cold"
    ++ (254 ∷ 255 ∷ 7 ∷ 0 ∷ 3 ∷ 0 ∷ 0 ∷ 1 ∷ 0 ∷ []) ++ (3 ∷ 0 ∷ 3 ∷ 0 ∷ 212 ∷ 254 ∷ 0 ∷ 0 ∷ 0 ∷ [])
    ++ (4 ∷ []) ++ codes "town" ++ (8 ∷ 0 ∷ 0 ∷ 0 ∷ 0 ∷ 0 ∷ 0 ∷ 0 ∷ 0 ∷ 0 ∷ 0 ∷ 0 ∷ 0 ∷ 0 ∷ [])
    ++ (63 ∷ 0 ∷ 0 ∷ 0 ∷ 0 ∷ 0 ∷ 0 ∷ 0 ∷ [])
    ++ codes "north: 2\nsouth: 0\neast: 3\nwest: 0\nrows: 2\ncols: 3\n5 5 *\n-1 5 5\n"
    ++ (22 ∷ 0 ∷ 0 ∷ 0 ∷ []) ++ codes "r.stats -c input=land\n"
    ++ (1 ∷ 0 ∷ 0 ∷ 0 ∷ 3 ∷ 4 ∷ []) ++ codes "heat" ++ (8 ∷ 2 ∷ 0 ∷ 0 ∷ 0 ∷ 4 ∷ []) ++ codes "land"

-- the cells that the numbers denote: 255 and cells that the mask hides are null
abbrev pub docs_example_map_cells : List (List CellValue)
docs_example_map_cells = (Some (pos 1) ∷ Some (pos 1) ∷ Some (pos 2) ∷ []) ∷ (Some (pos 2) ∷ Some (pos 2) ∷ None ∷ [])
    ∷ []

abbrev pub example_heat_map_cells : List (List CellValue)
example_heat_map_cells = (Some (negsuc 1) ∷ None ∷ Some (pos 3) ∷ [])
    ∷ (Some (pos 3) ∷ Some (pos 3) ∷ Some (negsuc 299) ∷ [])
    ∷ []

pub record ExampleRequestsMatchBytes : Type 0 where
  pub one : IsSendableRequest docs_example_request
  pub one_is : request_bytes docs_example_request ≡ docs_example_request_bytes
  pub land_means : (grid_of_sent_map docs_example_region.region docs_example_map).rows ≡ docs_example_map_cells
  pub two : IsSendableRequest example_heat_request
  pub two_are : request_bytes example_heat_request ≡ example_heat_request_bytes
  pub heat_means : (grid_of_sent_map docs_example_region.region example_heat_map).rows ≡ example_heat_map_cells
