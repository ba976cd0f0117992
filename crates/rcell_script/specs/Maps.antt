-- The maps that options name (order of errors: profile).
use Rattle.std.specs.Prelude.{ℕ, List, Option, Some, None, Result, Ok, Err, if◌then◌else◌}
use Rattle.std.specs.Option.{ok_or}
use Rattle.cell_core_values.specs.Answers.{◌>>=◌}
use Rattle.cell_core_values.specs.Name.{place_of_name}
use Rattle.rcell_script.specs.OptionReading.{GivenOptions, has_conflicting_options}
use Rattle.rcell_script.specs.InputPlaces.{places_of_map_names}
use Rattle.rcell_script.specs.declared.option_fault.OptionFault.{OptionFault}
use Rattle.rcell_script.specs.declared.option_fault.OptionFault.TheVariants.{BadOption, MissingOption, UnknownMap, MapExists}

-- continues with `next` if the output map is new
abbrev pub result_if_output_map_is_new : {B : Type 0} → Option ℕ → Result B OptionFault → Result B OptionFault
result_if_output_map_is_new None next = next
result_if_output_map_is_new (Some place) next = Err MapExists

-- the index of the input map and the name of the output map of r.reclass or r.clump: both must be given, then the input
-- must be known and the output new
abbrev pub input_place_and_output_name : List (List ℕ) → GivenOptions → Result (ℕ × List ℕ) OptionFault
input_place_and_output_name known given = do
  input ← ok_or given.input MissingOption
  output ← ok_or given.output MissingOption
  place ← ok_or (place_of_name input known) UnknownMap
  result_if_output_map_is_new (place_of_name output known) (Ok (place, output))

-- the index of the input map of r.out.ascii, which must be given and known
abbrev pub input_map_place : List (List ℕ) → GivenOptions → Result ℕ OptionFault
input_map_place known given = do
  input ← ok_or given.input MissingOption
  ok_or (place_of_name input known) UnknownMap

-- the indices of the input maps of r.stats: they must be given, then flags must not exclude each other, then the maps
-- must be known
abbrev pub input_map_places : List (List ℕ) → GivenOptions → Result (List ℕ) OptionFault
input_map_places known given = do
  inputs ← ok_or given.inputs MissingOption
  if has_conflicting_options given then Err BadOption else ok_or (places_of_map_names known inputs) UnknownMap
