-- Where an error before a run is reported, and its exit status (profile).
use Rattle.std.specs.Prelude.{ℕ, ◌≡◌, ◌<◌, ⊤, List, [], length, Option, None, codes, slice_get, unwrap_or}
use Rattle.std.specs.Option.{option_map}
use Rattle.cell_core_devices.specs.Device.{ComingBytes}
use Rattle.rcell.specs.Reports.{fault_line_number, source_name_of_fault, grid_name_at_place}
use Rattle.rcell.specs.declared.outcome.Outcome.{Outcome}
use Rattle.rcell_command.specs.Reported.{ErrorPlaceValue, error_place_on_line}
use Rattle.rcell_program.specs.declared.refusal.Refusal.{Refusal}
use Rattle.rcell_program.specs.declared.refusal.Refusal.TheVariants.{Usage, GridWord, Memory, ScriptFile, GridFile}

-- an error before a run is reported for the command line, the script or a grid; the line of a bad grid word is the
-- word's position
abbrev pub error_place_of_refusal : (names : List (List ℕ)) → Refusal → ErrorPlaceValue
error_place_of_refusal names Usage = error_place_on_line (codes "arguments") 0 2
error_place_of_refusal names (GridWord place) = error_place_on_line (codes "arguments") place 2
error_place_of_refusal names Memory = error_place_on_line (codes "arguments") 0 3
error_place_of_refusal names ScriptFile = error_place_on_line (codes "script") 0 4
error_place_of_refusal names (GridFile grid) = error_place_on_line (grid_name_at_place names grid) 0 4

-- an error of a run is reported for a grid, the script or the output
abbrev pub error_place_of_run : (names : List (List ℕ)) → Outcome → Option ErrorPlaceValue
error_place_of_run names outcome = option_map (λ fault. record {
  source = source_name_of_fault names fault;
  line = fault_line_number
      fault;
  status = outcome.status;
}) outcome.fault

-- the path with this index, or an empty path if there is none
abbrev pub grid_path_at_place : List (List ℕ) → ℕ → List ℕ
grid_path_at_place paths grid = unwrap_or (slice_get paths grid) []

-- the error can occur when a script and grids with these paths are opened: the contents of the file are not known
abbrev pub IsRefusalOfOpeningFiles : (List ℕ → Option ComingBytes) → (script : List ℕ) → (paths : List (List ℕ))
    → Refusal
    → Type 0
IsRefusalOfOpeningFiles files script paths Usage = paths ≡ []
IsRefusalOfOpeningFiles files script paths (GridWord place) = ⊥
IsRefusalOfOpeningFiles files script paths Memory = ⊤
IsRefusalOfOpeningFiles files script paths ScriptFile = files script ≡ None
IsRefusalOfOpeningFiles files script paths (GridFile grid) = (grid < length paths)
    × (files (grid_path_at_place paths grid) ≡ None)
