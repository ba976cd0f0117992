-- The options of a statement in a plan (profile).
use Rattle.std.specs.Prelude.{ℕ, ◌+◌, ◌*◌, List, [], ◌∷◌, ◌++◌, length, flat_map, Option, Some, None}
use Rattle.cell_stats_combinations.specs.Combinations.{Combination}
use Rattle.cell_stats_combinations.specs.declared.skip.Skip.{Skip}
use Rattle.cell_stats_combinations.specs.declared.skip.Skip.TheVariants.{Nothing, AnyNull, AllNull}
use Rattle.rcell_script.specs.declared.command.Command.{Command}
use Rattle.rcell_script.specs.declared.command.Command.TheVariants.{Mapcalc, Reclass, Clump, Stats, OutAscii}
use Rattle.rcell_script.specs.declared.command.StatsOptions.{StatsOptions}
use Rattle.rcell_pipe_frames.specs.FrameBytes.{eight_bytes_of_number, length_and_text_bytes, four_bytes_of_cell}
use Rattle.rcell_pipe_frames.specs.FrameBytes.{one_if_true_else_zero}
use Rattle.rcell_plan_response.specs.MapNames.{name_of_map_at_place}

-- 8 if combinations that contain a null are left out; 16 if only combinations of nulls are left out
abbrev pub skip_flag : Skip → ℕ
skip_flag Nothing = 0
skip_flag AnyNull = 8
skip_flag AllNull = 16

-- the sum of: 1 for counts, 2 for labels, 4 for a line per cell, and the skip flag
abbrev pub stats_option_flags : StatsOptions → ℕ
stats_option_flags o = one_if_true_else_zero o.counts + 2 * one_if_true_else_zero o.labels + 4
    * one_if_true_else_zero o.cells + skip_flag o.skip

abbrev pub command_option_flags : Command → ℕ
command_option_flags (Mapcalc target bound) = 0
command_option_flags (Reclass place target rules) = 0
command_option_flags (Clump place target joining) = 0
command_option_flags (Stats places options) = stats_option_flags options
command_option_flags (OutAscii place null_text) = 0

-- the maps of `input=`, in the order of the statement
abbrev pub input_maps_of_command : Command → List ℕ
input_maps_of_command (Mapcalc target bound) = []
input_maps_of_command (Reclass place target rules) = place ∷ []
input_maps_of_command (Clump place target joining) = place ∷ []
input_maps_of_command (Stats places options) = places
input_maps_of_command (OutAscii place null_text) = place ∷ []

-- the combination of `after=`, or an empty combination without this option
abbrev pub combination_of_after_option : Option Combination → Combination
combination_of_after_option None = []
combination_of_after_option (Some k) = k

abbrev pub after_option_cells_of_command : Command → Combination
after_option_cells_of_command (Mapcalc target bound) = []
after_option_cells_of_command (Reclass place target rules) = []
after_option_cells_of_command (Clump place target joining) = []
after_option_cells_of_command (Stats places options) = combination_of_after_option options.after
after_option_cells_of_command (OutAscii place null_text) = []

-- the number of maps, then their names
abbrev pub input_maps_bytes : List (List ℕ) → List ℕ → List ℕ
input_maps_bytes names places = eight_bytes_of_number (length places) ++ flat_map (λ place. length_and_text_bytes (name_of_map_at_place names place)) places

-- the number of cells, then their categories
abbrev pub after_option_bytes : Combination → List ℕ
after_option_bytes k = eight_bytes_of_number (length k) ++ flat_map four_bytes_of_cell k

abbrev pub command_options_bytes : List (List ℕ) → Command → List ℕ
command_options_bytes names command =
    (command_option_flags command ∷ []) ++ input_maps_bytes names (input_maps_of_command command) ++ after_option_bytes (after_option_cells_of_command command)
