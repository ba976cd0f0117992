-- What statements read, and how far they depend on the given maps, directly or through maps made earlier (profile).
use Rattle.std.specs.Prelude.{ℕ, zero, suc, ◌+◌, Bool, true, false, List, [], ◌∷◌, ◌++◌, map, flat_map, length}
use Rattle.std.specs.Prelude.{slice_get, unwrap_or, Option, Some, None, if◌then◌else◌}
use Rattle.cell_calc_language.specs.Formula.{Formula}
use Rattle.cell_calc_grammar.specs.declared.step.Step.{Step}
use Rattle.cell_calc_grammar.specs.declared.step.Step.TheVariants as step
use Rattle.cell_calc_grammar.specs.Postfix.{postfix}
use Rattle.rcell_script.specs.declared.command.Command.{Command}
use Rattle.rcell_script.specs.declared.command.Command.TheVariants.{Mapcalc, Reclass, Clump, Stats, OutAscii}
use Rattle.rcell_script.specs.declared.statement.Statement.{Statement}
use Rattle.rcell_plan.specs.declared.needs.MapNeed.{MapNeed}
use Rattle.rcell_plan.specs.declared.planning.Plan.{Plan}
use Rattle.rcell_plan.specs.Needs.{margin_containing_offset, need_of_own_cell, need_widened_by_margin}
use Rattle.rcell_plan.specs.Needs.{requiring_full_map, needs_with_added_needs}

-- the map that a step of an expression reads, if any
abbrev pub map_read_by_step : Step ℕ → List MapNeed
map_read_by_step (step.Map i down right) = record {
  place = i;
  margin = margin_containing_offset down right;
  whole = false;
} ∷ []
map_read_by_step (step.Number n) = []
map_read_by_step step.Negated = []
map_read_by_step step.Not = []
map_read_by_step (step.Binary op) = []
map_read_by_step (step.Call f n) = []

-- the maps that an expression reads, each once
abbrev pub maps_read_by_expression : Formula → List MapNeed
maps_read_by_expression f = needs_with_added_needs [] (flat_map map_read_by_step (postfix f))

-- the maps that a command reads
abbrev pub maps_read_by_command : Command → List MapNeed
maps_read_by_command (Mapcalc target bound) = maps_read_by_expression bound
maps_read_by_command (Reclass place target rules) = need_of_own_cell place ∷ []
maps_read_by_command (Clump place target joining) = need_of_own_cell place ∷ []
maps_read_by_command (Stats places options) = needs_with_added_needs [] (map need_of_own_cell places)
maps_read_by_command (OutAscii place null_text) = need_of_own_cell place ∷ []

-- what the map at index `place` needs from the given maps
abbrev pub needs_of_map_at_place : List (List MapNeed) → ℕ → List MapNeed
needs_of_map_at_place known place = unwrap_or (slice_get known place) []

-- what one read needs from the given maps
abbrev pub needs_of_read : List (List MapNeed) → MapNeed → List MapNeed
needs_of_read known read = map (need_widened_by_margin read.margin) (needs_of_map_at_place known read.place)

-- what several reads need from the given maps
abbrev pub needs_of_reads : List (List MapNeed) → List MapNeed → List MapNeed
needs_of_reads known reads = needs_with_added_needs [] (flat_map (needs_of_read known) reads)

-- what a command needs from the given maps: r.clump needs the full map
abbrev pub command_needs : List (List MapNeed) → Command → List MapNeed
command_needs known (Mapcalc target bound) = needs_of_reads known (maps_read_by_expression bound)
command_needs known (Reclass place target rules) = needs_of_map_at_place known place
command_needs known (Clump place target joining) = map requiring_full_map (needs_of_map_at_place known place)
command_needs known (Stats places options) = needs_of_reads known
    (needs_with_added_needs [] (map need_of_own_cell places))
command_needs known (OutAscii place null_text) = needs_of_map_at_place known place

-- the command makes a map
abbrev pub command_makes_map : Command → Bool
command_makes_map (Mapcalc target bound) = true
command_makes_map (Reclass place target rules) = true
command_makes_map (Clump place target joining) = true
command_makes_map (Stats places options) = false
command_makes_map (OutAscii place null_text) = false

-- the needs of the known maps after a command
abbrev pub needs_after_command : List (List MapNeed) → Command → List (List MapNeed)
needs_after_command known command = if command_makes_map command then known ++ command_needs known command
    ∷ [] else known

-- the needs of `n` given maps, starting at index `first`: each needs only itself
abbrev pub needs_of_given_maps_from : ℕ → ℕ → List (List MapNeed)
needs_of_given_maps_from first zero = []
needs_of_given_maps_from first (suc n) = (need_of_own_cell first ∷ []) ∷ needs_of_given_maps_from (first + 1) n

abbrev pub needs_of_given_maps : ℕ → List (List MapNeed)
needs_of_given_maps count = needs_of_given_maps_from 0 count

-- the sum of: 1 if the command writes, 2 if it prints labels, 4 if it needs the full map
abbrev pub command_flags : Command → ℕ
command_flags (Mapcalc target bound) = 0
command_flags (Reclass place target rules) = 0
command_flags (Clump place target joining) = 4
command_flags (Stats places options) = if options.labels then 3 else 1
command_flags (OutAscii place null_text) = 1

-- the code of a command
abbrev pub command_code : Command → ℕ
command_code (Mapcalc target bound) = 1
command_code (Reclass place target rules) = 2
command_code (Clump place target joining) = 3
command_code (Stats places options) = 4
command_code (OutAscii place null_text) = 5

-- the index of the map that a command makes, if it makes one
abbrev pub place_of_made_map : List (List MapNeed) → Command → Option ℕ
place_of_made_map known command = if command_makes_map command then Some (length known) else None

abbrev pub plan_of_statement : List (List MapNeed) → Statement → Plan
plan_of_statement known s = record {
  line = s.line;
  code = command_code s.command;
  flags = command_flags s.command;
  made = place_of_made_map known s.command;
  reads = maps_read_by_command s.command;
  needs = command_needs known s.command;
}

abbrev pub plans_of_statements : List (List MapNeed) → List Statement → List Plan
plans_of_statements known [] = []
plans_of_statements known (s ∷ ss) = plan_of_statement known s
    ∷ plans_of_statements (needs_after_command known s.command) ss
