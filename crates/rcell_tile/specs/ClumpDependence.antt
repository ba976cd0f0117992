-- Which maps depend on an r.clump, directly or through maps made earlier: in a tile, r.clump numbers the clumps of the
-- tile alone.
use Rattle.std.specs.Prelude.{ℕ, ◌≡◌, Bool, false, ◌||◌, List, [], ◌∷◌, ◌++◌, slice_get, unwrap_or, replicate}
use Rattle.std.specs.Prelude.{if◌then◌else◌}
use Rattle.std.specs.List.{list_any}
use Rattle.rcell_script.specs.declared.command.Command.{Command}
use Rattle.rcell_script.specs.declared.statement.Statement.{Statement}
use Rattle.rcell_plan.specs.Plans.{maps_read_by_command, command_makes_map}
use Rattle.rcell_tile.specs.HaloMargins.{command_is_clump}

-- the map at index `place` depends on an r.clump
abbrev pub map_depends_on_clump : List Bool → ℕ → Bool
map_depends_on_clump known place = unwrap_or (slice_get known place) false

-- the map that a command makes depends on an r.clump
abbrev pub made_map_depends_on_clump : List Bool → Command → Bool
made_map_depends_on_clump known command = command_is_clump command
    || list_any (λ n. map_depends_on_clump known n.place) (maps_read_by_command command)

-- which maps depend on an r.clump after a command
abbrev pub clump_dependence_after_command : List Bool → Command → List Bool
clump_dependence_after_command known command = if command_makes_map command
    then known ++ made_map_depends_on_clump known command ∷ [] else known

-- which maps depend on an r.clump after the statements
abbrev pub clump_dependence_after_statements : List Bool → List Statement → List Bool
clump_dependence_after_statements known [] = known
clump_dependence_after_statements known (s ∷ ss) =
    clump_dependence_after_statements (clump_dependence_after_command known s.command) ss

-- after the statements over `count` given maps, the map at index `place` does not depend on an r.clump
abbrev pub MapDoesNotDependOnClump : (count : ℕ) → List Statement → (place : ℕ) → Type 0
MapDoesNotDependOnClump count statements place =
    map_depends_on_clump (clump_dependence_after_statements (replicate count false) statements) place ≡ false
