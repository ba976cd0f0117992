-- How far around a tile the maps of a run have the cells of the full maps (profile).
use Rattle.std.specs.Prelude.{ℕ, ◌+◌, ◌-◌, min, Bool, true, false, ◌||◌, ◌==◌, nat_lt, List, [], ◌∷◌, ◌++◌, Option}
use Rattle.std.specs.Prelude.{Some, None, slice_get, unwrap_or, replicate, if◌then◌else◌}
use Rattle.std.specs.List.{list_any}
use Rattle.rcell_script.specs.declared.command.Command.{Command}
use Rattle.rcell_script.specs.declared.command.Command.TheVariants.{Mapcalc, Reclass, Clump, Stats, OutAscii}
use Rattle.rcell_script.specs.declared.statement.Statement.{Statement}
use Rattle.rcell_plan.specs.declared.needs.Margin.{Margin}
use Rattle.rcell_plan.specs.declared.needs.MapNeed.{MapNeed}
use Rattle.rcell_plan.specs.Plans.{maps_read_by_command, command_makes_map}
use Rattle.rcell_tile.specs.declared.halo_margins.HaloMargin.{HaloMargin}
use Rattle.rcell_tile.specs.declared.halo_margins.HaloFault.{HaloFault}
use Rattle.rcell_tile.specs.declared.halo_margins.HaloFaultKind.{HaloFaultKind}
use Rattle.rcell_tile.specs.declared.halo_margins.HaloFaultKind.TheVariants.{TooSmall, Labels}
use Rattle.rcell_tile.specs.TilePlaces.{TilePlaceValue}
use Rattle.rcell_tile.specs.TileMaps.{halo_rows_above, halo_rows_below, halo_columns_left, halo_columns_right}

-- a halo of n rows or columns on one side: no limit, if the maps end with the full map there
abbrev pub limit_of_side : Bool → ℕ → Option ℕ
limit_of_side ends n = if ends then None else Some n

-- the margin of the given maps: their halo
abbrev pub halo_margin : TilePlaceValue → HaloMargin
halo_margin p = record {
  up = limit_of_side (p.outer.top == 0) (halo_rows_above p);
  down = limit_of_side (p.outer.top + p.outer.rows == p.rows) (halo_rows_below p);
  left = limit_of_side (p.outer.left == 0) (halo_columns_left p);
  right = limit_of_side (p.outer.left + p.outer.cols == p.cols) (halo_columns_right p);
}

-- no margin: r.clump numbers clumps in the tile alone
abbrev pub no_halo_margin : HaloMargin
no_halo_margin = record { up = Some 0; down = Some 0; left = Some 0; right = Some 0 }

-- a read n cells away exceeds the limit
abbrev pub exceeds_limit : Option ℕ → ℕ → Bool
exceeds_limit None n = false
exceeds_limit (Some limit) n = nat_lt limit n

-- what is left of the limit after a read n cells away
abbrev pub limit_after_read : Option ℕ → ℕ → Option ℕ
limit_after_read None n = None
limit_after_read (Some limit) n = Some (limit - n)

-- the smaller of two limits
abbrev pub smaller_limit : Option ℕ → Option ℕ → Option ℕ
smaller_limit None b = b
smaller_limit (Some a) None = Some a
smaller_limit (Some a) (Some b) = Some (min a b)

-- a read within `reach` exceeds the margin
abbrev pub exceeds_margin : HaloMargin → Margin → Bool
exceeds_margin m reach = (exceeds_limit m.up reach.up || exceeds_limit m.down reach.down)
    || (exceeds_limit m.left reach.left || exceeds_limit m.right reach.right)

-- what is left of the margin after a read within `reach`
abbrev pub margin_after_read : HaloMargin → Margin → HaloMargin
margin_after_read m reach = record {
  up = limit_after_read m.up reach.up;
  down = limit_after_read m.down reach.down;
  left = limit_after_read m.left reach.left;
  right = limit_after_read m.right reach.right;
}

-- the margin inside both margins
abbrev pub smaller_margin : HaloMargin → HaloMargin → HaloMargin
smaller_margin a b = record {
  up = smaller_limit a.up b.up;
  down = smaller_limit a.down b.down;
  left = smaller_limit a.left b.left;
  right = smaller_limit a.right b.right;
}

-- the margin of the map at index `place`
abbrev pub margin_of_map_at_place : List HaloMargin → ℕ → HaloMargin
margin_of_map_at_place known place = unwrap_or (slice_get known place) no_halo_margin

-- the margin inside all that the reads leave
abbrev pub margin_after_reads : List HaloMargin → HaloMargin → List MapNeed → HaloMargin
margin_after_reads known margin [] = margin
margin_after_reads known margin (n ∷ ns) = margin_after_reads known
    (smaller_margin margin (margin_after_read (margin_of_map_at_place known n.place) n.margin)) ns

-- a read exceeds the margin of its map
abbrev pub read_exceeds_margin : List HaloMargin → MapNeed → Bool
read_exceeds_margin known n = exceeds_margin (margin_of_map_at_place known n.place) n.margin

-- a read of all cells within `depth` rows and columns exceeds the margin of the map at index `place`
abbrev pub depth_exceeds_margin : List HaloMargin → ℕ → ℕ → Bool
depth_exceeds_margin known place depth =
    exceeds_margin (margin_of_map_at_place known place)
    (record { up = depth; down = depth; left = depth; right = depth })

-- the command is r.clump
abbrev pub command_is_clump : Command → Bool
command_is_clump (Mapcalc target bound) = false
command_is_clump (Reclass place target rules) = false
command_is_clump (Clump place target joining) = true
command_is_clump (Stats places options) = false
command_is_clump (OutAscii place null_text) = false

-- the margin of the map that a command makes: what its reads leave of the halo
abbrev pub margin_of_made_map : HaloMargin → List HaloMargin → Command → HaloMargin
margin_of_made_map halo known command = if command_is_clump command then no_halo_margin
    else margin_after_reads known halo (maps_read_by_command command)

-- the margins of the known maps after a command
abbrev pub margins_after_command : HaloMargin → List HaloMargin → Command → List HaloMargin
margins_after_command halo known command =
    if command_makes_map command then known ++ margin_of_made_map halo known command ∷ [] else known

-- the command prints labels
abbrev pub command_prints_labels : Command → Bool
command_prints_labels (Mapcalc target bound) = false
command_prints_labels (Reclass place target rules) = false
command_prints_labels (Clump place target joining) = false
command_prints_labels (Stats places options) = options.labels
command_prints_labels (OutAscii place null_text) = false

-- why a command cannot run in a tile, if it cannot
abbrev pub halo_fault_of_command : List HaloMargin → Command → Option HaloFaultKind
halo_fault_of_command known command = if command_prints_labels command then Some Labels else
    (if list_any (read_exceeds_margin known) (maps_read_by_command command) then Some TooSmall else None)

-- the error of this line, otherwise the next error
abbrev pub fault_at_line_or_next : ℕ → Option HaloFaultKind → Option HaloFault → Option HaloFault
fault_at_line_or_next line None next = next
fault_at_line_or_next line (Some kind) next = Some (record { line = line; kind = kind })

-- the first statement that cannot run in a tile, if the maps before it have these margins
abbrev pub first_fault_with_margins : HaloMargin → List HaloMargin → List Statement → Option HaloFault
first_fault_with_margins halo known [] = None
first_fault_with_margins halo known (s ∷ ss) = fault_at_line_or_next s.line (halo_fault_of_command known s.command)
    (first_fault_with_margins halo (margins_after_command halo known s.command) ss)

-- the first statement that cannot run in a tile, over `count` given maps
abbrev pub first_halo_fault : TilePlaceValue → ℕ → List Statement → Option HaloFault
first_halo_fault p count statements =
    first_fault_with_margins (halo_margin p) (replicate count (halo_margin p)) statements

-- the margins of the known maps after the statements
abbrev pub margins_after_statements : HaloMargin → List HaloMargin → List Statement → List HaloMargin
margins_after_statements halo known [] = known
margins_after_statements halo known (s ∷ ss) =
    margins_after_statements halo (margins_after_command halo known s.command) ss

-- the margins of all maps after the statements, over `count` given maps
abbrev pub margins_of_maps : TilePlaceValue → ℕ → List Statement → List HaloMargin
margins_of_maps p count statements =
    margins_after_statements (halo_margin p) (replicate count (halo_margin p)) statements
