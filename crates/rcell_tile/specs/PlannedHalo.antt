-- The halo that a script needs, computed from its plan; the laws that a tile can run the script with this halo, and
-- with no smaller one.
use Rattle.std.specs.Prelude.{ℕ, ◌≡◌, ◌≤◌, ◌+◌, ◌==◌, ◌⊎◌, Bool, true, false, List, [], ◌∷◌, ◌++◌, length, All, None}
use Rattle.std.specs.Prelude.{slice_get, unwrap_or, replicate, if◌then◌else◌}
use Rattle.std.specs.Option.{is_some}
use Rattle.rcell_script.specs.FittingScripts.{StatementsFitKnownMaps}
use Rattle.rcell_script.specs.declared.statement.Statement.{Statement}
use Rattle.rcell_plan.specs.declared.needs.Margin.{Margin}
use Rattle.rcell_plan.specs.declared.needs.MapNeed.{MapNeed}
use Rattle.rcell_plan.specs.declared.planning.Plan.{Plan}
use Rattle.rcell_plan.specs.Needs.{no_margin, margin_covering_both_margins, sum_of_margins}
use Rattle.rcell_plan.specs.Plans.{maps_read_by_command, plans_of_statements, needs_of_given_maps}
use Rattle.rcell_tile.specs.ClumpDependence.{map_depends_on_clump, clump_dependence_after_command}
use Rattle.rcell_tile.specs.HaloMargins.{command_prints_labels, first_halo_fault}
use Rattle.rcell_tile.specs.TileMaps.{halo_rows_above, halo_rows_below, halo_columns_left, halo_columns_right}
use Rattle.rcell_tile.specs.TilePlaces.{TilePlaceValue}

-- the halo of the map at index `place`
abbrev pub halo_of_map_at_place : List Margin → ℕ → Margin
halo_of_map_at_place known place = unwrap_or (slice_get known place) no_margin

-- the halo of a read: the sum of the read and the map's own halo
abbrev pub halo_of_read : List Margin → MapNeed → Margin
halo_of_read known n = sum_of_margins n.margin (halo_of_map_at_place known n.place)

-- a statement's halo: the largest halo of its reads
abbrev pub halo_of_reads : List Margin → List MapNeed → Margin
halo_of_reads known [] = no_margin
halo_of_reads known (n ∷ ns) = margin_covering_both_margins (halo_of_read known n) (halo_of_reads known ns)

-- the halo of the map that a statement makes: 0 for r.clump, otherwise the statement's halo
abbrev pub halo_of_made_map : List Margin → Plan → Margin
halo_of_made_map known plan = if plan.code == 3 then no_margin else halo_of_reads known plan.reads

-- the halos of the known maps after a statement
abbrev pub halos_after_statement : List Margin → Plan → List Margin
halos_after_statement known plan = if is_some plan.made then known ++ halo_of_made_map known plan ∷ [] else known

-- the largest halo of the statements
abbrev pub halo_of_statements : List Margin → List Plan → Margin
halo_of_statements known [] = no_margin
halo_of_statements known (plan ∷ plans) = margin_covering_both_margins (halo_of_reads known plan.reads)
    (halo_of_statements (halos_after_statement known plan) plans)

-- the halo that a script over `count` given maps needs: given maps have 0
abbrev pub halo_of_plan : ℕ → List Plan → Margin
halo_of_plan count plans = halo_of_statements (replicate count no_margin) plans

abbrev pub planned_halo : ℕ → List Statement → Margin
planned_halo count statements = halo_of_plan count (plans_of_statements (needs_of_given_maps count) statements)

-- on each side, the maps of the tile have at least this halo or end with the full map
pub record TileHasHalo (p : TilePlaceValue) (halo : Margin) : Type 0 where
  pub up : (p.outer.top ≡ 0) ⊎ (halo.up ≤ halo_rows_above p)
  pub down : (p.outer.top + p.outer.rows ≡ p.rows) ⊎ (halo.down ≤ halo_rows_below p)
  pub left : (p.outer.left ≡ 0) ⊎ (halo.left ≤ halo_columns_left p)
  pub right : (p.outer.left + p.outer.cols ≡ p.cols) ⊎ (halo.right ≤ halo_columns_right p)

-- no statement prints labels
abbrev pub NoStatementPrintsLabels : List Statement → Type 0
NoStatementPrintsLabels statements = All (λ s. command_prints_labels s.command ≡ false) statements

-- maps that depend on an r.clump are read only at the cell itself
abbrev pub ClumpMapsAreReadAtOwnCell : List Bool → List Statement → Type 0
ClumpMapsAreReadAtOwnCell known [] = Unit {0}
ClumpMapsAreReadAtOwnCell known (s ∷ ss) =
    All (λ n. map_depends_on_clump known n.place ≡ true → n.margin ≡ no_margin) (maps_read_by_command s.command)
    × ClumpMapsAreReadAtOwnCell (clump_dependence_after_command known s.command) ss

-- the statements fit given maps with these names, print no labels, and read what depends on an r.clump only at the cell
-- itself; and the tile has the planned halo
pub record CanRunInTile (p : TilePlaceValue) (names : List (List ℕ)) (statements : List Statement) : Type 0 where
  pub fits : StatementsFitKnownMaps names statements
  pub labels : NoStatementPrintsLabels statements
  pub clumps : ClumpMapsAreReadAtOwnCell (replicate (length names) false) statements
  pub halo : TileHasHalo p (planned_halo (length names) statements)

-- the planned halo is enough: no statement reads beyond it
abbrev pub PlannedHaloIsEnough : Type 0
PlannedHaloIsEnough = (p : TilePlaceValue) (names : List (List ℕ)) (statements : List Statement)
    → CanRunInTile p names statements → first_halo_fault p (length names) statements ≡ None

-- no smaller halo is enough: if no statement reads beyond the halo, the tile has the planned halo
abbrev pub PlannedHaloIsNeeded : Type 0
PlannedHaloIsNeeded = (p : TilePlaceValue) (names : List (List ℕ)) (statements : List Statement)
    → StatementsFitKnownMaps names statements → first_halo_fault p (length names) statements ≡ None
    → CanRunInTile p names statements
