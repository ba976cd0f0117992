-- The frames of a plan, and the response to a plan request (profile).
use Rattle.std.specs.Prelude.{ℕ, List, [], ◌∷◌, ◌++◌, length, flat_map, codes, Option, Some, None}
use Rattle.std.specs.List.{zip}
use Rattle.rcell_script.specs.declared.statement.Statement.{Statement}
use Rattle.rcell_pipe_frames.specs.FrameBytes.{eight_bytes_of_number, length_and_text_bytes, one_if_true_else_zero}
use Rattle.rcell_pipe_frames.specs.FrameBytes.{response_magic}
use Rattle.rcell_pipe_frames.specs.FrameBytes.{run_end_frame_bytes}
use Rattle.rcell_pipe_response.specs.QuestionFrames.{names_of_all_maps}
use Rattle.rcell_pipe_response.specs.RunEnds.{end_frame_of_successful_run}
use Rattle.rcell_plan.specs.declared.needs.Margin.{Margin}
use Rattle.rcell_plan.specs.declared.needs.MapNeed.{MapNeed}
use Rattle.rcell_plan.specs.declared.planning.Plan.{Plan}
use Rattle.rcell_plan.specs.Plans.{plans_of_statements, needs_of_given_maps}
use Rattle.rcell_plan_response.specs.PlanOptions.{command_options_bytes}
use Rattle.rcell_plan_response.specs.RuleLabels.{command_labels_bytes}
use Rattle.rcell_plan_response.specs.MapNames.{name_of_map_at_place}

-- the name of the map that a statement makes, or an empty name if it makes none
abbrev pub name_of_made_map : List (List ℕ) → Option ℕ → List ℕ
name_of_made_map names None = []
name_of_made_map names (Some place) = name_of_map_at_place names place

-- the numbers of rows above and below, and of columns to the left and to the right
abbrev pub margin_bytes : Margin → List ℕ
margin_bytes m = eight_bytes_of_number m.up ++ eight_bytes_of_number m.down ++ eight_bytes_of_number m.left
    ++ eight_bytes_of_number m.right

-- a map that is read: its name and margin
abbrev pub map_read_bytes : List (List ℕ) → MapNeed → List ℕ
map_read_bytes names n = length_and_text_bytes (name_of_map_at_place names n.place) ++ margin_bytes n.margin

-- a map that is needed: its name and margin, and 1 if the full map is needed
abbrev pub need_bytes : List (List ℕ) → MapNeed → List ℕ
need_bytes names n = map_read_bytes names n ++ one_if_true_else_zero n.whole ∷ []

-- the number of maps, then each map
abbrev pub map_reads_bytes : List (List ℕ) → List MapNeed → List ℕ
map_reads_bytes names reads = eight_bytes_of_number (length reads) ++ flat_map (map_read_bytes names) reads

abbrev pub needs_bytes : List (List ℕ) → List MapNeed → List ℕ
needs_bytes names needs = eight_bytes_of_number (length needs) ++ flat_map (need_bytes names) needs

-- the head of a statement's frame: its line, command and flags, and the map that it makes
abbrev pub plan_head_bytes : List (List ℕ) → Plan → List ℕ
plan_head_bytes names p =
    codes "PLAN" ++ eight_bytes_of_number p.line ++ (p.code ∷ p.flags ∷ [])
    ++ length_and_text_bytes (name_of_made_map names p.made)

-- the frame of a statement, from its plan; `names` contains the names of all maps
abbrev pub plan_bytes : List (List ℕ) → Plan × Statement → List ℕ
plan_bytes names p =
    plan_head_bytes names p.0 ++ map_reads_bytes names p.0.reads ++ needs_bytes names p.0.needs
    ++ command_options_bytes names p.1.command ++ command_labels_bytes p.1.command

abbrev pub plans_bytes : List (List ℕ) → List Plan → List Statement → List ℕ
plans_bytes names plans statements = flat_map (plan_bytes names) (zip plans statements)

-- the response to a plan request whose script denotes these statements
abbrev pub plan_response : List (List ℕ) → List Statement → List ℕ
plan_response names statements =
    response_magic
    ++ plans_bytes (names_of_all_maps names statements)
    (plans_of_statements (needs_of_given_maps (length names)) statements) statements
    ++ run_end_frame_bytes end_frame_of_successful_run
