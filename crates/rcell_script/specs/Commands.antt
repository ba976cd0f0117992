-- The meaning of a line: skipped, a command, the start of an r.reclass, or an error (order of errors: profile).
use Rattle.std.specs.Prelude.{ℕ, ◌≡◌, ◌≢◌, ◌⊎◌, List, Option, Some, None, Result, Ok, Err, length, if◌then◌else◌, unwrap_or, Bool, true, false, [], ◌∷◌, nat_lt, bytes_eq, codes}
use Rattle.cell_ascii_meaning.specs.GridWords.{usual_null_text}
use Rattle.cell_calc_language.specs.Binding.{formula_of_term}
use Rattle.cell_core_values.specs.Letters.{byte}
use Rattle.cell_core_values.specs.Name.{place_of_name}
use Rattle.cell_calc_language.specs.Assignment.{IsAssignmentText}
use Rattle.cell_calc_language.specs.GrammarFault.{IsFaultOfAssignmentText}
use Rattle.cell_calc_language.specs.Unknown.{first_unknown}
use Rattle.cell_stats_combinations.specs.Combinations.{Combination}
use Rattle.cell_stats_combinations.specs.ComboReading.{combination_of_text}
use Rattle.cell_core_values.specs.Answers.{◌>>=◌}
use Rattle.cell_core_values.specs.Words.{words_of_line}
use Rattle.cell_calc_language.specs.declared.assignment.Assignment.{Assignment}
use Rattle.cell_calc_grammar.specs.declared.calc_fault.CalcFault.{CalcFault}
use Rattle.cell_calc_grammar.specs.declared.calc_fault.CalcKind.TheVariants as calc
use Rattle.cell_stats_combinations.specs.declared.combination_text.ComboFault.{ComboFault}
use Rattle.rcell_script.specs.ScriptFaults.{option_result_as_script_result, script_kind_of_combo_fault}
use Rattle.rcell_script.specs.Skipped.{starts_comment}
use Rattle.rcell_script.specs.Maps.{result_if_output_map_is_new, input_place_and_output_name, input_map_place}
use Rattle.rcell_script.specs.Maps.{input_map_places}
use Rattle.rcell_script.specs.OptionReading.{GivenOptions, options_in_words}
use Rattle.rcell_script.specs.RClump.{joining_of_corner_flag}
use Rattle.rcell_script.specs.RMapcalc.{assignment_with_blanked_command}
use Rattle.rcell_script.specs.RStats.{skip_of_null_flags}
use Rattle.rcell_script.specs.declared.script_fault.ScriptKind.{ScriptKind}
use Rattle.rcell_script.specs.declared.script_fault.ScriptKind.TheVariants.{Calc, UnknownCommand, LongLine}
use Rattle.rcell_script.specs.declared.heads.ScriptLineMeaning.{ScriptLineMeaning}
use Rattle.rcell_script.specs.declared.heads.ScriptLineMeaning.TheVariants.{Whole, Skipped, Opened}
use Rattle.rcell_script.specs.declared.option_fault.OptionFault.{OptionFault}
use Rattle.rcell_script.specs.declared.options.CommandWithOptions.TheVariants as form
use Rattle.rcell_script.specs.declared.command.Command.{Command}
use Rattle.rcell_script.specs.declared.command.Command.TheVariants.{Mapcalc, Clump, Stats, OutAscii}
use Rattle.rcell_script.specs.declared.command.StatsOptions.{StatsOptions}

-- the command for an assignment: each map that it reads must be known, and its target must be new
abbrev pub mapcalc_command : List (List ℕ) → Assignment → Result ScriptLineMeaning ScriptKind
mapcalc_command known a = by (first_unknown known a.expr)
  where
    by : Option ℕ → Result ScriptLineMeaning ScriptKind
    by (Some column) = Err (Calc (record { kind = calc.UnknownMap; column = column }))
    by None = option_result_as_script_result (result_if_output_map_is_new (place_of_name a.target known) (Ok (Whole (Mapcalc a.target (formula_of_term known a.expr)))))

-- the text is an assignment with this meaning
abbrev pub IsAssignmentMeaning : List (List ℕ) → List ℕ → Result ScriptLineMeaning ScriptKind → Type 0
IsAssignmentMeaning known text head = (a : Assignment) × IsAssignmentText text a × (mapcalc_command known a ≡ head)

-- the text is not an assignment, for this reason
abbrev pub IsRejectedAssignment : List ℕ → Result ScriptLineMeaning ScriptKind → Type 0
IsRejectedAssignment text head = (fault : CalcFault) × IsFaultOfAssignmentText text fault × (fault.kind ≢ calc.Memory) × (Err (Calc fault) ≡ head)

-- the meaning of a line of r.mapcalc, over known maps
abbrev pub IsMapcalcLineMeaning : List (List ℕ) → List ℕ → Result ScriptLineMeaning ScriptKind → Type 0
IsMapcalcLineMeaning known line head = IsAssignmentMeaning known
    (assignment_with_blanked_command line) head ⊎ IsRejectedAssignment (assignment_with_blanked_command line) head

-- the index of the input map, and the name of the output map
abbrev pub reclass_input_and_output : List (List ℕ) → List (List ℕ) → Result (ℕ × List ℕ) OptionFault
reclass_input_and_output known words = options_in_words form.Reclass words >>= input_place_and_output_name known

-- the command that the words after r.clump spell
abbrev pub clump_command_of_words : List (List ℕ) → List (List ℕ) → Result Command OptionFault
clump_command_of_words known words = do
  given ← options_in_words form.Clump words
  maps ← input_place_and_output_name known given
  Ok (Clump maps.0 maps.1 (joining_of_corner_flag given.flags.corners))

-- the combination after which a table continues, if one is given
abbrev pub combination_in_after_option : ℕ → Option (List ℕ) → Result (Option Combination) ScriptKind
combination_in_after_option width None = Ok None
combination_in_after_option width (Some text) = combined (combination_of_text width text)
  where
    combined : Result Combination ComboFault → Result (Option Combination) ScriptKind
    combined (Ok combo) = Ok (Some combo)
    combined (Err fault) = Err (script_kind_of_combo_fault fault)

-- how a table is printed, and which part of it; by default, fields are separated by a space, and null is an asterisk
abbrev pub stats_options_of_given_options : GivenOptions → Option Combination → StatsOptions
stats_options_of_given_options given after =
    record {
      skip = skip_of_null_flags given.flags.no_null given.flags.no_all_null;
      labels = given.flags.labels;
      counts = given.flags.counts;
      cells = given.flags.cells;
      separator = unwrap_or given.separator (byte (codes " "));
      null_text = unwrap_or given.table_null_text usual_null_text;
      after = after;
    }

-- the command that the words after r.stats spell: flags must not exclude each other, maps must be known, and `after`
-- must contain one cell per map
abbrev pub stats_command_of_words : List (List ℕ) → List (List ℕ) → Result Command ScriptKind
stats_command_of_words known words = do
  given ← option_result_as_script_result (options_in_words form.Stats words)
  places ← option_result_as_script_result (input_map_places known given)
  after ← combination_in_after_option (length places) given.after
  Ok (Stats places (stats_options_of_given_options given after))

-- the command that the words after r.out.ascii spell: the input must be known, and null is by default an asterisk
abbrev pub out_ascii_command_of_words : List (List ℕ) → List (List ℕ) → Result Command OptionFault
out_ascii_command_of_words known words = do
  given ← options_in_words form.OutAscii words
  place ← input_map_place known given
  Ok (OutAscii place (unwrap_or given.null_text usual_null_text))

-- a command that needs no further lines
abbrev pub meaning_of_single_line_command : Result Command ScriptKind → Result ScriptLineMeaning ScriptKind
meaning_of_single_line_command (Ok command) = Ok (Whole command)
meaning_of_single_line_command (Err kind) = Err kind

-- an r.reclass whose rules follow
abbrev pub meaning_of_reclass_head : Result (ℕ × List ℕ) ScriptKind → Result ScriptLineMeaning ScriptKind
meaning_of_reclass_head (Ok maps) = Ok (Opened maps.0 maps.1)
meaning_of_reclass_head (Err kind) = Err kind

-- the meaning of a command name and the words after it, over known maps
abbrev pub meaning_by_command_name : List (List ℕ) → List ℕ → List (List ℕ) → Result ScriptLineMeaning ScriptKind
meaning_by_command_name known name words =
    if bytes_eq name (codes "r.stats") then meaning_of_single_line_command (stats_command_of_words known words)
    else (if bytes_eq name (codes "r.out.ascii") then meaning_of_single_line_command (option_result_as_script_result
    (out_ascii_command_of_words known words))
    else (if bytes_eq name (codes "r.clump") then meaning_of_single_line_command (option_result_as_script_result
    (clump_command_of_words known words))
    else (if bytes_eq name (codes "r.reclass") then meaning_of_reclass_head (option_result_as_script_result
    (reclass_input_and_output known words))
    else Err UnknownCommand)))

-- the meaning of words: blank lines and comments are skipped, and otherwise the first word is the command
abbrev pub meaning_of_line_words : List (List ℕ) → List (List ℕ) → Result ScriptLineMeaning ScriptKind
meaning_of_line_words known [] = Ok Skipped
meaning_of_line_words known (w ∷ ws) = if starts_comment w then Ok Skipped else meaning_by_command_name known w ws

abbrev pub is_mapcalc_line : List (List ℕ) → Bool
is_mapcalc_line [] = false
is_mapcalc_line (w ∷ ws) = bytes_eq w (codes "r.mapcalc")

-- the meaning of a line of at most 65535 bytes, depending on whether it is an r.mapcalc
abbrev pub IsMeaningOfShortLine : Bool → List (List ℕ) → List ℕ → Result ScriptLineMeaning ScriptKind → Type 0
IsMeaningOfShortLine true known line head = IsMapcalcLineMeaning known line head
IsMeaningOfShortLine false known line head = meaning_of_line_words known (words_of_line line) ≡ head

-- the meaning of a line, depending on whether it is longer than 65535 bytes
abbrev pub IsMeaningByLineLength : Bool → List (List ℕ) → List ℕ → Result ScriptLineMeaning ScriptKind → Type 0
IsMeaningByLineLength true known line head = Err LongLine ≡ head
IsMeaningByLineLength false known line head = IsMeaningOfShortLine
    (is_mapcalc_line (words_of_line line)) known line head

-- the meaning of a line that is not among the rules of an r.reclass, over known maps
abbrev pub IsLineMeaning : List (List ℕ) → List ℕ → Result ScriptLineMeaning ScriptKind → Type 0
IsLineMeaning known line head = IsMeaningByLineLength (nat_lt 65535 (length line)) known line head
