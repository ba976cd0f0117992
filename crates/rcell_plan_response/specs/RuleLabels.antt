-- The labels in the rules of a statement, in a plan (profile).
use Rattle.std.specs.Prelude.{ℕ, ℤ, Bool, List, [], ◌++◌, count_by, flat_map}
use Rattle.std.specs.Int.{w32, to_le_bytes, cast_unsigned}
use Rattle.std.specs.Option.{is_some, option_map_or}
use Rattle.cell_cats.specs.Rule.{RuleValue, labelled_category}
use Rattle.rcell_script.specs.declared.command.Command.{Command}
use Rattle.rcell_script.specs.declared.command.Command.TheVariants.{Mapcalc, Reclass, Clump, Stats, OutAscii}
use Rattle.rcell_pipe_frames.specs.FrameBytes.{eight_bytes_of_number, length_and_text_bytes}

-- the rules of a command: only r.reclass has rules
abbrev pub rules_of_command : Command → List RuleValue
rules_of_command (Mapcalc target bound) = []
rules_of_command (Reclass place target rules) = rules
rules_of_command (Clump place target joining) = []
rules_of_command (Stats places options) = []
rules_of_command (OutAscii place null_text) = []

-- the rule labels a category
abbrev pub has_label : RuleValue → Bool
has_label rule = is_some (labelled_category rule)

-- a category in four bytes
abbrev pub category_bytes : ℤ → List ℕ
category_bytes category = to_le_bytes w32 (cast_unsigned w32 category)

-- the category that a rule labels and its label, or nothing
abbrev pub label_bytes_of_rule : RuleValue → List ℕ
label_bytes_of_rule rule =
    option_map_or (λ category. category_bytes category ++ length_and_text_bytes rule.label) (labelled_category rule) []

-- the number of labels, then each label, in the order of the rules
abbrev pub command_labels_bytes : Command → List ℕ
command_labels_bytes command = eight_bytes_of_number (count_by has_label (rules_of_command command))
    ++ flat_map label_bytes_of_rule (rules_of_command command)
