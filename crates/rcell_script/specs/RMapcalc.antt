-- r.mapcalc: the assignment in a line (r.mapcalc manual).
use Rattle.std.specs.Prelude.{ℕ, ◌-◌, List, [], ◌∷◌, ◌++◌, length, replicate, if◌then◌else◌, ◌≡◌, None, codes}
use Rattle.cell_calc_language.specs.Binding.{formula_of_term}
use Rattle.cell_calc_language.specs.Formula.{Formula}
use Rattle.cell_core_values.specs.Letters.{byte}
use Rattle.cell_core_values.specs.Name.{place_of_name}
use Rattle.cell_calc_language.specs.Assignment.{IsAssignmentText}
use Rattle.cell_calc_language.specs.Unknown.{first_unknown}
use Rattle.cell_core_values.specs.Blanks.{is_blank, without_leading_blanks}
use Rattle.cell_core_values.specs.Words.{words_of_line}
use Rattle.cell_calc_language.specs.declared.assignment.Assignment.{Assignment}

-- the rest of a text after its first word
abbrev pub rest_after_first_word : List ℕ → List ℕ
rest_after_first_word [] = []
rest_after_first_word (b ∷ bs) = if is_blank b then b ∷ bs else rest_after_first_word bs

-- the text after the command name of a line
abbrev pub text_after_command_name : List ℕ → List ℕ
text_after_command_name line = rest_after_first_word (without_leading_blanks line)

-- the line with blanks in place of the command name, so that columns do not change
abbrev pub assignment_with_blanked_command : List ℕ → List ℕ
assignment_with_blanked_command line = replicate (length line - length (text_after_command_name line))
    (byte (codes " ")) ++ text_after_command_name line

-- r.mapcalc: an assignment follows the name; the maps that it reads are known, and its target is new
pub record SpellsMapcalcCommand (known : List (List ℕ)) (line target : List ℕ) (bound : Formula) : Type 0 where
  pub words : List (List ℕ)
  pub named : words_of_line line ≡ codes "r.mapcalc" ∷ words
  pub assignment : Assignment
  pub says : IsAssignmentText (assignment_with_blanked_command line) assignment
  pub read : first_unknown known assignment.expr ≡ None
  pub made : place_of_name assignment.target known ≡ None
  pub target_is : assignment.target ≡ target
  pub bound_is : formula_of_term known assignment.expr ≡ bound
