-- Two scripts, one after the other, form a script.
use Rattle.std.proofs.Common.{◌≡◌, ℕ, ◌+◌, ◌≤◌, List, [], ◌∷◌, ◌++◌, length, map, refl, ap, sym, ◌∙◌, subst, arith}
use Rattle.std.proofs.Common.{append_assoc, length-append}
use Rattle.std.specs.Prelude.{All, ◌↔◌}
use Rattle.std.proofs.lemmas.List.{map-append}
use Rattle.std.proofs.lemmas.List.Elements.{All-append}
use Rattle.cell_core.specs.Shelf.{ShelfValue}
use Rattle.cell_cats.specs.Rule.{RuleValue}
use Rattle.rcell_script.specs.declared.command.Command.TheVariants.{Reclass}
use Rattle.rcell_script.specs.KnownMaps.{known_names_after_command}
use Rattle.rcell_script.specs.Lines.{ScriptLine, script_lines, numbered_lines}
use Rattle.rcell_script.specs.ReclassRules.{LinesSpellRules}
use Rattle.rcell_script.specs.ReclassRules as rules
use Rattle.rcell_script.specs.Scripts.{LinesFormStatements, none, skipped, command, reclass, IsScript}
use Rattle.rcell_script.specs.declared.statement.Statement.{Statement}
use Rattle.rcell.specs.Output.{StatementsWriteTextAndLeaveShelf}
use Rattle.rcell_law.specs.CutScript.{CutScriptTextGivesSameOutput}
use Rattle.rcell_law.proofs.CutLemmas.{cut_script_gives_same_output}
use Rattle.rcell.proofs.OutputLemmas.{names_after}
use Rattle.rcell_law.proofs.LineLemmas.{script_lines_joined, numbered_both, numbered_later, line_later}

-- the names known after the statements
abbrev known_after_all : List (List ℕ) → List Statement → List (List ℕ)
known_after_all known [] = known
known_after_all known (s ∷ ss) = known_after_all (known_names_after_command known s.command) ss

names_after_all : (statements : List Statement) (shelf after : ShelfValue) (text : List ℕ)
    → StatementsWriteTextAndLeaveShelf shelf statements text after
    → after.names ≡ known_after_all shelf.names statements
names_after_all [] shelf after text h = ap (λ (s : ShelfValue). s.names) h.1
names_after_all (s ∷ ss) shelf after text (next, (rest, (step, (others, same)))) =
    names_after_all ss next after rest others ∙ ap (λ (ns : List (List ℕ)). known_after_all ns ss)
    (names_after shelf s.command next step)

-- lines that group, followed by lines that group over the maps known after them, also group
group_both : (known : List (List ℕ)) (xs : List ScriptLine) (one : List Statement) (ys : List ScriptLine)
    (two : List Statement)
    → LinesFormStatements known xs one → LinesFormStatements (known_after_all known one) ys two
    → LinesFormStatements known (xs ++ ys) (one ++ two)
group_both known _ _ ys two none k = k
group_both known _ _ ys two (skipped says more) k = skipped says (group_both known _ _ ys two more k)
group_both known _ _ ys two (command spells more) k = command spells (group_both _ _ _ ys two more k)
group_both known _ _ ys two
    (reclass {line} {inner} {lines} {place} {target} {rules = given} {statements} last spells are end more) k =
    let rest = group_both (known ++ target ∷ []) lines statements ys two more k in
    subst (λ (ls : List ScriptLine). LinesFormStatements known (line ∷ ls)
    (record { line = line.number; command = Reclass place target given } ∷ (statements ++ two)))
    (sym (append_assoc inner (last ∷ lines) ys)) (reclass last spells are end rest)

-- a statement moved n lines down
abbrev statement_later : ℕ → Statement → Statement
statement_later n s = record { line = n + s.line; command = s.command }

rules_later : (n : ℕ) (lines : List ScriptLine) (given : List RuleValue) → LinesSpellRules lines given → LinesSpellRules
    (map (line_later n) lines) given
rules_later n _ _ rules.none = rules.none
rules_later n _ _ (rules.skipped says more) = rules.skipped says (rules_later n _ _ more)
rules_later n _ _ (rules.rule spells more) = rules.rule spells (rules_later n _ _ more)

group_later : (n : ℕ) (known : List (List ℕ)) (lines : List ScriptLine) (statements : List Statement)
    → LinesFormStatements known lines statements → LinesFormStatements known (map (line_later n) lines)
    (map (statement_later n) statements)
group_later n known _ _ none = none
group_later n known _ _ (skipped says more) = skipped says (group_later n known _ _ more)
group_later n known _ _ (command spells more) = command spells (group_later n _ _ _ more)
group_later n known _ _ (reclass {line} {inner} {lines} {place} {target} {rules =
    given} {statements} last spells are end more) =
    let rest = group_later n (known ++ target ∷ []) lines statements more in
    subst (λ (ls : List ScriptLine). LinesFormStatements known (line_later n line ∷ ls)
    (record { line = n + line.number; command = Reclass place target given } ∷ map (statement_later n) statements))
    (sym (map-append (line_later n) inner (last ∷ lines)))
    (reclass {line = line_later n line} (line_later n last) spells (rules_later n inner given are) end rest)

script_both : (known : List (List ℕ)) (text front back : List ℕ) (one two : List Statement) → text ≡ front ++ 10 ∷ []
    → IsScript known text one → IsScript (known_after_all known one) back two
    → IsScript known (text ++ back) (one ++ map (statement_later (length (script_lines text))) two)
unfolding IsScript
script_both known text front back one two ends first second =
    let n = length (script_lines text) in
    let lines = script_lines_joined text front back ends in
    let later = group_later n (known_after_all known one) (numbered_lines 1 (script_lines back)) two second.grouped in
    let here : LinesFormStatements (known_after_all known one) (numbered_lines (n + 1) (script_lines back))
    (map (statement_later n) two) =
    subst (λ (ls : List ScriptLine). LinesFormStatements (known_after_all known one) ls (map (statement_later n) two))
    (sym (numbered_later n 1 (script_lines back))) later in
    let both = group_both known (numbered_lines 1 (script_lines text)) one (numbered_lines (n + 1) (script_lines back))
    (map (statement_later n) two) first.grouped here in
    record {
      short = subst (All (λ l. length l ≤ 65535)) (sym lines)
          (All-append (λ l. length l ≤ 65535) (script_lines text) (script_lines back) first.short second.short);
      grouped = subst (λ (ls : List ScriptLine). LinesFormStatements known ls (one ++ map (statement_later n) two))
          (sym (numbered_both 1 (script_lines text) (script_lines back)) ∙ ap (numbered_lines 1) (sym lines)) both;
    }

-- ---- the output does not depend on line numbers

executes_later : (n : ℕ) (statements : List Statement) (shelf after : ShelfValue) (text : List ℕ)
    → StatementsWriteTextAndLeaveShelf shelf statements text after ↔ StatementsWriteTextAndLeaveShelf shelf
    (map (statement_later n) statements) text after
executes_later n [] shelf after text = (λ h. h, λ h. h)
executes_later n (s ∷ ss) shelf after text = (
  λ h. (h.0, (h.1.0, (h.1.1.0, ((executes_later n ss h.0 after h.1.0).0 h.1.1.1.0, h.1.1.1.1)))),
  λ h. (h.0, (h.1.0, (h.1.1.0, ((executes_later n ss h.0 after h.1.0).1 h.1.1.1.0, h.1.1.1.1)))),
)

executes_behind : (n : ℕ) (one two : List Statement) (shelf after : ShelfValue) (text : List ℕ)
    → StatementsWriteTextAndLeaveShelf shelf
    (one ++ two) text after ↔ StatementsWriteTextAndLeaveShelf shelf (one ++ map (statement_later n) two) text after
executes_behind n [] two shelf after text = executes_later n two shelf after text
executes_behind n (s ∷ ss) two shelf after text = (
  λ h. (h.0, (h.1.0, (h.1.1.0, ((executes_behind n ss two h.0 after h.1.0).0 h.1.1.1.0, h.1.1.1.1)))),
  λ h. (h.0, (h.1.0, (h.1.1.0, ((executes_behind n ss two h.0 after h.1.0).1 h.1.1.1.0, h.1.1.1.1)))),
)

pub cut_script_text_gives_same_output : CutScriptTextGivesSameOutput
cut_script_text_gives_same_output grids first second shelf between one two mark text ok done line can writable ends
    short is bare_two =
    let n = length (script_lines first.bytes) in
    let names = names_after_all one shelf between text done in
    let behind = subst (λ (ns : List (List ℕ)). IsScript ns second.bytes two) names is in
    let second_short : length second.bytes ≤ 1048576 =
    (let l = length_of first.bytes second.bytes in omega (arith, l, short)) in
    let cut =
    cut_script_gives_same_output grids first second shelf between one two mark text ok done can writable ends
    second_short is
    bare_two in (
      one ++ map (statement_later n) two,
      record {
        loaded = ok.loaded;
        ends = refl;
        short = short;
        denoted = script_both shelf.names first.bytes line.0 second.bytes one two line.1 ok.denoted behind;
      },
      cut.0,
      λ rest. (
        λ h. let whole = (cut.1 rest).0 h in
            (whole.0, (executes_behind n one two shelf whole.0 (text ++ rest)).0 whole.1),
        λ h. (cut.1 rest).1 (h.0, (executes_behind n one two shelf h.0 (text ++ rest)).1 h.1),
      ),
    )
  where
    length_of : (xs ys : List ℕ) → length (xs ++ ys) ≡ length xs + length ys
    length_of xs ys = length-append xs ys
