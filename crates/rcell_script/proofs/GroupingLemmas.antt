-- A text is read as the statements into which its lines group.
use Rattle.std.proofs.Common.{◌≡◌, ℕ, ◌+◌, ◌≤◌, suc, Bool, true, false, cond, List, [], ◌∷◌, ◌++◌, length, All, Option, Some, None, Result, Ok, Err, codes, refl, ap, sym, ◌∙◌, subst, append_assoc, arith}
use Rattle.std.specs.Prelude.{◌↔◌, nat_lt, bytes_eq}
use Rattle.std.specs.Cmp.Lexicographic.{bytes_decides}
use Rattle.std.proofs.lemmas.Bool.{ltb-false, le-ltb}
use Rattle.std.proofs.lemmas.List.{append-nil}
use Rattle.std.proofs.lemmas.List.Elements.{All-nil, All-cons}
use Rattle.cell_cats.specs.Rule.{RuleValue}
use Rattle.cell_cats.specs.RuleLine.{is_blank_or_comment_line, SpellsRule}
use Rattle.cell_cats.specs.RuleReading.{rule_of_line, line_kind_and_rules_after_line}
use Rattle.cell_cats.proofs.RuleLawLemmas as rule_law
use Rattle.cell_cats.specs.declared.rules.LineKind.{LineKind}
use Rattle.cell_cats.specs.declared.rules.LineKind.TheVariants as line_kind
use Rattle.cell_cats.specs.declared.rules.RuleFault.{RuleFault}
use Rattle.cell_core_values.specs.Answers.{◌>>=◌}
use Rattle.cell_core_values.specs.Blanks.{trimmed_text}
use Rattle.rcell_script.specs.Commands.{IsLineMeaning}
use Rattle.rcell_script.specs.Skipped.{IsSkippedLine}
use Rattle.rcell_script.specs.Lines.{ScriptLine, numbered_lines, script_lines}
use Rattle.rcell_script.specs.RReclass.{SpellsReclassCommand}
use Rattle.rcell_script.specs.ReclassRules.{EndsReclassRules, LinesSpellRules}
use Rattle.rcell_script.specs.CommandSpelling.{SpellsCommand}
use Rattle.rcell_script.specs.Scripts.{LinesFormStatements, TextFormsStatements}
use Rattle.rcell_script.specs.ReclassRules as reclass_rules
use Rattle.rcell_script.specs.Scripts as grouping
use Rattle.rcell_script.specs.KnownMaps.{known_names_after_command}
use Rattle.rcell_script.specs.ScriptsRead.{state_before_first_line, state_after_line_meaning, state_after_rule_line}
use Rattle.rcell_script.specs.ScriptsRead.{rule_result_as_script_result, kind_and_rules_after_rule_line}
use Rattle.rcell_script.specs.ScriptsRead.{IsScriptReading}
use Rattle.rcell_script.specs.declared.script_fault.ScriptKind.{ScriptKind}
use Rattle.rcell_script.specs.declared.script_fault.ScriptKind.TheVariants.{LongLine}
use Rattle.rcell_script.specs.declared.heads.ScriptLineMeaning.{ScriptLineMeaning}
use Rattle.rcell_script.specs.declared.heads.ScriptLineMeaning.TheVariants.{Skipped, Whole, Opened}
use Rattle.rcell_script.specs.declared.line_reading.UnfinishedReclass.{UnfinishedReclass}
use Rattle.rcell_script.specs.declared.line_reading.ScriptReadingState.{ScriptReadingState}
use Rattle.rcell_script.specs.declared.command.Command.TheVariants.{Reclass}
use Rattle.rcell_script.specs.declared.statement.Statement.{Statement}
use Rattle.rcell_script.proofs.SpellingLemmas.{head-says, says-head}

-- ---- a line among rules

abbrev Ruled : Type 0
Ruled = Result (LineKind × List RuleValue) ScriptKind

-- the meaning of a line among rules
abbrev SaysRule : List RuleValue → List ℕ → LineKind → List RuleValue → Type 0
SaysRule rules l line_kind.End more = EndsReclassRules l
SaysRule rules l line_kind.Skipped more = IsSkippedLine l × (more ≡ rules)
SaysRule rules l line_kind.Rule more = (rule : RuleValue) × (SpellsRule l rule × (more ≡ rules ++ rule ∷ []))

pair-same : (kind kind' : LineKind) (more more' : List RuleValue) (rules : List RuleValue) (l : List ℕ) → ◌≡◌ {A = Result (LineKind × List RuleValue) RuleFault} (Ok (kind, more)) (Ok (kind', more')) → SaysRule rules l kind more → SaysRule rules l kind' more'
pair-same kind kind' more more' rules l e says =
    let same : ◌≡◌ {A = LineKind × List RuleValue} (kind, more) (kind', more') = cc in
    subst (λ (x : LineKind × List RuleValue). SaysRule rules l x.0 x.1) same says

line-sound : (rules : List RuleValue) (l : List ℕ) (kind : LineKind) (more : List RuleValue) → line_kind_and_rules_after_line rules l ≡ Ok (kind, more) → SaysRule rules l kind more
line-sound rules l kind more e = by (is_blank_or_comment_line (trimmed_text l)) (bytes_eq (trimmed_text l) (codes "end")) (rule_of_line l) refl refl refl e
  where
    by : (skipped end : Bool) (rule : Result RuleValue RuleFault) → is_blank_or_comment_line (trimmed_text l) ≡ skipped → bytes_eq (trimmed_text l) (codes "end") ≡ end → rule_of_line l ≡ rule
        → cond {A = Result (LineKind × List RuleValue) RuleFault} skipped (Ok (line_kind.Skipped, rules))
        (cond end (Ok (line_kind.End, rules)) (rule >>= λ rule. Ok (line_kind.Rule, rules ++ rule ∷ [])))
        ≡ Ok (kind, more) → SaysRule rules l kind more
    by true end rule s n r f = pair-same line_kind.Skipped kind rules more rules l f (s, refl)
    by false true rule s n r f = pair-same line_kind.End kind rules more rules l f ((bytes_decides (trimmed_text l) (codes "end")).0 n)
    by false false (Err fault) s n r f = cc
    by false false (Ok rule) s n r f =
        let inside : EndsReclassRules l → ⊥ = λ e. let t : bytes_eq (trimmed_text l) (codes "end") ≡ true = (bytes_decides (trimmed_text l) (codes "end")).1 e in cc in
        pair-same line_kind.Rule kind (rules ++ rule ∷ []) more rules l f (rule, (rule_law.rule-sound l rule s inside r, refl))

rule_result_as_script_result-ok : (x : Result (LineKind × List RuleValue) RuleFault) (y : LineKind × List RuleValue) → rule_result_as_script_result x ≡ Ok y → x ≡ Ok y
rule_result_as_script_result-ok (Ok x) y e = let same : x ≡ y = cc in ap Ok same
rule_result_as_script_result-ok (Err fault) y e = cc

-- a line that is read among rules means what it is read as
rule-sound : (rules : List RuleValue) (l : List ℕ) (kind : LineKind) (more : List RuleValue) → kind_and_rules_after_rule_line rules l ≡ Ok (kind, more) → (length l ≤ 65535) × SaysRule rules l kind more
rule-sound rules l kind more e = by (nat_lt 65535 (length l)) refl e
  where
    by : (long : Bool) → nat_lt 65535 (length l) ≡ long → cond long (Err LongLine) (rule_result_as_script_result (line_kind_and_rules_after_line rules l)) ≡ Ok (kind, more) → (length l ≤ 65535) × SaysRule rules l kind more
    by true s f = cc
    by false s f = (ltb-false 65535 (length l) s, line-sound rules l kind more (rule_result_as_script_result-ok (line_kind_and_rules_after_line rules l) (kind, more) f))

short-rule : (rules : List RuleValue) (l : List ℕ) → length l ≤ 65535
    → kind_and_rules_after_rule_line rules l ≡ rule_result_as_script_result (line_kind_and_rules_after_line rules l)
short-rule rules l s = rw (le-ltb 65535 (length l) s) refl

skipped-read : (rules : List RuleValue) (l : List ℕ) → length l ≤ 65535 → IsSkippedLine l → kind_and_rules_after_rule_line rules l ≡ Ok (line_kind.Skipped, rules)
skipped-read rules l s e = short-rule rules l s ∙ rw e refl

no_end : (l : List ℕ) → (EndsReclassRules l → ⊥) → bytes_eq (trimmed_text l) (codes "end") ≡ false
no_end l inside = by (bytes_eq (trimmed_text l) (codes "end")) refl
  where
    by : (end : Bool) → bytes_eq (trimmed_text l) (codes "end") ≡ end → bytes_eq (trimmed_text l) (codes "end") ≡ false
    by true e = absurd (inside ((bytes_decides (trimmed_text l) (codes "end")).0 e))
    by false e = e

rule-read : (rules : List RuleValue) (l : List ℕ) (rule : RuleValue) → length l ≤ 65535 → SpellsRule l rule → kind_and_rules_after_rule_line rules l ≡ Ok (line_kind.Rule, rules ++ rule ∷ [])
rule-read rules l rule s spells = short-rule rules l s
    ∙ rw (spells.not_skipped, no_end l spells.not_end, rule_law.rule-complete l rule spells) refl

end-read : (rules : List RuleValue) (l : List ℕ) → length l ≤ 65535 → EndsReclassRules l → kind_and_rules_after_rule_line rules l ≡ Ok (line_kind.End, rules)
end-read rules l s e =
    let other : is_blank_or_comment_line (trimmed_text l) ≡ false = ap is_blank_or_comment_line e in
    let is : bytes_eq (trimmed_text l) (codes "end") ≡ true = (bytes_decides (trimmed_text l) (codes "end")).1 e in
    short-rule rules l s ∙ rw (other, is) refl

-- ---- the lines read, as groups

-- the remaining lines of an r.reclass that is being read, up to its end
record Inside (known : List (List ℕ)) (block : UnfinishedReclass) (lines : List ScriptLine)
    (statements : List Statement) : Type 0 where
  rules : List RuleValue
  inner : List ScriptLine
  last : ScriptLine
  others : List ScriptLine
  more : List Statement
  lines_are : inner ++ last ∷ others ≡ lines
  spell : LinesSpellRules inner rules
  is_last : EndsReclassRules last.bytes
  statements_are : statements ≡ record { line = block.line; command = Reclass block.place block.target (block.rules ++ rules) } ∷ more
  group : LinesFormStatements (known ++ block.target ∷ []) others more

-- the lines that remain, either outside the rules of an r.reclass or among them
abbrev IsRest : Option UnfinishedReclass → List (List ℕ) → List ScriptLine → List Statement → Type 0
IsRest None known lines statements = LinesFormStatements known lines statements
IsRest (Some block) known lines statements = Inside known block lines statements

-- the statements that the remaining lines add
record Rest (pending : Option UnfinishedReclass) (line : ℕ) (known : List (List ℕ)) (before : List Statement) (ls : List (List ℕ)) (statements : List Statement) : Type 0 where
  short : All (λ l. length l ≤ 65535) ls
  more : List Statement
  statements_are : before ++ more ≡ statements
  rest : IsRest pending known (numbered_lines line ls) more

abbrev progress : List (List ℕ) → List Statement → Option UnfinishedReclass → ScriptReadingState
progress known before pending = record { known = known; statements = before; pending = pending }

short-cons : (l : List ℕ) (ls : List (List ℕ)) → length l ≤ 65535 → All (λ l. length l ≤ 65535) ls → All (λ l. length l ≤ 65535) (l ∷ ls)
short-cons l ls s rest = All-cons (λ (l : List ℕ). length l ≤ 65535) l ls s rest

opened-rest : (line : ℕ) (known : List (List ℕ)) (l : List ℕ) (place : ℕ) (target : List ℕ) (lines : List ScriptLine) (statements : List Statement)
    → SpellsReclassCommand known l place target → Inside known (record { line = line; place = place; target = target; rules = [] }) lines statements
    → LinesFormStatements known (record { number = line; bytes = l } ∷ lines) statements
opened-rest line known l place target lines statements says inside =
    let first : ScriptLine = record { number = line; bytes = l } in
    let group = grouping.LinesFormStatements.reclass {line = first} inside.last says inside.spell inside.is_last
    inside.group in
    subst (λ ls. LinesFormStatements known (first ∷ ls) statements) inside.lines_are
    (subst (λ ss. LinesFormStatements known (first ∷ (inside.inner ++ inside.last ∷ inside.others)) ss) (sym inside.statements_are) group)

head-rest : (line : ℕ) (known : List (List ℕ)) (before : List Statement) (l : List ℕ) (ls : List (List ℕ)) (statements : List Statement) (head : ScriptLineMeaning) (more : ScriptReadingState)
    → Ok more ≡ state_after_line_meaning line (progress known before None) (Ok head) → IsLineMeaning known l (Ok head)
    → ((known : List (List ℕ)) (before : List Statement) (pending : Option UnfinishedReclass) → more ≡ progress known before pending → Rest pending (line + 1) known before ls statements)
    → Rest None line known before (l ∷ ls) statements
head-rest line known before l ls statements Skipped more e is read =
    let says = head-says known l Skipped is in
    let same : more ≡ progress known before None = cc in
    let r = read known before None same in
    record { short = short-cons l ls says.0 r.short; more = r.more; statements_are = r.statements_are; rest = grouping.LinesFormStatements.skipped {line = record { number = line; bytes = l }} says.1 r.rest }
head-rest line known before l ls statements (Whole command) more e is read =
    let says = head-says known l (Whole command) is in
    let s : Statement = record { line = line; command = command } in
    let same : more ≡ progress (known_names_after_command known command) (before ++ s ∷ []) None = cc in
    let r = read (known_names_after_command known command) (before ++ s ∷ []) None same in
    record {
      short = short-cons l ls says.0 r.short;
      more = s ∷ r.more;
      statements_are = sym (append_assoc before (s ∷ []) r.more) ∙ r.statements_are;
      rest = grouping.LinesFormStatements.command {line = record { number = line; bytes = l }} says.1 r.rest;
    }
head-rest line known before l ls statements (Opened place target) more e is read =
    let says = head-says known l (Opened place target) is in
    let block : UnfinishedReclass = record { line = line; place = place; target = target; rules = [] } in
    let same : more ≡ progress known before (Some block) = cc in
    let r = read known before (Some block) same in
    record {
      short = short-cons l ls says.0 r.short;
      more = r.more;
      statements_are = r.statements_are;
      rest = opened-rest line known l place target (numbered_lines (line + 1) ls) r.more says.1 r.rest;
    }

rule-rest : (line : ℕ) (known : List (List ℕ)) (before : List Statement) (block : UnfinishedReclass) (l : List ℕ) (ls : List (List ℕ)) (statements : List Statement) (x : Ruled) (more : ScriptReadingState)
    → kind_and_rules_after_rule_line block.rules l ≡ x → Ok more ≡ state_after_rule_line line
    (progress known before None) block x
    → ((known : List (List ℕ)) (before : List Statement) (pending : Option UnfinishedReclass) → more ≡ progress known before pending → Rest pending (line + 1) known before ls statements)
    → Rest (Some block) line known before (l ∷ ls) statements
rule-rest line known before block l ls statements (Err kind) more is e read = cc
rule-rest line known before block l ls statements (Ok (line_kind.End, rules)) more is e read =
    let says = rule-sound block.rules l line_kind.End rules is in
    let s : Statement = record { line = block.line; command = Reclass block.place block.target block.rules } in
    let same : more ≡ progress (known ++ block.target ∷ []) (before ++ s ∷ []) None = cc in
    let r = read (known ++ block.target ∷ []) (before ++ s ∷ []) None same in
    record {
      short = short-cons l ls says.0 r.short;
      more = s ∷ r.more;
      statements_are = sym (append_assoc before (s ∷ []) r.more) ∙ r.statements_are;
      rest = record {
        rules = [];
        inner = [];
        last = record { number = line; bytes = l };
        others = numbered_lines (line + 1) ls;
        more = r.more;
        lines_are = refl;
        spell = reclass_rules.LinesSpellRules.none;
        is_last = says.1;
        statements_are = ap (λ rs. record { line = block.line; command = Reclass block.place block.target rs } ∷ r.more) (sym (append-nil block.rules));
        group = r.rest;
      };
    }
rule-rest line known before block l ls statements (Ok (line_kind.Skipped, rules)) more is e read =
    let says = rule-sound block.rules l line_kind.Skipped rules is in
    let same : more ≡ progress known before (Some (record block { rules = rules })) = cc in
    let r = read known before (Some (record block { rules = rules })) same in
    let inside = r.rest in
    record {
      short = short-cons l ls says.0 r.short;
      more = r.more;
      statements_are = r.statements_are;
      rest = record {
        rules = inside.rules;
        inner = record { number = line; bytes = l } ∷ inside.inner;
        last = inside.last;
        others = inside.others;
        more = inside.more;
        lines_are = ap (λ ls. record { number = line; bytes = l } ∷ ls) inside.lines_are;
        spell = reclass_rules.LinesSpellRules.skipped {line =
            record { number = line; bytes = l }} says.1.0 inside.spell;
        is_last = inside.is_last;
        statements_are = inside.statements_are ∙ ap (λ rs. record { line = block.line; command = Reclass block.place block.target (rs ++ inside.rules) } ∷ inside.more) says.1.1;
        group = inside.group;
      };
    }
rule-rest line known before block l ls statements (Ok (line_kind.Rule, rules)) more is e read =
    let says = rule-sound block.rules l line_kind.Rule rules is in
    let rule = says.1.0 in
    let same : more ≡ progress known before (Some (record block { rules = rules })) = cc in
    let r = read known before (Some (record block { rules = rules })) same in
    let inside = r.rest in
    record {
      short = short-cons l ls says.0 r.short;
      more = r.more;
      statements_are = r.statements_are;
      rest = record {
        rules = rule ∷ inside.rules;
        inner = record { number = line; bytes = l } ∷ inside.inner;
        last = inside.last;
        others = inside.others;
        more = inside.more;
        lines_are = ap (λ ls. record { number = line; bytes = l } ∷ ls) inside.lines_are;
        spell = reclass_rules.LinesSpellRules.rule {line = record { number = line; bytes = l }} says.1.1.0 inside.spell;
        is_last = inside.is_last;
        statements_are = inside.statements_are
            ∙ ap (λ rs. record { line = block.line; command = Reclass block.place block.target rs } ∷ inside.more)
            (ap (λ rs. rs ++ inside.rules) says.1.1.1 ∙ append_assoc block.rules (rule ∷ []) inside.rules);
        group = inside.group;
      };
    }

rest-of : (line : ℕ) (known : List (List ℕ)) (before : List Statement) (pending : Option UnfinishedReclass) (ls : List (List ℕ)) (statements : List Statement)
    → IsScriptReading line (progress known before pending) ls (Ok statements) → Rest pending line known before ls statements
rest-of line known before None [] statements e =
    let same : before ≡ statements = cc in
    record { short = All-nil (λ (l : List ℕ). length l ≤ 65535); more = []; statements_are = append-nil before ∙ same; rest = grouping.LinesFormStatements.none }
rest-of line known before (Some block) [] statements e = cc
rest-of line known before None (l ∷ ls) statements (Err fault, is, e) = cc
rest-of line known before (Some block) (l ∷ ls) statements (Err fault, is, e) = cc
rest-of line known before None (l ∷ ls) statements (Ok more, (Err kind, is, e), rest) = cc
rest-of line known before None (l ∷ ls) statements (Ok more, (Ok head, is, e), rest) =
    head-rest line known before l ls statements head more e is (λ known before pending same.
    rest-of (line + 1) known before pending ls statements (subst (λ m. IsScriptReading (line + 1) m ls (Ok statements)) same rest))
rest-of line known before (Some block) (l ∷ ls) statements (Ok more, e, rest) =
    rule-rest line known before block l ls statements (kind_and_rules_after_rule_line block.rules l) more refl e (λ known before pending same.
    rest-of (line + 1) known before pending ls statements (subst (λ m. IsScriptReading (line + 1) m ls (Ok statements)) same rest))

-- ---- groups, as they are read

-- lines, numbered from any number, are read as statements
abbrev HoldsUnlessOutOfMemory : List (List ℕ) → List Statement → List ScriptLine → List Statement → Type 0
HoldsUnlessOutOfMemory known before lines statements =
    (line : ℕ) (ls : List (List ℕ)) → lines ≡ numbered_lines line ls → All (λ l. length l ≤ 65535) ls → IsScriptReading line (progress known before None) ls (Ok statements)

short-head : (l : List ℕ) (ls : List (List ℕ)) → All (λ l. length l ≤ 65535) (l ∷ ls) → length l ≤ 65535
short-head l ls all = all 0 l (omega arith)

short-tail : (l : List ℕ) (ls : List (List ℕ)) → All (λ l. length l ≤ 65535) (l ∷ ls) → All (λ l. length l ≤ 65535) ls
short-tail l ls all = λ i d within. all (suc i) d (omega (arith, within))

-- the rules of an r.reclass and the lines after its end are read as statements
inside-read : {inner : List ScriptLine} {rules : List RuleValue} → LinesSpellRules inner rules → (known : List (List ℕ)) (before : List Statement) (block : UnfinishedReclass) (last : ScriptLine) (others : List ScriptLine) (statements : List Statement)
    → EndsReclassRules last.bytes
    → HoldsUnlessOutOfMemory (known ++ block.target ∷ []) (before ++ record { line = block.line; command = Reclass block.place block.target (block.rules ++ rules) } ∷ []) others statements
    → (line : ℕ) (ls : List (List ℕ)) → inner ++ last ∷ others ≡ numbered_lines line ls → All (λ l. length l ≤ 65535) ls → IsScriptReading line (progress known before (Some block)) ls (Ok statements)
inside-read reclass_rules.LinesSpellRules.none known before block last others statements is_last reads line [] e
    short = cc
inside-read reclass_rules.LinesSpellRules.none known before block last others statements is_last reads line (l
    ∷ ls) e short =
    let same : last ≡ record { number = line; bytes = l } = cc in
    let rest : others ≡ numbered_lines (line + 1) ls = cc in
    let is = end-read block.rules l (short-head l ls short) (subst
    (λ (x : ScriptLine). EndsReclassRules x.bytes) same is_last) in
    let more : ScriptReadingState = progress (known ++ block.target ∷ []) (before ++ record { line = block.line; command = Reclass block.place block.target block.rules } ∷ []) None in
    let reading = reads (line + 1) ls rest (short-tail l ls short) in
    (Ok more, rw is refl, subst (λ rs. IsScriptReading (line + 1) (progress (known ++ block.target ∷ []) (before ++ record { line = block.line; command = Reclass block.place block.target rs } ∷ []) None) ls (Ok statements)) (append-nil block.rules) reading)
inside-read (reclass_rules.LinesSpellRules.skipped says spells) known before block last others statements is_last reads line [] e short = cc
inside-read (reclass_rules.LinesSpellRules.skipped {line = first} {lines = inner} says spells) known before block last others statements is_last reads line (l ∷ ls) e short =
    let same : first ≡ record { number = line; bytes = l } = cc in
    let rest : inner ++ last ∷ others ≡ numbered_lines (line + 1) ls = cc in
    let is = skipped-read block.rules l (short-head l ls short)
    (subst (λ (x : ScriptLine). IsSkippedLine x.bytes) same says) in
    (Ok (progress known before (Some block)), rw is refl, inside-read spells known before block last others statements is_last reads (line + 1) ls rest (short-tail l ls short))
inside-read (reclass_rules.LinesSpellRules.rule says spells) known before block last others statements is_last reads line [] e short = cc
inside-read (reclass_rules.LinesSpellRules.rule {line = first} {lines = inner} {first = rule} {rules = rules} says spells) known before block last others statements is_last reads line (l ∷ ls) e short =
    let same : first ≡ record { number = line; bytes = l } = cc in
    let rest : inner ++ last ∷ others ≡ numbered_lines (line + 1) ls = cc in
    let is = rule-read block.rules l rule (short-head l ls short) (subst (λ (x : ScriptLine). SpellsRule x.bytes rule) same says) in
    let next : UnfinishedReclass = record block { rules = block.rules ++ rule ∷ [] } in
    let joined : block.rules ++ rule ∷ rules ≡ (block.rules ++ rule ∷ []) ++ rules = sym (append_assoc block.rules (rule ∷ []) rules) in (
      Ok (progress known before (Some next)),
      rw is refl,
      inside-read spells known before next last others statements is_last
          (subst (λ rs. HoldsUnlessOutOfMemory (known ++ block.target ∷ []) (before ++ record { line = block.line; command = Reclass block.place block.target rs } ∷ []) others statements) joined reads)
          (line + 1) ls rest (short-tail l ls short),
    )

group-read : {known : List (List ℕ)} {lines : List ScriptLine} {statements : List Statement} → LinesFormStatements known lines statements → (before : List Statement) → HoldsUnlessOutOfMemory known before lines (before ++ statements)
group-read grouping.LinesFormStatements.none before line [] e short = ap Ok (sym (append-nil before))
group-read grouping.LinesFormStatements.none before line (l ∷ ls) e short = cc
group-read (grouping.LinesFormStatements.skipped says group) before line [] e short = cc
group-read (grouping.LinesFormStatements.skipped {known = known} {line = first} {lines = lines} says group) before line (l ∷ ls) e short =
    let same : first ≡ record { number = line; bytes = l } = cc in
    let rest : lines ≡ numbered_lines (line + 1) ls = cc in (
      Ok (progress known before None),
      (Ok Skipped, says-head known l Skipped (short-head l ls short) (subst (λ (x : ScriptLine). IsSkippedLine x.bytes) same says), refl),
      group-read group before (line + 1) ls rest (short-tail l ls short),
    )
group-read (grouping.LinesFormStatements.command says group) before line [] e short = cc
group-read (grouping.LinesFormStatements.command {known = known} {line = first} {lines = lines} {command = command} {statements = statements} says group) before line (l ∷ ls) e short =
    let same : first ≡ record { number = line; bytes = l } = cc in
    let rest : lines ≡ numbered_lines (line + 1) ls = cc in
    let s : Statement = record { line = line; command = command } in
    let is = says-head known l (Whole command) (short-head l ls short) (subst (λ (x : ScriptLine). SpellsCommand known x.bytes command) same says) in
    let reading = group-read group (before ++ s ∷ []) (line + 1) ls rest (short-tail l ls short) in
    let whole : (before ++ s ∷ []) ++ statements ≡ before ++ record { line = first.number; command = command } ∷ statements =
    append_assoc before (s ∷ []) statements ∙ ap (λ (x : ScriptLine). before ++ record { line = x.number; command = command } ∷ statements) (sym same) in (
      Ok (progress (known_names_after_command known command) (before ++ s ∷ []) None),
      (Ok (Whole command), is, refl),
      subst (λ ss. IsScriptReading (line + 1) (progress (known_names_after_command known command) (before ++ s ∷ []) None) ls (Ok ss)) whole reading,
    )
group-read (grouping.LinesFormStatements.reclass last says spells is_last group) before line [] e short = cc
group-read (grouping.LinesFormStatements.reclass {known = known} {line = first} {inner = inner} {lines = lines} {place = place} {target = target} {rules = rules} {statements = statements} last says spells is_last group) before line (l ∷ ls) e short =
    let same : first ≡ record { number = line; bytes = l } = cc in
    let rest : inner ++ last ∷ lines ≡ numbered_lines (line + 1) ls = cc in
    let s : Statement = record { line = line; command = Reclass place target rules } in
    let block : UnfinishedReclass = record { line = line; place = place; target = target; rules = [] } in
    let is = says-head known l (Opened place target) (short-head l ls short) (subst (λ (x : ScriptLine). SpellsReclassCommand known x.bytes place target) same says) in
    let whole : (before ++ s ∷ []) ++ statements ≡ before ++ record { line = first.number; command = Reclass place target rules } ∷ statements =
    append_assoc before (s ∷ []) statements ∙ ap (λ (x : ScriptLine). before ++ record { line = x.number; command = Reclass place target rules } ∷ statements) (sym same) in
    let after : HoldsUnlessOutOfMemory (known ++ target ∷ []) (before ++ s ∷ []) lines (before ++ record { line = first.number; command = Reclass place target rules } ∷ statements) =
    subst (λ ss. HoldsUnlessOutOfMemory (known ++ target ∷ []) (before ++ s ∷ []) lines ss) whole (group-read group (before ++ s ∷ [])) in (
      Ok (progress known before (Some block)),
      (Ok (Opened place target), is, refl),
      inside-read spells known before block last lines (before ++ record { line = first.number; command = Reclass place target rules } ∷ statements) is_last after
          (line + 1) ls rest (short-tail l ls short),
    )

-- a text is read as statements exactly if its lines group into them
pub read-grouped : (known : List (List ℕ)) (text : List ℕ) (statements : List Statement) → IsScriptReading 1 (state_before_first_line known) (script_lines text) (Ok statements) ↔ TextFormsStatements known text statements
read-grouped known text statements = (to, from)
  where
    to : IsScriptReading 1 (state_before_first_line known) (script_lines text) (Ok statements)
        → TextFormsStatements known text statements
    to reading =
        let r = rest-of 1 known [] None (script_lines text) statements reading in
        record { short = r.short; grouped = subst (λ ss. LinesFormStatements known (numbered_lines 1 (script_lines text)) ss) r.statements_are r.rest }

    from : TextFormsStatements known text statements → IsScriptReading 1 (state_before_first_line known)
        (script_lines text) (Ok statements)
    from are = group-read are.grouped [] 1 (script_lines text) refl are.short
