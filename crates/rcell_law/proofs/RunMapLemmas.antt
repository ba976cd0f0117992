-- Each map of a run has a region, its rows and columns, and categories in range.
use Rattle.std.proofs.Common.{◌≡◌, ℕ, zero, suc, ℤ, ◌*◌, ◌<◌, ◌≤◌, Bool, true, false, List, [], ◌∷◌}
use Rattle.std.proofs.Common.{length, map, get_or, Option, Some, None, Result, Ok, Err, refl, ap, sym, ◌∙◌, subst}
use Rattle.std.proofs.Common.{arith}
use Rattle.std.specs.Prelude.{slice_get, All, IsOkAnd, if◌then◌else◌, IsSome}
use Rattle.std.specs.List.{AllPairs}
use Rattle.std.specs.Option.{option_map, option_or}
use Rattle.std.proofs.lemmas.List.Elements.{All-nil, All-cons, All-head, All-tail, All-get_or, All-map, All-push}
use Rattle.std.proofs.lemmas.List.Elements.{All-weaker, Contains-get_or}
use Rattle.std.proofs.lemmas.Option.{slice_get_within, get_or_from_slice_get}
use Rattle.cell_core_values.specs.Region.{RegionValue, IsValidRegion}
use Rattle.cell_core_values.specs.Blanks.{trimmed_text}
use Rattle.cell_core_values.specs.WholeNumbers.{whole_number_of_text, whole_number_in_category_range}
use Rattle.cell_core_values.specs.WholeNumbers.{is_in_category_range}
use Rattle.cell_core.specs.Grid.{Grid, CellValue, RowsFillRegion}
use Rattle.cell_core.specs.Shelf.{ShelfValue}
use Rattle.cell_ascii_meaning.specs.GridText.{SourceDenotesMap}
use Rattle.cell_ascii_law.specs.WrittenLaw.{IsWritableMap}
use Rattle.cell_calc_language.specs.Applied.{grid_position}
use Rattle.cell_calc_language.specs.Formula.{Formula}
use Rattle.cell_cats.specs.Rule.{RuleValue, last_element_that_passes, output_of_last_passing_rule, new_cell_of_output}
use Rattle.cell_cats.specs.Rule.{new_category, lists, is_star_rule}
use Rattle.cell_cats.specs.RuleLine.{SpellsRuleOutput, output_word_in_right_side, SpellsRule}
use Rattle.cell_cats.specs.Reclass.{reclassed_map, reclassed_row}
use Rattle.cell_cats.specs.declared.rule.Output.{Output}
use Rattle.cell_cats.specs.declared.rule.Output.TheVariants.{Same, To}
use Rattle.cell_clumps.specs.declared.clump.Joining.{Joining}
use Rattle.cell_clumps.specs.Clumps.{Position, cell_at_position, IsEarlierCell, IsClumpMapOf, HasClumpNumber}
use Rattle.cell_clumps.specs.parts.CellPlaces.{position_at_row_and_column, place_of_position, IsInsideMap}
use Rattle.cell_clumps.proofs.MeetingLemmas.{some_of}
use Rattle.cell_clumps.proofs.StartLemmas.{inside_map, place_lt, place_inside}
use Rattle.cell_calc_language.specs.Binding.{place_of_map_name, formula_of_term}
use Rattle.cell_calc_grammar.specs.Tree.{with_leaves_all}
use Rattle.cell_calc_grammar.specs.Tree as term
use Rattle.cell_calc_grammar.specs.Term.{Term, ArgumentTerms}
use Rattle.cell_calc_language.specs.Grammatical.{IsGrammatical, AreGrammatical}
use Rattle.cell_calc_language.specs.Assignment.{AreTokensOfAssignment, IsAssignmentText}
use Rattle.cell_calc_language.specs.declared.assignment.Assignment.{Assignment}
use Rattle.cell_calc_language.proofs.Grammatical.{expression_grammatical, spelled_categories}
use Rattle.cell_calc_grammar.specs.Token.{NumberTokensAreCategories}
use Rattle.cell_calc_grammar.specs.Tokens.{token_list_of_text}
use Rattle.cell_calc_grammar.specs.declared.calc_fault.CalcFault.{CalcFault}
use Rattle.cell_calc_grammar.specs.declared.token.TokenAtColumn.{TokenAtColumn}
use Rattle.cell_calc_grammar.proofs.SpellingLemmas.{are_spelled}
use Rattle.rcell.specs.Sources.{Named}
use Rattle.rcell_script.specs.CommandSpelling.{SpellsCommand}
use Rattle.rcell_script.specs.RMapcalc.{assignment_with_blanked_command}
use Rattle.rcell_script.specs.declared.command.Command.{Command}
use Rattle.rcell_script.specs.declared.command.Command.TheVariants.{Mapcalc, Reclass, Clump, Stats, OutAscii}
use Rattle.rcell_script.specs.Lines.{ScriptLine, script_lines, numbered_lines}
use Rattle.rcell_script.specs.Scripts as scripts
use Rattle.rcell_script.specs.Scripts.{LinesFormStatements, IsScript}
use Rattle.rcell_script.specs.declared.statement.Statement.{Statement}
use Rattle.rcell.specs.Making.{IsMapOfExpressionValues, IsMapOfClumpNumbers, MapExistsAndSatisfiesRelation}
use Rattle.rcell.specs.Making.{shelf_with_map_at_end}
use Rattle.rcell.specs.After.{IsShelfAfterCommand}
use Rattle.rcell.specs.Output.{StatementsWriteTextAndLeaveShelf}
use Rattle.rcell.proofs.runs.AcceptedLemmas.{AllDenote}
use Rattle.rcell_law.specs.RunMaps.{RunMapsAreWritable}
use Rattle.rcell_law.proofs.ExistLemmas.{classes_filled}
use Rattle.rcell_script.specs.ReclassRules.{LinesSpellRules}
use Rattle.rcell_script.specs.ReclassRules as rules
use Rattle.rcell_law.proofs.DenotedLemmas.{InRange, AllInRange, accepted-region, all-apart, cells-in}
use Rattle.rcell_law.proofs.DenotedLemmas.{denoted-filled, denoted-in, number-in}
use Rattle.rcell_law.proofs.RangeLemmas.{IsPosition, HasCategories, HaveCategories, value_in}

-- ---- rules

abbrev IsGoodOutput : Output → Type 0
IsGoodOutput Same = Unit {0}
IsGoodOutput (To cell) = InRange cell

abbrev IsGoodOption : Option Output → Type 0
IsGoodOption None = Unit {0}
IsGoodOption (Some output) = IsGoodOutput output

abbrev pub AreGoodRules : List RuleValue → Type 0
AreGoodRules given = All (λ rule. IsGoodOutput rule.output) given

whole_in : (word : List ℕ) → InRange (whole_number_in_category_range word)
whole_in word = by (whole_number_of_text word)
  where
    if_in : (n : ℤ) (b : Bool) → is_in_category_range n ≡ b → InRange (if b then Some n else None)
    if_in n true e = e
    if_in n false e = tt

    by : (o : Option ℤ) → InRange
        (elim o as (λ _. CellValue) [ None ↦ None | Some n ↦ if is_in_category_range n then Some n else None ])
    by None = tt
    by (Some n) = if_in n (is_in_category_range n) refl

good_output : (word : List ℕ) (output : Output) → SpellsRuleOutput word output → IsGoodOutput output
good_output word (To (Some category)) spells = subst InRange spells (whole_in word)
good_output word _ spells = tt

good_rule : (line : List ℕ) (rule : RuleValue) → SpellsRule line rule → IsGoodOutput rule.output
good_rule line rule spells = good_output (output_word_in_right_side
    (trimmed_text spells.right)) rule.output spells.output

pub good_rules : (lines : List ScriptLine) (given : List RuleValue) → LinesSpellRules lines given → AreGoodRules given
good_rules _ _ rules.none = All-nil (λ rule. IsGoodOutput rule.output)
good_rules _ _ (rules.skipped says more) = good_rules _ _ more
good_rules _ _ (rules.rule {line} {first} {rules = others} spells more) =
    All-cons (λ rule. IsGoodOutput rule.output) first others (good_rule line.bytes first spells)
    (good_rules _ _ more)

abbrev IsGoodLast : Option RuleValue → Type 0
IsGoodLast None = Unit {0}
IsGoodLast (Some rule) = IsGoodOutput rule.output

last_good : (p : RuleValue → Bool) (given : List RuleValue) → AreGoodRules given
    → IsGoodLast (last_element_that_passes p given)
last_good p [] h = tt
last_good p (rule ∷ given) h = by (last_element_that_passes p given)
    (last_good p given (All-tail (λ rule. IsGoodOutput rule.output) rule given h)) (p rule)
  where
    by : (o : Option RuleValue) → IsGoodLast o → (t : Bool) → IsGoodLast (option_or o (if t then Some rule else None))
    by (Some other) k t = k
    by None k true = All-head (λ rule. IsGoodOutput rule.output) rule given h
    by None k false = tt

output_good : (p : RuleValue → Bool) (given : List RuleValue) → AreGoodRules given
    → IsGoodOption (output_of_last_passing_rule p given)
output_good p given h = by (last_element_that_passes p given) (last_good p given h)
  where
    by : (o : Option RuleValue) → IsGoodLast o → IsGoodOption (option_map (λ rule. rule.output) o)
    by None k = tt
    by (Some rule) k = k

class_in : (given : List RuleValue) → AreGoodRules given → (cell : CellValue) → InRange cell → InRange
    (new_category given cell)
class_in given h None is = tt
class_in given h (Some x) is = by (output_of_last_passing_rule (lists x) given)
    (output_of_last_passing_rule is_star_rule given)
    (output_good (lists x) given h) (output_good is_star_rule given h)
  where
    made : (o : Option Output) → IsGoodOption o → InRange (new_cell_of_output x o)
    made None k = tt
    made (Some Same) k = is
    made (Some (To cell)) k = k

    by : (one other : Option Output) → IsGoodOption one → IsGoodOption other
        → InRange (new_cell_of_output x (option_or one other))
    by (Some output) other k l = made (Some output) k
    by None other k l = made other l

pub classes_in : (given : List RuleValue) → AreGoodRules given → (rows : List (List CellValue)) → AllInRange rows
    → AllInRange (map (reclassed_row given) rows)
classes_in given h [] all = All-nil (λ row. All InRange row)
classes_in given h (row ∷ rows) all =
    All-cons (λ row. All InRange row) (reclassed_row given row) (map (reclassed_row given) rows)
    (All-map InRange (new_category given) row
    (All-weaker InRange (λ cell. InRange (new_category given cell)) (class_in given h) row
    (All-head (λ row. All InRange row) row rows all)))
    (classes_in given h rows (All-tail (λ row. All InRange row) row rows all))

-- ---- clump numbers

-- cells in row order have ascending places
rising : (w : ℕ) (ps : List Position) (d : Position) → AllPairs IsEarlierCell ps →
    ((i : ℕ) → i < length ps → (get_or ps i d).col < w) → (i : ℕ) → i < length ps
    → i ≤ place_of_position w (get_or ps i d)
rising w ps d order inside zero lt = omega arith
rising w ps d order inside (suc i) lt =
    let before = rising w ps d order inside i (omega (arith, lt)) in
    let step = place_lt w (get_or ps i d) (get_or ps (suc i) d) (inside i (omega (arith, lt)))
    (order i (suc i) d (omega arith) lt) in
    omega (arith, before, step)

number_low : (j : Joining) (m : Grid) (p : Position) (n : ℕ) → RowsFillRegion m.region m.rows → HasClumpNumber j m p n
    → n ≤ m.region.rows * m.region.cols
number_low j m p n filled h = by n h.count
  where
    d : Position
    d = position_at_row_and_column 0 0

    inside : (i : ℕ) → i < length h.firsts → IsInsideMap m (get_or h.firsts i d)
    inside i lt =
        let q : Position = get_or h.firsts i d in
        let first = ((h.up_to.exactly q).0 (Contains-get_or h.firsts i d lt)).0 in
        let v = some_of (cell_at_position m q) first.category in
        inside_map m q v.0 filled v.1

    by : (n : ℕ) → length h.firsts ≡ n → n ≤ m.region.rows * m.region.cols
    by zero e = omega arith
    by (suc k) e =
        let lt : k < length h.firsts = omega (arith, e) in
        let last = rising m.region.cols h.firsts d h.up_to.in_order (λ i less. (inside i less).1) k lt in
        let within = place_inside m (get_or h.firsts k d) (inside k lt) in
        omega (arith, last, within)

numbers_in : (j : Joining) (m made : Grid) → RowsFillRegion m.region m.rows → IsValidRegion m.region
    → RowsFillRegion made.region made.rows → IsClumpMapOf j m made → AllInRange made.rows
numbers_in j m made filled is made_filled clumping = cells-in made made_filled
    (λ r c high wide. by (position_at_row_and_column r c) (cell_at_position m (position_at_row_and_column r c)) refl)
  where
    by : (p : Position) (x : CellValue) → cell_at_position m p ≡ x → InRange (cell_at_position made p)
    by p None e = subst InRange (sym (clumping.nulls p e)) tt
    by p (Some v) e =
        let some : IsSome (cell_at_position m p) = rw e refl in
        let given = clumping.numbered p some in
        let low = number_low j m p given.0 filled given.1 in
        let most = is.cells_most in
        subst InRange (sym given.2) (number-in given.0 (omega (arith, low, most)))

-- ---- properties of each map

-- a map has the region, its rows and columns, and only categories in range
record IsSound (region : RegionValue) (m : Grid) : Type 0 where
  region_is : m.region ≡ region
  filled : RowsFillRegion m.region m.rows
  range : AllInRange m.rows

grids_sound : (region : RegionValue) (grids : List Named) (maps : List Grid) → AllDenote grids maps → All
    (λ m. m.region ≡ region) maps → All (IsSound region) maps
grids_sound region [] [] denote same = All-nil (IsSound region)
grids_sound region (g ∷ grids) (m ∷ maps) denote same =
    let h : SourceDenotesMap g.1 m = denote.0 in
    All-cons (IsSound region) m maps
    (record {
      region_is = All-head (λ m. m.region ≡ region) m maps same;
      filled = denoted-filled g.1 m h;
      range = denoted-in g.1 m h;
    })
    (grids_sound region grids maps denote.1 (All-tail (λ m. m.region ≡ region) m maps same))
grids_sound region _ _ denote same = absurd denote

grids_region : (region : RegionValue) (grids : List Named) (maps : List Grid) → 0 < length grids → AllDenote grids maps
    → All (λ m. m.region ≡ region) maps → IsValidRegion region
grids_region region [] maps some denote same = absurd (omega (arith, some))
grids_region region (g ∷ grids) [] some denote same = absurd denote
grids_region region (g ∷ grids) (m ∷ maps) some denote same =
    let h : SourceDenotesMap g.1 m = denote.0 in
    let here : h.said.region ≡ region = sym h.region ∙ All-head (λ m. m.region ≡ region) m maps same in
    subst IsValidRegion here (accepted-region h.said.region h.header.good)

-- ---- what a script asks for

abbrev IsGood : Command → Type 0
IsGood (Mapcalc target bound) = HasCategories bound
IsGood (Reclass place target given) = AreGoodRules given
IsGood _ = Unit {0}

mutual
  placed_categories : (names : List (List ℕ)) (e : Term) → IsGrammatical e → HasCategories (formula_of_term names e)
  placed_categories names (term.Number n) h = h
  placed_categories names (term.Map m down right) h = tt
  placed_categories names (term.Negated a) h = placed_categories names a h
  placed_categories names (term.Not a) h = placed_categories names a h
  placed_categories names (term.Binary op a b) h = (placed_categories names a h.0, placed_categories names b h.1)
  placed_categories names (term.Call f xs) h = all_categories names xs h.1

  all_categories : (names : List (List ℕ)) (xs : ArgumentTerms) → AreGrammatical xs
      → HaveCategories (with_leaves_all (place_of_map_name names) xs)
  all_categories names term.NoTrees h = tt
  all_categories names (term.Then a xs) h = (placed_categories names a h.0, all_categories names xs h.1)

-- the numbers in the text of an assignment are categories
assigned : (text : List ℕ) (a : Assignment) → IsAssignmentText text a → IsGrammatical a.expr
assigned text a is = by (token_list_of_text text) refl is
  where
    by : (r : Result (List TokenAtColumn) CalcFault) → token_list_of_text text ≡ r
        → IsOkAnd r (λ ts. AreTokensOfAssignment ts a)
        → IsGrammatical a.expr
    by (Err reported) e h = absurd h
    by (Ok ts) e (c, d, us, cut, stands) =
        let all = subst NumberTokensAreCategories cut (spelled_categories (are_spelled text ts e)) in
        expression_grammatical stands all.1.1

spelled_good : (known : List (List ℕ)) (line : List ℕ) (c : Command) → SpellsCommand known line c → IsGood c
spelled_good known line (Mapcalc target bound) h =
    subst HasCategories h.bound_is
    (placed_categories known h.assignment.expr (assigned (assignment_with_blanked_command line) h.assignment h.says))
spelled_good known line (Reclass place target given) h = absurd h
spelled_good known line _ h = tt

abbrev AreGood : List Statement → Type 0
AreGood [] = Unit {0}
AreGood (s ∷ ss) = IsGood s.command × AreGood ss

group_good : (known : List (List ℕ)) (lines : List ScriptLine) (statements : List Statement)
    → LinesFormStatements known lines statements
    → AreGood statements
group_good known _ _ scripts.none = tt
group_good known _ _ (scripts.skipped says more) = group_good known _ _ more
group_good known _ _ (scripts.command {line} {command = c} spells more) =
    (spelled_good known line.bytes c spells, group_good _ _ _ more)
group_good known _ _ (scripts.reclass {inner} {rules = given} last spells are end more) =
    (good_rules inner given are, group_good _ _ _ more)

script_good : (known : List (List ℕ)) (text : List ℕ) (statements : List Statement) → IsScript known text statements
    → AreGood statements
unfolding IsScript
script_good known text statements is = group_good known (numbered_lines 1 (script_lines text)) statements is.grouped

-- ---- the maps after statements

module _ (region : RegionValue) (is : IsValidRegion region) where
  record AreSound (shelf : ShelfValue) : Type 0 where
    region_is : shelf.region ≡ region
    maps : All (IsSound region) shelf.maps

  sound_there : (maps : List Grid) (place : ℕ) (m : Grid) → All (IsSound region) maps → slice_get maps place ≡ Some m
      → IsSound region m
  sound_there maps place m all there =
      subst (IsSound region) (get_or_from_slice_get maps place m m there)
      (All-get_or (IsSound region) maps place m (slice_get_within maps place m there) all)

  with_sound : (shelf : ShelfValue) (target : List ℕ) (made : Grid) → AreSound shelf → IsSound region made → AreSound
      (shelf_with_map_at_end shelf target made)
  with_sound shelf target made h k =
      record { region_is = h.region_is; maps = All-push (IsSound region) shelf.maps made h.maps k }

  values_sound : (bound : Formula) (shelf : ShelfValue) (made : Grid) → HasCategories bound → AreSound shelf
      → IsMapOfExpressionValues bound shelf made → IsSound region made
  values_sound bound shelf made good h k =
      let rows : made.region.rows ≡ shelf.region.rows = ap (λ (r : RegionValue). r.rows) k.region in
      let cols : made.region.cols ≡ shelf.region.cols = ap (λ (r : RegionValue). r.cols) k.region in
      let rows_are : shelf.region.rows ≡ region.rows = ap (λ (r : RegionValue). r.rows) h.region_is in
      let cols_are : shelf.region.cols ≡ region.cols = ap (λ (r : RegionValue). r.cols) h.region_is in
      let rows_most = is.rows_most in
      let cols_most = is.cols_most in
      let all : All (λ m. AllInRange m.rows) shelf.maps = All-weaker (IsSound region) (λ m. AllInRange m.rows)
      (λ m sound. sound.range) shelf.maps h.maps in
      record {
        region_is = k.region ∙ h.region_is;
        filled = k.filled;
        range = cells-in made k.filled (λ r c high wide.
            let here : IsPosition (grid_position shelf.region r c) = record {
              row = omega (arith, rows, high);
              col = omega (arith, cols, wide);
              rows = omega (arith, rows_are, rows_most);
              cols = omega (arith, cols_are, cols_most);
            } in
            subst InRange (sym (k.cells r c (omega (arith, rows, high)) (omega (arith, cols, wide))))
            (value_in shelf.maps all (grid_position shelf.region r c) here bound good));
      }

  reclassed_sound : (given : List RuleValue) (m : Grid) → AreGoodRules given → IsSound region m → IsSound region
      (reclassed_map given m)
  reclassed_sound given m good h = record {
    region_is = h.region_is;
    filled = classes_filled given m h.filled;
    range = classes_in given good m.rows h.range;
  }

  after_sound : (shelf : ShelfValue) (c : Command) (after : ShelfValue) → IsGood c → AreSound shelf
      → IsShelfAfterCommand shelf c after → AreSound after
  after_sound shelf (Mapcalc target bound) after good h step =
      subst AreSound (sym step.1.1) (with_sound shelf target step.0 h (values_sound bound shelf step.0 good h step.1.0))
  after_sound shelf (Reclass place target given) after good h step = by (slice_get shelf.maps place) refl step
    where
      by : (o : Option Grid) → slice_get shelf.maps place ≡ o → MapExistsAndSatisfiesRelation
          (λ m. after ≡ shelf_with_map_at_end shelf target (reclassed_map given m)) o → AreSound after
      by None there k = absurd k
      by (Some m) there k =
          subst AreSound (sym k) (with_sound shelf target (reclassed_map given m) h
          (reclassed_sound given m good (sound_there shelf.maps place m h.maps there)))
  after_sound shelf (Clump place target joining) after good h step =
      subst AreSound (sym step.1.1) (with_sound shelf target step.0 h (by (slice_get shelf.maps place) refl step.1.0))
    where
      by : (o : Option Grid) → slice_get shelf.maps place ≡ o
          → MapExistsAndSatisfiesRelation (λ m. IsMapOfClumpNumbers joining m step.0) o
          → IsSound region step.0
      by None there k = absurd k
      by (Some m) there k =
          let sound = sound_there shelf.maps place m h.maps there in
          record {
            region_is = k.clumping.region ∙ sound.region_is;
            filled = k.filled;
            range = numbers_in joining m step.0 sound.filled
                (subst IsValidRegion (sym sound.region_is) is) k.filled k.clumping;
          }
  after_sound shelf (Stats places options) after good h step = subst AreSound (sym step) h
  after_sound shelf (OutAscii place null_text) after good h step = subst AreSound (sym step) h

  executes_sound : (statements : List Statement) (shelf after : ShelfValue) (text : List ℕ) → AreGood statements
      → AreSound shelf → StatementsWriteTextAndLeaveShelf shelf statements text after → AreSound after
  executes_sound [] shelf after text good h done = subst AreSound (sym done.1) h
  executes_sound (s ∷ ss) shelf after text good h (next, (rest, (step, (others, same)))) =
      executes_sound ss next after rest good.1 (after_sound shelf s.command next good.0 h step) others

-- ---- the maps can be written

sound_writable : (region : RegionValue) → IsValidRegion region → (null_text : List ℕ)
    → whole_number_of_text null_text ≡ None →
    (m : Grid) → IsSound region m → IsWritableMap null_text m
sound_writable region is null_text no_number m h = record {
  region = subst IsValidRegion (sym h.region_is) is;
  filled = h.filled;
  range = h.range;
  apart = all-apart null_text no_number m.rows h.range;
}

pub run_maps_are_writable : RunMapsAreWritable
run_maps_are_writable grids script shelf after statements text accepted done null_text no_number =
    let are = accepted.loaded in
    let is = grids_region shelf.region grids shelf.maps are.some are.denote are.one_region in
    let before : AreSound shelf.region is shelf =
    record { region_is = refl; maps = grids_sound shelf.region grids shelf.maps are.denote are.one_region } in
    let sound = executes_sound shelf.region is statements shelf after text
    (script_good shelf.names script.bytes statements accepted.denoted) before done in
    All-weaker (IsSound shelf.region) (IsWritableMap null_text)
    (sound_writable shelf.region is null_text no_number) after.maps sound.maps
