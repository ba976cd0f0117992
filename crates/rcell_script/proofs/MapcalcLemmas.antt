-- The reading of the line of an r.mapcalc.
use Rattle.std.proofs.Common.{◌≡◌, ◌≢◌, ℕ, ◌+◌, ◌≤◌, List, length, Option, Some, None, Result, Err, inl, inr, refl, ap, sym, subst, arith}
use Rattle.std.specs.Option.{unwrap_or}
use Rattle.cell_core_values.specs.Name.{place_of_name}
use Rattle.cell_calc_language.specs.Binding.{place_of_map_name, formula_of_term, IsBindingFault}
use Rattle.cell_calc_language.specs.Formula.{Formula}
use Rattle.cell_calc_language.specs.Reach.{map_place_limit_of_formula, map_place_limit_of_formulas}
use Rattle.cell_calc_grammar.specs.Tree.{fold_all, with_leaves_all}
use Rattle.cell_calc_grammar.specs.Term.{Term, Number, Map, Negated, Not, Binary, Call, ArgumentTerms, NoTrees, Then}
use Rattle.cell_calc_language.specs.Unknown.{first_or_second_column, column_of_name_without_place, unknown_map_column}
use Rattle.cell_calc_language.specs.Unknown.{first_unknown}
use Rattle.rcell_script.proofs.LookupLemmas.{place_of-within}
use Rattle.cell_calc_language.specs.Assignment.{IsAssignmentText}
use Rattle.cell_calc_language.specs.GrammarFault.{IsFaultOfAssignmentText}
use Rattle.cell_calc_language.specs.declared.assignment.Assignment.{Assignment}
use Rattle.cell_calc_grammar.specs.declared.calc_fault.CalcFault.{CalcFault}
use Rattle.cell_calc_grammar.specs.declared.calc_fault.CalcKind.TheVariants as calc
use Rattle.rcell_script.specs.Commands.{mapcalc_command, IsMapcalcLineMeaning}
use Rattle.rcell_script.specs.RMapcalc.{assignment_with_blanked_command}
use Rattle.rcell_script.specs.declared.script_fault.ScriptKind.{ScriptKind}
use Rattle.rcell_script.specs.declared.script_fault.ScriptKind.TheVariants.{Calc}
use Rattle.rcell_script.specs.declared.heads.ScriptLineMeaning.{ScriptLineMeaning}

-- the text is an assignment, which gives the reading of the line
pub assigned : (known : List (List ℕ)) (line text : List ℕ) (a : Assignment) (head : Result ScriptLineMeaning ScriptKind) → text ≡ assignment_with_blanked_command line → IsAssignmentText text a → mapcalc_command known a ≡ head → IsMapcalcLineMeaning known line head
assigned known line text a head e is of = inl (a, subst (λ t. IsAssignmentText t a) e is, of)

-- the text has an error, which is the error of the line
pub unassigned : (known : List (List ℕ)) (line text : List ℕ) (fault : CalcFault) → text ≡ assignment_with_blanked_command line → IsFaultOfAssignmentText text fault → fault.kind ≢ calc.Memory → IsMapcalcLineMeaning known line (Err (Calc fault))
unassigned known line text fault e is memory = inr (
  fault,
  subst
      (λ t. IsFaultOfAssignmentText t fault) e is,
  memory,
  refl,
)

-- the error of the first unknown map is the error of the line
pub unbound : (known : List (List ℕ)) (a : Assignment) (fault : CalcFault) → IsBindingFault known a.expr fault → fault.kind ≢ calc.Memory → mapcalc_command known a ≡ Err (Calc fault)
unbound known a fault (inl memory) other = absurd (other (ap (λ (f : CalcFault). f.kind) memory))
unbound known a fault (inr (kind, unknown)) other = rw unknown (ap (λ k. Err (Calc (record { kind = k; column = fault.column }))) (sym kind))

neither : (x y : Option ℕ) → first_or_second_column x y ≡ None → (x ≡ None) × (y ≡ None)
neither None y e = (refl, e)
neither (Some c) y e = cc

placed-within : (names : List (List ℕ)) (name : List ℕ) (c : ℕ) (o : Option ℕ) → place_of_name name names ≡ o → column_of_name_without_place o c ≡ None → unwrap_or o 0 + 1 ≤ length names
placed-within names name c None p e = cc
placed-within names name c (Some i) p e = omega (arith, place_of-within name names i p)

mutual
  -- each place is within the list of names
  pub top-placed : (names : List (List ℕ)) (e : Term) → first_unknown names e ≡ None → map_place_limit_of_formula (formula_of_term names e) ≤ length names
  top-placed names (Number n) h = omega arith
  top-placed names (Map m down right) h = placed-within names m.name m.column (place_of_name m.name names) refl h
  top-placed names (Negated a) h = top-placed names a h
  top-placed names (Not a) h = top-placed names a h
  top-placed names (Binary op a b) h =
      let both = neither (first_unknown names a) (first_unknown names b) h in
      omega (arith, top-placed names a both.0, top-placed names b both.1)
  top-placed names (Call f xs) h = top-placed_all names xs h

  top-placed_all : (names : List (List ℕ)) (es : ArgumentTerms) → fold_all (unknown_map_column names) None first_or_second_column es ≡ None → map_place_limit_of_formulas (with_leaves_all (place_of_map_name names) es) ≤ length names
  top-placed_all names NoTrees h = omega arith
  top-placed_all names (Then a xs) h =
      let both = neither (first_unknown names a) (fold_all (unknown_map_column names) None first_or_second_column xs)
      h in
      omega (arith, top-placed names a both.0, top-placed_all names xs both.1)

-- the map of an assignment reads only known maps
pub fits_known : (names : List (List ℕ)) (e : Term) (bound : Formula) → bound ≡ formula_of_term names e → first_unknown names e ≡ None → map_place_limit_of_formula bound ≤ length names
fits_known names e bound is h = subst (λ f. map_place_limit_of_formula f ≤ length names) (sym is) (top-placed names e h)
