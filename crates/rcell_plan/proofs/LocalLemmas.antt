-- The value of a local expression depends only on the combination of the maps that it reads.
use Rattle.std.proofs.Common.{zero, suc, ◌+◌, ◌+ℤ◌, get_or, cond, eqb, refl, ap, sym, ◌∙◌, arith, add-zero, inl, inr}
use Rattle.std.specs.Prelude.{◌≡◌, ℕ, ℤ, pos, ◌⊎◌, List, [], ◌∷◌, Option, Some, None, Bool, true, false}
use Rattle.std.specs.List.{Contains, slice_get}
use Rattle.std.specs.Option.{option_map_or}
use Rattle.std.proofs.lemmas.Bool.{eqb-true, eq-eqb}
use Rattle.cell_core.specs.Grid.{Grid, CellValue, cell_at}
use Rattle.cell_calc_grammar.specs.declared.function.Function.{Function}
use Rattle.cell_calc_grammar.specs.declared.function.Function.TheVariants as function
use Rattle.cell_calc_language.specs.Applied.{PositionAndGridSize, negated_cell, logical_negation_of_cell}
use Rattle.cell_calc_language.specs.Applied.{operator_value, call_result}
use Rattle.cell_calc_language.specs.Offsets.{cell_of_optional_map}
use Rattle.cell_calc_language.specs.Compact.{ReadsMap, AreReading}
use Rattle.cell_calc_language.specs.Formula as formula
use Rattle.cell_calc_language.specs.Formula.{Formula, Map, ArgumentFormulas}
use Rattle.cell_calc_language.specs.Value.{value, argument_values}
use Rattle.cell_stats_combinations.specs.Combinations.{Combination, cell_of_map_at_place, combination_at_row_and_column}
use Rattle.rcell_plan.specs.LocalLaw.{is_position_function, IsLocal, AreLocal, SameCombinationGivesSameValue}
use Rattle.rcell_plan.specs.LocalLaw.{CombinationDeterminesValue}

-- ---- a map at the cell itself

here : (o : Option Grid) (row col : ℕ)
    → cell_of_optional_map o (pos row +ℤ pos 0) (pos col +ℤ pos 0) ≡ option_map_or (λ m. cell_at m row col) o None
here None row col = refl
here (Some m) row col =
    ap (λ n. get_or (get_or m.rows n []) (col + 0) None) (add-zero row)
    ∙ ap (λ n. get_or (get_or m.rows row []) n None) (add-zero col)

pub value-here : (maps : List Grid) (place : ℕ) (down right : ℤ) (s : PositionAndGridSize) → down ≡ pos 0
    → right ≡ pos 0
    → value (Map place down right) maps s ≡ cell_of_map_at_place maps s.row s.col place
value-here maps place down right s no_rows no_cols =
    ap (λ z. cell_of_optional_map (slice_get maps place) (pos s.row +ℤ z) (pos s.col +ℤ right)) no_rows
    ∙ ap (λ z. cell_of_optional_map (slice_get maps place) (pos s.row +ℤ pos 0) (pos s.col +ℤ z)) no_cols
    ∙ here (slice_get maps place) s.row s.col

-- ---- the cell of a place in a combination

abbrev picked : List ℕ → Combination → ℕ → CellValue
picked (p ∷ picks) (c ∷ k) place = cond (eqb p place) c (picked picks k place)
picked _ _ place = None

contains-rest : (p place : ℕ) (picks : List ℕ) → Contains (p ∷ picks) place → (p ≡ place) ⊎ Contains picks place
contains-rest p place picks (zero, within, is) = inl is
contains-rest p place picks (suc i, within, is) = inr (i, omega (arith, within), is)

picked-cell : (c d e : CellValue) (b : Bool) → (b ≡ true → c ≡ e) → d ≡ e → cond b c d ≡ e
picked-cell c d e true one other = one refl
picked-cell c d e false one other = other

picked-first : (p place : ℕ) (c d e : CellValue) → p ≡ place → c ≡ e → cond (eqb p place) c d ≡ e
picked-first p place c d e same is = ap (λ b. cond b c d) (eq-eqb p place same) ∙ is

abbrev IsPicked : List Grid → (row col place : ℕ) → List ℕ → Type 0
IsPicked maps row col place picks =
    picked picks (combination_at_row_and_column maps picks row col) place ≡ cell_of_map_at_place maps row col place

picked-is : (maps : List Grid) (row col place : ℕ) (picks : List ℕ) → Contains picks place
    → picked picks (combination_at_row_and_column maps picks row col) place ≡ cell_of_map_at_place maps row col place
picked-is maps row col place [] c = absurd (omega (arith, c.1))
picked-is maps row col place (p ∷ picks) c =
    first_or_other (contains-rest p place picks c) (picked-is maps row col place picks)
  where
    first_or_other : (p ≡ place) ⊎ Contains picks place
        → (Contains picks place → IsPicked maps row col place picks)
        → picked (p ∷ picks) (combination_at_row_and_column maps (p ∷ picks) row col) place
        ≡ cell_of_map_at_place maps row col place
    first_or_other (inl same) rest = picked-first p place _ _ _ same (ap (cell_of_map_at_place maps row col) same)
    first_or_other (inr other) rest =
        let same = λ (e : eqb p place ≡ true). ap (cell_of_map_at_place maps row col) (eqb-true p place e) in
        picked-cell (cell_of_map_at_place maps row col p) _ _ (eqb p place) same (rest other)

-- ---- the value

nowhere : PositionAndGridSize
nowhere = record { rows = 0; cols = 0; row = 0; col = 0 }

abbrev mutual
  given_by : Formula → List ℕ → Combination → CellValue
  given_by (formula.Number n) picks k = Some (pos n)
  given_by (Map i down right) picks k = picked picks k i
  given_by (formula.Negated a) picks k = negated_cell (given_by a picks k)
  given_by (formula.Not a) picks k = logical_negation_of_cell (given_by a picks k)
  given_by (formula.Binary op a b) picks k = operator_value op (given_by a picks k) (given_by b picks k)
  given_by (formula.Call f xs) picks k = call_result f nowhere (all_given xs picks k)

  all_given : ArgumentFormulas → List ℕ → Combination → List CellValue
  all_given formula.NoTrees picks k = []
  all_given (formula.Then a xs) picks k = given_by a picks k ∷ all_given xs picks k

-- a function that does not ask for its row or column has the same result at any two positions
call-anywhere : (f : Function) (s t : PositionAndGridSize) (xs : List CellValue) → is_position_function f ≡ false
    → call_result f s xs ≡ call_result f t xs
call-anywhere function.Row s t xs e = cc
call-anywhere _ s t xs e = cc

module _ (picks : List ℕ) (maps : List Grid) (s : PositionAndGridSize) where
  abbrev k : Combination
  k = combination_at_row_and_column maps picks s.row s.col

  mutual
    goes : (f : Formula) → IsLocal f → ((place : ℕ) → ReadsMap place f → Contains picks place)
        → value f maps s ≡ given_by f picks k
    goes (formula.Number n) local reads = refl
    goes (Map i down right) local reads =
        value-here maps i down right s local.0 local.1 ∙ sym (picked-is maps s.row s.col i picks (reads i refl))
    goes (formula.Negated a) local reads = ap negated_cell (goes a local reads)
    goes (formula.Not a) local reads = ap logical_negation_of_cell (goes a local reads)
    goes (formula.Binary op a b) local reads =
        ap (λ x. operator_value op x (value b maps s)) (goes a local.0 (λ place h. reads place (inl h)))
        ∙ ap (λ y. operator_value op (given_by a picks k) y) (goes b local.1 (λ place h. reads place (inr h)))
    goes (formula.Call f xs) local reads =
        ap (call_result f s) (all-go xs local.1 reads) ∙ call-anywhere f s nowhere (all_given xs picks k) local.0

    all-go : (xs : ArgumentFormulas) → AreLocal xs → ((place : ℕ) → AreReading place xs → Contains picks place)
        → argument_values xs maps s ≡ all_given xs picks k
    all-go formula.NoTrees local reads = refl
    all-go (formula.Then a xs) local reads =
        ap (λ (x : CellValue). x ∷ argument_values xs maps s) (goes a local.0 (λ place h. reads place (inl h)))
        ∙ ap (λ (l : List CellValue). given_by a picks k ∷ l) (all-go xs local.1 (λ place h. reads place (inr h)))

pub local-goes-by-combinations : CombinationDeterminesValue
local-goes-by-combinations f picks local reads = (given_by f picks, λ maps s. goes picks maps s f local reads)

pub one-value-a-combination : SameCombinationGivesSameValue
one-value-a-combination f picks local reads maps s t same =
    goes picks maps s f local reads ∙ ap (given_by f picks) same ∙ sym (goes picks maps t f local reads)
