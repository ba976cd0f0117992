-- The first unknown name of an expression, found from its steps.
use Rattle.std.proofs.Common.{◌≡◌, ℕ, List, Option, Some, None, refl}
use Rattle.cell_calc_grammar.specs.Term.{Term}
use Rattle.cell_calc_grammar.specs.Postfix.{postfix, fold_maps_of_steps}
use Rattle.cell_calc_language.specs.Unknown.{first_or_second_column, first_unknown, unknown_map_column}
use Rattle.cell_calc_grammar.proofs.PostfixLemmas.{IsJoin, fold-postfix}

first_of_three : (a b c : Option ℕ) → first_or_second_column a (first_or_second_column b c)
    ≡ first_or_second_column (first_or_second_column a b) c
first_of_three None b c = refl
first_of_three (Some n) b c = refl

first_of_none : (a : Option ℕ) → first_or_second_column a None ≡ a
first_of_none None = refl
first_of_none (Some n) = refl

pub unplaced_is_unknown : (names : List (List ℕ)) (a : Term) → fold_maps_of_steps (unknown_map_column names) None first_or_second_column (postfix a) ≡ first_unknown names a
unplaced_is_unknown names a =
    let is : IsJoin (Option ℕ) None first_or_second_column = record { left = λ a. refl; right = first_of_none; both = first_of_three } in
    fold-postfix (unknown_map_column names) None first_or_second_column is a
