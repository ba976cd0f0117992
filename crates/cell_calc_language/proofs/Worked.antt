-- Worked rows, computed with the definition of an expression's value.
use Rattle.std.proofs.Common.{◌≡◌, pos, negsuc, [], Some, None, refl}
use Rattle.cell_core.specs.Grid.{CellValue}
use Rattle.cell_calc_grammar.specs.declared.function.Function.TheVariants as function
use Rattle.cell_calc_grammar.specs.declared.operator.Operator.TheVariants as operator
use Rattle.cell_calc_language.specs.Formula.{Formula, Number, Negated, Binary, Call, NoTrees, Then}
use Rattle.cell_calc_language.specs.Value.{value}

abbrev computed : Formula → CellValue
computed f = value f [] (record { rows = 3; cols = 4; row = 1; col = 2 })

abbrev null : Formula
null = Call function.Null NoTrees

sum_out_of_range : computed (Binary operator.Plus (Number 2147483647) (Number 1)) ≡ None
sum_out_of_range = refl

division_towards_zero : computed (Binary operator.Divide (Number 7) (Negated (Number 2))) ≡ Some (negsuc 2)
division_towards_zero = refl

sign_of_dividend : computed (Binary operator.Modulo (Negated (Number 7)) (Number 3)) ≡ Some (negsuc 0)
sign_of_dividend = refl

modulus_by_zero : computed (Binary operator.Modulo (Number 5) (Number 0)) ≡ None
modulus_by_zero = refl

greatest_with_null : computed (Call function.Max (Then (Number 3) (Then null NoTrees))) ≡ None
greatest_with_null = refl

mode_in_a_tie : computed (Call function.Mode (Then (Number 2) (Then (Number 1) (Then (Number 2) (Then (Number 1) NoTrees))))) ≡ Some (pos 1)
mode_in_a_tie = refl

branch_not_taken : computed (Call function.If (Then (Number 0) (Then null (Then (Number 4) NoTrees)))) ≡ Some (pos 4)
branch_not_taken = refl

zero_and_null : computed (Binary operator.KnownAnd (Number 0) null) ≡ Some (pos 0)
zero_and_null = refl

null_or_five : computed (Binary operator.KnownOr null (Number 5)) ≡ Some (pos 1)
null_or_five = refl

write_least_non_null_arguments : computed (Call function.KnownMin (Then null (Then (Number 2) NoTrees))) ≡ Some (pos 2)
write_least_non_null_arguments = refl

known_mode_of_none : computed (Call function.KnownMode (Then null (Then null NoTrees))) ≡ None
known_mode_of_none = refl

numbers_of_a_cell : computed (Binary operator.Plus (Binary operator.Times (Call function.Row NoTrees) (Number 10)) (Call function.Column NoTrees)) ≡ Some (pos 23)
numbers_of_a_cell = refl
