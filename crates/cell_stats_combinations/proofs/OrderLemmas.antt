-- The order of combinations.
use Rattle.std.proofs.Common.{◌≡◌, Some, None, true, refl, ap}
use Rattle.std.specs.Ordering.{is_eq}
use Rattle.std.specs.declared.cmp.Ordering.{Ordering}
use Rattle.std.specs.declared.cmp.Ordering.TheVariants.{Less, Equal, Greater}
use Rattle.std.specs.Cmp.{eq_by_cmp_equiv}
use Rattle.std.specs.FinMap.{IsAntisymmetric, int_cmp-IsAntisymmetric, slice_cmp-IsAntisymmetric}
use Rattle.cell_core_values.specs.Cell.{compare_cells_null_last}
use Rattle.cell_stats_combinations.specs.Combinations.{Combination, combination_cmp, combination_cmp_total}
use Rattle.cell_stats_combinations.specs.parts.Same.{are_same_combination}

compare_cells_null_last-exact : IsAntisymmetric compare_cells_null_last
compare_cells_null_last-exact None None e = refl
compare_cells_null_last-exact None (Some y) e = cc
compare_cells_null_last-exact (Some x) None e = cc
compare_cells_null_last-exact (Some x) (Some y) e = ap Some (int_cmp-IsAntisymmetric x y e)

pub combination_cmp-exact : IsAntisymmetric combination_cmp
combination_cmp-exact = slice_cmp-IsAntisymmetric compare_cells_null_last-exact

pub is_equal : (o : Ordering) → is_eq o ≡ true → o ≡ Equal
is_equal Less e = cc
is_equal Equal e = refl
is_equal Greater e = cc

pub same-itself : (a : Combination) → are_same_combination a a ≡ true
same-itself a = (eq_by_cmp_equiv combination_cmp_total).refl a

pub same-is : (a b : Combination) → are_same_combination a b ≡ true → a ≡ b
same-is a b e = combination_cmp-exact a b (is_equal _ e)
