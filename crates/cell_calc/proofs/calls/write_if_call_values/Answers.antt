use Rattle.std.proofs.Common.{◌≡◌, ◌<◌, ◌≤◌, ◌+◌, ℕ, List, [], ◌∷◌, length, map, get_or, sym, ap, ◌∙◌, arith, Some, pos}
use Rattle.cell_core.specs.Grid.{CellValue}
use Rattle.cell_calc_language.specs.CellOperators.{cell_chosen_by_condition, if_call_value}
use Rattle.cell_calc.specs.RowValues.{at, cells_at_column}
use Rattle.cell_calc_modes.proofs.Columns.{item_width}
use Rattle.cell_calc.proofs.calls.write_if_call_values.Goals as goal

-- an index with further items after it is in range
within : (i more n : ℕ) → i + 1 + more ≤ n → i < n
within i more n le = omega arith

-- a column within a row is within each row of the same length
below_same : (k : ℕ) (new old : List CellValue) → length new ≡ length old → k < length old → k < length new
below_same k new old e lt = rw e lt

module _ {V : Type 0} (f : V → List CellValue) (k : ℕ) where
  only : (xs : List V) (x : V) → 1 ≤ length xs → length xs < 2 → x ≡ get_or xs 0 x
      → cells_at_column k (map f xs) ≡ at (f x) k ∷ []
  only (v ∷ []) x some few is = ap (λ o. at (f o) k ∷ []) (sym is)
  only _ x some few is = absurd (let no : ⊥ = omega arith in no)

  both : (xs : List V) (x a : V) → 2 ≤ length xs → length xs < 3 → x ≡ get_or xs 0 x → a ≡ get_or xs 1 a
      → cells_at_column k (map f xs) ≡ at (f x) k ∷ at (f a) k ∷ []
  both (v ∷ w ∷ []) x a some few is_x is_a =
      ap (λ o. at (f o) k ∷ at (f w) k ∷ []) (sym is_x) ∙ ap (λ o. at (f x) k ∷ at (f o) k ∷ []) (sym is_a)
  both _ x a some few is_x is_a = absurd (let no : ⊥ = omega arith in no)

  three : (xs : List V) (x a b : V) → 3 ≤ length xs → length xs < 4 → x ≡ get_or xs 0 x → a ≡ get_or xs 1 a
      → b ≡ get_or xs 2 b → cells_at_column k (map f xs) ≡ at (f x) k ∷ at (f a) k ∷ at (f b) k ∷ []
  three (v ∷ w ∷ u ∷ []) x a b some few is_x is_a is_b =
      ap (λ o. at (f o) k ∷ at (f w) k ∷ at (f u) k ∷ []) (sym is_x)
      ∙ ap (λ o. at (f x) k ∷ at (f o) k ∷ at (f u) k ∷ []) (sym is_a)
      ∙ ap (λ o. at (f x) k ∷ at (f a) k ∷ at (f o) k ∷ []) (sym is_b)
  three _ x a b some few is_x is_a is_b = absurd (let no : ⊥ = omega arith in no)

pub copy_from_slice-requires : goal.copy_from_slice-requires
copy_from_slice-requires c =
    let args = c.args.arguments.now in
    sym (item_width (λ v. v.items) args _ 0 c.x-item.result c.as_slice.result.now c.requires
    (within 0 0 (length args) c.in-len1.len_at_least) c.x-item.is c.as_slice.ensures.value)

pub returns-in-len1 : goal.returns-in-len1
returns-in-len1 c =
    let row = c.copy_from_slice.ensures.after ∙ c.as_slice.ensures.value in
    λ k h. c.replace_nonzero_cells_by_one.ensures k
    (below_same k c.copy_from_slice.new.self c.args.row.now c.copy_from_slice.ensures.len h)
    ∙ ap (λ l. cell_chosen_by_condition (at l k) (Some (pos 1)) (Some (pos 0))) row
    ∙ sym (ap if_call_value (only (λ v. v.items) k c.args.arguments.now c.x-item.result
    c.in-len1.len_at_least c.in-len1.len_below c.x-item.is))

pub copy_from_slice-requires-in-len2 : goal.copy_from_slice-requires-in-len2
copy_from_slice-requires-in-len2 c =
    let args = c.args.arguments.now in
    sym (item_width (λ v. v.items) args _ 0 c.x-item-then-arguments-lt3.result c.as_slice-in-len2.result.now c.requires
    (within 0 1 (length args) c.in-len2.len_at_least) c.x-item-then-arguments-lt3.is c.as_slice-in-len2.ensures.value)

pub choose_other_cells_or_zero-requires : goal.choose_other_cells_or_zero-requires
choose_other_cells_or_zero-requires c =
    let args = c.args.arguments.now in
    record {
      width = item_width (λ v. v.items) args _ 1 c.a-item.result c.as_slice-in-len2-2.result.now c.requires
          (within 1 0 (length args) c.in-len2.len_at_least) c.a-item.is c.as_slice-in-len2-2.ensures.value
          ∙ sym c.copy_from_slice-in-len2.ensures.len;
    }

pub returns-in-len2 : goal.returns-in-len2
returns-in-len2 c =
    let x = c.copy_from_slice-in-len2.ensures.after ∙ c.as_slice-in-len2.ensures.value in
    let all = λ (k : ℕ). both (λ v. v.items) k c.args.arguments.now c.x-item-then-arguments-lt3.result c.a-item.result
    c.in-len2.len_at_least c.in-len2.len_below c.x-item-then-arguments-lt3.is c.a-item.is in
    λ k h. c.choose_other_cells_or_zero.ensures k
    (below_same k c.copy_from_slice-in-len2.new.self c.args.row.now c.copy_from_slice-in-len2.ensures.len h)
    ∙ ap (λ l. cell_chosen_by_condition (at l k) (at c.as_slice-in-len2-2.result.now k) (Some (pos 0))) x
    ∙ ap (λ l. cell_chosen_by_condition (at c.x-item-then-arguments-lt3.result.items k) (at l k) (Some (pos 0)))
    c.as_slice-in-len2-2.ensures.value
    ∙ sym (ap if_call_value (all k))

pub copy_from_slice-requires-in-len3 : goal.copy_from_slice-requires-in-len3
copy_from_slice-requires-in-len3 c =
    let args = c.args.arguments.now in
    sym (item_width (λ v. v.items) args _ 2 c.b-item.result c.as_slice-in-len3.result.now c.requires
    (within 2 0 (length args) c.in-len3.len_at_least) c.b-item.is c.as_slice-in-len3.ensures.value)

pub replace_cells_where_true-requires-clause-width_conditions :
    goal.replace_cells_where_true-requires-clause-width_conditions
replace_cells_where_true-requires-clause-width_conditions c =
    let args = c.args.arguments.now in
    item_width (λ v. v.items) args _ 0 c.x-item-then-arguments-lt4.result c.as_slice-in-len3-2.result.now c.requires
    (within 0 2 (length args) c.in-len3.len_at_least) c.x-item-then-arguments-lt4.is c.as_slice-in-len3-2.ensures.value
    ∙ sym c.copy_from_slice-in-len3.ensures.len

pub replace_cells_where_true-requires-clause-width_yes : goal.replace_cells_where_true-requires-clause-width_yes
replace_cells_where_true-requires-clause-width_yes c =
    let args = c.args.arguments.now in
    item_width (λ v. v.items) args _ 1 c.a-item-then-arguments-lt4.result c.as_slice-in-len3-3.result.now c.requires
    (within 1 1 (length args) c.in-len3.len_at_least) c.a-item-then-arguments-lt4.is c.as_slice-in-len3-3.ensures.value
    ∙ sym c.copy_from_slice-in-len3.ensures.len

pub returns-in-len3 : goal.returns-in-len3
returns-in-len3 c =
    let x = c.x-item-then-arguments-lt4 in
    let a = c.a-item-then-arguments-lt4 in
    let old = c.copy_from_slice-in-len3.new.self in
    let row = c.copy_from_slice-in-len3.ensures.after ∙ c.as_slice-in-len3.ensures.value in
    λ k h. c.replace_cells_where_true.ensures k
    (below_same k c.copy_from_slice-in-len3.new.self c.args.row.now c.copy_from_slice-in-len3.ensures.len h)
    ∙ ap (λ l. cell_chosen_by_condition (at l k) (at c.as_slice-in-len3-3.result.now k)
    (at old k)) c.as_slice-in-len3-2.ensures.value
    ∙ ap (λ l. cell_chosen_by_condition (at x.result.items k) (at l k) (at old k)) c.as_slice-in-len3-3.ensures.value
    ∙ ap (λ l. cell_chosen_by_condition (at x.result.items k) (at a.result.items k) (at l k)) row
    ∙ sym (ap if_call_value (three (λ v. v.items) k c.args.arguments.now x.result a.result c.b-item.result
    c.in-len3.len_at_least c.in-len3.len_below x.is a.is c.b-item.is))
