-- The combinations of a rectangle.
use Rattle.std.proofs.Common.{◌≡◌, ℕ, zero, suc, ◌+◌, ◌<◌, List, [], ◌∷◌, ◌++◌, map, refl, ap, sym, ◌∙◌, arith, zero-add, add-zero}
use Rattle.std.specs.List.{range_with_len, flat_map}
use Rattle.cell_core.specs.Grid.{Grid, CellValue}
use Rattle.cell_stats_combinations.specs.Combinations.{Combination, cell_of_map_at_place, combination_at_row_and_column, row_combinations, all_combinations}
use Rattle.cell_join_numbers.specs.Parts.{MapsAreTileOfFullMaps}

map-shifted : {X : Type 0} (f g : ℕ → X) (a b n : ℕ) → ((i : ℕ) → i < n → f (a + i) ≡ g (b + i)) → map f (range_with_len a n) ≡ map g (range_with_len b n)
map-shifted f g a b zero same = refl
map-shifted f g a b (suc n) same =
    let here : f a ≡ g b = ap f (sym (add-zero a)) ∙ same 0 (omega arith) ∙ ap g (add-zero b) in
    let others = map-shifted f g (a + 1) (b + 1) n (λ i h.
    let left : a + 1 + i ≡ a + suc i = omega arith in
    let right : b + suc i ≡ b + 1 + i = omega arith in
    ap f left ∙ same (suc i) (omega (arith, h)) ∙ ap g right) in
    ap (λ x. x ∷ map f (range_with_len (a + 1) n)) here ∙ ap (λ l. g b ∷ l) others

flat_map-shifted : {X : Type 0} (f g : ℕ → List X) (a b n : ℕ) → ((i : ℕ) → i < n → f (a + i) ≡ g (b + i)) → flat_map f (range_with_len a n) ≡ flat_map g (range_with_len b n)
flat_map-shifted f g a b zero same = refl
flat_map-shifted f g a b (suc n) same =
    let here : f a ≡ g b = ap f (sym (add-zero a)) ∙ same 0 (omega arith) ∙ ap g (add-zero b) in
    let others = flat_map-shifted f g (a + 1) (b + 1) n (λ i h.
    let left : a + 1 + i ≡ a + suc i = omega arith in
    let right : b + suc i ≡ b + 1 + i = omega arith in
    ap f left ∙ same (suc i) (omega (arith, h)) ∙ ap g right) in
    ap (λ x. x ++ flat_map f (range_with_len (a + 1) n)) here ∙ ap (λ l. g b ++ l) others

-- the combinations in a rectangle of the full maps
abbrev pub block : (whole : List Grid) (picks : List ℕ) (top rows left cols : ℕ) → List Combination
block whole picks top rows left cols = flat_map (λ row. map (combination_at_row_and_column whole picks row) (range_with_len left cols)) (range_with_len top rows)

combination-same : (whole part : List Grid) (r s c d : ℕ) → ((place : ℕ) → cell_of_map_at_place part r c place ≡ cell_of_map_at_place whole s d place) → (picks : List ℕ) → combination_at_row_and_column part picks r c ≡ combination_at_row_and_column whole picks s d
combination-same whole part r s c d same [] = refl
combination-same whole part r s c d same (p ∷ picks) =
    ap (λ (x : CellValue). x ∷ combination_at_row_and_column part picks r c) (same p) ∙ ap (λ (l : Combination). cell_of_map_at_place whole s d p ∷ l) (combination-same whole part r s c d same picks)

-- the combinations of a part are the combinations in its rectangle
pub part-block : (top left rows cols : ℕ) (whole part : List Grid) → MapsAreTileOfFullMaps (record { top = top; left = left; rows = rows; cols = cols }) whole part → (picks : List ℕ) → all_combinations part picks rows cols ≡ block whole picks top rows left cols
part-block top left rows cols whole part is picks =
    flat_map-shifted (row_combinations part picks cols) (λ row. map (combination_at_row_and_column whole picks row) (range_with_len left cols)) 0 top rows (λ row h.
    ap (row_combinations part picks cols) (zero-add row)
    ∙ map-shifted (combination_at_row_and_column part picks row) (combination_at_row_and_column whole picks
    (top + row)) 0 left cols (λ col k.
    ap (combination_at_row_and_column part picks row) (zero-add col)
    ∙ combination-same whole part row (top + row) col (left + col) (λ place. is row col place h k) picks))
