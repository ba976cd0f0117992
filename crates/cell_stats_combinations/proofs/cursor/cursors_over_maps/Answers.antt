use Rattle.std.proofs.Common.{◌≡◌, ◌<◌, ◌≤◌, ◌-◌, ◌∙◌, ℕ, List, Vec, Global, Result, Ok, Err, length, map, ap, sym, arith}
use Rattle.std.specs.Prelude.{IfOk}
use Rattle.std.proofs.lemmas.List.{length-map}
use Rattle.cell_core_values.specs.Region.{RegionValue}
use Rattle.cell_stats_combinations.specs.Cursors.{to_come, row_of_map_at_place}
use Rattle.cell_stats_combinations.proofs.cursor.cursors_over_maps.Goals as goal

some_rows : {rows row : ℕ} → 1 ≤ rows → row ≡ rows → 1 ≤ row
some_rows some same = omega arith

last_row : {row rows all : ℕ} → 1 ≤ rows → row ≡ rows → rows ≡ all → row - 1 < all
last_row some same is = omega arith

-- two lists that map to the same list have the same length
same_length : {X Y Z : Type 0} (f : X → Z) (g : Y → Z) (xs : List X) (ys : List Y) → map f xs ≡ map g ys
    → length xs ≡ length ys
same_length f g xs ys same = sym (length-map xs f) ∙ ap length same ∙ length-map ys g

widths : {X Y Z E : Type 0} (f : X → Z) (g : Y → Z) (ys : List Y) (r : Result (Vec X Global) E)
    → IfOk r (λ v. map f v.items ≡ map g ys) → IfOk r (λ v. length v.items ≡ length ys)
widths f g ys (Ok v) same = same_length f g v.items ys same
widths f g ys (Err e) same = tt

pub overflow_sub-row : goal.overflow_sub-row
overflow_sub-row c = some_rows c.rows-row.ensures.region.rows_least c.rows-row.ensures.value

pub cursors_at_row_start-requires-clause-picked : goal.cursors_at_row_start-requires-clause-picked
cursors_at_row_start-requires-clause-picked c = c.requires

pub cursors_at_row_start-requires-clause-row_in_range : goal.cursors_at_row_start-requires-clause-row_in_range
cursors_at_row_start-requires-clause-row_in_range c =
    last_row c.rows-row.ensures.region.rows_least c.rows-row.ensures.value
    (ap (λ (r : RegionValue). r.rows) c.region.ensures.value)

pub returns : goal.returns
returns c =
    widths to_come (row_of_map_at_place c.args.shelf.now.maps
    (c.rows-row.result - 1)) c.args.picks.now c.cursors_at_row_start.result
    c.cursors_at_row_start.ensures.cells
