use Rattle.std.proofs.Common.{◌≡◌, ◌∙◌, length, ap, arith, sym, subst}
use Rattle.std.proofs.lemmas.List.{length-replicate}
use Rattle.std.proofs.lemmas.List.Elements.{All-replicate}
use Rattle.cell_cats.specs.Rule.{new_category}
use Rattle.cell_cats.specs.parts.KnownCategories.{AreCachedCategoriesRight}
use Rattle.cell_cats.specs.declared.known.Known.{Known}
use Rattle.cell_cats.proofs.known.new_cache_of_nulls.Goals as goal

pub returns-clause-some : goal.returns-clause-some
returns-clause-some c =
    let null : Known = record { cell = c.null-cell.result; reclassed = c.null-cell.result } in
    let size : length c.in_ok-known.known.items ≡ c.cache_slot_count_for_cells.result =
    ap length (c.in_ok-known.ensures.items_if_clones_equal (λ y h. h))
    ∙ length-replicate c.cache_slot_count_for_cells.result null in
    omega (arith, size, c.cache_slot_count_for_cells.ensures)

pub returns-clause-right : goal.returns-clause-right
returns-clause-right c = λ rules.
    subst (AreCachedCategoriesRight rules) (sym (c.in_ok-known.ensures.items_if_clones_equal (λ y h. h)))
    (All-replicate (λ (k : Known). k.reclassed ≡ new_category rules k.cell) c.cache_slot_count_for_cells.result _ (c.null-cell.ensures ∙ sym (ap (new_category rules) c.null-cell.ensures)))
