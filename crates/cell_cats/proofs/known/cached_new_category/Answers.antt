use Rattle.std.proofs.Common.{◌≡◌, ℕ, ◌<◌, List, length, get_or, refl, subst, ap, sym, ◌∙◌}
use Rattle.std.proofs.lemmas.List.Elements.{All-set}
use Rattle.cell_cats.specs.Rule.{RuleValue, new_category}
use Rattle.cell_cats.specs.declared.known.Known.{Known}
use Rattle.cell_cats.specs.parts.KnownCategories.{AreCachedCategoriesRight}
use Rattle.cell_cats.proofs.known.cached_new_category.Goals as goal

columns_read_right_at_offset : (rules : List RuleValue) (known : List Known) (at : ℕ) (k : Known)
    → AreCachedCategoriesRight rules known → at < length known → k ≡ get_or known at k
    → k.reclassed ≡ new_category rules k.cell
columns_read_right_at_offset rules known at k right inside is =
    subst (λ (x : Known). x.reclassed ≡ new_category rules x.cell) (sym is) (right at k inside)

pub bounds-known-at : goal.bounds-known-at
bounds-known-at c = c.cache_slot_of_cell-at.ensures

pub returns-then-eq-clause-value : goal.returns-then-eq-clause-value
returns-then-eq-clause-value c = λ rules of right.
    columns_read_right_at_offset rules c.args.known.now c.cache_slot_of_cell-at.result c.index-known-at.result right
    c.cache_slot_of_cell-at.ensures
    c.index-known-at.is
    ∙ ap (new_category rules) (c.if-eq.ensures.same.0 refl)

pub returns-then-eq-clause-right : goal.returns-then-eq-clause-right
returns-then-eq-clause-right c = λ rules of right. right

pub returns-clause-value : goal.returns-clause-value
returns-clause-value c = λ rules of right. c.apply-reclassed.ensures rules of

pub returns-clause-right : goal.returns-clause-right
returns-clause-right c = λ rules of right.
    All-set (λ (k : Known). k.reclassed ≡ new_category rules k.cell) c.args.known.now c.cache_slot_of_cell-at.result
    (record { cell = c.args.cell; reclassed = c.apply-reclassed.result }) (c.apply-reclassed.ensures rules of) right
