use Rattle.std.proofs.lemmas.Result.{err_from_is_err_and}
use Rattle.cell_cats.proofs.ItemLemmas.{left-fails, left-found}
use Rattle.cell_cats.proofs.line.rule_items_of_left_side.Goals as goal

pub returns-in_err-items : goal.returns-in_err-items
returns-in_err-items c =
    let p = err_from_is_err_and c.from_residual.result c.from_residual.ensures.1 in
    rw (p.1, p.2) (λ other. left-fails c.args.words.now c.if-is_lone_star.ensures c.if-is_empty.ensures _
    (c.in_err-items.ensures other))

pub returns : goal.returns
returns c = left-found c.args.words.now c.if-is_lone_star.ensures c.if-is_empty.ensures _ c.in_ok-items.ensures
