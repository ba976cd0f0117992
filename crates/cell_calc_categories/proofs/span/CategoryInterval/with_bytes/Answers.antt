use Rattle.std.proofs.Common.{arith, get_or}
use Rattle.std.proofs.lemmas.List.{get_or_default}
use Rattle.std.proofs.lemmas.List.Elements.{All-map}
use Rattle.cell_core_values.specs.SmallCells.{cell_of_stored_byte}
use Rattle.cell_calc_categories.specs.parts.CategorySpans.{IsCellInCategoryInterval}
use Rattle.cell_calc_categories.proofs.Categories.{byte_within}
use Rattle.cell_calc_categories.proofs.span.CategoryInterval.with_bytes.Goals as goal

pub returns-clause-within : goal.returns-clause-within
returns-clause-within c =
    All-map (IsCellInCategoryInterval c.args.self) cell_of_stored_byte c.args.bytes.now
    (λ i d lt. byte_within c.args.self c.requires (get_or c.args.bytes.now i d) (omega
    (arith, c.type_inv.bytes i, get_or_default c.args.bytes.now i d 0 lt)))
