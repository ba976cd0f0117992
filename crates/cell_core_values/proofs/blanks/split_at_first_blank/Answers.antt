use Rattle.std.proofs.Common.{arith, sym}
use Rattle.cell_core_values.specs.Blanks.{is_blank}
use Rattle.cell_core_values.proofs.PartLemmas.{parts-at, parts-none}
use Rattle.cell_core_values.proofs.blanks.split_at_first_blank.Goals as goal

pub returns-then-is_blank : goal.returns-then-is_blank
returns-then-is_blank c =
    let parts = parts-at is_blank c.args.text.now c.loop-i.i (omega arith) c.loop-i.invariant (sym c.if-is_blank.ensures) in
    record { before = parts.0; after = parts.1 }

pub returns : goal.returns
returns c =
    let parts = parts-none is_blank c.args.text.now (λ k h. c.loop-i.invariant k (omega arith)) in
    record { before = parts.0; after = parts.1 }
