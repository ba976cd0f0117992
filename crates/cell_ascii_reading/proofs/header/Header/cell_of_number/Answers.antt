use Rattle.std.proofs.Common.{sym, ◌∙◌, rules, w64}
use Rattle.std.specs.Int.RustNames.{FitsSigned}
use Rattle.std.proofs.lemmas.Int.{to_z-of_z}
use Rattle.cell_ascii_meaning.specs.Header.{GridHeaderContents}
use Rattle.cell_ascii_reading.proofs.NumberLemmas.{plain_cell}
use Rattle.cell_ascii_reading.proofs.header.Header.cell_of_number.Goals as goal

pub returns-then-self : goal.returns-then-self
returns-then-self c =
    let number_fits : FitsSigned w64 c.args.number = search rules in
    let header : GridHeaderContents = record { region = c.self.inside.region; null_text = c.self.inside.null_text; multiplier = c.self.inside.multiplier } in
    let plain = c.self.invariant.1 c.if-self.true in
    rw (← c.self.view_is)
    ((simp to_z-of_z at c.cell_if_in_range.ensures) ∙ plain_cell header c.args.word.now c.args.number c.requires (sym c.self.invariant.0 ∙ plain.0) plain.1)
