use Rattle.std.proofs.Common.{sym, ◌∙◌, rules, w32, w64}
use Rattle.std.specs.Int.RustNames.{FitsSigned}
use Rattle.std.proofs.lemmas.Int.{to_z-of_z}
use Rattle.cell_ascii_reading.proofs.NumberLemmas.{number_judged}
use Rattle.cell_ascii_reading.proofs.header.Header.cell_of_word.Goals as goal

pub returns-in-Some : goal.returns-in-Some
returns-in-Some c =
    let number_fits : FitsSigned w64 c.in-Some.number = search rules in
    let multiplier_fits : FitsSigned w32 c.self.inside.multiplier = search rules in
    let other = sym c.is.ensures ∙ c.if-is.false in
    rw (← c.self.view_is)
    ((simp to_z-of_z at c.multiplied_cell.ensures) ∙ number_judged (record { region = c.self.inside.region; null_text = c.self.inside.null_text; multiplier = c.self.inside.multiplier }) c.args.word.now c.in-Some.number other c.in-Some.ensures)
