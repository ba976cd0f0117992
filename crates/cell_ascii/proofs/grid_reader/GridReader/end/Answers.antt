use Rattle.std.proofs.Common.{◌≡◌, ◌∙◌, Bool, true, false, ap, sym, subst, rules}
use Rattle.cell_core_devices.specs.Supposed.{HoldsForAgreeingContents}
use Rattle.cell_ascii_reading.specs.Ahead.{bytes_to_come_for_content}
use Rattle.cell_ascii.specs.Reader.{position_of_cell_reader}
use Rattle.cell_ascii_meaning.specs.RowPlaces.{first_fault_after_last_cell}
use Rattle.cell_ascii.specs.GridReaders.{GridReaderValue, position_of_grid_reader, fault_of_reading_result}
use Rattle.cell_ascii.proofs.RowReadLemmas.{end_answers}
use Rattle.cell_ascii.proofs.grid_reader.GridReader.end.Goals as goal

both : {b : Bool} → b ≡ true → b ≡ false → ⊥
both is not = cc

pub returns-clause-end : goal.returns-clause-end
returns-clause-end g c =
    let i = c.self.inside in
    let left : i.rows_left ≡ c.args.self.now.rows_left = ap (λ (r : GridReaderValue). r.rows_left) c.self.view_is in
    let live : c.args.self.now.failed ≡ false = sym (ap (λ (r : GridReaderValue). r.failed) c.self.view_is) ∙ c.if-self.false in
    let none : i.rows_left ≡ 0 = left ∙ c.requires.done live in
    record {
      failed = λ failed. absurd (both failed live);
      reported = subst (λ (r : GridReaderValue). r.failed ≡ false → HoldsForAgreeingContents (bytes_to_come_for_content r.ahead) (bytes_to_come_for_content c.check_only_blanks_are_left.new.self.ahead) (λ x. fault_of_reading_result c.check_only_blanks_are_left.result ≡ first_fault_after_last_cell (position_of_grid_reader r x))) c.self.view_is
          (λ live. end_answers (position_of_cell_reader i.cells) i.rows_left (bytes_to_come_for_content i.cells.ahead) (bytes_to_come_for_content c.check_only_blanks_are_left.new.self.ahead) c.check_only_blanks_are_left.result none (c.self.invariant.placed live) c.check_only_blanks_are_left.ensures.end);
      memory = search rules;
      kinds = λ _. c.check_only_blanks_are_left.ensures.kind;
    }
