use Rattle.std.proofs.Common.{ap, arith}
use Rattle.std.proofs.lemmas.Result.{err_from_is_err_and}
use Rattle.cell_ascii_reading.specs.Ahead.{bytes_to_come_for_content}
use Rattle.cell_ascii.proofs.CellLemmas.{cell_pending, cell_read, cell_fails, cell_faults}
use Rattle.cell_ascii.proofs.grid_reader.CellReader.next_cell.Goals as goal

pub returns-then-self-clause-cell : goal.returns-then-self-clause-cell
returns-then-self-clause-cell g c =
    let s = c.self.inside.scanner in
    rw (← c.self.view_is, c.if-self.true, c.cell_of_current_word.ensures, c.header.ensures, c.begin_blank_run.ensures)
    (cell_pending c.self.inside.words s.word s.line s.run s.ahead (bytes_to_come_for_content s.ahead))

pub returns-in_err-read_token-clause-cell : goal.returns-in_err-read_token-clause-cell
returns-in_err-read_token-clause-cell g c =
    let s = c.self.inside.scanner in
    let t = c.read_token.new.scanner in
    let p = err_from_is_err_and c.from_residual.result c.from_residual.ensures.1 in
    rw (p.1, p.2, ← c.self.view_is, c.if-self.false)
    (cell_fails c.self.inside.words s.line s.run (bytes_to_come_for_content s.ahead) (bytes_to_come_for_content t.ahead) t.line t.word c.in_err-read_token.field-0.0 c.in_err-read_token.ensures.token)

pub returns-clause-cell : goal.returns-clause-cell
returns-clause-cell g c =
    let s = c.self.inside.scanner in
    let t = c.read_token.new.scanner in
    rw (
      ← c.self.view_is,
      c.if-self.false,
      c.cell_of_current_word-2.ensures,
      c.header-2.ensures,
      c.in_ok-read_token.ensures.none,
    )
    (cell_read c.self.inside.words s.line s.run (bytes_to_come_for_content s.ahead) (bytes_to_come_for_content t.ahead) t.line t.word t.ahead c.in_ok-read_token.ensures.token)

pub invariant_of-self : goal.invariant_of-self
invariant_of-self g c = rw c.begin_blank_run.ensures (omega arith)

pub returns-then-self-clause-header : goal.returns-then-self-clause-header
returns-then-self-clause-header g c = ap (λ p. p.header) c.self.view_is

pub returns-then-self-clause-lines : goal.returns-then-self-clause-lines
returns-then-self-clause-lines g c = rw (← c.self.view_is, c.begin_blank_run.ensures) (omega arith)

pub returns-then-self-clause-kind : goal.returns-then-self-clause-kind
returns-then-self-clause-kind g c = rw (c.cell_of_current_word.ensures, c.header.ensures) (cell_faults c.self.inside.words c.begin_blank_run.new.self.word c.begin_blank_run.new.self.line)

pub read_token-requires-clause-room : goal.read_token-requires-clause-room
read_token-requires-clause-room g c = rw (← c.self.view_is) at c.requires.room

pub read_token-requires-clause-run : goal.read_token-requires-clause-run
read_token-requires-clause-run g c = c.self.invariant

pub invariant_of-self-in_err-read_token : goal.invariant_of-self-in_err-read_token
invariant_of-self-in_err-read_token g c = c.in_err-read_token.ensures.run

pub returns-in_err-read_token-clause-header : goal.returns-in_err-read_token-clause-header
returns-in_err-read_token-clause-header g c = ap (λ p. p.header) c.self.view_is

pub returns-in_err-read_token-clause-lines : goal.returns-in_err-read_token-clause-lines
returns-in_err-read_token-clause-lines g c = rw (← c.self.view_is) c.in_err-read_token.ensures.lines

pub returns-in_err-read_token-clause-kind : goal.returns-in_err-read_token-clause-kind
returns-in_err-read_token-clause-kind g c =
    let p = err_from_is_err_and c.from_residual.result c.from_residual.ensures.1 in
    rw (p.1, p.2) c.in_err-read_token.ensures.kind

pub invariant_of-self-2 : goal.invariant_of-self-2
invariant_of-self-2 g c = c.in_ok-read_token.ensures.run

pub returns-clause-header : goal.returns-clause-header
returns-clause-header g c = ap (λ p. p.header) c.self.view_is

pub returns-clause-lines : goal.returns-clause-lines
returns-clause-lines g c = rw (← c.self.view_is) c.in_ok-read_token.ensures.lines

pub returns-clause-kind : goal.returns-clause-kind
returns-clause-kind g c = rw (c.cell_of_current_word-2.ensures, c.header-2.ensures) (cell_faults c.self.inside.words c.read_token.new.scanner.word c.read_token.new.scanner.line)
