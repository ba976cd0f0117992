use Rattle.cell_ascii_reading.specs.Ahead.{bytes_to_come_for_content}
use Rattle.cell_ascii.proofs.DataLemmas.{open_fails, header_kind, header_reported}
use Rattle.cell_ascii.proofs.opening.read_header_and_first_word.Goals as goal

pub returns-in-Err-header_of_keys_or_fault_at_line-clause-fault :
    goal.returns-in-Err-header_of_keys_or_fault_at_line-clause-fault
returns-in-Err-header_of_keys_or_fault_at_line-clause-fault g c =
    let t = c.read_header.new.scanner in
    rw c.begin_blank_run.ensures
    (open_fails c.read_header.new.keys t.word t.line c.in-Ok.waiting
    (bytes_to_come_for_content c.args.scanner.now.ahead) (bytes_to_come_for_content t.ahead)
    c.in-Err-header_of_keys_or_fault_at_line.fault
    (rw (c.requires.start.0, c.requires.start.1, c.new-keys.ensures) at c.in-Ok.ensures.header)
    (rw (c.line.ensures, c.begin_blank_run.ensures) at c.in-Err-header_of_keys_or_fault_at_line.ensures))

pub returns-in-Err-header_of_keys_or_fault_at_line-clause-kind :
    goal.returns-in-Err-header_of_keys_or_fault_at_line-clause-kind
returns-in-Err-header_of_keys_or_fault_at_line-clause-kind g c = header_kind c.read_header.new.keys c.line.result
    c.in-Err-header_of_keys_or_fault_at_line.fault c.in-Err-header_of_keys_or_fault_at_line.ensures

pub returns-in-Err-header_of_keys_or_fault_at_line-clause-heard :
    goal.returns-in-Err-header_of_keys_or_fault_at_line-clause-heard
returns-in-Err-header_of_keys_or_fault_at_line-clause-heard g c =
    rw (
      c.begin_blank_run.ensures,
      header_reported c.read_header.new.keys c.line.result
          c.in-Err-header_of_keys_or_fault_at_line.fault c.in-Err-header_of_keys_or_fault_at_line.ensures,
    )
    c.in-Ok.ensures.heard
