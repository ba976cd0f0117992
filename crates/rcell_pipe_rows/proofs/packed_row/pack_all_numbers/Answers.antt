use Rattle.std.proofs.Common.{length, arith}
use Rattle.std.proofs.lemmas.List.FromFn.{fill_by_all}
use Rattle.rcell_pipe_rows.specs.parts.PackedBytes.{packed_byte_at_place}
use Rattle.rcell_pipe_rows.proofs.packed_row.pack_all_numbers.Goals as goal

pub returns : goal.returns
returns c =
    let old = c.args.bytes.now in
    fill_by_all (packed_byte_at_place c.args.mask.now c.args.null old) c.loop-i.bytes
    (length old) 0 c.loop-i.invariant.size
    (λ k within. c.loop-i.invariant.packed k (omega (arith, within)))
