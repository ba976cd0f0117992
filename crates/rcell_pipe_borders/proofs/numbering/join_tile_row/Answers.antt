use Rattle.std.proofs.Common.{arith}
use Rattle.rcell_pipe_borders.proofs.numbering.join_tile_row.Goals as goal

pub unreachable-requires : goal.unreachable-requires
unreachable-requires c =
    c.in-Err.ensures.other_rows c.in-OtherRows.is c.requires.even.0 c.requires.even.1

pub unreachable-requires-in-TooManyClumps : goal.unreachable-requires-in-TooManyClumps
unreachable-requires-in-TooManyClumps c =
    let many = c.in-Err.ensures.many c.in-TooManyClumps.is in omega (arith, many, c.requires.few)
