use Rattle.std.proofs.Common.{◌*◌, ◌%◌, ◌^◌}
use Rattle.std.proofs.lemmas.Nat.{one_shl}
use Rattle.cell_ascii.proofs.RunLemmas.{behind-blanks}
use Rattle.cell_ascii.proofs.word_table.index_and_bits_after_blanks.Goals as goal

pub returns : goal.returns
returns c bytes is =
    let at = c.args.at in
    behind-blanks bytes c.args.ends at (1 * 2 ^ at % 18446744073709551616) c.requires (one_shl at 64 c.requires) is
