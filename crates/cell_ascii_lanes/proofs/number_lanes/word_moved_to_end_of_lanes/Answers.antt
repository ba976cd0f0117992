use Rattle.std.proofs.Common.{take}
use Rattle.cell_ascii_lanes.proofs.NumberLemmas.{sources_fit, sources_long, ended_word}
use Rattle.cell_ascii_lanes.proofs.number_lanes.word_moved_to_end_of_lanes.Goals as goal

pub swizzle : goal.swizzle
swizzle c = sources_fit c.args.size c.requires.few

pub returns-clause-word : goal.returns-clause-word
returns-clause-word c = ended_word c.args.size c.args.bytes.now c.requires.few c.requires.buffered

pub returns-clause-long : goal.returns-clause-long
returns-clause-long c = sources_long c.args.size (take 16 c.args.bytes.now) c.requires.few
