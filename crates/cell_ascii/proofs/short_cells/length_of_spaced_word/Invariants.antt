use Rattle.std.proofs.Common.{◌≡◌, take, true}
use Rattle.std.specs.List.{list_all}
use Rattle.cell_ascii_meaning.specs.GridTokens.{is_word_byte}
use Rattle.cell_ascii.proofs.short_cells.length_of_spaced_word.Given as goal

abbrev pub invariant-loop-i : goal.invariant-loop-i
invariant-loop-i l = record {
  word : list_all is_word_byte (take l.i l.rest) ≡ true;
}
