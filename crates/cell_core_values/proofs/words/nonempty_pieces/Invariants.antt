use Rattle.std.proofs.Common.{◌≡◌, take, map}
use Rattle.std.specs.List.{filter}
use Rattle.cell_core_values.specs.Words.{is_nonempty_word}
use Rattle.cell_core_values.proofs.words.nonempty_pieces.Given as goal

abbrev pub invariant-loop-piece : goal.invariant-loop-piece
invariant-loop-piece l = map (λ w. w.now) l.words.items ≡ filter is_nonempty_word
    (map (λ w. w.now) (take l.piece-index l.pieces))
