use Rattle.std.proofs.Common.{◌∙◌, ℕ, List, Bor, map, refl, ap}
use Rattle.std.proofs.lemmas.List.{take_all}
use Rattle.std.proofs.lemmas.Result.{IfOk-from_err}
use Rattle.std.specs.List.{filter}
use Rattle.cell_core_values.specs.Words.{is_nonempty_word}
use Rattle.cell_core_values.proofs.WordLemmas.{kept, left_out}
use Rattle.cell_core_values.proofs.words.nonempty_pieces.Goals.{then-not-is_empty+in_ok-push, else-not-is_empty}
use Rattle.cell_core_values.proofs.words.nonempty_pieces.Goals as goal

pub loop-piece-init : goal.loop-piece-init
loop-piece-init c = rw c.new-words.ensures.items refl

pub bounds-pieces-piece-index : goal.bounds-pieces-piece-index
bounds-pieces-piece-index c = c.loop-piece-test.true

pub returns-in_err-push : goal.returns-in_err-push
returns-in_err-push c = IfOk-from_err c.from_residual.result _ c.from_residual.ensures.0

pub loop-piece-preserved : goal.loop-piece-preserved
loop-piece-preserved c =
    elim c.if-not-is_empty.branch [
      | then-not-is_empty+in_ok-push w ↦ rw (w.words-is, w.in_ok-push.ensures.items) (kept _ _ _ _ c.loop-piece-test.true c.loop-piece.invariant w.if-not-is_empty.ensures)
      | else-not-is_empty w ↦ rw w.words-is (left_out _ _ _ _ c.loop-piece-test.true c.loop-piece.invariant w.if-not-is_empty.ensures)
    ]

pub returns : goal.returns
returns c =
    c.loop-piece.invariant
    ∙ ap (λ (pieces : List (Bor (List ℕ))). filter is_nonempty_word (map (λ w. w.now) pieces))
    (take_all c.loop-piece.piece-index c.args.pieces.now c.loop-piece-test.false)
