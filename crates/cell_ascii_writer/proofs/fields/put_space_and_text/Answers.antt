use Rattle.std.proofs.Common.{◌≡◌, ◌+◌, ◌<◌, ℕ, List, [], ◌∷◌, ◌++◌, ◌∙◌, ap, ap₂, append_assoc, length, take, arith}
use Rattle.std.proofs.Math.ListN.{set, length-set}
use Rattle.std.proofs.lemmas.List.{take_more_set}
use Rattle.std.proofs.lemmas.Slice.{take-put_mid}
use Rattle.cell_ascii_writer.proofs.fields.put_space_and_text.Goals as goal

pub returns-clause-text : goal.returns-clause-text
returns-clause-text c =
    let line = c.args.line.now in
    let at = c.args.at in
    let text = c.args.text.now in
    let same : c.copy_from_slice.new.self ≡ text = c.copy_from_slice.ensures.after in
    let within : at < length line = omega arith in
    take-put_mid (at + 1) _ (set line at 32) c.copy_from_slice.new.self (at + 1 + length text) (omega (arith, ap length same)) (omega (arith, length-set line at 32))
    ∙ ap₂ (λ (a b : List ℕ). a ++ b) (take_more_set line at 32 within) same
    ∙ append_assoc (take at line) (32 ∷ []) text
