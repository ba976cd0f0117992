-- Text that is appended except for its last bytes.
use Rattle.std.proofs.Common.{◌≡◌, ◌∙◌, ℕ, List, [], ◌++◌, Option, refl, sym, ap, append_assoc, append-nil, subst}
use Rattle.cell_core_devices.specs.Device.{SinkFaults}
use Rattle.cell_core_devices.specs.Blocks.{OutputBlockValue, IsTextAppendedThroughBlock}
use Rattle.cell_core_devices.proofs.BlockLemmas.{appends_none, appends_then}
use Rattle.cell_ascii_writer.specs.Fields.{HasAppendedTextExceptPending}

module _ {S : Type 0} {taken : S → Option (List ℕ)} {faults : S → SinkFaults} {old : S} {block : OutputBlockValue} where
  -- before anything is appended, all bytes are pending
  pub pending_none : (text : List ℕ) → HasAppendedTextExceptPending taken faults old block text text old block
  pending_none text = record { front = []; whole = refl; appends = appends_none }

  -- more text makes more bytes pending
  pub pending_more : {text pending : List ℕ} {now : S} {new : OutputBlockValue} (more : List ℕ) → HasAppendedTextExceptPending taken faults old block text pending now new
      → HasAppendedTextExceptPending taken faults old block (text ++ more) (pending ++ more) now new
  pending_more {text} {pending} more p = record {
    front = p.front;
    whole = sym (append_assoc p.front pending more) ∙ ap (λ (l : List ℕ). l ++ more) p.whole;
    appends = p.appends;
  }

  -- some of the pending bytes are appended
  pub pending_then : {text pending rest : List ℕ} {mid now : S} {middle new : OutputBlockValue} → HasAppendedTextExceptPending taken faults old block text pending mid middle → HasAppendedTextExceptPending taken faults mid middle pending rest now new
      → HasAppendedTextExceptPending taken faults old block text rest now new
  pending_then {text} {pending} {rest} first second = record {
    front = first.front ++ second.front;
    whole = append_assoc first.front second.front rest ∙ ap (λ (l : List ℕ). first.front ++ l) second.whole ∙ first.whole;
    appends = appends_then first.appends second.appends;
  }

  -- all pending bytes are appended
  pub pending_all : {text pending : List ℕ} {mid now : S} {middle new : OutputBlockValue} → HasAppendedTextExceptPending taken faults old block text pending mid middle → IsTextAppendedThroughBlock taken faults mid middle pending now new
      → IsTextAppendedThroughBlock taken faults old block text now new
  pending_all {text} {pending} {mid} {now} {middle} {new} first second =
      subst (λ (t : List ℕ). IsTextAppendedThroughBlock taken faults old block t now new) first.whole
      (appends_then first.appends second)
