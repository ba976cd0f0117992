-- The text that a put or a push appends, and texts appended one after another.
use Rattle.std.proofs.Common.{◌≡◌, ◌∙◌, ℕ, ◌+◌, ◌<◌, Bool, true, false, List, [], ◌++◌, length, take, drop, Option, Result, Ok, Err, OnOk, IfErr, refl, sym, ap, arith, append_assoc, append-nil, length-append, length-drop, length-take}
use Rattle.std.specs.Prelude.{is_err}
use Rattle.std.proofs.lemmas.List.{take-append-drop}
use Rattle.cell_core_devices.specs.Device.{SinkFaults, faults_after_put, append_if_known}
use Rattle.cell_core_devices.specs.Blocks.{OutputBlockValue, BlockHoldsRestUnlessPutFailed, IsTextAppendedToSink}
use Rattle.cell_core_devices.specs.Blocks.{IsTextAppendedThroughBlock, capped_byte_count, block_after_put}
use Rattle.cell_core_devices.specs.declared.sink.WriteFault.{WriteFault}
use Rattle.cell_core_devices.proofs.DeviceLemmas.{append_if_known-append}

capped_sum : (a b : ℕ) → capped_byte_count (capped_byte_count a + b) ≡ capped_byte_count (a + b)
capped_sum a b = omega arith

-- bytes taken after a prefix extend the prefix
taken_after : (before now : Option (List ℕ)) (front sent : List ℕ) → now ≡ append_if_known before front → append_if_known now sent ≡ append_if_known before (front ++ sent)
taken_after before now front sent e = ap (λ o. append_if_known o sent) e ∙ append_if_known-append before front sent

count_after : (front sent : List ℕ) (count : ℕ) → count ≡ capped_byte_count (length front) → capped_byte_count (count + length sent) ≡ capped_byte_count (length (front ++ sent))
count_after front sent count e = rw (e, length-append) (capped_sum (length front) (length sent))

some_after : (rest bytes : List ℕ) → 0 < length rest → 0 < length (rest ++ bytes)
some_after rest bytes some = omega (arith, some, length-append rest bytes)

rest_lost : (failed : Bool) (held rest bytes : List ℕ) → failed ≡ true → BlockHoldsRestUnlessPutFailed failed held rest → BlockHoldsRestUnlessPutFailed failed held (rest ++ bytes)
rest_lost false held rest bytes e is = cc
rest_lost true held rest bytes e some = some_after rest bytes some

module _ {before now : Option (List ℕ)} {start faults : SinkFaults} {all : List ℕ} {block : OutputBlockValue} (p : IsTextAppendedToSink before start all now faults block) where
  whole_after : (bytes : List ℕ) → p.front ++ (p.rest ++ bytes) ≡ all ++ bytes
  whole_after bytes = sym (append_assoc p.front p.rest bytes) ∙ ap (λ (l : List ℕ). l ++ bytes) p.whole

  -- after a failed put, further bytes are lost
  lost : (bytes : List ℕ) → block.failed ≡ true → IsTextAppendedToSink before start (all ++ bytes) now faults block
  lost bytes failed = record {
    front = p.front;
    rest = p.rest ++ bytes;
    whole = whole_after bytes;
    taken = p.taken;
    count = p.count;
    fails = p.fails;
    held = rest_lost block.failed block.held p.rest bytes failed p.held;
  }

  module _ (good : block.failed ≡ false) where
    -- the prefix taken and the bytes held are the complete text
    held_all : p.front ++ block.held ≡ all
    held_all = ap (λ (l : List ℕ). p.front ++ l) (rw good at p.held) ∙ p.whole

    no_fault : faults ≡ start
    no_fault = rw good at p.fails

    -- putting the rest of a text appends the complete text
    put_all : (text bytes : List ℕ) → p.front ++ bytes ≡ all ++ text → IsTextAppendedToSink before start (all ++ text) (append_if_known now bytes) faults (record { held = []; written = capped_byte_count (block.written + length bytes); failed = false })
    put_all text bytes parts = record {
      front = p.front ++ bytes;
      rest = [];
      whole = append-nil (p.front ++ bytes) ∙ parts;
      taken = taken_after before now p.front bytes p.taken;
      count = count_after p.front bytes block.written p.count;
      fails = no_fault;
      held = refl;
    }

    put_some : (text bytes : List ℕ) (n : ℕ) → n < length bytes → p.front ++ bytes ≡ all ++ text
        → IsTextAppendedToSink before start (all ++ text) (append_if_known now (take n bytes)) (faults_after_put faults true) (record { held = []; written = capped_byte_count (block.written + n); failed = true })
    put_some text bytes n few parts =
        let e : length (take n bytes) ≡ n = omega (arith, length-take n bytes, few) in
        record {
          front = p.front ++ take n bytes;
          rest = drop n bytes;
          whole = append_assoc p.front (take n bytes) (drop n bytes) ∙ ap (λ (l : List ℕ). p.front ++ l) (take-append-drop n bytes) ∙ parts;
          taken = taken_after before now p.front (take n bytes) p.taken;
          count = ap (λ (k : ℕ). capped_byte_count (block.written + k)) (sym e) ∙ count_after p.front (take n bytes) block.written p.count;
          fails = ap (λ (f : SinkFaults). faults_after_put f true) no_fault;
          held = omega (arith, few, length-drop n bytes);
        }

    settled_put : (put : Result Unit WriteFault) (text bytes : List ℕ) (next : Option (List ℕ)) (after : SinkFaults) → p.front ++ bytes ≡ all ++ text
        → OnOk put (next ≡ append_if_known now bytes) → IfErr put (λ f. f.written < length bytes) → IfErr put (λ f. next ≡ append_if_known now (take f.written bytes)) → after ≡ faults_after_put faults (is_err put)
        → IsTextAppendedToSink before start (all ++ text) next after (block_after_put block put (length bytes))
    settled_put (Ok done) text bytes next after parts ok within err same = rw (ok, same) (put_all text bytes parts)
    settled_put (Err fault) text bytes next after parts ok within err same = rw (err, same) (put_some text bytes fault.written within parts)

module _ {S : Type 0} {taken : S → Option (List ℕ)} {faults : S → SinkFaults} {old : S} {block : OutputBlockValue} where
  -- nothing was appended
  pub appends_none : IsTextAppendedThroughBlock taken faults old block [] old block
  appends_none = record { adds = λ before start all p. rw append-nil p }

  -- two texts appended one after another are appended as one
  pub appends_then : {a b : List ℕ} {mid now : S} {middle new : OutputBlockValue} → IsTextAppendedThroughBlock taken faults old block a mid middle → IsTextAppendedThroughBlock taken faults mid middle b now new → IsTextAppendedThroughBlock taken faults old block (a ++ b) now new
  appends_then {a} {b} first second = record { adds = λ before start all p. rw (← append_assoc all a b) (second.adds before start (all ++ a) (first.adds before start all p)) }

  -- putting the held bytes appends nothing new
  pub appends_held : (put : Result Unit WriteFault) (next : S) → block.failed ≡ false → OnOk put (taken next ≡ append_if_known (taken old) block.held) → IfErr put (λ f. f.written < length block.held)
      → IfErr put (λ f. taken next ≡ append_if_known (taken old) (take f.written block.held)) → faults next ≡ faults_after_put (faults old) (is_err put)
      → IsTextAppendedThroughBlock taken faults old block [] next (block_after_put block put (length block.held))
  appends_held put next good ok within err same = record {
    adds = λ before start all p. settled_put p good put [] block.held _ _ (held_all p good ∙ sym (append-nil all)) ok within err same;
  }

  -- bytes that are put past an empty block are appended
  pub appends_put : (put : Result Unit WriteFault) (bytes : List ℕ) (next : S) → block.failed ≡ false → block.held ≡ [] → OnOk put (taken next ≡ append_if_known (taken old) bytes) → IfErr put (λ f. f.written < length bytes)
      → IfErr put (λ f. taken next ≡ append_if_known (taken old) (take f.written bytes)) → faults next ≡ faults_after_put (faults old) (is_err put)
      → IsTextAppendedThroughBlock taken faults old block bytes next (block_after_put block put (length bytes))
  appends_put put bytes next good none ok within err same = record {
    adds = λ before start all p.
        let front : p.front ≡ all = sym (append-nil p.front) ∙ ap (λ (l : List ℕ). p.front ++ l) (sym none) ∙ held_all p good in
        settled_put p good put bytes bytes _ _ (ap (λ (l : List ℕ). l ++ bytes) front) ok within err same;
  }

  -- after a failed put, any further text changes nothing
  pub appends_cut : {a : List ℕ} (b : List ℕ) {now : S} {new : OutputBlockValue} → IsTextAppendedThroughBlock taken faults old block a now new → new.failed ≡ true → IsTextAppendedThroughBlock taken faults old block (a ++ b) now new
  appends_cut {a} b first failed = record { adds = λ before start all p. rw (← append_assoc all a b) (lost (first.adds before start all p) b failed) }
