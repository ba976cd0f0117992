-- A text that is written through a block, which is then emptied.
use Rattle.std.proofs.Common.{◌≡◌, ◌∙◌, ℕ, ◌<◌, Bool, true, false, List, [], ◌++◌, length, take, Option, Ok, Err, refl, sym, ap, arith, append-nil, length-append}
use Rattle.std.proofs.Math.Seq.{take-append_seam}
use Rattle.cell_core_devices.specs.Device.{SinkFaults, faults_after_put, append_if_known}
use Rattle.cell_core_devices.specs.Blocks.{capped_byte_count, OutputBlockValue, IsTextAppendedToSink}
use Rattle.cell_core_devices.specs.Blocks.{write_fault_if_failed}
use Rattle.cell_core_devices.specs.declared.sink.WriteFault.{WriteFault}

-- a text that is shorter than the largest count is put in full, or its first bytes are
module _ {before now : Option (List ℕ)} {start faults : SinkFaults} {text : List ℕ} {block : OutputBlockValue} (p : IsTextAppendedToSink before start text now faults block) where
  put_ends : block.failed ≡ false → block.held ≡ [] → p.front ≡ text
  put_ends good none = sym (append-nil p.front) ∙ ap (λ (l : List ℕ). p.front ++ l) (sym none ∙ rw good at p.held) ∙ p.whole

  -- without a failure, the full text is put
  pub appended_put : block.failed ≡ false → block.held ≡ [] → (now ≡ append_if_known before text) × ((block.written ≡ capped_byte_count (length text)) × (faults ≡ start))
  appended_put good none =
      let front = put_ends good none in
      (p.taken ∙ ap (append_if_known before) front, (p.count ∙ ap (λ (l : List ℕ). capped_byte_count (length l)) front, rw good at p.fails))

  -- if a put fails, the reported count is the bytes that the sink took, which are not all
  pub appended_cut : block.failed ≡ true → length text < 18446744073709551615
      → (now ≡ append_if_known before (take block.written text)) × ((block.written < length text) × (faults ≡ faults_after_put start true))
  appended_cut failed short =
      let some : 0 < length p.rest = rw failed at p.held in
      let whole = ap length p.whole in
      let few : length p.front < length text = omega (arith, some, whole, length-append p.front p.rest) in
      let count : block.written ≡ length p.front = omega (arith, p.count, few, short) in
      let front : take block.written text ≡ p.front = ap (λ (n : ℕ). take n text) count ∙ ap (λ (t : List ℕ). take (length p.front) t) (sym p.whole) ∙ take-append_seam p.front p.rest in
      (p.taken ∙ ap (append_if_known before) (sym front), (rw count few, rw failed at p.fails))

-- if the result of a block is Ok, no put failed
pub outcome_ok : (failed : Bool) (written : ℕ) (done : Unit) → write_fault_if_failed failed written ≡ Ok done
    → failed ≡ false
outcome_ok false written done is = refl
outcome_ok true written done is = cc

pub outcome_err : (failed : Bool) (written : ℕ) (fault : WriteFault) → write_fault_if_failed failed written ≡ Err fault → (failed ≡ true) × (written ≡ fault.written)
outcome_err false written fault is = cc
outcome_err true written fault is = (refl, cc)
