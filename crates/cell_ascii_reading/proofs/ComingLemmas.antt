-- Functions that agree on the coming bytes.
use Rattle.std.proofs.Common.{◌≡◌, ℕ, List, [], ◌∷◌, ◌++◌, Option, Some, None, Bool, slice_get, drop, ap, sym, ◌∙◌}
use Rattle.std.specs.Prelude.{IfSome}
use Rattle.std.specs.Option.{option_map}
use Rattle.cell_core_devices.specs.Device.{ComingBytes}
use Rattle.cell_ascii_meaning.proofs.TokenLemmas.{coming}
use Rattle.cell_ascii_reading.specs.Ahead.{BytesAhead, bytes_to_come_with_prefix, IsSourceAtEndOrFailed}
use Rattle.cell_ascii_reading.specs.Ahead.{ScanResultsBeforeAndAfterAgree, EqualBeforeAndAfterReads}
use Rattle.cell_ascii_reading.specs.Ahead.{content_to_come}

-- a list whose first byte is b is b and the remaining bytes
buffered_cons : (buffered : List ℕ) (b : ℕ) → slice_get buffered 0 ≡ Some b → buffered ≡ b ∷ drop 1 buffered
buffered_cons [] b e = cc
buffered_cons (x ∷ xs) b e = cc

ended : (c : ComingBytes) (f : Bool) → (c.bytes ≡ []) × (c.fails ≡ f) → c ≡ record { bytes = []; fails = f }
ended c f e = λ i. record { bytes = e.0 i; fails = e.1 i }

module _ {X : Type 0} (F G : ComingBytes → X) where
  byte_at : (t : List ℕ) (b : ℕ) → ((bs : List ℕ) (f : Bool) → F (coming (b ∷ bs) f) ≡ G (coming (b ∷ bs) f))
      → (r : Option ComingBytes)
      → IfSome (option_map (bytes_to_come_with_prefix (b ∷ t)) r)
      (λ c. option_map F (option_map (bytes_to_come_with_prefix (b ∷ t)) r) ≡ Some (G c))
  byte_at t b same None = tt
  byte_at t b same (Some c) = ap Some (same (t ++ c.bytes) c.fails)

  -- if a byte is buffered, functions that agree on all bytes beginning with it agree on the coming bytes
  pub at_byte : (a : BytesAhead) (b : ℕ) → slice_get a.buffered 0 ≡ Some b
      → ((bs : List ℕ) (f : Bool) → F (coming (b ∷ bs) f) ≡ G (coming (b ∷ bs) f))
      → ScanResultsBeforeAndAfterAgree F a G a
  at_byte a b buffered same =
      λ h. rw (buffered_cons a.buffered b buffered) (byte_at (drop 1 a.buffered) b same (content_to_come a.rest h))

  byte_past : (t : List ℕ) (b : ℕ) → ((bs : List ℕ) (f : Bool) → F (coming (b ∷ bs) f) ≡ G (coming bs f))
      → (r : Option ComingBytes)
      → IfSome (option_map (bytes_to_come_with_prefix t) r) (λ c. option_map F (option_map (bytes_to_come_with_prefix (b
      ∷ t)) r) ≡ Some (G c))
  byte_past t b same None = tt
  byte_past t b same (Some c) = ap Some (same (t ++ c.bytes) c.fails)

  pub past_byte : (a n : BytesAhead) (b : ℕ) → slice_get a.buffered 0 ≡ Some b → n.buffered ≡ drop 1 a.buffered
      → n.rest ≡ a.rest → ((bs : List ℕ) (f : Bool) → F (coming (b ∷ bs) f) ≡ G (coming bs f))
      → ScanResultsBeforeAndAfterAgree F a G n
  past_byte a n b buffered rest_buffered rest same =
      λ h. rw (rest_buffered, rest, buffered_cons a.buffered b buffered)
      (byte_past (drop 1 a.buffered) b same (content_to_come a.rest h))

  end_at : (r : Option ComingBytes) (f : Bool) → IfSome r (λ c. (c.bytes ≡ []) × (c.fails ≡ f))
      → F (coming [] f) ≡ G (coming [] f) → IfSome r (λ c. option_map F r ≡ Some (G c))
  end_at None f e same = tt
  end_at (Some c) f e same = ap Some (ap F (ended c f e) ∙ same ∙ sym (ap G (ended c f e)))

  -- functions that agree on the empty list of bytes agree at the end of the text
  pub at_end : (rest : ComingBytes → Option ComingBytes) (f : Bool) → IsSourceAtEndOrFailed f rest
      → F (coming [] f) ≡ G (coming [] f)
      → EqualBeforeAndAfterReads F rest G rest
  at_end rest f e same = λ h. end_at (rest h) f (e h) same
