-- The bytes that were read, followed by those that are left, are the bytes that were to come.
use Rattle.std.proofs.Common.{◌≡◌, ℕ, ◌<◌, true, false, List, [], ◌++◌, length, take, drop, Ok, Err, refl, sym, ap, ◌∙◌, append_assoc, arith, ltb}
use Rattle.std.proofs.lemmas.List.{take-append-drop, take_at, drop_at, length-append}
use Rattle.std.proofs.lemmas.Bool.{le-ltb, lt-ltb}
use Rattle.cell_core_devices.specs.Device.{ComingBytes, bytes_to_come_after_reading}
use Rattle.rcell_pipe_request.specs.RequestFields.{error_kind_of_source_end, bytes_reading}
use Rattle.rcell_pipe_request.specs.Feeds.{RequestReaderValue, left, after}

-- passing n bytes of a block moves them to the bytes that were read
pub after-pass : (front unread : List ℕ) (n : ℕ) (rest : ComingBytes) → after front (after unread rest) ≡ after (front ++ take n unread) (after (drop n unread) rest)
after-pass front unread n rest =
    let bytes : front ++ (unread ++ rest.bytes) ≡ (front ++ take n unread) ++ (drop n unread ++ rest.bytes) =
    ap (λ (h : List ℕ). front ++ (h ++ rest.bytes)) (sym (take-append-drop n unread))
    ∙ ap (λ (t : List ℕ). front ++ t) (append_assoc (take n unread) (drop n unread) rest.bytes)
    ∙ sym (append_assoc front (take n unread) (drop n unread ++ rest.bytes)) in
    ap (λ (bs : List ℕ). record { bytes = bs; fails = rest.fails }) bytes

-- one more block is read
pub read_more : (w : ComingBytes) (old one two three : RequestReaderValue) (front more : List ℕ) (n : ℕ)
    → left w old ≡ after front (left w one) → left w two ≡ left w one
    → three ≡ record two { unread = drop n two.unread } → more ≡ front ++ take n two.unread
    → left w old ≡ after more (left w three)
read_more w old one two three front more n before same passed grown =
    let rest = bytes_to_come_after_reading w (length two.gave) in
    before ∙ ap (after front) (sym same) ∙ after-pass front two.unread n rest
    ∙ ap (λ (xs : List ℕ). after xs (after (drop n two.unread) rest)) (sym grown)
    ∙ ap (λ (f : RequestReaderValue). after more (left w f)) (sym passed)

-- the next n bytes are read if the source has them
pub bytes_reading-all : (n : ℕ) (front : List ℕ) (c rest : ComingBytes) → c ≡ after front rest → length front ≡ n → bytes_reading n c ≡ Ok (front, rest)
unfolding bytes_reading
bytes_reading-all n front c rest is len =
    let long : ltb (length (front ++ rest.bytes)) n ≡ false = le-ltb _ _ (omega (arith, length-append front rest.bytes, len)) in
    rw (is, long, take_at front rest.bytes n len, drop_at front rest.bytes n len) refl

-- the source ends before n bytes
pub bytes_reading-short : (n : ℕ) (front : List ℕ) (c rest : ComingBytes) → c ≡ after front rest → rest.bytes ≡ [] → length front < n → bytes_reading n c ≡ Err (error_kind_of_source_end rest.fails)
unfolding bytes_reading
bytes_reading-short n front c rest is none short =
    let few : ltb (length (front ++ rest.bytes)) n ≡ true = lt-ltb _ _ (omega (arith, length-append front rest.bytes, ap (λ (xs : List ℕ). length xs) none, short)) in
    rw (is, few) refl
