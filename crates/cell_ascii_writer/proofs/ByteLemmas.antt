-- Bytes and their numbers.
use Rattle.std.proofs.Common.{◌≡◌, ℕ, zero, suc, ◌+◌, ◌*◌, ◌/◌, ◌%◌, ◌^◌, ◌<◌, ◌≤◌, List, [], ◌∷◌, ◌++◌, length, take, drop, get_or, decimal, refl, ap, ap₂, sym, ◌∙◌, arith, length-take, length-append, append_assoc, add-one}
use Rattle.std.proofs.lemmas.Nat.{mod-pow-add, field_of, mod_low}
use Rattle.std.proofs.lemmas.List.{get_or-take, take-append-le}
use Rattle.std.proofs.lemmas.Simd.{put_chunk_is}
use Rattle.std.proofs.lemmas.Fmt.{decimal_digit, decimal_nonempty, decimal_step, length-decimal-le}
use Rattle.std.proofs.Math.Nat.{pow-le-pow_right, pow-suc}
use Rattle.std.proofs.Math.Seq.{take-append-add}
use Rattle.cell_ascii_writer.specs.Fields.{lowest_bytes_of_number}
use lib.Lanes.{number_l, digits_l, put_chunk}

-- the low bytes of a number depend only on its low bits
pub digits-mod : (size all n : ℕ) → size ≤ all → digits_l 256 size (n % 2 ^ (8 * all)) ≡ digits_l 256 size n
digits-mod zero all n le = refl
digits-mod (suc size) zero n le = absurd (omega arith)
digits-mod (suc size) (suc all) n le =
    let more : 8 * suc all ≡ 8 * all + 8 = omega arith in
    let first : n % 2 ^ (8 * all + 8) % 2 ^ 8 ≡ n % 2 ^ 8 =
    ap (λ (m : ℕ). m % 2 ^ 8) (mod-pow-add n (8 * all) 8) ∙ mod_low (n / 2 ^ 8 % 2 ^ (8 * all)) 8 (n % 2 ^ 8) (omega arith) in
    ap (λ (k : ℕ). digits_l 256 (suc size) (n % 2 ^ k)) more
    ∙ ap₂ (λ (d : ℕ) (l : List ℕ). d ∷ l) first (ap (digits_l 256 size) (field_of n (8 * all) 8) ∙ digits-mod size all (n / 2 ^ 8) (omega arith))

-- the bytes of the number of some bytes are these bytes
pub digits-number : (size all : ℕ) (bytes : List ℕ) → size ≤ all → all ≤ length bytes → ((k : ℕ) → k < size → get_or bytes k 0 < 256) → digits_l 256 size (number_l 256 (take all bytes)) ≡ take size bytes
digits-number zero all bytes le held below = refl
digits-number (suc size) zero bytes le held below = absurd (omega arith)
digits-number (suc size) (suc all) [] le held below = absurd (omega arith)
digits-number (suc size) (suc all) (b ∷ bytes) le held below =
    let here : 0 < suc size = omega arith in
    let least : b < 256 = below 0 here in
    let n = number_l 256 (take all bytes) in
    let first : (b + 256 * n) % 256 ≡ b = omega arith in
    let rest : (b + 256 * n) / 256 ≡ n = omega arith in
    ap₂ (λ (d : ℕ) (l : List ℕ). d ∷ l) first (ap (digits_l 256 size) rest ∙ digits-number size all bytes (omega arith) (omega arith) (λ k few. below (suc k) (omega arith)))

-- the number loaded from a field has the field's space and text as its lowest bytes
pub loaded : (field text : List ℕ) → 8 ≤ length field → length text ≤ 7 → ((k : ℕ) → get_or text k 0 < 256) → take (length text + 1) field ≡ 32 ∷ text
    → lowest_bytes_of_number (number_l 256 (take 8 field) % 18446744073709551616) (length text + 1) ≡ 32 ∷ text
loaded field text held few below is =
    let size = length text + 1 in
    let le : size ≤ 8 = omega arith in
    digits-mod size 8 (number_l 256 (take 8 field)) le
    ∙ digits-number size 8 field le held (λ k within. rw (← get_or-take size field k 0 within, is) (byte k))
    ∙ is
  where
    byte : (k : ℕ) → get_or (32 ∷ text) k 0 < 256
    byte zero = omega arith
    byte (suc k) = below k

digits-fewer : (size all n : ℕ) → size ≤ all → take size (digits_l 256 all n) ≡ digits_l 256 size n
digits-fewer zero all n le = refl
digits-fewer (suc size) zero n le = absurd (omega arith)
digits-fewer (suc size) (suc all) n le = ap (λ (l : List ℕ). (n % 256) ∷ l) (digits-fewer size all (n / 256) (omega arith))

-- storing a number's eight bytes keeps the bytes before them and writes the number's lowest `size` bytes
pub stored : (line : List ℕ) (at bytes size : ℕ) → at + 8 ≤ length line → size ≤ 8 → take (at + size) (put_chunk at line (digits_l 256 8 (bytes + 0))) ≡ take at line ++ lowest_bytes_of_number bytes size
stored line at bytes size room few =
    let same : bytes + 0 ≡ bytes = omega arith in
    let eight = digits_l 256 8 (bytes + 0) in
    let fits : at + length eight ≤ length line = room in
    let count : length (take at line) ≡ at = omega (arith, length-take at line) in
    let short : size ≤ length eight = few in
    ap (take (at + size)) (put_chunk_is at line eight fits)
    ∙ ap (λ (n : ℕ). take (n + size) (take at line ++ (eight ++ drop (length eight) (drop at line)))) (sym count)
    ∙ take-append-add (take at line) (eight ++ drop (length eight) (drop at line)) size
    ∙ ap (λ (l : List ℕ). take at line ++ l) (take-append-le size eight (drop (length eight) (drop at line)) short ∙ digits-fewer size 8 (bytes + 0) few ∙ ap (digits_l 256 size) same)

-- adding a lowest byte to a number puts it before the number's bytes
pub low_bytes-more : (bytes size d : ℕ) → d < 256 → lowest_bytes_of_number (bytes * 256 + d) (size + 1) ≡ d
    ∷ lowest_bytes_of_number bytes size
low_bytes-more bytes size d small =
    let count : size + 1 ≡ suc size = omega arith in
    let first : (bytes * 256 + d) % 256 ≡ d = omega arith in
    let rest : (bytes * 256 + d) / 256 ≡ bytes = omega arith in
    ap (λ (n : ℕ). digits_l 256 n (bytes * 256 + d)) count
    ∙ ap₂ (λ (x : ℕ) (l : List ℕ). x ∷ l) first (ap (digits_l 256 size) rest)
