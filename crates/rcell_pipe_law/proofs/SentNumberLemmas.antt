-- Numbers are read back from their bytes.
use Rattle.std.proofs.Common.{◌≡◌, ℕ, ℤ, pos, negsuc, ◌<◌, ◌≤◌, ◌^◌, Bool, true, false}
use Rattle.std.proofs.Common.{length, Ok, refl, ap, ◌∙◌, arith}
use Rattle.std.specs.Prelude.{◌&&◌, int_le}
use Rattle.std.specs.Int.{Width, w8, w16, w32, w64, byte_len, to_le_bytes, from_le_bytes, cast_signed, cast_unsigned}
use Rattle.std.specs.Int.RustNames.{FitsSigned}
use Rattle.std.proofs.lemmas.Int.{ints, to_z-of_z}
use Rattle.std.proofs.lemmas.Nat.{from_le_bytes-to_le_bytes_2, from_le_bytes-to_le_bytes_4}
use Rattle.std.proofs.lemmas.Nat.{from_le_bytes-to_le_bytes_8}
use Rattle.cell_core_devices.specs.Device.{ComingBytes}
use Rattle.rcell_pipe_request.specs.Feeds.{after}
use Rattle.rcell_pipe_rows.specs.Numbers.{number_from_bytes, bit_width_of_cell_type}
use Rattle.rcell_pipe_request.specs.RequestFields.{unsigned_number_reading, signed_number_reading}
use Rattle.rcell_pipe_rows.specs.declared.kind.CellType.{CellType}
use Rattle.rcell_pipe_rows.specs.declared.kind.CellType.TheVariants.{U8, I8, U16, I16, U32, I32, I64}
use Rattle.rcell_pipe_request.proofs.FeedLemmas.{bytes_reading-all}
use Rattle.rcell_pipe_law.specs.SentBytes.{twos_complement_bytes}
use Rattle.rcell_pipe_law.specs.SentMaps.{IsNumberOfCellType}

back_1 : (n : ℕ) → n < 2 ^ 8 → from_le_bytes w8 (to_le_bytes w8 n) ≡ n
back_1 n few = omega (arith, few)

-- a number is read back
reads : (w : Width) (n : ℕ) (rest : ComingBytes) → from_le_bytes w (to_le_bytes w n) ≡ n
    → length (to_le_bytes w n) ≡ byte_len w
    → unsigned_number_reading w (after (to_le_bytes w n) rest) ≡ Ok (n, rest)
unfolding unsigned_number_reading
reads w n rest back len = rw (
  bytes_reading-all (byte_len w) (to_le_bytes w n) (after (to_le_bytes w n) rest) rest refl
      len,
  back,
) refl

pub reads_8 : (n : ℕ) (rest : ComingBytes) → n < 2 ^ 8 → unsigned_number_reading w8 (after (to_le_bytes w8 n) rest)
    ≡ Ok (n, rest)
reads_8 n rest few = reads w8 n rest (back_1 n few) refl

pub reads_16 : (n : ℕ) (rest : ComingBytes) → n < 2 ^ 16 → unsigned_number_reading w16
    (after (to_le_bytes w16 n) rest) ≡ Ok (n, rest)
reads_16 n rest few = reads w16 n rest (from_le_bytes-to_le_bytes_2 n few) refl

pub reads_32 : (n : ℕ) (rest : ComingBytes) → n < 2 ^ 32 → unsigned_number_reading w32
    (after (to_le_bytes w32 n) rest) ≡ Ok (n, rest)
reads_32 n rest few = reads w32 n rest (from_le_bytes-to_le_bytes_4 n few) refl

pub reads_64 : (n : ℕ) (rest : ComingBytes) → n < 2 ^ 64 → unsigned_number_reading w64
    (after (to_le_bytes w64 n) rest) ≡ Ok (n, rest)
reads_64 n rest few = reads w64 n rest (from_le_bytes-to_le_bytes_8 n few) refl

pub signed_32 : (z : ℤ) (rest : ComingBytes) → FitsSigned w32 z
    → signed_number_reading w32 (after (twos_complement_bytes w32 z) rest) ≡ Ok
    (z, rest)
unfolding signed_number_reading
signed_32 z rest fits = rw (reads_32 (cast_unsigned w32 z) rest (bits_32 z fits), to_z-of_z w32 z fits) refl
  where
    bits_32 : (z : ℤ) → FitsSigned w32 z → cast_unsigned w32 z < 2 ^ 32
    bits_32 (pos n) fits = omega (arith, ints, fits)
    bits_32 (negsuc n) fits = omega arith

pub signed_64 : (z : ℤ) (rest : ComingBytes) → FitsSigned w64 z
    → signed_number_reading w64 (after (twos_complement_bytes w64 z) rest) ≡ Ok
    (z, rest)
unfolding signed_number_reading
signed_64 z rest fits = rw (reads_64 (cast_unsigned w64 z) rest (bits_64 z fits), to_z-of_z w64 z fits) refl
  where
    bits_64 : (z : ℤ) → FitsSigned w64 z → cast_unsigned w64 z < 2 ^ 64
    bits_64 (pos n) fits = omega (arith, ints, fits)
    bits_64 (negsuc n) fits = omega arith

-- ---- a number of a type

back_of_8 : (z : ℤ) → FitsSigned w8 z → from_le_bytes w8 (to_le_bytes w8 (cast_unsigned w8 z)) ≡ cast_unsigned w8 z
back_of_8 (pos n) fits = back_1 n (omega (arith, ints, fits))
back_of_8 (negsuc n) fits = back_1 _ (omega arith)

back_of_16 : (z : ℤ) → FitsSigned w16 z → from_le_bytes w16 (to_le_bytes w16 (cast_unsigned w16 z)) ≡ cast_unsigned
    w16 z
back_of_16 (pos n) fits = from_le_bytes-to_le_bytes_2 n (omega (arith, ints, fits))
back_of_16 (negsuc n) fits = from_le_bytes-to_le_bytes_2 _ (omega arith)

back_of_32 : (z : ℤ) → FitsSigned w32 z → from_le_bytes w32 (to_le_bytes w32 (cast_unsigned w32 z)) ≡ cast_unsigned
    w32 z
back_of_32 (pos n) fits = from_le_bytes-to_le_bytes_4 n (omega (arith, ints, fits))
back_of_32 (negsuc n) fits = from_le_bytes-to_le_bytes_4 _ (omega arith)

back_of_64 : (z : ℤ) → FitsSigned w64 z → from_le_bytes w64 (to_le_bytes w64 (cast_unsigned w64 z)) ≡ cast_unsigned
    w64 z
back_of_64 (pos n) fits = from_le_bytes-to_le_bytes_8 n (omega (arith, ints, fits))
back_of_64 (negsuc n) fits = from_le_bytes-to_le_bytes_8 _ (omega arith)

both : (a b : Bool) → (a && b) ≡ true → (a ≡ true) × (b ≡ true)
both true b is = (refl, is)
both false b is = cc

fits_8 : (z : ℤ) → (int_le (negsuc 127) z && int_le z (pos 127)) ≡ true → FitsSigned w8 z
fits_8 z is = let p = both (int_le (negsuc 127) z) (int_le z (pos 127)) is in grind (arith, ints)

fits_16 : (z : ℤ) → (int_le (negsuc 32767) z && int_le z (pos 32767)) ≡ true → FitsSigned w16 z
fits_16 z is = let p = both (int_le (negsuc 32767) z) (int_le z (pos 32767)) is in grind (arith, ints)

fits_32 : (z : ℤ) → (int_le (negsuc 2147483647) z && int_le z (pos 2147483647)) ≡ true → FitsSigned w32 z
fits_32 z is = let p = both (int_le (negsuc 2147483647) z) (int_le z (pos 2147483647)) is in grind (arith, ints)

most_of : (n m : ℕ) → (int_le (pos 0) (pos n) && int_le (pos n) (pos m)) ≡ true → n ≤ m
most_of n m is = let p = both (int_le (pos 0) (pos n)) (int_le (pos n) (pos m)) is in grind (arith, ints)

-- the bytes of a number spell it
pub spelt : (kind : CellType) (z : ℤ) → IsNumberOfCellType kind z
    → number_from_bytes kind (twos_complement_bytes (bit_width_of_cell_type kind) z) ≡ z
spelt U8 (pos n) of = ap pos (back_1 n (omega (arith, most_of n 255 of.has)))
spelt U8 (negsuc n) of = let bad : false ≡ true = of.has in cc
spelt I8 z of = let f = fits_8 z of.has in ap (cast_signed w8) (back_of_8 z f) ∙ to_z-of_z w8 z f
spelt U16 (pos n) of = ap pos (from_le_bytes-to_le_bytes_2 n (omega (arith, most_of n 65535 of.has)))
spelt U16 (negsuc n) of = let bad : false ≡ true = of.has in cc
spelt I16 z of = let f = fits_16 z of.has in ap (cast_signed w16) (back_of_16 z f) ∙ to_z-of_z w16 z f
spelt U32 (pos n) of = ap pos (from_le_bytes-to_le_bytes_4 n (omega (arith, most_of n 4294967295 of.has)))
spelt U32 (negsuc n) of = let bad : false ≡ true = of.has in cc
spelt I32 z of = let f = fits_32 z of.has in ap (cast_signed w32) (back_of_32 z f) ∙ to_z-of_z w32 z f
spelt I64 z of = ap (cast_signed w64) (back_of_64 z of.fits) ∙ to_z-of_z w64 z of.fits

pub spelt_len : (kind : CellType) (z : ℤ) → length (twos_complement_bytes (bit_width_of_cell_type kind) z)
    ≡ byte_len (bit_width_of_cell_type kind)
spelt_len U8 z = refl
spelt_len I8 z = refl
spelt_len U16 z = refl
spelt_len I16 z = refl
spelt_len U32 z = refl
spelt_len I32 z = refl
spelt_len I64 z = refl
