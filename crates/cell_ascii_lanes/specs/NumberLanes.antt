-- Words of digits in a block of 64 bytes.
use Rattle.std.specs.Prelude.{ℕ, ◌+◌, ◌≡◌, ◌<◌}
use Rattle.std.specs.Int.{bit_at}

-- every word has one to seven digits and follows a single blank, given the bits of blanks and of digits
pub record AreNumbersUpToSevenDigits (blanks digits : ℕ) : Type 0 where
  pub first : bit_at blanks 0 ≡ 1
  pub known : (i : ℕ) → i < 64 → bit_at blanks i ≡ 0 → bit_at digits i ≡ 1
  pub apart : (i : ℕ) → i + 1 < 64 → bit_at blanks i ≡ 1 → bit_at blanks (i + 1) ≡ 0
  pub few : (i : ℕ) → i + 7 < 64 → ((j : ℕ) → j < 7 → bit_at blanks (i + j) ≡ 0) → bit_at blanks (i + 7) ≡ 1
