-- The digits of numbers, one per byte.
use Rattle.std.proofs.Common.{◌≡◌, ◌≢◌, ◌∙◌, ℕ, zero, suc, ◌+◌, ◌-◌, ◌*◌, ◌/◌, ◌%◌, ◌^◌, ◌<◌, ◌≤◌, List, [], ◌∷◌, ◌++◌, decimal, refl, ap, ap₂, sym, arith, inl, inr}
use Rattle.std.proofs.lemmas.Fmt.{decimal_digit, decimal_step}
use Rattle.std.proofs.lemmas.Nat.{pow-add, div-mul-add, mod-pow-add}
use Rattle.std.proofs.lemmas.Bool.{cases_lt}
use Rattle.std.proofs.Math.Nat.{pow-suc, mul-add, mul_assoc, mul_comm, mul-le-mul_left, pow-le-pow_right}
use Rattle.std.specs.Int.Count.{count_trailing_zeros, under}
use Rattle.cell_ascii_writer.specs.Fields.{last_digits_one_per_byte, lowest_bytes_of_number}
use lib.Lanes.{digits_l}

-- the digits of a number of two parts are the digits of the parts
pub values-parts : (j k upper lower : ℕ) → lower < 10 ^ k
    → last_digits_one_per_byte (j + k) (upper * 10 ^ k + lower)
    ≡ last_digits_one_per_byte j upper + 256 ^ j * last_digits_one_per_byte k lower
values-parts j zero upper lower few =
    let none : lower ≡ 0 = omega arith in
    let count : j + 0 ≡ j = omega arith in
    let number : upper * 1 + lower ≡ upper = omega arith in
    let rest : last_digits_one_per_byte j upper + 256 ^ j * 0 ≡ last_digits_one_per_byte j upper = omega arith in
    ap₂ last_digits_one_per_byte count number ∙ sym rest
values-parts j (suc k) upper lower few =
    let count : j + suc k ≡ suc (j + k) = omega arith in
    let power : 10 ^ suc k ≡ 10 ^ k * 10 = pow-suc 10 k in
    let less : lower / 10 < 10 ^ k = omega (arith, power, few) in
    let p = upper * 10 ^ k in
    let big : upper * 10 ^ suc k ≡ p * 10 = ap (λ (x : ℕ). upper * x) power ∙ sym (mul_assoc upper (10 ^ k) 10) in
    let number = upper * 10 ^ suc k + lower in
    let front : number / 10 ≡ p + lower / 10 = omega (arith, big) in
    let last : number % 10 ≡ lower % 10 = omega (arith, big) in
    let a = last_digits_one_per_byte j upper in
    let b = last_digits_one_per_byte k (lower / 10) in
    let d = lower % 10 in
    let ends : 256 ^ (j + k) * d ≡ 256 ^ j * (256 ^ k * d) =
    ap (λ (x : ℕ). x * d) (pow-add 256 j k) ∙ mul_assoc (256 ^ j) (256 ^ k) d in
    let both : 256 ^ j * (b + 256 ^ k * d) ≡ 256 ^ j * b + 256 ^ j * (256 ^ k * d) =
    mul-add (256 ^ j) b (256 ^ k * d) in
    let rest : (a + 256 ^ j * b) + 256 ^ (j + k) * d ≡ a + 256 ^ j * (b + 256 ^ k * d) = omega (arith, ends, both) in
    ap (λ (n : ℕ). last_digits_one_per_byte n number) count
    ∙ ap₂ (λ (n e : ℕ). last_digits_one_per_byte (j + k) n + 256 ^ (j + k) * e) front last
    ∙ ap (λ (v : ℕ). v + 256 ^ (j + k) * d) (values-parts j k upper (lower / 10) less)
    ∙ rest

-- the digits of 0 are zeros
values-none : (k : ℕ) → last_digits_one_per_byte k 0 ≡ 0
values-none zero = refl
values-none (suc k) =
    let rest : 0 + 256 ^ k * 0 ≡ 0 = omega arith in
    ap (λ (v : ℕ). v + 256 ^ k * 0) (values-none k) ∙ rest

-- a smaller number has zeros before its digits
values-after_zeros : (z k n : ℕ) → n < 10 ^ k → last_digits_one_per_byte (z + k) n
    ≡ 256 ^ z * last_digits_one_per_byte k n
values-after_zeros z k n few =
    let whole : 0 * 10 ^ k + n ≡ n = omega arith in
    let parts = ap (last_digits_one_per_byte (z + k)) (sym whole) ∙ values-parts z k 0 n few in
    omega (arith, parts, values-none z)

-- k bytes that are each the digit 0
abbrev pub zeros : ℕ → ℕ
zeros zero = 0
zeros (suc k) = zeros k + 256 ^ k * 48

zeros-parts : (j k : ℕ) → zeros (j + k) ≡ zeros j + 256 ^ j * zeros k
zeros-parts j zero =
    let count : j + 0 ≡ j = omega arith in
    let rest : zeros j + 256 ^ j * 0 ≡ zeros j = omega arith in
    ap zeros count ∙ sym rest
zeros-parts j (suc k) =
    let count : j + suc k ≡ suc (j + k) = omega arith in
    let ends : 256 ^ (j + k) * 48 ≡ 256 ^ j * (256 ^ k * 48) =
    ap (λ (x : ℕ). x * 48) (pow-add 256 j k) ∙ mul_assoc (256 ^ j) (256 ^ k) 48 in
    let both : 256 ^ j * (zeros k + 256 ^ k * 48) ≡ 256 ^ j * zeros k + 256 ^ j * (256 ^ k * 48) =
    mul-add (256 ^ j) (zeros k) (256 ^ k * 48) in
    let rest : (zeros j + 256 ^ j * zeros k) + 256 ^ (j + k) * 48 ≡ zeros j + 256 ^ j * (zeros k + 256 ^ k * 48) =
    omega (arith, ends, both) in
    ap zeros count ∙ ap (λ (v : ℕ). v + 256 ^ (j + k) * 48) (zeros-parts j k) ∙ rest

zeros-below : (k : ℕ) → zeros k < 256 ^ k
zeros-below zero = omega arith
zeros-below (suc k) =
    let power : 256 ^ suc k ≡ 256 ^ k * 256 = pow-suc 256 k in
    let ih = zeros-below k in
    omega arith

pub text-below : (k n : ℕ) → last_digits_one_per_byte k n + zeros k < 256 ^ k
text-below zero n = omega arith
text-below (suc k) n =
    let power : 256 ^ suc k ≡ 256 ^ k * 256 = pow-suc 256 k in
    let ih = text-below k (n / 10) in
    let d = n % 10 in
    let small : d ≤ 9 = omega arith in
    let most : 256 ^ k * d ≤ 256 ^ k * 9 = mul-le-mul_left (256 ^ k) small in
    omega arith

-- adding a highest byte to a number puts it after the number's bytes
low_bytes-last : (k a d : ℕ) → a < 256 ^ k → d < 256 → lowest_bytes_of_number (a + 256 ^ k * d) (suc k)
    ≡ lowest_bytes_of_number a k ++ d ∷ []
low_bytes-last zero a d few small =
    let number : (a + 1 * d) % 256 ≡ d = omega arith in
    ap (λ (x : ℕ). x ∷ []) number
low_bytes-last (suc k) a d few small =
    let power : 256 ^ suc k ≡ 256 ^ k * 256 = pow-suc 256 k in
    let less : a / 256 < 256 ^ k = omega (arith, power, few) in
    let ends : 256 ^ suc k * d ≡ (256 ^ k * d) * 256 =
    ap (λ (x : ℕ). x * d) power ∙ mul_assoc (256 ^ k) 256 d ∙ ap (λ (x : ℕ). 256 ^ k * x) (mul_comm 256 d)
    ∙ sym (mul_assoc (256 ^ k) d 256) in
    let first : (a + 256 ^ suc k * d) % 256 ≡ a % 256 = omega (arith, ends) in
    let rest : (a + 256 ^ suc k * d) / 256 ≡ a / 256 + 256 ^ k * d = omega (arith, ends) in
    ap₂ (λ (x : ℕ) (l : List ℕ). x ∷ l) first (ap (digits_l 256 (suc k)) rest ∙ low_bytes-last k (a / 256) d less small)

-- the digits of a number of k + 1 digits are its decimal text
pub values-decimal : (k n : ℕ) → 10 ^ k ≤ n → n < 10 ^ suc k → n < 2 ^ 64
    → lowest_bytes_of_number (last_digits_one_per_byte (suc k) n + zeros (suc k)) (suc k) ≡ decimal n
values-decimal zero n many few wide =
    let one : n < 10 = omega arith in
    let number : ((0 + 1 * (n % 10)) + (0 + 1 * 48)) % 256 ≡ 48 + n = omega arith in
    ap (λ (x : ℕ). x ∷ []) number ∙ sym (decimal_digit n one)
values-decimal (suc k) n many few wide =
    let power : 10 ^ suc k ≡ 10 ^ k * 10 = pow-suc 10 k in
    let above : 10 ^ suc (suc k) ≡ 10 ^ suc k * 10 = pow-suc 10 (suc k) in
    let more : 10 ^ k ≤ n / 10 = omega (arith, many, power) in
    let less : n / 10 < 10 ^ suc k = omega (arith, few, above) in
    let some : 1 ≤ 10 ^ k = pow-some k in
    let two : 10 ≤ n = omega (arith, many, power, some) in
    let short : n / 10 < 2 ^ 64 = omega (arith, wide) in
    let p = 256 ^ suc k in
    let d = n % 10 in
    let a = last_digits_one_per_byte (suc k) (n / 10) + zeros (suc k) in
    let parts : p * (48 + d) ≡ p * 48 + p * d = mul-add p 48 d in
    let number : (last_digits_one_per_byte (suc k) (n / 10) + p * d) + (zeros (suc k) + p * 48) ≡ a + p * (48 + d) =
    omega (arith, parts) in
    let small : 48 + d < 256 = omega arith in
    ap (λ (x : ℕ). lowest_bytes_of_number x (suc (suc k))) number
    ∙ low_bytes-last (suc k) a (48 + d) (text-below (suc k) (n / 10)) small
    ∙ ap (λ (l : List ℕ). l ++ (48 + d) ∷ []) (values-decimal k (n / 10) more less short)
    ∙ sym (decimal_step n two wide)
  where
    pow-some : (k : ℕ) → 1 ≤ 10 ^ k
    pow-some zero = omega arith
    pow-some (suc k) = omega (arith, pow-suc 10 k, pow-some k)

-- the first digit of a number of k + 1 digits is not 0
values-first : (k n : ℕ) → 10 ^ k ≤ n → n < 10 ^ suc k → 0 < last_digits_one_per_byte (suc k) n % 256
values-first zero n many few = omega arith
values-first (suc k) n many few =
    let power : 10 ^ suc k ≡ 10 ^ k * 10 = pow-suc 10 k in
    let above : 10 ^ suc (suc k) ≡ 10 ^ suc k * 10 = pow-suc 10 (suc k) in
    let more : 10 ^ k ≤ n / 10 = omega (arith, many, power) in
    let less : n / 10 < 10 ^ suc k = omega (arith, few, above) in
    let q = 256 ^ k * (n % 10) in
    let high : 256 ^ suc k * (n % 10) ≡ q * 256 =
    ap (λ (x : ℕ). x * (n % 10)) (pow-suc 256 k) ∙ mul_assoc (256 ^ k) 256 (n % 10)
    ∙ ap (λ (x : ℕ). 256 ^ k * x) (mul_comm 256 (n % 10)) ∙ sym (mul_assoc (256 ^ k) (n % 10) 256) in
    omega (arith, high, values-first k (n / 10) more less)

-- ---- zeros at the low end

trailing-shifted : (j k y : ℕ) → count_trailing_zeros (j + k) (2 ^ j * y) ≡ j + count_trailing_zeros k y
unfolding count_trailing_zeros
trailing-shifted zero k y =
    let number : 1 * y ≡ y = omega arith in
    let count : 0 + k ≡ k = omega arith in
    let all : 0 + count_trailing_zeros k y ≡ count_trailing_zeros k y = omega arith in
    ap₂ (λ (i x : ℕ). count_trailing_zeros i x) count number ∙ sym all
trailing-shifted (suc j) k y =
    let x = 2 ^ j * y in
    let double : 2 ^ suc j * y ≡ 2 * x =
    ap (λ (p : ℕ). p * y) (pow-suc 2 j ∙ mul_comm (2 ^ j) 2) ∙ mul_assoc 2 (2 ^ j) y in
    let even : (2 * x) % 2 ≡ 0 = omega arith in
    let half : (2 * x) / 2 ≡ x = omega arith in
    let count : suc j + k ≡ suc (j + k) = omega arith in
    let all : suc (j + count_trailing_zeros k y) ≡ suc j + count_trailing_zeros k y = omega arith in
    ap₂ (λ (i n : ℕ). count_trailing_zeros i n) count double
    ∙ ap₂ (λ (d t : ℕ). under d t) even (ap (count_trailing_zeros (j + k)) half ∙ trailing-shifted j k y)
    ∙ all

under-below : (bit rest j : ℕ) → (bit ≡ 0 → rest < j) → under bit rest < suc j
under-below zero rest j less = omega (arith, less refl)
under-below (suc bit) rest j less = omega arith

trailing-below : (j k n : ℕ) → j ≤ k → 0 < n % 2 ^ j → count_trailing_zeros k n < j
unfolding count_trailing_zeros
trailing-below zero k n le some = absurd (omega (arith, some))
trailing-below (suc j) zero n le some = absurd (omega (arith, le))
trailing-below (suc j) (suc k) n le some =
    let count : suc j ≡ j + 1 = omega arith in
    let parts : n % 2 ^ suc j ≡ (n / 2 % 2 ^ j) * 2 + n % 2 = ap (λ (i : ℕ). n % 2 ^ i) count ∙ mod-pow-add n j 1 in
    let few : j ≤ k = omega (arith, le) in
    under-below (n % 2) (count_trailing_zeros k (n / 2)) j (λ even.
    let rest : 0 < n / 2 % 2 ^ j = omega (arith, parts, some, even) in
    trailing-below j k (n / 2) few rest)

bytes-power : (z : ℕ) → 256 ^ z ≡ 2 ^ (8 * z)
bytes-power zero = refl
bytes-power (suc z) =
    let count : 8 * suc z ≡ 8 * z + 8 = omega arith in
    pow-suc 256 z ∙ ap (λ (x : ℕ). x * 256) (bytes-power z) ∙ sym (pow-add 2 (8 * z) 8)
    ∙ ap (λ (i : ℕ). 2 ^ i) (sym count)

-- if z low bytes are 0 and the next byte is not, the number of trailing zero bits divided by 8 is z
trailing-bytes : (z y : ℕ) → z ≤ 7 → 0 < y % 256 → count_trailing_zeros 64 (256 ^ z * y) / 8 ≡ z
trailing-bytes z y few some =
    let rest = 64 - 8 * z in
    let count : 64 ≡ 8 * z + rest = omega arith in
    let le : 8 ≤ rest = omega arith in
    let shifted : count_trailing_zeros 64 (256 ^ z * y) ≡ 8 * z + count_trailing_zeros rest y =
    ap₂ (λ (k p : ℕ). count_trailing_zeros k (p * y)) count (bytes-power z) ∙ trailing-shifted (8 * z) rest y in
    let last : count_trailing_zeros rest y < 8 = trailing-below 8 rest y le some in
    omega (arith, shifted, last)

-- ---- a number with at most a given number of digits

record HasDigits (most number : ℕ) : Type 0 where
  before : ℕ
  others : ℕ
  all : before + suc others ≡ most
  many : 10 ^ others ≤ number
  few : number < 10 ^ suc others

has-digits : (most n : ℕ) → 0 < n → n < 10 ^ most → HasDigits most n
has-digits zero n some few = absurd (omega arith)
has-digits (suc most) n some few =
    elim (cases_lt n (10 ^ most)) [
      | inl less ↦
          let rest = has-digits most n some less in
          record { before = suc rest.before; others = rest.others; all = omega (arith, rest.all); many = rest.many; few = rest.few }
      | inr more ↦ record { before = 0; others = most; all = omega arith; many = more; few = few }
    ]

-- the digits of a number, as the low bytes of another number
pub record AreDigits (number before bytes : ℕ) : Type 0 where
  pub most : before ≤ 5
  pub small : bytes < 281474976710656
  pub text : lowest_bytes_of_number bytes (6 - before) ≡ decimal number

pub digits-text : (n x before : ℕ) → 0 < n → n < 1000000 → x ≡ last_digits_one_per_byte 6 n
    → before ≡ count_trailing_zeros 64 x / 8
    → AreDigits n before ((x + 52983525027888) / 2 ^ (8 * before))
digits-text n x before some few is found =
    let has = has-digits 6 n some few in
    let z = has.before in
    let k = has.others in
    let v = last_digits_one_per_byte (suc k) n in
    let wide : n < 2 ^ 64 = omega (arith, few) in
    let values : x ≡ 256 ^ z * v =
    is ∙ ap (λ (j : ℕ). last_digits_one_per_byte j n) (sym has.all) ∙ values-after_zeros z (suc k) n has.few in
    let within : z ≤ 5 = omega (arith, has.all) in
    let seven : z ≤ 7 = omega (arith, within) in
    let same : before ≡ z =
    found ∙ ap (λ (y : ℕ). count_trailing_zeros 64 y / 8) values
    ∙ trailing-bytes z v seven (values-first k n has.many has.few) in
    let zero_digits : 52983525027888 ≡ zeros z + 256 ^ z * zeros (suc k) =
    ap zeros (sym has.all) ∙ zeros-parts z (suc k) in
    let both : 256 ^ z * (v + zeros (suc k)) ≡ 256 ^ z * v + 256 ^ z * zeros (suc k) =
    mul-add (256 ^ z) v (zeros (suc k)) in
    let order : (v + zeros (suc k)) * 256 ^ z ≡ 256 ^ z * (v + zeros (suc k)) =
    mul_comm (v + zeros (suc k)) (256 ^ z) in
    let whole : x + 52983525027888 ≡ (v + zeros (suc k)) * 256 ^ z + zeros z =
    omega (arith, values, zero_digits, both, order) in
    let text : (x + 52983525027888) / 2 ^ (8 * before) ≡ v + zeros (suc k) =
    ap₂ (λ (y p : ℕ). y / p) whole (ap (λ (i : ℕ). 2 ^ (8 * i)) same ∙ sym (bytes-power z))
    ∙ div-mul-add (v + zeros (suc k)) (256 ^ z) (zeros z) (zeros-below z) in
    let size : 6 - before ≡ suc k = omega (arith, same, has.all) in
    let some_byte : 0 < 256 = omega arith in
    let least : suc k ≤ 6 = omega (arith, has.all) in
    record {
      most = omega (arith, same, within);
      small = omega (arith, text, text-below (suc k) n, pow-le-pow_right {n = 256} some_byte {i = suc k} {j = 6} least);
      text = ap₂ lowest_bytes_of_number text size ∙ values-decimal k n has.many has.few wide;
    }

-- the text of a number of seven digits is its first digit and the six others
pub seven-digits : (n x : ℕ) → 1000000 ≤ n → n < 10000000 → x ≡ last_digits_one_per_byte 6 (n % 1000000)
    → lowest_bytes_of_number ((x + 52983525027888) * 256 + (n / 1000000 + 48)) 7 ≡ decimal n
seven-digits n x many few is =
    let wide : n < 2 ^ 64 = omega (arith, few) in
    let lower : n % 1000000 < 1000000 = omega arith in
    let parts : n / 1000000 * 1000000 + n % 1000000 ≡ n = omega arith in
    let first : n / 1000000 % 10 ≡ n / 1000000 = omega (arith, few) in
    let values : last_digits_one_per_byte 7 n ≡ (0 + 1 * (n / 1000000 % 10)) + 256 * last_digits_one_per_byte 6
    (n % 1000000) =
    ap (last_digits_one_per_byte 7) (sym parts) ∙ values-parts 1 6 (n / 1000000) (n % 1000000) lower in
    let bytes : (x + 52983525027888) * 256 + (n / 1000000 + 48) ≡ last_digits_one_per_byte 7 n + 13563782407139376 =
    omega (arith, is, values, first) in
    ap (λ (y : ℕ). lowest_bytes_of_number y 7) bytes ∙ values-decimal 6 n many few wide
