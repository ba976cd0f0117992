-- Cells whose bytes are in the buffer.
use Rattle.std.proofs.Common.{◌≡◌, ℕ, pos, suc, ◌+◌, ◌-◌, ◌*◌, ◌^◌, ◌<◌, ◌≤◌, List, [], ◌∷◌, ◌++◌, Some, Bool, true, false, drop, take, zero, length, length-take, drop-cons, add-one, refl, ap, sym, ◌∙◌, arith, append-nil, append_assoc, length-append, Ok, not}
use Rattle.std.specs.Prelude.{◌==◌, ◌&&◌, neg_ℤ, slice_index_or}
use Rattle.std.specs.List.{list_all}
use Rattle.std.proofs.lemmas.Bool.Decides.{nat_tests}
use Rattle.cell_core.specs.Grid.{CellValue}
use Rattle.cell_ascii_meaning.specs.GridTokens.{is_space, is_word_byte, word_continued_in_bytes}
use Rattle.cell_ascii_meaning.specs.EdgeNumbers.{is_digit, value_of_digits, value_if_digits, whole_number_of_text}
use Rattle.cell_ascii_meaning.specs.Header.{GridHeaderContents}
use Rattle.cell_ascii_meaning.specs.CellTexts.{next_cell_after_position, cell_of_word, cell_at_word_start}
use Rattle.cell_ascii_meaning.specs.CellTexts.{cell_of_word_at_line}
use Rattle.cell_ascii_meaning.specs.CellTexts.{cell_and_position_after_word, position_without_pending_word}
use Rattle.cell_ascii.specs.BufferedCells.{BytesHoldNextCell, FirstBytesHoldNextWord, BytesStartWithNumber}
use Rattle.cell_ascii.specs.BufferedCells.{first_bytes_without_space}
use Rattle.std.proofs.lemmas.List.{take-append-drop, take-take, get_or-take}
use Rattle.std.proofs.Math.Nat.{pow-le-pow_right}
use Rattle.std.proofs.Math.Seq.{take-length}
use Rattle.cell_ascii_reading.proofs.DigitLemmas.{value_below}
use Rattle.cell_ascii_meaning.proofs.TokenLemmas.{start-next, start-begins, word-stops, word-more}

pub both : (a b : Bool) → (a && b) ≡ true → (a ≡ true) × (b ≡ true)
both true b e = (refl, e)
both false b e = cc

pub no_space : (b : ℕ) → is_word_byte b ≡ true → is_space b ≡ false
no_space b e = by (is_space b) e
  where
    by : (s : Bool) → not s ≡ true → s ≡ false
    by true e = cc
    by false e = refl

-- a buffered word is read up to the blank that ends it, after any part read before
pub word_ahead : (line : ℕ) (front word : List ℕ) (e : ℕ) (bs : List ℕ) (f : Bool) → list_all is_word_byte word ≡ true → length front + length word ≤ 64 → is_space e ≡ true
    → word_continued_in_bytes line front (record { bytes = word ++ e ∷ bs; fails = f }) ≡ Ok (front ++ word, record { bytes = e ∷ bs; fails = f })
word_ahead line front [] e bs f w short space =
    let low : length front ≤ 64 = omega arith in
    word-stops line front low e bs f space ∙ ap (λ (x : List ℕ). Ok (x, record { bytes = e ∷ bs; fails = f })) (sym (append-nil front))
word_ahead line front (b ∷ word) e bs f w short space =
    let parts = both (is_word_byte b) (list_all is_word_byte word) w in
    let low : length front ≤ 64 = omega arith in
    let longer : length (front ++ b ∷ []) + length word ≤ 64 = omega (arith, length-append front (b ∷ [])) in
    word-more line front low b (word ++ e ∷ bs) f (no_space b parts.0)
    ∙ word_ahead line (front ++ b ∷ []) word e bs f parts.1 longer space
    ∙ ap (λ (x : List ℕ). Ok (x, record { bytes = e ∷ bs; fails = f })) (append_assoc front (b ∷ []) word)

-- a word after a space is read as the next cell
reads_word : (h : GridHeaderContents) (a : ℕ) (word : List ℕ) (e : ℕ) (bs : List ℕ) (f : Bool) (v : CellValue)
    → list_all is_word_byte (a ∷ word) ≡ true → length word < 64 → is_space e ≡ true → cell_of_word h (a ∷ word) ≡ Ok v
    → (line run : ℕ) → run < 1048576
    → next_cell_after_position h (position_without_pending_word line run (record { bytes = 32 ∷ a ∷ (word ++ e ∷ bs); fails = f })) ≡ Ok (v, position_without_pending_word line 0 (record { bytes = e ∷ bs; fails = f }))
unfolding next_cell_after_position
reads_word h a word e bs f v w short space cell line run room =
    let parts = both (is_word_byte a) (list_all is_word_byte word) w in
    let low : run ≤ 1048576 = omega arith in
    let lower : run + 1 ≤ 1048576 = omega arith in
    let count : 0 + length (a ∷ word) ≤ 64 = omega arith in
    let stays : line + 0 ≡ line = omega arith in
    let rest = a ∷ (word ++ e ∷ bs) in
    ap (cell_at_word_start h) (start-next line run low 32 line rest f refl room stays ∙ start-begins line (run + 1) lower a (word ++ e ∷ bs) f (no_space a parts.0))
    ∙ ap (cell_of_word_at_line h line) (word_ahead line [] (a ∷ word) e bs f w count space)
    ∙ ap (cell_and_position_after_word line (record { bytes = e ∷ bs; fails = f })) cell

digit_word : (b : ℕ) → is_digit b ≡ true → is_word_byte b ≡ true
digit_word b e = grind (arith, nat_tests)

digits_word : (bs : List ℕ) → list_all is_digit bs ≡ true → list_all is_word_byte bs ≡ true
digits_word [] e = refl
digits_word (b ∷ bs) e =
    let parts = both (is_digit b) (list_all is_digit bs) e in
    rw (digit_word b parts.0) (digits_word bs parts.1)

no_minus : (b : ℕ) → is_digit b ≡ true → (b == 45) ≡ false
no_minus b e = grind (arith, nat_tests)

no_plus : (b : ℕ) → is_digit b ≡ true → (b == 43) ≡ false
no_plus b e = grind (arith, nat_tests)

pub digits_number : (b : ℕ) (bs : List ℕ) → list_all is_digit (b ∷ bs) ≡ true → whole_number_of_text (b ∷ bs) ≡ Some (pos (value_of_digits (b ∷ bs)))
digits_number b bs e =
    let parts = both (is_digit b) (list_all is_digit bs) e in
    rw (no_minus b parts.0, no_plus b parts.0, e) refl

-- a list consists of the items before an index, the item at the index and the items after it
cut_at : (xs : List ℕ) (i : ℕ) → i < length xs → xs ≡ take i xs ++ slice_index_or xs i 0 ∷ drop (i + 1) xs
cut_at xs i l = let e : drop i xs ≡ slice_index_or xs i 0 ∷ drop (i + 1) xs = rw add-one (drop-cons xs i 0 l) in sym (take-append-drop i xs) ∙ ap (λ (ys : List ℕ). take i xs ++ ys) e

-- a list that begins with a space, a word and a blank holds the cell of the word
holds_whole : (bs rest : List ℕ) (n : ℕ) → bs ≡ 32 ∷ rest → 0 < n → n ≤ 64 → n < length rest → list_all is_word_byte (take n rest) ≡ true → is_space (slice_index_or rest n 0) ≡ true
    → (h : GridHeaderContents) (v : CellValue) → cell_of_word h (first_bytes_without_space bs (n + 1)) ≡ Ok v
    → BytesHoldNextCell h bs v (n + 1)
holds_whole bs [] n e some most l word space = absurd (omega arith)
holds_whole bs (a ∷ rest) zero e some most l word space = absurd (omega arith)
holds_whole bs (a ∷ rest) (suc n) e some most l word space = λ h v cell line run room c.
    let within : n < length rest = omega arith in
    let short : length (take n rest) < 64 = omega (arith, length-take n rest) in
    let more = drop (n + 1) rest ++ c.bytes in
    let byte = slice_index_or rest n 0 in
    let whole : rest ++ c.bytes ≡ take n rest ++ byte ∷ more = ap (λ (ys : List ℕ). ys ++ c.bytes) (cut_at rest n within) ∙ append_assoc (take n rest) (byte ∷ drop (n + 1) rest) c.bytes in
    let left : drop n rest ++ c.bytes ≡ byte ∷ more = rw (add-one, drop-cons rest n 0 within) refl in
    let count : suc n + 1 ≡ suc (suc n) = omega arith in
    let minus : suc n + 1 - 1 ≡ suc n = omega arith in
    let same : cell_of_word h (a ∷ take n rest) ≡ Ok v = rw (e, minus) at cell in
    rw (e, count, whole, left) (reads_word h a (take n rest) byte more c.fails v word short space same line run room)

-- the bytes up to the blank after a word are enough to hold the cell of the word
pub holds_word : (bs rest : List ℕ) (n : ℕ) → bs ≡ 32 ∷ rest → 0 < n → n ≤ 64 → n < length rest → list_all is_word_byte (take n rest) ≡ true → is_space (slice_index_or rest n 0) ≡ true → FirstBytesHoldNextWord bs (n + 1)
holds_word bs rest n e some most l word space = λ h v cell.
    let front = take (n + 1) rest in
    let count : n + 1 + 1 ≡ suc (n + 1) = omega arith in
    let minus : n + 1 - 1 ≡ n = omega arith in
    let shorter : n ≤ n + 1 = omega arith in
    let here : n < n + 1 = omega arith in
    let cut : take (n + 1 + 1) bs ≡ 32 ∷ front = ap (take (n + 1 + 1)) e ∙ ap (λ (k : ℕ). take k (32 ∷ rest)) count in
    let within : n < length front = omega (arith, length-take (n + 1) rest) in
    let same_word : take n front ≡ take n rest = take-take n (n + 1) rest shorter in
    let same_byte : slice_index_or front n 0 ≡ slice_index_or rest n 0 = get_or-take (n + 1) rest n 0 here in
    let after : List ℕ → List ℕ = λ l. take (n + 1 - 1) (drop 1 l) in
    let same : first_bytes_without_space (take (n + 1 + 1) bs) (n + 1) ≡ first_bytes_without_space bs (n + 1) = ap after cut ∙ ap (λ (k : ℕ). take k front) minus ∙ same_word ∙ sym (ap (λ (k : ℕ). take k rest) minus) ∙ sym (ap after e) in
    holds_whole (take (n + 1 + 1) bs) front n cut some most within (ap (list_all is_word_byte) same_word ∙ word) (ap is_space same_byte ∙ space) h v (ap (cell_of_word h) same ∙ cell)

-- a space and digits contain the next word
pub holds_positive : (bs rest : List ℕ) (value n : ℕ) → bs ≡ 32 ∷ rest → BytesStartWithNumber rest value n
    → FirstBytesHoldNextWord bs (n + 1)
holds_positive bs rest value n e is = holds_word bs rest n e is.some (omega (arith, is.few)) is.within (digits_word (take n rest) is.digits) is.ends

-- a space, a minus and digits contain the next word
pub holds_negative : (bs rest : List ℕ) (value n : ℕ) → bs ≡ 32 ∷ 45 ∷ rest → BytesStartWithNumber rest value n → FirstBytesHoldNextWord bs (n + 2)
holds_negative bs rest value n e is =
    let next : n + 1 ≡ suc n = omega arith in
    let count : n + 1 + 1 ≡ n + 2 = omega arith in
    let within : n + 1 < length (45 ∷ rest) = omega (arith, is.within) in
    let word : list_all is_word_byte (take (n + 1) (45 ∷ rest)) ≡ true = rw next (digits_word (take n rest) is.digits) in
    let ends : is_space (slice_index_or (45 ∷ rest) (n + 1) 0) ≡ true = rw next is.ends in
    rw (← count) (holds_word bs (45 ∷ rest) (n + 1) e (omega arith) (omega (arith, is.few)) within word ends)

some_digits : (rest : List ℕ) (value n : ℕ) → BytesStartWithNumber rest value n
    → value_if_digits (take n rest) ≡ Some value
some_digits rest value zero is = absurd (let some = is.some in omega arith)
some_digits [] value (suc n) is = absurd (let within = is.within in omega arith)
some_digits (b ∷ rest) value (suc n) is = rw (is.digits, ← is.sum) refl

-- digits after a space denote the value of the digits
pub positive : (bs rest : List ℕ) (value n : ℕ) → bs ≡ 32 ∷ rest → BytesStartWithNumber rest value n → whole_number_of_text (first_bytes_without_space bs (n + 1)) ≡ Some (pos value)
positive bs rest value zero e is = absurd (let some = is.some in omega arith)
positive bs [] value (suc n) e is = absurd (let within = is.within in omega arith)
positive bs (b ∷ rest) value (suc n) e is =
    let count : suc n + 1 - 1 ≡ suc n = omega arith in
    rw (e, count) (digits_number b (take n rest) is.digits ∙ ap (λ (m : ℕ). Some (pos m)) (sym is.sum))

-- digits after a space and a minus denote the negated value of the digits
pub negative : (bs rest : List ℕ) (value n : ℕ) → bs ≡ 32 ∷ 45 ∷ rest → BytesStartWithNumber rest value n → whole_number_of_text (first_bytes_without_space bs (n + 2)) ≡ Some (neg_ℤ (pos value))
negative bs rest value n e is =
    let count : n + 2 - 1 ≡ suc n = omega arith in
    rw (e, count, some_digits rest value n is) refl

all_one : (a : ℕ) → is_digit a ≡ true → list_all is_digit (a ∷ []) ≡ true
all_one a e = rw e refl

all_two : (a b : ℕ) → is_digit a ≡ true → is_digit b ≡ true → list_all is_digit (a ∷ b ∷ []) ≡ true
all_two a b e f = rw (e, f) refl

all_three : (a b c : ℕ) → is_digit a ≡ true → is_digit b ≡ true → is_digit c ≡ true → list_all is_digit (a ∷ b ∷ c ∷ []) ≡ true
all_three a b c e f g = rw (e, f, g) refl

-- one digit and a space are a numeral
pub short_one : (a b : ℕ) (bs : List ℕ) → is_digit a ≡ true → is_space b ≡ true
    → BytesStartWithNumber (a ∷ b ∷ bs) (a - 48) 1
short_one a b bs da eb =
    record { some = omega arith; few = omega arith; within = omega arith; digits = all_one a da; sum = omega arith; ends = eb }

-- two digits and a space are a numeral
pub short_two : (a b c : ℕ) (bs : List ℕ) → is_digit a ≡ true → is_digit b ≡ true → is_space c ≡ true
    → BytesStartWithNumber (a ∷ b ∷ c ∷ bs) ((a - 48) * 10 + (b - 48)) 2
short_two a b c bs da db ec =
    record { some = omega arith; few = omega arith; within = omega arith; digits = all_two a b da db; sum = omega arith; ends = ec }

-- three digits and a space are a numeral
pub short_three : (a b c d : ℕ) (bs : List ℕ) → is_digit a ≡ true → is_digit b ≡ true → is_digit c ≡ true → is_space d ≡ true
    → BytesStartWithNumber (a ∷ b ∷ c ∷ d ∷ bs) (((a - 48) * 10 + (b - 48)) * 10 + (c - 48)) 3
short_three a b c d bs da db dc ed =
    record { some = omega arith; few = omega arith; within = omega arith; digits = all_three a b c da db dc; sum = omega arith; ends = ed }

-- at most eight digits have a value below 100,000,000
pub few_below : (bs : List ℕ) → list_all is_digit bs ≡ true → length bs ≤ 8 → value_of_digits bs < 100000000
few_below bs e l = let more : 10 ^ length bs ≤ 10 ^ 8 = pow-le-pow_right (omega arith) l in omega (arith, value_below bs e, more)

-- the value of a numeral is below 2^63
pub numeral_below : (bs : List ℕ) (value n : ℕ) → BytesStartWithNumber bs value n → value < 2 ^ 63
numeral_below bs value n is =
    let most : length (take n bs) ≤ 9 = omega (arith, length-take n bs, is.few) in
    let more : 10 ^ length (take n bs) ≤ 10 ^ 9 = pow-le-pow_right (omega arith) most in
    omega (arith, value_below (take n bs) is.digits, is.sum, more)

-- a list consists of its first byte and the other bytes
pub first_rest : (bs : List ℕ) (b : ℕ) → 1 ≤ length bs → slice_index_or bs 0 0 ≡ b → bs ≡ b ∷ take (length bs - 1) (drop 1 bs)
first_rest [] b l s = absurd (omega arith)
first_rest (x ∷ xs) b l s =
    let count : suc (length xs) - 1 ≡ length xs = omega arith in
    rw (s, count, take-length xs) refl

pub digit_last : (b : ℕ) → is_digit b ≡ true → b ≤ 57
digit_last b e = grind (arith, nat_tests)

-- bytes that begin with a space consist of the space, four more bytes and the rest
pub front_space : (bs : List ℕ) → 6 ≤ length bs → slice_index_or bs 0 0 ≡ 32
    → bs ≡ 32 ∷ slice_index_or bs 1 0 ∷ slice_index_or bs 2 0 ∷ slice_index_or bs 3 0 ∷ slice_index_or bs 4 0 ∷ drop 5 bs
front_space [] l e = absurd (omega arith)
front_space (x ∷ []) l e = absurd (omega arith)
front_space (x ∷ a ∷ []) l e = absurd (omega arith)
front_space (x ∷ a ∷ b ∷ []) l e = absurd (omega arith)
front_space (x ∷ a ∷ b ∷ c ∷ []) l e = absurd (omega arith)
front_space (x ∷ a ∷ b ∷ c ∷ d ∷ bs) l e = ap (λ (y : ℕ). y ∷ a ∷ b ∷ c ∷ d ∷ bs) e

-- bytes that begin with a space and a minus consist of these two, four more bytes and the rest
pub front_minus : (bs : List ℕ) → 6 ≤ length bs → slice_index_or bs 0 0 ≡ 32 → slice_index_or bs 1 0 ≡ 45
    → bs ≡ 32 ∷ 45 ∷ slice_index_or bs 2 0 ∷ slice_index_or bs 3 0 ∷ slice_index_or bs 4 0 ∷ slice_index_or bs 5 0 ∷ drop 6 bs
front_minus [] l e m = absurd (omega arith)
front_minus (x ∷ []) l e m = absurd (omega arith)
front_minus (x ∷ y ∷ []) l e m = absurd (omega arith)
front_minus (x ∷ y ∷ a ∷ []) l e m = absurd (omega arith)
front_minus (x ∷ y ∷ a ∷ b ∷ []) l e m = absurd (omega arith)
front_minus (x ∷ y ∷ a ∷ b ∷ c ∷ []) l e m = absurd (omega arith)
front_minus (x ∷ y ∷ a ∷ b ∷ c ∷ d ∷ bs) l e m = rw (e, m) refl
