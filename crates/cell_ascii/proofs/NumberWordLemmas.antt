-- Words of digits in a block, each after one blank.
use Rattle.std.proofs.Common.{◌≡◌, ℕ, zero, suc, ◌+◌, ◌-◌, ◌<◌, ◌≤◌, leb, cond, not, Bool, true, false, pos, List}
use Rattle.std.proofs.Common.{[], ◌∷◌, ◌++◌, Some, Ok, map, length, take, drop, get_or, refl, sym, ap, ap₂, ◌∙◌, arith}
use Rattle.std.proofs.Common.{length-drop}
use Rattle.std.specs.List.{list_all}
use Rattle.std.specs.Int.{bit_at}
use Rattle.std.proofs.lemmas.List.{get_or-drop, take_rest}
use Rattle.std.proofs.lemmas.Bool.Decides.{nat_tests}
use Rattle.cell_ascii_meaning.specs.GridTokens.{is_space, is_word_byte, line_feed_count}
use Rattle.cell_ascii_meaning.specs.EdgeNumbers.{is_digit, value_of_digits}
use Rattle.cell_ascii_meaning.specs.Header.{GridHeaderContents}
use Rattle.cell_ascii_meaning.specs.CellTexts.{cell_of_word}
use Rattle.cell_ascii.specs.TableWords.{BytesHoldNextCellsAndLineFeeds, blanks, flags_with_first_cleared}
use Rattle.cell_core.specs.Grid.{CellValue}
use Rattle.cell_ascii_reading.specs.InRange.{DigitWordsDenoteTheirNumber}
use Rattle.cell_ascii_lanes.specs.NumberLanes.{AreNumbersUpToSevenDigits}
use Rattle.cell_ascii.proofs.BitLemmas.{NextEnd, next_end}
use Rattle.cell_ascii.proofs.WordLemmas.{word-more, gap-one}
use Rattle.cell_ascii_lanes.proofs.BlockByteLemmas.{all_from, one_from, bit_of}
use Rattle.cell_ascii.proofs.ByteBlockLemmas.{digits_word}
use lib.Bits.{bit_and}
use lib.Count.{count_trailing_zeros}
use lib.Lanes.{mask_l}

-- the first n bytes denote the cell of their value if they are digits
pub digits_cell : (h : GridHeaderContents) → DigitWordsDenoteTheirNumber h → (n : ℕ) (bs : List ℕ) (v : ℕ) → 0 < n
    → n ≤ length bs
    → list_all is_digit (take n bs) ≡ true
    → v ≡ value_of_digits (take n bs) → v < 100000000 → cell_of_word h (take n bs) ≡ Ok (Some (pos v))
digits_cell h plain zero bs v some within digits is small = absurd (omega arith)
digits_cell h plain (suc n) [] v some within digits is small = absurd (omega arith)
digits_cell h plain (suc n) (b ∷ bs) v some within digits is small =
    digits_word h plain b (take n bs) v digits is small

-- each word of a block has one to seven digits and follows one blank
pub record IsNumberBlock (bs : List ℕ) : Type 0 where
  pub first : is_space (get_or bs 0 0) ≡ true
  pub known : (i : ℕ) → i < 64 → is_space (get_or bs i 0) ≡ false → is_digit (get_or bs i 0) ≡ true
  pub apart : (i : ℕ) → i + 1 < 64 → is_space (get_or bs i 0) ≡ true → is_space (get_or bs (i + 1) 0) ≡ false
  pub few : (i : ℕ) → i + 7 < 64 → ((j : ℕ) → j < 7 → is_space (get_or bs (i + j) 0) ≡ false)
      → is_space (get_or bs (i + 7) 0) ≡ true

abbrev bit : Bool → ℕ
bit b = cond b 1 0

on : (b : Bool) → bit b ≡ 1 → b ≡ true
on true e = refl
on false e = absurd (omega arith)

off : (b : Bool) → bit b ≡ 0 → b ≡ false
off true e = absurd (omega arith)
off false e = refl

pub number_block : (bs : List ℕ) → 64 ≤ length bs → (m d : ℕ) → m ≡ mask_l (blanks bs)
    → d ≡ mask_l (map is_digit (take 64 bs)) → AreNumbersUpToSevenDigits m d
    → IsNumberBlock bs
number_block bs long m d a b numbers =
    let is : AreNumbersUpToSevenDigits (mask_l (blanks bs)) (mask_l (map is_digit (take 64 bs))) = rw
    (a, b) at numbers in
    let space = bit_of bs long is_space in
    let digit = bit_of bs long is_digit in
    record {
      first = on (is_space (get_or bs 0 0)) (sym (space 0 (omega arith)) ∙ is.first);
      known = λ i lt word. on (is_digit (get_or bs i 0)) (sym (digit i lt) ∙ is.known i lt (space i lt ∙ ap bit word));
      apart = λ i lt blank. off (is_space (get_or bs (i + 1) 0))
          (sym (space (i + 1) lt) ∙ is.apart i lt (space i (omega arith) ∙ ap bit blank));
      few = λ i lt each. on (is_space (get_or bs (i + 7) 0)) (sym (space (i + 7) lt)
          ∙ is.few i lt (λ j less. space (i + j) (omega arith) ∙ ap bit (each j less)));
    }

unlike : (b : Bool) → b ≡ true → b ≡ false → ⊥
unlike true e f = cc
unlike false e f = cc

word_no_space : (b : ℕ) → is_word_byte b ≡ true → is_space b ≡ false
word_no_space b e = by (is_space b) refl e
  where
    by : (s : Bool) → is_space b ≡ s → not s ≡ true → is_space b ≡ false
    by true o n = cc
    by false o n = o

-- the next word begins one byte after the blank `last` and ends at the lowest set bit
pub record NextNumber (bs : List ℕ) (last ends : ℕ) : Type 0 where
  pub end : NextEnd bs (last + 1) ends
  pub some : last + 1 < count_trailing_zeros 64 ends
  pub few : count_trailing_zeros 64 ends ≤ last + 8
  pub digits : list_all is_digit (take (count_trailing_zeros 64 ends - (last + 1)) (drop (last + 1) bs)) ≡ true

pub next_number : (bs : List ℕ) → 64 ≤ length bs → IsNumberBlock bs → (last ends : ℕ)
    → is_space (get_or bs last 0) ≡ true → 0 < ends
    → ends ≡ mask_l (flags_with_first_cleared (last + 1) (blanks bs)) → NextNumber bs last ends
next_number bs long block last ends blank set is = record { end = next; some = some; few = few; digits = digits }
  where
    next : NextEnd bs (last + 1) ends
    next = next_end bs (last + 1) ends long set is

    end : ℕ
    end = count_trailing_zeros 64 ends

    size : ℕ
    size = end - (last + 1)

    inside : size ≤ length (drop (last + 1) bs)
    inside = let n = next in omega (arith, n.few, n.behind, length-drop (last + 1) bs)

    word : (i : ℕ) → i < size → is_space (get_or bs (last + 1 + i) 0) ≡ false
    word i lt =
        word_no_space (get_or bs (last + 1 + i) 0)
        (ap is_word_byte (sym (get_or-drop (last + 1) bs i 0))
        ∙ one_from is_word_byte size (drop (last + 1) bs) inside next.word i lt)

    some : last + 1 < end
    some = by (leb end (last + 1)) refl
      where
        by : (b : Bool) → leb end (last + 1) ≡ b → last + 1 < end
        by false e = grind (arith, nat_tests)
        by true e =
            let le : end ≤ last + 1 = grind (arith, nat_tests) in
            let n = next in
            let same : end ≡ last + 1 = omega (arith, le, n.behind) in
            let here : is_space (get_or bs (last + 1) 0) ≡ true = ap (λ k. is_space (get_or bs k 0)) (sym same)
            ∙ n.blank in
            absurd (unlike (is_space (get_or bs (last + 1) 0)) here
            (block.apart last (omega (arith, n.few, same)) blank))

    few : end ≤ last + 8
    few = by (leb end (last + 8)) refl
      where
        by : (b : Bool) → leb end (last + 8) ≡ b → end ≤ last + 8
        by true e = grind (arith, nat_tests)
        by false e =
            let more : last + 8 < end = grind (arith, nat_tests) in
            let n = next in
            absurd (unlike (is_space (get_or bs (last + 1 + 7) 0))
            (block.few (last + 1) (omega (arith, n.few, more)) (λ j less. word j (omega (arith, more, less))))
            (word 7 (omega (arith, more))))

    digits : list_all is_digit (take size (drop (last + 1) bs)) ≡ true
    digits =
        all_from is_digit size (drop (last + 1) bs) inside
        (λ i lt. let n = next in ap is_digit (get_or-drop (last + 1) bs i 0)
        ∙ block.known (last + 1 + i) (omega (arith, n.few, lt)) (word i lt))

-- clearing the lowest set bit of a block that begins with a blank leaves the later blanks
pub first_ends : (bs : List ℕ) → 64 ≤ length bs → is_space (get_or bs 0 0) ≡ true → (m : ℕ) → m ≡ mask_l (blanks bs)
    → (0 < m) × (bit_and m (m - 1) ≡ mask_l (flags_with_first_cleared 1 (blanks bs)))
first_ends bs long blank m is =
    let on_bit : bit_at m 0 ≡ 1 = ap (λ n. bit_at n 0) is ∙ bit_of bs long is_space 0 (omega arith) ∙ ap bit blank in
    let some : 0 < m = by m on_bit in
    let next = next_end bs 0 m long some is in
    (some, next.next ∙ ap (λ k. mask_l (flags_with_first_cleared (k + 1) (blanks bs))) (none next))
  where
    by : (n : ℕ) → bit_at n 0 ≡ 1 → 0 < n
    by zero e = absurd (omega arith)
    by (suc n) e = omega arith

    none : NextEnd bs 0 m → count_trailing_zeros 64 m ≡ 0
    none next = at (count_trailing_zeros 64 m) refl
      where
        at : (k : ℕ) → count_trailing_zeros 64 m ≡ k → count_trailing_zeros 64 m ≡ 0
        at zero e = e
        at (suc k) e =
            let within : suc k ≤ length bs = omega (arith, next.few, e, long) in
            let count : suc k ≡ count_trailing_zeros 64 m - 0 = omega (arith, e) in
            let word : list_all is_word_byte (take (suc k) bs) ≡ true =
            ap (λ n. list_all is_word_byte (take n bs)) count ∙ next.word in
            absurd (unlike (is_space (get_or bs 0 0)) blank (word_no_space (get_or bs 0 0)
            (one_from is_word_byte (suc k) bs within word 0 (omega arith))))

-- the next two words, one after the other
pub record TwoNumbers (bs : List ℕ) (last ends others : ℕ) : Type 0 where
  pub first : NextNumber bs last ends
  pub second : NextNumber bs (count_trailing_zeros 64 ends) others

pub two_numbers : (bs : List ℕ) → 64 ≤ length bs → IsNumberBlock bs → (last ends others : ℕ)
    → is_space (get_or bs last 0) ≡ true → 0 < ends
    → ends ≡ mask_l (flags_with_first_cleared (last + 1) (blanks bs)) → others ≡ bit_and ends (ends - 1) → 0 < others
    → TwoNumbers bs last ends others
two_numbers bs long block last ends others blank set is next more =
    let first = next_number bs long block last ends blank set is in
    record {
      first = first;
      second = next_number bs long block (count_trailing_zeros 64 ends) others first.end.blank
          more (next ∙ first.end.next);
    }

-- the next word of digits adds one more cell
pub number_more : (h : GridHeaderContents) → DigitWordsDenoteTheirNumber h → (bs : List ℕ) → 64 ≤ length bs
    → (cells : List CellValue) (count last ends v : ℕ) → last < 64
    → is_space (get_or bs last 0) ≡ true → NextNumber bs last ends
    → v ≡ value_of_digits (take (count_trailing_zeros 64 ends - last - 1)
    (take (length bs - (last + 1)) (drop (last + 1) bs))) → v < 100000000
    → BytesHoldNextCellsAndLineFeeds h bs cells count last (line_feed_count (take last bs))
    → BytesHoldNextCellsAndLineFeeds h bs (cells ++ Some (pos v) ∷ []) (count + 1) (count_trailing_zeros 64 ends)
    (line_feed_count (take (count_trailing_zeros 64 ends) bs))
number_more h plain bs long cells count last ends v within blank next is small holds =
    let end = count_trailing_zeros 64 ends in
    let size = end - (last + 1) in
    let rest = drop (last + 1) bs in
    let same : end - last - 1 ≡ size = omega arith in
    let value : v ≡ value_of_digits (take size rest) = is ∙ ap₂ (λ n l. value_of_digits (take n l)) same
    (take_rest bs (last + 1)) in
    let some : 0 < size = omega (arith, next.some) in
    let inside : size ≤ length rest = omega (arith, next.end.few, next.end.behind, length-drop (last + 1) bs) in
    let cell = digits_cell h plain size rest v some inside next.digits value small in
    word-more h bs cells count last (last + 1) end (Some (pos v)) (omega arith) next.some next.end.few
    (omega (arith, next.end.few))
    (gap-one bs last (omega arith) blank) next.end.word next.end.blank cell holds
