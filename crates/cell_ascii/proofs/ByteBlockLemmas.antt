-- The cells of a block of short words.
use Rattle.std.proofs.Common.{◌≡◌, ℕ, zero, suc, ◌+◌, ◌-◌, ◌*◌, ◌/◌, ◌%◌, ◌^◌, ◌<◌, ◌≤◌, w64, eqb, leb, cond, Bool, true, false, not, pos, List, [], ◌∷◌, ◌++◌, Some, None, Ok, map, length, take, drop, get_or, refl, sym, ap, ap₂, ◌∙◌, arith, subst, length-take, length-drop, ◌⊎◌, inl, inr}
use Rattle.std.specs.Prelude.{◌&&◌, bytes_eq}
use Rattle.std.specs.List.{list_all}
use Rattle.std.proofs.lemmas.List.{take_more, drop_more, get_or-drop, get_or-take, get_or-map, length-map, get_or_past}
use Rattle.std.proofs.lemmas.List.{map-append}
use Rattle.std.proofs.lemmas.Bool.{eqb-true}
use Rattle.std.proofs.lemmas.Slice.Eq.{bytes_eq-Decides}
use Rattle.cell_core_values.proofs.NameLemmas.{bytes_eq-differ}
use Rattle.std.proofs.lemmas.Bool.Decides.{nat_tests}
use Rattle.cell_core_values.specs.SmallCells.{cell_of_stored_byte, cells_of_bytes}
use Rattle.cell_ascii_meaning.specs.GridTokens.{is_space, is_word_byte, line_feed_count}
use Rattle.cell_ascii_meaning.specs.EdgeNumbers.{is_digit, value_of_digits, whole_number_of_text, is_in_category_range}
use Rattle.cell_ascii_meaning.specs.Header.{GridHeaderContents, usual_null_text}
use Rattle.cell_ascii_meaning.specs.CellTexts.{cell_of_word}
use Rattle.cell_ascii.specs.TableWords.{BytesHoldNextCellsAndLineFeeds, blanks}
use Rattle.cell_ascii_reading.specs.InRange.{DigitWordsDenoteTheirNumber}
use Rattle.cell_ascii_lanes.specs.WordLanes.{AreWordValuesAtLastDigits, AreStarsOrThreeDigitNumbers, is_null_star}
use Rattle.cell_ascii_lanes.specs.WordLanes.{flagged_items}
use Rattle.cell_ascii_lanes.specs.NullLanes.{IsNullKey}
use Rattle.cell_ascii_lanes.proofs.BlockByteLemmas.{all_from, one_from, space_no_digit, word_of_block, bit_of}
use Rattle.cell_ascii_lanes.proofs.NullWordLemmas.{AreNullLanes, IsNullWord, IsNumberWord, word_is}
use Rattle.cell_ascii.proofs.BufferedLemmas.{digits_number}
use Rattle.cell_ascii_lanes.proofs.ByteBitLemmas.{trues, ones_are, mask-take}
use Rattle.std.specs.Int.{bit_at}
use Rattle.std.specs.Int.RustNames.{count_ones}
use Rattle.std.specs.Int.Count.{count_leading_zeros}
use Rattle.std.proofs.lemmas.Simd.{mask_l-lt}
use Rattle.std.proofs.lemmas.Nat.Bits.{bit_at_not}
use lib.Bits.{bit_and}
use lib.Lanes.{mask_l}
use Rattle.cell_ascii_lanes.proofs.ByteEndLemmas.{ends_of, ends_mask, ends_at, top, top-le, top-set, top-unset, top_is, length-ends, front, length-front, front-mask, front-trues, front-kept, front-top}
use Rattle.cell_ascii.proofs.WordLemmas.{word-more, gap-more, gap-one, BytesHoldNextCellsAndLineFeeds-none}

-- ---- cells of words

in_range : (v : ℕ) → v < 100000000 → is_in_category_range (pos v) ≡ true
in_range v lt = grind (arith, nat_tests)

apart : (b : Bool) → b ≡ true → b ≡ false → ⊥
apart true e f = cc
apart false e f = cc

-- a word of digits differs from a null text that contains another byte
not_null : (null word : List ℕ) → list_all is_digit null ≡ false → list_all is_digit word ≡ true
    → bytes_eq word null ≡ false
not_null null word other digits =
    bytes_eq-differ word null (λ same. apart (list_all is_digit null) (ap (list_all is_digit) (sym same) ∙ digits) other)

-- a word of digits with a value below 100,000,000 denotes the cell of its value
pub digits_word : (h : GridHeaderContents) → DigitWordsDenoteTheirNumber h → (b : ℕ) (word : List ℕ) (v : ℕ)
    → list_all is_digit (b ∷ word) ≡ true → v ≡ value_of_digits (b ∷ word) → v < 100000000 → cell_of_word h (b ∷ word) ≡ Ok (Some (pos v))
digits_word h plain b word v digits is small =
    let other = not_null h.null_text (b ∷ word) plain.null digits in
    let number : whole_number_of_text (b ∷ word) ≡ Some (pos v) = digits_number b word digits
    ∙ ap (λ n. Some (pos n)) (sym is) in
    let one : v * 1 ≡ v = omega arith in
    rw (other, plain.multiplier, number, in_range v small, one, in_range v small) refl

-- a word of digits with a value below 255 denotes the cell that the value stands for as a byte
pub number_word : (h : GridHeaderContents) → DigitWordsDenoteTheirNumber h → (b : ℕ) (word : List ℕ) (v : ℕ)
    → list_all is_digit (b ∷ word) ≡ true → v ≡ value_of_digits (b ∷ word) → v < 255
    → cell_of_word h (b ∷ word) ≡ Ok (cell_of_stored_byte v)
number_word h plain b word v digits is small =
    let other : eqb v 255 ≡ false = grind (arith, nat_tests) in
    rw other (digits_word h plain b word v digits is (omega arith))

-- like `number_word`, for the first bytes of a list
number_from : (h : GridHeaderContents) → DigitWordsDenoteTheirNumber h → (n : ℕ) (bs : List ℕ) (v : ℕ)
    → n + 1 ≤ length bs
    → list_all is_digit (take (n + 1) bs) ≡ true → v ≡ value_of_digits (take (n + 1) bs) → v < 255 → cell_of_word h (take (n + 1) bs) ≡ Ok (cell_of_stored_byte v)
number_from h plain n [] v within digits is small = absurd (omega arith)
number_from h plain n (b ∷ bs) v within digits is small =
    let next : n + 1 ≡ suc n = omega arith in
    ap (λ m. cell_of_word h (take m (b ∷ bs))) next
    ∙ number_word h plain b (take n bs) v (sym (ap (λ m. list_all is_digit (take m (b ∷ bs))) next) ∙ digits) (is ∙ ap (λ m. value_of_digits (take m (b ∷ bs))) next) small

-- the null text denotes null
null_text_cell : (h : GridHeaderContents) → cell_of_word h h.null_text ≡ Ok None
null_text_cell h = let same : bytes_eq h.null_text h.null_text ≡ true = (bytes_eq-Decides h.null_text h.null_text).1 refl in rw same refl

pub star_word : (h : GridHeaderContents) → h.null_text ≡ usual_null_text → (b : ℕ) → is_null_star b ≡ true
    → cell_of_word h (b ∷ []) ≡ Ok None
star_word h null b star = rw (null, eqb-true b 42 star) refl

digit_no_star : (b : ℕ) → is_digit b ≡ true → eqb b 42 ≡ false
digit_no_star b e = grind (arith, nat_tests)

-- ---- the bytes of a block

-- the words of a block are stars and numbers of at most three digits, and the block begins with a blank
pub record IsShortBlock (bs : List ℕ) : Type 0 where
  pub first : is_space (get_or bs 0 0) ≡ true
  pub known : (i : ℕ) → i < 64 → is_space (get_or bs i 0) ≡ false → is_digit (get_or bs i 0) ≡ false → is_null_star (get_or bs i 0) ≡ true
  pub before : (i : ℕ) → i + 1 < 64 → is_null_star (get_or bs (i + 1) 0) ≡ true → is_space (get_or bs i 0) ≡ true
  pub behind : (i : ℕ) → i + 1 < 64 → is_null_star (get_or bs i 0) ≡ true → is_space (get_or bs (i + 1) 0) ≡ true
  pub few : (i : ℕ) → i + 3 < 64 → is_space (get_or bs i 0) ≡ false → is_space (get_or bs (i + 1) 0) ≡ false → is_space (get_or bs (i + 2) 0) ≡ false → is_space (get_or bs (i + 3) 0) ≡ true

-- the byte of each word's cell is at the last byte of the word, and the block begins with a blank
pub record AreWordBytes (h : GridHeaderContents) (bs vs : List ℕ) : Type 0 where
  pub first : is_space (get_or bs 0 0) ≡ true
  pub cell : (at n : ℕ) → at + 1 + n + 1 < 64 → is_space (get_or bs at 0) ≡ true
      → ((i : ℕ) → i < n + 1 → is_space (get_or bs (at + 1 + i) 0) ≡ false) → is_space (get_or bs (at + 1 + n + 1) 0) ≡ true
      → cell_of_word h (take (n + 1) (drop (at + 1) bs)) ≡ Ok (cell_of_stored_byte (get_or vs (at + 1 + n) 0))

-- the byte of each cell is at the last byte of the cell's word, in a block of short words
pub record AreCellBytes (bs vs : List ℕ) : Type 0 where
  pub stars : (p : ℕ) → p < 64 → is_null_star (get_or bs p 0) ≡ true → get_or vs p 0 ≡ 255
  pub numbers : (at n : ℕ) → n < 3 → at + 1 + n < 64 → is_digit (get_or bs at 0) ≡ false → list_all is_digit (take (n + 1) (drop (at + 1) bs)) ≡ true
      → (get_or vs (at + 1 + n) 0 ≡ value_of_digits (take (n + 1) (drop (at + 1) bs))) × (get_or vs (at + 1 + n) 0 < 255)

and-false : (a : Bool) → (a && false) ≡ false
and-false true = refl
and-false false = refl

module _ (bs : List ℕ) (long : 64 ≤ length bs) where
  abbrev ends : List Bool
  ends = ends_of (blanks bs)

  pub sixty_four_ends : length (blanks bs) ≡ 64
  sixty_four_ends = omega (arith, length-map (take 64 bs) is_space, length-take 64 bs)

  long_ends : length ends ≡ 64
  long_ends = length-ends (blanks bs) ∙ sixty_four_ends

  -- the first k + 1 lanes are the first k lanes and lane k
  more_end : (k : ℕ) → k < 64 → take (k + 1) ends ≡ take k ends ++ get_or ends k false ∷ []
  more_end k lt = take_more ends k false (omega (arith, long_ends))

  top_stay : (k last : ℕ) → k < 64 → get_or ends k false ≡ false → last ≡ top (take k ends) → last ≡ top (take (k + 1) ends)
  top_stay k last lt off is = is ∙ sym (ap top (more_end k lt ∙ ap (λ m. take k ends ++ m ∷ []) off) ∙ top-unset (take k ends))

  last_end : get_or ends 63 false ≡ false
  last_end =
      let past : get_or (blanks bs) (63 + 1) false ≡ false = get_or_past (blanks bs) 64 false (omega (arith, sixty_four_ends)) in
      ends_at (blanks bs) 63 (omega (arith, sixty_four_ends)) ∙ ap (λ x. not (get_or (blanks bs) 63 false) && x) past ∙ and-false (not (get_or (blanks bs) 63 false))

  top_low : (q : ℕ) → q ≤ 64 → top (take q ends) < 64
  top_low q le = by (leb q 63) refl
    where
      by : (b : Bool) → leb q 63 ≡ b → top (take q ends) < 64
      by true e = let low : q ≤ 63 = grind (arith, nat_tests) in omega (arith, top-le (take q ends), length-take q ends)
      by false e =
          let more : 63 < q = grind (arith, nat_tests) in
          let all : q ≡ 63 + 1 = omega arith in
          let same = top_stay 63 (top (take 63 ends)) (omega arith) last_end refl ∙ ap (λ j. top (take j ends)) (sym all) in
          omega (arith, same, top-le (take 63 ends), length-take 63 ends)

  pub put_low : (q : ℕ) → q ≤ 64 → (e : ℕ) → e ≡ mask_l (take q ends) → 64 - count_leading_zeros 64 e < 64
  put_low q le e is =
      let ms = front q ends in
      let wide : length ms ≡ 64 = length-front q ends ∙ long_ends in
      let place : 64 - count_leading_zeros 64 e ≡ top (take q ends) =
      ap (λ m. 64 - count_leading_zeros 64 m) (is ∙ front-mask q ends) ∙ top_is ms (omega (arith, wide)) ∙ front-top q ends in
      omega (arith, place, top_low q le)

module _ (h : GridHeaderContents) (bs : List ℕ) (long : 64 ≤ length bs) (vs : List ℕ) (size : length vs ≡ 64) (bytes : AreWordBytes h bs vs) where
  abbrev byte : ℕ → ℕ
  byte p = get_or bs p 0

  abbrev es : List Bool
  es = ends_of (blanks bs)

  abbrev Cells : ℕ → ℕ → Type 0
  Cells k last = BytesHoldNextCellsAndLineFeeds h bs (cells_of_bytes (flagged_items (take k es) vs)) (trues (take k es)) last (line_feed_count (take last bs))

  blank_at : (i : ℕ) → i < 64 → get_or (blanks bs) i false ≡ is_space (byte i)
  blank_at i lt = get_or-map is_space (take 64 bs) i 0 false (omega (arith, length-take 64 bs)) ∙ ap is_space (get_or-take 64 bs i 0 lt)

  sixty_four : length (blanks bs) ≡ 64
  sixty_four = sixty_four_ends bs long

  long-es : length es ≡ 64
  long-es = long_ends bs long

  more_ends : (k : ℕ) → k < 64 → take (k + 1) es ≡ take k es ++ get_or es k false ∷ []
  more_ends = more_end bs long

  top_stays : (k last : ℕ) → k < 64 → get_or es k false ≡ false → last ≡ top (take k es) → last ≡ top (take (k + 1) es)
  top_stays = top_stay bs long

  last_off : get_or es 63 false ≡ false
  last_off = last_end bs long

  end_at : (i : ℕ) → i + 1 < 64 → get_or es i false ≡ (not (is_space (byte i)) && is_space (byte (i + 1)))
  end_at i lt =
      ends_at (blanks bs) i (omega (arith, sixty_four))
      ∙ ap₂ (λ (a : Bool) (b : Bool). not a && b) (blank_at i (omega arith)) (blank_at (i + 1) lt)

  trues-snoc : (ms : List Bool) (m : Bool) → trues (ms ++ m ∷ []) ≡ trues ms + cond m 1 0
  trues-snoc [] m = omega arith
  trues-snoc (t ∷ ms) m = omega (arith, trues-snoc ms m)

  kept-set : (k : ℕ) (ms : List Bool) (xs : List ℕ) → length ms ≡ k → k < length xs → flagged_items (ms ++ true ∷ []) xs ≡ flagged_items ms xs ++ get_or xs k 0 ∷ []
  kept-set zero [] [] e lt = absurd (omega arith)
  kept-set zero [] (x ∷ xs) e lt = refl
  kept-set (suc k) [] xs e lt = absurd (omega arith)
  kept-set zero (m ∷ ms) xs e lt = absurd (omega arith)
  kept-set (suc k) (m ∷ ms) [] e lt = absurd (omega arith)
  kept-set (suc k) (true ∷ ms) (x ∷ xs) e lt = ap (λ (l : List ℕ). x ∷ l) (kept-set k ms xs (omega arith) (omega arith))
  kept-set (suc k) (false ∷ ms) (x ∷ xs) e lt = kept-set k ms xs (omega arith) (omega arith)

  kept-unset : (ms : List Bool) (xs : List ℕ) → flagged_items (ms ++ false ∷ []) xs ≡ flagged_items ms xs
  kept-unset [] [] = refl
  kept-unset [] (x ∷ xs) = refl
  kept-unset (m ∷ ms) [] = refl
  kept-unset (true ∷ ms) (x ∷ xs) = ap (λ (l : List ℕ). x ∷ l) (kept-unset ms xs)
  kept-unset (false ∷ ms) (x ∷ xs) = kept-unset ms xs

  -- a byte that ends no word adds no cell
  cells_stay : (k last : ℕ) → k < 64 → get_or es k false ≡ false → Cells k last → Cells (k + 1) last
  cells_stay k last lt off so_far =
      let more = more_ends k lt ∙ ap (λ m. take k es ++ m ∷ []) off in
      let count : trues (take k es ++ false ∷ []) ≡ trues (take k es) = omega (arith, trues-snoc (take k es) false) in
      rw (more, count, kept-unset (take k es) vs) so_far

  -- the state after k bytes: the last word that ended, the last blank, and the bytes between and after them
  pub record State (k : ℕ) : Type 0 where
    pub last : ℕ
    pub blank : ℕ
    pub order : last ≤ blank
    pub inside : blank ≤ k
    pub space : is_space (byte blank) ≡ true
    pub gap : list_all is_space (take (blank + 1 - last) (drop last bs)) ≡ true
    pub word : (i : ℕ) → blank < i → i ≤ k → is_space (byte i) ≡ false
    pub cells : Cells k last
    pub top : last ≡ top (take k es)

  start : State 0
  start = record {
    last = 0;
    blank = 0;
    order = omega arith;
    inside = omega arith;
    space = bytes.first;
    gap = gap-one bs 0 (omega (arith, long)) bytes.first;
    word = λ i a b. absurd (omega arith);
    cells = BytesHoldNextCellsAndLineFeeds-none h bs;
    top = refl;
  }

  -- ---- one more byte

  byte_word : (b : ℕ) → is_space b ≡ false → is_word_byte b ≡ true
  byte_word b e = ap not e

  word_bytes : (k : ℕ) → k < 64 → (s : State k) → (n : ℕ) → s.blank + n ≤ k → list_all is_word_byte (take n (drop (s.blank + 1) bs)) ≡ true
  word_bytes k lt s n le =
      all_from is_word_byte n (drop (s.blank + 1) bs) (omega (arith, length-drop (s.blank + 1) bs, s.inside))
      (λ i less. ap is_word_byte (get_or-drop (s.blank + 1) bs i 0) ∙ byte_word (byte (s.blank + 1 + i)) (s.word (s.blank + 1 + i) (omega arith) (omega arith)))

  -- a word that ends denotes the cell of its byte
  cell_ends : (k : ℕ) → k + 1 < 64 → (s : State k) → s.blank < k → is_space (byte (k + 1)) ≡ true
      → cell_of_word h (take (k + 1 - (s.blank + 1)) (drop (s.blank + 1) bs)) ≡ Ok (cell_of_stored_byte (get_or vs k 0))
  cell_ends k lt s some blank =
      let n = k - (s.blank + 1) in
      let count : k + 1 - (s.blank + 1) ≡ n + 1 = omega arith in
      let place : s.blank + 1 + n ≡ k = omega arith in
      let next : s.blank + 1 + n + 1 ≡ k + 1 = omega arith in
      ap (λ m. cell_of_word h (take m (drop (s.blank + 1) bs))) count
      ∙ bytes.cell s.blank n (omega arith) s.space (λ i less. s.word (s.blank + 1 + i) (omega arith) (omega arith)) (ap (λ p. is_space (byte p)) next ∙ blank)
      ∙ ap (λ p. Ok (cell_of_stored_byte (get_or vs p 0))) place

  step : (k : ℕ) → k + 1 < 64 → State k → State (k + 1)
  step k lt s = by (is_space (byte (k + 1))) refl (leb k s.blank) refl
    where
      here : k < 64
      here = omega arith

      inside : k + 1 < length bs
      inside = omega (arith, long)

      by : (b : Bool) → is_space (byte (k + 1)) ≡ b → (t : Bool) → leb k s.blank ≡ t → State (k + 1)
      by false e t o =
          let off : get_or es k false ≡ false = end_at k lt ∙ ap (λ x. not (is_space (byte k)) && x) e ∙ and-false (not (is_space (byte k))) in
          record {
            last = s.last;
            blank = s.blank;
            order = s.order;
            inside = omega (arith, s.inside);
            space = s.space;
            gap = s.gap;
            word = λ i above le. kind i above le (leb i k) refl;
            cells = cells_stay k s.last here off s.cells;
            top = top_stays k s.last here off s.top;
          }
        where
          kind : (i : ℕ) → s.blank < i → i ≤ k + 1 → (u : Bool) → leb i k ≡ u → is_space (byte i) ≡ false
          kind i above le true v = s.word i above (grind (arith, nat_tests))
          kind i above le false v =
              let more : k < i = grind (arith, nat_tests) in
              let same : i ≡ k + 1 = omega arith in
              ap (λ j. is_space (byte j)) same ∙ e
      by true e true o =
          let le : k ≤ s.blank = grind (arith, nat_tests) in
          let same : s.blank ≡ k = omega (arith, s.inside) in
          let before : is_space (byte k) ≡ true = ap (λ j. is_space (byte j)) (sym same) ∙ s.space in
          let off : get_or es k false ≡ false = end_at k lt ∙ ap (λ x. not x && is_space (byte (k + 1))) before in
          let gap : list_all is_space (take (k + 1 - s.last) (drop s.last bs)) ≡ true = ap (λ j. list_all is_space (take (j + 1 - s.last) (drop s.last bs))) (sym same) ∙ s.gap in
          record {
            last = s.last;
            blank = k + 1;
            order = omega (arith, s.order, same);
            inside = omega arith;
            space = e;
            gap = gap-more bs s.last (k + 1) (k + 1 + 1) (omega (arith, s.order, same)) (omega arith) gap (gap-one bs (k + 1) inside e);
            word = λ i a b. absurd (omega arith);
            cells = cells_stay k s.last here off s.cells;
            top = top_stays k s.last here off s.top;
          }
      by true e false o =
          let some : s.blank < k = grind (arith, nat_tests) in
          let before : is_space (byte k) ≡ false = s.word k some (omega arith) in
          let on : get_or es k false ≡ true = end_at k lt ∙ ap₂ (λ (x : Bool) (y : Bool). not x && y) before e in
          let v = get_or vs k 0 in
          let more = more_ends k here ∙ ap (λ m. take k es ++ m ∷ []) on in
          let wide : length (take k es) ≡ k = omega (arith, length-take k es, long-es) in
          let bytes_more = kept-set k (take k es) vs wide (omega (arith, size)) in
          let cells_more : cells_of_bytes (flagged_items (take k es ++ true ∷ []) vs) ≡ cells_of_bytes (flagged_items (take k es) vs) ++ cell_of_stored_byte v ∷ [] =
          ap cells_of_bytes bytes_more ∙ map-append cell_of_stored_byte (flagged_items (take k es) vs) (v ∷ []) in
          let count = trues-snoc (take k es) true in
          let n : k + 1 - (s.blank + 1) ≡ k - s.blank = omega arith in
          let word = ap (λ j. list_all is_word_byte (take j (drop (s.blank + 1) bs))) n ∙ word_bytes k here s (k - s.blank) (omega (arith, s.inside)) in
          let all = word-more h bs (cells_of_bytes (flagged_items (take k es) vs)) (trues (take k es)) s.last (s.blank + 1) (k + 1) (cell_of_stored_byte v)
          (omega (arith, s.order)) (omega arith) lt inside s.gap word e (cell_ends k lt s some e) s.cells in
          record {
            last = k + 1;
            blank = k + 1;
            order = omega arith;
            inside = omega arith;
            space = e;
            gap = gap-one bs (k + 1) inside e;
            word = λ i a b. absurd (omega arith);
            cells = rw (more, cells_more, count) all;
            top = sym (ap top more ∙ top-set (take k es) ∙ omega (arith, wide));
          }

  states : (k : ℕ) → k < 64 → State k
  states zero lt = start
  states (suc k) lt = let next : k + 1 ≡ suc k = omega arith in subst State next (step k (omega arith) (states k (omega arith)))

  abbrev Holds : ℕ → Type 0
  Holds q = Cells q (top (take q es))

  low_holds : (q : ℕ) → q < 64 → Holds q
  low_holds q lt = let s = states q lt in subst (Cells q) s.top s.cells

  pub holds : (q : ℕ) → q ≤ 64 → Holds q
  holds q le = by (leb q 63) refl
    where
      by : (b : Bool) → leb q 63 ≡ b → Holds q
      by true e = low_holds q (grind (arith, nat_tests))
      by false e =
          let more : 63 < q = grind (arith, nat_tests) in
          let all : 63 + 1 ≡ q = omega arith in
          let here : 63 < 64 = omega arith in
          let so_far = cells_stay 63 (top (take 63 es)) here last_off (low_holds 63 here) in
          subst Holds all (subst (Cells (63 + 1)) (top_stays 63 (top (take 63 es)) here last_off refl) so_far)

  -- the bytes put into a row are the cells of the words that end among the first q bytes
  pub put_holds : (q : ℕ) → q ≤ 64 → (ends count : ℕ) (row : List ℕ) → ends ≡ mask_l (take q es)
      → ((ms : List Bool) → length ms ≡ 64 → ends ≡ mask_l ms → (count ≡ count_ones ends) × (take count row ≡ flagged_items ms vs))
      → BytesHoldNextCellsAndLineFeeds h bs (cells_of_bytes (take count row)) count (64 - count_leading_zeros 64 ends) (line_feed_count (take (64 - count_leading_zeros 64 ends) bs))
  put_holds q le ends count row is put =
      let ms = front q es in
      let wide : length ms ≡ 64 = length-front q es ∙ long-es in
      let mask = is ∙ front-mask q es in
      let done = put ms wide mask in
      let place : 64 - count_leading_zeros 64 ends ≡ top (take q es) = ap (λ m. 64 - count_leading_zeros 64 m) mask ∙ top_is ms (omega (arith, wide)) ∙ front-top q es in
      let number : count ≡ trues (take q es) = done.0 ∙ ap count_ones mask ∙ ones_are ms ∙ front-trues q es in
      let cells = done.1 ∙ front-kept q es vs in
      rw (cells, number, place) (holds q le)

-- ---- stars and numbers

module _ (h : GridHeaderContents) (plain : DigitWordsDenoteTheirNumber h) (usual : h.null_text
    ≡ usual_null_text) (bs : List ℕ)
    (long : 64 ≤ length bs)
    (block : IsShortBlock bs) (vs : List ℕ) (bytes : AreCellBytes bs vs) where
  abbrev at_byte : ℕ → ℕ
  at_byte p = get_or bs p 0

  module _ (at n : ℕ) (last : at + 1 + n + 1 < 64) (before : is_space (at_byte at) ≡ true)
      (word : (i : ℕ) → i < n + 1 → is_space (at_byte (at + 1 + i)) ≡ false)
      (after : is_space (at_byte (at + 1 + n + 1)) ≡ true) where
    -- a word has at most three bytes
    few_bytes : n < 3
    few_bytes = by (leb n 2) refl
      where
        by : (b : Bool) → leb n 2 ≡ b → n < 3
        by true e = let le : n ≤ 2 = grind (arith, nat_tests) in omega arith
        by false e =
            let more : 2 < n = grind (arith, nat_tests) in
            let i = at + 1 in
            let first : i + 0 ≡ i = omega arith in
            absurd (apart (is_space (at_byte (i + 3)))
            (block.few i (omega arith) (ap (λ p. is_space (at_byte p)) (sym first) ∙ word 0 (omega arith))
            (word 1 (omega arith)) (word 2 (omega arith))) (word 3 (omega arith)))

    -- a byte of a word of at least two bytes is a digit
    digit_beside : 0 < n → (i : ℕ) → i < n + 1 → is_digit (at_byte (at + 1 + i)) ≡ true
    digit_beside more i lt = by (is_digit (at_byte (at + 1 + i))) refl
      where
        by : (b : Bool) → is_digit (at_byte (at + 1 + i)) ≡ b → is_digit (at_byte (at + 1 + i)) ≡ true
        by true e = e
        by false e = absurd (side i lt (block.known (at + 1 + i) (omega arith) (word i lt) e))
          where
            side : (i : ℕ) → i < n + 1 → is_null_star (at_byte (at + 1 + i)) ≡ true → ⊥
            side zero less star =
                let next : at + 1 + 0 + 1 ≡ at + 1 + 1 = omega arith in
                apart (is_space (at_byte (at + 1 + 1)))
                (ap (λ p. is_space (at_byte p)) (sym next) ∙ block.behind (at + 1 + 0) (omega arith) star)
                (word 1 (omega arith))
            side (suc j) less star =
                let next : at + 1 + j + 1 ≡ at + 1 + suc j = omega arith in
                apart (is_space (at_byte (at + 1 + j)))
                (block.before (at + 1 + j) (omega arith) (ap (λ p. is_null_star (at_byte p)) next ∙ star))
                (word j (omega arith))

    cell_of : cell_of_word h (take (n + 1) (drop (at + 1) bs)) ≡ Ok (cell_of_stored_byte (get_or vs (at + 1 + n) 0))
    cell_of = by n refl
      where
        first : ℕ
        first = at + 1

        front : drop first bs ≡ at_byte first ∷ drop (first + 1) bs
        front = drop_more bs first 0 (omega (arith, long))

        digits : ((i : ℕ) → i < n + 1 → is_digit (at_byte (first + i)) ≡ true)
            → cell_of_word h (take (n + 1) (drop first bs)) ≡ Ok (cell_of_stored_byte (get_or vs (first + n) 0))
        digits each =
            let within : n + 1 ≤ length (drop first bs) = omega (arith, length-drop first bs, long) in
            let all = all_from is_digit (n + 1) (drop first bs) within
            (λ i less. ap is_digit (get_or-drop first bs i 0) ∙ each i less) in
            let value = bytes.numbers at n few_bytes (omega arith) (space_no_digit (at_byte at) before) all in
            number_from h plain n (drop first bs) (get_or vs (first + n) 0) within all value.0 value.1

        by : (m : ℕ) → n ≡ m → cell_of_word h (take (n + 1) (drop first bs))
            ≡ Ok (cell_of_stored_byte (get_or vs (first + n) 0))
        by zero e = kind (is_digit (at_byte first)) refl
          where
            one : n + 1 ≡ 1
            one = omega arith

            place : first + n ≡ first
            place = omega arith

            kind : (b : Bool) → is_digit (at_byte first) ≡ b
                → cell_of_word h (take (n + 1) (drop first bs)) ≡ Ok (cell_of_stored_byte (get_or vs (first + n) 0))
            kind true d = digits (λ i less. let none : first + i ≡ first = omega arith in ap
                (λ j. is_digit (at_byte j)) none ∙ d)
            kind false d =
                let here : first + 0 ≡ first = omega arith in
                let star = block.known first (omega arith)
                (ap (λ j. is_space (at_byte j)) (sym here) ∙ word 0 (omega arith)) d in
                let null : get_or vs (first + n) 0 ≡ 255 = ap (λ p. get_or vs p 0) place
                ∙ bytes.stars first (omega arith) star in
                ap₂ (λ m l. cell_of_word h (take m l)) one front ∙ star_word h usual (at_byte first) star
                ∙ ap (λ v. Ok (cell_of_stored_byte v)) (sym null)
        by (suc m) e = digits (digit_beside (omega arith))

  pub star_bytes : AreWordBytes h bs vs
  star_bytes = record { first = block.first; cell = cell_of }

-- ---- null words and numbers

pub null_bytes : (h : GridHeaderContents) (plain : DigitWordsDenoteTheirNumber h) (bs : List ℕ) (long : 72 ≤ length bs)
    (fits : (k : ℕ) → get_or bs k 0 < 256)
    (lanes : List ℕ) (key size : ℕ) (is : IsNullKey h.null_text key size) (block : AreNullLanes bs lanes key size)
    → (0 < block.starts → 0 < size)
    → is_space (get_or bs 0 0) ≡ true → AreWordBytes h bs (take 64 lanes)
null_bytes h plain bs long fits lanes key size is block some first = record {
  first = first;
  cell = λ at n last before word after.
      by at n last (word_is bs long fits lanes h.null_text key size is block some at n last before word after);
}
  where
    by : (at n : ℕ) → at + 1 + n + 1 < 64 → IsNullWord bs lanes h.null_text at n ⊎ IsNumberWord bs lanes at n
        → cell_of_word h (take (n + 1) (drop (at + 1) bs)) ≡ Ok
        (cell_of_stored_byte (get_or (take 64 lanes) (at + 1 + n) 0))
    by at n last (inl (word, lane)) =
        ap (cell_of_word h) word ∙ null_text_cell h
        ∙ ap (λ v. Ok (cell_of_stored_byte v)) (sym (get_or-take 64 lanes (at + 1 + n) 0 (omega arith) ∙ lane))
    by at n last (inr (digits, (value, small))) =
        number_from h plain n (drop (at + 1) bs) (get_or lanes (at + 1 + n) 0)
        (omega (arith, length-drop (at + 1) bs, long)) digits value small
        ∙ ap (λ v. Ok (cell_of_stored_byte v)) (sym (get_or-take 64 lanes (at + 1 + n) 0 (omega arith)))

-- ---- from bits to bytes

abbrev bit : Bool → ℕ
bit b = cond b 1 0

module _ (bs : List ℕ) (long : 64 ≤ length bs) where
  wide : length (take 64 bs) ≡ 64
  wide = omega (arith, length-take 64 bs)

  abbrev words : ℕ
  words = 18446744073709551615 - mask_l (blanks bs)

  mask-small : mask_l (blanks bs) < 2 ^ 64
  mask-small = let size : length (blanks bs) ≡ 64 = length-map (take 64 bs) is_space ∙ wide in rw size at (mask_l-lt (blanks bs))

  pub word_at : (i : ℕ) → i < 64 → bit_at words i ≡ 1 - bit (is_space (get_or bs i 0))
  word_at i lt = bit_at_not w64 (mask_l (blanks bs)) i mask-small lt ∙ ap (λ n. 1 - n) (bit_of bs long is_space i lt)

  on : (b : Bool) → bit b ≡ 1 → b ≡ true
  on true e = refl
  on false e = absurd (omega arith)

  off : (b : Bool) → 1 - bit b ≡ 0 → b ≡ true
  off true e = refl
  off false e = absurd (omega arith)

  pub short_block : AreStarsOrThreeDigitNumbers words (mask_l (map is_digit (take 64 bs))) (mask_l (map is_null_star (take 64 bs))) → IsShortBlock bs
  short_block is = record {
    first = off (is_space (get_or bs 0 0)) (sym (word_at 0 (omega arith)) ∙ is.first);
    known = λ i lt space digit.
        on (is_null_star (get_or bs i 0)) (sym (bit_of bs long is_null_star i lt) ∙ is.known i lt (word_at i lt ∙ ap (λ b. 1 - bit b) space) (bit_of bs long is_digit i lt ∙ ap bit digit));
    before = λ i lt star.
        off (is_space (get_or bs i 0)) (sym (word_at i (omega arith)) ∙ is.before i lt (bit_of bs long is_null_star (i + 1) lt ∙ ap bit star));
    behind = λ i lt star.
        off (is_space (get_or bs (i + 1) 0)) (sym (word_at (i + 1) lt) ∙ is.behind i (bit_of bs long is_null_star i (omega arith) ∙ ap bit star));
    few = λ i lt a b d.
        off (is_space (get_or bs (i + 3) 0)) (sym (word_at (i + 3) lt) ∙ is.few i lt (word_at i (omega arith) ∙ ap (λ x. 1 - bit x) a)
        (word_at (i + 1) (omega arith) ∙ ap (λ x. 1 - bit x) b) (word_at (i + 2) (omega arith) ∙ ap (λ x. 1 - bit x) d));
  }

  -- the lanes are the bytes of cells: 255 for stars, and otherwise the values of the words
  pub cell_bytes_are : (values lanes : List ℕ) → AreWordValuesAtLastDigits (take 64 bs) values
      → ((p : ℕ) → p < 64 → get_or lanes p 0 ≡ cond (is_null_star (get_or (take 64 bs) p 0)) 255 (get_or values p 0)) → AreCellBytes bs (take 64 lanes)
  cell_bytes_are values lanes is each = record {
    stars = λ p lt star. lane p lt ∙ ap (λ b. cond b 255 (get_or values p 0)) star;
    numbers = λ at n few lt none digits.
        let p = at + 1 + n in
        let short : at < 64 = omega arith in
        let same = word_of_block bs (at + 1) (n + 1) (omega arith) in
        let value = is at n few lt (ap is_digit (get_or-take 64 bs at 0 short) ∙ none) (ap (list_all is_digit) same ∙ digits) in
        let within : n + 1 ≤ length (drop (at + 1) bs) = omega (arith, length-drop (at + 1) bs, long) in
        let last = sym (ap is_digit (get_or-drop (at + 1) bs n 0)) ∙ one_from is_digit (n + 1) (drop (at + 1) bs) within digits n (omega arith) in
        let here = lane p lt ∙ ap (λ b. cond b 255 (get_or values p 0)) (digit_no_star (get_or bs p 0) last) in
        (here ∙ value.0 ∙ ap value_of_digits same, rw (sym here) at value.1);
  }
    where
      lane : (p : ℕ) → p < 64 → get_or (take 64 lanes) p 0 ≡ cond (is_null_star (get_or bs p 0)) 255 (get_or values p 0)
      lane p lt = get_or-take 64 lanes p 0 lt ∙ each p lt ∙ ap (λ b. cond (is_null_star b) 255 (get_or values p 0)) (get_or-take 64 bs p 0 lt)

-- the ends of words are computed from the bits of the blanks
pub ends_are : (bs : List ℕ) → 64 ≤ length bs → (m lasts q : ℕ) → m ≡ mask_l (blanks bs)
    → lasts ≡ bit_and (18446744073709551615 - m) (m / 2) % 2 ^ q → lasts ≡ mask_l (take q (ends_of (blanks bs)))
ends_are bs long m lasts q is cut =
    cut ∙ ap (λ n. bit_and (18446744073709551615 - n) (n / 2) % 2 ^ q) is
    ∙ ap (λ n. n % 2 ^ q) (ends_mask (blanks bs) (sixty_four_ends bs long)) ∙ mask-take q (ends_of (blanks bs))
