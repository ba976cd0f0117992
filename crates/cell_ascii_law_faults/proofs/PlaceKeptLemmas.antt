-- After the header and after each cell, the reader is at a valid position.
use Rattle.std.proofs.Common.{◌≡◌, ℕ, zero, suc, ◌+◌, ◌-◌, ◌<◌, ◌≤◌, List, [], ◌∷◌, ◌++◌, Option, Some, None, ◌==◌, Bool, true, false, cond, length, take, refl, sym, ◌∙◌, arith, length-append, Result, Ok, Err, ◌&&◌, ◌⊎◌, inl, inr, if◌then◌else◌, subst}
use Rattle.std.specs.List.{list_all}
use Rattle.std.proofs.lemmas.Bool.{cases_Bool, cases_lt}
use Rattle.std.proofs.lemmas.Bool.Decides.{nat_tests}
use Rattle.cell_core_devices.specs.Device.{ComingBytes}
use Rattle.cell_core.specs.Grid.{CellValue}
use Rattle.cell_ascii_meaning.specs.GridTokens.{NextWordStart, Begins, Ends, Stops, is_space, is_word_byte, line_feed_count, grid_fault_at_line, next_word_start, word_continued_in_bytes}
use Rattle.cell_ascii_meaning.specs.Header.{DataPosition, GridHeaderContents, HeaderAndDataStart, HeaderKeyValues, header_defined_by_keys, has_colon, HeaderLineEnd, result_with_line_in_fault, header_line_after_first_word, empty_coming_bytes, header_and_data_start, rest_of_header_after_line, rest_of_header_from_word, rest_of_header_from_line, ◌>>=◌}
use Rattle.cell_ascii_meaning.specs.CellTexts.{ReadValueAndPositionOrFault, position_without_pending_word, cell_and_position_after_word, cell_of_word_at_line, cell_at_word_start, cell_of_word, next_cell_after_position, items_read_one_after_another}
use Rattle.cell_ascii_meaning.specs.GridText.{is_nonempty_word}
use Rattle.cell_ascii_meaning.specs.RowPlaces.{next_byte_does_not_extend_token, IsValidDataPosition}
use Rattle.cell_ascii_meaning.specs.declared.grid_fault.GridKind.{GridKind}
use Rattle.cell_ascii_meaning.specs.declared.grid_fault.GridKind.TheVariants.{ReaderStuck}
use Rattle.cell_ascii_meaning.specs.declared.grid_fault.GridFault.{GridFault}
use Rattle.cell_ascii_meaning.proofs.TokenLemmas.{coming, start-ends, start-fails, start-begins, start-stuck, start-more}
use Rattle.cell_ascii_meaning.proofs.TokenLemmas.{word-ends, word-fails, word-stops, word-long, word-more}

-- a valid position without a pending token
abbrev IsFresh : DataPosition → Type 0
IsFresh at = IsValidDataPosition at × (at.pending ≡ None)

fresh : (line : ℕ) (c : ComingBytes) → IsFresh (position_without_pending_word line 0 c)
fresh line c = (record { low = omega arith; token = tt; whole = tt; apart = tt; fresh = tt }, refl)

module _ (h : GridHeaderContents) where
  from_cell : (line : ℕ) (c : ComingBytes) (r : Result CellValue GridKind) (y : CellValue × DataPosition) → cell_and_position_after_word line c r ≡ Ok y → IsFresh y.1
  from_cell line c (Err kind) y e = cc
  from_cell line c (Ok v) y e = let p : ◌≡◌ {A = CellValue × DataPosition} (v, position_without_pending_word line 0 c) y = cc in subst (λ (z : CellValue × DataPosition). IsFresh z.1) p (fresh line c)

  from_word : (line : ℕ) (r : Result (List ℕ × ComingBytes) GridFault) (y : CellValue × DataPosition) → cell_of_word_at_line h line r ≡ Ok y → IsFresh y.1
  from_word line (Err f) y e = cc
  from_word line (Ok x) y e = from_cell line x.1 (cell_of_word h x.0) y e

  from_start : (s : NextWordStart) (y : CellValue × DataPosition) → cell_at_word_start h s ≡ Ok y → IsFresh y.1
  from_start (Begins line c) y e = from_word line (word_continued_in_bytes line [] c) y e
  from_start (Ends line) y e = cc
  from_start (Stops f) y e = cc

  cell_kept : (at : DataPosition) (y : CellValue × DataPosition) → next_cell_after_position h at ≡ Ok y → IsFresh y.1
  unfolding next_cell_after_position
  cell_kept at y e = by at.pending e
    where
      by : (o : Option (List ℕ)) → next_cell_after_position h (record at { pending = o }) ≡ Ok y → IsFresh y.1
      by None e = from_start (next_word_start at.line at.run at.coming) y e
      by (Some w) e = from_cell at.line at.coming (cell_of_word h w) y e

  Kept : ℕ → Type 0
  Kept n = (at : DataPosition) (x : List CellValue × DataPosition) → IsFresh at
      → items_read_one_after_another (next_cell_after_position h) n at ≡ Ok x → IsFresh x.1

  then_kept : (n : ℕ) → Kept n → (at : DataPosition) (x : List CellValue × DataPosition) → items_read_one_after_another (next_cell_after_position h) (suc n) at ≡ Ok x → IsFresh x.1
  unfolding Kept
  then_kept n on at x e = by (next_cell_after_position h at) refl e
    where
      last : (y : CellValue × DataPosition) → IsFresh y.1 → (r : ReadValueAndPositionOrFault (List CellValue)) → items_read_one_after_another (next_cell_after_position h) n y.1 ≡ r → (r >>= (λ z. Ok (y.0 ∷ z.0, z.1))) ≡ Ok x → IsFresh x.1
      last y is (Err f) m e = cc
      last y is (Ok z) m e = let p : ◌≡◌ {A = List CellValue × DataPosition} (y.0 ∷ z.0, z.1) x = cc in subst (λ (w : List CellValue × DataPosition). IsFresh w.1) p (on y.1 z is m)

      by : (r : ReadValueAndPositionOrFault CellValue) → next_cell_after_position h at ≡ r → (r >>= (λ y. items_read_one_after_another (next_cell_after_position h) n y.1 >>= (λ z. Ok (y.0 ∷ z.0, z.1)))) ≡ Ok x → IsFresh x.1
      by (Err f) is e = cc
      by (Ok y) is e = last y (cell_kept at y is) (items_read_one_after_another
          (next_cell_after_position h) n y.1) refl e

  fresh_kept : (n : ℕ) → Kept n
  unfolding Kept
  fresh_kept zero at x is e = let p : ◌≡◌ {A = List CellValue × DataPosition} ([], at) x = cc in subst (λ (z : List CellValue × DataPosition). IsFresh z.1) p is
  fresh_kept (suc n) at x is e = then_kept n (fresh_kept n) at x e

  pub cells_kept : (n : ℕ) (at : DataPosition) (x : List CellValue × DataPosition) → IsValidDataPosition at → items_read_one_after_another (next_cell_after_position h) n at ≡ Ok x → IsValidDataPosition x.1 × (0 < n → x.1.pending ≡ None)
  cells_kept zero at x is e = let p : ◌≡◌ {A = List CellValue × DataPosition} ([], at) x = cc in (subst (λ (z : List CellValue × DataPosition). IsValidDataPosition z.1) p is, λ some. absurd (omega arith))
  cells_kept (suc n) at x is e = let l = then_kept n (fresh_kept n) at x e in (l.0, λ some. l.1)

-- The first byte of a word.
abbrev Starts : List ℕ → Type 0
Starts [] = ⊥
Starts (b ∷ bs) = is_space b ≡ false

same_coming : (l m : ℕ) (c d : ComingBytes) → Begins l c ≡ Begins m d → c ≡ d
same_coming l m c d e = cc

start_kept : (bs : List ℕ) (f : Bool) (line run m : ℕ) (d : ComingBytes) → run ≤ 1048576 → next_word_start line run (coming bs f) ≡ Begins m d → Starts d.bytes
start_kept [] false line run m d low e = let s = start-ends line run low in absurd cc
start_kept [] true line run m d low e = let s = start-fails line run low in absurd cc
start_kept (b ∷ bs) f line run m d low e = by (start_kept bs f (line + cond (b == 10) 1 0) (run + 1) m d) (cases_Bool (is_space b)) (cases_lt run 1048576)
  where
    by : (run + 1 ≤ 1048576 → next_word_start (line + cond (b == 10) 1 0) (run + 1) (coming bs f) ≡ Begins m d → Starts d.bytes) → (is_space b ≡ true) ⊎ (is_space b ≡ false) → (run < 1048576) ⊎ (1048576 ≤ run) → Starts d.bytes
    by on (inr word) _ = subst (λ (c : ComingBytes). Starts c.bytes) (same_coming line m (coming (b ∷ bs) f) d (sym (start-begins line run low b bs f word) ∙ e)) word
    by on (inl space) (inr full) = let s = start-stuck line run low b bs f space full in absurd cc
    by on (inl space) (inl room) = on (omega arith) (sym (start-more line run low b bs f space room) ∙ e)

start_far : (line run : ℕ) (c : ComingBytes) (m : ℕ) (d : ComingBytes) → 1048576 < run
    → next_word_start line run c ≡ Begins m d → ⊥
unfolding next_word_start
start_far line run c m d far e = let s : next_word_start line run c ≡ Stops (grid_fault_at_line ReaderStuck (line + line_feed_count (take (1048576 - run) c.bytes))) = grind (arith, nat_tests) in cc

-- A word, and the bytes after it.
abbrev IsWord : List ℕ × ComingBytes → Type 0
IsWord y = (is_nonempty_word y.0 ≡ true) × (list_all is_word_byte y.0 ≡ true)
    × (next_byte_does_not_extend_token y.1 ≡ true)

all_more : (w : List ℕ) (b : ℕ) → list_all is_word_byte w ≡ true → is_space b ≡ false → list_all is_word_byte (w ++ b ∷ []) ≡ true
all_more [] b all word = rw word
all_more (x ∷ w) b all word = by (is_word_byte x) (all_more w b) all
  where
    by : (t : Bool) → (list_all is_word_byte w ≡ true → is_space b ≡ false → list_all is_word_byte (w ++ b ∷ []) ≡ true) → (t && list_all is_word_byte w) ≡ true → (t && list_all is_word_byte (w ++ b ∷ [])) ≡ true
    by true on e = on e word
    by false on e = e

word_kept : (bs : List ℕ) (f : Bool) (line x : ℕ) (xs : List ℕ) (y : List ℕ × ComingBytes) → length (x ∷ xs) ≤ 64 → list_all is_word_byte (x ∷ xs) ≡ true → word_continued_in_bytes line (x ∷ xs) (coming bs f) ≡ Ok y → IsWord y
word_kept [] false line x xs y short all e =
    let s = word-ends line (x ∷ xs) short in
    let p : ◌≡◌ {A = List ℕ × ComingBytes} (x ∷ xs, coming [] false) y = cc in
    subst IsWord p (refl, all, refl)
word_kept [] true line x xs y short all e = let s = word-fails line (x ∷ xs) short in absurd cc
word_kept (b ∷ bs) f line x xs y short all e = by (word_kept bs f line x (xs ++ b ∷ []) y) (cases_Bool (is_space b)) (cases_lt (length (x ∷ xs)) 64)
  where
    by : (length (x ∷ (xs ++ b ∷ [])) ≤ 64 → list_all is_word_byte (x ∷ (xs ++ b ∷ [])) ≡ true → word_continued_in_bytes line (x ∷ (xs ++ b ∷ [])) (coming bs f) ≡ Ok y → IsWord y) → (is_space b ≡ true) ⊎ (is_space b ≡ false) → (length (x ∷ xs) < 64) ⊎ (64 ≤ length (x ∷ xs)) → IsWord y
    by on (inl space) _ =
        let s = word-stops line (x ∷ xs) short b bs f space in
        let p : ◌≡◌ {A = List ℕ × ComingBytes} (x ∷ xs, coming (b ∷ bs) f) y = cc in
        subst IsWord p (refl, all, space)
    by on (inr word) (inr full) = let s = word-long line (x ∷ xs) short b bs f word full in absurd cc
    by on (inr word) (inl room) = on (omega (arith, length-append xs (b ∷ []))) (all_more (x ∷ xs) b all word) (sym (word-more line (x ∷ xs) short b bs f word) ∙ e)

first_word : (line : ℕ) (c : ComingBytes) (y : List ℕ × ComingBytes) → Starts c.bytes
    → word_continued_in_bytes line [] c ≡ Ok y → IsWord y
first_word line c y starts e = by c.bytes starts e
  where
    by : (bs : List ℕ) → Starts bs → word_continued_in_bytes line [] (coming bs c.fails) ≡ Ok y → IsWord y
    by [] starts e = absurd starts
    by (b ∷ bs) word e = word_kept bs c.fails line b [] y (omega arith) (all_more [] b refl word) (sym (word-more line [] (omega arith) b bs c.fails word) ∙ e)

-- The header.
opened_kept : (keys : HeaderKeyValues) (line : ℕ) (pending : Option (List ℕ)) (c : ComingBytes) (o : HeaderAndDataStart) → IsValidDataPosition (record { pending = pending; line = line; run = 0; coming = c }) → header_and_data_start keys line pending c ≡ Ok o → IsValidDataPosition o.at
opened_kept keys line pending c o is e = by (header_defined_by_keys keys) e
  where
    by : (r : Result GridHeaderContents GridKind) → (result_with_line_in_fault line r >>= (λ h. Ok (record { header = h; at = record { pending = pending; line = line; run = 0; coming = c } }))) ≡ Ok o → IsValidDataPosition o.at
    by (Err kind) e = cc
    by (Ok h) e = let p : ◌≡◌ {A = HeaderAndDataStart} (record { header = h; at = record { pending = pending; line = line; run = 0; coming = c } }) o = cc in subst (λ (z : HeaderAndDataStart). IsValidDataPosition z.at) p is

waits : (line : ℕ) (y : List ℕ × ComingBytes) → IsWord y → IsValidDataPosition (record { pending = Some y.0; line = line; run = 0; coming = y.1 })
waits line y is = record { low = omega arith; token = is.0; whole = is.1; apart = is.2; fresh = refl }

pub header_kept : (fuel : ℕ) (keys : HeaderKeyValues) (line run : ℕ) (c : ComingBytes) (o : HeaderAndDataStart) → rest_of_header_from_line fuel keys line run c ≡ Ok o → IsValidDataPosition o.at
unfolding rest_of_header_from_line
header_kept zero keys line run c o e = cc
header_kept (suc fuel) keys line run c o e = by (next_word_start line run c) refl
    (λ k l r d. header_kept fuel k l r d o) e
  where
    rest : HeaderKeyValues → ℕ → ℕ → ComingBytes → Result HeaderAndDataStart GridFault
    rest k l r d = rest_of_header_from_line fuel k l r d

    starts : (m : ℕ) (d : ComingBytes) → next_word_start line run c ≡ Begins m d → Starts d.bytes
    starts m d is = near (cases_lt 1048576 run)
      where
        near : (1048576 < run) ⊎ (run ≤ 1048576) → Starts d.bytes
        near (inl far) = absurd (start_far line run c m d far is)
        near (inr low) = start_kept c.bytes c.fails line run m d low is

    keyed : (l : ℕ) (r : Result (HeaderKeyValues × HeaderLineEnd) GridFault) → ((k : HeaderKeyValues) (l r : ℕ) (d : ComingBytes) → rest k l r d ≡ Ok o → IsValidDataPosition o.at) → (r >>= rest_of_header_after_line rest l) ≡ Ok o → IsValidDataPosition o.at
    keyed l (Err f) on e = cc
    keyed l (Ok x) on e = ends x.0 x.1 e
      where
        ends : (k : HeaderKeyValues) (end : HeaderLineEnd) → rest_of_header_after_line rest l (k, end) ≡ Ok o
            → IsValidDataPosition o.at
        ends k None e = opened_kept k l None empty_coming_bytes o (fresh l empty_coming_bytes).0 e
        ends k (Some x) e = on k (l + 1) x.0 x.1 e

    worded : (l : ℕ) (w : List ℕ × ComingBytes) → IsWord w → (t : Bool) → ((k : HeaderKeyValues) (l r : ℕ) (d : ComingBytes) → rest k l r d ≡ Ok o → IsValidDataPosition o.at) → (if t then header_line_after_first_word l keys w.0 w.1 >>= rest_of_header_after_line rest l else header_and_data_start keys l (Some w.0) w.1) ≡ Ok o → IsValidDataPosition o.at
    worded l w is true on e = keyed l (header_line_after_first_word l keys w.0 w.1) on e
    worded l w is false on e = opened_kept keys l (Some w.0) w.1 o (waits l w is) e

    from : (l : ℕ) (r : Result (List ℕ × ComingBytes) GridFault) → ((w : List ℕ × ComingBytes) → r ≡ Ok w → IsWord w) → ((k : HeaderKeyValues) (l r : ℕ) (d : ComingBytes) → rest k l r d ≡ Ok o → IsValidDataPosition o.at)
        → (r >>= (λ w. if has_colon w.0 then header_line_after_first_word l keys w.0 w.1 >>= rest_of_header_after_line rest l else header_and_data_start keys l (Some w.0) w.1)) ≡ Ok o → IsValidDataPosition o.at
    from l (Err f) is on e = cc
    from l (Ok w) is on e = worded l w (is w refl) (has_colon w.0) on e

    by : (s : NextWordStart) → next_word_start line run c ≡ s → ((k : HeaderKeyValues) (l r : ℕ) (d : ComingBytes) → rest k l r d ≡ Ok o → IsValidDataPosition o.at) → rest_of_header_from_word rest keys s ≡ Ok o → IsValidDataPosition o.at
    by (Stops f) is on e = cc
    by (Ends l) is on e = opened_kept keys l None empty_coming_bytes o (fresh l empty_coming_bytes).0 e
    by (Begins l d) is on e = from l (word_continued_in_bytes l [] d) (λ w. first_word l d w (starts l d is)) on e
