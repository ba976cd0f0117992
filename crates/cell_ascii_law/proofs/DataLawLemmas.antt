-- The reading of the data, compared with the words of its lines.
use Rattle.std.proofs.Common.{◌≡◌, ℕ, zero, suc, ◌<◌, ◌≤◌, List, [], ◌∷◌, ◌++◌, Option, Some, None, Bool, false, refl, ap, sym, ◌∙◌, arith, Result, Ok, Err}
use Rattle.std.specs.Option.{option_and_then}
use Rattle.std.specs.List.{flat_map}
use Rattle.cell_core.specs.Grid.{CellValue, Grid, empty_category_labels}
use Rattle.cell_ascii_meaning.specs.GridTokens.{NextWordStart, Begins, is_space, next_word_start}
use Rattle.cell_ascii_meaning.specs.Header.{DataPosition, GridHeaderContents, ◌>>=◌}
use Rattle.cell_ascii_meaning.specs.CellTexts.{ReadValueAndPositionOrFault, position_without_pending_word, cell_and_position_after_word, cell_of_word_at_line, cell_at_word_start, cell_of_word, next_cell_after_position, items_read_one_after_another, text_end_or_fault, data_rows_to_text_end}
use Rattle.cell_ascii_meaning.specs.declared.grid_fault.GridKind.{GridKind}
use Rattle.cell_ascii_meaning.specs.declared.grid_fault.GridFault.{GridFault}
use Rattle.cell_ascii_meaning.proofs.TokenLemmas.{coming}
use Rattle.cell_ascii_law.proofs.LexemeLemmas.{Lines, first_line, rest_lines, put, lex, before_word, next_word}

-- the value that was read, or none if the reading failed
abbrev pub accepted : {X : Type 0} → Result X GridFault → Option X
accepted (Ok x) = Some x
accepted (Err e) = None

abbrev pub all_words : Lines → List (List ℕ)
all_words ls = flat_map (λ l. l) ls

pub words_by_first : (ls : Lines) → first_line ls ++ all_words (rest_lines ls) ≡ all_words ls
words_by_first [] = refl
words_by_first (l ∷ ls) = refl

pub then_agree : {X Y : Type 0} (F G : X → Option Y) → ((x : X) → F x ≡ G x) → (o : Option X) → option_and_then F o ≡ option_and_then G o
then_agree F G same None = refl
then_agree F G same (Some x) = same x

pub then_none : {X Y : Type 0} (o : Option X) → option_and_then {U = Y} (λ _. None) o ≡ None
then_none None = refl
then_none (Some x) = refl

-- if G accepts no lines that begin with a word, G accepts no text that begins with a word
pub no_word : {Y : Type 0} (G : Lines → Option Y) → ((x : ℕ) (xs : List ℕ) (ls : Lines) → G (put (x ∷ xs) ls) ≡ None) → (b : ℕ) (bs : List ℕ) (f : Bool) → is_space b ≡ false → None ≡ option_and_then G (lex 0 [] (b ∷ bs) f)
no_word {Y} G none b bs f word = next_word G 0 (λ _. None) (λ e. refl) (λ x xs cs g. sym (then_agree (λ ls. G (put (x ∷ xs) ls)) (λ _. None) (none x xs) (lex 0 [] cs g) ∙ then_none {Y = Y} (lex 0 [] cs g))) b bs f word

pub bind_assoc : {X Y Z : Type 0} (r : Result X GridFault) (F : X → Result Y GridFault) (G : Y → Result Z GridFault) → ((r >>= F) >>= G) ≡ (r >>= (λ x. F x >>= G))
bind_assoc (Ok x) F G = refl
bind_assoc (Err e) F G = refl

-- A reading of the first words: a value and the remaining words, or none.
abbrev pub Taking : Type 0 → Type 0
Taking X = List (List ℕ) → Option (X × List (List ℕ))

-- the result for a value taken from the words and the words after it
abbrev pub then_words : {X Y : Type 0} → (X → List (List ℕ) → Option Y) → Option (X × List (List ℕ)) → Option Y
then_words G o = option_and_then (λ x. G x.0 x.1) o

abbrev pub taken_cell : List (List ℕ) → Result CellValue GridKind → Option (CellValue × List (List ℕ))
taken_cell words (Ok v) = Some (v, words)
taken_cell words (Err kind) = None

abbrev pub take_cell : GridHeaderContents → Taking CellValue
take_cell h [] = None
take_cell h (word ∷ words) = taken_cell words (cell_of_word h word)

abbrev pub take_many : {X : Type 0} → Taking X → ℕ → Taking (List X)
take_many one zero words = Some ([], words)
take_many one (suc n) words = then_words (λ x ws. then_words (λ y vs. Some (x ∷ y, vs)) (take_many one n ws)) (one words)

abbrev pub whole_grid : GridHeaderContents → List (List CellValue) → Grid
whole_grid h rows = record { region = h.region; rows = rows; labels = empty_category_labels }

abbrev pub take_end : GridHeaderContents → List (List CellValue) → List (List ℕ) → Option Grid
take_end h rows [] = Some (whole_grid h rows)
take_end h rows (word ∷ words) = None

abbrev pub take_grid : GridHeaderContents → List (List ℕ) → Option Grid
take_grid h words = then_words (take_end h) (take_many (take_many (take_cell h) h.region.cols) h.region.rows words)

-- from any place where no word is pending, F accepts the result of G on the words that follow
abbrev pub Agree : {X : Type 0} → (X → DataPosition → Result Grid GridFault) → (X → List (List ℕ) → Option Grid)
    → Type 0
Agree {X} F G = (x : X) (line run : ℕ) (bs : List ℕ) (f : Bool) → run ≤ 1048576 → accepted (F x (position_without_pending_word line run (coming bs f))) ≡ option_and_then (λ ls. G x (all_words ls)) (lex run [] bs f)

-- at one place, a reading continues as taking the words does
abbrev pub Follows : {X : Type 0} → (Lines → List (List ℕ)) → DataPosition → Option Lines
    → (DataPosition → ReadValueAndPositionOrFault X) → Taking X → Type 0
Follows {X} words at o one takes = (F : X → DataPosition → Result Grid GridFault) (G : X → List (List ℕ) → Option Grid) → Agree F G
    → accepted (one at >>= (λ x. F x.0 x.1)) ≡ option_and_then (λ ls. then_words G (takes (words ls))) o

-- the reading follows the words from each place where no word is pending
abbrev pub Keeps : {X : Type 0} → (DataPosition → ReadValueAndPositionOrFault X) → Taking X → Type 0
Keeps one takes = (line run : ℕ) (bs : List ℕ) (f : Bool) → run ≤ 1048576 → Follows all_words (position_without_pending_word line run (coming bs f)) (lex run [] bs f) one takes

-- one more item before the items of a reading
abbrev with_one : {X : Type 0} → X → ReadValueAndPositionOrFault (List X) → ReadValueAndPositionOrFault (List X)
with_one x r = r >>= (λ y. Ok (x ∷ y.0, y.1))

module _ {X : Type 0} (one : DataPosition → ReadValueAndPositionOrFault X) (takes : Taking X)
    (keeps : Keeps one takes) where
  many_first : (n : ℕ) → Keeps (items_read_one_after_another one n) (take_many takes n) → (words : Lines → List (List ℕ)) (at : DataPosition) (o : Option Lines) → Follows words at o one takes → Follows words at o (items_read_one_after_another one (suc n)) (take_many takes (suc n))
  many_first n rest words at o first F G agree =
      ap accepted (bind_assoc (one at) (λ x. with_one x.0 (items_read_one_after_another one n x.1)) (λ x. F x.0 x.1))
      ∙ ap accepted (same (one at))
      ∙ first (λ x a. items_read_one_after_another one n a >>= (λ y. F (x ∷ y.0) y.1)) (λ x ws. then_words (λ y. G (x ∷ y)) (take_many takes n ws)) (λ x line run bs f low. rest line run bs f low (λ y. F (x ∷ y)) (λ y. G (x ∷ y)) (λ y. agree (x ∷ y)))
      ∙ then_agree (λ ls. then_words (λ x ws. then_words (λ y. G (x ∷ y)) (take_many takes n ws)) (takes (words ls))) (λ ls. then_words G (take_many takes (suc n) (words ls))) (λ ls. sym (taken (takes (words ls)))) o
    where
      then_one : (x : X) (r : ReadValueAndPositionOrFault (List X)) → (with_one x r >>= (λ y. F y.0 y.1))
          ≡ (r >>= (λ y. F (x ∷ y.0) y.1))
      then_one x (Ok y) = refl
      then_one x (Err e) = refl

      same : (r : ReadValueAndPositionOrFault X) → (r >>= (λ x. with_one x.0 (items_read_one_after_another one n x.1) >>= (λ y. F y.0 y.1))) ≡ (r >>= (λ x. items_read_one_after_another one n x.1 >>= (λ y. F (x.0 ∷ y.0) y.1)))
      same (Ok x) = then_one x.0 (items_read_one_after_another one n x.1)
      same (Err e) = refl

      more : (x : X) (r : Option (List X × List (List ℕ))) → then_words G (then_words (λ y ws. Some (x ∷ y, ws)) r) ≡ then_words (λ y. G (x ∷ y)) r
      more x None = refl
      more x (Some y) = refl

      taken : (r : Option (X × List (List ℕ))) → then_words G (then_words (λ x ws. then_words (λ y vs. Some (x ∷ y, vs)) (take_many takes n ws)) r) ≡ then_words (λ x ws. then_words (λ y. G (x ∷ y)) (take_many takes n ws)) r
      taken None = refl
      taken (Some x) = more x.0 (take_many takes n x.1)

  many_keeps : (n : ℕ) → Keeps (items_read_one_after_another one n) (take_many takes n)
  many_keeps zero line run bs f low = λ F G agree. agree [] line run bs f low
  many_keeps (suc n) line run bs f low = many_first n (many_keeps n) all_words (position_without_pending_word line run (coming bs f)) (lex run [] bs f) (keeps line run bs f low)

  -- the reading of many items follows the words if the reading of the first item does
  pub many_follow : (n : ℕ) (words : Lines → List (List ℕ)) (at : DataPosition) (o : Option Lines) → 0 < n → Follows words at o one takes → Follows words at o (items_read_one_after_another one n) (take_many takes n)
  many_follow zero words at o some first = absurd (omega arith)
  many_follow (suc n) words at o some first = many_first n (many_keeps n) words at o first

-- The next cell.
module _ (h : GridHeaderContents) (F : CellValue → DataPosition → Result Grid GridFault) (G : CellValue → List (List ℕ) → Option Grid) (agree : Agree F G) where
  cell_after : (line : ℕ) (bs : List ℕ) (f : Bool) (words : Lines → List (List ℕ)) → ((ls : Lines) → words ls ≡ all_words ls) → (r : Result CellValue GridKind)
      → accepted (cell_and_position_after_word line (coming bs f) r >>= (λ x. F x.0 x.1)) ≡ option_and_then (λ ls. then_words G (taken_cell (words ls) r)) (lex 0 [] bs f)
  cell_after line bs f words same (Ok v) = agree v line 0 bs f (omega arith) ∙ then_agree (λ ls. G v (all_words ls)) (λ ls. G v (words ls)) (λ ls. ap (G v) (sym (same ls))) (lex 0 [] bs f)
  cell_after line bs f words same (Err e) = sym (then_none (lex 0 [] bs f))

  cell_keeps : (line run : ℕ) (bs : List ℕ) (f : Bool) → run ≤ 1048576 → accepted (next_cell_after_position h (position_without_pending_word line run (coming bs f)) >>= (λ x. F x.0 x.1)) ≡ option_and_then (λ ls. then_words G (take_cell h (all_words ls))) (lex run [] bs f)
  unfolding next_cell_after_position
  cell_keeps line run bs f low = before_word goes (λ ls. refl) k (λ e. refl) (λ l. refl) begins bs f line run low
    where
      k : NextWordStart → Option Grid
      k s = accepted (cell_at_word_start h s >>= (λ x. F x.0 x.1))

      goes : Lines → Option Grid
      goes ls = then_words G (take_cell h (all_words ls))

      begins : (l b : ℕ) (cs : List ℕ) (g : Bool) → is_space b ≡ false → k (Begins l (coming (b ∷ cs) g)) ≡ option_and_then goes (lex 0 [] (b ∷ cs) g)
      begins l b cs g word = next_word goes l (λ r. accepted (cell_of_word_at_line h l r >>= (λ x. F x.0 x.1))) (λ e. refl) (λ x xs ds e. cell_after l ds e (λ ls. first_line ls ++ all_words (rest_lines ls)) words_by_first (cell_of_word h (x ∷ xs))) b cs g word

  cell_first : (w : List ℕ) (line run : ℕ) (bs : List ℕ) (f : Bool) → accepted (next_cell_after_position h (record { pending = Some w; line = line; run = run; coming = coming bs f }) >>= (λ x. F x.0 x.1)) ≡ option_and_then (λ ls. then_words G (take_cell h (w ∷ all_words ls))) (lex 0 [] bs f)
  unfolding next_cell_after_position
  cell_first w line run bs f = cell_after line bs f all_words (λ ls. refl) (cell_of_word h w)

-- The end of the data.
abbrev pub read_end : GridHeaderContents → List (List CellValue) → DataPosition → Result Grid GridFault
read_end h rows at = text_end_or_fault (next_word_start at.line at.run at.coming) >>= (λ _. Ok (whole_grid h rows))

end_agrees : (h : GridHeaderContents) → Agree (read_end h) (take_end h)
end_agrees h rows line run bs f low = before_word (λ ls. take_end h rows (all_words ls)) (λ ls. refl) (λ s. accepted (text_end_or_fault s >>= (λ _. Ok (whole_grid h rows)))) (λ e. refl) (λ l. refl)
    (λ l b cs g word. no_word (λ ls. take_end h rows (all_words ls)) (λ x xs ls. refl) b cs g word) bs f line run low

-- the reading of all the data
abbrev pub read_grid : GridHeaderContents → DataPosition → Result Grid GridFault
read_grid h at = data_rows_to_text_end h at >>= (λ rows. Ok (whole_grid h rows))

pub read_grid_is : (h : GridHeaderContents) (at : DataPosition) → read_grid h at ≡ (items_read_one_after_another (items_read_one_after_another (next_cell_after_position h) h.region.cols) h.region.rows at >>= (λ x. read_end h x.0 x.1))
read_grid_is h at = by (items_read_one_after_another (items_read_one_after_another
    (next_cell_after_position h) h.region.cols) h.region.rows at)
  where
    last : (rows : List (List CellValue)) (u : Result (Unit {0}) GridFault) → ((u >>= (λ _. Ok rows)) >>= (λ rows. Ok (whole_grid h rows))) ≡ (u >>= (λ _. Ok (whole_grid h rows)))
    last rows (Ok u) = refl
    last rows (Err e) = refl

    by : (r : ReadValueAndPositionOrFault (List (List CellValue))) → ((r >>= (λ x. text_end_or_fault (next_word_start x.1.line x.1.run x.1.coming) >>= (λ _. Ok x.0))) >>= (λ rows. Ok (whole_grid h rows))) ≡ (r >>= (λ x. read_end h x.0 x.1))
    by (Ok x) = last x.0 (text_end_or_fault (next_word_start x.1.line x.1.run x.1.coming))
    by (Err e) = refl

module _ (h : GridHeaderContents) (rows : 0 < h.region.rows) (cols : 0 < h.region.cols) where
  row_keeps : Keeps (items_read_one_after_another (next_cell_after_position h) h.region.cols)
      (take_many (take_cell h) h.region.cols)
  row_keeps line run bs f low = many_follow (next_cell_after_position h) (take_cell h) (λ l r cs g lo F G agree. cell_keeps h F G agree l r cs g lo) h.region.cols all_words (position_without_pending_word line run (coming bs f)) (lex run [] bs f) cols (λ F G agree. cell_keeps h F G agree line run bs f low)

  grid_follows : (words : Lines → List (List ℕ)) (at : DataPosition) (o : Option Lines) → Follows words at o (next_cell_after_position h) (take_cell h) → accepted (read_grid h at) ≡ option_and_then (λ ls. take_grid h (words ls)) o
  grid_follows words at o first = ap accepted (read_grid_is h at)
      ∙ many_follow (items_read_one_after_another (next_cell_after_position h) h.region.cols) (take_many (take_cell h) h.region.cols) row_keeps h.region.rows words at o rows
      (many_follow (next_cell_after_position h) (take_cell h) (λ l r cs g lo F G agree. cell_keeps h F G agree l r cs g lo) h.region.cols words at o cols first)
      (read_end h) (take_end h) (end_agrees h)

  -- the data, read from its first word on, is the grid that is taken from the words
  pub grid_first : (w : List ℕ) (line : ℕ) (bs : List ℕ) (f : Bool) → accepted (read_grid h (record { pending = Some w; line = line; run = 0; coming = coming bs f })) ≡ option_and_then (λ ls. take_grid h (w ∷ all_words ls)) (lex 0 [] bs f)
  grid_first w line bs f = grid_follows (λ ls. w ∷ all_words ls) (record { pending = Some w; line = line; run = 0; coming = coming bs f }) (lex 0 [] bs f) (λ F G agree. cell_first h F G agree w line 0 bs f)

  -- the data of a text that has ended is the grid that is taken from no words
  pub grid_none : (line : ℕ) → accepted (read_grid h (position_without_pending_word line 0 (coming [] false)))
      ≡ take_grid h []
  grid_none line = grid_follows all_words (position_without_pending_word line 0 (coming [] false)) (lex 0 [] [] false) (λ F G agree. cell_keeps h F G agree line 0 [] false (omega arith))
