-- The cells of a map, compared with the words that denote them.
use Rattle.std.proofs.Common.{◌≡◌, ℕ, zero, suc, ◌+◌, ◌*◌, ◌<◌, ◌≤◌, List, [], ◌∷◌, Option, Some, None, length, drop, refl, ap, ◌∙◌, arith, Result, Ok, Err, subst, slice_get, length-drop}
use Rattle.std.specs.Prelude.{slice_index_or}
use Rattle.std.specs.Option.{option_map}
use Rattle.std.specs.List.{All}
use Rattle.std.proofs.lemmas.List.{nil_from_length}
use Rattle.std.proofs.lemmas.List.Elements.{All-nil, All-cons, All-head, All-tail}
use Rattle.cell_core.specs.Grid.{CellValue, Grid}
use Rattle.cell_ascii_meaning.specs.Header.{GridHeaderContents}
use Rattle.cell_ascii_meaning.specs.CellTexts.{cell_of_word}
use Rattle.cell_ascii_meaning.specs.GridText.{WordsDenoteCells}
use Rattle.cell_ascii_meaning.specs.declared.grid_fault.GridKind.{GridKind}
use Rattle.cell_ascii_law.proofs.DataLawLemmas.{then_words, taken_cell, take_cell, take_many, take_end, take_grid, whole_grid}

abbrev Words : Type 0
Words = List (List ℕ)

get-drop : {X : Type 0} (n : ℕ) (xs : List X) (i : ℕ) → slice_get (drop n xs) i ≡ slice_get xs (n + i)
get-drop zero xs i = ap (slice_get xs) (omega arith)
get-drop (suc n) [] i = refl
get-drop (suc n) (x ∷ xs) i = get-drop n xs i ∙ (let e : suc (n + i) ≡ suc n + i = omega arith in ap (slice_get (x ∷ xs)) e)

module _ (h : GridHeaderContents) where
  abbrev SourceDenotesMap : Words → ℕ → CellValue → Type 0
  SourceDenotesMap words i v = option_map (cell_of_word h) (slice_get words i) ≡ Some (Ok v)

  -- the first n words denote the cells of a row, and `rest` has the words after them
  record IsRow (n : ℕ) (words : Words) (row : List CellValue) (rest : Words) : Type 0 where
    wide : length row ≡ n
    count : length words ≡ n + length rest
    each : (c : ℕ) → c < n → SourceDenotesMap words c (slice_index_or row c None)
    later : (i : ℕ) → slice_get words (n + i) ≡ slice_get rest i

  row_more : (n : ℕ) (word : List ℕ) (words : Words) (v : CellValue) (row : List CellValue) (rest : Words) → cell_of_word h word ≡ Ok v → IsRow n words row rest → IsRow (suc n) (word ∷ words) (v ∷ row) rest
  row_more n word words v row rest e is = record {
    wide = ap suc is.wide;
    count = (let k = is.count in omega arith);
    each = each;
    later = λ i. (let k : suc n + i ≡ suc (n + i) = omega arith in ap (slice_get (word ∷ words)) k) ∙ is.later i;
  }
    where
      each : (c : ℕ) → c < suc n → SourceDenotesMap (word ∷ words) c (slice_index_or (v ∷ row) c None)
      each zero inside = ap Some e
      each (suc c) inside = is.each c (omega arith)

  row_read : (n : ℕ) (words : Words) (x : List CellValue × Words) → take_many (take_cell h) n words ≡ Some x → IsRow n words x.0 x.1
  row_read zero words x e =
      let p : ◌≡◌ {A = List CellValue × Words} ([], words) x = cc in
      subst (λ (y : List CellValue × Words). IsRow 0 words y.0 y.1) p (record { wide = refl; count = omega arith; each = λ c less. absurd (omega arith); later = λ i. ap (slice_get words) (omega arith) })
  row_read (suc n) [] x e = cc
  row_read (suc n) (word ∷ words) x e = by (row_read n words) (cell_of_word h word) refl e
    where
      last : (v : CellValue) → cell_of_word h word ≡ Ok v → (o : Option (List CellValue × Words)) → ((y : List CellValue × Words) → o ≡ Some y → IsRow n words y.0 y.1)
          → then_words (λ row ws. Some (v ∷ row, ws)) o ≡ Some x → IsRow (suc n) (word ∷ words) x.0 x.1
      last v is None on e = cc
      last v is (Some y) on e =
          let p : ◌≡◌ {A = List CellValue × Words} (v ∷ y.0, y.1) x = cc in
          subst (λ (z : List CellValue × Words). IsRow (suc n) (word ∷ words) z.0 z.1) p (row_more n word words v y.0 y.1 is (on y refl))

      by : ((y : List CellValue × Words) → take_many (take_cell h) n words ≡ Some y → IsRow n words y.0 y.1) → (r : Result CellValue GridKind) → cell_of_word h word ≡ r
          → then_words (λ v ws. then_words (λ row ws. Some (v ∷ row, ws)) (take_many (take_cell h) n ws)) (taken_cell words r) ≡ Some x → IsRow (suc n) (word ∷ words) x.0 x.1
      by on (Ok v) is e = last v is (take_many (take_cell h) n words) on e
      by on (Err kind) is e = cc

  row_taken : (n : ℕ) (words : Words) (row : List CellValue) → length row ≡ n → n ≤ length words → ((c : ℕ) → c < n → SourceDenotesMap words c (slice_index_or row c None)) → take_many (take_cell h) n words ≡ Some (row, drop n words)
  row_taken zero words [] wide count each = refl
  row_taken zero words (v ∷ row) wide count each = absurd (omega arith)
  row_taken (suc n) [] row wide count each = absurd (omega arith)
  row_taken (suc n) (word ∷ words) [] wide count each = absurd (omega arith)
  row_taken (suc n) (word ∷ words) (v ∷ row) wide count each =
      let first = each 0 (omega arith) in
      let is : cell_of_word h word ≡ Ok v = cc in
      ap (λ (r : Result CellValue GridKind). then_words (λ v ws. then_words (λ row ws. Some (v ∷ row, ws)) (take_many (take_cell h) n ws)) (taken_cell words r)) is
      ∙ ap (then_words (λ row ws. Some (v ∷ row, ws))) (row_taken n words row (omega arith) (omega arith) (λ c less. each (suc c) (omega arith)))

  module _ (cols : ℕ) where
    -- the cell at row r and column c of a list of rows
    abbrev cell_of : List (List CellValue) → ℕ → ℕ → CellValue
    cell_of rows r c = slice_index_or (slice_index_or rows r []) c None

    record AreRows (n : ℕ) (words : Words) (rows : List (List CellValue)) (rest : Words) : Type 0 where
      high : length rows ≡ n
      wide : All (λ row. length row ≡ cols) rows
      count : length words ≡ n * cols + length rest
      each : (r c : ℕ) → r < n → c < cols → SourceDenotesMap words (r * cols + c) (cell_of rows r c)

    rows_more : (n : ℕ) (words : Words) (row : List CellValue) (between : Words) (rows : List (List CellValue)) (rest : Words) → IsRow cols words row between → AreRows n between rows rest → AreRows (suc n) words (row ∷ rows) rest
    rows_more n words row between rows rest is are = record {
      high = ap suc are.high;
      wide = All-cons (λ row. length row ≡ cols) row rows is.wide are.wide;
      count = (let k = is.count in let l = are.count in omega arith);
      each = each;
    }
      where
        each : (r c : ℕ) → r < suc n → c < cols → SourceDenotesMap words (r * cols + c) (cell_of (row ∷ rows) r c)
        each zero c low inside = ap (λ (i : ℕ). option_map (cell_of_word h) (slice_get words i)) (omega arith) ∙ is.each c inside
        each (suc r) c low inside = (let k : suc r * cols + c ≡ cols + (r * cols + c) = omega arith in ap (λ (i : ℕ). option_map (cell_of_word h) (slice_get words i)) k)
            ∙ ap (option_map (cell_of_word h)) (is.later (r * cols + c)) ∙ are.each r c (omega arith) inside

    rows_read : (n : ℕ) (words : Words) (x : List (List CellValue) × Words) → take_many (take_many (take_cell h) cols) n words ≡ Some x → AreRows n words x.0 x.1
    rows_read zero words x e =
        let p : ◌≡◌ {A = List (List CellValue) × Words} ([], words) x = cc in
        subst (λ (y : List (List CellValue) × Words). AreRows 0 words y.0 y.1) p (record { high = refl; wide = All-nil (λ row. length row ≡ cols); count = omega arith; each = λ r c low less. absurd (omega arith) })
    rows_read (suc n) words x e = by (rows_read n) (take_many (take_cell h) cols words) refl e
      where
        last : (z : List CellValue × Words) → IsRow cols words z.0 z.1 → (o : Option (List (List CellValue) × Words)) → ((y : List (List CellValue) × Words) → o ≡ Some y → AreRows n z.1 y.0 y.1)
            → then_words (λ rows ws. Some (z.0 ∷ rows, ws)) o ≡ Some x → AreRows (suc n) words x.0 x.1
        last z is None on e = cc
        last z is (Some y) on e =
            let p : ◌≡◌ {A = List (List CellValue) × Words} (z.0 ∷ y.0, y.1) x = cc in
            subst (λ (y : List (List CellValue) × Words). AreRows (suc n) words y.0 y.1) p (rows_more n words z.0 z.1 y.0 y.1 is (on y refl))

        by : ((ws : Words) (y : List (List CellValue) × Words) → take_many (take_many (take_cell h) cols) n ws ≡ Some y → AreRows n ws y.0 y.1) → (o : Option (List CellValue × Words)) → take_many (take_cell h) cols words ≡ o
            → then_words (λ row ws. then_words (λ rows ws. Some (row ∷ rows, ws)) (take_many (take_many (take_cell h) cols) n ws)) o ≡ Some x → AreRows (suc n) words x.0 x.1
        by on None is e = cc
        by on (Some z) is e = last z (row_read cols words z is) (take_many (take_many (take_cell h) cols) n z.1) (on z.1) e

    rows_taken : (n : ℕ) (words : Words) (rows : List (List CellValue)) → length rows ≡ n → All (λ row. length row ≡ cols) rows → length words ≡ n * cols
        → ((r c : ℕ) → r < n → c < cols → SourceDenotesMap words (r * cols + c) (cell_of rows r c)) → take_many (take_many (take_cell h) cols) n words ≡ Some (rows, [])
    rows_taken zero words [] high wide count each = ap (λ (ws : Words). Some ([], ws)) (nil_from_length words (omega arith))
    rows_taken zero words (row ∷ rows) high wide count each = absurd (omega arith)
    rows_taken (suc n) words [] high wide count each = absurd (omega arith)
    rows_taken (suc n) words (row ∷ rows) high wide count each =
        ap (then_words (λ row ws. then_words (λ rows ws. Some (row ∷ rows, ws)) (take_many (take_many (take_cell h) cols) n ws))) (row_taken cols words row (All-head (λ row. length row ≡ cols) row rows wide) (omega arith) first)
        ∙ ap (then_words (λ rows ws. Some (row ∷ rows, ws))) (rows_taken n (drop cols words) rows (omega arith) (All-tail (λ row. length row ≡ cols) row rows wide) (simp length-drop (omega arith)) later)
      where
        first : (c : ℕ) → c < cols → SourceDenotesMap words c (slice_index_or row c None)
        first c inside = ap (λ (i : ℕ). option_map (cell_of_word h) (slice_get words i)) (omega arith) ∙ each 0 c (omega arith) inside

        later : (r c : ℕ) → r < n → c < cols → SourceDenotesMap (drop cols words) (r * cols + c) (cell_of rows r c)
        later r c low inside = ap (option_map (cell_of_word h)) (get-drop cols words (r * cols + c))
            ∙ (let k : cols + (r * cols + c) ≡ suc r * cols + c = omega arith in ap (λ (i : ℕ). option_map (cell_of_word h) (slice_get words i)) k) ∙ each (suc r) c (omega arith) inside

  -- a grid that is taken from words has the cells that the words denote, and no others
  pub cells_read : (words : Words) (m : Grid) → take_grid h words ≡ Some m → (m ≡ whole_grid h m.rows) × WordsDenoteCells h words m
  cells_read words m e = by (take_many (take_many (take_cell h) h.region.cols) h.region.rows words) (rows_read h.region.cols h.region.rows words) e
    where
      last : (rows : List (List CellValue)) (rest : Words) → AreRows h.region.cols h.region.rows words rows rest → take_end h rows rest ≡ Some m → (m ≡ whole_grid h m.rows) × WordsDenoteCells h words m
      last rows (word ∷ rest) are e = cc
      last rows [] are e =
          let p : whole_grid h rows ≡ m = cc in
          subst (λ (g : Grid). (g ≡ whole_grid h g.rows) × WordsDenoteCells h words g) p
          (refl, record { count = (let k = are.count in omega arith); shape = record { count = are.high; width = are.wide }; each = are.each })

      by : (o : Option (List (List CellValue) × Words)) → ((y : List (List CellValue) × Words) → o ≡ Some y → AreRows h.region.cols h.region.rows words y.0 y.1) → then_words (take_end h) o ≡ Some m → (m ≡ whole_grid h m.rows) × WordsDenoteCells h words m
      by None on e = cc
      by (Some y) on e = last y.0 y.1 (on y refl) e

  pub cells_taken : (words : Words) (m : Grid) → WordsDenoteCells h words m
      → take_grid h words ≡ Some (whole_grid h m.rows)
  cells_taken words m are = ap (then_words (take_end h)) (rows_taken h.region.cols h.region.rows words m.rows are.shape.count are.shape.width are.count are.each)
