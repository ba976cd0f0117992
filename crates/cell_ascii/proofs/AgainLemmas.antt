-- Cells whose bytes repeat.
use Rattle.std.proofs.Common.{◌≡◌, ℕ, zero, suc, ◌+◌, ◌*◌, ◌≤◌, List, [], ◌∷◌, ◌++◌, length, take, drop, replicate, Ok, ap, sym, subst, ◌∙◌, arith, append_assoc, length-append, length-drop, length-take, mul-le-mul}
use Rattle.std.proofs.lemmas.List.{drop-take, take-take, drop-drop, take-append-drop, drop-append-le, replicate_more, take_at, drop_at, length-replicate}
use Rattle.cell_core_devices.specs.Device.{ComingBytes}
use Rattle.cell_core.specs.Grid.{CellValue}
use Rattle.cell_ascii_reading.specs.Ahead.{bytes_to_come_with_prefix}
use Rattle.cell_ascii_meaning.specs.Header.{GridHeaderContents}
use Rattle.cell_ascii_meaning.specs.CellTexts.{next_cell_after_position, position_without_pending_word}
use Rattle.cell_ascii.specs.BufferedCells.{BytesHoldNextCell, BytesHoldNextCells, FirstBytesDetermineCell}
use Rattle.cell_ascii.specs.BufferedCells.{FirstBytesAreRepeated}
use Rattle.cell_ascii.proofs.BufferedRowLemmas.{BytesHoldNextCells-more}

-- lists whose first `all` items agree have equal parts within those items
alike_part : (all i m : ℕ) (xs ys : List ℕ) → take all xs ≡ take all ys → i + m ≤ all → take m (drop i xs) ≡ take m (drop i ys)
alike_part all i m xs ys e within =
    sym (drop-take i m xs)
    ∙ ap (drop i) (sym (take-take (i + m) all xs within) ∙ ap (take (i + m)) e ∙ take-take (i + m) all ys within)
    ∙ drop-take i m ys

-- if bytes equal the bytes n places later, the first n bytes repeat
pub comes_again : (bs : List ℕ) (n all times : ℕ) → take all (drop n bs) ≡ take all bs → times * n + 1 ≤ all → FirstBytesAreRepeated bs n times
comes_again bs n all times e enough zero few = let none : 0 * n ≡ 0 = omega arith in ap (λ (k : ℕ). take (n + 1) (drop k bs)) none
comes_again bs n all times e enough (suc i) few =
    let fewer : i ≤ times = omega arith in
    let parts : suc i * n ≡ n + i * n = omega arith in
    let most : suc i * n ≤ times * n = mul-le-mul few (omega arith) in
    let within : i * n + (n + 1) ≤ all = omega arith in
    ap (λ (k : ℕ). take (n + 1) (drop k bs)) parts
    ∙ ap (take (n + 1)) (sym (drop-drop (i * n) n bs))
    ∙ alike_part all (i * n) (n + 1) (drop n bs) bs e within
    ∙ comes_again bs n all times e enough i fewer

pub fewer_again : (bs : List ℕ) (n times fewer : ℕ) → fewer ≤ times → FirstBytesAreRepeated bs n times
    → FirstBytesAreRepeated bs n fewer
fewer_again bs n times fewer le again i few = again i (omega arith)

-- putting the two parts of a list before the coming bytes puts the full list before them
joined : (m : ℕ) (bs : List ℕ) (c : ComingBytes) → bytes_to_come_with_prefix (take m bs) (bytes_to_come_with_prefix (drop m bs) c) ≡ bytes_to_come_with_prefix bs c
joined m bs c = ap (λ (l : List ℕ). record { bytes = l; fails = c.fails }) (sym (append_assoc (take m bs) (drop m bs) c.bytes) ∙ ap (λ (l : List ℕ). l ++ c.bytes) (take-append-drop m bs))

joined-rest : (n m : ℕ) (bs : List ℕ) (c : ComingBytes) → n ≤ length (take m bs) → bytes_to_come_with_prefix (drop n (take m bs)) (bytes_to_come_with_prefix (drop m bs) c) ≡ bytes_to_come_with_prefix (drop n bs) c
joined-rest n m bs c within =
    ap (λ (l : List ℕ). record { bytes = l; fails = c.fails })
    (sym (append_assoc (drop n (take m bs)) (drop m bs) c.bytes)
    ∙ ap (λ (l : List ℕ). l ++ c.bytes) (sym (drop-append-le n (take m bs) (drop m bs) within) ∙ ap (drop n) (take-append-drop m bs)))

-- a list holds a cell if its first bytes hold the cell
pub front_holds : (h : GridHeaderContents) (bs : List ℕ) (v : CellValue) (n : ℕ) → n ≤ length bs → FirstBytesDetermineCell h bs v n → BytesHoldNextCell h bs v n
front_holds h bs v n within front = λ line run room c.
    let m = n + 1 in
    let inside : n ≤ length (take m bs) = omega (arith, length-take m bs) in
    ap (λ (d : ComingBytes). next_cell_after_position h (position_without_pending_word line run d))
    (sym (joined m bs c))
    ∙ front line run room (bytes_to_come_with_prefix (drop m bs) c)
    ∙ ap (λ (d : ComingBytes). Ok (v, position_without_pending_word line 0 d)) (joined-rest n m bs c inside)

-- a cell is held at each place where its bytes repeat
pub again_holds : (h : GridHeaderContents) (bs : List ℕ) (v : CellValue) (n times : ℕ) → n + times * n ≤ length bs → FirstBytesDetermineCell h bs v n → FirstBytesAreRepeated bs n times
    → (i : ℕ) → i ≤ times → BytesHoldNextCell h (drop (i * n) bs) v n
again_holds h bs v n times within front again i few =
    let most : i * n ≤ times * n = mul-le-mul few (omega arith) in
    let inside : n ≤ length (drop (i * n) bs) = omega (arith, length-drop (i * n) bs) in
    front_holds h (drop (i * n) bs) v n inside (subst (λ (l : List ℕ). BytesHoldNextCell h l v n)
    (sym (again i few)) front)

module _ (h : GridHeaderContents) (bs : List ℕ) where
  -- bytes that hold some cells, followed by a cell and `times` repeats of the cell, hold all of these cells
  many_times : (cells : List CellValue) (count m : ℕ) (v : CellValue) (n times : ℕ)
      → BytesHoldNextCells h bs cells count m
      → ((i : ℕ) → i ≤ times → BytesHoldNextCell h (drop (i * n) (drop m bs)) v n)
      → BytesHoldNextCells h bs (cells ++ replicate (1 + times) v) (count + (1 + times)) (m + (n + times * n))
  many_times cells count m v n zero buffered each =
      let none : 0 * n ≡ 0 = omega arith in
      let first : BytesHoldNextCell h (drop m bs) v n = subst (λ (k : ℕ). BytesHoldNextCell h (drop k (drop m bs)) v n) none (each 0 (omega arith)) in
      let one : 1 + 0 ≡ 1 = omega arith in
      let bytes : n + 0 * n ≡ n = omega arith in
      rw (one, bytes) (BytesHoldNextCells-more h bs cells count m v n buffered first)
  many_times cells count m v n (suc times) buffered each =
      let before = many_times cells count m v n times buffered (λ i few. each i (omega arith)) in
      let at : n + times * n ≡ suc times * n = omega arith in
      let place : drop (suc times * n) (drop m bs) ≡ drop (m + (n + times * n)) bs = drop-drop (suc times * n) m bs ∙ ap (λ (k : ℕ). drop (m + k) bs) (sym at) in
      let last : BytesHoldNextCell h (drop (m + (n + times * n)) bs) v n = subst (λ (l : List ℕ). BytesHoldNextCell h l v n) place (each (suc times) (omega arith)) in
      let more = BytesHoldNextCells-more h bs (cells ++ replicate (1 + times) v) (count + (1 + times)) (m + (n + times * n)) v n before last in
      let size : count + (1 + times) + 1 ≡ count + (1 + suc times) = omega arith in
      let bytes : m + (n + times * n) + n ≡ m + (n + suc times * n) = omega arith in
      let counted : 1 + times + 1 ≡ 1 + suc times = omega arith in
      let list : (cells ++ replicate (1 + times) v) ++ v ∷ [] ≡ cells ++ replicate (1 + suc times) v =
      append_assoc cells (replicate (1 + times) v) (v ∷ []) ∙ ap (λ (l : List CellValue). cells ++ l) (replicate_more (1 + times) v ∙ ap (λ (k : ℕ). replicate k v) counted) in
      rw (← list, ← size, ← bytes) more

  pub BytesHoldNextCells-again : (cells : List CellValue) (count m : ℕ) (v : CellValue) (n times : ℕ) → n + times * n ≤ length (drop m bs) → BytesHoldNextCells h bs cells count m
      → FirstBytesDetermineCell h (drop m bs) v n → FirstBytesAreRepeated (drop m bs) n times
      → BytesHoldNextCells h bs (cells ++ replicate (1 + times) v) (count + (1 + times)) (m + (n + times * n))
  BytesHoldNextCells-again cells count m v n times within buffered front again = many_times cells count m v n times buffered (again_holds h (drop m bs) v n times within front again)

-- a row in which k cells from index i on are overwritten with v
module _ (i k : ℕ) (row old : List CellValue) (v : CellValue) (within : i + k ≤ length row) where
  abbrev written : List CellValue
  written = take i row ++ replicate k v ++ drop (i + k) row

  size : length (take i row ++ replicate k v) ≡ i + k
  size = omega (arith, length-append (take i row) (replicate k v), length-take i row, length-replicate k v)

  pub written-front : take (i + k) written ≡ take i row ++ replicate k v
  written-front = take_at (take i row ++ replicate k v) (drop (i + k) row) (i + k) size

  pub written-rest : drop i row ≡ drop i old → drop (i + k) written ≡ drop (i + k) old
  written-rest e = drop_at (take i row ++ replicate k v) (drop (i + k) row) (i + k) size ∙ sym (drop-drop k i row) ∙ ap (drop k) e ∙ drop-drop k i old
