-- Readings one after another, as one reading.
use Rattle.std.proofs.Common.{◌≡◌, ℕ, zero, suc, ◌+◌, ◌-◌, ◌*◌, ◌<◌, List, [], ◌∷◌, ◌++◌, length, take, drop}
use Rattle.std.proofs.Common.{Ok, Err, refl, ap, sym, ◌∙◌, arith}
use Rattle.std.proofs.Math.Seq.{take-append_seam, drop-append_seam}
use Rattle.cell_core_devices.specs.Device.{ComingBytes}
use Rattle.cell_core_devices.specs.Supposed.{EqualBeforeAndAfterReads}
use Rattle.cell_ascii_meaning.specs.Header.{◌>>=◌, DataPosition}
use Rattle.cell_ascii_meaning.specs.CellTexts.{ReadValueAndPositionOrFault, items_read_one_after_another}
use Rattle.cell_ascii.specs.parts.FrontCells.{cells_cut_into_rows}
use Rattle.cell_ascii_meaning.specs.declared.grid_fault.GridFault.{GridFault}
use Rattle.cell_ascii_reading.proofs.MapLemmas.{chain, then_map, map_same}
use Rattle.cell_ascii_reading.proofs.LeadLemmas.{Contents}

module _ {X : Type 0} (one : DataPosition → ReadValueAndPositionOrFault X) where
  -- one more item after the items read before
  abbrev pub snoc : List X → X × DataPosition → ReadValueAndPositionOrFault (List X)
  snoc xs x = Ok (xs ++ x.0 ∷ [], x.1)

  abbrev pub with_last : List X × DataPosition → ReadValueAndPositionOrFault (List X)
  with_last y = one y.1 >>= snoc y.0

  abbrev cons : X → List X × DataPosition → ReadValueAndPositionOrFault (List X)
  cons x y = Ok (x ∷ y.0, y.1)

  Snoc : ℕ → Type 0
  Snoc n = (at : DataPosition) → items_read_one_after_another one (suc n) at
      ≡ (items_read_one_after_another one n at >>= with_last)

  many_step : (n : ℕ) → Snoc n → Snoc (suc n)
  unfolding Snoc
  many_step n on at = by (one at)
    where
      third : (x : X) (y : List X × DataPosition) (r : ReadValueAndPositionOrFault X)
          → ((r >>= snoc y.0) >>= cons x) ≡ (r >>= snoc (x ∷ y.0))
      third x y (Ok z) = refl
      third x y (Err f) = refl

      next : (x : X) (r : ReadValueAndPositionOrFault (List X))
          → ((r >>= with_last) >>= (cons x)) ≡ ((r >>= (cons x)) >>= with_last)
      next x (Ok y) = third x y (one y.1)
      next x (Err f) = refl

      by : (r : ReadValueAndPositionOrFault X) → (r >>= (λ x. items_read_one_after_another one (suc n) x.1 >>= (cons x.0))) ≡ ((r >>= (λ x. items_read_one_after_another one n x.1 >>= (cons x.0))) >>= with_last)
      by (Ok x) = ap (λ (r : ReadValueAndPositionOrFault (List X)). r >>= (cons x.0)) (on x.1)
          ∙ next x.0 (items_read_one_after_another one n x.1)
      by (Err f) = refl

  pub many_snoc : (n : ℕ) (at : DataPosition) → items_read_one_after_another one (suc n) at
      ≡ (items_read_one_after_another one n at >>= with_last)
  unfolding Snoc
  many_snoc zero at = refl
  many_snoc (suc n) at = many_step n (many_snoc n) at

  pub many_more : (n : ℕ) (at : DataPosition) → items_read_one_after_another one (n + 1) at
      ≡ (items_read_one_after_another one n at >>= with_last)
  many_more n at = let e : n + 1 ≡ suc n = omega arith in ap (λ (m : ℕ). items_read_one_after_another one m at) e
      ∙ many_snoc n at

  still_fails : (k m : ℕ) (at : DataPosition) (f : GridFault) → items_read_one_after_another one m at ≡ Err f
      → items_read_one_after_another one (k + m) at ≡ Err f
  still_fails zero m at f e = let o : 0 + m ≡ m = omega arith in ap
      (λ (j : ℕ). items_read_one_after_another one j at) o ∙ e
  still_fails (suc k) m at f e =
      let o : suc k + m ≡ suc (k + m) = omega arith in
      ap (λ (j : ℕ). items_read_one_after_another one j at) o ∙ many_snoc (k + m) at ∙ ap (λ (r : ReadValueAndPositionOrFault (List X)). r >>= with_last) (still_fails k m at f e)

  -- an error after some items is the error of the reading of all
  pub many_cut : (i n : ℕ) (at mid : DataPosition) (xs : List X) (f : GridFault) → i < n → items_read_one_after_another one i at ≡ Ok (xs, mid) → one mid ≡ Err f → items_read_one_after_another one n at ≡ Err f
  many_cut i n at mid xs f lower e o =
      let parts : n ≡ n - (i + 1) + (i + 1) = omega arith in
      ap (λ (j : ℕ). items_read_one_after_another one j at) parts
      ∙ still_fails (n - (i + 1)) (i + 1) at f
      (many_more i at ∙ ap (λ (r : ReadValueAndPositionOrFault (List X)). r >>= with_last) e
      ∙ ap (λ (r : ReadValueAndPositionOrFault X). r >>= snoc xs) o)

  -- reading one more item adds the item to those read before
  pub row_more : (here mid there : ComingBytes → DataPosition) (a b d : Contents) (i : ℕ) (front : List X) (x : X)
      → EqualBeforeAndAfterReads (λ c. items_read_one_after_another one i (here c)) a (λ c. Ok (front, mid c)) b → EqualBeforeAndAfterReads (λ c. one (mid c)) b (λ c. Ok (x, there c)) d
      → EqualBeforeAndAfterReads (λ c. items_read_one_after_another one (i + 1) (here c)) a (λ c. Ok (
        front ++ x
            ∷ [],
        there c,
      )) d
  row_more here mid there a b d i front x so_far e =
      let all : ComingBytes → ReadValueAndPositionOrFault (List X) = λ c. items_read_one_after_another one (i + 1)
      (here c) in
      let first : ComingBytes → ReadValueAndPositionOrFault (List X) = λ c. items_read_one_after_another one i
      (here c) >>= with_last in
      let next : ComingBytes → ReadValueAndPositionOrFault (List X) = λ c. one (mid c) >>= snoc front in
      let read : ComingBytes → ReadValueAndPositionOrFault (List X) = λ c. Ok (front ++ x ∷ [], there c) in
      chain all first read a a d (map_same all first a (λ c. many_more i (here c)))
      (chain first next read a b d
      (then_map (λ (r : ReadValueAndPositionOrFault (List X)). r >>= with_last) (λ c. items_read_one_after_another one i (here c)) (λ c. Ok (front, mid c)) a b so_far)
      (then_map (λ (r : ReadValueAndPositionOrFault X). r >>= snoc front) (λ c. one (mid c))
      (λ c. Ok (x, there c)) b d e))

  -- items after those read before
  abbrev pub glue : List X → List X × DataPosition → ReadValueAndPositionOrFault (List X)
  glue xs y = Ok (xs ++ y.0, y.1)

  abbrev pub and_then : ℕ → List X × DataPosition → ReadValueAndPositionOrFault (List X)
  and_then n y = items_read_one_after_another one n y.1 >>= glue y.0

  pub many_add : (k n : ℕ) (at : DataPosition) → items_read_one_after_another one (k + n) at
      ≡ (items_read_one_after_another one k at >>= and_then n)
  many_add zero n at =
      let o : 0 + n ≡ n = omega arith in
      ap (λ (j : ℕ). items_read_one_after_another one j at) o ∙ same (items_read_one_after_another one n at)
    where
      same : (r : ReadValueAndPositionOrFault (List X)) → r ≡ (r >>= glue [])
      same (Ok y) = refl
      same (Err f) = refl
  many_add (suc k) n at =
      let o : suc k + n ≡ suc (k + n) = omega arith in
      ap (λ (j : ℕ). items_read_one_after_another one j at) o ∙ by (λ (x : X × DataPosition). many_add k n x.1) (one at)
    where
      last : (x : X) (y : List X × DataPosition) (r : ReadValueAndPositionOrFault (List X))
          → ((r >>= glue y.0) >>= cons x) ≡ (r >>= glue (x ∷ y.0))
      last x y (Ok z) = refl
      last x y (Err f) = refl

      next : (x : X) (r : ReadValueAndPositionOrFault (List X))
          → ((r >>= and_then n) >>= cons x) ≡ ((r >>= cons x) >>= and_then n)
      next x (Ok y) = last x y (items_read_one_after_another one n y.1)
      next x (Err f) = refl

      by : ((x : X × DataPosition) → items_read_one_after_another one (k + n) x.1 ≡ (items_read_one_after_another one k x.1 >>= and_then n)) → (r : ReadValueAndPositionOrFault X) → (r >>= (λ x. items_read_one_after_another one (k + n) x.1 >>= (cons x.0))) ≡ ((r >>= (λ x. items_read_one_after_another one k x.1 >>= (cons x.0))) >>= and_then n)
      by on (Ok x) = ap (λ (r : ReadValueAndPositionOrFault (List X)). r >>= (cons x.0)) (on x)
          ∙ next x.0 (items_read_one_after_another one k x.1)
      by on (Err f) = refl

  -- reading k more items adds them to those read before
  pub row_some : (here mid there : ComingBytes → DataPosition) (a b d : Contents) (i k : ℕ) (front next : List X)
      → EqualBeforeAndAfterReads (λ c. items_read_one_after_another one i (here c)) a (λ c. Ok (front, mid c)) b → EqualBeforeAndAfterReads (λ c. items_read_one_after_another one k (mid c)) b (λ c. Ok (next, there c)) d
      → EqualBeforeAndAfterReads (λ c. items_read_one_after_another one (i + k) (here c)) a (λ c. Ok (
        front
            ++ next,
        there c,
      )) d
  row_some here mid there a b d i k front next so_far e =
      let all : ComingBytes → ReadValueAndPositionOrFault (List X) = λ c. items_read_one_after_another one (i + k)
      (here c) in
      let first : ComingBytes → ReadValueAndPositionOrFault (List X) = λ c. items_read_one_after_another one i
      (here c) >>= and_then k in
      let more : ComingBytes → ReadValueAndPositionOrFault (List X) = λ c. items_read_one_after_another one k
      (mid c) >>= glue front in
      let read : ComingBytes → ReadValueAndPositionOrFault (List X) = λ c. Ok (front ++ next, there c) in
      chain all first read a a d (map_same all first a (λ c. many_add i k (here c)))
      (chain first more read a b d
      (then_map (λ (r : ReadValueAndPositionOrFault (List X)). r >>= and_then k) (λ c. items_read_one_after_another one i (here c)) (λ c. Ok (front, mid c)) a b so_far)
      (then_map (λ (r : ReadValueAndPositionOrFault (List X)). r >>= glue front)
      (λ c. items_read_one_after_another one k (mid c))
      (λ c. Ok (next, there c)) b d e))

  -- the list has the requested length
  many_length : (n : ℕ) (at : DataPosition) (y : List X × DataPosition) → items_read_one_after_another one n at ≡ Ok y
      → length y.0 ≡ n
  many_length zero at y e = let p : ◌≡◌ {A = List X × DataPosition} ([], at) y = cc in ap
      (λ (w : List X × DataPosition). length w.0)
      (sym p)
  many_length (suc n) at y e = by
      (λ (x : X × DataPosition) (z : List X × DataPosition) (f : items_read_one_after_another one n x.1
      ≡ Ok z). many_length n x.1 z f) (one at) e
    where
      last : (x : X) (r : ReadValueAndPositionOrFault (List X)) → ((z : List X × DataPosition) → r ≡ Ok z
          → length z.0 ≡ n)
          → (r >>= cons x) ≡ Ok y
          → length y.0 ≡ suc n
      last x (Ok z) on e =
          let p : ◌≡◌ {A = List X × DataPosition} (x ∷ z.0, z.1) y = cc in
          ap (λ (w : List X × DataPosition). length w.0) (sym p) ∙ ap suc (on z refl)
      last x (Err f) on e = cc

      by : ((x : X × DataPosition) (z : List X × DataPosition) → items_read_one_after_another one n x.1 ≡ Ok z
          → length z.0 ≡ n)
          → (r : ReadValueAndPositionOrFault X) →
          (r >>= (λ x. items_read_one_after_another one n x.1 >>= (cons x.0))) ≡ Ok y → length y.0 ≡ suc n
      by on (Ok x) e = last x.0 (items_read_one_after_another one n x.1) (on x) e
      by on (Err f) e = cc

  -- the items of rows, cut into rows
  abbrev cut : ℕ → ℕ → List X × DataPosition → ReadValueAndPositionOrFault (List (List X))
  cut cols rows y = Ok (cells_cut_into_rows cols rows y.0, y.1)

  pub many_rows : (cols rows : ℕ) (at : DataPosition) → items_read_one_after_another
      (items_read_one_after_another one cols) rows at ≡
      (items_read_one_after_another one (rows * cols) at >>= cut cols rows)
  many_rows cols zero at = let e : 0 * cols ≡ 0 = omega arith in ap
      (λ (n : ℕ). items_read_one_after_another one n at >>= cut cols 0)
      (sym e)
  many_rows cols (suc rows) at =
      let e : suc rows * cols ≡ cols + rows * cols = omega arith in
      by (λ (there : DataPosition). many_rows cols rows there) (items_read_one_after_another one cols at)
      (many_length cols at)
      ∙ ap (λ (r : ReadValueAndPositionOrFault (List X)). r >>= cut cols (suc rows))
      (sym (ap (λ (n : ℕ). items_read_one_after_another one n at) e ∙ many_add cols (rows * cols) at))
    where
      first : (xs ys : List X) → length xs ≡ cols → xs ∷ cells_cut_into_rows cols rows ys
          ≡ cells_cut_into_rows cols (suc rows) (xs ++ ys)
      first xs ys e =
          let front : take cols (xs ++ ys) ≡ xs = ap (λ (n : ℕ). take n (xs ++ ys)) (sym e) ∙ take-append_seam xs ys in
          let rest : drop cols (xs ++ ys) ≡ ys = ap (λ (n : ℕ). drop n (xs ++ ys)) (sym e) ∙ drop-append_seam xs ys in
          ap (λ (x : List X). x ∷ cells_cut_into_rows cols rows ys) (sym front) ∙ ap
          (λ (l : List X). take cols (xs ++ ys) ∷ cells_cut_into_rows cols rows l) (sym rest)

      last : (xs : List X) → length xs ≡ cols → (r : ReadValueAndPositionOrFault (List X))
          → ((r >>= cut cols rows) >>= (λ y. Ok (xs ∷ y.0, y.1))) ≡ ((r >>= glue xs) >>= cut cols (suc rows))
      last xs e (Ok z) = ap (λ (l : List (List X)). Ok (l, z.1)) (first xs z.0 e)
      last xs e (Err f) = refl

      by : ((there : DataPosition) → items_read_one_after_another (items_read_one_after_another one cols) rows there
          ≡ (items_read_one_after_another one (rows * cols) there >>= cut cols rows)) →
          (r : ReadValueAndPositionOrFault (List X)) → ((y : List X × DataPosition) → r ≡ Ok y → length y.0 ≡ cols)
          → (r >>= (λ x. items_read_one_after_another (items_read_one_after_another one cols) rows x.1 >>=
          (λ y. Ok (x.0 ∷ y.0, y.1)))) ≡
          ((r >>= and_then (rows * cols)) >>= cut cols (suc rows))
      by rest (Ok x) on = ap (λ (r : ReadValueAndPositionOrFault (List (List X))). r >>= (λ y. Ok (x.0 ∷ y.0, y.1)))
          (rest x.1)
          ∙ last x.0
          (on x refl) (items_read_one_after_another one (rows * cols) x.1)
      by rest (Err f) on = refl

  -- cells that were read one after another are read as rows
  pub rows_read : (here there : ComingBytes → DataPosition) (a b : Contents) (cols rows : ℕ) (xs : List X)
      → EqualBeforeAndAfterReads (λ c. items_read_one_after_another one (rows * cols) (here c)) a
      (λ c. Ok (xs, there c)) b
      → EqualBeforeAndAfterReads (λ c. items_read_one_after_another (items_read_one_after_another one cols) rows
      (here c)) a
      (λ c. Ok (cells_cut_into_rows cols rows xs, there c)) b
  rows_read here there a b cols rows xs e =
      let all : ComingBytes → ReadValueAndPositionOrFault (List (List X)) = λ c. items_read_one_after_another
      (items_read_one_after_another one cols) rows (here c) in
      let cells : ComingBytes → ReadValueAndPositionOrFault (List (List X)) = λ c. items_read_one_after_another one
      (rows * cols)
      (here c) >>= cut cols rows in
      let read : ComingBytes → ReadValueAndPositionOrFault (List (List X)) = λ c. Ok
      (cells_cut_into_rows cols rows xs, there c) in
      chain all cells read a a b (map_same all cells a (λ c. many_rows cols rows (here c)))
      (then_map (λ (r : ReadValueAndPositionOrFault (List X)). r >>= cut cols rows) (λ c. items_read_one_after_another one (rows * cols) (here c)) (λ c. Ok (xs, there c)) a b e)

  -- an error of the cells is the error of the rows
  pub rows_cut : (cols rows : ℕ) (at : DataPosition) (f : GridFault)
      → items_read_one_after_another one (rows * cols) at ≡ Err f
      → items_read_one_after_another
      (items_read_one_after_another one cols) rows at ≡ Err f
  rows_cut cols rows at f e = many_rows cols rows at ∙ ap (λ (r : ReadValueAndPositionOrFault (List X)). r >>= cut
      cols rows) e
