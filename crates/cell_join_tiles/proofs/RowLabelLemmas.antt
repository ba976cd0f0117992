-- Labels of a row of tiles, computed from the labels of the first clumps in each row of each tile.
use Rattle.std.proofs.Common.{◌≡◌, ℕ, zero, suc, ◌+◌, ◌-◌, ◌<◌, ◌≤◌, List, [], ◌∷◌, ◌++◌, map, take, length, get_or, refl, ap, sym, ◌∙◌, arith, ⊎_elim}
use Rattle.std.specs.Prelude.{sum, flat_map}
use Rattle.std.specs.List.{range_with_len}
use Rattle.std.specs.List.Sorted.{IsNonDecreasingBy}
use Rattle.std.proofs.lemmas.Bool.{cases_lt}
use Rattle.std.proofs.lemmas.List.{get_or_past, get_or_default, map-append, map-id, append-nil}
use Rattle.std.proofs.lemmas.List.Sums.{sum_by-cons}
use Rattle.std.proofs.lemmas.List.Concat.{flat_map-cons}
use Rattle.std.proofs.lemmas.List.FromFn.{map-range_with_len_more}
use Rattle.std.proofs.lemmas.Grind.{flat_map-append}
use Rattle.cell_join_tiles.specs.Beginnings.{BegunClumpCountsByRow, begun_clump_count_before_row, begun_clump_count_above_in_tiles, begun_clump_count_in_row_to_left, row_where_clump_number_begins, clump_count_of_tile_row, clump_count_of_tile}
use Rattle.cell_join_tiles.specs.parts.RowLabels.{AreClumpCountsUpToRows, AreFirstLabelsOfTileInRow, begun_clump_count_in_all_tiles, label_of_clump_from_first_labels, label_of_clump_in_row_of_tiles, labels_of_clumps_in_tile}
use Rattle.cell_join_tiles.proofs.StretchLemmas.{Lies, lies, stretch-is}
use Rattle.cell_join_tiles.proofs.LabelSums.{more-le, next-one, all-of, begun-next, above-next, above-le, above-whole}

-- ---- one more list in a list of lists

pub range-more : (n : ℕ) → range_with_len 0 (n + 1) ≡ range_with_len 0 n ++ n ∷ []
range-more n = sym (map-id (range_with_len 0 (n + 1))) ∙ map-range_with_len_more (λ (k : ℕ). k) 0 n n (omega arith) ∙ ap (λ ks. ks ++ n ∷ []) (map-id (range_with_len 0 n))

pub lists-more : {X : Type 0} (f : ℕ → List X) (n : ℕ) → flat_map f (range_with_len 0 (n + 1)) ≡ flat_map f (range_with_len 0 n) ++ f n
lists-more f n =
    ap (flat_map f) (range-more n) ∙ flat_map-append f (range_with_len 0 n) (n ∷ []) ∙ ap (λ ps. flat_map f (range_with_len 0 n) ++ ps) (flat_map-cons f n [] ∙ append-nil (f n))

pub list-more : {X : Type 0} (f : ℕ → X) (n : ℕ) → map f (range_with_len 0 (n + 1)) ≡ map f (range_with_len 0 n) ++ f n ∷ []
list-more f n = map-range_with_len_more f 0 n n (omega arith)

-- ---- ends of the rows of a tile

module _ (begun ends : List ℕ) (are : AreClumpCountsUpToRows begun ends) where
  pub ends-rise : IsNonDecreasingBy (λ end. end) ends
  ends-rise i j d le lt =
      let j_in : j < length begun = omega (arith, lt, are.long) in
      let i_in : i < length begun = omega (arith, le, j_in) in
      let one = are.each i i_in in
      let other = are.each j j_in in
      let low = get_or_default ends i d 0 (omega (arith, i_in, are.long)) in
      let high = get_or_default ends j d 0 lt in
      omega (arith, one, other, low, high, more-le (λ (n : ℕ). n) begun (suc i) (suc j) (omega (arith, le)))

  -- a clump begins in the first row whose end is above its number
  pub row-is : (row clump : ℕ) → row < length begun → ((i : ℕ) → i < row → get_or ends i 0 ≤ clump) → clump < get_or ends row 0 → Lies begun clump row
  row-is zero clump inside before after =
      let own = are.each 0 inside in
      record { inside = inside; low = omega arith; high = omega (arith, own, after, begun-next begun 0) }
  row-is (suc row) clump inside before after =
      let own = are.each (suc row) inside in
      let last = are.each row (omega (arith, inside)) in
      let low = before row (omega arith) in
      record { inside = inside; low = omega (arith, last, low); high = omega (arith, own, after, begun-next begun (suc row)) }

  -- a clump whose number is not below the end of any row begins in no row
  pub no-row : (row clump : ℕ) → length begun ≤ row → row ≤ length ends → ((i : ℕ) → i < row → get_or ends i 0 ≤ clump) → sum begun ≤ clump
  no-row zero clump past le before =
      let none : sum (take 0 begun) ≡ sum begun = all-of (λ (n : ℕ). n) begun 0 past in
      omega (arith, none)
  no-row (suc row) clump past le before =
      let low = before row (omega arith) in
      let own = are.each row (omega (arith, le, are.long)) in
      let all : sum (take (suc row) begun) ≡ sum begun = all-of (λ (n : ℕ). n) begun (suc row) past in
      omega (arith, low, own, all)

  -- the end of a row is the count before it plus the count in it
  pub end-before : (row : ℕ) → row < length begun → get_or ends row 0
      ≡ begun_clump_count_before_row begun row + get_or begun row 0
  end-before row inside = are.each row inside ∙ begun-next begun row

-- ---- the labels of first clumps

pub first-label : (base : ℕ) (tiles : List BegunClumpCountsByRow) (c : ℕ) (firsts : List ℕ) → AreFirstLabelsOfTileInRow base tiles c firsts → length (get_or tiles c []) ≤ length firsts → (k : ℕ) → k < sum (get_or tiles c []) → label_of_clump_from_first_labels firsts (get_or tiles c []) k ≡ label_of_clump_in_row_of_tiles base tiles c k
first-label base tiles c firsts are long k lt =
    let begun : BegunClumpCountsByRow = get_or tiles c [] in
    let at = lies begun k lt in
    let i = row_where_clump_number_begins begun k in
    let first = are i (omega (arith, at.inside, long)) in
    omega (arith, first)

pub few-in-tile : (tiles : List BegunClumpCountsByRow) (c : ℕ) → c < length tiles
    → sum (get_or tiles c []) ≤ clump_count_of_tile_row tiles
few-in-tile tiles c lt =
    omega (arith, next-one clump_count_of_tile tiles c [] lt, more-le clump_count_of_tile tiles (suc c) (length tiles) (omega (arith, lt)), all-of clump_count_of_tile tiles (length tiles) (omega arith))

-- the labels of the clumps that begin in a row of a tile fit in the labels of the row of tiles
pub firsts-fit : (base rows : ℕ) (tiles : List BegunClumpCountsByRow) (c : ℕ) (firsts : List ℕ) → AreFirstLabelsOfTileInRow base tiles c firsts → length firsts ≡ rows → ((d : ℕ) → d < length tiles → length (get_or tiles d []) ≤ rows) → c < length tiles → (i : ℕ) → i < rows → get_or firsts i 0 + get_or (get_or tiles c []) i 0 ≤ base + clump_count_of_tile_row tiles
firsts-fit base rows tiles c firsts are long even c_in i lt =
    let f = λ (begun : BegunClumpCountsByRow). get_or begun i 0 in
    let first = are i (omega (arith, lt, long)) in
    let here = next-one f tiles c [] c_in in
    let up = more-le f tiles (suc c) (length tiles) (omega (arith, c_in)) in
    let all = all-of f tiles (length tiles) (omega arith) in
    omega (arith, first, here, up, all, above-next tiles i, above-le tiles (suc i) rows (omega (arith, lt)), above-whole tiles rows even)

pub firsts-pass : (base : ℕ) (tiles : List BegunClumpCountsByRow) (c : ℕ) (firsts next : List ℕ) → AreFirstLabelsOfTileInRow base tiles c firsts → c < length tiles → length next ≡ length firsts → ((i : ℕ) → i < length firsts → get_or next i 0 ≡ get_or firsts i 0 + get_or (get_or tiles c []) i 0) → AreFirstLabelsOfTileInRow base tiles (c + 1) next
firsts-pass base tiles c firsts next are c_in long each i lt =
    let i_in : i < length firsts = omega (arith, lt, long) in
    let one : suc c ≡ c + 1 = omega arith in
    let left : begun_clump_count_in_row_to_left tiles i (suc c)
    ≡ begun_clump_count_in_row_to_left tiles i (c + 1) = ap (begun_clump_count_in_row_to_left tiles i) one in
    omega (
      arith,
      are i i_in,
      each i i_in,
      next-one (λ (begun : BegunClumpCountsByRow). get_or begun i 0) tiles c []
          c_in,
      left,
    )

-- before the first tile, the label of each row is the base plus the count of the rows above
pub firsts-start : (base : ℕ) (tiles : List BegunClumpCountsByRow) (firsts : List ℕ) → ((i : ℕ) → i < length firsts → get_or firsts i 0 ≡ base + begun_clump_count_above_in_tiles tiles i) → AreFirstLabelsOfTileInRow base tiles 0 firsts
firsts-start base tiles firsts are i lt =
    let none : begun_clump_count_in_row_to_left tiles i 0 ≡ 0 = refl in
    omega (arith, are i lt, none)

-- ---- sums over a row of tiles

begun-le : (begun : BegunClumpCountsByRow) (i : ℕ) → get_or begun i 0 ≤ sum begun
begun-le [] i = let none = get_or_past {X = ℕ} [] i 0 (omega arith) in omega (arith, none)
begun-le (n ∷ begun) zero = omega (arith, sum_by-cons (λ (k : ℕ). k) n begun)
begun-le (n ∷ begun) (suc i) = omega (arith, sum_by-cons (λ (k : ℕ). k) n begun, begun-le begun i)

pub in-each-le : (tiles : List BegunClumpCountsByRow) (i : ℕ)
    → begun_clump_count_in_all_tiles tiles i ≤ clump_count_of_tile_row tiles
in-each-le [] i = omega arith
in-each-le (t ∷ tiles) i =
    omega (arith, sum_by-cons (λ (begun : BegunClumpCountsByRow). get_or begun i 0) t tiles, sum_by-cons (λ (begun : BegunClumpCountsByRow). sum begun) t tiles, begun-le t i, in-each-le tiles i)

-- the count above the next row is the count above this row plus the count in this row
pub above-more : (tiles : List BegunClumpCountsByRow) (i : ℕ)
    → begun_clump_count_above_in_tiles tiles (i + 1) ≡ begun_clump_count_above_in_tiles tiles i
    + begun_clump_count_in_all_tiles tiles i
above-more tiles i = let one : i + 1 ≡ suc i = omega arith in ap (begun_clump_count_above_in_tiles tiles) one
    ∙ above-next tiles i

-- ---- the labels of all clumps of a tile

pub run-of : (f : ℕ → ℕ) (a b n : ℕ) → ((k : ℕ) → k < n → f (b + k) ≡ a + k) → range_with_len a n ≡ map f (range_with_len b n)
run-of f a b zero same = refl
run-of f a b (suc n) same =
    let first : a ≡ f b = (let zero_a : a + 0 ≡ a = omega arith in let zero_b : b ≡ b + 0 = omega arith in sym (ap f zero_b ∙ same 0 (omega arith) ∙ zero_a)) in
    let rest = run-of f (a + 1) (b + 1) n (λ k lt. let e : b + 1 + k ≡ b + suc k = omega arith in let g : a + suc k ≡ a + 1 + k = omega arith in ap f e ∙ same (suc k) (omega (arith, lt)) ∙ g) in
    ap (λ (k : ℕ). k ∷ range_with_len (a + 1) n) first ∙ ap (λ (l : List ℕ). f b ∷ l) rest

pub range-append : (a n m : ℕ) → range_with_len a (n + m) ≡ range_with_len a n ++ range_with_len (a + n) m
range-append a zero m = let e : a ≡ a + 0 = omega arith in let z : 0 + m ≡ m = omega arith in ap (range_with_len a) z ∙ ap (λ (k : ℕ). range_with_len k m) e
range-append a (suc n) m =
    let e : a + 1 + n ≡ a + suc n = omega arith in
    let s : suc n + m ≡ suc (n + m) = omega arith in
    ap (range_with_len a) s ∙ ap (λ (l : List ℕ). a ∷ l) (range-append (a + 1) n m ∙ ap (λ (k : ℕ). range_with_len (a + 1) n ++ range_with_len k m) e)

pub range-joined : (a n m b : ℕ) → a + n ≡ b → range_with_len a n ++ range_with_len b m ≡ range_with_len a (n + m)
range-joined a n m b e = ap (λ (k : ℕ). range_with_len a n ++ range_with_len k m) (sym e) ∙ sym (range-append a n m)

module _ (firsts begun : List ℕ) where
  abbrev pub row_labels : ℕ → List ℕ
  row_labels i = range_with_len (get_or firsts i 0) (get_or begun i 0)

  in-row : (i k : ℕ) → i < length begun → k < get_or begun i 0 → label_of_clump_from_first_labels firsts begun (begun_clump_count_before_row begun i + k) ≡ get_or firsts i 0 + k
  in-row i k inside lt =
      let is : row_where_clump_number_begins begun (begun_clump_count_before_row begun i + k) ≡ i = stretch-is begun i (begun_clump_count_before_row begun i + k) (record { inside = inside; low = omega arith; high = omega (arith, lt) }) in
      ap (λ (row : ℕ). get_or firsts row 0 + (begun_clump_count_before_row begun i + k
      - begun_clump_count_before_row begun
      row)) is ∙ omega arith

  pub labels-so-far : (n : ℕ) → n ≤ length begun → flat_map row_labels (range_with_len 0 n) ≡ map (label_of_clump_from_first_labels firsts begun) (range_with_len 0 (begun_clump_count_before_row begun n))
  labels-so-far zero le = refl
  labels-so-far (suc n) le =
      let one : suc n ≡ n + 1 = omega arith in
      let before = begun_clump_count_before_row begun n in
      let count = get_or begun n 0 in
      let more : range_with_len 0 (begun_clump_count_before_row begun (suc n)) ≡ range_with_len 0 before ++ range_with_len before count =
      ap (range_with_len 0) (begun-next begun n) ∙ range-append 0 before count ∙ ap (λ (k : ℕ). range_with_len 0 before ++ range_with_len k count) (let z : 0 + before ≡ before = omega arith in z) in
      ap (λ (k : ℕ). flat_map row_labels (range_with_len 0 k)) one
      ∙ lists-more row_labels n
      ∙ ap (λ (l : List ℕ). l ++ row_labels n) (labels-so-far n (omega (arith, le)))
      ∙ ap (λ (l : List ℕ). map (label_of_clump_from_first_labels firsts begun) (range_with_len 0 before) ++ l) (run-of (label_of_clump_from_first_labels firsts begun) (get_or firsts n 0) before count (λ k lt. in-row n k (omega (arith, le)) lt))
      ∙ sym (ap (map (label_of_clump_from_first_labels firsts begun)) more ∙ map-append (label_of_clump_from_first_labels firsts begun) (range_with_len 0 before) (range_with_len before count))

  pub all-labels : (n : ℕ) → n ≡ length begun → flat_map row_labels (range_with_len 0 n) ≡ map (label_of_clump_from_first_labels firsts begun) (range_with_len 0 (sum begun))
  all-labels n e =
      labels-so-far n (omega (arith, e)) ∙ ap (λ (k : ℕ). map (label_of_clump_from_first_labels firsts begun) (range_with_len 0 k)) (all-of (λ (k : ℕ). k) begun n (omega (arith, e)))

-- the labels of all clumps of a tile are its labels in the row of tiles
pub tile-labels : (base : ℕ) (tiles : List BegunClumpCountsByRow) (c : ℕ) (firsts : List ℕ) → AreFirstLabelsOfTileInRow base tiles c firsts → length (get_or tiles c []) ≤ length firsts → map (label_of_clump_from_first_labels firsts (get_or tiles c [])) (range_with_len 0 (sum (get_or tiles c []))) ≡ labels_of_clumps_in_tile base tiles c
tile-labels base tiles c firsts are long =
    let begun = get_or tiles c [] in
    same-map (label_of_clump_from_first_labels firsts begun) (label_of_clump_in_row_of_tiles base tiles c) (sum begun) (λ k lt. first-label base tiles c firsts are long k lt)
  where
    same-from : (f g : ℕ → ℕ) (a n : ℕ) → ((k : ℕ) → k < a + n → f k ≡ g k) → map f (range_with_len a n) ≡ map g (range_with_len a n)
    same-from f g a zero same = refl
    same-from f g a (suc n) same =
        let first : f a ≡ g a = same a (omega arith) in
        let rest = same-from f g (a + 1) n (λ k lt. same k (omega (arith, lt))) in
        λ i. first i ∷ rest i

    same-map : (f g : ℕ → ℕ) (n : ℕ) → ((k : ℕ) → k < n → f k ≡ g k) → map f (range_with_len 0 n) ≡ map g (range_with_len 0 n)
    same-map f g n same = same-from f g 0 n (λ k lt. same k (omega (arith, lt)))

-- a clump that begins in a row of a tile is a clump of that tile
pub low-in-tile : (begun : List ℕ) (row clump : ℕ) → Lies begun clump row → clump < sum begun
low-in-tile begun row clump lies =
    omega (arith, lies.high, begun-next begun row, more-le (λ (n : ℕ). n) begun (suc row) (length begun) (let t = lies.inside in omega (arith, t)), all-of (λ (n : ℕ). n) begun (length begun) (omega arith))

pub before-le : (begun : List ℕ) (i : ℕ) → begun_clump_count_before_row begun i ≤ sum begun
before-le begun i =
    ⊎_elim
    (λ lt. omega (arith, more-le (λ (n : ℕ). n) begun i (length begun) (omega (arith, lt)), all-of (λ (n : ℕ). n) begun (length begun) (omega arith)))
    (λ past. omega (arith, all-of (λ (n : ℕ). n) begun i past))
    (cases_lt i (length begun))

-- ---- tiles so far

pub in-each-more : (tiles : List BegunClumpCountsByRow) (i c : ℕ) → c < length tiles → begun_clump_count_in_all_tiles (take (c + 1) tiles) i ≡ begun_clump_count_in_all_tiles (take c tiles) i + get_or (get_or tiles c []) i 0
in-each-more tiles i c lt =
    let one : c + 1 ≡ suc c = omega arith in
    ap (λ (n : ℕ). begun_clump_count_in_all_tiles (take n tiles) i) one
    ∙ next-one (λ (begun : BegunClumpCountsByRow). get_or begun i 0) tiles c [] lt

pub in-each-first : (tiles : List BegunClumpCountsByRow) (i n : ℕ)
    → begun_clump_count_in_all_tiles (take n tiles) i ≤ clump_count_of_tile_row tiles
in-each-first tiles i n =
    let f = λ (begun : BegunClumpCountsByRow). get_or begun i 0 in
    omega (arith, more-le f tiles n (n + length tiles) (omega arith), all-of f tiles (n + length tiles) (omega arith), in-each-le tiles i)

pub clumps-more : (tiles : List BegunClumpCountsByRow) (c : ℕ) → c < length tiles → clump_count_of_tile_row (take (c + 1) tiles) ≡ clump_count_of_tile_row (take c tiles) + sum (get_or tiles c [])
clumps-more tiles c lt =
    let one : c + 1 ≡ suc c = omega arith in
    ap (λ (n : ℕ). clump_count_of_tile_row (take n tiles)) one ∙ next-one clump_count_of_tile tiles c [] lt

pub clumps-first : (tiles : List BegunClumpCountsByRow) (n : ℕ)
    → clump_count_of_tile_row (take n tiles) ≤ clump_count_of_tile_row tiles
clumps-first tiles n = omega (arith, more-le clump_count_of_tile tiles n (n + length tiles) (omega arith), all-of clump_count_of_tile tiles (n + length tiles) (omega arith))

pub above-all : (tiles : List BegunClumpCountsByRow) (i : ℕ) → begun_clump_count_above_in_tiles tiles i
    ≤ clump_count_of_tile_row tiles
above-all [] i = omega arith
above-all (t ∷ tiles) i =
    omega (arith, sum_by-cons (λ (begun : BegunClumpCountsByRow). begun_clump_count_before_row begun i) t tiles, sum_by-cons (λ (begun : BegunClumpCountsByRow). sum begun) t tiles, before-le t i, above-all tiles i)
