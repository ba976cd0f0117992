-- Cuts across the full map: the rectangles between them cover each cell once.
use Rattle.std.proofs.Common.{◌≡◌, ℕ, ◌+◌, ◌<◌, ◌≤◌, List, [], ◌∷◌, map, Bool, true, false, ◌&&◌, cond, refl, ap, ◌∙◌, arith, ⊎_elim}
use Rattle.std.specs.Prelude.{All, sum, count_by}
use Rattle.std.specs.List.{flat_map}
use Rattle.std.proofs.lemmas.Bool.{cases_lt}
use Rattle.std.proofs.lemmas.List.Sums.{sum_by-append}
use Rattle.std.proofs.lemmas.List.Elements.{All-nil, All-cons, All-head, All-tail, All-append}
use Rattle.cell_join_numbers.specs.Parts.{Rectangle, cell_is_in_rectangle, consecutive_intervals_of_lengths}
use Rattle.cell_join_numbers.specs.Parts.{TileGridCoversEachCellOnce}
use Rattle.cell_join_numbers.proofs.SumLemmas.{among, among-in, among-past, among-before, sum-cons}

sum-more : (n : ℕ) (ns : List ℕ) → sum (n ∷ ns) ≡ n + sum ns
sum-more n ns = sum-cons (λ n. n) n ns

-- the number of stretches that contain a number
abbrev having : ℕ → List (ℕ × ℕ) → ℕ
having i ss = count_by (λ s. among s.0 s.1 i) ss

having-cons : (i : ℕ) (s : ℕ × ℕ) (ss : List (ℕ × ℕ)) → having i (s ∷ ss) ≡ cond (among s.0 s.1 i) 1 0 + having i ss
having-cons i s ss = sum-cons (λ (s : ℕ × ℕ). cond (among s.0 s.1 i) 1 0) s ss

before-all : (a : ℕ) (ns : List ℕ) (i : ℕ) → i < a → having i (consecutive_intervals_of_lengths a ns) ≡ 0
before-all a [] i lt = refl
before-all a (n ∷ ns) i lt =
    let here : ◌≡◌ {A = ℕ} (cond (among a n i) 1 0) 0 = ap (λ b. cond b 1 0) (among-before a n i lt) in
    omega (
      arith,
      having-cons i (a, n) (consecutive_intervals_of_lengths (a + n) ns),
      here,
      before-all (a + n) ns i
          (omega (arith, lt)),
    )

one-has : (a : ℕ) (ns : List ℕ) (i : ℕ) → a ≤ i → i < a + sum ns → having i (consecutive_intervals_of_lengths a ns) ≡ 1
one-has a [] i le lt = absurd (omega (arith, le, lt))
one-has a (n ∷ ns) i le lt = by (one-has (a + n) ns i)
  where
    by : (a + n ≤ i → i < a + n + sum ns → having i (consecutive_intervals_of_lengths (a + n) ns) ≡ 1)
        → having i (consecutive_intervals_of_lengths a (n ∷ ns)) ≡ 1
    by rest =
        ⊎_elim (λ less.
        let here : ◌≡◌ {A = ℕ} (cond (among a n i) 1 0) 1 = ap (λ b. cond b 1 0) (among-in a n i le less) in
        omega (
          arith,
          having-cons i (a, n) (consecutive_intervals_of_lengths (a + n) ns),
          here,
          before-all
              (a + n) ns i less,
        ))
        (λ past.
        let here : ◌≡◌ {A = ℕ} (cond (among a n i) 1 0) 0 = ap (λ b. cond b 1 0) (among-past a n i past) in
        omega (
          arith,
          having-cons i (a, n) (consecutive_intervals_of_lengths (a + n) ns),
          here,
          rest past
              (omega (arith, lt, sum-more n ns)),
        ))
        (cases_lt i (a + n))

fits-all : (a : ℕ) (ns : List ℕ) → All (λ s. s.0 + s.1 ≤ a + sum ns) (consecutive_intervals_of_lengths a ns)
fits-all a [] = All-nil (λ s. s.0 + s.1 ≤ a + sum [])
fits-all a (n ∷ ns) =
    let here : a + n ≤ a + sum (n ∷ ns) = omega (arith, sum-more n ns) in
    let rest = fits-all (a + n) ns in
    All-cons (λ s. s.0 + s.1 ≤ a + sum (n ∷ ns)) (a, n) (consecutive_intervals_of_lengths (a + n) ns) here (λ i d lt. omega (arith, rest i d lt, sum-more n ns))

abbrev between : ℕ × ℕ → ℕ × ℕ → Rectangle
between h w = record { top = h.0; left = w.0; rows = h.1; cols = w.1 }

count-cons : (row col : ℕ) (r : Rectangle) (rs : List Rectangle) → count_by (λ r. cell_is_in_rectangle r row col) (r ∷ rs) ≡ cond (cell_is_in_rectangle r row col) 1 0 + count_by (λ r. cell_is_in_rectangle r row col) rs
count-cons row col r rs = sum-cons (λ (r : Rectangle). cond (cell_is_in_rectangle r row col) 1 0) r rs

-- a row of rectangles contains a cell as many times as their column stretches contain its column
count-beside : (row col : ℕ) (h : ℕ × ℕ) (ws : List (ℕ × ℕ)) (b : Bool) → among h.0 h.1 row ≡ b → count_by (λ r. cell_is_in_rectangle r row col) (map (between h) ws) ≡ cond b (having col ws) 0
count-beside row col h [] true e = refl
count-beside row col h [] false e = refl
count-beside row col h (w ∷ ws) true e =
    let here : ◌≡◌ {A = ℕ} (cond (cell_is_in_rectangle (between h w) row col) 1 0) (cond (among w.0 w.1 col) 1 0) = ap (λ b. cond (b && among w.0 w.1 col) 1 0) e in
    omega (arith, count-cons row col (between h w) (map (between h) ws), having-cons col w ws, here, count-beside row col h ws true e)
count-beside row col h (w ∷ ws) false e =
    let here : ◌≡◌ {A = ℕ} (cond (cell_is_in_rectangle (between h w) row col) 1 0) 0 = ap (λ b. cond (b
    && among w.0 w.1 col) 1 0) e in
    omega (arith, count-cons row col (between h w) (map (between h) ws), here, count-beside row col h ws false e)

count-grid : (row col : ℕ) (hs ws : List (ℕ × ℕ)) → having col ws ≡ 1 → count_by (λ r. cell_is_in_rectangle r row col) (flat_map (λ h. map (between h) ws) hs) ≡ having row hs
count-grid row col [] ws one = refl
count-grid row col (h ∷ hs) ws one =
    let cut = sum_by-append (λ (r : Rectangle). cond (cell_is_in_rectangle r row col) 1 0) (map (between h) ws) (flat_map (λ h. map (between h) ws) hs) in
    let here : count_by (λ r. cell_is_in_rectangle r row col) (map (between h) ws) ≡ cond (among h.0 h.1 row) 1 0 = count-beside row col h ws (among h.0 h.1 row) refl ∙ ap (λ n. cond (among h.0 h.1 row) n 0) one in
    omega (arith, cut, here, count-grid row col hs ws one, having-cons row h hs)

module _ (rows cols : ℕ) where
  fits-beside : (h : ℕ × ℕ) (ws : List (ℕ × ℕ)) → h.0 + h.1 ≤ rows → All (λ w. w.0 + w.1 ≤ cols) ws → All (λ r. (r.top + r.rows ≤ rows) × (r.left + r.cols ≤ cols)) (map (between h) ws)
  fits-beside h [] high wide = All-nil (λ r. (r.top + r.rows ≤ rows) × (r.left + r.cols ≤ cols))
  fits-beside h (w ∷ ws) high wide =
      All-cons (λ r. (r.top + r.rows ≤ rows) × (r.left + r.cols ≤ cols)) (between h w) (map (between h) ws)
      (high, All-head (λ w. w.0 + w.1 ≤ cols) w ws wide)
      (fits-beside h ws high (All-tail (λ w. w.0 + w.1 ≤ cols) w ws wide))

  fits-grid : (hs ws : List (ℕ × ℕ)) → All (λ h. h.0 + h.1 ≤ rows) hs → All (λ w. w.0 + w.1 ≤ cols) ws → All (λ r. (r.top + r.rows ≤ rows) × (r.left + r.cols ≤ cols)) (flat_map (λ h. map (between h) ws) hs)
  fits-grid [] ws high wide = All-nil (λ r. (r.top + r.rows ≤ rows) × (r.left + r.cols ≤ cols))
  fits-grid (h ∷ hs) ws high wide =
      All-append (λ r. (r.top + r.rows ≤ rows) × (r.left + r.cols ≤ cols)) (map (between h) ws) (flat_map (λ h. map (between h) ws) hs)
      (fits-beside h ws (All-head (λ h. h.0 + h.1 ≤ rows) h hs high) wide)
      (fits-grid hs ws (All-tail (λ h. h.0 + h.1 ≤ rows) h hs high) wide)

pub grids-cover : TileGridCoversEachCellOnce
grids-cover heights widths = record {
  within = fits-grid (sum heights) (sum widths) (consecutive_intervals_of_lengths 0 heights)
      (consecutive_intervals_of_lengths 0 widths)
      (high heights) (high widths);
  once = λ row col above before.
      count-grid row col (consecutive_intervals_of_lengths 0 heights) (consecutive_intervals_of_lengths 0 widths) (one-has 0 widths col (omega arith) (omega (arith, before)))
      ∙ one-has 0 heights row (omega arith) (omega (arith, above));
}
  where
    high : (ns : List ℕ) → All (λ s. s.0 + s.1 ≤ sum ns) (consecutive_intervals_of_lengths 0 ns)
    high ns i d lt = omega (arith, fits-all 0 ns i d lt)
