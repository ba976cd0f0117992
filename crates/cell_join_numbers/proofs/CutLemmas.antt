-- A rectangle cut out of maps is a part of them.
use Rattle.std.proofs.Common.{◌≡◌, ℕ, zero, suc, ◌+◌, ◌<◌, ◌≤◌, List, [], ◌∷◌, map, take, drop, length, get_or, Some, None, IsSome, refl, ap, sym, ◌∙◌, arith, ⊎_elim}
use Rattle.std.proofs.lemmas.Bool.{cases_lt}
use Rattle.std.proofs.lemmas.List.{get_or-take, get_or-drop, get_or_past}
use Rattle.cell_core.specs.Grid.{CellValue}
use Rattle.cell_clumps.specs.Clumps.{cell_at_position}
use Rattle.cell_join_numbers.specs.Parts.{Rectangle, cells_of_rectangle, CuttingMapsMakesTiles}
use Rattle.cell_join_numbers.specs.ClumpParts.{CutOutsAreTiles}

pub length-take-most : {A : Type 0} (n : ℕ) (xs : List A) → length (take n xs) ≤ n
length-take-most (suc n) (x ∷ xs) = omega (arith, length-take-most n xs)
length-take-most _ _ = omega arith

pub nothing-cut : (n m : ℕ) → ◌≡◌ {A = List CellValue} (take n (drop m [])) []
nothing-cut zero m = refl
nothing-cut (suc n) zero = refl
nothing-cut (suc n) (suc m) = refl

pub row-cut : (r : Rectangle) (rows : List (List CellValue)) (i : ℕ) → get_or (cells_of_rectangle r rows) i [] ≡ take r.cols (drop r.left (get_or (take r.rows (drop r.top rows)) i []))
row-cut r rows i = mapped (take r.rows (drop r.top rows)) i
  where
    mapped : (xs : List (List CellValue)) (i : ℕ) → get_or (map (λ row. take r.cols (drop r.left row)) xs) i [] ≡ take r.cols (drop r.left (get_or xs i []))
    mapped [] i = sym (nothing-cut r.cols r.left)
    mapped (x ∷ xs) zero = refl
    mapped (x ∷ xs) (suc i) = mapped xs i

abbrev pub first-or : {X : Type 0} → X → List X → X
first-or d [] = d
first-or d (x ∷ xs) = x

cell-there : (r : Rectangle) (rows : List (List CellValue)) (row col : ℕ) → row < r.rows → col < r.cols → get_or (get_or (cells_of_rectangle r rows) row []) col None ≡ get_or (get_or rows (r.top + row) []) (r.left + col) None
cell-there r rows row col high wide =
    let line = get_or (take r.rows (drop r.top rows)) row [] in
    ap (λ l. get_or l col None) (row-cut r rows row)
    ∙ get_or-take r.cols (drop r.left line) col None wide
    ∙ get_or-drop r.left line col None
    ∙ ap (λ l. get_or l (r.left + col) None) (get_or-take r.rows (drop r.top rows) row [] high ∙ get_or-drop r.top rows row [])

module _ (r : Rectangle) (rows : List (List CellValue)) (row col : ℕ) where
  none-below : r.rows ≤ row → get_or (get_or (cells_of_rectangle r rows) row []) col None ≡ None
  none-below below =
      let short : length (take r.rows (drop r.top rows)) ≤ row = omega (arith, length-take-most r.rows (drop r.top rows), below) in
      ap (λ l. get_or l col None) (row-cut r rows row ∙ ap (λ l. take r.cols (drop r.left l)) (get_or_past (take r.rows (drop r.top rows)) row [] short) ∙ nothing-cut r.cols r.left)

  none-right : r.cols ≤ col → get_or (get_or (cells_of_rectangle r rows) row []) col None ≡ None
  none-right beside =
      let line = get_or (take r.rows (drop r.top rows)) row [] in
      let short : length (take r.cols (drop r.left line)) ≤ col = omega (arith, length-take-most r.cols (drop r.left line), beside) in
      ap (λ l. get_or l col None) (row-cut r rows row) ∙ get_or_past (take r.cols (drop r.left line)) col None short

none-is-not : (c : CellValue) → c ≡ None → IsSome c → ⊥
none-is-not None e h = cc
none-is-not (Some v) e h = cc

pub cut-outs-are-tiles : CutOutsAreTiles
cut-outs-are-tiles r whole part cut = record {
  cells = λ p high wide. ap (λ l. get_or (get_or l p.row []) p.col None) cut ∙ cell-there r whole.rows p.row p.col high wide;
  outside = λ p some. (
    ⊎_elim (λ lt. lt) (λ le. absurd (none-is-not (cell_at_position part p) (ap (λ l. get_or (get_or l p.row []) p.col None) cut ∙ none-below r whole.rows p.row p.col le) some)) (cases_lt p.row r.rows),
    ⊎_elim (λ lt. lt) (λ le. absurd (none-is-not (cell_at_position part p) (ap (λ l. get_or (get_or l p.row []) p.col None) cut ∙ none-right r whole.rows p.row p.col le) some)) (cases_lt p.col r.cols),
  );
}

pub cut-outs-are-parts : CuttingMapsMakesTiles
cut-outs-are-parts r [] [] cut row col place high wide = refl
cut-outs-are-parts r [] (m ∷ part) cut row col place high wide = cc
cut-outs-are-parts r (w ∷ whole) [] cut row col place high wide = cc
cut-outs-are-parts r (w ∷ whole) (m ∷ part) cut row col zero high wide =
    let here : m.rows ≡ cells_of_rectangle r w.rows = ap (first-or []) cut in
    ap (λ l. get_or (get_or l row []) col None) here ∙ cell-there r w.rows row col high wide
cut-outs-are-parts r (w ∷ whole) (m ∷ part) cut row col (suc place) high wide = cut-outs-are-parts r whole part (ap (drop 1) cut) row col place high wide
