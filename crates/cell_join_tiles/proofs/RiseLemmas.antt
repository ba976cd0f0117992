-- The largest number in the first rows of a clumping is the number of first cells in those rows.
use Rattle.std.proofs.Common.{◌≡◌, ℕ, zero, suc, pos, ◌+◌, ◌-◌, ◌<◌, ◌≤◌, [], ◌∷◌, ◌++◌, List, Some, None, length, length-take, take, get_or, refl, ap, sym, ◌∙◌, arith, subst, inl, ⊎_elim, ◌⊎◌, ltb}
use Rattle.std.proofs.lemmas.Bool.{cases_lt}
use Rattle.std.proofs.lemmas.List.{get_or-take, get_or_past, length_push}
use Rattle.std.proofs.lemmas.List.Sums.{count_by-le-length}
use Rattle.cell_core.specs.Grid.{Grid, CellValue}
use Rattle.cell_clumps.specs.declared.clump.Joining.{Joining}
use Rattle.cell_clumps.specs.Clumps.{Position, cell_at_position, IsClumpMapOf}
use Rattle.cell_clumps.specs.ClumpLaw.{AreFirstCellsOfAllClumps}
use Rattle.cell_clumps.specs.parts.CellPlaces.{position_at_row_and_column}
use Rattle.cell_join_tiles.specs.parts.Greatest.{greatest_of_number_and_cells, greatest_of_number_and_rows}
use Rattle.cell_join_tiles.proofs.GreatestLemmas.{first-bound, in-least, of-reached, some-numbered}
use Rattle.cell_join_tiles.proofs.ListedAtLemmas.{listed_at-of, listed_at-own, first-some}
use Rattle.cell_join_tiles.specs.Beginnings.{begun_clump_count_before_row}
use Rattle.cell_join_tiles.specs.Borders.{BegunCountsAreMaximumRises, MaximumRisesCountNewClumps}
use Rattle.cell_join_tiles.proofs.StretchLemmas.{sum-cons}
use Rattle.cell_join_tiles.proofs.LabelSums.{begun-next}
use Rattle.cell_join_tiles.proofs.BegunLemmas.{above, above-next, parts}

-- a cell in the first rows that has their largest number
record Stands (i : ℕ) (rows : List (List CellValue)) (n : ℕ) : Type 0 where
  pub r : ℕ
  pub c : ℕ
  pub early : r < i
  pub is : get_or (get_or rows r []) c None ≡ Some (pos n)

of-first : (i : ℕ) (rows : List (List CellValue)) (n : ℕ) → (r c : ℕ)
    → get_or (get_or (take i rows) r []) c None ≡ Some (pos n) → Stands i rows n
of-first i rows n r c is =
    ⊎_elim
    (λ early. record {
      r = r;
      c = c;
      early = early;
      is = ap (λ (row : List CellValue). get_or row c None) (sym (get_or-take i rows r [] early)) ∙ is;
    })
    (λ past. let none = get_or_past (take i rows) r [] (omega (arith, length-take i rows, past)) in
    let out : None ≡ Some (pos n) = ap (λ (row : List CellValue). get_or row c None) (sym none) ∙ is in cc)
    (cases_lt r i)

-- ---- the clumps of the first rows

module _ (j : Joining) (m numbers : Grid) (firsts : List Position) (clumping : IsClumpMapOf j m numbers) (all : AreFirstCellsOfAllClumps j m firsts) where
  -- a number in a cell above a row is at most the number of first cells above that row
  number-above : (p : Position) (i n : ℕ) → p.row < i → cell_at_position numbers p ≡ Some (pos n) → n ≤ above firsts i
  number-above p i n lt is =
      let some = some-numbered (cell_at_position m p) (cell_at_position numbers p) (clumping.nulls p) (rw is refl) in
      let s = listed_at-of j m firsts all numbers clumping p some in
      let same : s.place + 1 ≡ n = (let both : Some (pos (s.place + 1)) ≡ Some (pos n) = sym s.number ∙ is in cc) in
      let first : Position = get_or firsts s.place p in
      let high : first.row < i = ⊎_elim (λ less. less) (λ past. absurd (s.early (inl (omega (arith, past, lt))))) (cases_lt first.row i) in
      let part = parts firsts all.in_order s.place i p s.inside in
      omega (arith, same, part.above_it high)

  above-few : (i : ℕ) → above firsts i ≤ length firsts
  above-few i = few firsts i
    where
      few : (firsts : List Position) (i : ℕ) → above firsts i ≤ length firsts
      few firsts i = count_by-le-length (λ (p : Position). ltb p.row i) firsts

  -- the number of first cells above a row is at most the largest number above that row
  above-number : (i : ℕ) → above firsts i ≤ greatest_of_number_and_rows 0 (take i numbers.rows)
  above-number i = by (above firsts i) refl
    where
      by : (n : ℕ) → above firsts i ≡ n → n ≤ greatest_of_number_and_rows 0 (take i numbers.rows)
      by zero e = omega arith
      by (suc k) e =
          let o : Position = position_at_row_and_column 0 0 in
          let k_in : k < length firsts = omega (arith, e, above-few i) in
          let p : Position = get_or firsts k o in
          let part = parts firsts all.in_order k i o k_in in
          let high : p.row < i = ⊎_elim (λ less. less) (λ past. absurd (omega (arith, e, part.not_above past))) (cases_lt p.row i) in
          let s = listed_at-of j m firsts all numbers clumping p (first-some j m firsts all numbers clumping k o k_in) in
          let place = listed_at-own j m firsts all numbers clumping k o k_in s in
          omega (arith, place, first-bound 0 (s.place + 1) i numbers.rows p.row p.col high s.number)

  pub rises : (i : ℕ) → greatest_of_number_and_rows 0 (take i numbers.rows) ≡ above firsts i
  rises i =
      let most : greatest_of_number_and_rows 0 (take i numbers.rows) ≤ above firsts i =
      ⊎_elim (λ none. omega (arith, none))
      (λ stands. let at = of-first i numbers.rows (greatest_of_number_and_rows 0
      (take i numbers.rows)) stands.0 stands.1 stands.2 in
      number-above (position_at_row_and_column at.r at.c) i (greatest_of_number_and_rows 0
      (take i numbers.rows)) at.early at.is)
      (of-reached 0 (take i numbers.rows)) in
      omega (arith, most, above-number i)

pub rises-report-begun : MaximumRisesCountNewClumps
rises-report-begun j m numbers firsts rows begun clumping all within ids = record {
  clumping = clumping;
  all = all;
  long = ids.long;
  counts = λ i lt.
      omega (
        arith,
        begun-next begun i,
        above-next firsts i,
        ids.most i (omega (arith, lt)),
        ids.most (suc i) (omega (arith, lt)),
        rises j m numbers firsts clumping all i,
        rises j m numbers firsts clumping all (suc i),
      );
}

-- ---- row by row

-- what is known after the rows so far: their largest number, and the clumps that begin in each row
pub record RisesSoFar (numbers : Grid) (row most : ℕ) (begun : List ℕ) : Type 0 where
  pub long : length begun ≡ row
  pub greatest : most ≡ greatest_of_number_and_rows 0 (take row numbers.rows)
  pub each : (i : ℕ) → i ≤ row → begun_clump_count_before_row begun i
      ≡ greatest_of_number_and_rows 0 (take i numbers.rows)

greatest-next : (most : ℕ) (rows : List (List CellValue)) (r : ℕ) → r < length rows → greatest_of_number_and_rows most (take (suc r) rows) ≡ greatest_of_number_and_cells (greatest_of_number_and_rows most (take r rows)) (get_or rows r [])
greatest-next most [] r lt = absurd (omega (arith, lt))
greatest-next most (row ∷ rows) zero lt = refl
greatest-next most (row ∷ rows) (suc r) lt = greatest-next (greatest_of_number_and_cells most row) rows r
    (omega (arith, lt))

-- appending a count does not change the sums before it
before-push : (begun : List ℕ) (n i : ℕ) → i ≤ length begun → begun_clump_count_before_row (begun ++ n ∷ []) i
    ≡ begun_clump_count_before_row begun i
before-push begun n zero le = refl
before-push [] n (suc i) le = absurd (omega (arith, le))
before-push (m ∷ begun) n (suc i) le = omega (arith, sum-cons m (take i (begun ++ n ∷ [])), sum-cons m (take i begun), before-push begun n i (omega (arith, le)))

before-last : (begun : List ℕ) (n : ℕ) → begun_clump_count_before_row (begun ++ n ∷ []) (suc (length begun)) ≡ begun_clump_count_before_row begun (length begun) + n
before-last [] n = omega (arith, sum-cons n [])
before-last (m ∷ begun) n = omega (arith, sum-cons m (take (suc (length begun)) (begun ++ n ∷ [])), sum-cons m (take (length begun) begun), before-last begun n)

pub rises-none : (numbers : Grid) → RisesSoFar numbers 0 0 []
rises-none numbers = record {
  long = refl;
  greatest = refl;
  each = λ i le. let none : 0 ≡ i = omega (arith, le) in subst (λ (n : ℕ). begun_clump_count_before_row [] n ≡ greatest_of_number_and_rows 0 (take n numbers.rows)) none refl;
}

pub rises-more : (numbers : Grid) (row most more : ℕ) (begun : List ℕ) → RisesSoFar numbers row most begun → row < length numbers.rows → more ≡ greatest_of_number_and_cells most (get_or numbers.rows row []) → RisesSoFar numbers (row + 1) more (begun ++ (more - most) ∷ [])
rises-more numbers row most more begun h lt is =
    let next : suc row ≡ row + 1 = omega arith in
    let own : more ≡ greatest_of_number_and_rows 0 (take (suc row) numbers.rows) = is ∙ ap (λ (n : ℕ). greatest_of_number_and_cells n (get_or numbers.rows row [])) h.greatest ∙ sym (greatest-next 0 numbers.rows row lt) in
    let least : most ≤ more = omega (arith, is, in-least most (get_or numbers.rows row [])) in
    let last : begun_clump_count_before_row (begun ++ (more - most) ∷ []) (suc row) ≡ more =
    ap (λ (n : ℕ). begun_clump_count_before_row (begun ++ (more - most) ∷ []) (suc n)) (sym h.long)
    ∙ before-last begun (more - most)
    ∙ (let at : begun_clump_count_before_row begun (length begun) ≡ begun_clump_count_before_row begun row = ap (begun_clump_count_before_row begun) h.long in let e : begun_clump_count_before_row begun (length begun) + (more - most) ≡ more = omega (arith, at, h.each row (omega arith), h.greatest, least) in e) in
    record {
      long = omega (arith, length_push begun (more - most), h.long);
      greatest = own ∙ ap (λ (n : ℕ). greatest_of_number_and_rows 0 (take n numbers.rows)) next;
      each = λ i le.
          ⊎_elim
          (λ less. before-push begun (more - most) i (omega (arith, less, h.long)) ∙ h.each i (omega (arith, less)))
          (λ past. let at : suc row ≡ i = omega (arith, past, le) in
          subst (λ (n : ℕ). begun_clump_count_before_row (begun ++ (more - most) ∷ []) n ≡ greatest_of_number_and_rows 0 (take n numbers.rows)) at (last ∙ own))
          (cases_lt i (suc row));
    }

pub rises-all : (numbers : Grid) (row most : ℕ) (begun : List ℕ) → RisesSoFar numbers row most begun → BegunCountsAreMaximumRises row numbers begun
rises-all numbers row most begun h = record { long = h.long; most = h.each }
