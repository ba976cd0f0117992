-- The text of cells one after another, by stretches and rows.
use Rattle.std.proofs.Common.{◌≡◌, ℕ, zero, suc, ◌+◌, ◌-◌, ◌<◌, ◌≤◌, List, [], ◌∷◌, ◌++◌, length, map, drop, replicate}
use Rattle.std.proofs.Common.{All, Fits, w32, true, false, not, ap, sym, ◌∙◌, arith}
use Rattle.std.proofs.Common.{append_assoc, append-nil, zero-add, add-zero}
use Rattle.std.proofs.lemmas.Grind.{flat_map-append}
use Rattle.std.proofs.lemmas.List.{length-map}
use Rattle.std.proofs.lemmas.List.Elements.{filter-append}
use Rattle.std.specs.List.{flat_map, range_with_len}
use Rattle.cell_core_values.specs.Region.{RegionValue}
use Rattle.cell_core.specs.Grid.{Grid}
use Rattle.cell_core.specs.Shelf.{ShelfValue}
use Rattle.cell_stats_combinations.specs.declared.skip.Skip.{Skip}
use Rattle.cell_stats_combinations.specs.Combinations.{Combination, combination_at_row_and_column, row_combinations}
use Rattle.cell_stats_combinations.specs.Combinations.{all_combinations}
use Rattle.cell_stats_combinations.specs.Cursors.{CursorHasNoEmptyLaterRun, RowsAreAsWideAsRegion, RunCursorValue}
use Rattle.cell_stats_combinations.specs.Cursors.{row_of_map_at_place, to_come}
use Rattle.cell_stats_combinations.specs.LeftOut.{kept_cells, combination_is_left_out}
use Rattle.cell_stats.specs.parts.OfPicks.{HasCellPerPickedMap}
use Rattle.cell_stats_combinations.proofs.WalkLemmas.{alike, alive, passed-on, stretch, kept-replicate}
use Rattle.cell_stats_combinations.proofs.WalkLemmas.{all_combinations_more}

range-append : (a n m : ℕ) → range_with_len a (n + m) ≡ range_with_len a n ++ range_with_len (a + n) m
range-append a zero m = ap (λ (k : ℕ). range_with_len a k) (zero-add m) ∙ ap (λ (k : ℕ). range_with_len k m) (sym (add-zero a))
range-append a (suc n) m =
    let sum : suc n + m ≡ suc (n + m) = omega arith in
    let next : a + 1 + n ≡ a + suc n = omega arith in
    ap (λ (k : ℕ). range_with_len a k) sum ∙ ap (λ (l : List ℕ). a ∷ l) (range-append (a + 1) n m) ∙ ap (λ (k : ℕ). a ∷ (range_with_len (a + 1) n ++ range_with_len k m)) next

-- the texts of the cells that are kept
abbrev pub kept_text : (Combination → List ℕ) → Skip → List Combination → List ℕ
kept_text f skip cells = flat_map f (kept_cells skip cells)

module _ (f : Combination → List ℕ) (skip : Skip) where
  abbrev text : List Combination → List ℕ
  text cells = kept_text f skip cells

  text-append : (xs ys : List Combination) → text (xs ++ ys) ≡ text xs ++ text ys
  text-append xs ys = ap (flat_map f) (filter-append (λ k. not (combination_is_left_out skip k)) xs ys)
      ∙ flat_map-append f (kept_cells skip xs) (kept_cells skip ys)

  -- equal cells that are left out have no text
  pub alike-left : (k : Combination) (n : ℕ) → combination_is_left_out skip k ≡ true → text (replicate n k) ≡ []
  alike-left k n left = ap (flat_map f) (kept-replicate skip k n true left)

  pub alike-kept : (k : Combination) (n : ℕ) → combination_is_left_out skip k ≡ false
      → text (replicate n k) ≡ flat_map f (replicate n k)
  alike-kept k n kept = ap (flat_map f) (kept-replicate skip k n false kept)

  module _ (maps : List Grid) (picks : List ℕ) where
    -- the text of one more row is appended
    pub row-more : (cols row : ℕ) → text (all_combinations maps picks (row + 1) cols)
        ≡ text (all_combinations maps picks row cols) ++ text (row_combinations maps picks cols row)
    row-more cols row =
        let next : row + 1 ≡ suc row = omega arith in
        ap (λ (r : ℕ). text (all_combinations maps picks r cols)) next
        ∙ ap text (all_combinations_more maps picks cols row)
        ∙ text-append (all_combinations maps picks row cols) (row_combinations maps picks cols row)

    -- the text of the rows so far, this row and the rows after it is the text of all rows
    pub rows-all : (cols row rows : ℕ) → row < rows
        → (text (all_combinations maps picks row cols) ++ text (row_combinations maps picks cols row))
        ++ text (flat_map (row_combinations maps picks cols) (range_with_len (row + 1) (rows - (row + 1))))
        ≡ text (all_combinations maps picks rows cols)
    rows-all cols row rows within =
        let g = row_combinations maps picks cols in
        let behind = rows - (row + 1) in
        let whole : row + 1 + behind ≡ rows = omega (arith, within) in
        let start : 0 + (row + 1) ≡ row + 1 = zero-add (row + 1) in
        ap (λ (l : List ℕ). l ++ text (flat_map g (range_with_len (row + 1) behind))) (sym (row-more cols row))
        ∙ sym (text-append (all_combinations maps picks (row + 1) cols) (flat_map g (range_with_len (row + 1) behind)))
        ∙ ap text (sym (flat_map-append g (range_with_len 0 (row + 1)) (range_with_len (row + 1) behind))
        ∙ ap (λ (s : ℕ). flat_map g (range_with_len 0 (row + 1) ++ range_with_len s behind)) (sym start)
        ∙ ap (flat_map g) (sym (range-append 0 (row + 1) behind))
        ∙ ap (λ (m : ℕ). flat_map g (range_with_len 0 m)) whole)

-- one more equal text is appended
pub flat_map-replicate-more : {X : Type 0} (f : X → List ℕ) (n : ℕ) (x : X) → flat_map f (replicate (n + 1) x) ≡ flat_map f (replicate n x) ++ f x
flat_map-replicate-more f n x =
    let next : n + 1 ≡ suc n = omega arith in
    ap (λ (m : ℕ). flat_map f (replicate m x)) next ∙ by n
  where
    by : (n : ℕ) → flat_map f (replicate (suc n) x) ≡ flat_map f (replicate n x) ++ f x
    by zero = append-nil (f x)
    by (suc n) = ap (λ (l : List ℕ). f x ++ l) (by n) ∙ sym (append_assoc (f x) (flat_map f (replicate n x)) (f x))

-- ---- a walk over a row, stretch by stretch

-- the walk is at a column, and `count` columns from there on have these cells
pub record StandsAt (shelf : ShelfValue) (picks : List ℕ) (row cols col count : ℕ) (cursors : List RunCursorValue)
    (cells : Combination) : Type 0 where
  pub wide : RowsAreAsWideAsRegion shelf row picks
  pub region : cols ≡ shelf.region.cols
  pub ahead : map to_come cursors ≡ map (λ p. drop col (row_of_map_at_place shelf.maps row p)) picks
  pub ready : All CursorHasNoEmptyLaterRun cursors
  pub same : cells ≡ map (λ c. c.cell) cursors
  pub least : All (λ c. count ≤ c.left) cursors
  pub some : col < cols → 0 < count
  pub most : col + count ≤ cols

-- before the first column, no columns of any run are passed
pub stands_none : (cursors : List RunCursorValue) → All (λ c. 0 ≤ c.left) cursors
stands_none cursors i d within = omega arith

module _ {shelf : ShelfValue} {picks : List ℕ} {row cols next : ℕ} {new : List RunCursorValue} {cells : Combination}
  where
    passed-to : (col count left : ℕ) (old : List RunCursorValue)
        → RowsAreAsWideAsRegion shelf row picks → cols ≡ shelf.region.cols → col + count + left ≡ cols
        → map to_come old ≡ map (λ p. drop col (row_of_map_at_place shelf.maps row p)) picks
        → map to_come new ≡ map (λ c. drop count (to_come c)) old
        → All CursorHasNoEmptyLaterRun new → cells ≡ map (λ c. c.cell) new → All (λ c. next ≤ c.left) new
        → next ≤ left → (All (λ c. 0 < c.left) new → 0 < left → 0 < next)
        → StandsAt shelf picks row cols (col + count) next new cells
    passed-to col count left old wide region rest before passed ready same least most some =
        let here = passed-on shelf.maps row col count old new picks passed before in
        record {
          wide = wide;
          region = region;
          ahead = here;
          ready = ready;
          same = same;
          least = least;
          some = λ inside.
              let within : col + count < shelf.region.cols = omega (arith, inside, region) in
              some (alive shelf.maps row (col + count) new picks shelf.region.cols here wide within ready)
              (omega (arith, rest, inside));
          most = omega (arith, most, rest);
        }

    -- the walk starts at the first column
    pub stands-start : (old : List RunCursorValue) {stored : RegionValue} → stored ≡ shelf.region → cols ≡ stored.cols
        → RowsAreAsWideAsRegion shelf row picks → map to_come old ≡ map (λ p. row_of_map_at_place shelf.maps row p) picks
        → map to_come new ≡ map to_come old
        → All CursorHasNoEmptyLaterRun new → cells ≡ map (λ c. c.cell) new → All (λ c. next ≤ c.left) new
        → next ≤ cols → (All (λ c. 0 < c.left) new → 0 < cols → 0 < next)
        → StandsAt shelf picks row cols 0 next new cells
    stands-start old region value wide before passed ready same least most some =
        passed-to 0 0 cols old wide (value ∙ ap (λ (r : RegionValue). r.cols) region) (zero-add cols) before passed ready
        same least most some

    -- the walk continues after a stretch
    pub stands-next : {col count : ℕ} {old : List RunCursorValue} {cells-before : Combination}
        → StandsAt shelf picks row cols col count old cells-before
        → map to_come new ≡ map (λ c. drop count (to_come c)) old
        → All CursorHasNoEmptyLaterRun new → cells ≡ map (λ c. c.cell) new → All (λ c. next ≤ c.left) new
        → next ≤ cols - (col + count) → (All (λ c. 0 < c.left) new → 0 < cols - (col + count) → 0 < next)
        → StandsAt shelf picks row cols (col + count) next new cells
    stands-next {col = col} {count = count} {old = old} walk passed ready same least most some =
        passed-to col count (cols - (col + count)) old walk.wide walk.region (omega (arith, walk.most)) walk.ahead passed
        ready same least most some

module _ {shelf : ShelfValue} {picks : List ℕ} {row cols col count : ℕ} {cursors : List RunCursorValue}
    {cells : Combination} (walk : StandsAt shelf picks row cols col count cursors cells) where
  -- there is one cell for each cursor
  pub stands_cells : length cells ≡ length cursors
  stands_cells = ap length walk.same ∙ length-map cursors (λ (c : RunCursorValue). c.cell)

  stands-width : length cells ≡ length picks
  stands-width =
      let all = length-map cursors to_come in
      let ahead = ap length walk.ahead ∙ length-map picks (λ p. drop col (row_of_map_at_place shelf.maps row p)) in
      omega (arith, stands_cells, all, ahead)

  pub stands_picks : {before : Combination} → HasCellPerPickedMap shelf picks before
      → HasCellPerPickedMap shelf picks cells
  stands_picks is = record { picked = is.picked; some = is.some; width = stands-width }

  -- the text of the row grows by the cells of the stretch
  pub stands-more : (f : Combination → List ℕ) (skip : Skip)
      → kept_text f skip (map (combination_at_row_and_column shelf.maps picks row) (range_with_len 0 (col + count)))
      ≡ kept_text f skip (map (combination_at_row_and_column shelf.maps picks row) (range_with_len 0 col))
      ++ kept_text f skip (replicate count cells)
  stands-more f skip =
      let k = combination_at_row_and_column shelf.maps picks row in
      ap (kept_text f skip) (stretch k cells col count (λ j within.
      alike shelf.maps row col cursors picks count j walk.ahead walk.least within ∙ sym walk.same))
      ∙ text-append f skip (map k (range_with_len 0 col)) (replicate count cells)

  -- the row ends if no columns are left
  pub stands-end : cols ≤ col → col ≡ shelf.region.cols
  stands-end ended = omega (arith, ended, walk.most, walk.region)

  pub stands_fits : {most : ℕ} → cols ≡ most → most ≤ 65535 → Fits w32 (col + count)
  stands_fits same high = omega (arith, same, high, walk.most)

  pub stands_smaller : col < cols → cols - (col + count) < cols - col
  stands_smaller inside = omega (arith, walk.some inside, walk.most)
