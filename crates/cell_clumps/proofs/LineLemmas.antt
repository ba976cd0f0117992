-- The contents of a line while a row is read.
use Rattle.std.proofs.Common.{◌≡◌, ℕ, ℤ, ◌+◌, ◌*◌, ◌<◌, ◌≤◌, ◌++◌, ◌∷◌, [], List, Some, None, length, replicate, get_or}
use Rattle.std.proofs.Common.{set, refl, ap, sym, ◌∙◌, arith, subst, ⊎_elim, get_or-set_other, get_or-set_same}
use Rattle.std.proofs.lemmas.Bool.{cases_lt}
use Rattle.std.proofs.lemmas.List.{length-set, length_push, get_or_push, get_or_append_left, get_or_default}
use Rattle.std.proofs.lemmas.List.{get_or-replicate, length-replicate}
use Rattle.cell_core.specs.Grid.{Grid, CellValue, RowsFillRegion, row_at}
use Rattle.cell_clumps.specs.declared.clump.Joining.{Joining}
use Rattle.cell_clumps.specs.declared.near.LabelledCell.{LabelledCell}
use Rattle.cell_clumps.specs.declared.near.EarlierNeighbours.{EarlierNeighbours}
use Rattle.cell_clumps.specs.Clumps.{Position, cell_at_position}
use Rattle.cell_clumps.specs.parts.CellPlaces.{position_at_row_and_column, place_of_position, IsInsideMap}
use Rattle.cell_clumps.specs.parts.ClumpsRead.{AreLeftNeighboursOfCell, AreNeighbourLabelsInTable}
use Rattle.cell_clumps.specs.parts.ClumpsRead.{AreEarlierNeighboursOfCell, RootsExistForLabelsOfCellsRead}
use Rattle.cell_clumps.specs.parts.ClumpsRead.{AreCellsBeforeColumnLabelled, IsLineOfLabelledCells}
use Rattle.cell_clumps.specs.parts.ClumpsRead.{IsLabellingStateAtColumn, IsLabelledCellOfMapOrNull}
use Rattle.cell_clumps.specs.parts.ClumpsRead.{clump_label_at_position}
use Rattle.cell_clumps.specs.parts.ClumpsRead.{neighbours_at_next_column}
use Rattle.cell_clumps.specs.parts.Starts.{IsPositionAtRowAndColumn, IsLeftNeighbour, IsUpperNeighbour}
use Rattle.cell_clumps.specs.parts.Starts.{IsUpperLeftNeighbour}
use Rattle.cell_clumps.specs.parts.Starts.{IsUpperRightNeighbour}
use Rattle.cell_clumps.proofs.StartLemmas.{same_position, inside_map}
use Rattle.cell_clumps.proofs.NearLemmas.{inside_near}
use Rattle.cell_clumps.proofs.ReadLemmas.{read_nothing}

-- a null entry is correct for a place without a category
reports_none : (m : Grid) (count : ℕ) (f : Position → ℕ) (Lies : Position → Type 0) (x : LabelledCell) → x.cell ≡ None
    → ((q : Position) (v : ℤ) → Lies q → cell_at_position m q ≡ Some v → ⊥) → IsLabelledCellOfMapOrNull m count f Lies x
reports_none m count f Lies x none never = record {
  some = λ v e. absurd (let both : None ≡ Some v = sym none ∙ e in cc);
  all = λ q v lies is. absurd (never q v lies is);
}

-- an entry stays correct for an equal set of positions
reports_as : (m : Grid) (count : ℕ) (f : Position → ℕ) (P Q : Position → Type 0) (x : LabelledCell)
    → ((q : Position) → P q → Q q) → ((q : Position) → Q q → P q) → IsLabelledCellOfMapOrNull m count f P x
    → IsLabelledCellOfMapOrNull m count f Q x
reports_as m count f P Q x to from h = record {
  some = λ v e. let t = h.some v e in (t.0, to t.0 t.1, t.2, t.3, t.4);
  all = λ q v lies is. h.all q v (from q lies) is;
}

-- an entry stays correct after more cells were read
reports_grown : (m : Grid) (count more : ℕ) (f g : Position → ℕ) (P : Position → Type 0) (x : LabelledCell)
    → count ≤ more → ((q : Position) → place_of_position m.region.cols q < count → g q ≡ f q)
    → IsLabelledCellOfMapOrNull m count f P x → IsLabelledCellOfMapOrNull m more g P x
reports_grown m count more f g P x le same h = record {
  some = λ v e. let t = h.some v e in (t.0, t.1, t.2, t.3 ∙ sym (same t.0 t.4), let lt = t.4 in omega arith);
  all = h.all;
}

-- the entry of a cell that was just read is correct
pub leads_here : (m : Grid) (count : ℕ) (f : Position → ℕ) (r c : ℕ) (x : LabelledCell)
    → x.cell ≡ cell_at_position m (position_at_row_and_column r c)
    → ((v : ℤ) → cell_at_position m (position_at_row_and_column r c) ≡ Some v
    → x.label ≡ f (position_at_row_and_column r c)) → r * m.region.cols + c < count
    → IsLabelledCellOfMapOrNull m count f (IsPositionAtRowAndColumn r c) x
leads_here m count f r c x cell label lt = record {
  some = λ v e. let is = sym cell ∙ e in (position_at_row_and_column r c, (refl, refl), is, label v is, lt);
  all = λ q v lies is. cell ∙ sym (ap (cell_at_position m) (same_position q r c lies.0 lies.1)) ∙ is;
}

-- the entries next to a cell describe the neighbours of the next cell
pub near_next : (m : Grid) → ((p : Position) (v : ℤ) → cell_at_position m p ≡ Some v → IsInsideMap m p)
    → (count : ℕ) (f : Position → ℕ) (r c : ℕ) (line : List LabelledCell) → IsLineOfLabelledCells m count f r c line
    → (near : EarlierNeighbours) → AreLeftNeighboursOfCell m count f r c near → c < m.region.cols
    → AreEarlierNeighboursOfCell m count f r c (neighbours_at_next_column line c near)
near_next m inside count f r c line is_line near beside c_in = record {
  left = beside.left;
  upper_left = beside.upper_left;
  above = is_line.above c near.left (omega arith) c_in;
  upper_right = ⊎_elim (λ lt. is_line.above (c + 1) near.left (omega arith) lt)
      (λ ge. let e : c + 1 ≡ m.region.cols = omega arith in
      let none : (get_or line (c + 1) near.left).cell ≡ None = ap (λ (k : ℕ). (get_or line k near.left).cell) e
      ∙ is_line.end near.left in
      reports_none m count f (IsUpperRightNeighbour r c) (get_or line (c + 1) near.left) none
      (λ q v lies is. let col = lies.1 in let q_in = (inside q v is).1 in omega arith))
      (cases_lt (c + 1) m.region.cols);
}

-- two null entries describe the neighbours to the left of a row's first cell
pub beside_first : (m : Grid) (count : ℕ) (f : Position → ℕ) (r : ℕ) (near : EarlierNeighbours)
    → near.left.cell ≡ None → near.above.cell ≡ None → AreLeftNeighboursOfCell m count f r 0 near
beside_first m count f r near left above = record {
  left = reports_none m count f (IsLeftNeighbour r 0) near.left left (λ q v lies is. let col = lies.1 in omega arith);
  upper_left = reports_none m count f (IsUpperLeftNeighbour r 0) near.above above
      (λ q v lies is. let col = lies.1 in omega arith);
}

-- ---- reading one more cell

module _ (m : Grid) (count more : ℕ) (f g : Position → ℕ) (le : count ≤ more) (same : (q : Position)
    → place_of_position m.region.cols q < count → g q ≡ f q) (r c : ℕ) (x : LabelledCell)
    (here : IsLabelledCellOfMapOrNull m more g (IsPositionAtRowAndColumn r c) x) where
  pub line_next : (line : List LabelledCell) → c < m.region.cols → IsLineOfLabelledCells m count f r c line
      → IsLineOfLabelledCells m more g r (c + 1) (set line c x)
  line_next line c_in is_line =
      let wide = is_line.wide in
      record {
        wide = length-set line c x ∙ is_line.wide;
        end = λ d. ap (λ (z : LabelledCell). z.cell) (get_or-set_other line c m.region.cols x d (omega arith))
            ∙ is_line.end d;
        here = λ k d lt. ⊎_elim
            (λ below. subst (IsLabelledCellOfMapOrNull m more g (IsPositionAtRowAndColumn r k))
            (sym (get_or-set_other line c k x d (omega arith))) (reports_grown m count more f g
            (IsPositionAtRowAndColumn r k)
            (get_or line k d) le same (is_line.here k d below)))
            (λ ge. let e : c ≡ k = omega arith in subst (λ (i : ℕ). IsLabelledCellOfMapOrNull m more g
            (IsPositionAtRowAndColumn r i)
            (get_or (set line c x) i d)) e (subst (IsLabelledCellOfMapOrNull m more g (IsPositionAtRowAndColumn r c))
            (sym (get_or-set_same line c x d (omega arith))) here))
            (cases_lt k c);
        above = λ k d ge lt. subst (IsLabelledCellOfMapOrNull m more g (IsUpperNeighbour r k))
            (sym (get_or-set_other line c k x d (omega arith))) (reports_grown m count more f g (IsUpperNeighbour r k)
            (get_or line k d) le same (is_line.above k d (omega arith) lt));
      }

  pub beside_next : (near : EarlierNeighbours) → AreEarlierNeighboursOfCell m count f r c near
      → AreLeftNeighboursOfCell m more g r (c + 1) (record near { left = x })
  beside_next near n = record {
    left = reports_as m more g (IsPositionAtRowAndColumn r c) (IsLeftNeighbour r (c + 1)) x
        (λ q h. let col = h.1 in (h.0, omega arith)) (λ q h. let col = h.1 in (h.0, omega arith)) here;
    upper_left = reports_as m more g (IsUpperNeighbour r c) (IsUpperLeftNeighbour r (c + 1)) near.above
        (λ q h. let col = h.1 in (h.0, omega arith)) (λ q h. let col = h.1 in (h.0, omega arith))
        (reports_grown m count more f g (IsUpperNeighbour r c) near.above le same n.above);
  }

-- a line read to the end of a row is the line at the start of the next row
pub line_down : (m : Grid) (count : ℕ) (f : Position → ℕ) (r : ℕ) (line : List LabelledCell)
    → IsLineOfLabelledCells m count f r m.region.cols line → IsLineOfLabelledCells m count f (r + 1) 0 line
line_down m count f r line h = record {
  wide = h.wide;
  end = h.end;
  here = λ k d lt. absurd (omega arith);
  above = λ k d ge lt. reports_as m count f (IsPositionAtRowAndColumn r k) (IsUpperNeighbour (r + 1) k)
      (get_or line k d)
      (λ q l. let row = l.0 in (omega arith, l.1)) (λ q l. let row = l.0 in (omega arith, l.1)) (h.here k d lt);
}

-- ---- labels in the line

module _ (j : Joining) (m : Grid) (table : List ℕ) (line : List LabelledCell) (r c : ℕ) (near : EarlierNeighbours)
    (h : IsLabellingStateAtColumn j m table line r c near) (c_in : c < m.region.cols) (after : EarlierNeighbours)
    (moved : after ≡ neighbours_at_next_column line c near) where
  pub reading_near : AreEarlierNeighboursOfCell m (length h.cells.labels)
      (clump_label_at_position m h.cells.labels) r c after
  reading_near = subst (AreEarlierNeighboursOfCell m (length h.cells.labels)
      (clump_label_at_position m h.cells.labels) r c)
      (sym moved) (near_next m h.cells.has_read.read.inside (length h.cells.labels)
      (clump_label_at_position m h.cells.labels) r c line h.cells.is_line near h.beside c_in)

  pub reading_inside : AreNeighbourLabelsInTable (length table) after
  reading_inside = inside_near j m table h.cells.labels h.cells.has_read.open_of r c after h.cells.has_read.read
      reading_near

  pub reading_next : (new : List ℕ) (z : LabelledCell) → z.cell ≡ cell_at_position m (position_at_row_and_column r c)
      → RootsExistForLabelsOfCellsRead j m new (h.cells.labels ++ z.label ∷ [])
      → IsLabellingStateAtColumn j m new (set line c z) r (c + 1) (record after { left = z })
  reading_next new z cell has_read =
      let old : List ℕ = h.cells.labels in
      let more : List ℕ = old ++ z.label ∷ [] in
      let count = h.cells.count in
      let long : length more ≡ length old + 1 = length_push old z.label in
      let same : (q : Position) → place_of_position m.region.cols q < length old
      → clump_label_at_position m more q ≡ clump_label_at_position m old q = λ q lt. get_or_append_left old (z.label
      ∷ []) 0 (place_of_position m.region.cols q) lt in
      let here = leads_here m (length more) (clump_label_at_position m more) r c z cell
      (λ v is. sym (get_or_push old z.label 0 (r * m.region.cols + c) count)) (omega arith) in
      record {
        cells = record {
          labels = more;
          has_read = has_read;
          count = omega arith;
          is_line = line_next m (length old) (length more) (clump_label_at_position m old)
              (clump_label_at_position m more)
              (omega arith) same r c z here line c_in h.cells.is_line;
        };
        beside = beside_next m (length old) (length more) (clump_label_at_position m old)
            (clump_label_at_position m more)
            (omega arith) same r c z here after reading_near;
      }

  pub reading_next_labels : (new : List ℕ) (z : LabelledCell) (cell : z.cell
      ≡ cell_at_position m (position_at_row_and_column r c))
      (has_read : RootsExistForLabelsOfCellsRead j m new (h.cells.labels ++ z.label ∷ []))
      → (reading_next new z cell has_read).cells.labels ≡ h.cells.labels ++ z.label ∷ []
  unfolding reading_next
  reading_next_labels new z cell has_read = refl

pub cells_down : (j : Joining) (m : Grid) (table : List ℕ) (line : List LabelledCell) (r c : ℕ) → c ≡ m.region.cols
    → AreCellsBeforeColumnLabelled j m table line r c → AreCellsBeforeColumnLabelled j m table line (r + 1) 0
cells_down j m table line r c e h = record {
  labels = h.labels;
  has_read = h.has_read;
  count = let count = h.count in
      let z : (r + 1) * m.region.cols ≡ r * m.region.cols + m.region.cols = omega arith in
      omega arith;
  is_line = line_down m (length h.labels) (clump_label_at_position m h.labels) r line
      (subst (λ (k : ℕ). IsLineOfLabelledCells m (length h.labels)
      (clump_label_at_position m h.labels) r k line) e h.is_line);
}

pub cells_down_labels : (j : Joining) (m : Grid) (table : List ℕ) (line : List LabelledCell) (r c : ℕ)
    (e : c ≡ m.region.cols) (h : AreCellsBeforeColumnLabelled j m table line r c)
    → (cells_down j m table line r c e h).labels ≡ h.labels
unfolding cells_down
cells_down_labels j m table line r c e h = refl

-- a cell of a copied row is the cell of the map
pub copied : (m : Grid) (r c : ℕ) (cells : List CellValue) (x : CellValue) → cells ≡ row_at m r → c < length cells
    → x ≡ get_or cells c x → x ≡ cell_at_position m (position_at_row_and_column r c)
copied m r c cells x e lt is = is ∙ get_or_default cells c x None lt ∙ ap (λ (xs : List CellValue). get_or xs c None) e

-- before the first row, the line holds only null
pub line_empty : (m : Grid) (f : Position → ℕ) (line : List LabelledCell) (x : LabelledCell)
    → line ≡ replicate (m.region.cols + 1) x → x.cell ≡ None → IsLineOfLabelledCells m 0 f 0 0 line
line_empty m f line x is none =
    let null : (k : ℕ) (d : LabelledCell) → k < m.region.cols + 1
    → (get_or line k d).cell ≡ None = λ k d lt. ap (λ (xs : List LabelledCell). (get_or xs k d).cell) is
    ∙ ap (λ (y : LabelledCell). y.cell) (get_or-replicate (m.region.cols + 1) k x d lt) ∙ none in
    record {
      wide = ap (length {A = LabelledCell}) is ∙ length-replicate (m.region.cols + 1) x;
      end = λ d. null m.region.cols d (omega arith);
      here = λ k d lt. absurd (omega arith);
      above = λ k d ge lt. reports_none m 0 f (IsUpperNeighbour 0 k) (get_or line k d) (null k d (omega arith))
          (λ q v lies is. let row = lies.0 in omega arith);
    }

pub cells_first : (j : Joining) (m : Grid) (line : List LabelledCell) (x : LabelledCell)
    → RowsFillRegion m.region m.rows → line ≡ replicate (m.region.cols + 1) x → x.cell ≡ None
    → AreCellsBeforeColumnLabelled j m [] line 0 0
cells_first j m line x filled is none = record {
  labels = [];
  has_read = read_nothing j m (λ p v some. inside_map m p v filled some);
  count = omega arith;
  is_line = line_empty m (clump_label_at_position m []) line x is none;
}

-- after the loop, every row was read
pub all_rows : {row end rows : ℕ} → end ≤ row → row ≤ end → end ≡ rows → row ≡ rows
all_rows past within all = omega arith
