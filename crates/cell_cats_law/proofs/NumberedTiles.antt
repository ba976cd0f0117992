-- The numbers of a tile are replaced by the numbers of the full map.
use Rattle.std.proofs.Common.{◌≡◌, ℕ, zero, suc, pos, negsuc, ◌-◌, map, [], ◌∷◌, List, get_or, Some, None}
use Rattle.std.proofs.Common.{refl, ap, sym, ◌∙◌}
use Rattle.cell_core.specs.Grid.{Grid, CellValue}
use Rattle.cell_clumps.specs.declared.clump.Joining.{Joining}
use Rattle.cell_clumps.specs.Clumps.{Position, cell_at_position, HasClumpNumber, IsClumpMapOf}
use Rattle.cell_clumps.proofs.LawLemmas.{HasClumpNumber-one}
use Rattle.cell_join_numbers.proofs.ClumpCellLemmas.{is-some}

-- the full map's number of a cell, looked up by the cell's number in the tile
abbrev pub number_there : List ℕ → CellValue → CellValue
number_there numbers None = None
number_there numbers (Some (pos n)) = Some (pos (get_or numbers (n - 1) 0))
number_there numbers (Some (negsuc n)) = None

-- a tile's map of numbers, with each number replaced by the full map's number
abbrev pub renumbered : List ℕ → Grid → Grid
renumbered numbers m = record m { rows = map (map (number_there numbers)) m.rows }

module _ (f : CellValue → CellValue) (null : f None ≡ None) where
  row-mapped : (row : List CellValue) (c : ℕ) → get_or (map f row) c None ≡ f (get_or row c None)
  row-mapped [] c = sym null
  row-mapped (x ∷ row) zero = refl
  row-mapped (x ∷ row) (suc c) = row-mapped row c

  rows-mapped : (rows : List (List CellValue)) (r c : ℕ) →
      get_or (get_or (map (map f) rows) r []) c None ≡ f (get_or (get_or rows r []) c None)
  rows-mapped [] r c = sym null
  rows-mapped (row ∷ rows) zero c = row-mapped row c
  rows-mapped (row ∷ rows) (suc r) c = rows-mapped rows r c

pub cell-renumbered : (numbers : List ℕ) (m : Grid) (p : Position) →
    cell_at_position (renumbered numbers m) p ≡ number_there numbers (cell_at_position m p)
cell-renumbered numbers m p = rows-mapped (number_there numbers) refl m.rows p.row p.col

module _ (j : Joining) (whole numbered : Grid) (clumping : IsClumpMapOf j whole numbered) where
  -- replacing the number of a tile's cell gives its number in the full map
  pub number-here : (m numbers_map : Grid) → IsClumpMapOf j m numbers_map → (numbers : List ℕ) (p q : Position) →
      cell_at_position whole q ≡ cell_at_position m p →
      ((k : ℕ) → cell_at_position numbers_map p ≡ Some (pos k) → HasClumpNumber j whole q (get_or numbers (k - 1) 0)) →
      number_there numbers (cell_at_position numbers_map p) ≡ cell_at_position numbered q
  number-here m numbers_map has numbers p q cell reports = by (cell_at_position m p) refl
    where
      by : (c : CellValue) → cell_at_position m p ≡ c →
          number_there numbers (cell_at_position numbers_map p) ≡ cell_at_position numbered q
      by None none = ap (number_there numbers) (has.nulls p none) ∙ sym (clumping.nulls q (cell ∙ none))
      by (Some v) some =
          let t = has.numbered p (is-some (cell_at_position m p) v some) in
          let u = clumping.numbered q (is-some (cell_at_position whole q) v (cell ∙ some)) in
          let same = HasClumpNumber-one j whole q (get_or numbers (t.0 - 1) 0) u.0 (reports t.0 t.2) u.1 in
          ap (number_there numbers) t.2 ∙ ap (λ (n : ℕ). Some (pos n)) same ∙ sym u.2
