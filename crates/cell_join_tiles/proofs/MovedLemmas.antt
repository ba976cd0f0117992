-- Cells of a tile can be moved to their places in the full map and back.
use Rattle.std.proofs.Common.{sym, ◌∙◌, arith, inl, inr}
use Rattle.cell_core.specs.Grid.{Grid}
use Rattle.cell_clumps.specs.declared.clump.Joining.{Joining}
use Rattle.cell_clumps.specs.Clumps.{Position, IsEarlierCell, AreCellsConnected}
use Rattle.cell_join_numbers.specs.Parts.{Rectangle}
use Rattle.cell_join_numbers.specs.ClumpParts.{Tile, IsTileOfFullMap, position_in_full_map}
use Rattle.cell_join_numbers.proofs.ClumpCellLemmas.{adjacent-moved, is-some, joined-by, same-back}

pub before-moved : (r : Rectangle) (p q : Position) → IsEarlierCell (position_in_full_map r p) (position_in_full_map r q) → IsEarlierCell p q
before-moved r p q (inl h) = inl (omega (arith, h))
before-moved r p q (inr h) = inr (same-back r.top _ _ h.0, omega (arith, h.1))

pub joined-moved : (j : Joining) (whole : Grid) (t : Tile) → IsTileOfFullMap whole t → (p q : Position) → AreCellsConnected j t.map p q → AreCellsConnected j whole (position_in_full_map t.place p) (position_in_full_map t.place q)
joined-moved j whole t tile p q h =
    joined-by j t.map whole (position_in_full_map t.place) (adjacent-moved t.place j) (λ v s is. let inside = tile.outside s (is-some _ v is) in sym (tile.cells s inside.0 inside.1) ∙ is) p q h
