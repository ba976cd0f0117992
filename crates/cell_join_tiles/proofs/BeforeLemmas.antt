-- A walk over the rows of a tile that finds the row in which a clump begins.
use Rattle.std.proofs.Common.{◌≡◌, ℕ, ◌+◌, ◌<◌, ◌≤◌, List, length, get_or, arith}
use Rattle.cell_join_tiles.specs.Beginnings.{begun_clump_count_before_row, row_where_clump_number_begins}
use Rattle.cell_join_tiles.proofs.StretchLemmas.{stretch-is}

-- the number of a clump is what is left plus the clumps that begin in earlier rows
pub record IsSoFar (begun : List ℕ) (clump row left : ℕ) : Type 0 where
  pub inside : row < length begun
  pub rest : left + begun_clump_count_before_row begun row ≡ clump

pub row-found : (begun : List ℕ) (clump row left : ℕ) → IsSoFar begun clump row left → left < get_or begun row 0 → row_where_clump_number_begins begun clump ≡ row
row-found begun clump row left h lt = stretch-is begun row clump (record { inside = h.inside; low = omega (arith, h.rest); high = omega (arith, h.rest, lt) })

-- the entries of the rows before this one are moved past the clumps that begin there; the others are unchanged
pub record IsPassed (old begun : List ℕ) (row : ℕ) (line : List ℕ) : Type 0 where
  pub long : length line ≡ length old
  pub passed : (i : ℕ) → i < row → get_or line i 0 ≡ get_or old i 0 + get_or begun i 0
  pub others : (i : ℕ) → row ≤ i → get_or line i 0 ≡ get_or old i 0
