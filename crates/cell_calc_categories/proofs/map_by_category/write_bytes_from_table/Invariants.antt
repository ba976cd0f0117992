use Rattle.std.proofs.Common.{◌≡◌, ◌<◌, ℕ, get_or}
use Rattle.cell_calc_categories.proofs.map_by_category.write_bytes_from_table.Given as goal

abbrev pub invariant-loop-i : goal.invariant-loop-i
invariant-loop-i l = (c : ℕ) → c < l.i → get_or l.values c 0 ≡ get_or l.table (get_or l.bytes c 0) 0
