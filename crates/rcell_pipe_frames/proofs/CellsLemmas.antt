-- The number of a table's entries of cells, and their content.
use Rattle.std.proofs.Common.{◌≡◌, ℕ, suc, ◌+◌, ◌-◌, ◌≤◌, List, [], ◌∷◌, ◌++◌, map, length, not, refl, ap, sym, ◌∙◌, arith, mul-le-mul, Bool}
use Rattle.std.proofs.lemmas.List.Sums.{count_by-le-length, length-filter}
use Rattle.std.proofs.lemmas.List.Folds.{flat_map-map}
use Rattle.std.specs.List.{flat_map, zip}
use Rattle.cell_core.specs.Grid.{Grid, CellValue}
use Rattle.cell_core_devices.specs.Blocks.{capped_byte_count}
use Rattle.cell_stats_combinations.specs.declared.skip.Skip.{Skip}
use Rattle.cell_stats_combinations.specs.declared.skip.Skip.TheVariants.{Nothing}
use Rattle.cell_stats_combinations.specs.Combinations.{Combination, all_combinations}
use Rattle.cell_stats_combinations.specs.LeftOut.{kept_cells, combination_is_left_out}
use Rattle.cell_stats_combinations.proofs.WalkLemmas.{length_all}
use Rattle.cell_stats.specs.TableText.{label_of_cell}
use Rattle.rcell_pipe_frames.specs.declared.cells_frame.EntryPart.TheVariants as parts
use Rattle.rcell_pipe_frames.specs.Frames.{combination_labels, cells_as_entries_with_count_one}
use Rattle.rcell_pipe_frames.specs.FrameBytes.{cell_bytes_of_combinations, length_and_text_bytes, four_bytes_of_cell}
use Rattle.rcell_pipe_frames.specs.parts.CellEntries.{entry_part_bytes}

-- if no combination is left out, all cells are kept
pub kept-all : (cells : List Combination) → kept_cells Nothing cells ≡ cells
kept-all [] = refl
kept-all (k ∷ ks) = ap (λ (l : List Combination). k ∷ l) (kept-all ks)

-- there are as many bytes as entries, if each entry has one byte
pub marks : (maps : List Grid) (picks : List ℕ) (cells : List Combination)
    → length (flat_map (entry_part_bytes parts.Mark maps picks) cells) ≡ length cells
marks maps picks [] = refl
marks maps picks (k ∷ ks) = ap suc (marks maps picks ks)

-- the number of a map's cells is below the largest count, so it is not capped
capped-small : (n : ℕ) → n ≤ 4294836225 → capped_byte_count n ≡ n
capped-small n small = omega (arith, small)

pub kept-few : (maps : List Grid) (picks : List ℕ) (cols : ℕ) (skip : Skip) (rows : ℕ) → rows ≤ 65535 → cols ≤ 65535
    → capped_byte_count (length (kept_cells skip (all_combinations maps picks rows cols)))
    ≡ length (kept_cells skip (all_combinations maps picks rows cols))
kept-few maps picks cols skip rows high wide =
    let all = all_combinations maps picks rows cols in
    let p : Combination → Bool = λ k. not (combination_is_left_out skip k) in
    let few = mul-le-mul high wide in
    capped-small (length (kept_cells skip all)) (omega (arith, few, count_by-le-length p all, length-filter p all, length_all maps picks cols rows))

-- the bytes of entries that occur once are their cells and labels
pub entries-cells : (maps : List Grid) (picks : List ℕ) (cells : List Combination)
    → flat_map (entry_part_bytes parts.Cells maps picks) cells
    ≡ cell_bytes_of_combinations (cells_as_entries_with_count_one cells)
entries-cells maps picks [] = refl
entries-cells maps picks (k ∷ ks) = ap (λ (l : List ℕ). flat_map four_bytes_of_cell k
    ++ l) (entries-cells maps picks ks)

pub entries-labels : (maps : List Grid) (picks : List ℕ) (cells : List Combination)
    → flat_map (entry_part_bytes parts.Labels maps picks) cells ≡ flat_map (flat_map length_and_text_bytes) (map
    (combination_labels maps picks) (cells_as_entries_with_count_one cells))
entries-labels maps picks [] = refl
entries-labels maps picks (k ∷ ks) =
    ap (λ (l : List ℕ). l ++ flat_map (entry_part_bytes parts.Labels maps picks) ks)
    (sym (flat_map-map length_and_text_bytes (λ
    (p : ℕ × CellValue). label_of_cell maps p.0 p.1) (zip picks k)))
    ∙ ap (λ (l : List ℕ). flat_map length_and_text_bytes (combination_labels maps picks (k, 1)) ++ l)
    (entries-labels maps picks ks)
