-- The border in a frame is read back as a tile of a join request.
use Rattle.std.proofs.Common.{◌≡◌, ◌∙◌, ℕ, pos, negsuc, ◌<◌, ◌≤◌, ◌^◌, Bool, true, false, ◌&&◌, eqb, List, [], ◌∷◌}
use Rattle.std.proofs.Common.{◌++◌, length, Some, None, Ok, refl, ap, sym, subst, arith, rules, append_assoc}
use Rattle.std.proofs.Common.{append-nil, flat_map}
use Rattle.std.specs.Prelude.{All, int_le}
use Rattle.std.specs.Int.{w32, to_le_bytes}
use Rattle.std.specs.Int.RustNames.{FitsSigned}
use Rattle.std.proofs.lemmas.Bool.{eqb-true, eq-eqb}
use Rattle.std.proofs.lemmas.Bool.Decides.{nat_tests}
use Rattle.std.proofs.lemmas.Int.{ints}
use Rattle.cell_core_devices.specs.Device.{ComingBytes}
use Rattle.cell_core_values.specs.Cell.{IsNullOrCategory, cell_of_stored_number, stored_number_of_cell, is_category}
use Rattle.cell_core.specs.Grid.{CellValue, CellsAreNullOrCategories}
use Rattle.cell_clumps.specs.declared.clump.Joining.{Joining}
use Rattle.cell_clumps.specs.declared.clump.Joining.TheVariants.{Edges, EdgesAndCorners}
use Rattle.cell_join_tiles.specs.Values.{TileBorderValue, TileSideValue, TileSideHasLength}
use Rattle.rcell_pipe_request.specs.Feeds.{after}
use Rattle.rcell_pipe_request.specs.RequestFields.{reading_repeated_n_times}
use Rattle.rcell_pipe_frames.specs.FrameBytes.{four_bytes_of_cell, eight_bytes_of_number, joining_code}
use Rattle.rcell_pipe_frames.specs.FrameBytes.{tile_side_bytes, border_fields_bytes, tile_position_bytes}
use Rattle.rcell_pipe_frames.specs.FrameBytes.{tile_size_and_border_bytes}
use Rattle.rcell_pipe_law.proofs.SentFieldLemmas.{after-append}
use Rattle.rcell_pipe_law.proofs.SentMapLemmas.{head_of, tail_of}
use Rattle.rcell_pipe_law.proofs.SentNumberLemmas.{reads_8, reads_32, reads_64, signed_32}
use Rattle.rcell_pipe_borders.specs.BorderGrids.{cells_with_next_cell_reading, four_byte_cells_reading}
use Rattle.rcell_pipe_borders.specs.BorderGrids.{row_patch_counts_with_next_reading, row_patch_counts_reading}
use Rattle.rcell_pipe_borders.specs.BorderGrids.{tile_side_reading, border_fields_reading, tile_size_reading}
use Rattle.rcell_pipe_borders.specs.BorderGrids.{is_valid_tile_side_length, tile_connectivity_reading}
use Rattle.rcell_pipe_borders.specs.BorderGrids.{tile_position_reading}
use Rattle.rcell_pipe_borders.specs.BorderFrameLaw.{BorderFramesAreTilesOfJoinRequests}

both : (a b : Bool) → (a && b) ≡ true → (a ≡ true) × (b ≡ true)
both true b is = (refl, is)
both false b is = cc

-- the number stored for a cell has 32 bits, and denotes the cell
stored-fits : (cell : CellValue) → IsNullOrCategory cell → FitsSigned w32 (stored_number_of_cell cell)
stored-fits None is = search rules
stored-fits (Some v) is =
    let p = both (int_le (negsuc 2147483646) v) (int_le v (pos 2147483647)) is in grind (arith, ints)

negative-few : (n : ℕ) → is_category (negsuc n) ≡ true → n ≤ 2147483646
negative-few n is =
    let p = both (int_le (negsuc 2147483646) (negsuc n)) (int_le (negsuc n) (pos 2147483647)) is in grind (arith, ints)

cell-again : (cell : CellValue) → IsNullOrCategory cell → cell_of_stored_number (stored_number_of_cell cell) ≡ cell
cell-again None is = refl
cell-again (Some (pos n)) is = refl
cell-again (Some (negsuc n)) is = by (eqb n 2147483647) refl
  where
    by : (m : Bool) → eqb n 2147483647 ≡ m → cell_of_stored_number (negsuc n) ≡ Some (negsuc n)
    by true e = absurd (omega (arith, eqb-true n 2147483647 e, negative-few n is))
    by false e = rw e refl

-- cells are read back
cells-read : (so_far cells : List CellValue) (rest : ComingBytes) → All IsNullOrCategory cells
    → reading_repeated_n_times cells_with_next_cell_reading so_far (length cells)
    (after (flat_map four_bytes_of_cell cells) rest) ≡ Ok (so_far ++ cells, rest)
unfolding reading_repeated_n_times cells_with_next_cell_reading
cells-read so_far [] rest good = ap (λ all. Ok (all, rest)) (sym (append-nil so_far))
cells-read so_far (cell ∷ cells) rest good =
    let own : IsNullOrCategory cell = head_of IsNullOrCategory cell cells good in
    rw (
      after-append (four_bytes_of_cell cell) (flat_map four_bytes_of_cell cells) rest,
      signed_32 (stored_number_of_cell cell) (after (flat_map four_bytes_of_cell cells) rest) (stored-fits cell own),
      cell-again cell own,
    )
    (cells-read (so_far ++ cell ∷ []) cells rest (tail_of IsNullOrCategory cell cells good)
    ∙ ap (λ all. Ok (all, rest)) (append_assoc so_far (cell ∷ []) cells))

-- counts are read back
counts-read : (so_far counts : List ℕ) (rest : ComingBytes) → All (λ count. count < 2 ^ 32) counts
    → reading_repeated_n_times row_patch_counts_with_next_reading so_far (length counts)
    (after (flat_map (to_le_bytes w32) counts) rest) ≡ Ok (so_far ++ counts, rest)
unfolding reading_repeated_n_times row_patch_counts_with_next_reading
counts-read so_far [] rest few = ap (λ all. Ok (all, rest)) (sym (append-nil so_far))
counts-read so_far (count ∷ counts) rest few = rw (
  after-append (to_le_bytes w32 count) (flat_map (to_le_bytes w32) counts) rest,
  reads_32 count (after (flat_map (to_le_bytes w32) counts) rest) (head_of (λ n. n < 2 ^ 32) count counts few),
)
    (counts-read (so_far ++ count ∷ []) counts rest (tail_of (λ n. n < 2 ^ 32) count counts few)
    ∙ ap (λ all. Ok (all, rest)) (append_assoc so_far (count ∷ []) counts))

line-read : (n : ℕ) (cells : List CellValue) (rest : ComingBytes) → length cells ≡ n → All IsNullOrCategory cells
    → four_byte_cells_reading n (after (flat_map four_bytes_of_cell cells) rest) ≡ Ok (cells, rest)
line-read n cells rest long good =
    subst (λ (k : ℕ). four_byte_cells_reading k (after (flat_map four_bytes_of_cell cells) rest) ≡ Ok (cells, rest))
    long (cells-read [] cells rest good)

side-read : (n : ℕ) (side : TileSideValue) (rest : ComingBytes) → TileSideHasLength n side
    → All IsNullOrCategory side.cells → All IsNullOrCategory side.numbers
    → tile_side_reading n (after (tile_side_bytes side) rest) ≡ Ok (side, rest)
unfolding tile_side_reading
side-read n side rest long cells numbers = rw (
  after-append (flat_map four_bytes_of_cell side.cells) (flat_map four_bytes_of_cell side.numbers) rest,
  line-read n side.cells (after (flat_map four_bytes_of_cell side.numbers) rest) long.cells cells,
  line-read n side.numbers rest long.numbers numbers,
) refl

side-length-fits : (n : ℕ) → is_valid_tile_side_length n ≡ true → n < 2 ^ 32
side-length-fits n is = grind (arith, nat_tests)

begun-read : (n : ℕ) (counts : List ℕ) (rest : ComingBytes) → length counts ≡ n → All (λ count. count < 2 ^ 32) counts
    → row_patch_counts_reading n (after (flat_map (to_le_bytes w32) counts) rest) ≡ Ok (counts, rest)
begun-read n counts rest long few =
    subst (λ (k : ℕ). row_patch_counts_reading k (after (flat_map (to_le_bytes w32) counts) rest) ≡ Ok (counts, rest))
    long (counts-read [] counts rest few)

-- the first two lines, and the others
two-lines : (a b : List CellValue) (more : List (List CellValue)) → CellsAreNullOrCategories (a ∷ b ∷ more)
    → (All IsNullOrCategory a × All IsNullOrCategory b) × CellsAreNullOrCategories more
two-lines a b more good =
    let others = tail_of (All IsNullOrCategory) a (b ∷ more) good in (
      (head_of (All IsNullOrCategory) a (b ∷ more) good, head_of (All IsNullOrCategory) b more others),
      tail_of (All IsNullOrCategory) b more others,
    )

-- the connectivity is read back
connectivity-read : (joining : Joining) (rest : ComingBytes)
    → tile_connectivity_reading joining (after (joining_code joining ∷ []) rest) ≡ Ok (tt, rest)
unfolding tile_connectivity_reading
connectivity-read Edges rest = rw (reads_8 4 rest (omega arith)) refl
connectivity-read EdgesAndCorners rest = rw (reads_8 8 rest (omega arith)) refl

-- the position is read back
position-read : (row col : ℕ) (rest : ComingBytes) → row < 2 ^ 64 → col < 2 ^ 64
    → tile_position_reading row col (after (tile_position_bytes row col) rest) ≡ Ok (tt, rest)
unfolding tile_position_reading
position-read row col rest row_fits col_fits = rw (
  after-append (eight_bytes_of_number row) (eight_bytes_of_number col) rest,
  reads_64 row (after (eight_bytes_of_number col) rest) row_fits,
  reads_64 col rest col_fits,
  eq-eqb row row refl,
  eq-eqb col col refl,
) refl

pub tiles-read : BorderFramesAreTilesOfJoinRequests
unfolding tile_size_reading border_fields_reading
tiles-read b rest row_fits col_fits high wide sizes good =
    let rows = b.rows in
    let cols = b.cols in
    let border = b.border in
    let sized = tile_size_and_border_bytes rows cols border in
    let position = tile_position_bytes b.first_row b.first_col in
    let of_right = border.right.cells ∷ border.right.numbers ∷ [] in
    let of_left = border.left.cells ∷ border.left.numbers ∷ of_right in
    let of_last = border.last.cells ∷ border.last.numbers ∷ of_left in
    let one = two-lines border.first.cells border.first.numbers of_last good in
    let two = two-lines border.last.cells border.last.numbers of_left one.1 in
    let three = two-lines border.left.cells border.left.numbers of_right two.1 in
    let four = two-lines border.right.cells border.right.numbers [] three.1 in
    let counts = flat_map (to_le_bytes w32) border.begun in
    let right = tile_side_bytes border.right ++ counts in
    let left = tile_side_bytes border.left ++ right in
    let last = tile_side_bytes border.last ++ left in
    record {
      connectivity = ap (tile_connectivity_reading b.joining) (after-append (joining_code b.joining ∷ [])
          (position ++ sized) rest) ∙ connectivity-read b.joining (after (position ++ sized) rest);
      position = ap (tile_position_reading b.first_row b.first_col) (after-append position sized rest)
          ∙ position-read b.first_row b.first_col (after sized rest) row_fits col_fits;
      size = rw (
        after-append (to_le_bytes w32 rows) (to_le_bytes w32 cols ++ border_fields_bytes border) rest,
        reads_32 rows (after (to_le_bytes w32 cols ++ border_fields_bytes border) rest) (side-length-fits rows high),
        after-append (to_le_bytes w32 cols) (border_fields_bytes border) rest,
        reads_32 cols (after (border_fields_bytes border) rest) (side-length-fits cols wide),
        high,
        wide,
      ) refl;
      fields = rw (
        after-append (tile_side_bytes border.first) last rest,
        side-read cols border.first (after last rest) sizes.first one.0.0 one.0.1,
        after-append (tile_side_bytes border.last) left rest,
        side-read cols border.last (after left rest) sizes.last two.0.0 two.0.1,
        after-append (tile_side_bytes border.left) right rest,
        side-read rows border.left (after right rest) sizes.left three.0.0 three.0.1,
        after-append (tile_side_bytes border.right) counts rest,
        side-read rows border.right (after counts rest) sizes.right four.0.0 four.0.1,
        begun-read rows border.begun rest sizes.begun sizes.few,
      ) refl;
    }
