-- The maximum length of a grid text.
use Rattle.std.proofs.Common.{Some, None, ◌≡◌, ◌+◌, ◌-◌, ◌*◌, ◌/◌, ◌%◌, ◌<◌, ◌≤◌, ◌==◌, ℕ, ℤ, pos, negsuc, suc, Bool, true, false, List, [], ◌∷◌, ◌++◌, All, length, drop, map, reverse, get_or, codes, decimal, flat_map, unsigned_abs, refl, arith, length-append, length-take, length-drop}
use Rattle.std.specs.List.{join_with_byte, prefix_len}
use Rattle.std.proofs.lemmas.Bool.Decides.{nat_tests}
use Rattle.std.proofs.lemmas.Fmt.{length-decimal-le}
use Rattle.cell_core_values.specs.Region.{RegionValue}
use Rattle.std.specs.Prelude.{bytes_eq}
use Rattle.cell_ascii_meaning.specs.Header.{usual_null_text}
use lib.Signed.{mag}
use Rattle.std.proofs.lemmas.Int.{ints}
use Rattle.std.proofs.lemmas.List.Elements.{All-map}
use Rattle.std.proofs.lemmas.Fmt.{length_signed_le}
use Rattle.std.proofs.lemmas.List.{length-map}
use Rattle.cell_core_values.specs.Cell.{IsNullOrCategory, is_category}
use Rattle.cell_core.specs.Grid.{CellValue, Grid, RowsFillRegion, CellsAreNullOrCategories}
use Rattle.cell_core.specs.Text.{cell_text}
use Rattle.cell_ascii_meaning.specs.Writing.{coordinate_text, fraction_text, grid_text, key_line, null_text_header_line, header_lines_of_region, row_text, unsigned_coordinate_text, digits_without_trailing_zeros}
use Rattle.cell_ascii_writer.proofs.WriterLemmas.{fraction_text-some}

zeros_le : (digits : List ℕ) {most : ℕ} → length digits ≤ most → length (digits_without_trailing_zeros digits) ≤ most
zeros_le digits h = omega (arith, h, length-take (length digits - prefix_len (λ b. b == 48) (reverse digits)) digits)

decimal_20 : (n : ℕ) → n < 18446744073709551616 → length (decimal n) ≤ 20
decimal_20 n h = length-decimal-le 20 n (omega arith) (omega (arith, h)) h

eight : (part : ℕ) → part < 100000000 → length (drop 1 (decimal (100000000 + part))) ≤ 20
eight part h = omega (arith, decimal_20 (100000000 + part) (omega (arith, h)), length-drop 1 (decimal (100000000 + part)))

some_fraction : (part : ℕ) → part < 100000000 → length ((46 ∷ []) ++ digits_without_trailing_zeros (drop 1 (decimal (100000000 + part)))) ≤ 21
some_fraction part h =
    let digits = drop 1 (decimal (100000000 + part)) in
    let few : length (digits_without_trailing_zeros digits) ≤ 20 = zeros_le digits (eight part h) in
    omega (arith, few, length-append (46 ∷ []) (digits_without_trailing_zeros digits))

fraction_if : (part : ℕ) → part < 100000000 → (none : Bool) → (part == 0) ≡ none → length (fraction_text part) ≤ 21
fraction_if part h true e = rw e (omega arith)
fraction_if part h false e = rw (fraction_text-some part (grind (arith, nat_tests))) (some_fraction part h)

fraction : (part : ℕ) → part < 100000000 → length (fraction_text part) ≤ 21
fraction part h = fraction_if part h (part == 0) refl

units : (n : ℕ) → n < 18446744073709551616 → length (unsigned_coordinate_text n) ≤ 41
units n h = omega (arith, decimal_20 (n / 100000000) (omega (arith, h)), fraction (n % 100000000) (omega arith), length-append (decimal (n / 100000000)) (fraction_text (n % 100000000)))

pub coordinate : (z : ℤ) → unsigned_abs z < 18446744073709551616 → length (coordinate_text z) ≤ 42
coordinate (pos n) h = omega (arith, units n h)
coordinate (negsuc n) h = omega (arith, units (suc n) h)

line : (key value : List ℕ) → length (key_line key value) ≡ length key + length value + 3
line key value = omega (arith, length-append ((key ++ codes ": ") ++ value) (10 ∷ []), length-append (key ++ codes ": ") value, length-append key (codes ": "))

edge_line : (key : List ℕ) (z : ℤ) → length key ≤ 5 → unsigned_abs z < 18446744073709551616 → length (key_line key (coordinate_text z)) ≤ 50
edge_line key z few h = omega (arith, line key (coordinate_text z), coordinate z h, few)

side_line : (key : List ℕ) (n : ℕ) → length key ≤ 5 → n ≤ 65535 → length (key_line key (decimal n)) ≤ 28
side_line key n few h = omega (arith, line key (decimal n), decimal_20 n (omega (arith, h)), few)

-- the lines of a region have at most 256 bytes
pub region_length : (e : RegionValue) → unsigned_abs e.north < 18446744073709551616 → unsigned_abs e.south < 18446744073709551616 → unsigned_abs e.east < 18446744073709551616 → unsigned_abs e.west < 18446744073709551616
    → e.rows ≤ 65535 → e.cols ≤ 65535 → length (header_lines_of_region e) ≤ 256
region_length e north south east west rows cols =
    let a = key_line (codes "north") (coordinate_text e.north) in
    let b = key_line (codes "south") (coordinate_text e.south) in
    let c = key_line (codes "east") (coordinate_text e.east) in
    let d = key_line (codes "west") (coordinate_text e.west) in
    let r = key_line (codes "rows") (decimal e.rows) in
    let s = key_line (codes "cols") (decimal e.cols) in
    omega (
      arith,
      edge_line (codes "north") e.north (omega arith) north,
      edge_line (codes "south") e.south (omega arith) south,
      edge_line (codes "east") e.east (omega arith) east,
      edge_line (codes "west") e.west (omega arith) west,
      side_line (codes "rows") e.rows (omega arith) rows,
      side_line (codes "cols") e.cols (omega arith) cols,
      length-append ((((a ++ b) ++ c) ++ d) ++ r) s,
      length-append (((a ++ b) ++ c) ++ d) r,
      length-append ((a ++ b) ++ c) d,
      length-append (a ++ b) c,
      length-append a b,
    )

-- the line of a null text has at most 71 bytes
pub null_length : (null : List ℕ) → length null ≤ 64 → length (null_text_header_line null) ≤ 71
null_length null few = by (bytes_eq null usual_null_text) refl
  where
    by : (usual : Bool) → bytes_eq null usual_null_text ≡ usual → length (null_text_header_line null) ≤ 71
    by true e = rw e (omega arith)
    by false e = rw e (omega (arith, line (codes "null") null, few))

-- texts of at most 64 bytes, joined by a byte, have at most 65 bytes each
joined : (c : ℕ) (texts : List (List ℕ)) → All (λ t. length t ≤ 64) texts → length (join_with_byte c texts) ≤ 65 * length texts
joined c [] few = omega arith
joined c (t ∷ []) few = omega (arith, few 0 [] (omega arith))
joined c (t ∷ u ∷ texts) few =
    omega (arith, few 0 [] (omega arith), joined c (u ∷ texts) (λ i d h. few (suc i) d (omega (arith, h))), length-append t (c ∷ join_with_byte c (u ∷ texts)))

one_after_another : {X : Type 0} (f : X → List ℕ) (xs : List X) → All (λ x. length (f x) ≤ 4259776) xs → length (flat_map f xs) ≤ 4259776 * length xs
one_after_another f [] few = omega arith
one_after_another f (x ∷ xs) few =
    omega (arith, few 0 x (omega arith), one_after_another f xs (λ i d h. few (suc i) d (omega (arith, h))), length-append (f x) (flat_map f xs))

-- the magnitude of a category is below 2^31
category_below : (c : ℤ) → is_category c ≡ true → mag c < 2147483648
category_below (pos n) h = grind (arith, ints)
category_below (negsuc n) h = grind (arith, ints)

cell : (null : List ℕ) → length null ≤ 64 → (cell : CellValue) → IsNullOrCategory cell
    → length (cell_text null cell) ≤ 64
cell null few None is = few
cell null few (Some c) is = let below = category_below c is in omega (arith, length_signed_le 19 c (omega (arith, below)) (omega (arith, below)))

cells : (null : List ℕ) → length null ≤ 64 → (row : List CellValue) → All IsNullOrCategory row → All (λ t. length t ≤ 64) (map (cell_text null) row)
cells null few row are = All-map (λ t. length t ≤ 64) (cell_text null) row (λ i d h. cell null few (get_or row i d) (are i d h))

row_length : (null : List ℕ) → length null ≤ 64 → (row : List CellValue) → All IsNullOrCategory row → length row ≤ 65535 → length (row_text null row) ≤ 4259776
row_length null few row are narrow =
    let texts = map (cell_text null) row in
    omega (arith, joined 32 texts (cells null few row are), length-map row (cell_text null), narrow, length-append (join_with_byte 32 texts) (10 ∷ []))

-- the length of a grid text is below the largest count
pub grid_length : (null : List ℕ) → length null ≤ 64 → (m : Grid) → length (header_lines_of_region m.region) ≤ 256 → m.region.rows ≤ 65535 → m.region.cols ≤ 65535 → RowsFillRegion m.region m.rows → CellsAreNullOrCategories m.rows
    → length (grid_text null m) < 18446744073709551615
grid_length null few m region rows cols filled are =
    let text = flat_map (row_text null) m.rows in
    let lines = one_after_another (row_text null) m.rows (λ i d h. row_length null few (get_or m.rows i d) (are i d h) (omega (arith, filled.width i d h, cols))) in
    omega (arith, region, rows, null_length null few, lines, filled.count, length-append (header_lines_of_region m.region ++ null_text_header_line null) text, length-append (header_lines_of_region m.region) (null_text_header_line null))
