-- The header of a written map is read back.
use Rattle.std.proofs.Common.{◌≡◌, ℕ, ◌≤◌, ◌<◌, pos, negsuc, ℤ, List, [], ◌∷◌, ◌++◌, length, Some, None, Ok, Err, Bool, true, false, not, ◌&&◌, refl, ap, sym, ◌∙◌, arith, append_assoc, if◌then◌else◌, subst, codes, decimal}
use Rattle.std.specs.Prelude.{nat_le, nat_lt, bytes_eq}
use Rattle.std.specs.List.{filter, list_all, before_first, after_first}
use Rattle.std.proofs.lemmas.Bool.{and_parts, leb-true, ltb-true}
use Rattle.std.proofs.lemmas.Slice.Eq.{bytes_eq-Decides}
use Rattle.cell_core_values.specs.Region.{RegionValue, IsValidRegion, region_or_first_fault, is_edge_above_within_limits, are_region_edges_in_order, is_row_or_column_count, is_within_cell_limit}
use Rattle.cell_core_values.specs.declared.region.RegionFault.TheVariants.{BadExtent, BadRows, BadCols, TooManyCells}
use Rattle.cell_ascii_meaning.specs.GridTokens.{is_word_byte}
use Rattle.cell_ascii_meaning.specs.KeyNames.{header_key_with_name}
use Rattle.cell_ascii_meaning.specs.Header.{GridHeaderContents, HeaderKeyValues, empty_header_key_values, key_values_with_header_key, key_values_with_new_valid_value, header_defined_by_keys, is_colon, has_colon, usual_null_text, usual_multiplier}
use Rattle.cell_ascii_meaning.specs.GridText.{is_nonempty_word}
use Rattle.cell_ascii_meaning.specs.Writing.{coordinate_text, key_line, header_lines_of_region, null_text_header_line}
use Rattle.cell_ascii_meaning.specs.Writing.{IsValidNullText}
use Rattle.cell_ascii_meaning.specs.declared.grid_fault.GridKind.TheVariants.{BadHeader}
use Rattle.cell_ascii_meaning.specs.declared.header_key.HeaderKey.{HeaderKey}
use Rattle.cell_ascii_meaning.specs.declared.header_key.HeaderKey.TheVariants.{North, South, East, West, Rows, Cols}
use Rattle.cell_ascii_meaning.specs.declared.header_key.HeaderKey.TheVariants.{Null}
use Rattle.cell_ascii_law.proofs.LexemeLemmas.{Lines}
use Rattle.cell_ascii_law.proofs.DataLawLemmas.{all_words}
use Rattle.cell_ascii_law.proofs.KeyLawLemmas.{IsHeaderOf, header_kept}
use Rattle.cell_ascii_law.proofs.HeaderLawLemmas.{take_text, take_data, with_values, after_key}
use Rattle.cell_ascii_law.proofs.WritingNumberLemmas.{size, coordinate_back, side_back}
use Rattle.cell_ascii_law.proofs.WritingTokenLemmas.{decimal_value, null_value, coordinate_value}
use Rattle.cell_ascii_law.proofs.WritingLexLemmas.{IsToken, Adds, adds_none, adds_both, adds_key}

-- the lines of a text extend some keys to more keys
pub record Leads (text : List ℕ) (keys more : HeaderKeyValues) : Type 0 where
  pub new : Lines
  pub adds : Adds text new
  pub reads : (ls : Lines) → take_text keys (new ++ ls) ≡ take_text more ls

leads_none : (keys : HeaderKeyValues) → Leads [] keys keys
leads_none keys = record { new = []; adds = adds_none; reads = λ ls. refl }

pub leads_both : {text text' : List ℕ} {keys more all : HeaderKeyValues} → Leads text keys more → Leads text' more all → Leads (text ++ text') keys all
leads_both {keys = keys} a b = record {
  new = a.new ++ b.new;
  adds = adds_both a.adds b.adds;
  reads = λ ls. ap (take_text keys) (append_assoc a.new b.new ls) ∙ a.reads (b.new ++ ls) ∙ b.reads ls;
}

-- the word before the colon is the name of the key q
record IsKeyName (q : HeaderKey) (name : List ℕ) : Type 0 where
  token : IsToken (name ++ codes ":")
  colon : has_colon (name ++ codes ":") ≡ true
  known : header_key_with_name (before_first is_colon (name ++ codes ":")) ≡ Some q
  alone : after_first is_colon (name ++ codes ":") ≡ []

one_value : (value : List ℕ) → 0 < length value → filter is_nonempty_word (value ∷ []) ≡ value ∷ []
one_value [] some = absurd (omega arith)
one_value (x ∷ xs) some = refl

line_adds : (q : HeaderKey) (name value : List ℕ) → IsKeyName q name → IsToken value → Adds (key_line name value) (((name ++ codes ":") ∷ value ∷ []) ∷ [])
line_adds q name value is token =
    let text : (name ++ codes ":") ++ 32 ∷ (value ++ 10 ∷ []) ≡ key_line name value =
    append_assoc name (codes ":") (32 ∷ (value ++ 10 ∷ [])) ∙ sym (append_assoc name (codes ": ") (value ++ 10 ∷ [])) ∙ sym (append_assoc (name ++ codes ": ") value (10 ∷ [])) in
    subst (λ t. Adds t (((name ++ codes ":") ∷ value ∷ []) ∷ [])) text (adds_key (name ++ codes ":") value is.token token)

-- a line of a key's name and its value extends the keys by that key
line_leads : (q : HeaderKey) (name value : List ℕ) (keys more : HeaderKeyValues) → IsKeyName q name → IsToken value → key_values_with_header_key keys (Some q) value ≡ Ok more → Leads (key_line name value) keys more
line_leads q name value keys more is token takes =
    let word = name ++ codes ":" in
    record {
      new = (word ∷ value ∷ []) ∷ [];
      adds = line_adds q name value is token;
      reads = λ ls.
          (λ i. if is.colon i then after_key (with_values keys (is.known i) (filter is_nonempty_word (is.alone i ∷ value ∷ []))) (λ k. take_text k ls) else take_data keys (word ∷ ((value ∷ []) ++ all_words ls)))
          ∙ ap (λ vs. after_key (with_values keys (Some q) vs) (λ k. take_text k ls)) (one_value value token.some)
          ∙ ap (λ r. after_key r (λ k. take_text k ls)) takes;
    }

-- The edges of a region lie within the limits of coordinates.
above_bounded : (high low : ℤ) → is_edge_above_within_limits high low ≡ true → (size high ≤ 999999999999999999) × (size low ≤ 999999999999999999)
above_bounded (pos h) (pos l) e =
    let parts = and_parts (nat_lt l h) (nat_le h 999999999999999999) e in
    let less = ltb-true l h parts.0 in
    let most = leb-true h 999999999999999999 parts.1 in
    (omega arith, omega arith)
above_bounded (pos h) (negsuc l) e =
    let parts = and_parts (nat_le l 999999999999999998) (nat_le h 999999999999999999) e in
    let least = leb-true l 999999999999999998 parts.0 in
    let most = leb-true h 999999999999999999 parts.1 in
    (omega arith, omega arith)
above_bounded (negsuc h) (pos l) e = cc
above_bounded (negsuc h) (negsuc l) e =
    let parts = and_parts (nat_lt h l) (nat_le l 999999999999999998 && true) e in
    let less = ltb-true h l parts.0 in
    let least = leb-true l 999999999999999998 (and_parts (nat_le l 999999999999999998) true parts.1).0 in
    (omega arith, omega arith)

record IsBounded (e : RegionValue) : Type 0 where
  north : size e.north ≤ 999999999999999999
  south : size e.south ≤ 999999999999999999
  east : size e.east ≤ 999999999999999999
  west : size e.west ≤ 999999999999999999

bounded : (e : RegionValue) → region_or_first_fault e ≡ Ok e → IsBounded e
bounded e good =
    let parts = and_parts (is_edge_above_within_limits e.north e.south) (is_edge_above_within_limits e.east e.west)
    (by (are_region_edges_in_order e) good) in
    let first = above_bounded e.north e.south parts.0 in
    let second = above_bounded e.east e.west parts.1 in
    record { north = first.0; south = first.1; east = second.0; west = second.1 }
  where
    by : (t : Bool) → (if not t then Err BadExtent else (if not (is_row_or_column_count e.rows) then Err BadRows else (if not (is_row_or_column_count e.cols) then Err BadCols else (if not (is_within_cell_limit e) then Err TooManyCells else Ok e)))) ≡ Ok e → t ≡ true
    by true g = refl
    by false g = cc

-- The keys of a region.
abbrev keys_1 : RegionValue → HeaderKeyValues
keys_1 e = record empty_header_key_values { north = Some e.north }

abbrev keys_2 : RegionValue → HeaderKeyValues
keys_2 e = record (keys_1 e) { south = Some e.south }

abbrev keys_3 : RegionValue → HeaderKeyValues
keys_3 e = record (keys_2 e) { east = Some e.east }

abbrev keys_4 : RegionValue → HeaderKeyValues
keys_4 e = record (keys_3 e) { west = Some e.west }

abbrev keys_5 : RegionValue → HeaderKeyValues
keys_5 e = record (keys_4 e) { rows = Some e.rows }

abbrev region_keys : RegionValue → HeaderKeyValues
region_keys e = record (keys_5 e) { cols = Some e.cols }

short_token : (word : List ℕ) → 1 ≤ length word → length word ≤ 6 → list_all is_word_byte word ≡ true → IsToken word
short_token word some short all = record { some = some; most = omega arith; word = all }

module _ (e : RegionValue) (is : IsValidRegion e) where
  at : IsBounded e
  at = bounded e is.accepted

  north_leads : Leads (key_line (codes "north") (coordinate_text e.north)) empty_header_key_values (keys_1 e)
  north_leads = line_leads North (codes "north") (coordinate_text e.north) empty_header_key_values (keys_1 e) (record { token = short_token (codes "north:") (omega arith) (omega arith) refl; colon = refl; known = refl; alone = refl })
      (coordinate_value e.north at.north).token (ap (λ o. key_values_with_new_valid_value None o (λ x. record empty_header_key_values { north = Some x })) (coordinate_back e.north at.north))

  south_leads : Leads (key_line (codes "south") (coordinate_text e.south)) (keys_1 e) (keys_2 e)
  south_leads = line_leads South (codes "south") (coordinate_text e.south) (keys_1 e) (keys_2 e) (record { token = short_token (codes "south:") (omega arith) (omega arith) refl; colon = refl; known = refl; alone = refl })
      (coordinate_value e.south at.south).token (ap (λ o. key_values_with_new_valid_value None o (λ x. record (keys_1 e) { south = Some x })) (coordinate_back e.south at.south))

  east_leads : Leads (key_line (codes "east") (coordinate_text e.east)) (keys_2 e) (keys_3 e)
  east_leads = line_leads East (codes "east") (coordinate_text e.east) (keys_2 e) (keys_3 e) (record { token = short_token (codes "east:") (omega arith) (omega arith) refl; colon = refl; known = refl; alone = refl })
      (coordinate_value e.east at.east).token (ap (λ o. key_values_with_new_valid_value None o (λ x. record (keys_2 e) { east = Some x })) (coordinate_back e.east at.east))

  west_leads : Leads (key_line (codes "west") (coordinate_text e.west)) (keys_3 e) (keys_4 e)
  west_leads = line_leads West (codes "west") (coordinate_text e.west) (keys_3 e) (keys_4 e) (record { token = short_token (codes "west:") (omega arith) (omega arith) refl; colon = refl; known = refl; alone = refl })
      (coordinate_value e.west at.west).token (ap (λ o. key_values_with_new_valid_value None o (λ x. record (keys_3 e) { west = Some x })) (coordinate_back e.west at.west))

  rows_leads : Leads (key_line (codes "rows") (decimal e.rows)) (keys_4 e) (keys_5 e)
  rows_leads = line_leads Rows (codes "rows") (decimal e.rows) (keys_4 e) (keys_5 e) (record { token = short_token (codes "rows:") (omega arith) (omega arith) refl; colon = refl; known = refl; alone = refl })
      (decimal_value e.rows (let most = is.rows_most in omega arith)).token (ap (λ o. key_values_with_new_valid_value None o (λ x. record (keys_4 e) { rows = Some x })) (side_back e.rows is.rows_most))

  cols_leads : Leads (key_line (codes "cols") (decimal e.cols)) (keys_5 e) (region_keys e)
  cols_leads = line_leads Cols (codes "cols") (decimal e.cols) (keys_5 e) (region_keys e) (record { token = short_token (codes "cols:") (omega arith) (omega arith) refl; colon = refl; known = refl; alone = refl })
      (decimal_value e.cols (let most = is.cols_most in omega arith)).token (ap (λ o. key_values_with_new_valid_value None o (λ x. record (keys_5 e) { cols = Some x })) (side_back e.cols is.cols_most))

  region_leads : Leads (header_lines_of_region e) empty_header_key_values (region_keys e)
  region_leads = leads_both (leads_both (leads_both (leads_both (leads_both north_leads south_leads) east_leads) west_leads) rows_leads) cols_leads

-- the header of a written map
abbrev pub written_header : List ℕ → RegionValue → GridHeaderContents
written_header null_text e = record { region = e; null_text = null_text; multiplier = usual_multiplier }

abbrev keys_of : List ℕ → RegionValue → Bool → HeaderKeyValues
keys_of null_text e usual = if usual then region_keys e else record (region_keys e) { null = Some null_text }

-- all keys of a written map
abbrev pub written_keys : List ℕ → RegionValue → HeaderKeyValues
written_keys null_text e = keys_of null_text e (bytes_eq null_text usual_null_text)

module _ (null_text : List ℕ) (is : IsValidNullText null_text) (e : RegionValue) where
  null_leads : Leads (null_text_header_line null_text) (region_keys e) (written_keys null_text e)
  null_leads = by (bytes_eq null_text usual_null_text)
    where
      by : (t : Bool) → Leads (if t then [] else key_line (codes "null") null_text) (region_keys e) (keys_of null_text e t)
      by true = leads_none (region_keys e)
      by false = line_leads Null (codes "null") null_text (region_keys e) (record (region_keys e) { null = Some null_text })
          (record { token = short_token (codes "null:") (omega arith) (omega arith) refl; colon = refl; known = refl; alone = refl })
          (null_value null_text is).token (ap (λ t. if t then Err BadHeader else key_values_with_new_valid_value None (Some null_text) (λ x. record (region_keys e) { null = Some x })) is.colon)

  pub header_leads : IsValidRegion e → Leads (header_lines_of_region e
      ++ null_text_header_line null_text) empty_header_key_values (written_keys null_text e)
  header_leads region = leads_both (region_leads e region) null_leads

  pub header_back : IsValidRegion e → header_defined_by_keys (written_keys null_text e)
      ≡ Ok (written_header null_text e)
  header_back region = header_kept (written_keys null_text e) (written_header null_text e) (by (bytes_eq null_text usual_null_text) refl)
    where
      by : (t : Bool) → bytes_eq null_text usual_null_text ≡ t → IsHeaderOf (keys_of null_text e t) (written_header null_text e)
      by true same = record { north = refl; south = refl; east = refl; west = refl; rows = refl; cols = refl; null = sym ((bytes_eq-Decides null_text usual_null_text).0 same); multiplier = refl; good = region.accepted }
      by false differ = record { north = refl; south = refl; east = refl; west = refl; rows = refl; cols = refl; null = refl; multiplier = refl; good = region.accepted }
