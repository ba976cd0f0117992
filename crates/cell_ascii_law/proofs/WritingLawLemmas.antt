-- The law about written grid texts: a written map is read back as the same region and rows.
use Rattle.std.proofs.Common.{◌≡◌, ℕ, ◌<◌, List, [], ◌∷◌, ◌++◌, length, map, get_or, Some, None, Result, Ok, Err, false, refl, ap, sym, ◌∙◌, arith, append-nil, append_assoc, if◌then◌else◌}
use Rattle.std.specs.Prelude.{IfSome, IsTrue}
use Rattle.std.specs.Option.{option_and_then}
use Rattle.std.specs.List.{All, flat_map}
use Rattle.std.proofs.lemmas.List.Elements.{All-head, All-map}
use Rattle.cell_core.specs.Grid.{CellValue, Grid}
use Rattle.cell_ascii_meaning.specs.EdgeNumbers.{is_in_category_range}
use Rattle.cell_ascii_meaning.specs.Header.{HeaderKeyValues, empty_header_key_values}
use Rattle.cell_ascii_meaning.specs.CellTexts.{map_denoted_by_text}
use Rattle.cell_core.specs.Text.{cell_text}
use Rattle.cell_ascii_meaning.specs.Writing.{row_text, grid_text, IsValidNullText}
use Rattle.cell_ascii_law.specs.WrittenLaw.{IsWritableMap, map_without_labels, WrittenMapIsReadBack}
use Rattle.cell_ascii_meaning.specs.declared.grid_fault.GridFault.{GridFault}
use Rattle.cell_ascii_meaning.proofs.TokenLemmas.{coming}
use Rattle.cell_ascii_law.proofs.LexemeLemmas.{Lines, lex}
use Rattle.cell_ascii_law.proofs.DataLawLemmas.{accepted, all_words, then_words, take_cell, take_many, take_end, take_grid}
use Rattle.cell_ascii_law.proofs.HeaderLawLemmas.{take_text, take_data, at_header, after_key, with_line, text_is}
use Rattle.cell_ascii_law.proofs.GridLawLemmas.{reading_agrees}
use Rattle.cell_ascii_law.proofs.WritingNumberLemmas.{in_range_low}
use Rattle.cell_ascii_law.proofs.WritingTokenLemmas.{IsValue, signed_value, null_value}
use Rattle.cell_ascii_law.proofs.WritingLexLemmas.{IsToken, lexes_end, Adds, adds_both, adds_tokens, adds_each}
use Rattle.cell_ascii_law.proofs.WritingDataLemmas.{rows_back}
use Rattle.cell_ascii_law.proofs.WritingHeaderLemmas.{written_header, written_keys, header_leads, header_back}

abbrev IsRanged : CellValue → Type 0
IsRanged cell = IfSome cell (λ category. IsTrue (is_in_category_range category))

module _ (null_text : List ℕ) (is : IsValidNullText null_text) where
  abbrev words_of_row : List CellValue → List (List ℕ)
  words_of_row row = map (cell_text null_text) row

  cell_value : (cell : CellValue) → IsRanged cell → IsValue (cell_text null_text cell)
  cell_value None ranged = null_value null_text is
  cell_value (Some z) ranged = signed_value z (in_range_low z ranged)

  row_adds : (row : List CellValue) → 0 < length row → All IsRanged row → Adds (row_text null_text row) (words_of_row row ∷ [])
  row_adds [] some ranged = absurd (omega arith)
  row_adds (cell ∷ row) some ranged =
      adds_tokens (cell_text null_text cell) (words_of_row row) (All-map IsToken (cell_text null_text) (cell ∷ row) (λ k d within. (cell_value (get_or (cell ∷ row) k d) (ranged k d within)).token))

  -- the first row of the data is its first line
  data_begins : (keys : HeaderKeyValues) (row : List CellValue) (ls : Lines) → 0 < length row → All IsRanged row → take_text keys (words_of_row row ∷ ls) ≡ take_data keys (all_words (words_of_row row ∷ ls))
  data_begins keys [] ls some ranged = absurd (omega arith)
  data_begins keys (cell ∷ row) ls some ranged =
      let words = words_of_row (cell ∷ row) in
      ap (λ t. if t then after_key (with_line keys words) (λ k. take_text k ls) else take_data keys (all_words (words ∷ ls))) (cell_value cell (All-head IsRanged cell row ranged)).colon

  rows_begin : (keys : HeaderKeyValues) (rows : List (List CellValue)) → 0 < length rows → All (λ row. 0 < length row) rows → All (All IsRanged) rows
      → take_text keys (map words_of_row rows ++ [] ∷ []) ≡ take_data keys (all_words (map words_of_row rows ++ [] ∷ []))
  rows_begin keys [] some wide ranged = absurd (omega arith)
  rows_begin keys (row ∷ rows) some wide ranged = data_begins keys row (map words_of_row rows ++ [] ∷ []) (All-head (λ r. 0 < length r) row rows wide) (All-head (All IsRanged) row rows ranged)

module _ (null_text : List ℕ) (m : Grid) (is : IsValidNullText null_text) (can : IsWritableMap null_text m) where
  abbrev data_lines : Lines
  data_lines = map (map (cell_text null_text)) m.rows

  wide : All (λ row. 0 < length row) m.rows
  wide = λ k d within. let width = can.filled.width k d within in let least = can.region.cols_least in omega arith

  data_adds : Adds (flat_map (row_text null_text) m.rows) data_lines
  data_adds = adds_each (row_text null_text) (map (cell_text null_text)) m.rows (λ k d within. row_adds null_text is (get_or m.rows k d) (wide k d within) (can.range k d within))

  data_back : take_grid (written_header null_text m.region) (all_words (data_lines ++ [] ∷ [])) ≡ Some (map_without_labels m)
  data_back =
      let h = written_header null_text m.region in
      ap (λ n. then_words (take_end h) (take_many (take_many (take_cell h) m.region.cols) n (all_words (data_lines ++ [] ∷ [])))) (sym can.filled.count)
      ∙ ap (then_words (take_end h)) (rows_back h refl m.region.cols m.rows ([] ∷ []) can.filled.width (λ k d within. λ i c inside. (can.range k d within i c inside, can.apart k d within i c inside)))

  data_read : take_text (written_keys null_text m.region) (data_lines ++ [] ∷ []) ≡ Some (map_without_labels m)
  data_read =
      rows_begin null_text is (written_keys null_text m.region) m.rows (let count = can.filled.count in let least = can.region.rows_least in omega arith) wide can.range
      ∙ ap (λ r. at_header r (all_words (data_lines ++ [] ∷ []))) (header_back null_text is m.region can.region)
      ∙ data_back

  text_read : accepted (map_denoted_by_text (coming (grid_text null_text m) false)) ≡ Some (map_without_labels m)
  text_read =
      let header = header_leads null_text is m.region can.region in
      let lines : lex 0 [] (grid_text null_text m ++ []) false ≡ Some ((header.new ++ data_lines) ++ [] ∷ []) = (adds_both header.adds data_adds).to [] ([] ∷ []) lexes_end 0 (omega arith) in
      text_is (grid_text null_text m) false
      ∙ ap (λ text. option_and_then (take_text empty_header_key_values) (lex 0 [] text false)) (sym (append-nil (grid_text null_text m)))
      ∙ ap (option_and_then (take_text empty_header_key_values)) lines
      ∙ ap (take_text empty_header_key_values) (append_assoc header.new data_lines ([] ∷ []))
      ∙ header.reads (data_lines ++ [] ∷ [])
      ∙ data_read

is_accepted : (r : Result Grid GridFault) (m : Grid) → accepted r ≡ Some m → r ≡ Ok m
is_accepted (Ok x) m e = cc
is_accepted (Err f) m e = cc

pub writing_is_read : WrittenMapIsReadBack
writing_is_read null_text m is can = (reading_agrees (coming (grid_text null_text m) false) (map_without_labels m)).0 (is_accepted (map_denoted_by_text (coming (grid_text null_text m) false)) (map_without_labels m) (text_read null_text m is can))
