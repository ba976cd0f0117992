-- The keys that the header lines before a place give, and the error of the next line.
use Rattle.std.proofs.Common.{◌≡◌, ℕ, List, [], ◌∷◌, ◌++◌, Option, Some, None, Bool, true, false, cond, is_some, refl, ap, sym, ◌∙◌, Result, Ok, Err, ◌||◌, if◌then◌else◌}
use Rattle.std.specs.Prelude.{codes, bytes_eq}
use Rattle.std.specs.Option.{option_map, option_and_then}
use Rattle.std.specs.List.{find, list_any}
use Rattle.cell_ascii_meaning.specs.EdgeNumbers.{coordinate_of_text, row_or_column_count_of_text}
use Rattle.cell_ascii_meaning.specs.EdgeNumbers.{whole_number_in_category_range}
use Rattle.cell_ascii_meaning.specs.KeyNames.{header_key_with_name}
use Rattle.cell_ascii_meaning.specs.Header.{HeaderKeyValues, empty_header_key_values, key_values_with_new_valid_value}
use Rattle.cell_ascii_meaning.specs.Header.{key_values_with_header_key}
use Rattle.cell_ascii_meaning.specs.Header.{has_colon, is_int_type}
use Rattle.cell_ascii_meaning.specs.GridText.{key_text_of_header_line, values_of_header_line, value_of_header_key}
use Rattle.cell_ascii_meaning.specs.GridText.{null_text}
use Rattle.cell_ascii_meaning.specs.FaultPlaces.{fault_kind_if, fault_kind_if_missing, header_line_fault}
use Rattle.cell_ascii_meaning.specs.FaultPlaces.{repeats_earlier_key, key_values_of_header_lines, fault_kind_of_result}
use Rattle.cell_ascii_meaning.specs.FaultPlaces.{◌or◌}
use Rattle.cell_ascii_meaning.specs.declared.header_key.HeaderKey.{HeaderKey}
use Rattle.cell_ascii_meaning.specs.declared.header_key.HeaderKey.TheVariants.{North, South, East, West, Rows, Cols, Null, CellType, Multiplier}
use Rattle.cell_ascii_meaning.specs.declared.grid_fault.GridKind.{GridKind}
use Rattle.cell_ascii_meaning.specs.declared.grid_fault.GridKind.TheVariants.{BadHeader, TwiceKey, BadNumber, BadType}
use Rattle.cell_ascii_law.proofs.LexemeLemmas.{Lines}
use Rattle.cell_ascii_law.proofs.HeaderLawLemmas.{with_line, with_values}
use Rattle.cell_ascii_law.proofs.KeyLawLemmas.{Value, Number, Count, Text, stood, held, number_of}
use Rattle.cell_ascii_law.proofs.TextLawLemmas.{then_keys, with_lines, name_is, has_key, IsTaken, lines_taken, line_then, same_number, same_count, same_text, unwrapped}

none_held : (p : HeaderKey) → held empty_header_key_values p ≡ None
none_held North = refl
none_held South = refl
none_held East = refl
none_held West = refl
none_held Rows = refl
none_held Cols = refl
none_held Null = refl
none_held CellType = refl
none_held Multiplier = refl

kind_is : (o : Option (List ℕ)) (t : Bool) → option_map (λ _. Text []) (stood t) ≡ option_and_then (number_of CellType) o → ((v : List ℕ) → o ≡ Some v → is_some (number_of CellType v) ≡ true) → is_some o ≡ t
kind_is None true e good = cc
kind_is None false e good = refl
kind_is (Some v) true e good = refl
kind_is (Some v) false e good = let f : false ≡ true = ap is_some e ∙ good v refl in cc

-- the accepted keys are the keys that the lines give
pub keys_taken : (hs : Lines) (k : HeaderKeyValues) → with_lines empty_header_key_values hs ≡ Ok k
    → key_values_of_header_lines hs ≡ k
keys_taken hs k e = λ i. record {
  north = sym (unwrapped Number same_number coordinate_of_text k.north (value_of_header_key (codes "north") hs)
      (are.looked North refl)) i;
  south = sym (unwrapped Number same_number coordinate_of_text k.south (value_of_header_key (codes "south") hs)
      (are.looked South refl)) i;
  east = sym (unwrapped Number same_number coordinate_of_text k.east (value_of_header_key (codes "east") hs)
      (are.looked East refl)) i;
  west = sym (unwrapped Number same_number coordinate_of_text k.west (value_of_header_key (codes "west") hs)
      (are.looked West refl)) i;
  rows = sym (unwrapped Count same_count row_or_column_count_of_text k.rows (value_of_header_key (codes "rows") hs)
      (are.looked Rows refl)) i;
  cols = sym (unwrapped Count same_count row_or_column_count_of_text k.cols (value_of_header_key (codes "cols") hs)
      (are.looked Cols refl)) i;
  null = sym (unwrapped Text same_text null_text k.null (value_of_header_key (codes "null") hs)
      (are.looked Null refl)) i;
  kind = kind_is (value_of_header_key (codes "type") hs) k.kind (are.looked CellType refl) (are.good CellType refl) i;
  multiplier = sym (unwrapped Number same_number whole_number_in_category_range k.multiplier (value_of_header_key (codes "multiplier") hs) (are.looked Multiplier refl)) i;
}
  where
    are : IsTaken empty_header_key_values k hs
    are = lines_taken hs empty_header_key_values k e

some_found : {X : Type 0} (p : X → Bool) (xs : List X) → is_some (find p xs) ≡ list_any p xs
some_found p [] = refl
some_found p (x ∷ xs) = by (p x) (some_found p xs)
  where
    by : (t : Bool) → is_some (find p xs) ≡ list_any p xs → is_some (cond t (Some x) (find p xs)) ≡ (t || list_any p xs)
    by true on = refl
    by false on = on

-- a key is given twice exactly if an earlier line has it
twice_is : (hs : Lines) (k : HeaderKeyValues) (l : List (List ℕ)) (q : HeaderKey) → with_lines empty_header_key_values hs ≡ Ok k → header_key_with_name (key_text_of_header_line l) ≡ Some q → repeats_earlier_key l hs ≡ is_some (held k q)
twice_is hs k l q e is = ap (λ (t : List ℕ). list_any (λ m. bytes_eq t (key_text_of_header_line m)) hs) (name_is (key_text_of_header_line l) q is) ∙ sym (some_found (has_key q) hs) ∙ sym ((lines_taken hs empty_header_key_values k e).stands q (none_held q))

given_reported : {X : Type 0} (wrap : X → Value) (o value : Option X) (keep : X → HeaderKeyValues) → fault_kind_of_result (key_values_with_new_valid_value o value keep) ≡ (fault_kind_if (is_some (option_map wrap o)) TwiceKey or fault_kind_if_missing value BadNumber)
given_reported wrap (Some old) value keep = refl
given_reported wrap None None keep = refl
given_reported wrap None (Some x) keep = refl

-- the reported error of a line is the reason why its key is not accepted
key_reported : (a : HeaderKeyValues) (v : List ℕ) (q : HeaderKey) → header_line_fault (is_some (held a q)) (Some q) (v ∷ []) ≡ fault_kind_of_result (key_values_with_header_key a (Some q) v)
key_reported a v North = sym (given_reported Number a.north (coordinate_of_text v) (λ x. record a { north = Some x }))
key_reported a v South = sym (given_reported Number a.south (coordinate_of_text v) (λ x. record a { south = Some x }))
key_reported a v East = sym (given_reported Number a.east (coordinate_of_text v) (λ x. record a { east = Some x }))
key_reported a v West = sym (given_reported Number a.west (coordinate_of_text v) (λ x. record a { west = Some x }))
key_reported a v Rows = sym (given_reported Count a.rows (row_or_column_count_of_text v)
    (λ x. record a { rows = Some x }))
key_reported a v Cols = sym (given_reported Count a.cols (row_or_column_count_of_text v)
    (λ x. record a { cols = Some x }))
key_reported a v Null = by (has_colon v) a.null
  where
    by : (t : Bool) (o : Option (List ℕ)) → (fault_kind_if_missing (if t then None else Some v) BadHeader or fault_kind_if (is_some (option_map Text o)) TwiceKey or None) ≡ fault_kind_of_result (if t then Err BadHeader else key_values_with_new_valid_value o (Some v) (λ x. record a { null = Some x }))
    by true o = refl
    by false (Some old) = refl
    by false None = refl
key_reported a v CellType = by a.kind (is_int_type v)
  where
    by : (t u : Bool) → (fault_kind_if (is_some (option_map (λ _. Text []) (stood t))) TwiceKey or fault_kind_if_missing (if u then Some (tt {0}) else None) BadType) ≡ fault_kind_of_result (if t then Err TwiceKey else (if u then Ok (record a { kind = true }) else Err BadType))
    by true u = refl
    by false true = refl
    by false false = refl
key_reported a v Multiplier = sym (given_reported Number a.multiplier (whole_number_in_category_range v) (λ x. record a { multiplier = Some x }))

-- at the end of a line with one value, the error is the reason why its key is not accepted
pub line_reported : (hs : Lines) (k : HeaderKeyValues) (l : List (List ℕ)) (v : List ℕ) → with_lines empty_header_key_values hs ≡ Ok k → values_of_header_line l ≡ v ∷ [] → header_line_fault (repeats_earlier_key l hs) (header_key_with_name (key_text_of_header_line l)) (values_of_header_line l) ≡ fault_kind_of_result (key_values_with_header_key k (header_key_with_name (key_text_of_header_line l)) v)
line_reported hs k l v e one = ap (header_line_fault (repeats_earlier_key l hs) (header_key_with_name (key_text_of_header_line l))) one ∙ by (header_key_with_name (key_text_of_header_line l)) refl
  where
    by : (o : Option HeaderKey) → header_key_with_name (key_text_of_header_line l) ≡ o → header_line_fault (repeats_earlier_key l hs) o (v ∷ []) ≡ fault_kind_of_result (key_values_with_header_key k o v)
    by None is = refl
    by (Some q) is = ap (λ (t : Bool). header_line_fault t (Some q) (v ∷ [])) (twice_is hs k l q e is)
        ∙ key_reported k v q

-- a line without a value is an error
pub no_value_reported : (t : Bool) (o : Option HeaderKey) → header_line_fault t o [] ≡ Some BadHeader
no_value_reported t None = refl
no_value_reported t (Some q) = refl

-- one more line extends the keys that the lines before it give
lines_then : (hs : Lines) (a k m : HeaderKeyValues) (l : List (List ℕ)) → with_lines a hs ≡ Ok k → with_line k l ≡ Ok m → with_lines a (hs ++ l ∷ []) ≡ Ok m
lines_then [] a k m l e next = let same : a ≡ k = cc in ap (λ (b : HeaderKeyValues). then_keys (with_line b l) (λ k. Ok k)) same ∙ ap (λ r. then_keys r (λ k. Ok k)) next
lines_then (h ∷ hs) a k m l e next = by (with_line a h) refl e (lines_then hs)
  where
    by : (r : Result HeaderKeyValues GridKind) → with_line a h ≡ r → then_keys r (λ b. with_lines b hs) ≡ Ok k → ((a k m : HeaderKeyValues) (l : List (List ℕ)) → with_lines a hs ≡ Ok k → with_line k l ≡ Ok m → with_lines a (hs ++ l ∷ []) ≡ Ok m) → with_lines a (h ∷ (hs ++ l ∷ [])) ≡ Ok m
    by (Err kind) is e on = cc
    by (Ok b) is e on = line_then a b m h (hs ++ l ∷ []) is (on b k m l e next)

pub lines_more : (hs : Lines) (k m : HeaderKeyValues) (l : List (List ℕ)) (v : List ℕ) → with_lines empty_header_key_values hs ≡ Ok k → values_of_header_line l ≡ v ∷ [] → key_values_with_header_key k (header_key_with_name (key_text_of_header_line l)) v ≡ Ok m → with_lines empty_header_key_values (hs ++ l ∷ []) ≡ Ok m
lines_more hs k m l v e one next = lines_then hs empty_header_key_values k m l e (ap (with_values k (header_key_with_name (key_text_of_header_line l))) one ∙ next)
