-- Reading texts that must all be names.
use Rattle.std.proofs.Math.Bool.{and-false}
use Rattle.std.proofs.Common.{◌≡◌, ℕ, zero, suc, map, Bor, Ok, Err, ◌<◌, true, false, List, [], ◌∷◌, length, get_or, refl, ap, arith, ◌≤◌, ◌==◌, rules}
use Rattle.std.proofs.lemmas.List.{length-map}
use Rattle.std.proofs.lemmas.List.Splits.{length-slice_split}
use Rattle.cell_core_values.specs.Words.{parts_between_commas}
use Rattle.std.specs.List.{list_all}
use Rattle.cell_core_values.specs.Name.{is_name}
use Rattle.rcell_script.specs.OptionReading.{values_of_borrowed_texts, map_name_in_option, texts_if_all_are_map_names}
use Rattle.rcell_script.specs.declared.option_fault.OptionFault.{OptionFault}

list_all-no : (xs : List (Bor (List ℕ))) (i : ℕ) (d : Bor (List ℕ)) → i < length xs
    → is_name (get_or xs i d).now ≡ false → list_all is_name (map (λ text. text.now) xs) ≡ false
list_all-no [] i d h bad = absurd (omega arith)
list_all-no (x ∷ xs) zero d h bad = rw bad refl
list_all-no (x ∷ xs) (suc i) d h bad = rw (list_all-no xs i d (omega arith) bad) (and-false _)

-- if one text is not a name, its error is the error of all
pub texts_if_all_are_map_names-fails : (xs : List (Bor (List ℕ))) (i : ℕ) (d : Bor (List ℕ)) (fault : OptionFault)
    → i < length xs
    → map_name_in_option (get_or xs i d).now ≡ Err fault → texts_if_all_are_map_names (values_of_borrowed_texts xs)
    ≡ Err fault
texts_if_all_are_map_names-fails xs i d fault h bad = search (rules, get_or, list_all-no)

-- a text read as a name is that name
pub map_name_in_option-is : (text name : List ℕ) → map_name_in_option text ≡ Ok name → (name ≡ text)
    × (is_name name ≡ true)
map_name_in_option-is text name e = search rules

-- a value has at least one part
pub parts-some : (parts : List (Bor (List ℕ))) (value : List ℕ) (n : ℕ)
    → map (λ w. w.now) parts ≡ parts_between_commas value
    → n ≡ length parts → 1 ≤ n
parts-some parts value n e count = omega (arith, count, length-map parts (λ w. w.now), ap length e, length-slice_split (λ b. b == 44) value)
