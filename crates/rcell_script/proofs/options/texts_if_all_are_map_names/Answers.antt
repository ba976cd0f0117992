use Rattle.std.proofs.Common.{◌≡◌, ℕ, ◌+◌, ◌<◌, List, [], ◌∷◌, ◌++◌, length, get_or, take, Bor, true, IsTrue, refl, arith, length-append}
use Rattle.std.specs.List.{list_all}
use Rattle.std.proofs.lemmas.List.{map-append, take_more}
use Rattle.std.proofs.lemmas.List.Folds.{list_all-append}
use Rattle.std.proofs.lemmas.Result.{err_from_is_err_and}
use Rattle.cell_core_values.specs.Name.{is_name}
use Rattle.rcell_script.specs.OptionReading.{values_of_borrowed_texts}
use Rattle.rcell_script.proofs.NameLemmas.{texts_if_all_are_map_names-fails, map_name_in_option-is}
use Rattle.rcell_script.proofs.options.texts_if_all_are_map_names.Goals as goal

more_names : (parts : List (Bor (List ℕ))) (i : ℕ) (d : Bor (List ℕ)) (names more : List (List ℕ)) (name : List ℕ)
    → i < length parts → names ≡ values_of_borrowed_texts (take i parts) → more ≡ names ++ name ∷ []
    → name ≡ (get_or parts i d).now
    → more ≡ values_of_borrowed_texts (take (i + 1) parts)
more_names parts i d names more name h so_far grown read =
    let one = map-append (λ (part : Bor (List ℕ)). part.now) (take i parts) (get_or parts i d ∷ []) in
    rw (take_more parts i d h, one, ← so_far, ← read) grown

longer : (names more : List (List ℕ)) (name : List ℕ) (i : ℕ) → length names ≡ i → more ≡ names ++ name ∷ []
    → length more ≡ i + 1
longer names more name i count grown = rw grown (omega (arith, length-append names (name ∷ []), count))

more_good : (names more : List (List ℕ)) (name : List ℕ) → IsTrue (list_all is_name names) → more ≡ names ++ name ∷ []
    → is_name name ≡ true → IsTrue (list_all is_name more)
more_good names more name good grown is =
    rw (grown, list_all-append is_name names (name ∷ []), good, is) refl

pub returns-in_err-map_name_in_option-clause-names : goal.returns-in_err-map_name_in_option-clause-names
returns-in_err-map_name_in_option-clause-names c =
    let p = err_from_is_err_and c.from_residual.result c.from_residual.ensures.1 in
    rw (p.1, p.2) (λ other. texts_if_all_are_map_names-fails c.args.parts.now c.loop-part.part-index _ _
    c.loop-part-test.true
    (c.in_err-map_name_in_option.ensures other))

pub loop-part-preserved : goal.loop-part-preserved
loop-part-preserved c =
    let is = c.loop-part.invariant in
    let grown = c.in_ok-push.ensures.items in
    let name = map_name_in_option-is _ _ c.in_ok-map_name_in_option.ensures in
    record {
      names = more_names c.args.parts.now c.loop-part.part-index _ c.loop-part.names.items _ _ c.loop-part-test.true
          is.names grown name.0;
      count = longer c.loop-part.names.items _ _ c.loop-part.part-index is.count grown;
      good = more_good c.loop-part.names.items _ _ is.good grown name.1;
    }
