-- The finite map of an ordered map's entries.
use Rattle.std.proofs.Common.{◌≡◌, ℕ, ℤ, Bool, true, false, cond, List, [], ◌∷◌, map, Option, Some, refl, ap, sym, ◌∙◌}
use Rattle.std.specs.Option.{option_map}
use Rattle.std.specs.Ordering.{int_cmp, eq_by_cmp}
use Rattle.std.specs.Cmp.{int_cmp_total, eq_by_cmp_equiv}
use Rattle.std.specs.Map.{lookup}
use Rattle.std.specs.FinMap.{FinMap, find, get, insert, from_entries, get-from_entries, get-insert, same_map, int_cmp-IsAntisymmetric}

module _ {V : Type 0} (items : V → List ℕ) where
  option_map-cond : (found : Bool) (v : V) (rest : Option V) → option_map items (cond found (Some v) rest) ≡ cond found (Some (items v)) (option_map items rest)
  option_map-cond true v rest = refl
  option_map-cond false v rest = refl

  find-map : (q : ℤ) (entries : List (ℤ × V)) → find int_cmp q (map (λ e. (e.0, items e.1)) entries) ≡ option_map items (lookup (eq_by_cmp int_cmp q) entries)
  find-map q [] = refl
  find-map q (e ∷ entries) = ap (cond (eq_by_cmp int_cmp q e.0) (Some (items e.1))) (find-map q entries) ∙ sym (option_map-cond (eq_by_cmp int_cmp q e.0) e.1 (lookup (eq_by_cmp int_cmp q) entries))

  -- the finite map holds for each key the text of the ordered map's value
  pub get-labels : (entries : List (ℤ × V)) (q : ℤ) → get (from_entries {R = int_cmp} (map (λ e. (e.0, items e.1)) entries)) q ≡ option_map items (lookup (eq_by_cmp int_cmp q) entries)
  get-labels entries q = get-from_entries int_cmp_total (map (λ e. (e.0, items e.1)) entries) q ∙ find-map q entries

  -- inserting a value into the ordered map inserts its text into the finite map
  pub insert-labels : (old new : List (ℤ × V)) (k : ℤ) (v : V) → ((q : ℤ) → lookup (eq_by_cmp int_cmp q) new ≡ cond (eq_by_cmp int_cmp k q) (Some v) (lookup (eq_by_cmp int_cmp q) old)) → from_entries {R = int_cmp} (map (λ e. (e.0, items e.1)) new) ≡ insert (from_entries (map (λ e. (e.0, items e.1)) old)) k (items v)
  insert-labels old new k v holds = same_map int_cmp_total int_cmp-IsAntisymmetric _ _ (λ q. same q)
    where
      before : FinMap int_cmp (List ℕ)
      before = from_entries (map (λ e. (e.0, items e.1)) old)

      same : (q : ℤ) → get (from_entries {R = int_cmp} (map (λ e. (e.0, items e.1)) new)) q ≡ get (insert before k (items v)) q
      same q =
          get-labels new q ∙ ap (option_map items) (holds q) ∙ option_map-cond (eq_by_cmp int_cmp k q) v (lookup (eq_by_cmp int_cmp q) old)
          ∙ ap (cond (eq_by_cmp int_cmp k q) (Some (items v))) (sym (get-labels old q))
          ∙ ap (λ b. cond b (Some (items v)) (get before q)) ((eq_by_cmp_equiv int_cmp_total).symm k q)
          ∙ sym (get-insert int_cmp_total before k (items v) q)
