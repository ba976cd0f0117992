-- Runs in order, and the run that has a patch.
use Rattle.std.proofs.Common.{◌≡◌, ◌∙◌, ◌<◌, ◌≤◌, ℕ, ◌-◌, List, [], ◌∷◌, ◌++◌, length, get_or, Option, Some, None, zero}
use Rattle.std.proofs.Common.{suc}
use Rattle.std.proofs.Common.{true, false, refl, ap, sym, subst, arith, ⊎_elim}
use Rattle.std.proofs.lemmas.Bool.{and_parts, cases_eq, cases_lt, cond-false, cond-true}
use Rattle.std.proofs.lemmas.Grind.{common_steps}
use Rattle.std.proofs.lemmas.List.{get_or_append_left, get_or-append_right, length-append}
use Rattle.std.proofs.lemmas.Option.{slice_get-get_or}
use Rattle.std.specs.List.Sorted.{IsPartitionedBy, IsPartitionPoint}
use Rattle.cell_join_numbers.specs.declared.stretch.ConsecutiveClumps.{ConsecutiveClumps}
use Rattle.cell_join_patches.specs.PatchNumbers.{AreRunsInOrder, is_run_of_patches, number_in_full_map, number_in_run}
use Rattle.cell_join_patches.specs.PatchNumbers.{run_can_be_added, run_comes_after, run_comes_after_any, run_has_patch}
use Rattle.cell_join_patches.specs.parts.RunsBefore.{run_is_before_patch}

after-after : (a b c : ConsecutiveClumps) → run_comes_after a b ≡ true → is_run_of_patches b ≡ true
    → run_comes_after b c ≡ true → run_comes_after a c ≡ true
after-after a b c ab at-b bc = grind (arith, common_steps, ab, at-b, bc)

before-down : (tile patch : ℕ) (a b : ConsecutiveClumps) → run_comes_after a b ≡ true → is_run_of_patches b ≡ true
    → run_is_before_patch tile patch b ≡ true → run_is_before_patch tile patch a ≡ true
before-down tile patch a b ab at-b before = grind (arith, common_steps, ab, at-b, before)

before-lacks : (tile patch : ℕ) (a : ConsecutiveClumps) → run_is_before_patch tile patch a ≡ true
    → run_has_patch tile patch a ≡ false
before-lacks tile patch a before = grind (arith, common_steps, before)

later-lacks : (tile patch : ℕ) (a b : ConsecutiveClumps) → run_comes_after a b ≡ true → is_run_of_patches a ≡ true
    → run_is_before_patch tile patch a ≡ false → run_has_patch tile patch a ≡ false
    → run_has_patch tile patch b ≡ false
later-lacks tile patch a b ab at-a before has = grind (arith, common_steps, ab, at-a, before, has)

new-at : (runs : List ConsecutiveClumps) (run d : ConsecutiveClumps) → get_or (runs ++ run ∷ []) (length runs) d ≡ run
new-at runs run d =
    let none : length runs - length runs ≡ 0 = omega arith in
    get_or-append_right runs (run ∷ []) (length runs) (length runs) d refl (omega arith)
    ∙ ap (λ (k : ℕ). get_or (run ∷ []) k d) none

-- a run that can be added keeps the order
pub runs-push : (runs : List ConsecutiveClumps) (run : ConsecutiveClumps) → AreRunsInOrder runs
    → run_can_be_added runs run ≡ true → AreRunsInOrder (runs ++ run ∷ [])
runs-push runs run in_order can =
    let long = length-append runs (run ∷ []) in
    let ok = (and_parts (is_run_of_patches run) _ can).0 in
    let last_then = (and_parts (is_run_of_patches run) _ can).1 in
    let old = λ (i : ℕ) (d : ConsecutiveClumps) (lt : i < length runs). get_or_append_left runs (run ∷ []) d i lt in
    let new : (i : ℕ) (d : ConsecutiveClumps) → i ≡ length runs → get_or (runs ++ run ∷ []) i d ≡ run = λ i d is.
    subst (λ (k : ℕ). get_or (runs ++ run ∷ []) k d ≡ run) (sym is)
    (new-at runs run d) in
    let last : (d : ConsecutiveClumps) → 0 < length runs → run_comes_after (get_or runs (length runs - 1) d) run
    ≡ true =
    λ d some. subst (λ (o : Option ConsecutiveClumps). run_comes_after_any o run ≡ true)
    (slice_get-get_or runs (length runs - 1) d (omega arith)) last_then in
    record {
      each = λ i d lt. ⊎_elim
          (λ (low : i < length runs). rw (old i d low) (in_order.each i d low))
          (λ (high : length runs ≤ i). rw (new i d (omega (arith, lt, long, high))) ok)
          (cases_lt i (length runs));
      order = λ i k d less lt. ⊎_elim
          (λ (low : k < length runs). rw (old i d (omega (arith, less, low)), old k d low)
          (in_order.order i k d less low))
          (λ (high : length runs ≤ k).
          let is : k ≡ length runs = omega (arith, lt, long, high) in
          let low : i < length runs = omega (arith, less, is) in
          rw (old i d low, new k d is)
          (⊎_elim
          (λ (at : i ≡ length runs - 1). rw at (last d (omega (arith, low))))
          (λ (apart : i ≡ length runs - 1 → ⊥).
          let before : i < length runs - 1 = omega (arith, low, apart) in
          let inside : length runs - 1 < length runs = omega (arith, low) in
          after-after (get_or runs i d) (get_or runs (length runs - 1) d) run
          (in_order.order i (length runs - 1) d before inside)
          (in_order.each (length runs - 1) d inside) (last d (omega (arith, low))))
          (cases_eq i (length runs - 1))))
          (cases_lt k (length runs));
    }

-- the runs before a patch come first
pub runs-partitioned : (runs : List ConsecutiveClumps) (tile patch : ℕ) → AreRunsInOrder runs
    → IsPartitionedBy (run_is_before_patch tile patch) runs
runs-partitioned runs tile patch in_order i j d up lt before =
    ⊎_elim
    (λ (same : i ≡ j). rw same before)
    (λ (apart : i ≡ j → ⊥). before-down tile patch (get_or runs i d) (get_or runs j d)
    (in_order.order i j d (omega (arith, up, apart)) lt) (in_order.each j d lt) before)
    (cases_eq i j)

-- the first run that has the patch gives its number
pub number-found : (tile patch : ℕ) (runs : List ConsecutiveClumps) (at : ℕ) (d : ConsecutiveClumps) → at < length runs
    → ((k : ℕ) → k < at → run_has_patch tile patch (get_or runs k d) ≡ false)
    → run_has_patch tile patch (get_or runs at d) ≡ true
    → number_in_full_map runs tile patch ≡ Some (number_in_run patch (get_or runs at d))
number-found tile patch [] at d lt none has = absurd (omega (arith, lt))
number-found tile patch (run ∷ runs) zero d lt none has =
    cond-true (run_has_patch tile patch run) (Some (number_in_run patch run)) (number_in_full_map runs tile patch) has
number-found tile patch (run ∷ runs) (suc at) d lt none has =
    cond-false (run_has_patch tile patch run) (Some (number_in_run patch run)) (number_in_full_map runs tile patch)
    (none 0 (omega arith))
    ∙ number-found tile patch runs at d (omega (arith, lt)) (λ k less. none (suc k) (omega (arith, less))) has

-- if no run has the patch, it has no number
pub number-missing : (tile patch : ℕ) (runs : List ConsecutiveClumps) (d : ConsecutiveClumps)
    → ((k : ℕ) → k < length runs → run_has_patch tile patch (get_or runs k d) ≡ false)
    → number_in_full_map runs tile patch ≡ None
number-missing tile patch [] d none = refl
number-missing tile patch (run ∷ runs) d none =
    cond-false (run_has_patch tile patch run) (Some (number_in_run patch run)) (number_in_full_map runs tile patch)
    (none 0 (omega arith))
    ∙ number-missing tile patch runs d (λ k less. none (suc k) (omega (arith, less)))

-- the patch has no number if all runs are before it, or the first run that is not before it lacks it
pub number-of-gap : (runs : List ConsecutiveClumps) (tile patch at : ℕ) (d : ConsecutiveClumps) → AreRunsInOrder runs
    → IsPartitionPoint (λ run. run_is_before_patch tile patch run ≡ true)
    (λ run. run_is_before_patch tile patch run ≡ false) runs at
    → (at < length runs → run_has_patch tile patch (get_or runs at d) ≡ false)
    → number_in_full_map runs tile patch ≡ None
number-of-gap runs tile patch at d in_order parted lacks =
    number-missing tile patch runs d (λ k lt. ⊎_elim
    (λ (low : k < at). before-lacks tile patch (get_or runs k d) (parted.0 k d (omega arith) low))
    (λ (high : at ≤ k). ⊎_elim
    (λ (same : k ≡ at). rw same (lacks (omega (arith, lt, same))))
    (λ (apart : k ≡ at → ⊥).
    let inside : at < length runs = omega (arith, lt, high) in
    later-lacks tile patch (get_or runs at d) (get_or runs k d)
    (in_order.order at k d (omega (arith, high, apart)) lt) (in_order.each at d inside)
    (parted.1 at d (omega arith) inside) (lacks inside))
    (cases_eq k at))
    (cases_lt k at))

-- the first run that is not before the patch gives its number, if it has the patch
pub number-at : (runs : List ConsecutiveClumps) (tile patch at : ℕ) (d : ConsecutiveClumps)
    → IsPartitionPoint (λ run. run_is_before_patch tile patch run ≡ true)
    (λ run. run_is_before_patch tile patch run ≡ false) runs at
    → at < length runs → run_has_patch tile patch (get_or runs at d) ≡ true
    → number_in_full_map runs tile patch ≡ Some (number_in_run patch (get_or runs at d))
number-at runs tile patch at d parted lt has =
    number-found tile patch runs at d lt
    (λ k less. before-lacks tile patch (get_or runs k d) (parted.0 k d (omega arith) less)) has
