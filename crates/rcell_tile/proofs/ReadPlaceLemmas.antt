-- Commands that fit the known maps read only known maps.
use Rattle.std.proofs.Common.{ℕ, ◌<◌, ◌≤◌, max, Bool, true, false, List, [], ◌∷◌, map, length}
use Rattle.std.proofs.Common.{arith}
use Rattle.std.specs.Prelude.{All, flat_map, nat_lt, if◌then◌else◌}
use Rattle.std.proofs.lemmas.List.Elements.{All-nil, All-cons, All-head, All-tail, All-append}
use Rattle.cell_calc_grammar.specs.Postfix.{postfix, value_of_step_map_or_default, fold_maps_of_steps}
use Rattle.cell_calc_grammar.specs.declared.step.Step.{Step}
use Rattle.cell_calc_grammar.specs.declared.step.Step.TheVariants as step
use Rattle.cell_calc_grammar.proofs.PostfixLemmas.{fold-postfix}
use Rattle.cell_calc_language.proofs.FormulaSteps.{greatest}
use Rattle.cell_calc_language.specs.Reach.{map_place_limit_at_offset}
use Rattle.rcell_script.specs.FittingCommands.{CommandFitsKnownMaps}
use Rattle.rcell_script.specs.declared.command.Command.{Command}
use Rattle.rcell_script.specs.declared.command.Command.TheVariants.{Mapcalc, Reclass, Clump, Stats, OutAscii}
use Rattle.rcell_plan.specs.declared.needs.MapNeed.{MapNeed}
use Rattle.rcell_plan.specs.Needs.{need_of_own_cell, need_covering_both_needs}
use Rattle.rcell_plan.specs.Needs.{needs_with_added_need, needs_with_added_needs}
use Rattle.rcell_plan.specs.Plans.{map_read_by_step, maps_read_by_command}

module _ (count : ℕ) where
  -- the map that is read is one of the first `count`
  abbrev pub IsKnown : MapNeed → Type 0
  IsKnown n = n.place < count

  known-with-need : (xs : List MapNeed) (n : MapNeed) → All IsKnown xs → IsKnown n
      → All IsKnown (needs_with_added_need xs n)
  known-with-need [] n all new = All-cons IsKnown n [] new all
  known-with-need (x ∷ xs) n all new = by_case (nat_lt x.place n.place) (nat_lt n.place x.place)
      (known-with-need xs n (All-tail IsKnown x xs all) new)
    where
      by_case : (b c : Bool) → All IsKnown (needs_with_added_need xs n)
          → All IsKnown (if b then x ∷ needs_with_added_need xs n else (if c then n ∷ x
          ∷ xs else need_covering_both_needs x n ∷ xs))
      by_case true c behind = All-cons IsKnown x (needs_with_added_need xs n) (All-head IsKnown x xs all) behind
      by_case false true behind = All-cons IsKnown n (x ∷ xs) new all
      by_case false false behind = All-cons IsKnown (need_covering_both_needs x n) xs (All-head IsKnown x xs all)
          (All-tail IsKnown x xs all)

  known-with-needs : (xs ns : List MapNeed) → All IsKnown xs → All IsKnown ns
      → All IsKnown (needs_with_added_needs xs ns)
  known-with-needs xs [] all new = all
  known-with-needs xs (n ∷ ns) all new =
      known-with-needs (needs_with_added_need xs n) ns
      (known-with-need xs n all (All-head IsKnown n ns new)) (All-tail IsKnown n ns new)

  known-step : (s : Step ℕ) → value_of_step_map_or_default map_place_limit_at_offset 0 s ≤ count
      → All IsKnown (map_read_by_step s)
  known-step (step.Map i down right) le = All-cons IsKnown _ [] (omega (arith, le)) (All-nil IsKnown)
  known-step (step.Number n) le = All-nil IsKnown
  known-step step.Negated le = All-nil IsKnown
  known-step step.Not le = All-nil IsKnown
  known-step (step.Binary op) le = All-nil IsKnown
  known-step (step.Call f n) le = All-nil IsKnown

  known-steps : (ss : List (Step ℕ)) → fold_maps_of_steps map_place_limit_at_offset 0 max ss ≤ count
      → All IsKnown (flat_map map_read_by_step ss)
  known-steps [] le = All-nil IsKnown
  known-steps (s ∷ ss) le =
      All-append IsKnown (map_read_by_step s) (flat_map map_read_by_step ss)
      (known-step s (omega (arith, le))) (known-steps ss (omega (arith, le)))

  known-places : (places : List ℕ) → All (λ place. place < count) places
      → All IsKnown (map need_of_own_cell places)
  known-places [] all = All-nil IsKnown
  known-places (place ∷ places) all =
      All-cons IsKnown (need_of_own_cell place) (map need_of_own_cell places)
      (All-head (λ place. place < count) place places all)
      (known-places places (All-tail (λ place. place < count) place places all))

pub known-reads : (names : List (List ℕ)) (command : Command) → CommandFitsKnownMaps names command
    → All (IsKnown (length names)) (maps_read_by_command command)
known-reads names (Mapcalc target f) fits =
    let same = fold-postfix map_place_limit_at_offset 0 max greatest f in
    known-with-needs (length names) [] (flat_map map_read_by_step (postfix f)) (All-nil (IsKnown (length names)))
    (known-steps (length names) (postfix f) (omega (arith, same, fits.0)))
known-reads names (Reclass place target rules) fits =
    All-cons (IsKnown (length names)) (need_of_own_cell place) [] fits.0 (All-nil (IsKnown (length names)))
known-reads names (Clump place target joining) fits =
    All-cons (IsKnown (length names)) (need_of_own_cell place) [] fits.0 (All-nil (IsKnown (length names)))
known-reads names (Stats places options) fits =
    known-with-needs (length names) [] (map need_of_own_cell places) (All-nil (IsKnown (length names)))
    (known-places (length names) places fits.0)
known-reads names (OutAscii place null_text) fits =
    All-cons (IsKnown (length names)) (need_of_own_cell place) [] fits (All-nil (IsKnown (length names)))
