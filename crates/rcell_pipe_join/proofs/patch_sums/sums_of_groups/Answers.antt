use Rattle.std.proofs.Common.{◌≡◌, ◌∙◌, ◌++◌, ◌∷◌, ℕ, List, [], Option, ap, append_assoc, append-nil, map, refl, sym}
use Rattle.std.proofs.lemmas.List.Concat.{flat_map-append}
use Rattle.cell_stats_combinations.specs.Combinations.{Combination}
use Rattle.cell_stats_combinations.specs.Listed.{CombinationCounts}
use Rattle.rcell_pipe_join.specs.PatchTables.{entries_of_numbers, numbers_of_entries}
use Rattle.rcell_pipe_join.specs.parts.TableCounts.{AreSumsOfGroup, Group}
use Rattle.rcell_pipe_join.proofs.GroupLemmas.{next-can-be-summed, zip-push}
use Rattle.rcell_pipe_join.proofs.patch_sums.sums_of_groups.Goals as goal

abbrev NumberSums : Type 0
NumberSums = Option ℕ × CombinationCounts

numbers-push : (sums : List NumberSums) (s : NumberSums) → numbers_of_entries (sums ++ s ∷ [])
    ≡ numbers_of_entries sums ++ map (λ entry. s.0) s.1
numbers-push sums s =
    flat_map-append (λ (s : NumberSums). map (λ (entry : Combination × ℕ). s.0) s.1) sums (s ∷ [])
    ∙ ap (λ (l : List (Option ℕ)). numbers_of_entries sums ++ l) (append-nil (map (λ entry. s.0) s.1))

entries-push : (sums : List NumberSums) (s : NumberSums) → entries_of_numbers (sums ++ s ∷ [])
    ≡ entries_of_numbers sums ++ s.1
entries-push sums s =
    flat_map-append (λ (s : NumberSums). s.1) sums (s ∷ [])
    ∙ ap (λ (l : CombinationCounts). entries_of_numbers sums ++ l) (append-nil s.1)

pub sorted_entries_with_summed_counts-sums-requires-clause-fits :
    goal.sorted_entries_with_summed_counts-sums-requires-clause-fits
sorted_entries_with_summed_counts-sums-requires-clause-fits c =
    let before = c.loop-number.invariant in
    (next-can-be-summed c.args.groups.entries before.0 (c.in-Some.number, c.in-Some.group) c.next.new.self
    (ap (λ (rest : List Group). before.0 ++ rest) (sym c.in-Some.ensures.steps) ∙ before.2) before.3 c.requires).0

pub sorted_entries_with_summed_counts-sums-requires-clause-no_zero :
    goal.sorted_entries_with_summed_counts-sums-requires-clause-no_zero
sorted_entries_with_summed_counts-sums-requires-clause-no_zero c =
    let before = c.loop-number.invariant in
    (next-can-be-summed c.args.groups.entries before.0 (c.in-Some.number, c.in-Some.group) c.next.new.self
    (ap (λ (rest : List Group). before.0 ++ rest) (sym c.in-Some.ensures.steps) ∙ before.2) before.3 c.requires).1

pub loop-number-preserved : goal.loop-number-preserved
loop-number-preserved c =
    let before = c.loop-number.invariant in
    let group : Group = (c.in-Some.number, c.in-Some.group) in
    let sorted = c.sorted_entries_with_summed_counts-sums in
    let sums : NumberSums = (c.in-Some.number, sorted.result.items) in (
      before.0 ++ group ∷ [],
      before.1 ++ sums ∷ [],
      append_assoc before.0 (group ∷ []) c.next.new.self
          ∙ ap (λ (rest : List Group). before.0 ++ rest) (sym c.in-Some.ensures.steps) ∙ before.2,
      before.3,
      zip-push AreSumsOfGroup before.0 before.1 group sums before.4 (record {
        number = refl;
        ascending = sorted.ensures.ascending;
        counts = sorted.ensures.counts;
        no_zero = sorted.ensures.no_zero;
      }),
      c.in_ok-push_number_of_entries.ensures
          ∙ (λ i. before.5 i ++ map (λ entry. c.in-Some.number) (c.as_slice.ensures.value i))
          ∙ sym (numbers-push before.1 sums),
      c.in_ok-append.ensures.items
          ∙ ap (λ (l : CombinationCounts). l ++ sorted.result.items) before.6
          ∙ sym (entries-push before.1 sums),
    )
