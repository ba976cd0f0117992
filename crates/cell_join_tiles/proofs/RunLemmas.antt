-- The numbers of consecutive labels follow one another.
use Rattle.std.proofs.Common.{◌≡◌, ℕ, suc, ◌+◌, ◌-◌, ◌<◌, ◌≤◌, [], ◌∷◌, ◌++◌, List, Option, Some, None, Result, Ok, Err, IfOk, IfNone, map, drop, length, get_or, ap, sym, ◌∙◌, arith, subst, append_assoc, append-nil, ltb}
use Rattle.std.specs.Prelude.{Vec}
use Rattle.std.specs.List.{AllPairs, range_with_len}
use Rattle.std.proofs.lemmas.List.{map-append}
use Rattle.std.proofs.lemmas.List.Sums.{count_by-le-length}
use Rattle.std.proofs.Math.Seq.{drop-cons}
use Rattle.std.specs.Global.{Global}
use Rattle.cell_join_numbers.specs.Stretches.{consecutive_clumps_of_tile}
use Rattle.cell_join_numbers.specs.declared.stretch.ConsecutiveClumps.{ConsecutiveClumps}
use Rattle.cell_join_numbers.specs.declared.numbers.PairedLabelNumbers.{PairedLabelNumbers}
use Rattle.cell_join_numbers.specs.SparseLabels.{paired_label_count_before_label}
use Rattle.cell_join_numbers.specs.SparseNumbers.{AreNumbersAndRootCountsOfLabels, AreNumbersOfLabels}
use Rattle.cell_join_numbers.proofs.PlaceLemmas.{few-before}
use Rattle.cell_join_numbers.proofs.SearchLemmas.{before-most, alone-here}
use Rattle.cell_join_tiles.specs.declared.run_lines.UnfinishedConsecutiveClumps.{UnfinishedConsecutiveClumps}
use Rattle.cell_join_tiles.specs.parts.RunLines.{ConsecutiveClumpsAreListed}
use Rattle.cell_join_tiles.specs.declared.spans.LabelRange.{LabelRange}
use Rattle.cell_join_tiles.specs.parts.LabelRuns.{AddsConsecutiveClumpsOfLabels, consecutive_clumps_by_labels}
use Rattle.cell_join_tiles.specs.parts.Spans.{labels_of_ranges, labels_of_tile_ranges}
use Rattle.cell_join_tiles.proofs.RowLabelLemmas.{run-of}

-- consecutive labels of which none is paired have consecutive numbers
pub lone-run : (number : ℕ → ℕ) (paired numbers roots : List ℕ) → AllPairs ◌<◌ paired → AreNumbersOfLabels number paired numbers roots → (first count place : ℕ) → paired_label_count_before_label paired first ≡ place → paired_label_count_before_label paired (first + count) ≡ place → range_with_len (first - place + get_or roots place 0 + 1) count ≡ map number (range_with_len first count)
lone-run number paired numbers roots order are first count place before after =
    run-of number (first - place + get_or roots place 0 + 1) first count (λ k lt.
    let l = first + k in
    let low = before-most paired order first l (omega arith) in
    let mid = before-most paired order l (suc l) (omega arith) in
    let high = before-most paired order (suc l) (first + count) (omega (arith, lt)) in
    let here : paired_label_count_before_label paired l ≡ place = omega (arith, low, mid, high, before, after) in
    let next : paired_label_count_before_label paired (suc l) ≡ paired_label_count_before_label paired l = omega
    (arith, low, mid, high, before, after) in
    let alone = alone-here paired order l next in
    let few = few-before paired order first in
    are.alone l alone
    ∙ ap (λ (n : ℕ). (l - n) + get_or roots n 0 + 1) here
    ∙ omega (arith, few, before))

-- the run of a paired label is its listed number plus 1
pub paired-run : (number : ℕ → ℕ) (paired numbers roots : List ℕ) → AreNumbersOfLabels number paired numbers roots → (place : ℕ) → place < length paired → range_with_len (get_or numbers place 0 + 1) 1 ≡ map number (range_with_len (get_or paired place 0) 1)
paired-run number paired numbers roots are place lt = ap (λ (n : ℕ). n ∷ []) (are.at place lt)

-- runs for some labels, then runs for further labels, are runs for all of them
pub goes-then : (sparse : PairedLabelNumbers) (part : ℕ) (line mid after : Option UnfinishedConsecutiveClumps) (old between new : List ConsecutiveClumps) (one other : List ℕ) → AddsConsecutiveClumpsOfLabels sparse part line old between one mid → AddsConsecutiveClumpsOfLabels sparse part mid between new other after → AddsConsecutiveClumpsOfLabels sparse part line old new (one ++ other) after
goes-then sparse part line mid after old between new one other first second number before numbers are h =
    let done = second number before (numbers ++ map number one) are (first number before numbers are h) in
    let same : (numbers ++ map number one) ++ map number other ≡ numbers ++ map number (one ++ other) =
    append_assoc numbers (map number one) (map number other) ∙ ap (λ (l : List ℕ). numbers ++ l) (sym (map-append number one other)) in
    subst (λ (l : List ℕ). ConsecutiveClumpsAreListed part before l new after) same done

pub goes-nowhere : (sparse : PairedLabelNumbers) (part : ℕ) (line : Option UnfinishedConsecutiveClumps) (old : List ConsecutiveClumps) (labels : List ℕ) → labels ≡ [] → AddsConsecutiveClumpsOfLabels sparse part line old old labels line
goes-nowhere sparse part line old labels none number before numbers are h =
    let same : numbers ≡ numbers ++ map number labels = sym (ap (λ (l : List ℕ). numbers ++ map number l) none ∙ append-nil numbers) in
    subst (λ (l : List ℕ). ConsecutiveClumpsAreListed part before l old line) same h

-- appending a run of numbers to a line covers the labels of that run
pub goes-run : (sparse : PairedLabelNumbers) (part : ℕ) (line after : Option UnfinishedConsecutiveClumps) (old new : List ConsecutiveClumps) (labels : List ℕ) (first count : ℕ)
    → ((number : ℕ → ℕ) → AreNumbersOfLabels number sparse.paired.items sparse.numbers.items sparse.roots.items → range_with_len first count ≡ map number labels)
    → ((before : List ConsecutiveClumps) (numbers : List ℕ) → ConsecutiveClumpsAreListed part before numbers old line → ConsecutiveClumpsAreListed part before (numbers ++ range_with_len first count) new after)
    → AddsConsecutiveClumpsOfLabels sparse part line old new labels after
goes-run sparse part line after old new labels first count same step number before numbers are h =
    subst (λ (l : List ℕ). ConsecutiveClumpsAreListed part before (numbers ++ l) new after) (same number are)
    (step before numbers h)

pub if-ok : {A E : Type 0} (r : Result A E) (P Q : A → Type 0) → IfOk r P → ((a : A) → P a → Q a) → IfOk r Q
if-ok (Ok a) P Q p more = more a p
if-ok (Err e) P Q p more = tt

-- no more roots than paired labels come before a label
pub few-roots : (paired numbers roots : List ℕ) → AreNumbersAndRootCountsOfLabels paired numbers roots → (first place : ℕ) → paired_label_count_before_label paired first ≡ place → get_or roots place 0 ≤ place
few-roots paired numbers roots ready first place is =
    let most = count_by-le-length (λ l. ltb l first) paired in
    ready.few place (omega (arith, most, is))

pub roots-inside : (paired numbers roots : List ℕ) → AreNumbersAndRootCountsOfLabels paired numbers roots → (first place : ℕ) → paired_label_count_before_label paired first ≡ place → place < length roots
roots-inside paired numbers roots ready first place is =
    let most = count_by-le-length (λ l. ltb l first) paired in
    omega (arith, most, is, ready.long_roots)

pub if-none : {A : Type 0} (r : Option A) (P : Type 0) → P → IfNone r P
if-none None P p = p
if-none (Some a) P p = tt

-- the runs of the remaining tiles begin with the runs of the next tile
pub tiles-split : (number : ℕ → ℕ) (tiles : List (Vec LabelRange Global)) (k : ℕ) (d : Vec LabelRange Global) → k < length tiles → (spans : List LabelRange) → spans ≡ (get_or tiles k d).items → consecutive_clumps_by_labels number (k + 1) (labels_of_tile_ranges (drop k tiles)) ≡ consecutive_clumps_of_tile (k + 1) (map number (labels_of_ranges spans)) ++ consecutive_clumps_by_labels number (k + 1 + 1) (labels_of_tile_ranges (drop (k + 1) tiles))
tiles-split number tiles k d lt spans is =
    let one : suc k ≡ k + 1 = omega arith in
    ap (λ l. consecutive_clumps_by_labels number (k + 1) (labels_of_tile_ranges l)) (drop-cons tiles k d lt)
    ∙ (λ i. consecutive_clumps_of_tile (k + 1) (map number (labels_of_ranges (sym is i))) ++ consecutive_clumps_by_labels number (k + 1 + 1) (labels_of_tile_ranges (drop (one i) tiles)))
