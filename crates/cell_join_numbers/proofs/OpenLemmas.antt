-- Labels are replaced by numbers.
use Rattle.std.proofs.Common.{◌≡◌, ℕ, suc, true, false, ◌+◌, ◌++◌, [], ◌∷◌, List, length, ap, ◌∙◌}
use Rattle.std.proofs.lemmas.List.{length_push}
use Rattle.std.proofs.lemmas.Bool.{cond-true, cond-false}
use Rattle.cell_join_numbers.specs.LabelNumbers.{is_open, root_labels_below}

pub open-more : (table : List ℕ) (k : ℕ) → is_open table k ≡ true → root_labels_below table (suc k) ≡ root_labels_below table k ++ k ∷ []
open-more table k is = cond-true (is_open table k) _ _ is

pub open-same : (table : List ℕ) (k : ℕ) → is_open table k ≡ false
    → root_labels_below table (suc k) ≡ root_labels_below table k
open-same table k is = cond-false (is_open table k) _ _ is

pub count-more : (table : List ℕ) (k : ℕ) → is_open table k ≡ true → length (root_labels_below table (suc k)) ≡ length (root_labels_below table k) + 1
count-more table k is = ap (length {A = ℕ}) (open-more table k is) ∙ length_push (root_labels_below table k) k
