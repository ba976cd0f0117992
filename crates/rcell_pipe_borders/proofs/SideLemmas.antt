-- A side up to one more cell.
use Rattle.std.proofs.Common.{◌≡◌, ◌∙◌, ℕ, ◌+◌, Bool, ◌&&◌, List, [], ◌∷◌, ap, sym}
use Rattle.std.specs.List.{list_all, range_with_len}
use Rattle.std.proofs.lemmas.List.Folds.{list_all-append}
use Rattle.std.proofs.Math.Bool.{and-true}
use Rattle.cell_join_tiles.proofs.RowLabelLemmas.{range-more}

-- all numbers up to one more have a property if all numbers so far and the next have it
pub all-more : (p : ℕ → Bool) (k : ℕ) (good one : Bool) → good ≡ list_all p (range_with_len 0 k) → one ≡ p k
    → (good && one) ≡ list_all p (range_with_len 0 (k + 1))
all-more p k good one before is =
    ap (λ (b : Bool). b && one) before
    ∙ ap (λ (b : Bool). list_all p (range_with_len 0 k) && b) (is ∙ sym (and-true (p k)))
    ∙ sym (ap (list_all p) (range-more k) ∙ list_all-append p (range_with_len 0 k) (k ∷ []))
