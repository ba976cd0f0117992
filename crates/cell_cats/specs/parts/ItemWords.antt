-- The words of a line, and the items of a left side, as borrowed slices.
use Rattle.std.specs.Prelude.{ℕ, List, map}
use Rattle.std.specs.Borrow.{Bor}

-- the bytes of borrowed words
abbrev pub bytes_of_words : List (Bor (List ℕ)) → List (List ℕ)
bytes_of_words words = map (λ w. w.now) words

-- the bytes of the two ends of borrowed items
abbrev pub bytes_of_rule_item_ends : List (Bor (List ℕ) × Bor (List ℕ)) → List (List ℕ × List ℕ)
bytes_of_rule_item_ends items = map (λ item. (item.0.now, item.1.now)) items
