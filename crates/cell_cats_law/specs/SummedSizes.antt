-- The clump sizes of the full map.
use Rattle.std.specs.Prelude.{ℕ, ◌≡◌, ◌+◌, ◌<◌, ◌==◌, List, [], ◌∷◌, length, slice_index, if◌then◌else◌}

-- the size if its clump has the number `n`, and otherwise 0
abbrev pub size_if_number_matches_else_zero : (n number size : ℕ) → ℕ
size_if_number_matches_else_zero n number size = if n == number then size else 0

-- the total size of the tiles' clumps that have the number `n` in the full map
abbrev pub total_size_of_clump : ℕ → (numbers sizes : List ℕ) → ℕ
total_size_of_clump n [] sizes = 0
total_size_of_clump n (number ∷ numbers) [] = 0
total_size_of_clump n (number ∷ numbers) (size ∷ sizes) = size_if_number_matches_else_zero n number size
    + total_size_of_clump n numbers sizes

-- `whole` lists the sizes of all clumps: the size for each number, from 1, is the sum of the sizes with this number
pub record ClumpSizesAddUp (numbers sizes : List ℕ) (clumps : ℕ) (whole : List ℕ) : Type 0 where
  pub count : length whole ≡ clumps
  pub each : (n : ℕ) → n < clumps → slice_index whole n ≡ total_size_of_clump (n + 1) numbers sizes
