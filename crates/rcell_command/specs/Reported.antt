-- The place at which an error is reported, and its exit status (profile).
use Rattle.std.specs.Prelude.{ℕ, List, Option, None, Some}

-- the source of an error, its line, or 0 if it has none, and the exit status
pub record ErrorPlaceValue : Type 0 where
  pub source : List ℕ
  pub line : ℕ
  pub status : ℕ

-- a line of a source
abbrev pub error_place_on_line : (source : List ℕ) → (line status : ℕ) → ErrorPlaceValue
error_place_on_line source line status = record { source = source; line = line; status = status }

-- the exit status for an error, or 0 without an error
abbrev pub exit_status_of_error_place : Option ErrorPlaceValue → ℕ
exit_status_of_error_place None = 0
exit_status_of_error_place (Some place) = place.status
