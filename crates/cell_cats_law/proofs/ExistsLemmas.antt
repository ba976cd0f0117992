-- Every filled map has a clumping.
use Rattle.std.proofs.Common.{◌≡◌, ℕ, pos, cond, Some, None, IsSome, is_some, refl, ap, sym, ◌∙◌}
use Rattle.cell_core.specs.Grid.{Grid, CellValue, RowsFillRegion}
use Rattle.cell_clumps.specs.declared.clump.Joining.{Joining}
use Rattle.cell_clumps.specs.Clumps.{Position, cell_at_position, IsClumpMapOf}
use Rattle.cell_clumps.specs.parts.CellPlaces.{position_at_row_and_column, IsInsideMap}
use Rattle.cell_clumps.proofs.MeetingLemmas.{some_of}
use Rattle.cell_clumps.proofs.StartLemmas.{inside_map}
use Rattle.cell_cats_law.specs.ExistsLaw.{ClumpMapExists}
use Rattle.cell_cats_law.proofs.LinkLemmas.{AreLed, are_led}
use Rattle.cell_cats_law.proofs.MadeLemmas.{made_map, made_filled, made_there}
use Rattle.cell_cats_law.proofs.FirstLemmas.{number, has_number, one_number, joined_number}

module _ (j : Joining) (m : Grid) (filled : RowsFillRegion m.region m.rows) (f : ℕ → ℕ) (led : AreLed j m f) where
  abbrev number_at : Position → ℕ
  number_at p = number j m filled f led p

  abbrev cell_of : Position → CellValue
  cell_of p = cond (is_some (cell_at_position m p)) (Some (pos (number_at p))) None

  abbrev numbers : Grid
  numbers = made_map m.region (λ r c. cell_of (position_at_row_and_column r c))

  numbers_filled : RowsFillRegion numbers.region numbers.rows
  numbers_filled = made_filled m.region (λ r c. cell_of (position_at_row_and_column r c))

  there : (p : Position) → IsInsideMap m p → cell_at_position numbers p ≡ cell_of p
  there p inside = made_there m.region (λ r c. cell_of (position_at_row_and_column r c)) p.row p.col inside.0 inside.1

  null_there : (p : Position) → cell_at_position m p ≡ None → (x : CellValue) → cell_at_position numbers p ≡ x
      → cell_at_position numbers p ≡ None
  null_there p none None is = is
  null_there p none (Some v) is =
      there p (inside_map numbers p v numbers_filled is) ∙ ap
      (λ (x : CellValue). cond (is_some x) (Some (pos (number_at p))) None) none

  some_there : (p : Position) → IsSome (cell_at_position m p) → cell_at_position numbers p ≡ Some (pos (number_at p))
  some_there p some =
      let v = some_of (cell_at_position m p) some in
      there p (inside_map m p v.0 filled v.1) ∙ ap (λ t. cond t (Some (pos (number_at p))) None) some

  clumped : IsClumpMapOf j m numbers
  clumped = record {
    region = refl;
    labels = refl;
    nulls = λ p none. null_there p none (cell_at_position numbers p) refl;
    numbered = λ p some.
        let v = some_of (cell_at_position m p) some in
        (number_at p, has_number j m filled f led p v.0 v.1, some_there p some);
    same = λ p q some other.
        let v = some_of (cell_at_position m p) some in
        let u = some_of (cell_at_position m q) other in (
          λ e.
              let both : Some (pos (number_at p)) ≡ Some (pos (number_at q)) = sym (some_there p some) ∙ e
              ∙ some_there q other in
              let same : number_at p ≡ number_at q = cc in
              one_number j m filled f led p q v.0 u.0 v.1 u.1 same,
          λ h. some_there p some ∙ ap (λ (n : ℕ). Some (pos n)) (joined_number j m filled f led p q h) ∙ sym
              (some_there q other),
        );
  }

pub clump_map_exists : ClumpMapExists
clump_map_exists j m filled =
    let led = are_led j m filled in
    (numbers j m filled led.0 led.1, (numbers_filled j m filled led.0 led.1, clumped j m filled led.0 led.1))
