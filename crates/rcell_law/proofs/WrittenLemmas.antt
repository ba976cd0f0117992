-- The texts written by r.out.ascii are grids of the same maps.
use Rattle.std.proofs.Common.{◌≡◌, ℕ, suc, ◌+◌, false, List, [], ◌∷◌, length, map, Option, Some, refl, ap, sym, ◌∙◌}
use Rattle.std.proofs.Common.{subst, arith}
use Rattle.std.specs.Prelude.{slice_get, All}
use Rattle.std.specs.Option.{option_map_or}
use Rattle.std.proofs.lemmas.List.Elements.{All-head, All-tail, All-map}
use Rattle.cell_core.specs.Grid.{Grid}
use Rattle.cell_core.specs.Shelf.{ShelfValue}
use Rattle.cell_ascii_meaning.specs.GridText.{SourceDenotesMap}
use Rattle.cell_ascii_meaning.specs.Writing.{IsValidNullText, grid_text}
use Rattle.cell_ascii_law.specs.WrittenLaw.{map_without_labels, IsWritableMap}
use Rattle.cell_ascii_law.proofs.WritingLawLemmas.{writing_is_read}
use Rattle.rcell.specs.Output.{out_ascii_text}
use Rattle.rcell.proofs.runs.AcceptedLemmas.{AllDenote}
use Rattle.rcell_law.specs.ReadAgain.{written_grids_from_place, WrittenMapsAreGrids, WrittenMapsGiveSameOutput}
use Rattle.rcell_law.proofs.AlikeLemmas.{labels_change_only_printed_labels}

pub names_written : (shelf : ShelfValue) (null_text : List ℕ) (place : ℕ) (names : List (List ℕ))
    → names ≡ map (λ g. g.0) (written_grids_from_place shelf null_text place names)
names_written shelf null_text place [] = refl
names_written shelf null_text place (name ∷ names) = ap (λ (ns : List (List ℕ)). name ∷ ns)
    (names_written shelf null_text (suc place) names)

pub count_written : (shelf : ShelfValue) (null_text : List ℕ) (place : ℕ) (names : List (List ℕ))
    → length (written_grids_from_place shelf null_text place names) ≡ length names
count_written shelf null_text place [] = refl
count_written shelf null_text place (name ∷ names) = ap suc (count_written shelf null_text (suc place) names)

module _ (null_text : List ℕ) (can : IsValidNullText null_text) (shelf : ShelfValue) where
  one_denotes : (place : ℕ) (m : Grid) → slice_get shelf.maps place ≡ Some m → IsWritableMap null_text m
      → SourceDenotesMap (record { bytes = out_ascii_text shelf place null_text; fails = false }) (map_without_labels m)
  one_denotes place m is writable =
      subst (λ (o : Option Grid). SourceDenotesMap (record {
        bytes = option_map_or
            (grid_text null_text) o [];
        fails = false;
      })
      (map_without_labels m)) (sym is) (writing_is_read null_text m can writable)

  -- the texts of the maps from a place on denote these maps
  pub all_denote : (place : ℕ) (names : List (List ℕ)) (maps : List Grid) → length names ≡ length maps
      → ((i : ℕ) → slice_get shelf.maps (place + i) ≡ slice_get maps i) → All (IsWritableMap null_text) maps
      → AllDenote (written_grids_from_place shelf null_text place names) (map map_without_labels maps)
  all_denote place [] [] long there writable = tt
  all_denote place [] (m ∷ maps) long there writable = absurd (omega (arith, long))
  all_denote place (name ∷ names) [] long there writable = absurd (omega (arith, long))
  all_denote place (name ∷ names) (m ∷ maps) long there writable =
      let here : place + 0 ≡ place = omega arith in
      let first : slice_get shelf.maps place ≡ Some m = ap (slice_get shelf.maps) (sym here) ∙ there 0 in (
        one_denotes place m first (All-head (IsWritableMap null_text) m maps writable),
        all_denote (suc place) names maps (omega (arith, long))
            (λ i. let next : suc place + i ≡ place + suc i = omega arith in ap (slice_get shelf.maps) next ∙ there
            (suc i))
            (All-tail (IsWritableMap null_text) m maps writable),
      )

pub written_maps_are_grids : WrittenMapsAreGrids
written_maps_are_grids null_text shelf can is writable = record {
  some = (let count = count_written shelf null_text 0 shelf.names in let named = is.named in let some = is.some in
      omega arith);
  denote = all_denote null_text can shelf 0 shelf.names shelf.maps is.named
      (λ i. let here : 0 + i ≡ i = omega arith in ap (slice_get shelf.maps) here) writable;
  names = names_written shelf null_text 0 shelf.names;
  distinct = is.distinct;
  one_region = All-map (λ (m : Grid). m.region ≡ shelf.region) map_without_labels shelf.maps is.one_region;
}

pub written_maps_give_same_output : WrittenMapsGiveSameOutput
written_maps_give_same_output null_text shelf can is writable script statements ends short denoted none = (
  record {
    loaded = written_maps_are_grids null_text shelf can is writable;
    ends = ends;
    short = short;
    denoted =
        denoted;
  },
  λ text. labels_change_only_printed_labels shelf statements none text,
)
