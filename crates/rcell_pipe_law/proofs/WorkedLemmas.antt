-- The worked requests can be sent.
use Rattle.std.proofs.Common.{◌≡◌, ◌≢◌, ℕ, negsuc, false, List, [], ◌∷◌, length, Ok}
use Rattle.std.proofs.Common.{refl, arith, codes}
use Rattle.std.specs.Prelude.{All}
use Rattle.std.proofs.lemmas.List.Elements.{All-cons, All-nil}
use Rattle.std.proofs.lemmas.List.Kept.{AllPairs-cons}
use Rattle.cell_core_values.specs.Name.{AreDistinctNames}
use Rattle.cell_core_values.proofs.NameLemmas.{bytes_eq-apart}
use Rattle.cell_ascii_meaning.specs.CellTexts.{map_denoted_by_text, next_cell_after_position}
use Rattle.cell_ascii_meaning.specs.GridTokens.{next_word_start, word_continued_in_bytes}
use Rattle.cell_ascii_meaning.specs.Header.{end_of_continued_blank_run, rest_of_header_from_line}
use Rattle.cell_ascii_law.specs.GridLaw.{ReadingReturnsDenotedMap}
use Rattle.rcell_pipe_law.specs.SentMaps.{IsSendableCell, IsSendableLabel, IsSendableMap, IsSendableRegion}
use Rattle.rcell_pipe_law.specs.SentMaps.{AreSendableRows}
use Rattle.rcell_pipe_law.specs.SentQuestions.{IsSendableQuestion}
use Rattle.rcell_pipe_law.specs.SentExamples.{ExampleRequestsMatchBytes, negative_sent_cell, example_heat_map, hidden}
use Rattle.rcell_pipe_law.specs.SentExamples.{docs_example_map, docs_example_region, docs_example_rows}
use Rattle.rcell_pipe_law.specs.SentExamples.{example_heat_rows, example_grid_text, example_text, example_text_map}
use Rattle.rcell_pipe_law.specs.SentExamples.{visible_sent_cell, example_heat_question}

region_is : IsSendableRegion docs_example_region
region_is = record {
  valid = record {
    rows_least = omega arith;
    rows_most = omega arith;
    cols_least = omega arith;
    cols_most = omega arith;
    cells_most = omega arith;
    accepted = refl;
  };
  north = record { short = omega arith; spelt = refl };
  south = record { short = omega arith; spelt = refl };
  east = record { short = omega arith; spelt = refl };
  west = record { short = omega arith; spelt = refl };
}

all_three : {X : Type 0} (P : X → Type 0) (a b c : X) → P a → P b → P c → All P (a ∷ b ∷ c ∷ [])
all_three P a b c x y z = All-cons P a (b ∷ c ∷ []) x (All-cons P b (c ∷ []) y (All-cons P c [] z (All-nil P)))

all_two : {X : Type 0} (P : X → Type 0) (a b : X) → P a → P b → All P (a ∷ b ∷ [])
all_two P a b x y = All-cons P a (b ∷ []) x (All-cons P b [] y (All-nil P))

all_one : {X : Type 0} (P : X → Type 0) (a : X) → P a → All P (a ∷ [])
all_one P a x = All-cons P a [] x (All-nil P)

land_rows_are : AreSendableRows docs_example_region.region docs_example_rows
land_rows_are = record {
  nodata = record { has = refl; fits = omega arith };
  height = refl;
  width = all_two (λ row. length row ≡ 3) (visible_sent_cell 1 ∷ visible_sent_cell 1 ∷ visible_sent_cell 2
      ∷ []) (visible_sent_cell 2 ∷ visible_sent_cell 2 ∷ visible_sent_cell 255 ∷ [])
      refl refl;
  cells = all_two (All (IsSendableCell docs_example_rows.format)) (visible_sent_cell 1 ∷ visible_sent_cell 1
      ∷ visible_sent_cell 2 ∷ []) (visible_sent_cell 2 ∷ visible_sent_cell 2 ∷ visible_sent_cell
      255 ∷ [])
      (all_three (IsSendableCell docs_example_rows.format) (visible_sent_cell 1) (visible_sent_cell 1)
      (visible_sent_cell 2) one one two)
      (all_three (IsSendableCell docs_example_rows.format) (visible_sent_cell 2) (visible_sent_cell 2)
      (visible_sent_cell 255) two two null);
}
  where
    one : IsSendableCell docs_example_rows.format (visible_sent_cell 1)
    one = record { number = record { has = refl; fits = omega arith }; means = refl }

    two : IsSendableCell docs_example_rows.format (visible_sent_cell 2)
    two = record { number = record { has = refl; fits = omega arith }; means = refl }

    null : IsSendableCell docs_example_rows.format (visible_sent_cell 255)
    null = record { number = record { has = refl; fits = omega arith }; means = refl }

land_is : IsSendableMap docs_example_region.region docs_example_map
land_is = record { name = refl; count = omega arith; labels = All-nil IsSendableLabel; cells = land_rows_are }

heat_rows_are : AreSendableRows docs_example_region.region example_heat_rows
heat_rows_are = record {
  nodata = tt;
  height = refl;
  width = all_two (λ row. length row ≡ 3) (negative_sent_cell 1 ∷ hidden ∷ visible_sent_cell 3
      ∷ []) (visible_sent_cell 3 ∷ visible_sent_cell 3 ∷ negative_sent_cell
      299 ∷ []) refl refl;
  cells = all_two (All (IsSendableCell example_heat_rows.format)) (negative_sent_cell 1 ∷ hidden ∷ visible_sent_cell 3
      ∷ []) (visible_sent_cell 3 ∷ visible_sent_cell 3 ∷
      negative_sent_cell 299 ∷ [])
      (all_three (IsSendableCell example_heat_rows.format) (negative_sent_cell 1) hidden
      (visible_sent_cell 3) low out three)
      (all_three (IsSendableCell example_heat_rows.format) (visible_sent_cell 3) (visible_sent_cell 3)
      (negative_sent_cell 299) three three lower);
}
  where
    three : IsSendableCell example_heat_rows.format (visible_sent_cell 3)
    three = record { number = record { has = refl; fits = omega arith }; means = refl }

    out : IsSendableCell example_heat_rows.format hidden
    out = record { number = record { has = refl; fits = omega arith }; means = refl }

    low : IsSendableCell example_heat_rows.format (negative_sent_cell 1)
    low = record { number = record { has = refl; fits = omega arith }; means = refl }

    lower : IsSendableCell example_heat_rows.format (negative_sent_cell 299)
    lower = record { number = record { has = refl; fits = omega arith }; means = refl }

heat_is : IsSendableMap docs_example_region.region example_heat_map
heat_is = record {
  name = refl;
  count = omega arith;
  labels = all_one IsSendableLabel (record { category = negsuc 1; text = codes "cold" }) (record {
    good = refl;
    category = omega arith;
    text = omega arith;
  });
  cells = heat_rows_are;
}

-- the text is read as the map
text_read : map_denoted_by_text (record { bytes = example_grid_text; fails = false }) ≡ Ok example_text.map
unfolding map_denoted_by_text end_of_continued_blank_run rest_of_header_from_line next_cell_after_position
    next_word_start word_continued_in_bytes
text_read = refl

town_is : ReadingReturnsDenotedMap → IsSendableMap docs_example_region.region example_text_map
town_is law = record {
  name = refl;
  count = omega arith;
  labels = All-nil IsSendableLabel;
  cells = record {
    denotes = (law (record { bytes = example_grid_text; fails = false }) example_text.map).0 text_read;
    covers = refl;
    short = omega arith;
  };
}

none_after : (name : List ℕ) → AreDistinctNames (name ∷ [])
none_after name = AllPairs-cons (λ a b. a ≢ b) name [] (All-nil (λ b. name ≢ b)) (λ i j d before within. absurd
    (omega arith))

land_heat_apart : codes "land" ≢ codes "heat"
land_heat_apart = bytes_eq-apart (codes "land") (codes "heat") refl

land_town_apart : codes "land" ≢ codes "town"
land_town_apart = bytes_eq-apart (codes "land") (codes "town") refl

heat_town_apart : codes "heat" ≢ codes "town"
heat_town_apart = bytes_eq-apart (codes "heat") (codes "town") refl

pub worked : ReadingReturnsDenotedMap → ExampleRequestsMatchBytes
worked law = record {
  one = record {
    region = region_is;
    maps = all_one (IsSendableMap docs_example_region.region) docs_example_map land_is;
    distinct = none_after docs_example_map.name;
    some = omega arith;
    few = omega arith;
    short = omega arith;
    questions = All-nil IsSendableQuestion;
    count = omega arith;
  };
  one_is = refl;
  land_means = refl;
  two = record {
    region = region_is;
    maps = all_three (IsSendableMap docs_example_region.region) docs_example_map example_heat_map example_text_map
        land_is heat_is (town_is law);
    distinct = AllPairs-cons (λ a b. a ≢ b) docs_example_map.name (example_heat_map.name ∷ example_text_map.name ∷ [])
        (all_two (λ b. docs_example_map.name ≢ b) example_heat_map.name example_text_map.name land_heat_apart
        land_town_apart)
        (AllPairs-cons (λ a b. a ≢ b) example_heat_map.name (example_text_map.name ∷ [])
        (all_one (λ b. example_heat_map.name ≢ b) example_text_map.name heat_town_apart)
        (none_after example_text_map.name));
    some = omega arith;
    few = omega arith;
    short = omega arith;
    questions = all_one IsSendableQuestion example_heat_question (record {
      short = omega arith;
      deep = omega arith;
      fits = omega arith;
      some = omega arith;
      zones = (refl, refl);
    });
    count = omega arith;
  };
  two_are = refl;
  heat_means = refl;
}
