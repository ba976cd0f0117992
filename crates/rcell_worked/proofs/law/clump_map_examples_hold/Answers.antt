use Rattle.std.proofs.Common.{refl, [], ◌∷◌, codes}
use Rattle.cell_ascii_meaning.specs.CellTexts.{map_denoted_by_text, next_cell_after_position}
use Rattle.cell_ascii_meaning.specs.Header.{end_of_continued_blank_run, rest_of_header_from_line}
use Rattle.cell_ascii_meaning.specs.GridTokens.{next_word_start, word_continued_in_bytes}
use Rattle.std.specs.Fmt.{digits}
use Rattle.bstr.specs.Text.{line_len, lines_from}
use Rattle.cell_core.specs.Grid.{Grid, empty_category_labels}
use Rattle.cell_clumps.specs.declared.clump.Joining.{Joining}
use Rattle.cell_clumps.specs.declared.clump.Joining.TheVariants.{Edges, EdgesAndCorners}
use Rattle.rcell.specs.Loading.{shelf_with_remaining_grids, shelf_of_one_map}
use Rattle.rcell.specs.Making.{IsMapOfClumpNumbers}
use Rattle.rcell_worked.specs.WorkedNumbers.{IsOnlyClumpMapOf, four_by_four_map, four_by_four_rows}
use Rattle.rcell_worked.specs.WorkedNumbers.{clump_numbers_by_edges, clump_numbers_by_corners}
use Rattle.rcell_worked.proofs.ReadLemmas.{script_of}
use Rattle.rcell_worked.proofs.ClumpLemmas as clump_number_examples_hold
use Rattle.rcell_worked.proofs.law.clump_map_examples_hold.Goals as goal

abbrev field_map : Grid
field_map = four_by_four_map empty_category_labels four_by_four_rows

abbrev edge_map : Grid
edge_map = four_by_four_map empty_category_labels clump_numbers_by_edges

abbrev corner_map : Grid
corner_map = four_by_four_map empty_category_labels clump_numbers_by_corners

made : (j : Joining) (map : Grid) → IsOnlyClumpMapOf j field_map map → IsMapOfClumpNumbers j field_map map
made j map is = record { filled = is.filled; clumping = is.clumping }

pub returns : goal.returns
unfolding digits line_len lines_from map_denoted_by_text next_cell_after_position end_of_continued_blank_run
    rest_of_header_from_line next_word_start word_continued_in_bytes shelf_with_remaining_grids
returns c = record {
  by_edges = record {
    shelf = shelf_of_one_map (codes "field") field_map;
    statements = _;
    read = record {
      loaded = refl;
      reads = record {
        text = _;
        bytes = refl;
        denoted = script_of c.script_reading_matches_meaning.ensures (codes "field" ∷ [])
            (codes "r.clump input=field output=clumps\nr.out.ascii input=clumps\n")
            (codes "r.clump input=field output=clumps" ∷ codes "r.out.ascii input=clumps" ∷ []) _ refl
            (_, (_, refl, refl), (_, (_, refl, refl), refl));
      };
    };
    written = (
      _,
      (
        _,
        (
          _,
          (
            (edge_map, (made Edges edge_map (clump_number_examples_hold.by_edges empty_category_labels), refl)),
            ((_, (_, (refl, ((refl, refl), refl)))), refl),
          ),
        ),
      ),
    );
  };
  by_corners = record {
    shelf = shelf_of_one_map (codes "field") field_map;
    statements = _;
    read = record {
      loaded = refl;
      reads = record {
        text = _;
        bytes = refl;
        denoted = script_of c.script_reading_matches_meaning.ensures (codes "field" ∷ [])
            (codes "r.clump -d input=field output=clumps\nr.out.ascii input=clumps\n")
            (codes "r.clump -d input=field output=clumps" ∷ codes "r.out.ascii input=clumps" ∷ []) _ refl
            (_, (_, refl, refl), (_, (_, refl, refl), refl));
      };
    };
    written = (
      _,
      (
        _,
        (
          _,
          (
            (
              corner_map,
              (
                made EdgesAndCorners corner_map (clump_number_examples_hold.by_corners
                    empty_category_labels),
                refl,
              ),
            ),
            ((_, (_, (refl, ((refl, refl), refl)))), refl),
          ),
        ),
      ),
    );
  };
}
