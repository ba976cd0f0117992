use Rattle.std.specs.Prelude.{length, slice_index_or}
use Rattle.std.proofs.Common.{◌≡◌, ◌<◌, ℕ, zero, suc, pos, List, [], ◌∷◌, Some, None, refl, arith, inl, codes}
use Rattle.cell_ascii_meaning.specs.CellTexts.{map_denoted_by_text, next_cell_after_position}
use Rattle.cell_ascii_meaning.specs.Header.{end_of_continued_blank_run, rest_of_header_from_line}
use Rattle.cell_ascii_meaning.specs.GridTokens.{next_word_start, word_continued_in_bytes}
use Rattle.cell_calc_grammar.specs.Grammar.{TokensDenoteOffset, IsExpression, offsets, moved, below}
use Rattle.cell_calc_language.specs.Assignment.{IsAssignmentText}
use Rattle.cell_calc_language.specs.declared.assignment.Assignment.{Assignment}
use Rattle.rcell_script.specs.RMapcalc.{assignment_with_blanked_command}
use Rattle.rcell.specs.Making.{IsMapOfExpressionValues}
use Rattle.cell_calc_grammar.specs.Term.{Map, map_name_at_column}
use Rattle.cell_calc_grammar.specs.Token.{number_token_at_column}
use Rattle.cell_calc_grammar.specs.Tokens.{name_or_number_token, sign_length_at_start, first_token_length}
use Rattle.cell_calc_grammar.specs.Tokens.{token_bytes_of_text, tokens_of_text_pieces, token_list_of_text}
use Rattle.cell_core.specs.Grid.{Grid, CellValue, cell_at, empty_category_labels}
use Rattle.cell_core_values.specs.Region.{RegionValue}
use Rattle.cell_calc_language.specs.Applied.{grid_position}
use Rattle.cell_calc_language.specs.Value.{value}
use Rattle.rcell.specs.Loading.{shelf_with_remaining_grids, shelf_of_one_map}
use Rattle.std.specs.Fmt.{digits}
use Rattle.bstr.specs.Text.{line_len, lines_from}
use Rattle.rcell_worked.proofs.ReadLemmas.{script_of}
use Rattle.rcell_worked.proofs.law.grid_examples_hold.Goals as goal

-- the region of the map that the expression makes, and that map
abbrev region : RegionValue
region = record { north = pos 100000000; south = pos 0; east = pos 150000000; west = pos 0; rows = 1; cols = 3 }

abbrev next : Grid
next = record { region = region; rows = (Some (pos 2) ∷ None ∷ None ∷ []) ∷ []; labels = empty_category_labels }

abbrev first : Grid
first = record {
  region = region;
  rows = (Some (pos 1) ∷ Some (pos 2) ∷ None ∷ [])
      ∷ [];
  labels = empty_category_labels;
}

values : (r k : ℕ) → r < 1 → k < 3 → cell_at next r k ≡ value (Map 0 (pos 0) (pos 1)) (first ∷ [])
    (grid_position region r k)
values zero zero a b = refl
values zero (suc zero) a b = refl
values zero (suc (suc zero)) a b = refl
values zero (suc (suc (suc k))) a b = absurd (omega (arith, b))
values (suc r) k a b = absurd (omega (arith, a))

wide : (k : ℕ) (d : List CellValue) → k < 1 → length (slice_index_or next.rows k d) ≡ 3
wide zero d within = refl
wide (suc k) d within = absurd (omega (arith, within))

made : IsMapOfExpressionValues (Map 0 (pos 0) (pos 1)) (shelf_of_one_map (codes "row") first) next
made = record { region = refl; filled = record { count = refl; width = wide }; labels = refl; cells = values }

abbrev assigned : Assignment
assigned = record { target = codes "next"; expr = Map (map_name_at_column (codes "row") 18) (pos 0) (pos 1) }

-- `row[0,1]` is an operand of the lowest level, and so an expression
says : IsAssignmentText (assignment_with_blanked_command (codes "r.mapcalc next = row[0,1]")) assigned
unfolding name_or_number_token sign_length_at_start first_token_length token_bytes_of_text tokens_of_text_pieces
    token_list_of_text
says = (
  11,
  16,
  _,
  refl,
  IsExpression.plain (below (below (below (below (below (below (moved (offsets {ts = number_token_at_column 0 22 ∷ []}
      {us = number_token_at_column 1 24 ∷ []} 23 25 (TokensDenoteOffset.plain (omega arith))
      (TokensDenoteOffset.plain (omega arith)))))))))),
)

pub returns : goal.returns
unfolding digits line_len lines_from map_denoted_by_text next_cell_after_position end_of_continued_blank_run
    rest_of_header_from_line next_word_start word_continued_in_bytes shelf_with_remaining_grids
returns c = record {
  written = record {
    shelf = _;
    statements = _;
    read = record {
      loaded = refl;
      reads = record {
        text = _;
        bytes = refl;
        denoted = script_of c.script_reading_matches_meaning.ensures (codes "row" ∷ [])
            (codes "r.out.ascii input=row null_value=NA\n")
            (codes "r.out.ascii input=row null_value=NA" ∷ []) _ refl
            (_, (_, refl, refl), refl);
      };
    };
    written = (_, (_, (_, (refl, ((refl, refl), refl)))));
  };
  moved = record {
    shelf = shelf_of_one_map (codes "row") first;
    statements = _;
    read = record {
      loaded = refl;
      reads = record {
        text = _;
        bytes = refl;
        denoted = script_of c.script_reading_matches_meaning.ensures (codes "row" ∷ [])
            (codes "r.mapcalc next = row[0,1]\nr.out.ascii input=next\n")
            (codes "r.mapcalc next = row[0,1]" ∷ codes "r.out.ascii input=next" ∷ []) _ refl
            (_, (_, inl (assigned, says, refl), refl), (_, (_, refl, refl), refl));
      };
    };
    written = (_, (_, (_, ((next, (made, refl)), ((_, (_, (refl, ((refl, refl), refl)))), refl)))));
  };
}
