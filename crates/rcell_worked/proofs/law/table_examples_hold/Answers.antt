use Rattle.std.proofs.Common.{◌≡◌, refl, List, pos, true, Some, None, [], ◌∷◌, codes}
use Rattle.std.specs.FinMap as finmap
use Rattle.std.specs.Cmp.{int_cmp_total}
use Rattle.std.specs.Fmt.{digits}
use Rattle.bstr.specs.Text.{line_len, lines_from}
use Rattle.cell_ascii_meaning.specs.CellTexts.{map_denoted_by_text, next_cell_after_position}
use Rattle.cell_ascii_meaning.specs.Header.{end_of_continued_blank_run, rest_of_header_from_line}
use Rattle.cell_ascii_meaning.specs.GridTokens.{next_word_start, word_continued_in_bytes}
use Rattle.cell_cats.specs.Reclass.{labels_of_rules, reclassed_map}
use Rattle.cell_cats.specs.Rule.{RuleValue}
use Rattle.cell_cats.specs.declared.rule.Output.TheVariants.{To}
use Rattle.cell_stats_combinations.specs.declared.skip.Skip.TheVariants.{AnyNull}
use Rattle.rcell.specs.Loading.{shelf_with_remaining_grids}
use Rattle.rcell.specs.Making.{shelf_with_map_at_end}
use Rattle.rcell_worked.proofs.ReadLemmas.{script_of}
use Rattle.rcell_worked.proofs.TableLemmas.{prints}
use Rattle.rcell_worked.specs.WorkedNumbers.{cell_of_category}
use Rattle.rcell_worked.proofs.WorkedMaps.{land_map, land_shelf, both_shelf, counts}
use Rattle.rcell_worked.proofs.law.table_examples_hold.Goals as goal

abbrev groups : List RuleValue
groups = record {
  listed = Some ((pos 1, pos 1) ∷ (pos 3, pos 3)
      ∷ []);
  output = To (cell_of_category 7);
  label = codes "wood";
}
    ∷ record { listed = None; output = To (cell_of_category 8); label = [] } ∷ []

-- the labels of the new categories
seven : finmap.get (labels_of_rules groups) (pos 7) ≡ Some (codes "wood")
seven = finmap.get-from_entries int_cmp_total ((pos 7, codes "wood") ∷ []) (pos 7)

eight : finmap.get (labels_of_rules groups) (pos 8) ≡ None
eight = finmap.get-from_entries int_cmp_total ((pos 7, codes "wood") ∷ []) (pos 8)

pub returns : goal.returns
unfolding digits line_len lines_from map_denoted_by_text next_cell_after_position end_of_continued_blank_run
    rest_of_header_from_line next_word_start word_continued_in_bytes shelf_with_remaining_grids
returns c = record {
  counted = record {
    shelf = land_shelf;
    statements = _;
    read = record {
      loaded = refl;
      reads = record {
        text = _;
        bytes = refl;
        denoted = script_of c.script_reading_matches_meaning.ensures (codes "land" ∷ [])
            (codes "r.stats -c input=land\n")
            (codes "r.stats -c input=land" ∷ []) _ refl
            (_, (_, refl, refl), refl);
      };
    };
    written = (
      _,
      (
        _,
        (
          _,
          (
            refl,
            (
              (refl, refl),
              prints land_shelf (0 ∷ []) (counts)
                  (codes "1 5\n2 4\n3 2\n* 1\n") [] refl refl,
            ),
          ),
        ),
      ),
    );
  };
  without_null = record {
    shelf = land_shelf;
    statements = _;
    read = record {
      loaded = refl;
      reads = record {
        text = _;
        bytes = refl;
        denoted = script_of c.script_reading_matches_meaning.ensures (codes "land" ∷ [])
            (codes "r.stats -c -n input=land\n")
            (codes "r.stats -c -n input=land" ∷ []) _ refl
            (_, (_, refl, refl), refl);
      };
    };
    written = (
      _,
      (
        _,
        (
          _,
          (
            refl,
            (
              (refl, refl),
              prints land_shelf (0 ∷ []) (record counts { skip = AnyNull })
                  (codes "1 5\n2 4\n3 2\n") [] refl refl,
            ),
          ),
        ),
      ),
    );
  };
  crossed = record {
    shelf = both_shelf;
    statements = _;
    read = record {
      loaded = refl;
      reads = record {
        text = _;
        bytes = refl;
        denoted = script_of c.script_reading_matches_meaning.ensures (codes "land" ∷ codes "zone" ∷ [])
            (codes "r.stats -c input=zone,land separator=comma null_value=NA\nr.stats -c -n input=zone,land after=7,2\n")
            (codes "r.stats -c input=zone,land separator=comma null_value=NA"
            ∷ codes "r.stats -c -n input=zone,land after=7,2" ∷ []) _ refl
            (_, (_, refl, refl), (_, (_, refl, refl), refl));
      };
    };
    written = (
      _,
      (
        _,
        (
          _,
          (
            refl,
            (
              (
                _,
                (
                  _,
                  (
                    refl,
                    (
                      (refl, refl),
                      prints both_shelf (1 ∷ 0 ∷ [])
                          (record counts {
                            skip = AnyNull;
                            after = Some (cell_of_category 7 ∷ cell_of_category 2
                                ∷ []);
                          })
                          (codes "7 3 1\n8 1 2\n8 2 3\n") [] refl refl,
                    ),
                  ),
                ),
              ),
              prints both_shelf (1 ∷ 0 ∷ []) (record counts { separator = 44; null_text = codes "NA" })
                  (codes "7,1,3\n7,2,1\n7,3,1\n8,1,2\n8,2,3\n8,NA,1\nNA,3,1\n7 3 1\n8 1 2\n8 2 3\n")
                  (codes "7 3 1\n8 1 2\n8 2 3\n") refl refl,
            ),
          ),
        ),
      ),
    );
  };
  each_cell = record {
    shelf = land_shelf;
    statements = _;
    read = record {
      loaded = refl;
      reads = record {
        text = _;
        bytes = refl;
        denoted = script_of c.script_reading_matches_meaning.ensures (codes "land" ∷ [])
            (codes "r.stats -1 -n input=land\n")
            (codes "r.stats -1 -n input=land" ∷ []) _ refl
            (_, (_, refl, refl), refl);
      };
    };
    written = (_, (_, (_, (refl, ((refl, refl), refl)))));
  };
  grouped = record {
    shelf = land_shelf;
    statements = _;
    read = record {
      loaded = refl;
      reads = record {
        text = _;
        bytes = refl;
        denoted = script_of c.script_reading_matches_meaning.ensures (codes "land" ∷ [])
            (codes "r.reclass input=land output=wood\n1 3 = 7 wood\n* = 8\nend\nr.stats -c input=wood\n")
            (codes "r.reclass input=land output=wood" ∷ codes "1 3 = 7 wood" ∷ codes "* = 8" ∷ codes "end"
            ∷ codes "r.stats -c input=wood" ∷ []) _ refl
            (_, (_, refl, refl), (_, refl, (_, refl, (_, refl, (_, (_, refl, refl), refl)))));
      };
    };
    written = (
      _,
      (
        _,
        (
          _,
          (
            refl,
            (
              (
                _,
                (
                  _,
                  (
                    refl,
                    (
                      (refl, refl),
                      prints (shelf_with_map_at_end land_shelf (codes "wood") (reclassed_map groups land_map))
                          (1 ∷ []) (counts) (codes "7 7\n8 4\n* 1\n") [] refl refl,
                    ),
                  ),
                ),
              ),
              refl,
            ),
          ),
        ),
      ),
    );
  };
  labelled = record {
    shelf = land_shelf;
    statements = _;
    read = record {
      loaded = refl;
      reads = record {
        text = _;
        bytes = refl;
        denoted = script_of c.script_reading_matches_meaning.ensures (codes "land" ∷ [])
            (codes "r.reclass input=land output=wood\n1 3 = 7 wood\n* = 8\nend\nr.stats -c -l input=wood\n")
            (codes "r.reclass input=land output=wood" ∷ codes "1 3 = 7 wood" ∷ codes "* = 8" ∷ codes "end"
            ∷ codes "r.stats -c -l input=wood" ∷ []) _ refl
            (_, (_, refl, refl), (_, refl, (_, refl, (_, refl, (_, (_, refl, refl), refl)))));
      };
    };
    written = (
      _,
      (
        _,
        (
          _,
          (
            refl,
            (
              (
                _,
                (
                  _,
                  (
                    refl,
                    (
                      (refl, refl),
                      prints (shelf_with_map_at_end land_shelf (codes "wood") (reclassed_map groups land_map))
                          (1 ∷ []) (record counts { labels = true })
                          (codes "7 wood 7\n8  4\n* no data 1\n") [] refl (rw (seven, eight) refl),
                    ),
                  ),
                ),
              ),
              refl,
            ),
          ),
        ),
      ),
    );
  };
}
