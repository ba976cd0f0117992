use Rattle.std.proofs.Common.{rules, arith, ◌≡◌, ◌≢◌, ◌≤◌, [], ◌∷◌, length, ap, ◌∙◌, length-append}
use Rattle.std.proofs.lemmas.List.Quantifiers.{all_pairs_push}
use Rattle.cell_calc_language.specs.parts.TreeSteps.{position_among_places}
use Rattle.cell_calc_language.proofs.Index.{index_last, index_kept, index_absent, index_within}
use Rattle.cell_calc_language.proofs.Compact.{read_push}
use Rattle.cell_calc_language.proofs.compacting.find_or_add_place.Goals as goal

pub returns : goal.returns
returns c =
    let places = c.args.places.now.items in
    let absent : length places ≤ position_among_places places c.args.place = search rules in
    let k : c.position_in_place_list-k.result ≡ position_among_places places c.args.place = c.position_in_place_list-k.ensures ∙ ap (λ l. position_among_places l c.args.place) c.as_slice.ensures.value in
    rw c.in_ok-push.ensures.items (record {
      there = rw (index_last places c.args.place absent) (omega (arith, k, absent, index_within places c.args.place));
      count = rw (length-append places (c.args.place ∷ [])) (omega (arith, k, absent, index_within places c.args.place));
      places = record {
        kept = λ i lt. index_kept places (c.args.place ∷ []) i lt;
        distinct = λ distinct. all_pairs_push (λ a b. a ≢ b) places c.args.place distinct (λ k d lt e. index_absent places c.args.place absent k d lt e);
      };
      read = λ f here there. read_push f places c.args.place here there;
    })
