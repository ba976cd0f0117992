use Rattle.std.proofs.Common.{sym, ap, ◌∙◌, Some}
use Rattle.std.proofs.lemmas.Option.{slice_get-get_or}
use Rattle.rcell.proofs.WindowLemmas.{map_read}
use Rattle.rcell.proofs.map_of_values.map_at_listed_place.Goals as goal

pub returns-clause-value : goal.returns-clause-value
returns-clause-value c =
    let places = c.args.places.now in
    let maps = c.args.maps.now in
    map_read places maps c.args.i _ _ c.requires.within c.requires.place
    (slice_get-get_or maps _ c.index-maps-places.result (c.requires.within c.args.i _ c.requires.place)
    ∙ ap (λ m. Some m) (sym c.index-maps-places.is))
