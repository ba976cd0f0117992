use Rattle.std.proofs.Common.{ap}
use Rattle.std.specs.Option.{ok_or}
use Rattle.rcell_script.specs.declared.option_fault.OptionFault.TheVariants.{UnknownMap}
use Rattle.rcell_script.proofs.LookupLemmas.{unknown_map_column, known_at, within_more, length-more}
use Rattle.rcell_script.proofs.maps.known_places_of_map_names.Goals as goal

pub returns-in-None-clause-places : goal.returns-in-None-clause-places
returns-in-None-clause-places c _ =
    ap (λ places. ok_or places UnknownMap) (unknown_map_column c.args.known.now c.args.names.now c.loop-name.name-index _ _ c.loop-name-test.true
    c.name-item.is c.bytes.ensures.value c.in-None.ensures.place)

pub loop-name-preserved : goal.loop-name-preserved
loop-name-preserved c =
    let grown = c.in_ok-push-in-Some.ensures.items in
    let is = c.loop-name.invariant in
    record {
      places = rw grown (known_at c.args.known.now c.args.names.now c.loop-name.name-index _ _ _ _
          c.loop-name-test.true c.name-item.is c.bytes.ensures.value is.places c.in-Some.ensures.place);
      count = rw grown (length-more _ _ _ is.count);
      within = rw grown (within_more c.args.known.now _ _ _ is.within c.in-Some.ensures.place);
    }
