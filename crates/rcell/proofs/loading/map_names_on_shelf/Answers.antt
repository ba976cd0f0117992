use Rattle.rcell.proofs.LoadingLemmas.{place_of-before, name_more}
use Rattle.rcell.proofs.loading.map_names_on_shelf.Goals as goal

pub push-requires : goal.push-requires
push-requires c = rw (c.in_ok-name.ensures, c.loop-i.invariant) (place_of-before c.name.result.now c.args.shelf.now.names c.loop-i.i c.name.ensures.place)

pub loop-i-preserved : goal.loop-i-preserved
loop-i-preserved c = rw (c.in_ok-push.ensures.ok, c.in_ok-name.ensures, c.loop-i.invariant) (name_more c.args.shelf.now.names c.loop-i.i c.name.result.now c.name.ensures.value)
