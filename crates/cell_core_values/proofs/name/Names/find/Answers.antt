use Rattle.std.proofs.Common.{rules, ◌≡◌, ◌<◌, length, subst, sym}
use Rattle.std.specs.Prelude.{IfSome}
use Rattle.cell_core_values.specs.Name.{place_of_name}
use Rattle.cell_core_values.proofs.PlaceLemmas.{place_of-within}
use Rattle.cell_core_values.proofs.name.Names.find.Goals as goal

-- a place that is found is within the list
pub returns-clause-within : goal.returns-clause-within
returns-clause-within c =
    let found : c.copied.result ≡ place_of_name c.args.text.now c.self.inside.names.items = search rules in
    rw (← c.self.view_is) (subst (λ o. IfSome o (λ i. i < length c.self.inside.names.items)) (sym found) (place_of-within c.args.text.now c.self.inside.names.items))
