use Rattle.std.proofs.Common.{◌≡◌, ◌∙◌, ◌<◌, ◌≤◌, ℕ, List, [], length, get_or, nat_lt, true, false, unwrap_or, ap, sym, arith}
use Rattle.std.proofs.Math.ListN.{get_or-eq_default}
use Rattle.std.proofs.lemmas.Bool.Decides.{nat_tests}
use Rattle.std.proofs.lemmas.Option.{slice_get-get_or, unwrap_or-slice_get}
use Rattle.rcell.specs.Reports.{grid_name_at_place}
use Rattle.rcell.proofs.report.grid_name_by_place.Goals as goal

named : (names : List (List ℕ)) (grid : ℕ) (name : List ℕ) → true ≡ nat_lt grid (length names) → name ≡ get_or names grid name → name ≡ grid_name_at_place names grid
named names grid name within is =
    let below : grid < length names = grind (arith, nat_tests) in
    is ∙ sym (ap (λ o. unwrap_or o []) (slice_get-get_or names grid name below))

no_name : (names : List (List ℕ)) (grid : ℕ) → false ≡ nat_lt grid (length names) → [] ≡ grid_name_at_place names grid
no_name names grid past =
    let least : length names ≤ grid = grind (arith, nat_tests) in
    sym (unwrap_or-slice_get names grid [] ∙ get_or-eq_default names [] least)

pub returns-in-Some : goal.returns-in-Some
returns-in-Some c = c.bytes.ensures.value ∙ named c.args.names.now c.args.grid c.in-Some.name.now c.in-Some.ensures.lookup.0 c.in-Some.ensures.lookup.1

pub returns-in-None : goal.returns-in-None
returns-in-None c = no_name c.args.names.now c.args.grid c.in-None.ensures.lookup.0
