use Rattle.std.proofs.Common.{ap, length, ◌∙◌, arith}
use Rattle.std.proofs.lemmas.Bool.Decides.{nat_tests}
use Rattle.rcell_script.proofs.NameLemmas.{parts-some}
use Rattle.rcell_script.proofs.options.map_names_in_option.Goals as goal

pub of-requires : goal.of-requires
of-requires c =
    let count = c.in_ok-names.ensures.count ∙ ap length c.deref.ensures.value in
    let most = c.if-len-gt-MOST_STATS_MAPS.false in
    let long = c.len.ensures in
    (parts-some c.in_ok-parts.parts.items c.args.value.now _ c.in_ok-parts.ensures count, grind (arith, nat_tests))
