use Rattle.std.proofs.Common.{◌∙◌, ap, map}
use Rattle.cell_patches.specs.declared.zone_counts.LeadingZone.{LeadingZone}
use Rattle.cell_patches.proofs.ZoneLemmas.{main_zones}
use Rattle.cell_patches.proofs.zones.zones_of_patches.Goals as goal

pub returns-clause-each : goal.returns-clause-each
returns-clause-each c =
    main_zones (record { numbers = c.args.numbers.now; zones = c.args.zones.now }) c.in_ok-counts.counts
    c.in_ok-main.main.items c.in_ok-counts.ensures.counted
    (c.in_ok-main.ensures ∙ ap (map (λ (lead : LeadingZone). lead.zone)) c.deref.ensures.value)
