use Rattle.std.proofs.Common.{◌≡◌, Some, w32}
use Rattle.std.proofs.Common.{SFits, to_z, of_z, rules, ℤ, subst, sym}
use Rattle.std.proofs.lemmas.Int.{to_z-of_z}
use Rattle.cell_patches.specs.parts.Leads.{IsLeadingZoneByCellCounts, LeadingZoneStaysAhead, LeadingZoneIsOvertaken}
use Rattle.cell_patches.proofs.LeadLemmas.{lead_kept, lead_taken, lead_first}
use Rattle.cell_patches.proofs.zone_counts.LeadingZone.meet.Goals as goal
use Rattle.cell_patches.proofs.zone_counts.LeadingZone.meet.Goals.{in-Some+else-stays_ahead, in_default}

pub returns-then-stays_ahead : goal.returns-then-stays_ahead
returns-then-stays_ahead c = λ before after h here more others.
    let zone_fits : SFits w32 c.args.zone = c.ranges.zone in
    let first_fits : SFits w32 c.in-Some.first = search rules in
    let ahead : LeadingZoneStaysAhead c.args.self.now.cells c.in-Some.first c.args.zone c.args.cells =
    simp to_z-of_z at c.if-stays_ahead.ensures in
    lead_kept before after c.args.zone c.args.cells (record { here = here; more = more; others = others })
    c.args.self.now c.in-Some.first h c.in-Some.is ahead.0 ahead.1

pub returns : goal.returns
returns c = λ before after h here more others.
    let zone_fits : SFits w32 c.args.zone = c.ranges.zone in
    let back : to_z w32 (of_z w32 c.args.zone) ≡ c.args.zone = simp to_z-of_z in
    subst (λ (z : ℤ). IsLeadingZoneByCellCounts after (record { zone = Some z; cells = c.args.cells })) (sym back)
    (elim c.match-self.branch [
      | in-Some+else-stays_ahead w ↦
          let first_fits : SFits w32 w.in-Some.first = search rules in
          let overtaken : LeadingZoneIsOvertaken c.args.self.now.cells w.in-Some.first c.args.zone c.args.cells =
          simp to_z-of_z at w.if-stays_ahead.ensures in
          lead_taken before after c.args.zone c.args.cells (record { here = here; more = more; others = others })
          c.args.self.now w.in-Some.first h w.in-Some.is overtaken
      | in_default w ↦ lead_first before after c.args.zone c.args.cells
          (record { here = here; more = more; others = others }) c.args.self.now h w.in_default.is c.requires
    ])
