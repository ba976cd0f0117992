use Rattle.std.proofs.Common.{◌≡◌, ℕ, length, take, drop, get_or, flat_map, take_all, ap, sym, ◌∙◌, ◌++◌}
use Rattle.std.proofs.lemmas.List.{take-append-drop}
use Rattle.std.proofs.lemmas.List.Concat.{flat_map-append}
use Rattle.cell_core_devices.proofs.PieceLemmas.{flat_map-take}
use Rattle.cell_core_devices.proofs.BlockLemmas.{appends_cut, appends_then}
use Rattle.cell_stats_combinations.specs.Combinations.{Combination}
use Rattle.cell_stats.specs.TableText.{entry_line}
use Rattle.cell_stats.proofs.printing.write_table.Goals as goal

pub printed_entries-entries-requires : goal.printed_entries-entries-requires
printed_entries-entries-requires g c = rw c.requires.width c.requires.after

pub write_entry_line-requires : goal.write_entry_line-requires
write_entry_line-requires g c =
    let item = c.loop-combo-item.result in
    record {
      picked = c.requires.picked;
      some = c.requires.some;
      width = ap length c.cells.ensures ∙ ap (λ (e : Combination × ℕ). length e.0) c.loop-combo-item.is
          ∙ c.printed_entries-entries.ensures.wide c.loop-combo.combo-index item c.loop-combo-test.true
          ∙ c.requires.width;
    }

pub returns-then-has_failed : goal.returns-then-has_failed
returns-then-has_failed g c =
    let pairs = c.printed_entries-entries.result.now in
    let i = c.loop-combo.combo-index in
    let f = entry_line c.args.format.now c.args.shelf.now.maps c.args.picks.now in
    let parts : flat_map f (take i pairs) ++ flat_map f (drop i pairs) ≡ _ = sym (flat_map-append f (take i pairs) (drop i pairs)) ∙ ap (flat_map f) (take-append-drop i pairs ∙ c.printed_entries-entries.ensures.value) in
    rw (← parts) (appends_cut (flat_map f (drop i pairs)) c.loop-combo.invariant (sym c.has_failed.ensures ∙ c.if-has_failed.true))

pub loop-combo-preserved : goal.loop-combo-preserved
loop-combo-preserved g c =
    let pairs = c.printed_entries-entries.result.now in
    let item = c.loop-combo-item.result in
    let pair : Combination × ℕ = (c.cells.result.now, item.1) in
    let read : pair ≡ get_or pairs c.loop-combo.combo-index item = ap (λ (k : Combination). (k, item.1)) c.cells.ensures ∙ c.loop-combo-item.is in
    let f = entry_line c.args.format.now c.args.shelf.now.maps c.args.picks.now in
    rw (flat_map-take f pairs c.loop-combo.combo-index item pair c.loop-combo-test.true read) (appends_then c.loop-combo.invariant c.write_entry_line.ensures)

pub returns : goal.returns
returns g c =
    let all = take_all c.loop-combo.combo-index c.printed_entries-entries.result.now c.loop-combo-test.false ∙ c.printed_entries-entries.ensures.value in
    rw all at c.loop-combo.invariant
