use Rattle.std.proofs.Common.{◌∙◌, sym}
use Rattle.cell_core_devices.proofs.BlockLemmas.{appends_then}
use Rattle.rcell_pipe_frames.proofs.OptionLemmas.{some_seen}
use Rattle.rcell_pipe_frames.proofs.patches_frame.push_patches_frame.Goals as goal

pub returns : goal.returns
returns g c =
    let has_zones = c.is_some.ensures ∙ sym (some_seen (λ z. z.items) c.args.zones.now) in
    appends_then c.push.ensures (appends_then c.push_eight_byte_number.ensures (appends_then c.push_joining_code.ensures
    (appends_then c.push_patch_core_depth.ensures (appends_then (rw has_zones at c.push_whether_zones_follow.ensures)
    (appends_then c.push_eight_byte_number-2.ensures c.push_map_rows.ensures)))))
