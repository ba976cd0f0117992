use Rattle.std.proofs.Common.{rules, w32, SFits}
use Rattle.std.proofs.lemmas.Int.{to_z-of_z}
use Rattle.cell_core_devices.proofs.BlockLemmas.{appends_then}
use Rattle.rcell_pipe_frames.proofs.patches_frame.push_patch_measures.Goals as goal

pub returns : goal.returns
returns g c =
    let fits : SFits w32 c.args.patch.now.class = search rules in
    appends_then (simp to_z-of_z at c.push_patch_category.ensures) (appends_then c.push_eight_byte_number.ensures
    (appends_then c.push_eight_byte_number-2.ensures (appends_then c.push_eight_byte_number-3.ensures
    (appends_then c.push_eight_byte_number-4.ensures
    (appends_then c.push_eight_byte_number-5.ensures (appends_then c.push_eight_byte_number-6.ensures
    (appends_then c.push_eight_byte_number-7.ensures c.push_eight_byte_number-8.ensures)))))))
