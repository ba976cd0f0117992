use Rattle.std.proofs.Common.{sym, append-nil}
use Rattle.cell_core_devices.proofs.BlockLemmas.{appends_then}
use Rattle.rcell_pipe_frames.specs.FrameBytes.{length_and_text_bytes}
use Rattle.rcell_plan_response.specs.MapNames.{name_of_map_at_place}
use Rattle.rcell_plan_response.proofs.plan_options.push_count_one_and_map_name.Goals as goal

pub returns : goal.returns
returns g c =
    let text = length_and_text_bytes (name_of_map_at_place c.args.names.now c.args.place) in
    appends_then c.push_eight_byte_number.ensures (rw (
      c.name_of_map_at_place.ensures,
      sym
          (append-nil text),
    ) at c.push_length_and_text.ensures)
