use Rattle.std.proofs.Common.{◌≡◌, length, map, sym}
use Rattle.std.specs.List.{flat_map}
use Rattle.std.proofs.lemmas.List.{length-map}
use Rattle.std.proofs.lemmas.List.Folds.{flat_map-map}
use Rattle.cell_core_devices.proofs.BlockLemmas.{appends_then}
use Rattle.rcell_pipe_frames.specs.Frames.{map_name_at_place}
use Rattle.rcell_pipe_frames.specs.FrameBytes.{length_and_text_bytes}
use Rattle.rcell_pipe_frames.proofs.table_frame.push_table_frame_head.Goals as goal

pub returns : goal.returns
returns g c =
    let places = c.args.places.now in
    let shelf = c.args.shelf.now in
    let width : length places ≡ length (map (map_name_at_place shelf) places) = sym
    (length-map places (map_name_at_place shelf)) in
    let names : flat_map (λ place. length_and_text_bytes (map_name_at_place shelf place)) places
    ≡ flat_map length_and_text_bytes (map (map_name_at_place shelf) places) = sym
    (flat_map-map length_and_text_bytes (map_name_at_place shelf) places) in
    appends_then (appends_then (appends_then (appends_then (appends_then
    (appends_then c.push.ensures c.push_eight_byte_number.ensures) c.push_eight_byte_number-2.ensures)
    (rw width at c.push_eight_byte_number-3.ensures)) (rw (
      c.one_if_true_else_zero-counts.ensures.value,
      c.one_if_true_else_zero-labels.ensures.value,
    ) at c.push-2.ensures))
    (rw c.bytes.ensures.value at c.push_length_and_text.ensures)) (rw names at c.push_shelf_map_names.ensures)
