-- A map that is sent as the text of a grid (profile).
use Rattle.std.specs.Prelude.{ℕ, false, Result, Ok, Err, if◌then◌else◌}
use Rattle.std.specs.Int.{w64}
use Rattle.cell_core_devices.specs.Device.{ComingBytes}
use Rattle.cell_core_values.specs.Answers.{◌>>=◌}
use Rattle.cell_core_values.specs.Region.{RegionValue}
use Rattle.cell_core_values.specs.SameRegion.{is_same_region}
use Rattle.cell_core.specs.Grid.{Grid}
use Rattle.cell_ascii_meaning.specs.CellTexts.{map_denoted_by_text}
use Rattle.cell_ascii_meaning.specs.declared.grid_fault.GridFault.{GridFault}
use Rattle.rcell_pipe_request.specs.declared.error.ErrorKind.TheVariants as kinds
use Rattle.rcell_pipe_request.specs.RequestFields.{PositionedReading, result_with_error_position, sized_text_reading}

-- the map if it has this region; otherwise an error, with the line of an error in the text
abbrev pub text_map_or_error : RegionValue → ℕ → ComingBytes → Result Grid GridFault → PositionedReading Grid
text_map_or_error region maps rest (Ok map) =
    if is_same_region map.region region then Ok (map, rest)
    else Err (record { kind = kinds.OtherRegion; maps = maps; row = 0 })
text_map_or_error region maps rest (Err fault) =
    Err (record { kind = kinds.Grid fault.kind; maps = maps; row = fault.line })

-- the length of a text, the text, and the map that it denotes, which must have this region
unfoldable pub text_map_reading : RegionValue → ℕ → ComingBytes → PositionedReading Grid
text_map_reading region maps c = do
  text ← result_with_error_position maps 0 (sized_text_reading w64 c)
  text_map_or_error region maps text.1 (map_denoted_by_text (record { bytes = text.0; fails = false }))
