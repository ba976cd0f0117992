-- The meaning of a plan request's bytes: distinct names of maps, and the bytes of a script (profile).
use Rattle.std.specs.Prelude.{ℕ, nat_le, List, [], ◌∷◌, ◌++◌, length, Ok, Err, if◌then◌else◌}
use Rattle.std.specs.Option.{is_none}
use Rattle.std.specs.Int.{w32}
use Rattle.cell_core_devices.specs.Device.{ComingBytes}
use Rattle.cell_core_values.specs.Answers.{◌>>=◌}
use Rattle.cell_core_values.specs.Name.{place_of_name}
use Rattle.rcell_pipe_request.specs.declared.error.ErrorKind.TheVariants as kinds
use Rattle.rcell_pipe_request.specs.RequestFields.{RequestFieldReading, PositionedReading, result_with_error_position}
use Rattle.rcell_pipe_request.specs.RequestFields.{unsigned_number_reading, reading_repeated_n_times}
use Rattle.rcell_pipe_request.specs.Heads.{map_name_reading}
use Rattle.rcell_pipe_request.specs.Requests.{script_to_request_end_reading}
use Rattle.rcell_plan_response.specs.declared.plan_request.PlanRequest.{PlanRequest}

-- the number of names
unfoldable pub name_count_reading : ComingBytes → RequestFieldReading ℕ
name_count_reading c = do
  count ← unsigned_number_reading w32 c
  if nat_le count.0 65535 then Ok count else Err kinds.BadCount

-- a name that differs from all previous names
unfoldable pub distinct_name_reading : List (List ℕ) → ComingBytes → RequestFieldReading (List ℕ)
distinct_name_reading names c = do
  name ← map_name_reading c
  if is_none (place_of_name name.0 names) then Ok name else Err kinds.NameTwice

-- the names so far, and one more
unfoldable pub names_with_next_name_reading : List (List ℕ) → ComingBytes → PositionedReading (List (List ℕ))
names_with_next_name_reading names c = do
  name ← result_with_error_position (length names) 0 (distinct_name_reading names c)
  Ok (names ++ name.0 ∷ [], name.1)

pub record PlanRequestValue : Type 0 where
  pub names : List (List ℕ)
  pub script : List ℕ

unfoldable pub plan_request_reading : ComingBytes → PositionedReading PlanRequestValue
plan_request_reading c = do
  count ← result_with_error_position 0 0 (name_count_reading c)
  names ← reading_repeated_n_times names_with_next_name_reading [] count.0 count.1
  script ← result_with_error_position count.0 0 (script_to_request_end_reading names.1)
  Ok (record { names = names.0; script = script.0 }, script.1)

-- the request as a value
abbrev pub plan_request_as_value : PlanRequest → PlanRequestValue
plan_request_as_value request = record { names = request.names; script = request.script.items }
