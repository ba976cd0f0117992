-- A request is read as its caller meant it.
use Rattle.std.specs.Prelude.{ℕ, ◌≡◌, ◌≤◌, ◌<◌, ◌^◌, false, List, [], ◌++◌, length, map, All, Ok}
use Rattle.std.specs.Int.{w32}
use Rattle.cell_core_devices.specs.Device.{ComingBytes}
use Rattle.cell_core_values.specs.Name.{AreDistinctNames}
use Rattle.rcell_pipe_request.specs.RequestFields.{bytes_reading}
use Rattle.rcell_pipe_request.specs.Requests.{RunRequestValue, run_request_reading}
use Rattle.rcell_tile.specs.TileRuns.{shelves_of_full_maps}
use Rattle.rcell_pipe_law.specs.SentBytes.{bytes_of_sent_maps, region_bytes, text_with_length_bytes}
use Rattle.rcell_pipe_law.specs.SentMaps.{IsSendableMap, IsSendableRegion, SentMap, SentRegion}
use Rattle.rcell_pipe_law.specs.SentMaps.{shelf_of_sent_maps}
use Rattle.rcell_pipe_law.specs.SentQuestions.{IsSendableQuestion, SentQuestion, questions_with_numbers}
use Rattle.rcell_pipe_law.specs.SentQuestions.{questions_bytes}

-- a region, maps, a script, and questions
pub record SentRequest : Type 0 where
  pub region : SentRegion
  pub maps : List SentMap
  pub script : List ℕ
  pub questions : List SentQuestion

-- 1 to 65535 maps with distinct names, and a script of at most 1048576 bytes
pub record IsSendableRequest (r : SentRequest) : Type 0 where
  pub region : IsSendableRegion r.region
  pub maps : All (IsSendableMap r.region.region) r.maps
  pub distinct : AreDistinctNames (map (λ m. m.name) r.maps)
  pub some : 1 ≤ length r.maps
  pub few : length r.maps ≤ 65535
  pub short : length r.script ≤ 1048576
  pub questions : All IsSendableQuestion r.questions
  pub count : length r.questions < 2 ^ 32

-- the bytes of the region, then the maps, then the script, then the questions
abbrev pub request_bytes : SentRequest → List ℕ
request_bytes r = region_bytes r.region ++ (bytes_of_sent_maps r.maps ++ (text_with_length_bytes w32 r.script
    ++ questions_bytes r.questions))

-- the maps, the script and the questions that the bytes denote
abbrev pub meaning_of_sent_request : SentRequest → RunRequestValue
meaning_of_sent_request r = record {
  shelves = shelves_of_full_maps (shelf_of_sent_maps r.region.region r.maps);
  script = r.script;
  questions = questions_with_numbers 0 r.questions;
}

-- a source that returns these bytes and then ends
abbrev pub source_of_bytes : List ℕ → ComingBytes
source_of_bytes bytes = record { bytes = bytes; fails = false }

-- the first eight bytes, which name the format, are read first; the rest is read as `run`, to the end
pub record IsRequestReadBack (magic request : List ℕ) (run : RunRequestValue) : Type 0 where
  pub form : bytes_reading 8 (source_of_bytes (magic ++ request)) ≡ Ok (magic, source_of_bytes request)
  pub rest : run_request_reading (source_of_bytes request) ≡ Ok (run, source_of_bytes [])

-- a request written for maps, a script and questions is read as exactly these
abbrev pub SentRequestsAreRead : Type 0
SentRequestsAreRead = (magic : List ℕ) (r : SentRequest) → length magic ≡ 8 → IsSendableRequest r
    → IsRequestReadBack magic (request_bytes r) (meaning_of_sent_request r)
