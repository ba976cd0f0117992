-- A request is read back from its bytes.
use Rattle.std.proofs.Common.{◌≡◌, ◌≢◌, ℕ, suc, ◌+◌, ◌≤◌, true, List, [], ◌∷◌, ◌++◌}
use Rattle.std.proofs.Common.{length, None, Ok, refl, ap, sym, ◌∙◌, subst, arith, append_assoc}
use Rattle.std.proofs.Common.{append-nil, get_or, length-append}
use Rattle.std.specs.Prelude.{◌&&◌, nat_le, flat_map, map, All, bytes_eq}
use Rattle.std.specs.Int.{w32, to_le_bytes}
use Rattle.std.specs.List.{position_from}
use Rattle.std.specs.Option.{is_none}
use Rattle.std.proofs.lemmas.Bool.Decides.{nat_tests}
use Rattle.cell_core_devices.specs.Device.{ComingBytes}
use Rattle.cell_core_values.specs.Name.{AreDistinctNames, place_of_name}
use Rattle.cell_core_values.specs.Region.{RegionValue}
use Rattle.cell_core_values.proofs.NameLemmas.{bytes_eq-differ}
use Rattle.cell_core.specs.Shelf.{ShelfValue}
use Rattle.cell_ascii_law.specs.GridLaw.{ReadingReturnsDenotedMap}
use Rattle.rcell_pipe_request.specs.Feeds.{after}
use Rattle.rcell_pipe_request.specs.RequestFields.{reading_repeated_n_times}
use Rattle.rcell_pipe_request.specs.Requests.{empty_shelf, map_count_reading, next_map_reading, maps_reading}
use Rattle.rcell_pipe_request.specs.Requests.{run_over_shelves_reading, run_request_reading, script_bytes_reading}
use Rattle.rcell_pipe_request.proofs.FeedLemmas.{bytes_reading-all}
use Rattle.rcell_pipe_law.specs.RequestLaw.{IsSendableRequest, SentRequest, SentRequestsAreRead}
use Rattle.rcell_pipe_law.specs.RequestLaw.{meaning_of_sent_request, request_bytes}
use Rattle.rcell_pipe_law.specs.RequestLaw.{source_of_bytes}
use Rattle.rcell_pipe_law.specs.SentQuestions.{questions_bytes}
use Rattle.rcell_pipe_law.proofs.SentQuestionLemmas.{last_questions_read}
use Rattle.rcell_pipe_law.specs.SentBytes.{bytes_of_sent_map, bytes_of_sent_maps, region_bytes}
use Rattle.rcell_pipe_law.specs.SentBytes.{text_with_length_bytes}
use Rattle.rcell_pipe_law.specs.SentMaps.{IsSendableMap, SentMap, grid_of_sent_map, shelf_of_sent_maps}
use Rattle.rcell_pipe_law.proofs.SentFieldLemmas.{after-append}
use Rattle.rcell_pipe_law.proofs.SentMapLemmas.{head_of, map_reads, region_reads, tail_of}
use Rattle.rcell_pipe_law.proofs.SentNumberLemmas.{reads_32}

name_at : (front : List (List ℕ)) (name : List ℕ) (back : List (List ℕ)) (d : List ℕ)
    → get_or (front ++ name ∷ back) (length front) d ≡ name
name_at [] name back d = refl
name_at (x ∷ front) name back d = name_at front name back d

free_from : (start : ℕ) (front : List (List ℕ)) (name : List ℕ) (back : List (List ℕ))
    → AreDistinctNames (front ++ name ∷ back)
    → position_from (λ n. bytes_eq n name) start front ≡ None
free_from start [] name back distinct = refl
free_from start (x ∷ xs) name back distinct =
    let apart : x ≢ name = λ e. distinct 0 (suc (length xs)) name (omega arith) (omega (
      arith,
      length-append xs (name ∷ back),
    ))
    (e ∙ sym (name_at xs name back name)) in
    rw (bytes_eq-differ x name apart) (free_from (start + 1) xs name back (λ i j d lt within. distinct (suc i) (suc
    j) d (omega arith) (omega arith)))

-- a name that comes later in a list of distinct names is new
new_name : (names : List (List ℕ)) (name : List ℕ) (back : List (List ℕ)) → AreDistinctNames (names ++ name ∷ back)
    → is_none (place_of_name name names) ≡ true
new_name names name back distinct = ap is_none (free_from 0 names name back distinct)

-- the shelf, with further maps
abbrev with_maps : ShelfValue → List SentMap → ShelfValue
with_maps shelf ms = record {
  region = shelf.region;
  names = shelf.names ++ map (λ m. m.name) ms;
  maps = shelf.maps ++ map (grid_of_sent_map shelf.region) ms;
}

more_maps : (shelf : ShelfValue) (ms : List SentMap) (rest : ComingBytes) → ReadingReturnsDenotedMap
    → All (IsSendableMap shelf.region) ms
    → AreDistinctNames (shelf.names ++ map (λ m. m.name) ms)
    → reading_repeated_n_times next_map_reading shelf (length ms) (after (flat_map bytes_of_sent_map ms) rest)
    ≡ Ok (with_maps shelf ms, rest)
unfolding reading_repeated_n_times next_map_reading
more_maps shelf [] rest law good distinct =
    λ i. Ok (
      record {
        region = shelf.region;
        names = sym (append-nil shelf.names) i;
        maps = sym (append-nil
            shelf.maps) i;
      },
      rest,
    )
more_maps shelf (m ∷ ms) rest law good distinct =
    let names = map (λ m. m.name) ms in
    let grid = grid_of_sent_map shelf.region in
    let next : ShelfValue = record {
      region = shelf.region;
      names = shelf.names ++ m.name ∷ [];
      maps = shelf.maps ++ grid m ∷ [];
    } in
    let others : AreDistinctNames (next.names ++ names) = subst AreDistinctNames
    (sym (append_assoc shelf.names (m.name ∷ []) names)) distinct in
    rw (
      after-append (bytes_of_sent_map m) (flat_map bytes_of_sent_map ms) rest,
      map_reads shelf m (after (flat_map bytes_of_sent_map ms) rest) law
          (head_of (IsSendableMap shelf.region) m ms good) (new_name shelf.names m.name names distinct),
    )
    (more_maps next ms rest law (tail_of (IsSendableMap shelf.region) m ms good) others
    ∙ (λ i. Ok (
      record {
        region = shelf.region;
        names = append_assoc shelf.names (m.name ∷ []) names i;
        maps = append_assoc shelf.maps (grid m ∷ []) (map grid ms) i;
      },
      rest,
    )))

counted : (n : ℕ) → 1 ≤ n → n ≤ 65535 → (nat_le 1 n && nat_le n 65535) ≡ true
counted n some few = grind (arith, nat_tests)

count_reads : (n : ℕ) (rest : ComingBytes) → 1 ≤ n → n ≤ 65535
    → map_count_reading (after (to_le_bytes w32 n) rest) ≡ Ok (n, rest)
unfolding map_count_reading
count_reads n rest some few = rw (reads_32 n rest (omega (arith, few)), counted n some few) refl

sized_script : (n : ℕ) → n ≤ 1048576 → nat_le n 1048576 ≡ true
sized_script n short = grind (arith, nat_tests)

script_reads : (script : List ℕ) (rest : ComingBytes) → length script ≤ 1048576
    → script_bytes_reading (after (text_with_length_bytes w32 script) rest) ≡ Ok (script, rest)
unfolding script_bytes_reading
script_reads script rest short =
    rw (
      after-append (to_le_bytes w32 (length script)) script rest,
      reads_32 (length script) (after script rest) (omega (arith, short)),
      sized_script (length script) short,
    )
    (bytes_reading-all (length script) script (after script rest) rest refl refl)

maps_read : (region : RegionValue) (ms : List SentMap) (rest : ComingBytes) → ReadingReturnsDenotedMap
    → All (IsSendableMap region) ms
    → AreDistinctNames (map (λ m. m.name) ms) → 1 ≤ length ms → length ms ≤ 65535
    → maps_reading region (after (bytes_of_sent_maps ms) rest) ≡ Ok (shelf_of_sent_maps region ms, rest)
unfolding maps_reading
maps_read region ms rest law good distinct some few = rw (
  after-append (to_le_bytes w32 (length ms)) (flat_map bytes_of_sent_map ms) rest,
  count_reads (length ms) (after (flat_map bytes_of_sent_map ms) rest) some few,
  more_maps (empty_shelf region) ms rest law good distinct,
) refl

-- the parts of a request follow one another
parts : (region maps script questions : List ℕ) (rest : ComingBytes)
    → after (region ++ (maps ++ (script ++ questions))) rest
    ≡ after region (after maps (after script (after questions rest)))
parts region maps script questions rest =
    after-append region (maps ++ (script ++ questions)) rest
    ∙ ap (after region) (after-append maps (script ++ questions) rest
    ∙ ap (after maps) (after-append script questions rest))

parts_read : (r : SentRequest) → ReadingReturnsDenotedMap → IsSendableRequest r
    → run_request_reading (after (region_bytes r.region) (after (bytes_of_sent_maps r.maps)
    (after (text_with_length_bytes w32 r.script) (after (questions_bytes r.questions) (source_of_bytes [])))))
    ≡ Ok (meaning_of_sent_request r, source_of_bytes [])
unfolding run_request_reading run_over_shelves_reading
parts_read r law is =
    let asked = after (questions_bytes r.questions) (source_of_bytes []) in
    let next = after (text_with_length_bytes w32 r.script) asked in
    let shelf = shelf_of_sent_maps r.region.region r.maps in
    rw (
      region_reads r.region (after (bytes_of_sent_maps r.maps) next) is.region,
      maps_read r.region.region r.maps next law is.maps is.distinct is.some is.few,
      script_reads r.script asked is.short,
      last_questions_read (length shelf.names) r.questions is.questions is.count,
    ) refl

pub sent_are_read : ReadingReturnsDenotedMap → SentRequestsAreRead
sent_are_read law magic r eight is =
    let bytes = request_bytes r in
    record {
      form = bytes_reading-all 8 magic (source_of_bytes (magic ++ bytes)) (source_of_bytes bytes) refl eight;
      rest = ap (λ all. run_request_reading (source_of_bytes all)) (sym (append-nil bytes))
          ∙ ap run_request_reading (parts (region_bytes r.region) (bytes_of_sent_maps r.maps)
          (text_with_length_bytes w32 r.script) (questions_bytes r.questions) (source_of_bytes []))
          ∙ parts_read r law is;
    }
