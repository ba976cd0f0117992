-- A script that is cut into two runs.
use Rattle.std.proofs.Common.{◌≡◌, ℕ, zero, suc, ◌+◌, List, [], ◌∷◌, ◌++◌, length, map, drop, refl, ap, sym, ◌∙◌}
use Rattle.std.proofs.Common.{subst, arith, length-append}
use Rattle.std.specs.Prelude.{slice_get, All, ◌↔◌}
use Rattle.std.proofs.lemmas.List.{append_cancel_left, drop_at, map-append, length-map}
use Rattle.std.proofs.lemmas.List.Elements.{All-map}
use Rattle.cell_core_devices.specs.Device.{ComingBytes}
use Rattle.cell_core.specs.Grid.{Grid}
use Rattle.cell_core.specs.Shelf.{ShelfValue}
use Rattle.cell_clumps.proofs.LawLemmas.{clump_map_is_unique}
use Rattle.cell_ascii_meaning.specs.GridText.{SourceDenotesMap}
use Rattle.cell_ascii_meaning.specs.Writing.{IsValidNullText}
use Rattle.cell_ascii_law.specs.WrittenLaw.{map_without_labels, IsWritableMap}
use Rattle.rcell.specs.Sources.{Named}
use Rattle.rcell_script.specs.declared.statement.Statement.{Statement}
use Rattle.rcell.specs.Output.{StatementsWriteTextAndLeaveShelf, IsOutputOfStatements}
use Rattle.rcell.specs.runs.Accepted.{ShelfHoldsGrids}
use Rattle.rcell.proofs.runs.AcceptedLemmas.{AllDenote}
use Rattle.rcell.proofs.OutputLemmas.{one_output, StatementsWriteTextAndLeaveShelf-append}
use Rattle.rcell.proofs.OutputLemmas.{script_in_parts_has_same_output}
use Rattle.rcell_law.specs.ReadAgain.{shelf_without_labels, written_grids_from_place, written_grids}
use Rattle.rcell_law.specs.CutScript.{grids_of_second_run, CutScriptGivesSameOutput}
use Rattle.rcell_law.proofs.AlikeLemmas.{labels_change_only_printed_labels}
use Rattle.rcell_law.proofs.AcceptedLemmas.{as_many, grids_have_maps}
use Rattle.rcell_law.proofs.GrownLemmas.{script_new, HasGrown, IsOrdered, executes_grown, executes_to_one}
use Rattle.rcell_law.proofs.WrittenLemmas.{names_written, all_denote}

-- ---- the output of the second part

joined : (shelf between : ShelfValue) (one two : List Statement) (text : List ℕ)
    → StatementsWriteTextAndLeaveShelf shelf one text between →
    (rest : List ℕ) → IsOutputOfStatements between two rest ↔ IsOutputOfStatements shelf (one ++ two) (text ++ rest)
joined shelf between one two text first rest = (
  λ h. (h.0, StatementsWriteTextAndLeaveShelf-append one two shelf between h.0 text rest first h.1),
  λ h.
      let parts = (script_in_parts_has_same_output shelf one two (text ++ rest) h.0).0 h.1 in
      let middle : ShelfValue = parts.0 in
      let here : List ℕ = parts.1.0 in
      let behind : List ℕ = parts.1.1 in
      let same : middle ≡ between = executes_to_one one shelf here text middle between parts.1.2.0 first in
      let front : here ≡ text = one_output clump_map_is_unique shelf one here text (middle, parts.1.2.0)
      (between, first) in
      let all : text ++ rest ≡ text ++ behind = parts.1.2.1.1 ∙ ap (λ (t : List ℕ). t ++ behind) front in
      let back : rest ≡ behind = append_cancel_left text rest behind all in (
        h.0,
        subst (λ (s : ShelfValue). StatementsWriteTextAndLeaveShelf s two rest h.0) same
            (subst (λ (t : List ℕ). StatementsWriteTextAndLeaveShelf middle two t h.0) (sym back) parts.1.2.1.0),
      ),
)

-- ---- the grids of the second run

written_dropped : (shelf : ShelfValue) (null_text : List ℕ) (n place : ℕ) (names : List (List ℕ)) → drop n
    (written_grids_from_place shelf null_text place names) ≡ written_grids_from_place shelf null_text (place + n)
    (drop n names)
written_dropped shelf null_text zero place names = let e : place ≡ place + 0 = omega arith in ap
    (λ (p : ℕ). written_grids_from_place shelf null_text p names) e
written_dropped shelf null_text (suc n) place [] = refl
written_dropped shelf null_text (suc n) place (name ∷ names) =
    let e : suc place + n ≡ place + suc n = omega arith in
    written_dropped shelf null_text n (suc place) names ∙ ap
    (λ (p : ℕ). written_grids_from_place shelf null_text p (drop n names)) e

bare_denotes : (c : ComingBytes) (m : Grid) → SourceDenotesMap c m → SourceDenotesMap c (map_without_labels m)
bare_denotes c m h = record {
  said = h.said;
  ends = h.ends;
  limits = h.limits;
  header = h.header;
  cells = record { count = h.cells.count; shape = h.cells.shape; each = h.cells.each };
  region = h.region;
  labels = refl;
}

all_denote_bare : (grids : List Named) (maps : List Grid) → AllDenote grids maps → AllDenote grids
    (map map_without_labels maps)
all_denote_bare [] [] h = tt
all_denote_bare (g ∷ grids) (m ∷ maps) h = (bare_denotes g.1 m h.0, all_denote_bare grids maps h.1)
all_denote_bare _ _ h = absurd h

all_denote_both : (grids others : List Named) (maps more : List Grid) → AllDenote grids maps → AllDenote others more
    → AllDenote (grids ++ others) (maps ++ more)
all_denote_both [] others [] more h k = k
all_denote_both (g ∷ grids) others (m ∷ maps) more h k = (h.0, all_denote_both grids others maps more h.1 k)
all_denote_both _ others _ more h k = absurd h

behind_there : (front back : List Grid) (i : ℕ) → slice_get (front ++ back) (length front + i) ≡ slice_get back i
behind_there [] back i = let e : 0 + i ≡ i = omega arith in ap (slice_get back) e
behind_there (m ∷ front) back i =
    let e : suc (length front) + i ≡ suc (length front + i) = omega arith in
    ap (slice_get (m ∷ front ++ back)) e ∙ behind_there front back i

module _ (grids : List Named) (shelf between : ShelfValue) (null_text : List ℕ) (are : ShelfHoldsGrids grids shelf)
    (can : IsValidNullText null_text) (grown : HasGrown shelf.region shelf between)
    (writable : All (IsWritableMap null_text) (drop (length grids) between.maps)) where
  many : length grids ≡ length shelf.maps
  many = as_many grids shelf.maps are.denote

  many_names : length grids ≡ length shelf.names
  many_names = sym (ap length are.names ∙ length-map grids (λ g. g.0))

  -- after the names of the grids are dropped, the names that statements added remain
  names_left : drop (length grids) between.names ≡ grown.names
  names_left = ap (drop (length grids)) grown.names_are ∙ drop_at shelf.names grown.names (length grids)
      (sym many_names)

  maps_left : drop (length grids) between.maps ≡ grown.maps
  maps_left = ap (drop (length grids)) grown.maps_are ∙ drop_at shelf.maps grown.maps (length grids) (sym many)

  made_is : drop (length grids) (written_grids null_text between) ≡ written_grids_from_place between null_text
      (length grids) grown.names
  made_is =
      let e : 0 + length grids ≡ length grids = omega arith in
      written_dropped between null_text (length grids) 0 between.names
      ∙ (λ i. written_grids_from_place between null_text (e i) (names_left i))

  as_many_made : length grown.names ≡ length grown.maps
  as_many_made =
      let named = grown.ordered.named in
      let names = ap length grown.names_are ∙ length-append shelf.names grown.names in
      let maps = ap length grown.maps_are ∙ length-append shelf.maps grown.maps in
      let a = many in
      let b = many_names in
      omega (arith, named, names, maps, a, b)

  made_there : (i : ℕ) → slice_get between.maps (length grids + i) ≡ slice_get grown.maps i
  made_there i =
      ap (λ (ms : List Grid). slice_get ms (length grids + i)) grown.maps_are
      ∙ ap (λ (n : ℕ). slice_get (shelf.maps ++ grown.maps) (n + i)) many ∙ behind_there shelf.maps grown.maps i

  made_denote : AllDenote (written_grids_from_place between null_text (length grids) grown.names)
      (map map_without_labels grown.maps)
  made_denote = all_denote null_text can between (length grids) grown.names grown.maps as_many_made made_there
      (subst (All (IsWritableMap null_text)) maps_left writable)

  second_denote : AllDenote (grids_of_second_run null_text grids between) (map map_without_labels between.maps)
  second_denote =
      let maps : map map_without_labels between.maps ≡ map map_without_labels shelf.maps
      ++ map map_without_labels grown.maps = ap
      (map map_without_labels) grown.maps_are ∙ map-append map_without_labels shelf.maps grown.maps in
      let both = all_denote_both grids (written_grids_from_place between null_text (length grids) grown.names)
      (map map_without_labels shelf.maps) (map map_without_labels grown.maps)
      (all_denote_bare grids shelf.maps are.denote) made_denote in
      subst (λ (gs : List Named). AllDenote (grids ++ gs) (map map_without_labels between.maps)) (sym made_is)
      (subst (AllDenote (grids ++ written_grids_from_place between null_text (length grids) grown.names))
      (sym maps) both)

  second_names : between.names ≡ map (λ g. g.0) (grids_of_second_run null_text grids between)
  second_names =
      let back : map (λ g. g.0) (grids_of_second_run null_text grids between) ≡ map (λ g. g.0) grids ++ map (λ g. g.0)
      (drop (length grids) (written_grids null_text between)) = map-append (λ g. g.0) grids
      (drop (length grids) (written_grids null_text between)) in
      grown.names_are
      ∙ (λ i. are.names i ++ names_written between null_text (length grids) grown.names i)
      ∙ ap (λ (gs : List Named). map (λ g. g.0) grids ++ map (λ g. g.0) gs) (sym made_is)
      ∙ sym back

  second_are : ShelfHoldsGrids (grids_of_second_run null_text grids between) (shelf_without_labels between)
  second_are = record {
    some = (let some = are.some in let long = length-append grids
        (drop (length grids) (written_grids null_text between)) in omega (arith, some, long));
    denote = second_denote;
    names = second_names;
    distinct = grown.ordered.distinct;
    one_region = All-map (λ (m : Grid). m.region ≡ between.region) map_without_labels between.maps
        (subst (λ e. All (λ (m : Grid). m.region ≡ e) between.maps)
        (sym grown.ordered.region_is) grown.ordered.one_region);
  }

pub cut_script_gives_same_output : CutScriptGivesSameOutput
cut_script_gives_same_output grids first second shelf between one two null_text text accepted executed can writable
    ends short is none =
    let are = accepted.loaded in
    let ordered : IsOrdered shelf.region shelf = record {
      region_is = refl;
      named = (grids_have_maps grids shelf are).named;
      distinct = are.distinct;
      one_region = are.one_region;
    } in
    let grown = executes_grown one shelf.region shelf ordered
    (script_new shelf.names first.bytes one accepted.denoted) text between executed in
    let labels = labels_change_only_printed_labels between two none in
    let whole = joined shelf between one two text executed in (
      record {
        loaded = second_are grids shelf between null_text are can grown writable;
        ends = ends;
        short = short;
        denoted = is;
      },
      λ rest. (λ h. (whole rest).0 ((labels rest).1 h), λ h. (labels rest).0 ((whole rest).1 h)),
    )
