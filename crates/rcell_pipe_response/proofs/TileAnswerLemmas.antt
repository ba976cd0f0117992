-- An accepted question about a tile has the measures in the full map.
use Rattle.std.proofs.Common.{◌≡◌, ℕ, zero, suc, ◌<◌, ◌≤◌, Bool, true, false, List, [], ◌∷◌, length, replicate}
use Rattle.std.proofs.Common.{Option, Some, None, refl, ap, sym, ◌∙◌, subst, arith}
use Rattle.std.specs.Prelude.{◌&&◌, slice_get, if◌then◌else◌}
use Rattle.std.proofs.lemmas.Bool.{ltb-false}
use Rattle.std.proofs.lemmas.List.{length-replicate}
use Rattle.cell_core_values.specs.Name.{place_of_name}
use Rattle.cell_core.specs.Grid.{Grid}
use Rattle.cell_core.specs.Shelf.{ShelfValue}
use Rattle.cell_clumps.specs.Clumps.{IsClumpMapOf}
use Rattle.rcell.proofs.OutputLemmas.{names_after}
use Rattle.rcell_script.specs.declared.statement.Statement.{Statement}
use Rattle.rcell_plan.specs.NeedsLaw.{IsShelfAfterStatements}
use Rattle.rcell_tile.specs.declared.halo_margins.HaloMargin.{HaloMargin}
use Rattle.rcell_tile.specs.ClumpDependence.{map_depends_on_clump, clump_dependence_after_statements}
use Rattle.rcell_tile.specs.HaloMargins.{depth_exceeds_margin, exceeds_limit, halo_margin, margin_of_map_at_place}
use Rattle.rcell_tile.specs.HaloMargins.{margins_of_maps}
use Rattle.rcell_tile.specs.TilePlaces.{TilePlaceValue}
use Rattle.rcell_tile.specs.TileRunLaw.{shelves_at_place}
use Rattle.rcell_tile.specs.TileRuns.{RunShelvesValue, AreShelvesAfterStatements}
use Rattle.rcell_tile.proofs.AgreeLemmas.{MapsAgreeInTile}
use Rattle.rcell_tile.proofs.ClumpMarginLemmas.{ClumpsHaveNoMargin, clumps-have-no-margin, given-maps-depend-on-none}
use Rattle.rcell_tile.proofs.TileRunLemmas.{given-count, maps-agree-after-run}
use Rattle.rcell_pipe_request.specs.Questions.{PatchQuestionValue}
use Rattle.rcell_pipe_response.specs.declared.frame_run.ResponseForm.TheVariants.{Frames}
use Rattle.rcell_pipe_response.specs.declared.question_error.QuestionErrorKind.TheVariants.{UnknownMap, HaloTooSmall}
use Rattle.rcell_pipe_response.specs.QuestionFrames.{names_of_all_maps, question_error_kind_if_rejected}
use Rattle.rcell_pipe_response.specs.QuestionFrames.{first_question_error, question_has_unknown_map}
use Rattle.rcell_pipe_response.specs.QuestionFrames.{question_lacks_halo, map_lacks_halo, PatchMeasuresValue}
use Rattle.rcell_pipe_response.specs.QuestionFrames.{ArePatchMeasuresIfWanted, AreMeasuresWithHalo}
use Rattle.rcell_pipe_response.specs.TileQuestionLaw.{TileQuestionsHaveFullMapMeasures}
use Rattle.rcell_pipe_response.proofs.ExecutionLemmas.{outer_names_after}
use Rattle.rcell_pipe_response.proofs.QuestionLemmas.{none_of_both}
use Rattle.rcell_pipe_response.proofs.TileMeasureLemmas.{IsDepthWithinMargin, depth-within, in-full-map}
use Rattle.rcell_pipe_response.proofs.TileQuestionLemmas.{is-part}

-- ---- names

full-names : (shelf after : ShelfValue) (statements : List Statement) → IsShelfAfterStatements shelf statements after
    → after.names ≡ names_of_all_maps shelf.names statements
full-names shelf after [] x = ap (λ (s : ShelfValue). s.names) (sym x)
full-names shelf after (s ∷ ss) x =
    full-names x.0 after ss x.1.1
    ∙ ap (λ (names : List (List ℕ)). names_of_all_maps names ss) (names_after shelf s.command x.0 x.1.0)

tile-names : (shelves after : RunShelvesValue) (statements : List Statement)
    → AreShelvesAfterStatements shelves statements after
    → after.outer.names ≡ names_of_all_maps shelves.outer.names statements
tile-names shelves after [] x = ap (λ (s : RunShelvesValue). s.outer.names) (sym x)
tile-names shelves after (s ∷ ss) x =
    tile-names x.0 after ss x.1.1
    ∙ ap (λ (names : List (List ℕ)). names_of_all_maps names ss) (outer_names_after shelves s.command x.0 x.1.0)

-- ---- an accepted question

module _ (names : List (List ℕ)) (margins : List HaloMargin) where
  accepted-at : (questions : List PatchQuestionValue) (k : ℕ) (question : PatchQuestionValue)
      → first_question_error Frames names (Some margins) questions ≡ None → slice_get questions k ≡ Some question
      → question_error_kind_if_rejected Frames names (Some margins) question ≡ None
  unfolding first_question_error
  accepted-at [] k question none at = absurd (cc at)
  accepted-at (q ∷ qs) zero question none at =
      let same : q ≡ question = cc at in
      subst (λ (x : PatchQuestionValue). question_error_kind_if_rejected Frames names (Some margins) x ≡ None) same
      (none_of_both q.number (question_error_kind_if_rejected Frames names (Some margins) q)
      (first_question_error Frames names (Some margins) qs) none).0
  accepted-at (q ∷ qs) (suc k) question none at =
      accepted-at qs k question (none_of_both q.number (question_error_kind_if_rejected Frames names (Some margins) q)
      (first_question_error Frames names (Some margins) qs) none).1 at

  lacks-nothing : (unknown lacks : Bool)
      → (if unknown then Some UnknownMap else (if lacks then Some HaloTooSmall else None)) ≡ None → lacks ≡ false
  lacks-nothing true lacks h = absurd (cc h)
  lacks-nothing false true h = absurd (cc h)
  lacks-nothing false false h = refl

  -- the margin of the map of a question that wants measures contains its depth
  has-halo : (question : PatchQuestionValue) (place : ℕ)
      → question_error_kind_if_rejected Frames names (Some margins) question ≡ None → question.wanted.patches ≡ true
      → place_of_name question.map names ≡ Some place → depth_exceeds_margin margins place question.depth ≡ false
  has-halo question place none wanted named =
      let lacks = lacks-nothing (question_has_unknown_map names question)
      (question_lacks_halo names (Some margins) question) none in
      let of_map : map_lacks_halo margins (place_of_name question.map names) question.depth ≡ false =
      sym (ap (λ (b : Bool). b && map_lacks_halo margins (place_of_name question.map names) question.depth) wanted)
      ∙ lacks in
      sym (ap (λ (o : Option ℕ). map_lacks_halo margins o question.depth) named) ∙ of_map

-- measures that are given were wanted
given-measures : (wanted : Bool) (shelves : RunShelvesValue) (question : PatchQuestionValue) (map numbers : Grid)
    (found : Option PatchMeasuresValue) (measures : PatchMeasuresValue) → found ≡ Some measures
    → ArePatchMeasuresIfWanted wanted shelves question map numbers found
    → (wanted ≡ true)
    × AreMeasuresWithHalo shelves.place shelves.outer question.map map numbers question.depth measures.patches
given-measures false shelves question map numbers found measures is are =
    absurd (let no : None ≡ Some measures = sym are ∙ is in cc)
given-measures true shelves question map numbers found measures is are = (
  refl,
  (subst (ArePatchMeasuresIfWanted true shelves question map numbers) is are).0,
)

-- a map whose margin contains a depth does not depend on an r.clump
depends-on-none : (clumps : List Bool) (known : List HaloMargin) (place depth : ℕ) → ClumpsHaveNoMargin clumps known
    → 0 < depth → IsDepthWithinMargin (margin_of_map_at_place known place) depth
    → map_depends_on_clump clumps place ≡ false
depends-on-none clumps known place depth h some within = by (map_depends_on_clump clumps place) refl
  where
    by : (b : Bool) → map_depends_on_clump clumps place ≡ b → b ≡ false
    by false e = refl
    by true e =
        let least : depth ≤ 0 = ltb-false 0 depth
        (sym (ap (λ (o : Option ℕ). exceeds_limit o depth) (h.none place e)) ∙ within.up) in
        absurd (let no : ⊥ = omega (arith, least, some) in no)

-- ---- the law

pub tile-questions : TileQuestionsHaveFullMapMeasures
tile-questions full after statements run questions full_run is named accepted k question at some frames answer measures
    given whole on =
    let p = run.place in
    let outer = run.after.outer in
    let count = length run.given.maps in
    let known = margins_of_maps p count statements in
    let clumps = clump_dependence_after_statements (replicate (length full.maps) false) statements in
    let ran = maps-agree-after-run full after statements run full_run is in
    let shelves = ran.shelves in
    -- the names
    let names = names_of_all_maps run.given.names statements in
    let of_tile : outer.names ≡ names =
    tile-names (shelves_at_place p run.given) run.after statements is.executed in
    let of_full : after.names ≡ names =
    full-names full after statements full_run ∙ ap (λ (n : List (List ℕ)). names_of_all_maps n statements)
    (sym named.same) in
    -- the map with the halo
    let found = given-measures question.wanted.patches run.after question answer.map answer.numbers answer.measures
    measures given answer.measured in
    let tile = subst (λ (o : Option TilePlaceValue). AreMeasuresWithHalo o outer question.map answer.map answer.numbers
    question.depth measures.patches) ran.place found.1 in
    let wide = tile.0 in
    let place = on.place in
    let here : place_of_name question.map names ≡ Some place =
    ap (place_of_name question.map) (sym of_full) ∙ on.named in
    let there : place_of_name question.map names ≡ Some tile.1.0.place =
    ap (place_of_name question.map) (sym of_tile) ∙ tile.1.0.named in
    let same : tile.1.0.place ≡ place = cc (here, there) in
    let wide_is : slice_get outer.maps place ≡ Some wide = ap (slice_get outer.maps) (sym same) ∙ tile.1.0.at in
    -- its margin
    let enough : depth_exceeds_margin known place question.depth ≡ false =
    ap (λ (n : ℕ). depth_exceeds_margin (margins_of_maps p n statements) place question.depth) (sym named.each)
    ∙ has-halo names (margins_of_maps p (length run.given.names) statements) question place
    (accepted-at names (margins_of_maps p (length run.given.names) statements) questions k question accepted at) found.0
    here in
    let within = depth-within (margin_of_map_at_place known place) question.depth enough in
    let none = clumps-have-no-margin (halo_margin p) (replicate (length full.maps) false)
    (replicate count (halo_margin p)) statements (given-maps-depend-on-none (length full.maps)
    (replicate count (halo_margin p)) (given-count p full run.given is.tile
    ∙ sym (length-replicate count (halo_margin p)))) in
    let plain = depends-on-none clumps known place question.depth none some within in
    let agree : MapsAgreeInTile p outer.region after.region (margin_of_map_at_place known place) (Some wide)
    (Some whole) =
    subst (λ (o : Option Grid). MapsAgreeInTile p outer.region after.region (margin_of_map_at_place known place)
    (Some wide) o) on.at
    (subst (λ (o : Option Grid). MapsAgreeInTile p outer.region after.region (margin_of_map_at_place known place) o
    (slice_get after.maps place)) wide_is (shelves.maps place plain)) in
    -- its patches
    let clumping = subst (λ (m : Grid). IsClumpMapOf question.joining m answer.numbers)
    (is-part p run.after.place ran.place outer question.map answer.map wide answer.named tile.1.0) answer.clumping in
    in-full-map p shelves.valid outer.region after.region shelves.outer_rows shelves.outer_cols shelves.full_rows
    shelves.full_cols (margin_of_map_at_place known place) wide whole agree question.depth within question.joining
    answer.numbers clumping some measures.patches tile.1.1
