use Rattle.std.proofs.Common.{rules, refl, zero, suc, ◌+◌, Option, None, ap, sym, arith}
use Rattle.std.proofs.Common.{map, take, length, ℕ, List, get_or, subst, ◌≡◌, ◌≢◌, ◌<◌, ◌≤◌, ◌∙◌, ◌++◌, ◌∷◌, []}
use Rattle.std.proofs.lemmas.List.{length-map, map-append, take_more, take_all}
use Rattle.std.proofs.lemmas.List.Elements.{All-push}
use Rattle.std.proofs.lemmas.Option.{unwrap_or-slice_get}
use Rattle.cell_core_devices.specs.Device.{ComingBytes}
use Rattle.cell_core_devices.specs.Supposed.{SupposedContent}
use Rattle.cell_core_devices.specs.declared.source.Asked.TheVariants.{Going}
use Rattle.clap.specs.Walk.{Text, texts}
use Rattle.rcell_command.specs.Processes.{SourceGivesContentsOfFile}
use Rattle.rcell_command.proofs.ProcessLemmas.{nowhere, opened_as, opened_then, some_more, some_of, zip_push}
use Rattle.rcell_program.specs.Refusals.{IsRefusalOfOpeningFiles, grid_path_at_place}
use Rattle.rcell_program.specs.declared.refusal.Refusal.{Refusal}
use Rattle.rcell_program.specs.declared.refusal.Refusal.TheVariants.{Usage, GridWord, Memory, ScriptFile, GridFile}
use Rattle.rcell_program.proofs.opening.open_grids.Goals as goal

same_default : (paths : List Text) (i : ℕ) (d e : Text) → i < length paths → get_or paths i d ≡ get_or paths i e
same_default [] i d e within = absurd (nowhere i within)
same_default (path ∷ paths) zero d e within = refl
same_default (path ∷ paths) (suc i) d e within = same_default paths i d e (omega arith)

one_more : (paths : List Text) (i : ℕ) (path : Text) → i < length paths → path ≡ get_or paths i path → take i paths ++
    path ∷ [] ≡ take (i + 1) paths
one_more paths i path within is = ap (λ next. take i paths ++ next ∷ []) is ∙ sym (take_more paths i path within)

-- out of memory and the errors of these grids are errors of opening files
of_grid : (files : Text → Option ComingBytes) (script : Text) (paths : List Text) (grid : ℕ) (path : Text) (refusal :
    Refusal) → grid < length paths → path ≡ get_or paths grid path
    → (refusal ≢ Memory → (refusal ≡ GridFile grid) × (files path ≡ None))
    → IsRefusalOfOpeningFiles files script paths refusal
of_grid files script paths grid path Usage within is reported = let p = reported (λ same. cc) in let bad : Usage ≡
    GridFile grid = p.0 in cc
of_grid files script paths grid path (GridWord place) within is reported = let p = reported (λ same. cc) in let bad :
    GridWord place ≡ GridFile grid = p.0 in cc
of_grid files script paths grid path Memory within is reported = tt
of_grid files script paths grid path ScriptFile within is reported = let p = reported (λ same. cc) in let bad :
    ScriptFile ≡ GridFile grid = p.0 in cc
of_grid files script paths grid path (GridFile other) within is reported =
    let p = reported (λ same. cc) in
    let at : grid_path_at_place paths grid ≡ path = unwrap_or-slice_get paths grid [] ∙ same_default paths grid [] path
    within ∙ sym is in
    subst (IsRefusalOfOpeningFiles files script paths) (sym p.0) (within, ap files at ∙ p.1)

below : {grid end n : ℕ} → grid < end → end ≡ n → grid < n
below lower same = omega arith

at_least : {grid end n : ℕ} → end ≤ grid → end ≡ n → n ≤ grid
at_least ended same = omega arith

pub returns-in-Err-clause-some : goal.returns-in-Err-clause-some
returns-in-Err-clause-some g c =
    let words = c.args.request.now.paths.items in
    let path = c.path_of_grid-path.result.now in
    let within = below c.loop-grid-test.true (c.len-grid-end.ensures ∙ c.args.request.now.has_paths ∙
    c.args.request.now.paths.ok.0) in
    let is : path ≡ get_or (texts words) c.loop-grid.grid path = c.path_of_grid-path.ensures path in
    some_more (texts words) c.loop-grid.grid path (below within (sym (length-map _ _))) is c.loop-grid.invariant.opens
    c.in-Err.ensures.some

pub returns-in-Err-clause-reported : goal.returns-in-Err-clause-reported
returns-in-Err-clause-reported g c = λ script.
    let words = c.args.request.now.paths.items in
    let path = c.path_of_grid-path.result.now in
    let within = below c.loop-grid-test.true (c.len-grid-end.ensures ∙ c.args.request.now.has_paths ∙
    c.args.request.now.paths.ok.0) in
    let is : path ≡ get_or (texts words) c.loop-grid.grid path = c.path_of_grid-path.ensures path in
    of_grid (g.P.Process.files c.args.process.now) script (texts words) c.loop-grid.grid path c.in-Err.refusal (below
    within (sym (length-map _ _))) is
    (λ other. let p = c.in-Err.ensures.reported other in (
      p.0,
      ap (λ (files : Text → Option ComingBytes). files path) (sym
          c.loop-grid.invariant.opens.same_files) ∙ p.1,
    ))

pub returns-then-is_err-clause-some : goal.returns-then-is_err-clause-some
returns-then-is_err-clause-some g c =
    let words = c.args.request.now.paths.items in
    let path = c.path_of_grid-path.result.now in
    let within = below c.loop-grid-test.true (c.len-grid-end.ensures ∙ c.args.request.now.has_paths ∙
    c.args.request.now.paths.ok.0) in
    let is : path ≡ get_or (texts words) c.loop-grid.grid path = c.path_of_grid-path.ensures path in
    some_of (c.loop-grid.grid + 1)
    (opened_as (one_more (texts words) c.loop-grid.grid path (below within (sym (length-map _ _))) is) (opened_then
    c.loop-grid.invariant.opens c.in-Ok.ensures.opens))

pub loop-grid-preserved : goal.loop-grid-preserved
loop-grid-preserved g c =
    let words = c.args.request.now.paths.items in
    let names = c.args.request.now.names.items in
    let grids = c.loop-grid.grids.items in
    let path = c.path_of_grid-path.result.now in
    let within = below c.loop-grid-test.true (c.len-grid-end.ensures ∙ c.args.request.now.has_paths ∙
    c.args.request.now.paths.ok.0) in
    let named : c.loop-grid.grid < length names = below c.loop-grid-test.true (c.len-grid-end.ensures ∙
    c.args.request.now.names.ok.0) in
    let is : path ≡ get_or (texts words) c.loop-grid.grid path = c.path_of_grid-path.ensures path in
    let whole = one_more (texts words) c.loop-grid.grid path (below within (sym (length-map _ _))) is in
    let items : c.push.new.self.items ≡ grids ++ c.in-Ok.opened ∷ [] = search rules in
    record {
      named = ap (map (λ grid. grid.0)) items ∙ map-append _ grids _
          ∙ ap (λ before. before ++ c.in-Ok.opened.0 ∷ []) c.loop-grid.invariant.named
          ∙ ap (λ name. take c.loop-grid.grid names ++ name ∷ []) (c.in-Ok.ensures.name ∙ c.index-name.ensures)
          ∙ sym (take_more names c.loop-grid.grid _ named);
      fresh = rw items (All-push (λ grid. g.P.File.Source.asked grid.1 ≡ Going) grids _ c.loop-grid.invariant.fresh
          c.in-Ok.ensures.asked);
      gives = rw (items, sym whole) (zip_push _ (take c.loop-grid.grid (texts words)) grids path c.in-Ok.opened
          c.loop-grid.invariant.gives
          (subst (λ files. SourceGivesContentsOfFile files g.P.File.Source.coming path c.in-Ok.opened.1)
          c.loop-grid.invariant.opens.same_files c.in-Ok.ensures.gives));
      supposed = rw (items, sym whole) (zip_push _ (take c.loop-grid.grid (texts words)) grids path c.in-Ok.opened
          c.loop-grid.invariant.supposed
          (c.in-Ok.ensures.supposed ∙ ap (λ (file : Text → SupposedContent). file path) c.loop-grid.invariant.same));
      same = c.open_grid.ensures.same ∙ c.loop-grid.invariant.same;
      opens = opened_as whole (opened_then c.loop-grid.invariant.opens c.in-Ok.ensures.opens);
    }

pub returns-clause-opened : goal.returns-clause-opened
returns-clause-opened g c =
    let words = c.args.request.now.paths.items in
    let all = at_least c.loop-grid-test.false (c.len-grid-end.ensures ∙ c.args.request.now.has_paths ∙
    c.args.request.now.paths.ok.0) in
    record {
      named = c.loop-grid.invariant.named
          ∙ take_all c.loop-grid.grid _ (at_least c.loop-grid-test.false (c.len-grid-end.ensures ∙
          c.args.request.now.names.ok.0));
      fresh = c.loop-grid.invariant.fresh;
      gives = rw (sym (take_all c.loop-grid.grid (texts words) (at_least all (sym (length-map _ _)))))
          c.loop-grid.invariant.gives;
    }

pub returns-clause-supposed : goal.returns-clause-supposed
returns-clause-supposed g c =
    let words = c.args.request.now.paths.items in
    let all = at_least c.loop-grid-test.false (c.len-grid-end.ensures ∙ c.args.request.now.has_paths ∙
    c.args.request.now.paths.ok.0) in
    rw (sym (take_all c.loop-grid.grid (texts words) (at_least all (sym (length-map _ _)))))
    c.loop-grid.invariant.supposed
