use Rattle.std.proofs.Common.{ℕ, List, [], Option, map, length, vec_len, false, true}
use Rattle.std.proofs.Common.{refl, subst, ap, sym, arith, ◌≡◌, ◌<◌, ◌==◌, ◌∙◌, ◌∷◌}
use Rattle.std.proofs.lemmas.Bool.{eqb-false, eqb-true}
use Rattle.std.proofs.lemmas.List.{length-map}
use Rattle.cell_core_devices.specs.Device.{ComingBytes}
use Rattle.cell_core_devices.specs.Supposed.{SupposedContent}
use Rattle.clap.specs.Walk.{Text, texts}
use Rattle.rcell_command.proofs.ProcessLemmas.{all_of_some, opened_then, some_first}
use Rattle.rcell_program.specs.OpenedGrids.{SourcesHoldFileContents}
use Rattle.rcell_program.specs.Refusals.{IsRefusalOfOpeningFiles}
use Rattle.rcell_program.specs.declared.refusal.Refusal.{Refusal}
use Rattle.rcell_program.proofs.opening.open_files.Goals as goal

-- the possible errors of opening files are the same when the files are unchanged
of_same : (files other : Text → Option ComingBytes) (script : Text) (paths : List Text) (refusal : Refusal)
    → other ≡ files
    → IsRefusalOfOpeningFiles other script paths refusal → IsRefusalOfOpeningFiles files script paths refusal
of_same files other script paths refusal same is = subst (λ known. IsRefusalOfOpeningFiles known script paths refusal)
    same
    is

no_grids : {A B : Type 0} (f : A → B) (xs : List A) (ys : List B) (n m : ℕ) → map f xs ≡ ys → n ≡ length xs → m ≡ length ys → (n == 0) ≡ true → m ≡ 0
no_grids f xs ys n m are some all empty = omega (arith, eqb-true n 0 empty, length-map xs f, ap length are)

some_grid : (n : ℕ) → (n == 0) ≡ false → 0 < n
some_grid n is = omega (arith, eqb-false n 0 is)

none_left : {A : Type 0} (xs : List A) → length xs ≡ 0 → xs ≡ []
none_left [] none = refl
none_left (x ∷ xs) none = cc

no_paths : (request : ℕ) (paths : List Text) → request ≡ 0 → request ≡ length paths → paths ≡ []
no_paths request paths none all = none_left paths (sym all ∙ none)

pub returns-in-Err-open_grids-clause-some : goal.returns-in-Err-open_grids-clause-some
returns-in-Err-open_grids-clause-some g c = some_first _ _ c.in-Ok.ensures.opens c.in-Err-open_grids.ensures.some

pub returns-in-Err-open_grids-clause-reported : goal.returns-in-Err-open_grids-clause-reported
returns-in-Err-open_grids-clause-reported g c =
    of_same _ _ _ _ _ c.in-Ok.ensures.opens.same_files (c.in-Err-open_grids.ensures.reported
    c.args.request.now.script.now)

pub returns-then-is_empty-clause-some : goal.returns-then-is_empty-clause-some
returns-then-is_empty-clause-some g c = all_of_some (opened_then c.in-Ok.ensures.opens c.in-Ok-open_grids.ensures.opens)

pub returns-then-is_empty-clause-reported : goal.returns-then-is_empty-clause-reported
returns-then-is_empty-clause-reported g c =
    let names = c.args.request.now.names in
    let paths = c.args.request.now.paths in
    let grids = c.in-Ok-open_grids.grids in
    let none = no_grids _ grids.items names.items (vec_len grids) (vec_len names)
    c.in-Ok-open_grids.ensures.opened.named grids.ok.0 names.ok.0
    (sym c.is_empty.ensures ∙ c.if-is_empty.true) in
    no_paths (vec_len names) (texts paths.items) none (c.args.request.now.has_paths ∙ paths.ok.0 ∙ sym (length-map _ _))

pub invariant_of-result : goal.invariant_of-result
invariant_of-result g c =
    record { has_grid = some_grid (vec_len c.in-Ok-open_grids.grids) (sym c.is_empty.ensures ∙ c.if-is_empty.false) }

pub returns-clause-files : goal.returns-clause-files
returns-clause-files g c =
    let paths = texts c.args.request.now.paths.items in
    subst (λ (file : Text → SupposedContent). SourcesHoldFileContents file g.P.File.Source.supposed paths
    c.in-Ok-open_grids.grids.items)
    c.in-Ok.ensures.same c.in-Ok-open_grids.ensures.supposed
