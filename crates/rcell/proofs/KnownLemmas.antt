-- Sources whose bytes are known agree with every content that is supposed.
use Rattle.std.proofs.Common.{◌≡◌, ℕ, List, [], ◌∷◌, Option, Some, None, refl}
use Rattle.std.specs.Prelude.{IfSome}
use Rattle.std.specs.Option.{IsSome}
use Rattle.cell_core_devices.specs.Device.{ComingBytes}
use Rattle.cell_core_devices.specs.Supposed.{SupposedContent, content_to_come}
use Rattle.rcell.specs.Sources.{ReadsAgreeWithContents, Named, SourcesHoldKnownContents, SourcesHoldSupposedContents}
use Rattle.rcell.specs.SourcesLaw.{ReadsAgreeWithKnownBytes, contents_of_named_sources}

module _ {R : Type 0} (coming : R → Option ComingBytes) (supposed : R → SupposedContent)
    (known : (s : R) (h : ComingBytes) → IfSome (coming s) (λ c. content_to_come (supposed s) h ≡ Some c))
    (steady : (s t : R) → IsSome (coming s) → IsSome (coming t)) where
  at_known : (o : Option ComingBytes) (s : R) (c h : ComingBytes) → o ≡ Some c
      → IfSome o (λ d. content_to_come (supposed s) h ≡ Some d)
      → content_to_come (supposed s) h ≡ Some c
  at_known o s c h same is = rw same at is

  -- a source whose bytes are known has them, whatever is supposed
  pub to_come_known : (s : R) (c h : ComingBytes) → coming s ≡ Some c → content_to_come (supposed s) h ≡ Some c
  to_come_known s c h same = at_known (coming s) s c h same (known s h)

  agrees_if : (o : Option ComingBytes) (s : R) (h : ComingBytes) → IsSome o
      → IfSome o (λ d. content_to_come (supposed s) h ≡ Some d)
      → IsSome (content_to_come (supposed s) h)
  agrees_if None s h some is = cc
  agrees_if (Some c) s h some is = rw is refl

  some_known : (o : Option ComingBytes) (c : ComingBytes) → o ≡ Some c → IsSome o
  some_known o c same = rw same refl

  -- if the bytes of one source are known, all sources agree with every content
  pub agrees : (s : R) (c : ComingBytes) → coming s ≡ Some c → (t : R) (h : ComingBytes)
      → IsSome (content_to_come (supposed t) h)
  agrees s c same t h = agrees_if (coming t) t h (steady s t (some_known (coming s) c same)) (known t h)

  pub all_agree : (s : R) (c : ComingBytes) → coming s ≡ Some c → (hs : List ComingBytes) (sources : List R)
      → ReadsAgreeWithContents supposed hs sources
  all_agree s c same [] sources = tt
  all_agree s c same (h ∷ hs) [] = tt
  all_agree s c same (h ∷ hs) (t ∷ sources) = (agrees s c same t h, all_agree s c same hs sources)

  pub are_supposed : (grids : List (List ℕ × R)) (named : List Named) → SourcesHoldKnownContents coming grids named
      → SourcesHoldSupposedContents supposed (contents_of_named_sources named) grids named
  are_supposed [] [] report = tt
  are_supposed [] (n ∷ named) report = absurd report
  are_supposed (g ∷ grids) [] report = absurd report
  are_supposed (g ∷ grids) (n ∷ named) report = (
    (report.0.0, to_come_known g.1 n.1 n.1 report.0.1),
    are_supposed grids
        named report.1,
  )

  pub known_agree : ReadsAgreeWithKnownBytes coming supposed
  known_agree grids script ran named text report same = record {
    grids_are = are_supposed grids named report;
    script_is = to_come_known script text text same;
    grids_agree = all_agree script text same (contents_of_named_sources named) ran.grids.items;
    script_agrees = agrees script text same ran.script text;
  }
