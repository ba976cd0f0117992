-- Reads that agree with a content.
use Rattle.std.proofs.Common.{◌≡◌, ℕ, Bool, true, false, List, [], ◌∷◌, ◌++◌, Option, Some, None, refl, ap, subst}
use Rattle.std.specs.Prelude.{◌==◌, if◌then◌else◌}
use Rattle.std.proofs.lemmas.Bool.{eqb-true, eq-eqb}
use Rattle.cell_core_devices.specs.Device.{ComingBytes}
use Rattle.cell_core_devices.specs.Supposed.{rest_after_prefix, rest_if_end_is_as_supposed, rest_of_supposed_content}
use Rattle.cell_core_devices.specs.declared.source.Asked.{Asked}
use Rattle.cell_core_devices.specs.declared.source.Asked.TheVariants.{Going, Ended, Failed, Again}
use Rattle.cell_core_devices.specs.SourceLaw.{ReportedEndIsContentEnd, AreReadsOfContent, AgreementMeansContentWasRead}

-- a list that begins with these items is these items and the rest
splits : (gave all left : List ℕ) → rest_after_prefix gave all ≡ Some left → all ≡ gave ++ left
splits [] all left e = cc
splits (x ∷ xs) [] left e = let no : ⊥ = cc in absurd no
splits (x ∷ xs) (y ∷ ys) left e = by (splits xs ys left) (x == y) refl e
  where
    by : (rest_after_prefix xs ys ≡ Some left → ys ≡ xs ++ left) → (b : Bool) → (x == y) ≡ b
        → (if b then rest_after_prefix xs ys else None) ≡ Some left → y ∷ ys ≡ x ∷ (xs ++ left)
    by rest true same h = rw (eqb-true x y same) (ap (λ (t : List ℕ). y ∷ t) (rest h))
    by rest false other h = let no : ⊥ = cc in absurd no

joins : (gave left : List ℕ) → rest_after_prefix gave (gave ++ left) ≡ Some left
joins [] left = refl
joins (x ∷ xs) left = rw (eq-eqb x x refl) (joins xs left)

-- the rest, given the reported end
module _ (asked : Asked) (left : List ℕ) (fails : Bool) (rest : ComingBytes) where
  ends : ReportedEndIsContentEnd asked left fails → record { bytes = left; fails = fails } ≡ rest
      → (Some left ≡ Some rest.bytes) × (fails ≡ rest.fails) × ReportedEndIsContentEnd asked rest.bytes rest.fails
  ends end same = (
    ap (λ (c : ComingBytes). Some c.bytes) same,
    ap (λ (c : ComingBytes). c.fails) same,
    subst (λ (c : ComingBytes). ReportedEndIsContentEnd asked c.bytes c.fails) same end,
  )

reported : (asked : Asked) (fails : Bool) (left : Option (List ℕ)) (rest : ComingBytes)
    → rest_if_end_is_as_supposed asked fails left ≡ Some rest
    → (left ≡ Some rest.bytes) × (fails ≡ rest.fails) × ReportedEndIsContentEnd asked rest.bytes rest.fails
reported asked fails None rest e = let no : ⊥ = cc in absurd no
reported Going fails (Some left) rest e = ends Going left fails rest tt cc
reported Ended true (Some []) rest e = let no : ⊥ = cc in absurd no
reported Ended false (Some []) rest e = ends Ended [] false rest (refl, refl) cc
reported Ended fails (Some (y ∷ ys)) rest e = let no : ⊥ = cc in absurd no
reported Failed true (Some []) rest e = ends Failed [] true rest (refl, refl) cc
reported Failed false (Some []) rest e = let no : ⊥ = cc in absurd no
reported Failed fails (Some (y ∷ ys)) rest e = let no : ⊥ = cc in absurd no
reported Again fails (Some left) rest e = let no : ⊥ = cc in absurd no

tells : (asked : Asked) (left : List ℕ) (fails : Bool) → ReportedEndIsContentEnd asked left fails
    → rest_if_end_is_as_supposed asked fails (Some left) ≡ Some (record { bytes = left; fails = fails })
tells Going left fails end = refl
tells Ended left fails end = rw (end.0, end.1) refl
tells Failed left fails end = rw (end.0, end.1) refl
tells Again left fails end = absurd end

agrees : (content rest : ComingBytes) (gave : List ℕ) (asked : Asked)
    → rest_of_supposed_content content gave asked ≡ Some rest
    → AreReadsOfContent content gave asked rest
agrees content rest gave asked e =
    let is = reported asked content.fails (rest_after_prefix gave content.bytes) rest e in
    record { bytes = splits gave content.bytes rest.bytes is.0; fails = is.1; end = is.2 }

is_read : (content rest : ComingBytes) (gave : List ℕ) (asked : Asked) → AreReadsOfContent content gave asked rest
    → rest_of_supposed_content content gave asked ≡ Some rest
is_read content rest gave asked is =
    rw (is.bytes, is.fails, joins gave rest.bytes) (tells asked rest.bytes rest.fails is.end)

pub agreement : AgreementMeansContentWasRead
agreement content rest gave asked = (agrees content rest gave asked, is_read content rest gave asked)
