use Rattle.std.proofs.Common.{◌≡◌, ◌+◌, ◌<◌, ◌≤◌, List, ℕ, length, Vec, Global, Bool, true, None, Some, Result, Ok, Err, OnOk, OnErr, IfErr, is_ok, ◌++◌, ◌∷◌, [], ap, sym, subst, ◌∙◌, arith}
use Rattle.std.proofs.Math.Bool.{true≢false}
use Rattle.std.specs.Prelude.{if◌then◌else◌}
use Rattle.cell_core_values.specs.Name.{place_of_name}
use Rattle.cell_core_values.specs.parts.NamePlaces.{ArePlacesOfNames}
use Rattle.cell_core_values.proofs.NameLemmas.{AreDistinct-push}
use Rattle.cell_core_values.proofs.PlaceLemmas.{ArePlacesOfNames-push}
use Rattle.cell_core_values.proofs.name.Names.push_or_return.Goals as goal

room : {n most : ℕ} → n + 1 ≤ most → n < most
room h = omega arith

-- after a successful push, the names are the old names and the new one
pushed : {ok : Bool} (new old names : List (List ℕ)) (name : List ℕ) → new ≡ (if ok then old ++ name ∷ [] else old)
    → ok ≡ true → old ≡ names → new ≡ names ++ name ∷ []
pushed new old names name e is_pushed same = rw (is_pushed, same) at e

module _ {T E : Type 0} where
  holds : {P : Type 0} (r : Result T E) → P → OnOk r P
  holds (Ok x) p = p
  holds (Err y) p = tt

  never : (P : Type 0) (r : Result T E) → is_ok r ≡ true → OnErr r P
  never P (Ok x) e = tt
  never P (Err y) e = absurd (true≢false (sym e))

  never_if : (P : E → Type 0) (r : Result T E) → is_ok r ≡ true → IfErr r P
  never_if P (Ok x) e = tt
  never_if P (Err y) e = absurd (true≢false (sym e))

pub invariant_of-self : goal.invariant_of-self
invariant_of-self c = rw c.reserve.ensures.items c.self.invariant

pub returns-in_default-clause-err : goal.returns-in_default-clause-err
returns-in_default-clause-err c = c.reserve.ensures.items ∙ c.self.view_is

pub invariant_of-self-in_default-from_slice : goal.invariant_of-self-in_default-from_slice
invariant_of-self-in_default-from_slice c = rw c.reserve.ensures.items c.self.invariant

pub returns-in_default-from_slice-clause-err : goal.returns-in_default-from_slice-clause-err
returns-in_default-from_slice-clause-err c = c.reserve.ensures.items ∙ c.self.view_is

pub invariant_of-self-in_default-insert : goal.invariant_of-self-in_default-insert
invariant_of-self-in_default-insert c = rw (c.reserve.ensures.items, c.in_default-insert.ensures.err) c.self.invariant

pub returns-in_default-insert-clause-err : goal.returns-in_default-insert-clause-err
returns-in_default-insert-clause-err c = c.reserve.ensures.items ∙ c.self.view_is

-- the name was not in the list, and its copy is found at the last place
pub invariant_of-self-2 : goal.invariant_of-self-2
invariant_of-self-2 c =
    let names = c.self.inside.names.items in
    let updates = c.in-Ok-insert.ensures.updates in
    let items : c.push.new.self.items ≡ names ++ c.args.name ∷ [] =
    pushed _ _ names c.args.name c.push.ensures.items (c.push.ensures.succeeds (room c.in-Ok.ensures.ok))
    c.reserve.ensures.items in
    let count : c.len.result ≡ length names = c.len.ensures ∙ c.reserve.ensures.len ∙ c.self.inside.names.ok.0 in
    let same : c.in-Ok-from_slice.key.items ≡ c.args.name = c.in-Ok-from_slice.ensures.items ∙ c.bytes.ensures.value in
    let none : place_of_name c.args.name names ≡ None = rw c.self.view_is c.requires in
    let copied : place_of_name c.in-Ok-from_slice.key.items names ≡ None =
    subst (λ (t : List ℕ). place_of_name t names ≡ None) (sym same) none in
    let places =
    ArePlacesOfNames-push (λ (key : Vec ℕ Global). key.items) names c.in-Ok-from_slice.key.items
    c.self.inside.places.entries
    c.insert.new.self.entries c.self.invariant.1 copied (updates.1 ∙ ap Some count) updates.3 in
    let all : ArePlacesOfNames (λ (key : Vec ℕ Global). key.items) (names ++ c.args.name
    ∷ []) c.insert.new.self.entries =
    subst (λ (t : List ℕ). ArePlacesOfNames (λ (key : Vec ℕ Global). key.items) (names ++ t
    ∷ []) c.insert.new.self.entries) same places in
    rw items (AreDistinct-push names c.args.name c.self.invariant.0 none, all)

pub returns-clause-ok : goal.returns-clause-ok
returns-clause-ok c =
    let ok = c.push.ensures.succeeds (room c.in-Ok.ensures.ok) in
    holds c.map_err.result (pushed _ _ _ c.args.name c.push.ensures.items ok (c.reserve.ensures.items ∙ c.self.view_is))

pub returns-clause-err : goal.returns-clause-err
returns-clause-err c =
    never _ c.map_err.result (c.map_err.ensures.variant ∙ c.push.ensures.succeeds (room c.in-Ok.ensures.ok))

pub returns-clause-given_back : goal.returns-clause-given_back
returns-clause-given_back c =
    never_if _ c.map_err.result (c.map_err.ensures.variant ∙ c.push.ensures.succeeds (room c.in-Ok.ensures.ok))
