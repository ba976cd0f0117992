use Rattle.std.proofs.Common.{◌≡◌, ◌∙◌, ℤ, SFits, ap, of_z, rules, sym, to_z, w32}
use Rattle.std.proofs.lemmas.Int.{to_z-of_z}
use Rattle.cell_join_patches.proofs.PartLemmas.{fault-of-class, fault-of-sums, measures-push, no-fault}
use Rattle.cell_join_patches.proofs.patch_joiner.patch_with_part.Goals as goal

class-is : (a b : ℤ) → SFits w32 a → SFits w32 b → of_z w32 a ≡ of_z w32 b → a ≡ b
class-is a b fits other is = sym (to_z-of_z w32 a fits) ∙ ap (to_z w32) is ∙ to_z-of_z w32 b other

pub returns-then-patch-part-clause-fault : goal.returns-then-patch-part-clause-fault
returns-then-patch-part-clause-fault c = λ parts is.
    let are = rw c.in-Some.is at is in
    fault-of-class parts c.in-Some.patch c.args.part are (λ same. c.if-patch-part.true (ap (of_z w32) same))

pub returns-in-Some-measures_of_both-clause-with : goal.returns-in-Some-measures_of_both-clause-with
returns-in-Some-measures_of_both-clause-with c = λ parts is.
    let are = rw c.in-Some.is at is in
    let some = c.in-Some-measures_of_both.ensures.some in
    let same = class-is c.in-Some.patch.class c.args.part.class (search rules) (search rules) c.if-patch-part.false in (
      no-fault parts c.in-Some.patch c.args.part are same some.1,
      rw some.0 (measures-push parts c.in-Some.patch c.args.part are same),
    )

pub returns-in-None-clause-fault : goal.returns-in-None-clause-fault
returns-in-None-clause-fault c = λ parts is.
    let are = rw c.in-Some.is at is in
    let same = class-is c.in-Some.patch.class c.args.part.class (search rules) (search rules) c.if-patch-part.false in
    fault-of-sums parts c.in-Some.patch c.args.part are same c.in-None.ensures.none
