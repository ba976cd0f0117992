use Rattle.std.proofs.Common.{◌≡◌, ◌++◌, ◌∷◌, [], List, ℕ, is_some, IsSome, false, length, arith, refl, ap, sym}
use Rattle.std.proofs.Common.{subst, ◌∙◌}
use Rattle.std.proofs.lemmas.List.{length_push}
use Rattle.std.proofs.lemmas.Bool.{both_ways}
use Rattle.cell_clumps.proofs.LabelLemmas.{down_more}
use Rattle.cell_clumps.proofs.MeetingLemmas.{some_of, none_of, no_label}
use Rattle.cell_clumps.proofs.ReadLemmas.{read_null, read_shared, read_new, written_back}
use Rattle.cell_clumps.specs.parts.ClumpsRead.{IsLabelSharedWithNeighbour}
use Rattle.cell_clumps.proofs.near.clump_label_for_cell.Goals as goal

pub returns-then-not-is_some : goal.returns-then-not-is_some
returns-then-not-is_some c = record {
  down = c.requires.down;
  long = omega arith;
  read = λ m r col labels is col_in count near h.
      let none : is_some c.args.cell ≡ false = ap (λ x. is_some x) (sym c.get.ensures.value) ∙ sym c.is_some.ensures ∙ c.if-not-is_some.true in
      read_null c.args.joining m c.args.table.now.items labels h.open_of h.read r col 4294967295 col_in count
      (sym is ∙ none_of c.args.cell none);
  alike = λ same some.
      let none : is_some c.args.cell ≡ false = ap (λ x. is_some x) (sym c.get.ensures.value) ∙ sym c.is_some.ensures ∙ c.if-not-is_some.true in
      absurd (both_ways (is_some c.args.cell) none some);
  null = λ _. refl;
}

pub label_shared_with_neighbour-requires : goal.label_shared_with_neighbour-requires
label_shared_with_neighbour-requires c = record {
  some = ap (λ x. is_some x) (sym c.get.ensures.value) ∙ sym c.is_some.ensures ∙ c.if-not-is_some.false;
  down = rw c.as_mut_slice.ensures.value c.requires.down;
  inside = rw c.as_mut_slice.ensures.value c.requires.inside;
}

pub returns-in-Some : goal.returns-in-Some
returns-in-Some c =
    let items = c.as_mut_slice.ensures.value in
    let long = c.label_shared_with_neighbour.auto.table ∙ ap (length {A = ℕ}) items in
    let back = written_back c.label_shared_with_neighbour.new.table c.args.table.now.items c.args.table.now.len (c.label_shared_with_neighbour.auto.table ∙ c.as_mut_slice.ensures.len) in
    record {
      down = rw back c.in-Some.ensures.down;
      long = rw back (omega (arith, long));
      read = λ m r col labels is col_in count near h.
          let some : IsSome c.args.cell = ap (λ x. is_some x) (sym c.get.ensures.value) ∙ sym c.is_some.ensures ∙ c.if-not-is_some.false in
          let v = some_of c.args.cell some in
          let here = sym is ∙ v.1 in
          let shares = c.in-Some.ensures.label m r col v.0 labels h.open_of v.1 here near (rw items h.read) in
          rw back (read_shared c.args.joining m c.args.table.now.items labels h.open_of h.read r col c.in-Some.label col_in count c.label_shared_with_neighbour.new.table v.0 here long shares);
      alike = λ same some. let is = c.in-Some.ensures.left same in cc;
      null = λ none.
          let some : IsSome c.args.cell = ap (λ x. is_some x) (sym c.get.ensures.value) ∙ sym c.is_some.ensures ∙ c.if-not-is_some.false in
          absurd (both_ways (is_some c.args.cell) (ap (λ x. is_some x) none) some);
    }

pub returns : goal.returns
returns c =
    let items = c.as_mut_slice.ensures.value in
    let table = c.args.table.now.items in
    let back = written_back c.label_shared_with_neighbour.new.table table c.args.table.now.len (c.label_shared_with_neighbour.auto.table ∙ c.as_mut_slice.ensures.len) in
    let none = subst (IsLabelSharedWithNeighbour c.args.joining c.args.cell c.args.near.now _ _) (no_label c.label_shared_with_neighbour.result c.in_default.not-Some) c.label_shared_with_neighbour.ensures.label in
    let pushed : c.push.new.self.items ≡ table ++ c.len-label.result ∷ [] = c.in_ok-push.ensures.items ∙ ap (λ (xs : List ℕ). xs ++ c.len-label.result ∷ []) (back ∙ none.0 ∙ items) in
    let own = c.len-label.ensures ∙ sym c.as_mut_slice.ensures.len ∙ ap (length {A = ℕ}) items in
    record {
      down = rw pushed (down_more table c.len-label.result c.requires.down own);
      long = rw pushed (omega (arith, length_push table c.len-label.result));
      read = λ m r col labels is col_in count near h.
          let some : IsSome c.args.cell = ap (λ x. is_some x) (sym c.get.ensures.value) ∙ sym c.is_some.ensures ∙ c.if-not-is_some.false in
          let v = some_of c.args.cell some in
          rw pushed (read_new c.args.joining m table labels h.open_of h.read r col c.len-label.result col_in count v.0 (sym is ∙ v.1) c.requires.down
          (none.1 m r col v.0 _ _ v.1 near) own);
      alike = λ same some. absurd (c.in_default.not-Some c.args.near.now.left.label
          (c.label_shared_with_neighbour.ensures.left same));
      null = λ no.
          let some : IsSome c.args.cell = ap (λ x. is_some x) (sym c.get.ensures.value) ∙ sym c.is_some.ensures ∙ c.if-not-is_some.false in
          absurd (both_ways (is_some c.args.cell) (ap (λ x. is_some x) no) some);
    }
