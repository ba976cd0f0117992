use Rattle.std.proofs.Common.{◌≡◌, length, sym, ap, ◌∙◌}
use Rattle.std.proofs.lemmas.List.Elements.{All-same, All-push, All-drop}
use Rattle.cell_calc.proofs.Waiting.{of_front, as_many, as_many_left, has_room, room_swaps, swapped, let_go, not_let_go}
use Rattle.cell_calc.proofs.window_rows.WindowRows.release.Goals as goal

pub append_row_to_ring-requires : goal.append_row_to_ring-requires
append_row_to_ring-requires c =
    let rows = c.self.inside.rows.items in
    let waiting = c.self.inside.waiting.items in
    has_room waiting rows c.in-Some.row _ (sym c.pop_front.ensures.value ∙ c.in-Some.is)
    (swapped (length waiting) (length rows) _ c.self.invariant.room_waiting)

pub invariant_of-self : goal.invariant_of-self
invariant_of-self c =
    let rows = c.self.inside.rows.items in
    let waiting = c.self.inside.waiting.items in
    let front = sym c.pop_front.ensures.value ∙ c.in-Some.is in
    let is_more = ap (λ b. b.items) c.append_row_to_ring.ensures in
    let is_rest = ap (λ b. b.items) c.pop_front.ensures.items in
    let same = as_many waiting rows c.append_row_to_ring.new.ring.items c.pop_front.new.self.items c.in-Some.row
    c.in-Some.row
    front is_more is_rest in
    let wide = of_front (λ row. length row.items ≡ c.self.inside.cols) rows c.in-Some.row front
    c.self.invariant.width in
    record {
      width = All-same (λ row. length row.items ≡ c.self.inside.cols) _ _ is_rest
          (All-drop (λ row. length row.items ≡ c.self.inside.cols) 1 rows c.self.invariant.width);
      width_waiting = All-same (λ row. length row.items ≡ c.self.inside.cols) _ _ is_more
          (All-push (λ row. length row.items ≡ c.self.inside.cols) waiting c.in-Some.row
          c.self.invariant.width_waiting wide);
      room = room_swaps _ _ (length waiting) (length rows) _ _ same (ap (λ b. b.capacity) c.pop_front.ensures.items)
          c.self.invariant.room;
      room_waiting =
          room_swaps _ _ (length waiting) (length rows) _ _ same (ap (λ b. b.capacity) c.append_row_to_ring.ensures)
          c.self.invariant.room_waiting;
    }

pub returns-in-Some : goal.returns-in-Some
returns-in-Some c = record {
  rows =
      let_go (λ row. row.items) c.self.inside.rows.items c.pop_front.new.self.items _ c.args.above c.args.centre
      (ap (λ b. b.items) c.pop_front.ensures.items) (ap (λ k. k.rows) c.self.view_is) c.if-above-centre.true;
  free =
      let rows = c.self.inside.rows.items in
      let waiting = c.self.inside.waiting.items in
      let front = sym c.pop_front.ensures.value ∙ c.in-Some.is in
      let same = as_many waiting rows c.append_row_to_ring.new.ring.items c.pop_front.new.self.items c.in-Some.row c.in-Some.row
      front (ap (λ b. b.items) c.append_row_to_ring.ensures) (ap (λ b. b.items) c.pop_front.ensures.items) in
      as_many_left (λ row. row.items) waiting rows c.append_row_to_ring.new.ring.items c.pop_front.new.self.items _ _
      same
      (ap (λ k. k.rows) c.self.view_is) (ap (λ k. k.free) c.self.view_is);
  cols = ap (λ k. k.cols) c.self.view_is;
}

pub returns-in_default-clause-rows : goal.returns-in_default-clause-rows
returns-in_default-clause-rows c =
    let_go (λ row. row.items) c.self.inside.rows.items c.pop_front.new.self.items _ c.args.above c.args.centre
    (ap (λ b. b.items) c.pop_front.ensures.items) (ap (λ k. k.rows) c.self.view_is) c.if-above-centre.true

pub returns-else-above-centre-clause-rows : goal.returns-else-above-centre-clause-rows
returns-else-above-centre-clause-rows c =
    not_let_go c.args.self.now.rows c.args.above c.args.centre c.if-above-centre.false
