use Rattle.std.proofs.Common.{◌≡◌, ◌<◌, ◌≤◌, ◌++◌, [], ℕ, length, sym, ap, ◌∙◌}
use Rattle.std.proofs.lemmas.List.Elements.{All-same, All-push, All-drop}
use Rattle.cell_calc.proofs.Waiting.{of_front, no_front, as_many, as_many_seen, room_stays, has_room}
use Rattle.cell_calc.proofs.Waiting.{one_last, next_row, no_more}
use Rattle.cell_calc.proofs.window_rows.WindowRows.take_in.Goals as goal

-- a row below one of two equal numbers is below the other
below : (row n m : ℕ) → n ≡ m → row < n → row < m
below row n m e lt = rw (← e) lt

not_below : (row n m : ℕ) → n ≡ m → n ≤ row → m ≤ row
not_below row n m e le = rw (← e) le

pub cells_filled_from_map_row-requires-clause-row_in_range : goal.cells_filled_from_map_row-requires-clause-row_in_range
cells_filled_from_map_row-requires-clause-row_in_range c =
    let count = c.rows.ensures.value ∙ ap (λ r. r.rows) c.region.ensures.value in
    below c.args.row _ _ count c.if-row-rows.true

pub cells_filled_from_map_row-requires-clause-width : goal.cells_filled_from_map_row-requires-clause-width
cells_filled_from_map_row-requires-clause-width c =
    let front = sym c.pop_front.ensures.value ∙ c.in-Some.is in
    of_front (λ row. length row.items ≡ c.self.inside.cols) c.self.inside.waiting.items c.in-Some.cells front
    c.self.invariant.width_waiting
    ∙ ap (λ k. k.cols) c.self.view_is ∙ c.requires.width

pub append_row_to_ring-requires : goal.append_row_to_ring-requires
append_row_to_ring-requires c =
    has_room c.self.inside.rows.items c.self.inside.waiting.items c.in-Some.cells _
    (sym c.pop_front.ensures.value ∙ c.in-Some.is) c.self.invariant.room

pub invariant_of-self : goal.invariant_of-self
invariant_of-self c =
    let rows = c.self.inside.rows.items in
    let queue = c.self.inside.waiting.items in
    let front = sym c.pop_front.ensures.value ∙ c.in-Some.is in
    let is_more = ap (λ b. b.items) c.append_row_to_ring.ensures in
    let is_rest = ap (λ b. b.items) c.pop_front.ensures.items in
    let same = as_many rows queue c.append_row_to_ring.new.ring.items c.pop_front.new.self.items c.in-Some.cells
    c.cells_filled_from_map_row.result front is_more is_rest in
    let count = c.rows.ensures.value ∙ ap (λ r. r.rows) c.region.ensures.value in
    let lt = below c.args.row _ _ (count ∙ sym c.region.ensures.filled.count) c.if-row-rows.true in
    let wide = ap (λ l. length l) c.cells_filled_from_map_row.ensures ∙ c.region.ensures.filled.width c.args.row [] lt
    ∙ sym c.requires.width ∙ sym (ap (λ k. k.cols) c.self.view_is) in
    record {
      width = All-same (λ row. length row.items ≡ c.self.inside.cols) _ _ is_more
          (All-push (λ row. length row.items ≡ c.self.inside.cols) rows c.cells_filled_from_map_row.result
          c.self.invariant.width wide);
      width_waiting = All-same (λ row. length row.items ≡ c.self.inside.cols) _ _ is_rest
          (All-drop (λ row. length row.items ≡ c.self.inside.cols) 1 queue c.self.invariant.width_waiting);
      room = room_stays _ _ (length rows) (length queue) _ _ same (ap (λ b. b.capacity) c.append_row_to_ring.ensures)
          c.self.invariant.room;
      room_waiting = room_stays _ _ (length rows) (length queue) _ _ same
          (ap (λ b. b.capacity) c.pop_front.ensures.items)
          c.self.invariant.room_waiting;
    }

pub returns-in-Some : goal.returns-in-Some
returns-in-Some c = record {
  rows =
      let count = c.rows.ensures.value ∙ ap (λ r. r.rows) c.region.ensures.value in
      let lt = below c.args.row _ _ (count ∙ sym c.region.ensures.filled.count) c.if-row-rows.true in
      one_last (λ row. row.items) c.self.inside.rows.items c.append_row_to_ring.new.ring.items
      c.cells_filled_from_map_row.result
      c.args.self.now.rows _
      (ap (λ b. b.items) c.append_row_to_ring.ensures) (ap (λ k. k.rows) c.self.view_is)
      c.cells_filled_from_map_row.ensures
      ∙ ap (λ l. c.args.self.now.rows ++ l) (sym (next_row c.args.map.now.rows c.args.row [] lt));
  free =
      let rows = c.self.inside.rows.items in
      let queue = c.self.inside.waiting.items in
      let front = sym c.pop_front.ensures.value ∙ c.in-Some.is in
      let same = as_many rows queue c.append_row_to_ring.new.ring.items c.pop_front.new.self.items c.in-Some.cells
      c.cells_filled_from_map_row.result front (ap (λ b. b.items) c.append_row_to_ring.ensures) (ap (λ b. b.items) c.pop_front.ensures.items) in
      as_many_seen (λ row. row.items) rows queue c.append_row_to_ring.new.ring.items c.pop_front.new.self.items _ _ same
      (ap (λ k. k.rows) c.self.view_is) (ap (λ k. k.free) c.self.view_is);
  cols = ap (λ k. k.cols) c.self.view_is;
}

pub returns-in_default-clause-rows : goal.returns-in_default-clause-rows
returns-in_default-clause-rows c =
    let count = c.rows.ensures.value ∙ ap (λ r. r.rows) c.region.ensures.value in
    let lt = below c.args.row _ _ count c.if-row-rows.true in
    absurd (no_front c.self.inside.waiting.items c.args.self.now.free (sym c.in_default.ensures.value)
    (ap (λ k. k.free) c.self.view_is) (c.requires.free lt))

pub returns-in_default-clause-free : goal.returns-in_default-clause-free
returns-in_default-clause-free c =
    let count = c.rows.ensures.value ∙ ap (λ r. r.rows) c.region.ensures.value in
    let lt = below c.args.row _ _ count c.if-row-rows.true in
    absurd (no_front c.self.inside.waiting.items c.args.self.now.free (sym c.in_default.ensures.value)
    (ap (λ k. k.free) c.self.view_is) (c.requires.free lt))

pub invariant_of-self-in_default : goal.invariant_of-self-in_default
invariant_of-self-in_default c =
    let count = c.rows.ensures.value ∙ ap (λ r. r.rows) c.region.ensures.value in
    let lt = below c.args.row _ _ count c.if-row-rows.true in
    absurd (no_front c.self.inside.waiting.items c.args.self.now.free (sym c.in_default.ensures.value)
    (ap (λ k. k.free) c.self.view_is) (c.requires.free lt))

pub returns-else-row-rows-clause-rows : goal.returns-else-row-rows-clause-rows
returns-else-row-rows-clause-rows c =
    let count = c.rows.ensures.value ∙ ap (λ r. r.rows) c.region.ensures.value in
    no_more c.args.self.now.rows c.args.map.now.rows c.args.row
    (not_below c.args.row _ _ (count ∙ sym c.region.ensures.filled.count) c.if-row-rows.false)
