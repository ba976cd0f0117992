use Rattle.std.proofs.Common.{⊎_elim, rules}
use Rattle.cell_clumps.proofs.MeetingLemmas.{some_of}
use Rattle.cell_clumps.proofs.NearLemmas.{is_alike, is_unlike, ne_alike, ne_unlike, label_above, label_left, corners_above, corners_left, corners_joined_left, corners_only}
use Rattle.cell_clumps.proofs.near.label_shared_at_edge_or_corner.Goals as goal
use Rattle.cell_clumps.proofs.near.label_shared_at_edge_or_corner.Goals.{then-eq-2+then-ne-2, else-eq-2}
use Rattle.cell_clumps.proofs.near.label_shared_at_edge_or_corner.Goals.{else-eq-2-via-then-eq-2+else-ne-2}
use Rattle.cell_clumps.proofs.near.label_shared_at_edge_or_corner.Goals.{else-eq-2-via-else-eq-2}

pub returns-then-eq-clause-label : goal.returns-then-eq-clause-label
returns-then-eq-clause-label c = λ m r col v labels open_of is here near read.
    corners_above m r col v c.args.table.now labels open_of c.args.near.now near read (is_alike _ _ v _ is c.eq.ensures.value c.if-eq.true)

pub returns-then-ne-clause-label : goal.returns-then-ne-clause-label
returns-then-ne-clause-label c =
    corners_only c.label_shared_at_corner.result c.args.cell c.args.near.now _ _ c.label_shared_at_corner.ensures.label
    (λ label shares m r col v labels open_of is here near read. shares m r col v labels open_of is here near
    (λ q lies q_is. ⊎_elim (λ h. ne_unlike _ _ v _ is c.ne.ensures c.if-ne.true (label_left m _ _ r col v c.args.near.now near q h q_is).cell)
    (λ h. is_unlike _ _ v _ is c.eq.ensures.value c.if-eq.false (label_above m _ _ r col v c.args.near.now near q h q_is).cell) lies) read)
    (λ apart. search rules)

pub join_labels-requires : goal.join_labels-requires
join_labels-requires c =
    let v = some_of c.args.cell c.requires.some in
    let one = c.requires.inside.upper_right v.0 (is_alike _ _ v.0 _ v.1 c.eq-2.ensures.value c.if-eq-2.true) in
    let other = c.requires.inside.left v.0 (ne_alike _ _ v.0 _ v.1 c.ne.ensures c.if-ne.false) in
    record { down = c.requires.down; one_inside = assumption (one, other); other_inside = other }

pub returns-clause-label : goal.returns-clause-label
returns-clause-label c = λ m r col v labels open_of is here near read.
    let left = ne_alike _ _ v _ is c.ne.ensures c.if-ne.false in
    elim c.if-eq-2.branch [
      | then-eq-2+then-ne-2 w ↦ rw w.table-is
          (corners_joined_left m r col v c.args.table.now labels open_of c.args.near.now near read _ here
          (ne_unlike _ _ v _ is w.ne-then-eq-2.ensures w.if-ne-2.true) left
          (is_alike _ _ v _ is c.eq-2.ensures.value w.if-eq-2.true) w.join_labels.auto.table (w.join_labels.ensures.reports open_of read.sound.reports))
      | else-eq-2 w ↦ rw w.table-is (corners_left m r col v c.args.table.now labels open_of c.args.near.now near read
          left
          (λ upper_right. elim w.else-eq-2.branch [
            | else-eq-2-via-then-eq-2+else-ne-2 u ↦ ne_alike _ _ v _ is u.ne-then-eq-2.ensures u.if-ne-2.false
            | else-eq-2-via-else-eq-2 u ↦ absurd (is_unlike _ _ v _ is c.eq-2.ensures.value u.if-eq-2.false upper_right)
          ]))
    ]
