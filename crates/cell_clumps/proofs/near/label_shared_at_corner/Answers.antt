use Rattle.std.proofs.Common.{arith}
use Rattle.cell_clumps.proofs.MeetingLemmas.{some_of}
use Rattle.cell_clumps.proofs.NearLemmas.{is_alike, is_unlike, ne_alike, ne_unlike, corners_upper_left, corners_upper_right, corners_joined}
use Rattle.cell_clumps.proofs.near.label_shared_at_corner.Goals as goal
use Rattle.cell_clumps.proofs.near.label_shared_at_corner.Goals.{then-eq-2+then-near, else-eq-2, else-eq-2-via-then-eq-2+else-near, else-eq-2-via-else-eq-2}

pub returns-then-eq-clause-label : goal.returns-then-eq-clause-label
returns-then-eq-clause-label c = λ m r col v labels open_of is here near none read.
    corners_upper_right m r col v c.args.table.now labels open_of c.args.near.now near read none
    (ne_unlike _ _ v _ is c.ne.ensures c.if-ne.true) (is_alike _ _ v _ is c.eq.ensures.value c.if-eq.true)

pub join_labels-requires : goal.join_labels-requires
join_labels-requires c =
    let v = some_of c.args.cell c.requires.some in
    let one = c.requires.inside.upper_right v.0 (is_alike _ _ v.0 _ v.1 c.eq-2.ensures.value c.if-eq-2.true) in
    let other = c.requires.inside.upper_left v.0 (ne_alike _ _ v.0 _ v.1 c.ne.ensures c.if-ne.false) in
    record { down = c.requires.down; one_inside = assumption (one, other); other_inside = other }

pub returns-clause-label : goal.returns-clause-label
returns-clause-label c = λ m r col v labels open_of is here near none read.
    let upper_left = ne_alike _ _ v _ is c.ne.ensures c.if-ne.false in
    elim c.if-eq-2.branch [
      | then-eq-2+then-near w ↦ rw w.table-is (corners_joined m r col v c.args.table.now labels open_of c.args.near.now near read none _ here upper_left
          (is_alike _ _ v _ is c.eq-2.ensures.value w.if-eq-2.true) w.join_labels.auto.table (w.join_labels.ensures.reports open_of read.sound.reports))
      | else-eq-2 w ↦ rw w.table-is (corners_upper_left m r col v c.args.table.now labels open_of c.args.near.now near read none upper_left
          (λ upper_right. elim w.else-eq-2.branch [
            | else-eq-2-via-then-eq-2+else-near u ↦ (let e = u.if-near.false in omega arith)
            | else-eq-2-via-else-eq-2 u ↦ absurd (is_unlike _ _ v _ is c.eq-2.ensures.value u.if-eq-2.false upper_right)
          ]))
    ]
