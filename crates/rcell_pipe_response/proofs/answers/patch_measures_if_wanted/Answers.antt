use Rattle.std.proofs.Common.{◌≡◌, ◌∙◌, length, vec_len, arith}
use Rattle.rcell_pipe_response.proofs.answers.patch_measures_if_wanted.Goals as goal

pub returns-clause-measures : goal.returns-clause-measures
returns-clause-measures c =
    let patches = c.in_ok-patches.patches in
    let long : vec_len patches ≡ length patches.items = omega (arith, patches.ok.0) in
    rw c.if-not-question.false (
      c.in_ok-patches.ensures,
      rw (c.maps_without_halo-shelf.ensures.value, c.len.ensures ∙ long) at
          c.in_ok-zones.ensures.zones,
    )

pub returns-clause-long : goal.returns-clause-long
returns-clause-long c =
    let patches = c.in_ok-patches.patches in
    let long : vec_len patches ≡ length patches.items = omega (arith, patches.ok.0) in
    rw (c.len.ensures ∙ long) at c.in_ok-zones.ensures.long
