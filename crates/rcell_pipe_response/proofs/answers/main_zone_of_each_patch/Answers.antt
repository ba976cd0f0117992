use Rattle.rcell_pipe_response.proofs.answers.main_zone_of_each_patch.Goals as goal

pub returns-in_ok-zones-in-Some-clause-zones : goal.returns-in_ok-zones-in-Some-clause-zones
returns-in_ok-zones-in-Some-clause-zones c = rw c.in-Some.is (
  c.map_named.result.now,
  (
    rw c.bytes.ensures.value at c.map_named.ensures.named,
    (c.in_ok-zones-in-Some.ensures.each, c.in_ok-zones-in-Some.ensures.long),
  ),
)
