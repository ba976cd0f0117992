use Rattle.rcell_pipe_response.proofs.answers.border_if_wanted.Goals as goal

pub returns-clause-border : goal.returns-clause-border
returns-clause-border c = λ joining clumping.
    rw c.if-not-wanted.false
    (c.in_ok-border.ensures.border joining clumping, c.in_ok-border.ensures.size)
