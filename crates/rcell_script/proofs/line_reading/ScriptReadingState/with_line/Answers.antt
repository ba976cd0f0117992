use Rattle.std.proofs.Common.{◌≡◌}
use Rattle.rcell_script.proofs.SoundLemmas.{IsSound-head, IsSound-rules, IsSound-closed}
use Rattle.rcell_script.proofs.line_reading.ScriptReadingState.with_line.Goals as goal

pub returns-in-Some-clause-sound : goal.returns-in-Some-clause-sound
returns-in-Some-clause-sound c =
    IsSound-rules c.args.self c.args.line c.in-Some.block _ c.with_rule.result c.in-Some.is c.with_rule.ensures.next

pub returns-in-Ok-with_head-clause-sound : goal.returns-in-Ok-with_head-clause-sound
returns-in-Ok-with_head-clause-sound c = λ first sound.
    IsSound-head first _ _ c.args.line c.in-Ok.head c.requires.line c.in-Ok.ensures.fits c.in-Ok-with_head.ensures
    (IsSound-closed first c.args.self sound)
