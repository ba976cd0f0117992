use Rattle.std.proofs.Common.{Ok, None, refl}
use Rattle.rcell_pipe_response.proofs.EndLemmas.{ends_as}
use Rattle.rcell_pipe_join.specs.JoinEnds.{IsJoinResponse}
use Rattle.rcell_pipe_join.specs.JoinRequests.{PatchList}
use Rattle.rcell_pipe_join.proofs.join_response.respond_with_joined_patches.Goals as goal

pub returns : goal.returns
returns g c =
    let request = PatchList c.args.patches.now.numbering c.args.patches.now.joiner in
    ends_as (IsJoinResponse (Ok request)) None
    (record {
      request = request;
      accepted = refl;
      joined = record { patches = c.patches.result.now.entries; are = c.patches.ensures; bytes = refl };
    }) (λ write. cc) c.write_joined_patches_response.ensures
