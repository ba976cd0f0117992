-- What a status of 0 means.
use Rattle.std.proofs.Common.{◌≡◌, ◌∙◌, ℕ, Bool, true, false, List, [], ◌∷◌, drop, length, Option}
use Rattle.std.proofs.Common.{Some, None, refl, ap, sym, subst, arith}
use Rattle.std.specs.Prelude.{◌≢◌, ◌==◌, ◌&&◌, if◌then◌else◌}
use Rattle.std.proofs.lemmas.Bool.{eq-eqb}
use Rattle.std.proofs.lemmas.List.{drop_all}
use Rattle.cell_core_devices.specs.Device.{ComingBytes, SinkFaults, faults_after_flush}
use Rattle.cell_core_devices.specs.declared.source.Asked.{Asked}
use Rattle.cell_core_devices.specs.declared.source.Asked.TheVariants.{Ended}
use Rattle.rcell_pipe_request.specs.declared.error.ErrorKind.{ErrorKind}
use Rattle.rcell_pipe_request.specs.declared.error.ErrorKind.TheVariants as kinds
use Rattle.rcell_pipe_request.specs.Supposed.{list_starts_with, is_empty_list, source_may_hold}
use Rattle.rcell_pipe_response.specs.declared.end.PipeError.{PipeError}
use Rattle.rcell_pipe_response.specs.declared.end.PipeError.TheVariants as errors
use Rattle.rcell_pipe_response.specs.RunEnds.{IsResponseWritten, IsTextAcceptedBySink, exit_status_of_pipe_run}
use Rattle.rcell_pipe_response.specs.RunEnds.{exit_status_of_request_error}
use Rattle.rcell_plan_response.specs.Responses.{IsReadStateForError, IsResponseToReturnedBytes}
use Rattle.rcell_pipe.specs.Exchanges.{IsExchangeSuccessful}

kind_status : (kind : ErrorKind) → exit_status_of_request_error kind ≡ 0 → ⊥
kind_status kinds.ReadFailed is = cc
kind_status kinds.BadMagic is = cc
kind_status kinds.Short is = cc
kind_status kinds.BadPlace is = cc
kind_status kinds.BadCount is = cc
kind_status kinds.BadName is = cc
kind_status kinds.NameTwice is = cc
kind_status kinds.BadNumber is = cc
kind_status kinds.BadRegion is = cc
kind_status kinds.BadType is = cc
kind_status kinds.BadFlags is = cc
kind_status kinds.BadNodata is = cc
kind_status kinds.BadLabel is = cc
kind_status kinds.BadMask is = cc
kind_status kinds.CellRange is = cc
kind_status (kinds.Grid kind) is = cc
kind_status kinds.OtherRegion is = cc
kind_status kinds.ScriptSize is = cc
kind_status kinds.BadQuestion is = cc
kind_status kinds.BadConnectivity is = cc
kind_status kinds.BadDepth is = cc
kind_status kinds.BadZones is = cc
kind_status kinds.BadKind is = cc
kind_status kinds.BadTileCount is = cc
kind_status kinds.OtherConnectivity is = cc
kind_status kinds.OtherPlace is = cc
kind_status kinds.BadSize is = cc
kind_status kinds.OtherSize is = cc
kind_status kinds.BadBorder is = cc
kind_status kinds.TooManyPatches is = cc
kind_status kinds.BadWidth is = cc
kind_status kinds.BadTableCount is = cc
kind_status kinds.ZeroCount is = cc
kind_status kinds.TooManyCells is = cc
kind_status kinds.BadRun is = cc
kind_status kinds.PatchOrder is = cc
kind_status kinds.UnknownPatch is = cc
kind_status kinds.BadPatch is = cc
kind_status kinds.OtherClass is = cc
kind_status kinds.Trailing is = cc

no_error : (error : Option PipeError) → exit_status_of_pipe_run error ≡ 0 → error ≡ None
no_error None is = refl
no_error (Some (errors.Request error)) is = absurd (kind_status error.kind is)
no_error (Some (errors.Script error)) is = cc
no_error (Some (errors.Halo fault)) is = cc
no_error (Some (errors.Question error)) is = cc
no_error (Some errors.Memory) is = cc
no_error (Some (errors.MemoryAt line)) is = cc
no_error (Some errors.MemoryAtQuestion) is = cc
no_error (Some errors.Write) is = cc

begins_itself : (xs : List ℕ) → list_starts_with xs xs ≡ true
unfolding list_starts_with
begins_itself [] = refl
begins_itself (x ∷ xs) = ap (λ b. if b then list_starts_with xs xs else false) (eq-eqb x x refl) ∙ begins_itself xs

-- a source that has ended can hold exactly the bytes that it gave
holds_given : (gave : List ℕ) → source_may_hold gave Ended (record { bytes = gave; fails = false }) ≡ true
unfolding source_may_hold
holds_given gave =
    let rest : drop (length gave) gave ≡ [] = drop_all (length gave) gave (omega arith) in
    ap (λ b. b && (is_empty_list (drop (length gave) gave) && true)) (begins_itself gave)
    ∙ ap (λ (xs : List ℕ). true && (is_empty_list xs && true)) rest

-- if there is no error, the request was accepted
pub answered : (before gave : List ℕ) (asked : Asked) (taken : Option (List ℕ)) (start : SinkFaults)
    (now : Option (List ℕ))
    (after : SinkFaults) (error reported : Option PipeError) (written status : ℕ)
    → status ≡ 0 → status ≡ exit_status_of_pipe_run error
    → (error ≢ Some errors.Write → error ≡ reported) → (error ≢ Some errors.Write
    → after ≡ faults_after_flush start false)
    → IsReadStateForError reported asked
    → IsResponseWritten (IsResponseToReturnedBytes before gave asked) taken now reported error written
    → IsExchangeSuccessful before gave asked taken start now after
answered before gave asked taken start now after error reported written status zero of_error same flushed read responded =
    let none : error ≡ None = no_error error (sym of_error ∙ zero) in
    let fine : error ≢ Some errors.Write = λ write. (let no : None ≡ Some errors.Write = sym none ∙ write in cc) in
    let nothing : reported ≡ None = sym (same fine) ∙ none in
    let ended : asked ≡ Ended = subst (λ (e : Option PipeError). IsReadStateForError e asked) nothing read in
    let is = subst (λ (a : Asked). IsResponseToReturnedBytes before gave a responded.response reported) ended
    responded.is in
    record {
      ended = ended;
      response = responded.response;
      defined = subst (λ (e : Option PipeError). IsResponseToReturnedBytes before gave Ended responded.response e)
          nothing is
          (record { bytes = gave; fails = false }) (holds_given gave);
      accepted = (subst (λ (e : Option PipeError). IsTextAcceptedBySink responded.response taken now e written) none responded.taken).0;
      flushed = flushed fine;
    }
