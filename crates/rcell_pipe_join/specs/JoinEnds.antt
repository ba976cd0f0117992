-- The response to a join request (profile).
use Rattle.std.specs.Prelude.{ℕ, ◌≡◌, List, [], Option, Some, None, Result, Ok, Err}
use Rattle.cell_clumps.specs.declared.clump.Joining.{Joining}
use Rattle.cell_join_numbers.specs.declared.stretch.ConsecutiveClumps.{ConsecutiveClumps}
use Rattle.cell_join_patches.specs.declared.part.PatchOfTile.{PatchOfTile}
use Rattle.cell_join_patches.specs.JoinedPatches.{AreJoinedPatches}
use Rattle.cell_join_tiles.specs.JoinedTiles.{AreConsecutiveClumpsOfTiles, IsClumpCountOfTileGrid}
use Rattle.cell_join_tiles.specs.Values.{TileBorderValue}
use Rattle.cell_patches.specs.declared.patch.Patch.{Patch}
use Rattle.cell_stats_combinations.specs.Listed.{CombinationCounts}
use Rattle.rcell_pipe_request.specs.declared.error.RequestError.{RequestError}
use Rattle.rcell_pipe_response.specs.declared.end.PipeError.{PipeError}
use Rattle.rcell_pipe_response.specs.declared.end.PipeError.TheVariants as errors
use Rattle.rcell_pipe_frames.specs.FrameBytes.{response_bytes}
use Rattle.rcell_pipe_response.specs.RunEnds.{end_frame_of_successful_run, request_end, memory_end}
use Rattle.rcell_pipe_join.specs.TableEntries.{AreSumsOfTables}
use Rattle.rcell_pipe_join.specs.JoinFrames.{one_frame_response, numbering_bytes, table_sums_bytes}
use Rattle.rcell_pipe_join.specs.JoinFrames.{joined_patches_bytes, patch_sums_bytes}
use Rattle.rcell_pipe_join.specs.JoinRequests.{JoinRequestValue, BorderGrid, TableList, PatchList, PatchTableList}
use Rattle.rcell_pipe_join.specs.PatchTables.{AreSumsOfPatchTables, TileTable, entries_of_numbers, numbers_of_entries}

-- the runs and the number of patches of each map that is cut into tiles with these borders
pub record IsTileNumberingResponse (joining : Joining) (grid : List (List TileBorderValue))
    (response : List ℕ) : Type 0 where
  pub patches : ℕ
  pub runs : List ConsecutiveClumps
  pub numbers : AreConsecutiveClumpsOfTiles joining grid runs
  pub many : IsClumpCountOfTileGrid joining grid patches
  pub bytes : response ≡ one_frame_response (numbering_bytes patches runs) end_frame_of_successful_run

-- the sums of tables over a number of maps
pub record IsTableSumsResponse (width : ℕ) (tables : List CombinationCounts) (response : List ℕ) : Type 0 where
  pub sums : CombinationCounts
  pub are : AreSumsOfTables tables sums
  pub bytes : response ≡ one_frame_response (table_sums_bytes width sums) end_frame_of_successful_run

-- the patches of the full map, joined from their parts
pub record IsJoinedPatchesResponse (parts : List PatchOfTile) (response : List ℕ) : Type 0 where
  pub patches : List (ℕ × Patch)
  pub are : AreJoinedPatches parts patches
  pub bytes : response ≡ one_frame_response (joined_patches_bytes patches) end_frame_of_successful_run

-- the sums of patch tables over a number of maps
pub record IsPatchSumsResponse (runs : List ConsecutiveClumps) (width : ℕ) (tables : List TileTable)
    (response : List ℕ) : Type 0 where
  pub sums : List (Option ℕ × CombinationCounts)
  pub are : AreSumsOfPatchTables runs tables sums
  pub bytes : response ≡ one_frame_response (patch_sums_bytes width (numbers_of_entries sums)
      (entries_of_numbers sums)) end_frame_of_successful_run

-- the response contains what the request asks for
abbrev pub ResponseFulfillsJoinRequest : JoinRequestValue → List ℕ → Type 0
ResponseFulfillsJoinRequest (BorderGrid joining grid) response = IsTileNumberingResponse joining grid response
ResponseFulfillsJoinRequest (TableList width tables) response = IsTableSumsResponse width tables response
ResponseFulfillsJoinRequest (PatchList runs parts) response = IsJoinedPatchesResponse parts response
ResponseFulfillsJoinRequest (PatchTableList runs width tables) response =
    IsPatchSumsResponse runs width tables response

-- the bytes are a join request, and the response contains what it asks for
pub record IsJoinRequestFulfilled (read : Result JoinRequestValue RequestError) (response : List ℕ) : Type 0 where
  pub request : JoinRequestValue
  pub accepted : read ≡ Ok request
  pub joined : ResponseFulfillsJoinRequest request response

-- the complete response to a join request, for the error that it reports
abbrev pub IsJoinResponse : Result JoinRequestValue RequestError → List ℕ → Option PipeError → Type 0
IsJoinResponse read response None = IsJoinRequestFulfilled read response
IsJoinResponse read response (Some (errors.Request error)) = (read ≡ Err error) ×
    (response ≡ response_bytes [] (request_end error))
IsJoinResponse read response (Some (errors.Script error)) = ⊥
IsJoinResponse read response (Some (errors.Halo fault)) = ⊥
IsJoinResponse read response (Some (errors.Question error)) = ⊥
IsJoinResponse read response (Some errors.Memory) = response ≡ response_bytes [] (memory_end 0)
IsJoinResponse read response (Some (errors.MemoryAt line)) = ⊥
IsJoinResponse read response (Some errors.MemoryAtQuestion) = ⊥
IsJoinResponse read response (Some errors.Write) = ⊥
