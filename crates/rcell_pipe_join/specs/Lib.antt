-- Join requests and their responses.
pub mod TableEntries
pub mod PatchLists
pub mod PatchTables
pub mod JoinRequests
pub mod JoinFrames
pub mod JoinEnds
pub mod JoinLaw
pub mod SumLaw
pub mod RunSumLaw
pub mod FrameSumLaw
pub mod PatchSumLaw
pub mod parts
