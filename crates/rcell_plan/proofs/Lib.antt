-- Lemmas that several proofs share.
pub mod FollowLemmas
pub mod HaloLemmas
pub mod LocalLemmas
pub mod MapLemmas
pub mod HaloReachLemmas
pub mod ShiftLemmas
pub mod TallyLemmas
pub mod TileLemmas
pub mod JoinedLemmas
pub mod LawLemmas
pub mod NeedLemmas
pub mod PlanLemmas
pub mod ReachLemmas
pub mod ReadLemmas
pub mod RewriteLemmas
