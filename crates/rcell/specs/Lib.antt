-- What a run reads, makes, writes and reports.
pub mod Making
pub mod Sources
pub mod SourcesLaw
pub mod RunFaults
pub mod Loading
pub mod ScriptText
pub mod After
pub mod Output
pub mod OutputLaw
pub mod StatsLaw
pub mod Reports
pub mod parts
pub mod runs
