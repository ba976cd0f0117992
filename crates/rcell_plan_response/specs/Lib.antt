-- Plan requests and their responses, and the responses to requests of any form.
pub mod PlanRequests
pub mod MapNames
pub mod PlanOptions
pub mod RuleLabels
pub mod PlanFrames
pub mod PlanEnds
pub mod Responses
pub mod TileResponseLaw
pub mod parts
