-- Worked runs, and the responses to requests.
pub mod WorkedRuns
pub mod WorkedTables
pub mod WorkedGrids
pub mod WorkedNumbers
pub mod WorkedClumps
pub mod SentResponses
pub mod WorkedRequests
