-- The meaning of a request's bytes, and their first error.
pub mod RequestFields
pub mod RequestRegions
pub mod Heads
pub mod Rows
pub mod TextMaps
pub mod Questions
pub mod RequestPlaces
pub mod Requests
pub mod Supposed
pub mod Feeds
pub mod parts
