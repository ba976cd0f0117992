-- Values of words in vector lanes, and the lanes that bits select.
pub mod NullLanes
pub mod NumberLanes
pub mod WordLanes
pub mod parts
