-- The frames of a response and their bytes.
pub mod Frames
pub mod FrameBytes
pub mod FrameLaw
pub mod TileFrameLaw
pub mod parts
