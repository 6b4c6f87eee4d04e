pub mod Ahead
pub mod Bytes
pub mod FrameLaws
pub mod Frames
pub mod Heads
pub mod Quotes
pub mod Spelling
pub mod WholeFrames
