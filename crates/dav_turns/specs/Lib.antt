pub mod Frames
pub mod Connections
pub mod Turns
pub mod Laws
pub mod Streams
