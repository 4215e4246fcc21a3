pub mod Spelling
pub mod Reading
pub mod Trees
pub mod Front
pub mod Parts
pub mod Worlds
pub mod Locks
pub mod Terms
