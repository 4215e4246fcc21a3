pub mod Parts
pub mod Watches
pub mod Added
pub mod Limits
