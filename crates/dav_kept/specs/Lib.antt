pub mod Error
pub mod Kept
pub mod Followed
pub mod Life
pub mod Records
