pub mod Names
pub mod Told
pub mod Ways
pub mod Bodies
pub mod Laws
