pub mod Exchange
pub mod Explained
pub mod Refusals
pub mod Spots
pub mod History
pub mod Laws
pub mod Place
pub mod Peer
