pub mod FrameLemmas
pub mod Carried
pub mod Readings
pub mod RestLemmas
pub mod RoomLemmas
pub mod SlotLemmas
pub mod StreamLemmas
pub mod TurnLemmas
