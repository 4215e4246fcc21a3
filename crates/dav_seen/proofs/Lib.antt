mod ListingLemmas
mod LoopLemmas
mod MemberLemmas
mod ReplyLemmas
pub mod SightLemmas
mod WayLemmas
