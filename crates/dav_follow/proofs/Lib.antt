pub mod BehindLemmas
pub mod ShownLemmas
