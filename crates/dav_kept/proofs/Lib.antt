pub mod KeptLemmas
pub mod LifeLemmas
pub mod RecordLemmas
