pub mod AdoptLemmas
pub mod BlockLemmas
mod ClearLemmas
mod CutLemmas
pub mod ElderLemmas
pub mod ElderPairLemmas
mod FrontLemmas
mod GoingLemmas
mod JournalLemmas
mod LookLemmas
mod MarkLemmas
mod MixedLemmas
mod OneLemmas
pub mod PairLemmas
mod PartLemmas
mod PartsLemmas
mod PassedLemmas
mod TwiceLemmas
mod WriteLemmas
