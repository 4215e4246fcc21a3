mod WordsLemmas
mod LockedLemmas
mod MachineLemmas
mod TokenLemmas
mod StreamLemmas
mod HostLemmas
mod OneAnswer
mod MachineRuns
pub mod RunLemmas
pub mod ServingLemmas
pub mod TurnRuns
pub mod LifePromises
pub mod FirstDays
pub mod Restarts
pub mod AdmissionLemmas
mod LoginLemmas
mod ClockLemmas
mod GrantedLemmas
mod ListsLemmas
mod UnlockTexts
mod RejectionLemmas
mod PlainLemmas
mod VerdictLemmas
pub mod BehindRuns
