mod ConfinedPlans
pub mod GrantedLemmas
pub mod LeaveLemmas
pub mod ReachedLemmas
mod ReadingLemmas
mod SeenGet
mod SeenLemmas
mod SeenPropfind
pub mod StepsConfined
mod StepsSeen
mod StoringPlans
