mod Each
pub mod PlacedLemmas
mod SettingLemmas
mod Printed
mod StoredTrees
mod PlainWords
mod SentParts
mod SentPlans
mod SentNames
mod SentSources
mod SentFinds
mod SentPatches
mod SentLocks
mod SentRemovals
mod SentOthers
mod SentSteps
mod SentOwners
mod SentRequests
mod SentTexts
mod Addressed
mod HeadTextLemmas
mod PresentedLemmas
mod ShownLemmas
mod ListingLemmas
pub mod RefusedLemmas
mod LeavesLemmas
mod LeavesSteps
mod HandingLemmas
pub mod OneAnswer
pub mod SavedLaws
pub mod SavedCalls
pub mod HolderLemmas
mod UploadedLemmas
