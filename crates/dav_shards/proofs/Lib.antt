mod FolderLemmas
mod PartLemmas
mod LawLemmas
