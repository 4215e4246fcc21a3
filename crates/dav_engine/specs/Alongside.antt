-- Two runs of a plan, side by side, in worlds that have the same content in a guarded folder.
use Rattle.std.specs.Prelude.{◌≡◌, ◌++◌, ◌⊎◌, ℕ, ◌<◌, ◌≤◌, ⊤, Bool, true, false, List, Option, Some, None, Result, Ok, Err}
use Rattle.std.specs.Option.{is_some}
use Rattle.std.specs.declared.io.traits.SeekFrom.{SeekFrom}
use Rattle.dav_core.specs.declared.errors.FsError.{FsError}
use Rattle.dav_core.specs.declared.errors.FsError.TheVariants.{GeneralFailure}
use Rattle.dav_core.specs.declared.errors.DavError.{DavError}
use Rattle.dav_core.specs.declared.fs.DavMetaData.{DavMetaData}
use Rattle.dav_core.specs.Asking.{Call, Answer, meaning, next_refusal, StoreState, Asks, Metadata, ReadDir, EntryMetadata, CreateDir, RemoveDir, RemoveFile, Rename, Copy, HaveProps, PatchProps, GetProps, GetProp, GetQuota, Open, Read, Write, Seek, Flush, FileMetadata}
use Rattle.dav_core.specs.Handle.{Handle, Opening}
use Rattle.dav_core.specs.Locks.{Lock}
use Rattle.dav_core.specs.Path.{Path}
use Rattle.dav_core.specs.World.{World, Node, node_at, is_folder_kind, last_number, IsWorld}
use Rattle.dav_engine.specs.AnswerParts.{answers_of}
use Rattle.dav_engine.specs.Guard.{folder_of, IsGuard, Guards, IsListed, Guarded, Stands}
use Rattle.dav_engine.specs.Inside.{SameInside, HasFoldersAbove}
use Rattle.dav_engine.specs.Method.{MethodPlan}
use Rattle.dav_engine.specs.Plan.{Done, Ask, Look, Keep, Locks, Ran}
use Rattle.dav_engine.specs.Reply.{Reply}
use Rattle.dav_engine.specs.WorldLaws.{IsProperPlan}

-- ---- change numbers

-- The call may take a change number.
abbrev pub TakesNumber : Call → Type 0
TakesNumber (CreateDir p now) = ⊤
TakesNumber (Copy from to now) = ⊤
TakesNumber (Open p how now) = ⊤
TakesNumber (Write file bytes now) = ⊤
TakesNumber _ = ⊥

-- The call fails because no change number is left for it.
abbrev pub FindsNoNumber : Call → World → Type 0
FindsNoNumber call w = TakesNumber call × (meaning call w ≡ Err GeneralFailure)

-- One call of a lawful store to which change numbers are left: unless the list of refusals refuses the call, it finds a number
-- where it takes one.
abbrev pub AsksWithNumbers : (call : Call) → StoreState → Result (Answer call) FsError → StoreState → Type 0
AsksWithNumbers call old answer new = Asks call old answer new × (next_refusal old.refusals ≡ None → ¬ FindsNoNumber call old.world)

-- ---- answers that are the same but for numbers and times

-- Both results are values that R relates, or both are the same error.
abbrev pub SameResult : {A B E : Type 0} → (A → B → Type 0) → Result A E → Result B E → Type 0
SameResult R (Ok a) (Ok b) = R a b
SameResult R (Err e) (Err f) = e ≡ f
SameResult R _ _ = ⊥

-- Metadata that agree in the length, in whether they are a folder's, and in whether they have a change number.
pub record SameMetadata (m n : DavMetaData) : Type 0 where
  pub len : m.len ≡ n.len
  pub dir : m.dir ≡ n.dir
  pub numbered : is_some m.number ≡ is_some n.number

-- The file that is open in both runs: its path below the folder, and the change numbers under which it was created in the run
-- of all requests (`here`) and in the run of the holder's requests alone (`alone`).
pub record BothOpen : Type 0 where
  pub at : Path
  pub here : ℕ
  pub alone : ℕ

-- open files that differ only in the number under which their file was created
abbrev pub SameHandle : Handle → Handle → Type 0
SameHandle j k = k ≡ record j { made = k.made }

-- The open files j and k, one in each run, are this file.
pub record AreOpen (file : BothOpen) (j k : Handle) : Type 0 where
  pub same : SameHandle j k
  pub here : j.made ≡ file.here
  pub alone : k.made ≡ file.alone

-- The file at this path below the folder that was opened as j in one run and as k in the other.
abbrev pub opened_at : Path → Handle → Handle → Option BothOpen
opened_at rest j k = Some (record { at = rest; here = j.made; alone = k.made })

-- A call whose paths are all the folder or below it, and that neither opens a file nor needs an open one; or the one that asks
-- for the quota, which has no path.
abbrev pub IsCallInside : Path → Call → Type 0
IsCallInside folder (Metadata p) = (rest : Path) × (p ≡ folder ++ rest)
IsCallInside folder (ReadDir p) = (rest : Path) × (p ≡ folder ++ rest)
IsCallInside folder (EntryMetadata p) = (rest : Path) × (p ≡ folder ++ rest)
IsCallInside folder (CreateDir p now) = (rest : Path) × (p ≡ folder ++ rest)
IsCallInside folder (RemoveDir p now) = (rest : Path) × (p ≡ folder ++ rest)
IsCallInside folder (RemoveFile p now) = (rest : Path) × (p ≡ folder ++ rest)
IsCallInside folder (Rename from to now) = ((rest : Path) × (from ≡ folder ++ rest)) × ((rest : Path) × (to ≡ folder ++ rest))
IsCallInside folder (Copy from to now) = ((rest : Path) × (from ≡ folder ++ rest)) × ((rest : Path) × (to ≡ folder ++ rest))
IsCallInside folder (HaveProps p) = (rest : Path) × (p ≡ folder ++ rest)
IsCallInside folder (PatchProps p patches) = (rest : Path) × (p ≡ folder ++ rest)
IsCallInside folder (GetProps p content) = (rest : Path) × (p ≡ folder ++ rest)
IsCallInside folder (GetProp p key) = (rest : Path) × (p ≡ folder ++ rest)
IsCallInside folder GetQuota = ⊤
IsCallInside folder _ = ⊥

-- Two answers to a call are the same but for change numbers and times; nothing is said of the calls that have to do with open files.
abbrev pub SameAnswer : (c : Call) → Answer c → Answer c → Type 0
SameAnswer (Metadata p) m n = SameMetadata m n
SameAnswer (ReadDir p) a b = a ≡ b
SameAnswer (EntryMetadata p) m n = SameMetadata m n
SameAnswer (HaveProps p) a b = a ≡ b
SameAnswer (PatchProps p patches) a b = a ≡ b
SameAnswer (GetProps p content) a b = a ≡ b
SameAnswer (GetProp p key) a b = a ≡ b
SameAnswer GetQuota a b = a ≡ b
SameAnswer _ a b = ⊤

-- ---- plans side by side

-- Two plans, side by side, make the same calls at the guarded folder or below it, or on the file there that is open in both,
-- one file at a time; where the answers are the same but for change numbers and times, both go on in the same way. The lock h
-- guards the folder in each list of locks that they read or set. R holds of the file that is open at the end, and of what both
-- give. Whole plans may end by setting a list without the lock, both of them.
pub data Alongside {A : Type 0} (h : Lock) (whole : Bool) (R : Option BothOpen → A → A → Type 0) : Option BothOpen → MethodPlan A → MethodPlan A → Type 0 where
  side_ok : {file : Option BothOpen} {a b : A} → R file a b → Alongside h whole R file (Done (Ok a)) (Done (Ok b))
  side_err : {file : Option BothOpen} {e : DavError} → Alongside h whole R file (Done (Err e)) (Done (Err e))
  side_asks : {c : Call} {go go' : Result (Answer c) FsError → MethodPlan A}
      → IsCallInside (folder_of h) c → ((a b : Result (Answer c) FsError) → SameResult (SameAnswer c) a b → Alongside h whole R None (go a) (go' b))
      → Alongside h whole R None (Ask c go) (Ask c go')
  side_opens : {how : Opening} {now : ℕ} {go go' : Result Handle FsError → MethodPlan A} (rest : Path)
      → ((j k : Handle) → SameHandle j k → Alongside h whole R (opened_at rest j k) (go (Ok j)) (go' (Ok k))) → ((e : FsError) → Alongside h whole R None (go (Err e)) (go' (Err e)))
      → Alongside h whole R None (Ask (Open (folder_of h ++ rest) how now) go) (Ask (Open (folder_of h ++ rest) how now) go')
  side_reads : {file : BothOpen} {j k : Handle} {count : ℕ} {go go' : Result (List ℕ × Handle) FsError → MethodPlan A}
      → AreOpen file j k → ((a b : Result (List ℕ × Handle) FsError) → SameResult (λ x y. (x.0 ≡ y.0) × AreOpen file x.1 y.1) a b → Alongside h whole R (Some file) (go a) (go' b))
      → Alongside h whole R (Some file) (Ask (Read j count) go) (Ask (Read k count) go')
  side_writes : {file : BothOpen} {j k : Handle} {bytes : List ℕ} {now : ℕ} {go go' : Result Handle FsError → MethodPlan A}
      → AreOpen file j k → ((a b : Result Handle FsError) → SameResult (AreOpen file) a b → Alongside h whole R (Some file) (go a) (go' b))
      → Alongside h whole R (Some file) (Ask (Write j bytes now) go) (Ask (Write k bytes now) go')
  side_seeks : {file : BothOpen} {j k : Handle} {to : SeekFrom} {go go' : Result (ℕ × Handle) FsError → MethodPlan A}
      → AreOpen file j k → ((a b : Result (ℕ × Handle) FsError) → SameResult (λ x y. (x.0 ≡ y.0) × AreOpen file x.1 y.1) a b → Alongside h whole R (Some file) (go a) (go' b))
      → Alongside h whole R (Some file) (Ask (Seek j to) go) (Ask (Seek k to) go')
  side_flushes : {file : BothOpen} {j k : Handle} {go go' : Result (Unit {0}) FsError → MethodPlan A}
      → AreOpen file j k → ((a b : Result (Unit {0}) FsError) → SameResult (λ x y. Unit {0}) a b → Alongside h whole R (Some file) (go a) (go' b))
      → Alongside h whole R (Some file) (Ask (Flush j) go) (Ask (Flush k) go')
  side_tells : {file : BothOpen} {j k : Handle} {go go' : Result DavMetaData FsError → MethodPlan A}
      → AreOpen file j k → ((a b : Result DavMetaData FsError) → SameResult SameMetadata a b → Alongside h whole R (Some file) (go a) (go' b))
      → Alongside h whole R (Some file) (Ask (FileMetadata j) go) (Ask (FileMetadata k) go')
  side_look : {file : Option BothOpen} {go go' : Locks → MethodPlan A}
      → ((ls ks : List Lock) → Guards h ls → Guards h ks → Alongside h whole R file (go (Some ls)) (go' (Some ks))) → Alongside h whole R file (Look go) (Look go')
  side_keep : {file : Option BothOpen} {ls ks : List Lock} {rest rest' : MethodPlan A} → Guards h ls → Guards h ks → Alongside h whole R file rest rest' → Alongside h whole R file (Keep ls rest) (Keep ks rest')
  side_last : {file : Option BothOpen} {ls ks : List Lock} {a b : A} → whole ≡ true → ¬ IsListed h ls → ¬ IsListed h ks → R file a b → Alongside h whole R file (Keep ls (Done (Ok a))) (Keep ks (Done (Ok b)))

-- ---- worlds that are alike

-- At this path is a file that was created under this change number.
abbrev pub IsFileAt : World → Path → ℕ → Type 0
IsFileAt w p made = (n : Node) × (node_at w p ≡ Some n) × (n.made ≡ made) × (is_folder_kind n.kind ≡ false)

-- The file that is open in both runs, if there is one, is at its path in both worlds.
abbrev pub AreBothThere : Path → Option BothOpen → World → World → Type 0
AreBothThere folder None w v = Unit {0}
AreBothThere folder (Some file) w v = IsFileAt w (folder ++ file.at) file.here × IsFileAt v (folder ++ file.at) file.alone

-- Two worlds have the same content in a folder, there are folders above it in both, and the second has taken no more change
-- numbers than the first. The file that is open in both runs, if there is one, is there in both.
pub record AreAlike (folder : Path) (file : Option BothOpen) (w v : World) : Type 0 where
  pub same : SameInside folder w v
  pub next : v.next ≤ w.next
  pub above : HasFoldersAbove folder w
  pub above_alone : HasFoldersAbove folder v
  pub world : IsWorld w
  pub world_alone : IsWorld v
  pub there : AreBothThere folder file w v

-- What two runs side by side result in: related outcomes, alike worlds, and lists of locks in which the lock guards its folder
-- in both, or is in neither.
pub record Agrees {A : Type 0} (R : A → A → Type 0) (h : Lock) (a b : Result A DavError) (w v : World) (ms ks : Locks) : Type 0 where
  pub outcomes : SameResult R a b
  pub alike : AreAlike (folder_of h) None w v
  pub locks : (Guarded h ms × Guarded h ks) ⊎ (¬ Stands h ms × ¬ Stands h ks)

-- Replies whose compared parts are the same (`answers_of`).
abbrev pub SameAnswers : Reply → Reply → Type 0
SameAnswers a b = answers_of a ≡ answers_of b

-- An isolated plan has the same outcome from alike worlds, under the same refusals and where neither store ran
-- out of memory. Only the first run has to find its change numbers: the second then finds them too.
abbrev pub AlongsideAgree : Type 0
AlongsideAgree =
    (h : Lock) (plan : MethodPlan Reply) (old new old' new' : StoreState) (ls ms ls' ms' : Locks) (a b : Result Reply DavError)
    → IsGuard h → Alongside h true (λ file. SameAnswers) None plan plan → IsProperPlan plan
    → Ran AsksWithNumbers plan old ls a new ms → Ran Asks plan old' ls' b new' ms' → new.short ≡ false → new'.short ≡ false → old.refusals ≡ old'.refusals
    → Guarded h ls → Guarded h ls' → AreAlike (folder_of h) None old.world old'.world → Agrees SameAnswers h a b new.world new'.world ms ms'

-- Where the next change number is below the last one after a plan's run, the run found each number that it took.
abbrev pub SpareNumbersSuffice : Type 0
SpareNumbersSuffice =
    (plan : MethodPlan Reply) (old new : StoreState) (ls ms : Locks) (a : Result Reply DavError)
    → IsProperPlan plan → IsWorld old.world → Ran Asks plan old ls a new ms → new.world.next < last_number
    → Ran AsksWithNumbers plan old ls a new ms
