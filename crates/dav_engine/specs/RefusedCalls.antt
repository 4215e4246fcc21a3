-- Calls that are refused while a plan is carried out, by their kind.
use Rattle.std.specs.Prelude.{◌≡◌, Bool, true, false, not, List, Result, Err}
use Rattle.std.specs.Result.{is_ok}
use Rattle.dav_core.specs.declared.errors.FsError.{FsError}
use Rattle.dav_core.specs.Asking.{Call, Answer, StoreState, Asks, ReadDir, EntryMetadata, Open, Write, Seek, Flush}
use Rattle.dav_core.specs.Locks.{Lock}
use Rattle.dav_core.specs.World.{World, is_folder, is_missing}
use Rattle.dav_engine.specs.Plan.{Plan, Ask, Look, Keep, Locks, kept, CallStep, Ran}

-- A kind of calls of a store; whether a call is of it may depend on the world that the store holds.
abbrev pub CallKind : Type 0
CallKind = World → Call → Bool

-- the call lists a folder that is there, or asks for the metadata of a member that is there (RFC 4918, section 9.1)
abbrev pub lists_what_is_there : CallKind
lists_what_is_there w (ReadDir p) = is_folder w p
lists_what_is_there w (EntryMetadata p) = not (is_missing w p)
lists_what_is_there w call = false

-- the call opens a file
abbrev pub opens_file : CallKind
opens_file w (Open p how now) = true
opens_file w call = false

-- the call seeks a place in an open file
abbrev pub seeks_place : CallKind
seeks_place w (Seek file to) = true
seeks_place w call = false

-- the call seeks a place in an open file, writes to it or flushes it
abbrev pub uses_file : CallKind
uses_file w (Seek file to) = true
uses_file w (Write file bytes now) = true
uses_file w (Flush file) = true
uses_file w call = false

-- One call of a lawful store that doesn't refuse calls of this kind.
abbrev pub AsksAnswered : CallKind → CallStep
AsksAnswered kind call old answer new = Asks call old answer new × (kind old.world call ≡ true → is_ok answer ≡ true)

-- From the first store and list of locks, the plan may end with this outcome, leave the second store and list, and have met a refusal of a
-- call of this kind: by the list of refusals, by the call's own rules, or because memory ran out.
pub data RanRefused (kind : CallKind) {A : Type 0} : Plan A → StoreState → Locks → A → StoreState → Locks → Type 0 where
  refused_now : {c : Call} {go : Result (Answer c) FsError → Plan A} {old mid new : StoreState} {ls ms : Locks} {e : FsError} {a : A}
      → kind old.world c ≡ true → Asks c old (Err e) mid → Ran Asks (go (Err e)) mid ls a new ms → RanRefused kind (Ask c go) old ls a new ms
  refused_later : {c : Call} {go : Result (Answer c) FsError → Plan A} {old mid new : StoreState} {ls ms : Locks} {answer : Result (Answer c) FsError} {a : A}
      → Asks c old answer mid → RanRefused kind (go answer) mid ls a new ms → RanRefused kind (Ask c go) old ls a new ms
  refused_after_look : {go : Locks → Plan A} {old new : StoreState} {ls ms : Locks} {a : A} → RanRefused kind (go ls) old ls a new ms → RanRefused kind (Look go) old ls a new ms
  refused_after_keep : {locks : List Lock} {rest : Plan A} {old new : StoreState} {ls ms : Locks} {a : A}
      → RanRefused kind rest old (kept ls locks) a new ms → RanRefused kind (Keep locks rest) old ls a new ms
