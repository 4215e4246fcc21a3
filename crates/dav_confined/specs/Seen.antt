-- Plans that read at some paths alone: what they come to depends on what is there, and on the locks that cover these paths, and on nothing
-- else.
use Rattle.std.specs.Prelude.{◌≡◌, ◌≢◌, ⊤, ℕ, Bool, true, false, List, All, IfSome, Option, Some, None, Result, Ok, Err}
use Rattle.dav_core.specs.declared.errors.FsError.{FsError}
use Rattle.dav_core.specs.declared.errors.DavError.{DavError}
use Rattle.dav_core.specs.Asking.{Call, Answer, StoreState, Asks, Metadata, ReadDir, EntryMetadata, HaveProps, GetProps, GetProp, GetQuota, Open, Read}
use Rattle.dav_core.specs.CallLaws.{IsProper}
use Rattle.dav_core.specs.Handle.{Handle, Opening}
use Rattle.dav_core.specs.Locks.{Lock, covering}
use Rattle.dav_core.specs.Path.{Path, PathText, names, star, is_at_or_under}
use Rattle.dav_core.specs.World.{World, node_at, IsWorld}
use Rattle.dav_engine.specs.declared.request.Body.{Body}
use Rattle.dav_engine.specs.Caller.{Caller}
use Rattle.dav_engine.specs.Conditions.{Addressed, if_holds}
use Rattle.dav_engine.specs.Headers.{Headers}
use Rattle.dav_engine.specs.Method.{MethodPlan}
use Rattle.dav_engine.specs.Options.{options}
use Rattle.dav_engine.specs.Plan.{Done, Ask, Look, Locks, Ran}
use Rattle.dav_engine.specs.Propfind.{IsPropfind}
use Rattle.dav_engine.specs.Reply.{Reply}
use Rattle.dav_engine.specs.WorldLaws.{OnlyReads}

-- Two worlds agree at these paths: the same is there in both, with the same numbers and times, or nothing.
abbrev pub AgreeAt : (Path → Bool) → World → World → Type 0
AgreeAt seen w v = (p : Path) → seen p ≡ true → node_at w p ≡ node_at v p

-- In both lists the same locks cover each of these paths, in the same order.
abbrev pub CoverAlike : (Path → Bool) → List Lock → List Lock → Type 0
CoverAlike seen ls ks = (p : Path) → seen p ≡ true → covering p ls ≡ covering p ks

-- p and all paths below it are among these
abbrev pub AllUnder : (Path → Bool) → Path → Type 0
AllUnder seen p = (q : Path) → is_at_or_under q p ≡ true → seen q ≡ true

-- A call that reads what is at one of these paths, or lists the members of a folder of which all below is among them.
abbrev pub IsSeen : (Path → Bool) → Call → Type 0
IsSeen seen (Metadata p) = seen p ≡ true
IsSeen seen (EntryMetadata p) = seen p ≡ true
IsSeen seen (ReadDir p) = AllUnder seen p
IsSeen seen (HaveProps p) = ⊤
IsSeen seen (GetProps p content) = seen p ≡ true
IsSeen seen (GetProp p key) = seen p ≡ true
IsSeen seen GetQuota = ⊤
IsSeen seen _ = ⊥

-- Each call of the plan reads at these paths, or on a file that it opened there to read, and how it goes on after it has read the list of
-- locks depends on the locks that cover these paths alone. One file is open at a time: the number under which it was created.
pub data ReadsSeen (seen : Path → Bool) {A : Type 0} : Option ℕ → MethodPlan A → Type 0 where
  seen_done : {file : Option ℕ} {a : Result A DavError} → ReadsSeen seen file (Done a)
  seen_ask : {file : Option ℕ} {c : Call} {go : Result (Answer c) FsError → MethodPlan A}
      → IsSeen seen c → ((answer : Result (Answer c) FsError) → ReadsSeen seen file (go answer)) → ReadsSeen seen file (Ask c go)
  seen_look : {file : Option ℕ} {go : Locks → MethodPlan A}
      → ((ls ks : List Lock) → CoverAlike seen ls ks → go (Some ls) ≡ go (Some ks)) → ((ls : List Lock) → ReadsSeen seen file (go (Some ls)))
      → ReadsSeen seen file (Look go)
  seen_opens : {p : Path} {how : Opening} {now : ℕ} {go : Result Handle FsError → MethodPlan A}
      → seen p ≡ true → OnlyReads (Open p how now) → IsProper (Open p how now)
      → ((k : Handle) → ReadsSeen seen (Some k.made) (go (Ok k))) → ((e : FsError) → ReadsSeen seen None (go (Err e)))
      → ReadsSeen seen None (Ask (Open p how now) go)
  seen_reads : {made : ℕ} {k : Handle} {count : ℕ} {go : Result (List ℕ × Handle) FsError → MethodPlan A}
      → k.made ≡ made → ((answer : Result (List ℕ × Handle) FsError) → ReadsSeen seen (Some made) (go answer)) → ReadsSeen seen (Some made) (Ask (Read k count) go)

-- A plan that reads at some paths alone has the same outcome from two servers that agree there, in what is there and in the locks that
-- cover it, under the same refusals and where neither runs out of memory, whatever else they hold.
abbrev pub ReadersAgree : Type 0
ReadersAgree =
    (seen : Path → Bool) (plan : MethodPlan Reply) (old new old' new' : StoreState) (ls ks : List Lock) (ms ns : Locks) (a b : Result Reply DavError)
    → ReadsSeen seen None plan → Ran Asks plan old (Some ls) a new ms → Ran Asks plan old' (Some ks) b new' ns
    → new.short ≡ false → new'.short ≡ false → old.refusals ≡ old'.refusals → IsWorld old.world → IsWorld old'.world
    → AgreeAt seen old.world old'.world → CoverAlike seen ls ks → a ≡ b

-- An OPTIONS reads what is at its target alone.
abbrev pub OptionsReadsSeen : Type 0
OptionsReadsSeen = (seen : Path → Bool) (allowed : ℕ) (p : PathText) → seen (names p) ≡ true → ReadsSeen seen None (options allowed p)

-- The conditions of an If header read at the paths alone that its lists speak of (RFC 4918, section 10.4).
abbrev pub IfReadsSeen : Type 0
IfReadsSeen =
    (seen : Path → Bool) (o : Option (List Addressed))
    → ((lists : List Addressed) → o ≡ Some lists → All (λ l. IfSome l.path (λ q. seen q ≡ true)) lists) → ReadsSeen seen None (if_holds o)

-- A PROPFIND reads at its target and below it alone, whatever its depth is, and of the list of locks those that cover what it tells of.
abbrev pub PropfindReadsSeen : Type 0
PropfindReadsSeen =
    (seen : Path → Bool) (headers : Headers) (p : PathText) (content : Body) (who : Caller) (plan : MethodPlan Reply)
    → p.bytes ≢ star → AllUnder seen (names p) → IsPropfind headers p content who plan → ReadsSeen seen None plan
