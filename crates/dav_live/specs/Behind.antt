-- A live server behind another one, whose state it shows until it takes its place.
use Rattle.std.specs.Prelude.{◌≡◌, ℕ, Bool, true, List, [], ◌++◌, Option, string_bytes}
use Rattle.std.specs.List.{concat}
use Rattle.http_server.specs.declared.response.Response.{Response}
use Rattle.sqlite_disk.specs.declared.Disk.{Ghosts}
use Rattle.dav_follow.specs.Following.{behind}
use Rattle.dav_follow.specs.declared.following.Following.{Following}
use Rattle.dav_journal.specs.Pair.{IsCleanPair}
use Rattle.dav_journal.specs.declared.pair.Pair.{Pair}
use Rattle.dav_kept.specs.Followed.{followed_by}
use Rattle.dav_kept.specs.Kept.{PlaysRecords, StaysAsKept, answer_step, journal_of}
use Rattle.dav_kept.specs.Records.{RequestView}
use Rattle.dav_kept.specs.declared.followed.Followed.{Followed}
use Rattle.dav_kept.specs.declared.kept.Kept.{Kept}
use Rattle.dav_server.specs.Server.{Server}
use Rattle.dav_turns.specs.Connections.{TurnsView}
use Rattle.dav_turns.specs.Turns.{Keeping}
use Rattle.dav_wire.specs.declared.answer.Asked.{Asked}
use Rattle.dav_wire.specs.declared.answer.Rejection.{Rejection}
use Rattle.dav_live.specs.Admission.{gone_on}
use Rattle.dav_live.specs.Answers.{IsAnswer, IsLook, IsNextEnd, IsNotRun}
use Rattle.dav_live.specs.Serving.{IsGreeted, IsJudged, IsListed, IsPassed, IsPlaced, Serves, admission_of, held_of, kept_of, logins_of}
use Rattle.dav_live.specs.declared.follower.Follower.{Follower}
use Rattle.dav_live.specs.declared.service.Service.{Service}

-- ---- what is heard

-- A service heard what another server kept since: the records of these blocks were played, each once and in order. Where that goes on with
-- what was heard before, these are all the blocks that follow it, as far as one was heard before, and the other one hasn't begun anew.
pub record HearsKept {H J : Type 0} (answers : H → RequestView → Response → H → Type 0) (is_clean is_unturned : J → Type 0)
    (has_so_far has_all : J → List (List ℕ) → Type 0) (old : Service H J) (goes : Bool) (new : Service H J) : Type 0 where
  pub blocks : List (List ℕ)
  pub plays : PlaysRecords (answer_step answers) (concat blocks) (held_of old) (held_of new)
  pub reads : goes ≡ true → is_clean (journal_of (kept_of new)) → (before : List (List ℕ)) → has_so_far (journal_of (kept_of old)) before
      → has_all (journal_of (kept_of new)) (before ++ blocks)
  pub unturned : goes ≡ true → is_clean (journal_of (kept_of new)) → is_unturned (journal_of (kept_of new))
  pub stays : StaysAsKept (kept_of old) (kept_of new)
  pub clean : is_clean (journal_of (kept_of new)) → is_clean (journal_of (kept_of old))
  pub admission : admission_of new ≡ gone_on (held_of new).latest (admission_of old)
  pub logins : logins_of new ≡ logins_of old

-- ---- a server

-- the prefix of its paths
abbrev pub prefix_behind : {D : Type 0} → Follower D → List ℕ
prefix_behind f = string_bytes f.prefix

-- its connections, by their slots
abbrev pub turns_behind : {D : Type 0} → Follower D → TurnsView
turns_behind f = f.turns

-- what answers their requests: the machine, which another server's journal has
abbrev pub following_of : {D : Type 0} → Follower D → Following (Service Server (Followed (Pair D)))
following_of f = f.following

-- its server, with the journal
abbrev pub kept_behind : {D : Type 0} → Follower D → Kept Server (Followed (Pair D))
kept_behind f = kept_of (following_of f).keeper

-- no wrong answer of a file was taken for a true one
abbrev pub IsCleanBehind : {D : Type 0} → Ghosts D → Followed (Pair D) → Type 0
IsCleanBehind g f = IsCleanPair g (followed_by f)

-- nothing is kept here
abbrev pub KeepsNone : {D : Type 0} → Followed (Pair D) → List (List ℕ) → Type 0
KeepsNone f blocks = ⊥

-- What it does as a keeper: it answers what only reads as the machine does, and keeps nothing.
abbrev pub doing_behind : {D : Type 0} → Ghosts D → Keeping (Following (Service Server (Followed (Pair D))))
doing_behind {D} g =
    behind (λ (old : Service Server (Followed (Pair D))) (head : List ℕ) (verdict : Option Rejection) (new : Service Server (Followed (Pair D))). IsJudged old head verdict new)
    (λ (old : Service Server (Followed (Pair D))) (asked : Asked) (sent : Response) (new : Service Server (Followed (Pair D))). Serves IsAnswer IsNotRun IsLook (λ j. IsCleanBehind g j) (λ j blocks. KeepsNone j blocks) old asked sent new)
    (λ (old : Service Server (Followed (Pair D))) (bytes : List ℕ) (new : Service Server (Followed (Pair D))). IsGreeted old bytes new)
    (λ (old : Service Server (Followed (Pair D))) (bytes : List ℕ) (new : Service Server (Followed (Pair D))). IsListed old bytes new)
    (λ (old : Service Server (Followed (Pair D))) (address : List ℕ) (new : Service Server (Followed (Pair D))). IsPlaced old address new)
    (λ (old : Service Server (Followed (Pair D))) (seconds date : ℕ) (new : Service Server (Followed (Pair D))). IsPassed IsAnswer (λ j. IsCleanBehind g j) (λ j blocks. KeepsNone j blocks) (λ (s : Server) (now : ℕ) (head : Option (List ℕ)). IsNextEnd s.state.locks now head) old seconds date new)
    (λ (s : Service Server (Followed (Pair D))). (held_of s).batch ≡ [])
