-- Steps that keep all promises but one.
use Rattle.std.proofs.Common.{◌≡◌, ◌≢◌, ℕ, false, true≢false, List, [], ◌∷◌, All, Contains, codes, Some, Ok, inl, inr, refl, sym, ap, subst, ◌∙◌}
use Rattle.std.proofs.lemmas.List.Elements.{All-nil, All-cons, All-contains}
use Rattle.std.specs.List.{zip}
use Rattle.http_header.specs.FieldValue.{FieldValue}
use Rattle.http_header.specs.HeaderMap.{get_all}
use Rattle.dav_core.specs.declared.method.DavMethod.{DavMethod}
use Rattle.dav_core.specs.declared.method.DavMethod.TheVariants.{Put, Patch}
use Rattle.dav_core.specs.LockLaws.{CoveringAreShared}
use Rattle.dav_core.specs.Locks.{Lock, covers}
use Rattle.dav_core.specs.World.{World}
use Rattle.dav_headers.specs.ETagList.{IsTagList, star as every_tag}
use Rattle.dav_engine.specs.Guard.{folder_of, Stands}
use Rattle.dav_engine.specs.Members.{SameMembers}
use Rattle.dav_engine.specs.Plan.{ServerState}
use Rattle.dav_engine.specs.PropfindLaws.{responses_in}
use Rattle.dav_engine.specs.Reply.{Reply}
use Rattle.dav_engine.specs.Sparing.{Spared}
use Rattle.dav_server.specs.Head.{Request, IsHead}
use Rattle.dav_server.specs.Headers.{headers_of}
use Rattle.dav_server.specs.HrefLaws.{HasConcernedHref}
use Rattle.dav_server.specs.Machine.{Exchange}
use Rattle.dav_server.specs.Method.{GivesServed}
use Rattle.dav_server.specs.Promises.{OneStep, Promise, reading, created, refused, unmodified, updated, passed, kept, shared, tags, hrefs, members, Keeps}
use Rattle.dav_server.specs.Run.{Turn}
use Rattle.dav_server.specs.TagLaws.{is_safe, Shows, EqualTagsShowEqualBytes}
use Rattle.dav_server.specs.UpdateLaws.{is_update, IsSuccess}
use Rattle.dav_server.specs.WriteLaws.{IsRefusedStatus}
use Rattle.dav_server.proofs.HeadLemmas.{one_head}
use Rattle.dav_server.proofs.MeansWorld.{asks_one}
use Rattle.dav_server.proofs.WorkedRun.{turn_with, settings, no_tags}

-- a step that keeps all of them
abbrev pub KeepsAll : OneStep → Type 0
KeepsAll s = (d : Promise) → Keeps d s

-- one that breaks this promise, and keeps all others
pub record BreaksOnly (p : Promise) (s : OneStep) : Type 0 where
  pub broken : ¬ Keeps p s
  pub others : (d : Promise) → d ≢ p → Keeps d s

-- ---- what changes nothing

pub same_world : (h : Lock) (w : World) → Spared (covers h) w w
same_world h w = record { same = λ q within. refl; above = λ p q under within is. is }

-- where the list of locks stays, locks stand, and are shared as before
pub stand : (s : OneStep) → s.now.locks ≡ s.was.locks → Keeps kept s
stand s same h is unnamed fresh = subst (Stands h) (sym same) is

pub some_list : {ls ms : List Lock} → Some ls ≡ Some ms → ls ≡ ms
some_list is = cc

pub as_shared : (s : OneStep) → s.now.locks ≡ s.was.locks → Keeps shared s
as_shared s same ls ms were are shares = subst CoveringAreShared (some_list (sym were ∙ sym same ∙ are)) shares

-- a reply that is no multistatus has no hrefs
pub no_hrefs : (s : OneStep) → responses_in s.reply.body ≡ [] → Keeps hrefs s
no_hrefs s none = subst (All (HasConcernedHref s.settings s.turn.asked)) (sym none) (All-nil (HasConcernedHref s.settings s.turn.asked))

-- where no lock stands, none is passed
pub none_passed : (s : OneStep) → s.was.locks ≡ Some [] → Keeps passed s
none_passed s none h alone is unnamed = let on : Stands h (Some []) = subst (Stands h) none is in elim on [ ]

-- where the world stays, so do the members of folders
pub same_list : (s : OneStep) → s.now.store.world ≡ s.was.store.world → Keeps members s
same_list s same h alone is unnamed folder =
    subst (λ (w : World). SameMembers (folder_of h) s.was.store.world w) (sym same) (record { folder = folder; listed = refl })

-- where no lock stands, none is on a folder
pub none_on : (s : OneStep) → s.was.locks ≡ Some [] → Keeps members s
none_on s none h alone is unnamed folder = let on : Stands h (Some []) = subst (Stands h) none is in elim on [ ]

-- ---- what is asked of other requests

-- a request of this method, with this head
module _ (s : OneStep) (r : Request) (m : DavMethod) (head : IsHead s.turn.asked.head r) (served : GivesServed r.method (Ok m)) where
  pub unsafe : is_safe m ≡ false → Keeps reading s
  unsafe is (n, asks, safe) = absurd (true≢false (sym safe ∙ ap is_safe (sym (asks_one s.turn.asked n asks head served)) ∙ is))

  pub no_creation : m ≢ Put → m ≢ Patch → Keeps created s
  no_creation no_put no_patch p n (q, k, also, has, inl writes, named, says) there = absurd (no_put (asks_one s.turn.asked k (q, also, has) head served ∙ writes))
  no_creation no_put no_patch p n (q, k, also, has, inr writes, named, says) there = absurd (no_patch (asks_one s.turn.asked k (q, also, has) head served ∙ writes))

  pub no_star : get_all (headers_of r.fields) (codes "if-none-match") ≡ [] → Keeps created s
  no_star empty p n (q, k, also, has, writes, named, says) there =
      let same : q ≡ r = one_head s.turn.asked.head q r also head in
      absurd (no_tags every_tag (subst (λ (values : List FieldValue). IsTagList values every_tag) (ap (λ (z : Request). get_all (headers_of z.fields) (codes "if-none-match")) same ∙ empty) says))

no_refusal : (status : ℕ) → status ≢ 412 → status ≢ 423 → ¬ IsRefusedStatus status
no_refusal status one other (inl is) = one is
no_refusal status one other (inr is) = other is

pub answered : (s : OneStep) → s.reply.status ≢ 412 → s.reply.status ≢ 423 → s.reply.status ≢ 416 → Keeps refused s
answered s one other third = record {
  world = λ is. absurd (no_refusal s.reply.status one other is);
  locks = λ is reason. absurd (no_refusal s.reply.status one other is);
  range = λ is. absurd (third is);
}

pub no_304 : (s : OneStep) → s.reply.status ≢ 304 → Keeps unmodified s
no_304 s other end later p tag bytes is lacks shown = absurd (other is)

-- ---- what was told

nothing : {X : Type 0} (x : X) → ¬ Contains [] x
nothing x is = All-contains (λ y. ⊥) [] x (All-nil (λ y. ⊥)) is

-- one that fails, or that asks for no update, finds no bytes
pub no_success : (s : OneStep) → ¬ IsSuccess s.reply.status → Keeps updated s
no_success s fails p tag bytes told updates good = absurd (fails good)

pub no_update : (s : OneStep) (r : Request) (m : DavMethod) → IsHead s.turn.asked.head r → GivesServed r.method (Ok m) → is_update m ≡ false → Keeps updated s
no_update s r m head served is p tag bytes told (q, n, also, has, updates, named, asks) good =
    absurd (true≢false (sym updates ∙ ap is_update (sym (asks_one s.turn.asked n (q, also, has) head served)) ∙ is))

-- all replies that show bytes show these
abbrev pub ShowsOnly : List ℕ → Turn × Reply → Type 0
ShowsOnly bytes e = (tag others : List ℕ) → Shows tag others e.1 → others ≡ bytes

pub shows_nothing : (bytes : List ℕ) (t : Turn) (reply : Reply) → reply.status ≢ 200 → ShowsOnly bytes (t, reply)
shows_nothing bytes t reply other tag others shows = absurd (other shows.status)

pub one_text : (ts : List Turn) (replies : List Reply) (bytes : List ℕ) → All (ShowsOnly bytes) (zip ts replies) → EqualTagsShowEqualBytes ts replies
one_text ts replies bytes all tag b c (t, r, has, get, shows) (u, q, also, got, shown) =
    All-contains (ShowsOnly bytes) (zip ts replies) (t, r) all has tag b shows
    ∙ sym (All-contains (ShowsOnly bytes) (zip ts replies) (u, q) all also tag c shown)

-- ---- a first request

abbrev pub first_step : Exchange → Reply → ServerState → ServerState → OneStep
first_step x reply was now = record { settings = settings; front = []; turn = turn_with x; back = []; before = []; reply = reply; after = []; was = was; now = now }

module _ (x : Exchange) (reply : Reply) (was now : ServerState) where
  -- nothing was told before it
  pub untold : Keeps updated (first_step x reply was now)
  untold p tag bytes (inl (t, r, has, get, shows)) updates good = absurd (nothing (t, r) has)
  untold p tag bytes (inr (t, r, has, puts, tells)) updates good = absurd (nothing (t, r) has)

  pub shows_once : ShowsOnly [] (turn_with x, reply) → Keeps tags (first_step x reply was now)
  shows_once only = one_text (turn_with x ∷ []) (reply ∷ []) [] (All-cons (ShowsOnly []) (turn_with x, reply) [] only (All-nil (ShowsOnly [])))

  pub no_tag : reply.status ≢ 200 → Keeps tags (first_step x reply was now)
  no_tag other = shows_once (shows_nothing [] (turn_with x) reply other)
