-- A live server leaves the content at paths where nobody who makes a request may write.
use Rattle.std.proofs.Common.{◌≡◌, ◌≤◌, inl, inr, ℕ, Bool, false, IfSome, List, [], ◌∷◌, Option, Some, None, refl, sym, ap, subst, ◌∙◌, arith}
use Rattle.http_server.specs.declared.response.Response.{Response}
use Rattle.sqlite_disk.specs.declared.Disk.{Ghosts}
use Rattle.dav_access.specs.Logins.{LoginsView}
use Rattle.dav_access.specs.Rules.{Rules, may_read, may_write}
use Rattle.dav_confined.specs.ConfinedSteps.{KeepsOff}
use Rattle.dav_confined.specs.Leave.{HasLeave, Permits}
use Rattle.dav_confined.specs.Seen.{AgreeAt, CoverAlike}
use Rattle.dav_confined.proofs.GrantedLemmas.{answers_stay_in_grants, keeps_off}
use Rattle.dav_confined.proofs.StepsConfined.{spared_on, step_spares}
use Rattle.dav_core.specs.Locks.{Lock}
use Rattle.dav_core.specs.Path.{Path}
use Rattle.dav_core.specs.World.{IsWorld, last_moment}
use Rattle.dav_core.proofs.Theorems.{empty_is_world}
use Rattle.dav_engine.specs.Guard.{OnList}
use Rattle.dav_engine.specs.Plan.{Locks}
use Rattle.dav_engine.specs.Reply.{Reply}
use Rattle.dav_engine.specs.Sparing.{AnyList, Spared}
use Rattle.dav_http.specs.Steps.{IsStepFor, new_server}
use Rattle.dav_http.specs.Uploaded.{time_body, time_head}
use Rattle.dav_http.proofs.OneAnswer.{one_exchange}
use Rattle.dav_journal.specs.Pair.{IsCleanPair, IsKeptPair}
use Rattle.dav_journal.specs.declared.pair.Pair.{Pair}
use Rattle.dav_http.specs.Saved.{IsSaveable, saved_bytes}
use Rattle.dav_kept.specs.Kept.{Holding, RecordsRun, answer_step, held_by}
use Rattle.dav_kept.specs.Records.{RecordView, RequestView}
use Rattle.dav_kept.specs.declared.kept.Kept.{Kept}
use Rattle.dav_server.specs.Head.{IsHead, Request}
use Rattle.dav_server.specs.Machine.{Exchange, Settings, Steps}
use Rattle.dav_server.specs.Server.{Server}
use Rattle.dav_server.proofs.MeansWorld.{step_keeps}
use Rattle.dav_turns.proofs.Carried.{Carries, turn_carries}
use Rattle.dav_wire.specs.declared.answer.Asked.{Asked}
use Rattle.dav_live.specs.Admission.{AdmissionView, HasLeaveIn, IsLetIn, IsRequestOf}
use Rattle.dav_live.specs.Answers.{IsAnswer, IsLook, IsNextEnd, IsNotRun, caller_of}
use Rattle.dav_live.specs.Granted.{IsKeptOut, IsSound, LivesAreSound, RepliesStayInGrants, TurnsStayInGrants, TurnsStaySound, doing_elsewhere, world_of}
use Rattle.dav_live.specs.LiveRun.{doing}
use Rattle.dav_live.specs.Serving.{EndsLocks, IsCommitted, IsEnded, IsGreeted, IsListed, IsMarked, IsPassed, IsReplyTo, IsResponseTo, IsRun, IsRunWhole, IsTimed, Serves, StaysAll, admission_of, all, anew, answered, belonging_to, full, headless, heard, held_of, kept_of, logins_of, no_head, none, not_run, one, own_request, refused, run, shown_way, stuck, told, told_to_wait, turned_away, untold, without_leave}
use Rattle.dav_live.specs.declared.service.Service.{Service}
use Rattle.dav_live.proofs.MachineRuns.{step_of}
use Rattle.dav_live.proofs.UnlockTexts.{unlock_keeps_off}

-- ---- from one server to another

-- a server holds a world and a list of locks
record IsGood (s : Server) : Type 0 where
  world : IsWorld s.state.store.world
  list : List Lock
  locks : s.state.locks ≡ Some list

some_list : (ms : Locks) → OnList AnyList ms → (list : List Lock) × (ms ≡ Some list)
some_list None on = absurd on
some_list (Some list) on = (list, refl)

module _ (covered : Path → Bool) where
  -- what is covered has the same content, and the server stays a good one
  record Leads (old new : Server) : Type 0 where
    spared : Spared covered old.state.store.world new.state.store.world
    good : IsGood new
    settings : new.settings ≡ old.settings

  leads_same : (s t : Server) → t ≡ s → IsGood s → Leads s t
  leads_same s t same good =
      subst (Leads s) (sym same) (record { spared = record { same = λ q within. refl; above = λ p q up within folder. folder }; good = good; settings = refl })

  leads_on : (a b c : Server) → Leads a b → Leads b c → Leads a c
  leads_on a b c first second = record {
    spared = spared_on covered a.state.store.world b.state.store.world c.state.store.world first.spared second.spared;
    good = second.good;
    settings = second.settings ∙ first.settings;
  }

  -- whatever the machine gets of a request, it keeps off
  abbrev Off : Settings → RequestView → Type 0
  Off s q = (x : Exchange) → x.head ≡ q.head → x.principal ≡ q.principal → KeepsOff covered s x

  step_leads : (old new : Server) (q : RequestView) (reply : Reply) → IsStepFor q.head q.body (caller_of q) old reply new → Off old.settings q → IsGood old → Leads old new
  step_leads old new q reply step off good =
      let x = step.exchange in
      let small : x.moment ≤ last_moment = omega (arith, step.is_exchange.moment) in
      let ran : Steps old.settings x old.state.store (Some good.list) reply new.state.store new.state.locks =
      subst (λ (l : Locks). Steps old.settings x old.state.store l reply new.state.store new.state.locks) good.locks step.answers in
      let spares = step_spares covered old.settings x (off x step.is_exchange.head_is step.is_exchange.principal) small good.world ran in
      let locks = some_list new.state.locks spares.1 in
      record {
        spared = spares.0;
        good = record { world = (step_keeps small good.world ran).world; list = locks.0; locks = locks.1 };
        settings = step.same;
      }

  answer_leads : (old new : Server) (q : RequestView) (sent : Response) → IsAnswer old q sent new → Off old.settings q → IsGood old → Leads old new
  answer_leads old new q sent is off good = let step = step_of old new q sent is in step_leads old new q step.0 step.1 off good

  run_leads : (old new : Holding Server) (q : RequestView) (own : Response) → IsRun IsAnswer old q own new → Off old.state.settings q → IsGood old.state → Leads old.state new.state
  run_leads old new q own (answered does is) off good = answer_leads old.state new.state q own is.is_answer off good
  run_leads old new q own (full status same) off good = leads_same old.state new.state (ap (λ (h : Holding Server). h.state) same) good

  -- ---- locks end

  own_off : (s : Settings) (locks : Locks) (moment : ℕ) (head : List ℕ) → IsNextEnd locks moment (Some head) → Off s (own_request moment head)
  own_off s locks moment head (l, (path, text, is), first) = λ x at who. unlock_keeps_off covered s x path l.token (at ∙ is)

  module _ (moment : ℕ) where
    abbrev Ends : Server → ℕ → Option (List ℕ) → Type 0
    Ends s now head = IsNextEnd s.state.locks now head

    ends_leads : (old new : Holding Server) → EndsLocks IsAnswer Ends moment old new → IsGood old.state → Leads old.state new.state
    ends_leads old _ none good = leads_same old.state old.state refl good
    ends_leads old _ (one {mid} {new} head sent so next ran status) good =
        let first = ends_leads old mid so good in
        leads_on old.state mid.state new.state first (run_leads mid new (own_request moment head) sent ran (own_off mid.state.settings mid.state.state.locks moment head next) first.good)

    ended_leads : (old new : Holding Server) → IsEnded IsAnswer Ends moment old new → IsGood old.state → Leads old.state new.state
    ended_leads old new (all never same) good = leads_same old.state new.state (ap (λ (h : Holding Server). h.state) same) good
    ended_leads old new (stuck head sent next ran status) good = run_leads old new (own_request moment head) sent ran (own_off old.state.settings old.state.state.locks moment head next) good

  -- ---- a request

  -- whatever has leave of this request keeps off
  abbrev AllOff : AdmissionView → Settings → Asked → Type 0
  AllOff a s asked =
      (r : Request) (user : Option (List ℕ)) (head : List ℕ) → IsHead asked.head r → IsLetIn a r user → HasLeaveIn a user head
      → (x : Exchange) → x.head ≡ head → x.principal ≡ user → KeepsOff covered s x

  module _ (a : AdmissionView) (asked : Asked) where
    timed_leads : (mid new : Holding Server) (r : Request) (q : RequestView) (own said : Response) → AllOff a mid.state.settings asked → IsHead asked.head r → IsLetIn a r q.principal
        → IsTimed IsAnswer a mid q own said new → IsGood mid.state → Leads mid.state new.state
    timed_leads mid new r q own said off is let_in (untold never same held) good = leads_same mid.state new.state (ap (λ (h : Holding Server). h.state) held) good
    timed_leads mid new r q own said off is let_in (without_leave k time here brings lacks same held) good = leads_same mid.state new.state (ap (λ (h : Holding Server). h.state) held) good
    timed_leads mid new r q own said off is let_in (told k time set here brings leave ran accepted) good =
        run_leads mid new (belonging_to q (time_head k) (time_body time)) set ran (λ x at who. off r q.principal (time_head k) is let_in leave x at who) good

    whole_leads : (old new : Holding Server) (r : Request) (q : RequestView) (own : Response) (tokens : ℕ) → AllOff a old.state.settings asked → IsHead asked.head r → IsRequestOf a tokens r asked.body q
        → IsRunWhole IsAnswer a old q own new → IsGood old.state → Leads old.state new.state
    whole_leads old new r q own tokens off is request whole good =
        let first = run_leads old whole.mid q whole.own whole.run (λ x at who. off r q.principal q.head is request.let_in request.leave x at who) good in
        let later = subst (λ (s : Settings). AllOff a s asked) (sym first.settings) off in
        leads_on old.state whole.mid.state new.state first (timed_leads whole.mid new r q whole.own own later is request.let_in whole.timed first.good)

    responds_leads : (old new : Holding Server) (own : Response) → AllOff a old.state.settings asked → IsResponseTo IsAnswer IsNotRun IsLook a old asked own new → IsGood old.state → Leads old.state new.state
    responds_leads old new own off (no_head nothing status same) good = leads_same old.state new.state (ap (λ (h : Holding Server). h.state) same) good
    responds_leads old new own off (turned_away r reason user is away status same) good = leads_same old.state new.state (ap (λ (h : Holding Server). h.state) same) good
    responds_leads old new own off (not_run r q status is request refuses answer same) good = leads_same old.state new.state (ap (λ (h : Holding Server). h.state) same) good
    responds_leads old new own off (shown_way r q rules is look some tells same) good = leads_same old.state new.state (ap (λ (h : Holding Server). h.state) same) good
    responds_leads old new own off (run r q is request may whole) good = whole_leads old new r q own old.tokens off is request whole good

    replies_leads : (l after : LoginsView) (old new : Holding Server) (own : Response) → AllOff a old.state.settings asked → IsReplyTo IsAnswer IsNotRun IsLook a l old asked own new after → IsGood old.state
        → Leads old.state new.state
    replies_leads l after old new own off (told_to_wait r seconds is waits answer same stays) good = leads_same old.state new.state (ap (λ (h : Holding Server). h.state) same) good
    replies_leads l after old new own off (heard r is may responds later) good = responds_leads old new own off responds good
    replies_leads l after old new own off (headless nothing responds stays) good = responds_leads old new own off responds good

-- who is kept out of paths keeps off them, whatever has leave
kept_off : (covered : Path → Bool) (a : AdmissionView) (s : Settings) (asked : Asked) → s.prefix ≡ a.prefix → IsKeptOut covered a asked → AllOff covered a s asked
kept_off covered a s asked prefix (rules, some, out) r user head is let_in leave x at who =
    let permits : Permits rules a.prefix user head = subst (λ (o : Option Rules). IfSome o (λ (rs : Rules). Permits rs a.prefix user head)) some leave in
    keeps_off covered rules s x (permits s x prefix at who)
    (λ q within. subst (λ (u : Option (List ℕ)). may_write rules u q ≡ false) (sym who) (out r user q is let_in within))

-- no request is of none of no paths
off_nothing : (a : AdmissionView) (s : Settings) (asked : Asked) → AllOff (λ q. false) a s asked
off_nothing a s asked r user head is let_in leave x at who = record { target = λ q m p to changes. refl; below = λ q m p to changes k below. refl; destination = λ q m p d to copies named k below. refl }

-- ---- through a turn

module _ {D : Type 0} (g : Ghosts D) (covered : Path → Bool) where
  abbrev S : Type 0
  S = Service Server (Pair D)

  abbrev Keeps : S → S → Type 0
  Keeps old new = IsSound old → Spared covered (world_of old) (world_of new) × IsSound new

  good_of : (s : S) → IsSound s → IsGood (held_of s).state
  good_of s sound = record { world = sound.world; list = sound.list; locks = sound.locks }

  sound_by : (old new : S) → IsSound old → Leads covered (held_of old).state (held_of new).state → (admission_of new).prefix ≡ (admission_of old).prefix
      → Spared covered (world_of old) (world_of new) × IsSound new
  sound_by old new sound leads prefix = (
    leads.spared,
    record {
      world = leads.good.world;
      list = leads.good.list;
      locks = leads.good.locks;
      prefix = ap (λ (s : Settings). s.prefix) leads.settings ∙ sound.prefix ∙ sym prefix;
    },
  )

  still : (old new : S) → (held_of new).state ≡ (held_of old).state → (admission_of new).prefix ≡ (admission_of old).prefix → Keeps old new
  still old new state prefix sound = sound_by old new sound (leads_same covered (held_of old).state (held_of new).state state (good_of old sound)) prefix

  state_of : (k l : Kept Server (Pair D)) → l ≡ k → (held_by l).state ≡ (held_by k).state
  state_of k l same = ap (λ (j : Kept Server (Pair D)). (held_by j).state) same

  stays : (old new : S) → StaysAll old new → Keeps old new
  stays old new both = still old new (state_of (kept_of old) (kept_of new) both.1) (ap (λ (a : AdmissionView). a.prefix) both.0)

  greeted : (old new : S) (bytes : List ℕ) → IsGreeted old bytes new → Keeps old new
  greeted old new bytes both = still old new (state_of (kept_of old) (kept_of new) both.1) (ap (λ (a : AdmissionView). a.prefix) both.0)

  listed : (old new : S) (bytes : List ℕ) → IsListed old bytes new → Keeps old new
  listed old new bytes (anew users rules limits reported admission same logins) = still old new (state_of (kept_of old) (kept_of new) same) (ap (λ (a : AdmissionView). a.prefix) admission)
  listed old new bytes (refused fault faulty both logins) = stays old new both

  passed : (old new : S) (seconds date : ℕ)
      → IsPassed IsAnswer (λ j. IsCleanPair g j) (λ j blocks. IsKeptPair g j blocks) (λ (s : Server) (now : ℕ) (head : Option (List ℕ)). IsNextEnd s.state.locks now head) old seconds date new → Keeps old new
  passed old new seconds date p sound =
      let prefix = ap (λ (a : AdmissionView). a.prefix) p.clocks in
      elim p.ended [
        | inl both ↦ still old new (state_of (kept_of old) (kept_of new) both.1) prefix sound
        | inr ends ↦ (
            let first = ends_leads covered (admission_of new).moment (held_of old) ends.0 ends.1 (good_of old sound) in
            sound_by old new sound
            (leads_on covered (held_of old).state ends.0.state (held_of new).state first (ended_leads covered (admission_of new).moment ends.0 (held_of new) ends.2 first.good)) prefix)
      ]

  marked : (old new : S) → IsMarked saved_bytes IsSaveable (λ j. IsCleanPair g j) (λ j blocks. IsKeptPair g j blocks) old new → Keeps old new
  marked old new m =
      let prefix = ap (λ (a : AdmissionView). a.prefix) m.same in
      elim m.keeps [
        | inl kept ↦ still old new (ap (λ (h : Holding Server). h.state) kept.held) prefix
        | inr saved ↦ still old new (ap (λ (h : Holding Server). h.state) saved.held) prefix
      ]

  committed_keeps : (old new : S) → IsCommitted (λ j. IsCleanPair g j) (λ j blocks. IsKeptPair g j blocks) old new → Keeps old new
  committed_keeps old new c = still old new (ap (λ (h : Holding Server). h.state) c.commits.held) (ap (λ (a : AdmissionView). a.prefix) c.same)

  serves : (old new : S) (asked : Asked) (sent : Response) → Serves IsAnswer IsNotRun IsLook (λ j. IsCleanPair g j) (λ j blocks. IsKeptPair g j blocks) old asked sent new
      → (IsSound old → AllOff covered (admission_of old) (held_of old).state.settings asked) → Keeps old new
  serves old new asked sent s off sound =
      sound_by old new sound
      (replies_leads covered (admission_of old) asked (logins_of old) (logins_of new) (held_of old) (held_of new) s.own (off sound) s.replies (good_of old sound)) (ap (λ (a : AdmissionView). a.prefix) s.same)

  keeps_same : (s : S) → Keeps s s
  keeps_same s = still s s refl refl

  keeps_on : (a b c : S) → Keeps a b → Keeps b c → Keeps a c
  keeps_on a b c here there sound =
      let first = here sound in
      let later = there first.1 in
      (spared_on covered (world_of a) (world_of b) (world_of c) first.0 later.0, later.1)

  elsewhere_carries : Carries (doing_elsewhere covered g) Keeps
  elsewhere_carries = record {
    same = keeps_same;
    joined = keeps_on;
    judges = λ a head verdict b judged. stays a b judged.same;
    answers = λ a asked sent b both. serves a b asked sent both.1 (λ sound. kept_off covered (admission_of a) (held_of a).state.settings asked sound.prefix both.0);
    greeted = λ a bytes b both. greeted a b bytes both;
    listed = λ a bytes b is. listed a b bytes is;
    placed = λ a address b both. stays a b both.0;
    passed = λ a seconds date b p. passed a b seconds date p;
    marked = λ a b m. marked a b m;
    kept = λ a b c. committed_keeps a b c;
  }

pub turns_stay_in_grants : {D : Type 0} (g : Ghosts D) → TurnsStayInGrants g
turns_stay_in_grants g covered reports used slots left old new orders turn sound =
    turn_carries (doing_elsewhere covered g) (Keeps g covered) (elsewhere_carries g covered) reports used slots left old new orders turn sound

nothing_carries : {D : Type 0} (g : Ghosts D) → Carries (doing g) (Keeps g (λ q. false))
nothing_carries g = record {
  same = keeps_same g (λ q. false);
  joined = keeps_on g (λ q. false);
  judges = λ a head verdict b judged. stays g (λ q. false) a b judged.same;
  answers = λ a asked sent b is. serves g (λ q. false) a b asked sent is (λ sound. off_nothing (admission_of a) (held_of a).state.settings asked);
  greeted = λ a bytes b both. greeted g (λ q. false) a b bytes both;
  listed = λ a bytes b is. listed g (λ q. false) a b bytes is;
  placed = λ a address b both. stays g (λ q. false) a b both.0;
  passed = λ a seconds date b p. passed g (λ q. false) a b seconds date p;
  marked = λ a b m. marked g (λ q. false) a b m;
  kept = λ a b c. committed_keeps g (λ q. false) a b c;
}

pub turns_stay_sound : {D : Type 0} (g : Ghosts D) → TurnsStaySound g
turns_stay_sound g reports used slots left old new orders turn sound =
    (turn_carries (doing g) (Keeps g (λ q. false)) (nothing_carries g) reports used slots left old new orders turn sound).1

-- ---- a life

nothing_off : (s : Settings) (q : RequestView) → Off (λ p. false) s q
nothing_off s q x at who = record { target = λ r m p to changes. refl; below = λ r m p to changes k below. refl; destination = λ r m p d to copies named k below. refl }

lives_lead : (first last : Server) (records : List RecordView) → RecordsRun (answer_step IsAnswer) first records last → IsGood first → Leads (λ p. false) first last
lives_lead first last [] same good = leads_same (λ p. false) first last same good
lives_lead first last (r ∷ rs) (mid, (sent, status, is), later) good =
    let begins = answer_leads (λ p. false) first mid r.request sent is (nothing_off first.settings r.request) good in
    leads_on (λ p. false) first mid last begins (lives_lead mid last rs later begins.good)

pub lives_are_sound : LivesAreSound
lives_are_sound prefix records last ran =
    let leads = lives_lead (new_server prefix) last records ran (record { world = empty_is_world 1 (omega arith) (omega arith); list = []; locks = refl }) in
    (leads.good.world, (leads.good.list, leads.good.locks), ap (λ (s : Settings). s.prefix) leads.settings)

-- ---- what is told

pub replies_stay_in_grants : RepliesStayInGrants
replies_stay_in_grants rules q r a b after later reply other is permits only alike here there =
    let x = here.exchange in
    let same : there.exchange ≡ x = one_exchange q.head q.body (caller_of q) there.exchange x r is there.is_exchange here.is_exchange in
    let leave : HasLeave rules a.settings x = permits a.settings x refl here.is_exchange.head_is here.is_exchange.principal in
    let who = here.is_exchange.principal in
    let ran : Steps a.settings x a.state.store (Some alike.list) reply after.state.store after.state.locks =
    subst (λ (l : Locks). Steps a.settings x a.state.store l reply after.state.store after.state.locks) alike.locks here.answers in
    let also : Steps a.settings x b.state.store (Some alike.others) other later.state.store later.state.locks =
    subst (λ (s : Settings). Steps s x b.state.store (Some alike.others) other later.state.store later.state.locks) (sym alike.settings)
    (subst (λ (y : Exchange). Steps b.settings y b.state.store (Some alike.others) other later.state.store later.state.locks) same
    (subst (λ (l : Locks). Steps b.settings there.exchange b.state.store l other later.state.store later.state.locks) alike.other_locks there.answers)) in
    answers_stay_in_grants rules a.settings x a.state.store after.state.store b.state.store later.state.store alike.list alike.others after.state.locks later.state.locks reply other
    leave (only x here.is_exchange) (omega (arith, here.is_exchange.moment)) ran also here.ample there.ample alike.refusals alike.world alike.other
    (subst (λ (u : Option (List ℕ)). AgreeAt (may_read rules u) a.state.store.world b.state.store.world) (sym who) alike.agree)
    (subst (λ (u : Option (List ℕ)). CoverAlike (may_read rules u) alike.list alike.others) (sym who) alike.covered)
