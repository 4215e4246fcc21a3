-- What the answer of a machine is, by its parts.
use Rattle.std.proofs.Common.{arith, Bool, IfOk, OnOk, Result, Ok, Err, true, false, not, true≢false, codes, ◌≢◌, ◌≡◌, ◌⊎◌, inl, inr, ℕ, List, Option, Some, None, ap, refl, length, subst, sym, ◌∙◌}
use Rattle.std.specs.Bool.{Decides}
use Rattle.http_server.specs.declared.response.Response.{Response}
use Rattle.dav_core.specs.declared.method.DavMethod.TheVariants.{Get, Head, PropFind}
use Rattle.dav_core.specs.Locks.{Lock}
use Rattle.dav_engine.specs.Plan.{Locks}
use Rattle.dav_engine.specs.Reply.{Reply}
use Rattle.dav_server.specs.Head.{IsHead, Request}
use Rattle.dav_server.specs.Machine.{Exchange}
use Rattle.dav_server.specs.Server.{Server}
use Rattle.dav_server.proofs.HeadLemmas.{one_head}
use Rattle.dav_http.specs.Leaves.{Leaves, reading}
use Rattle.dav_core.specs.Path.{Path}
use Rattle.dav_http.specs.Listing.{IsBegun, Listed, ShowsListing, opened, taken}
use Rattle.dav_http.specs.Presented.{applied, found, leaves_out, listing}
use Rattle.dav_http.specs.Room.{room_of}
use Rattle.dav_http.specs.Sending.{IsSentWith}
use Rattle.dav_http.specs.Steps.{IsStepFor, IsStepInParts}
use Rattle.dav_access.specs.Rules.{Rules}
use Rattle.dav_access.specs.declared.limit.Limit.{Limit}
use Rattle.dav_confined.specs.Leave.{MayUnlock}
use Rattle.dav_kept.specs.Records.{RequestView}
use Rattle.dav_http.specs.Kept.{IsKeptOf, depthless, lock, other}
use Rattle.dav_http.specs.Refused.{MayBeRefused, Refuses, Tells}
use Rattle.dav_http.proofs.RefusedLemmas.{may_be_refused, said_of}
use Rattle.dav_limits.specs.Limits.{IsPast}
use Rattle.dav_seen.specs.Ways.{IsWayReply}
use Rattle.dav_live.proofs.AdmissionLemmas.{exchange_with}
use Rattle.dav_live.specs.Locked.{IsTold, as_it_was}
use Rattle.dav_live.specs.Answers.{AsksToSee, IsAnswer, IsBarred, IsForeignUnlock, IsKeptFrom, IsListingSent, IsLook, IsNotRun, IsRefused, IsSentFor, MayUnlockIn, barred, caller_of, full, presented, refused, replied, seen, shown, told}

-- a GET or HEAD leaves the server
seeing_leaves : (head : List ℕ) (reply : Reply) → AsksToSee head → Leaves head reply
seeing_leaves head reply (inl (r, is, named)) = reading r Get is (tt, named) refl
seeing_leaves head reply (inr (r, is, named)) = reading r Head is (tt, named) refl

module _ (old mid : Server) (q : RequestView) (head : List ℕ) (same : head ≡ q.head) (reply : Reply) (sent : Response) (step : IsStepFor q.head q.body (caller_of q) old reply mid)
    (left : Leaves q.head reply → mid ≡ old) where
  -- where a folder is asked for, the server is as it was
  pub folder_leaves : (reply.status ≡ 405) × AsksToSee head → mid ≡ old
  folder_leaves (status, sees) = left (seeing_leaves q.head reply (subst AsksToSee same sees))

  pub folder_answered : (new : Server) → (reply.status ≡ 405) × AsksToSee head → (new ≡ mid) × ((sent.status ≡ 200) ⊎ IsSentFor new q reply sent) → IsAnswer old q sent new
  folder_answered new (status, sees) (is_mid, inl page) =
      let was = folder_leaves (status, sees) in
      subst (IsAnswer old q sent) (sym (is_mid ∙ was)) (shown reply (subst AsksToSee same sees) (subst (IsStepFor q.head q.body (caller_of q) old reply) was step) status page)
  folder_answered new for_folder (is_mid, inr is_sent) = subst (IsAnswer old q sent) (sym is_mid) (replied reply step (subst (λ (s : Server). IsSentFor s q reply sent) is_mid is_sent))

  pub reply_answered : IsSentFor mid q reply sent → IsAnswer old q sent mid
  reply_answered is_sent = replied reply step is_sent

-- ---- listings

-- a listing tells of no lock that is in the way
listing_told : (locks : Locks) (prefix head : List ℕ) (principal : Option (List ℕ)) (r : Reply) → r.status ≡ 207 → IsTold locks prefix head principal r r
listing_told locks prefix head principal r listed = as_it_was (λ bare. let wrong : 207 ≡ 423 = sym listed ∙ bare.0 in omega (arith, wrong)) refl

-- a PROPFIND leaves the server
pub finding_leaves : (head : List ℕ) (r : Request) → IsHead head r → r.method ≡ codes "PROPFIND" → (reply : Reply) → Leaves head reply
finding_leaves head r is named reply = reading r PropFind is (tt, named) refl

module _ (old mid : Server) (q : RequestView) (start : Listed) (reply : Reply) (sent : Response) where
  -- what was handed on to a listing is shown
  listing_answered : (r : Request) (place : Option Path) (available : ℕ) (l : Listed) → mid ≡ old → IsHead q.head r → r.method ≡ codes "PROPFIND"
      → IsBegun (leaves_out r) (room_of old place available) q.body start → IsStepInParts opened taken start q.head q.body (caller_of q) old reply (Some l) mid
      → ShowsListing r reply l sent → IsAnswer old q sent mid
  listing_answered r place available l same is named begun parts shows =
      replied parts.whole parts.step
      (presented r parts.whole is
      (listing_told mid.state.locks mid.settings.prefix q.head q.principal parts.whole (ap (λ (t : Reply). t.status) parts.handed.4 ∙ parts.handed.3))
      place available (listing named
      (subst (λ (s : Server). IsSentWith (applied r parts.whole) false (found (leaves_out r) (room_of s place available) q.body parts.whole) sent) (sym same)
      (shows (room_of old place available) q.body start parts.whole begun parts.handed))))

  -- and a whole reply is sent
  whole_answered : IsStepInParts opened taken start q.head q.body (caller_of q) old reply None mid → IsSentFor mid q reply sent → IsAnswer old q sent mid
  whole_answered parts is = replied parts.whole parts.step (subst (λ (r : Reply). IsSentFor mid q r sent) parts.handed is)

  -- so a PROPFIND is answered
  pub listed_answered : (r : Request) (place : Option Path) (available : ℕ) (after : Option Listed) → mid ≡ old → IsHead q.head r → r.method ≡ codes "PROPFIND"
      → IsBegun (leaves_out r) (room_of old place available) q.body start → IsStepInParts opened taken start q.head q.body (caller_of q) old reply after mid
      → IsListingSent mid q r reply after sent → IsAnswer old q sent mid
  listed_answered r place available None same is named begun parts shows = whole_answered parts shows
  listed_answered r place available (Some l) same is named begun parts shows = listing_answered r place available l same is named begun parts shows

-- ---- looks

-- what is so where a call did what it was to do
pub where_ok : {A E : Type 0} (P Q : Type 0) (r : Result A E) → (P → Q) → OnOk r P → OnOk r Q
where_ok P Q (Ok a) then is = then is
where_ok P Q (Err e) then is = is

module _ (rules : Rules) (s mid : Server) (same : mid ≡ s) (q : RequestView) (reply : Reply) (way : IsWayReply rules s q.head q.body (caller_of q) reply) (sent : Response) where
  -- the reply is sent
  pub way_told : IsSentFor mid q reply sent → IsLook rules s q sent
  way_told is = told reply way (subst (λ (t : Server). IsSentFor t q reply sent) same is)

  -- or a page
  pub way_seen : (head : List ℕ) → head ≡ q.head → (reply.status ≡ 405) × AsksToSee head → (sent.status ≡ 200) ⊎ IsSentFor mid q reply sent → IsLook rules s q sent
  way_seen head asked for_folder (inl page) = seen reply (subst AsksToSee asked for_folder.1) way for_folder.0 page
  way_seen head asked for_folder (inr is) = way_told is

-- ---- what isn't run

-- what the server refuses of a request with this head is what it refuses
pub refused_of : {at s : Server} {asked q : RequestView} (kept : Request) (body : List ℕ) → at ≡ s → asked ≡ q → IsHead asked.head kept → body ≡ asked.body
    → (status : Option ℕ) → Tells (Refuses at kept body) status → Tells (IsRefused s q) status
refused_of {at} {s} {asked} {q} kept body same alike is content (Some n) refuses = (
  kept,
  subst (λ (v : RequestView). IsHead v.head kept) alike is,
  subst (λ (v : RequestView). Refuses s kept v.body n) alike (subst (λ (b : List ℕ). Refuses s kept b n) content (subst (λ (x : Server). Refuses x kept body n) same refuses)),
)
refused_of {at} {s} {asked} {q} kept body same alike is content None none = by
  where
    by : (n : ℕ) → ¬ IsRefused s q n
    by n (another, mine, refuses) =
        let here : IsHead q.head kept = subst (λ (v : RequestView). IsHead v.head kept) alike is in
        let as_kept : Refuses s kept q.body n = subst (λ (k : Request). Refuses s k q.body n) (one_head q.head another kept mine here) refuses in
        none n
        (subst (λ (x : Server). Refuses x kept body n) (sym same)
        (subst (λ (b : List ℕ). Refuses s kept b n) (sym content) (subst (λ (v : RequestView). Refuses s kept v.body n) (sym alike) as_kept)))

pub headless_unrefused : (s : Server) (q : RequestView) → ((r : Request) → ¬ IsHead q.head r) → (n : ℕ) → ¬ IsRefused s q n
headless_unrefused s q none n (kept, mine, refuses) = none kept mine

-- what is kept of a request has its method
kept_method : (most : ℕ) (strict : Bool) (came kept : Request) → IsKeptOf most strict came kept → kept.method ≡ came.method
kept_method most strict came _ (other is_other deep) = refl
kept_method most strict came _ (depthless is) = refl
kept_method most strict came _ (lock is times decodes) = refl

-- a request whose method is none that may be refused isn't
pub unrefused_method : (s : Server) (came : Request) (q : RequestView) → IsKeptFrom came q.head → ¬ MayBeRefused came.method → (n : ℕ) → ¬ IsRefused s q n
unrefused_method s came q (most, strict, kept, is_kept, says) never n (mine, is, refuses) =
    never (subst MayBeRefused (ap (λ (r : Request). r.method) (said_of q.head mine kept is says) ∙ kept_method most strict came kept is_kept) (may_be_refused s mine q.body n refuses))

module _ (rules : Option Rules) (limits : List Limit) (s : Server) (came : Request) (q : RequestView) (own : ¬ IsBarred rules s came q) (unrefused : (status : ℕ) → ¬ IsRefused s q status) where
  -- what would add no more than limits leave is run
  pub run_within : ¬ IsPast limits s q.head q.body → (n : ℕ) → ¬ IsNotRun rules limits s came q n
  run_within within _ (barred bars) = own bars
  run_within within n (refused also refuses) = unrefused n refuses
  run_within within _ (full also none past) = within past

-- ---- UNLOCK by rules

module _ (rules : Rules) (s : Server) (q : RequestView) where
  -- without a list of locks none is named
  pub may_without_list : s.state.locks ≡ None → Decides true (MayUnlockIn rules s q)
  may_without_list none = (λ yes x ls head who is. absurd (let e : None ≡ Some ls = sym none ∙ is in cc), λ may. refl)

  -- what is said of the list is said of the server
  pub may_by_list : (ls : List Lock) (b : Bool) → s.state.locks ≡ Some ls
      → ((x : Exchange) → x.head ≡ q.head → x.principal ≡ q.principal → Decides b (MayUnlock rules s.settings x ls)) → Decides b (MayUnlockIn rules s q)
  may_by_list ls b is says = (
    λ yes x ks head who also. subst (MayUnlock rules s.settings x) (let e : Some ls ≡ Some ks = sym is ∙ also in cc) ((says x head who).0 yes),
    λ may. (says (exchange_with q.head q.principal) refl refl).1 (may (exchange_with q.head q.principal) ls refl refl is),
  )

  pub may_by_result : {E : Type 0} (ls : List Lock) (r : Result Bool E) → s.state.locks ≡ Some ls
      → ((x : Exchange) → x.head ≡ q.head → x.principal ≡ q.principal → IfOk r (λ b. Decides b (MayUnlock rules s.settings x ls))) → IfOk r (λ b. Decides b (MayUnlockIn rules s q))
  may_by_result ls (Ok b) is says = may_by_list ls b is says
  may_by_result ls (Err e) is says = tt

  -- a request that is an UNLOCK is barred where that may not be
  pub barred_unless : (came : Request) (may : Bool) → came.method ≡ codes "UNLOCK" → Decides may (MayUnlockIn rules s q) → Decides (not may) (IsBarred (Some rules) s came q)
  barred_unless came true unlock says = (λ no. absurd (true≢false (sym no)), λ bars. absurd (bars.1 (says.0 refl)))
  barred_unless came false unlock says = (λ yes. (unlock, λ may. true≢false (sym (says.1 may))), λ bars. refl)

  -- and no other one is
  pub never_barred : (came : Request) → came.method ≢ codes "UNLOCK" → Decides false (IsBarred (Some rules) s came q)
  never_barred came not_unlock = (λ no. absurd (true≢false (sym no)), λ bars. absurd (not_unlock bars.0))

-- without rules it is a lock of another
pub barred_by_another : (s : Server) (came : Request) (q : RequestView) (b : Bool) (who : Option (List ℕ)) → who ≡ q.principal
    → Decides b ((name : List ℕ) × (who ≡ Some name) × IsForeignUnlock s.state.locks came name) → Decides b (IsBarred None s came q)
barred_by_another s came q b who same says = subst (λ (o : Option (List ℕ)). Decides b ((name : List ℕ) × (o ≡ Some name) × IsForeignUnlock s.state.locks came name)) same says
