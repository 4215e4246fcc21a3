-- The tree of each reply is read again.
use Rattle.std.proofs.Common.{◌≡◌, ◌⊎◌, ℕ, ◌≤◌, nat_lt, arith, Bool, true, false, cond, List, [], ◌∷◌, Some, Result, Ok, Err, inl, inr, refl, sym, ap, subst}
use Rattle.std.specs.Prelude.{IfOk}
use Rattle.std.proofs.lemmas.List.Elements.{All-head, All-tail}
use Rattle.http_header.specs.FieldValue.{FieldValue}
use Rattle.dav_core.specs.declared.errors.DavError.{DavError}
use Rattle.dav_core.specs.declared.errors.DavError.TheVariants as dav
use Rattle.dav_core.specs.declared.method.DavMethod.{DavMethod}
use Rattle.dav_core.specs.Asking.{StoreState}
use Rattle.dav_core.specs.Element.{ElementTree, depth_of}
use Rattle.dav_core.specs.Path.{PathText, names, IsCut, at_start, at_slash, at_end, path_bytes, is_nonempty, without_slash}
use Rattle.dav_core.specs.Target.{Reads}
use Rattle.dav_core.specs.World.{IsWorld, last_moment, empty_from}
use Rattle.dav_core.proofs.Theorems.{empty_is_world}
use Rattle.dav_engine.specs.declared.reply.ReplyBody.{ReplyBody}
use Rattle.dav_engine.specs.declared.reply.ReplyBody.TheVariants as reply
use Rattle.dav_engine.specs.declared.request.Body.{Body}
use Rattle.dav_engine.specs.declared.request.Body.TheVariants as body
use Rattle.dav_engine.specs.Caller.{Caller}
use Rattle.dav_engine.specs.CopyMove.{DestinationNames, absent, unreadable, outside, inside, IsCopyMove, is_copy_move}
use Rattle.dav_engine.specs.Delete.{is_delete}
use Rattle.dav_engine.specs.Headers.{Headers}
use Rattle.dav_engine.specs.Lock.{is_lock}
use Rattle.dav_engine.specs.Method.{MethodPlan}
use Rattle.dav_engine.specs.Mkcol.{is_mkcol}
use Rattle.dav_engine.specs.Plan.{Locks, ServerState}
use Rattle.dav_engine.specs.PlanLaws.{ample}
use Rattle.dav_engine.specs.Propfind.{is_propfind}
use Rattle.dav_engine.specs.Proppatch.{is_proppatch}
use Rattle.dav_engine.specs.Put.{IsPut, is_put, bytes_of_body}
use Rattle.dav_engine.specs.Reply.{Reply, reply_to}
use Rattle.dav_engine.specs.Unlock.{is_unlock}
use Rattle.dav_engine.proofs.Theorems.{proper_keeps}
use Rattle.dav_server.specs.Get.{IsGet, is_get}
use Rattle.dav_server.specs.Machine.{Settings, Exchange, Taken, TakesBytes, TakesTree, TakesNone, body_for, taken_by, PlanOf, gets, heads, puts, patches, makes, deletes, copies, moves, offers, finds_properties, sets_properties, locks, releases, not_allowed, no_path, no_body, method, Means, no_head, no_method, known, Steps, StepCut, steps}
use Rattle.dav_server.specs.Run.{Turn, begun, no_more, one_more}
use Rattle.dav_server.specs.Target.{TargetNames, server, path}
use Rattle.dav_engine.proofs.PlanAnswers.{cuts_are_like_refusals}
use Rattle.dav_server.proofs.CutSteps.{cuts_are_like_steps}
use Rattle.dav_server.proofs.MeansWorld.{means_proper, begun_world}
use Rattle.dav_xml.proofs.SentTrees.{sendable_is_read}
use Rattle.dav_http.specs.Sent.{IsSendableTextIfAny, KeepsSendable, AreSendableLocks, IsSendableBody, HoldsSendable, IsReadByClient}
use Rattle.dav_http.specs.SentLaws.{IsSendableRequest, IsSendableServer, IsSendableState, NewIsSendable, StepsAreReadAgain, RunsAreReadAgain, CutsStaySendable}
use Rattle.dav_http.proofs.SentFinds.{IsSent, propfind_sends}
use Rattle.dav_http.proofs.SentLocks.{lock_sends, unlock_sends}
use Rattle.dav_http.proofs.SentNames.{HasPath}
use Rattle.dav_http.proofs.SentOthers.{put_sends, mkcol_sends, options_sends, get_sends}
use Rattle.dav_http.proofs.SentPatches.{proppatch_sends}
use Rattle.dav_http.proofs.SentPlans.{Sends, sends_err, sends_ran}
use Rattle.dav_http.proofs.SentRemovals.{delete_sends, copymove_sends}

-- ---- the paths that targets name

bytes_some : (ns : List (List ℕ)) (closed : Bool) → is_nonempty (path_bytes ns closed) ≡ true
bytes_some [] closed = refl
bytes_some (n ∷ ns) closed = refl

read_some : (text bytes : List ℕ) → Reads text bytes → is_nonempty bytes ≡ true
read_some text bytes (inl (is, star_is)) = ap is_nonempty star_is
read_some text bytes (inr (ns, closed, named, is)) = let e : is_nonempty bytes ≡ is_nonempty (path_bytes ns closed) = ap is_nonempty is in subst (λ (b : Bool). b ≡ true) (sym e) (bytes_some ns closed)

cut_some : (q bytes : List ℕ) (p : PathText) → is_nonempty bytes ≡ true → IsCut q bytes p → HasPath p
cut_some q bytes p some (at_start empty is) = subst HasPath (sym is) some
cut_some q bytes p some (at_slash whole is) = subst HasPath (sym is) refl
cut_some q bytes p some (at_end other whole is) = subst HasPath (sym is) refl

target_some : {prefix target : List ℕ} {m : DavMethod} {p : PathText} → TargetNames prefix m target (Ok p) → HasPath p
target_some (server is options) = refl
target_some {prefix} (path {text} {bytes} {p} has reads cut) = cut_some (without_slash prefix) bytes p (read_some text bytes reads) cut

place_some : {prefix : List ℕ} {values : List FieldValue} {r : Result PathText DavError} (d : PathText) → DestinationNames prefix values r → r ≡ Ok d → HasPath d
place_some d (absent none) h = absurd cc
place_some d (unreadable text is refused other) h = absurd cc
place_some d (outside text bytes is reads cut) h = absurd cc
place_some {prefix} d (inside text bytes {d = place} is reads cut) h = let same : place ≡ d = cc in subst HasPath same (cut_some (without_slash prefix) bytes place (read_some text bytes reads) cut)

-- ---- bodies

tree_given : (b : Bool) (tree : ElementTree) (content : Body) → IsSendableBody (body.Tree tree) → cond {A = Result Body DavError} b (Err (dav.Status 400)) (Ok (body.Tree tree)) ≡ Ok content → IsSendableBody content
tree_given true tree content h is = absurd cc
tree_given false tree content h is = let same : body.Tree tree ≡ content = cc in subst IsSendableBody same h

given_sendable : (taken : Taken) (sent content : Body) → IsSendableBody sent → body_for taken sent ≡ Ok content → IsSendableBody content
given_sendable taken body.None content h is = let same : body.None ≡ content = cc in subst IsSendableBody same tt
given_sendable taken (body.Bytes []) content h is = let same : body.None ≡ content = cc in subst IsSendableBody same tt
given_sendable TakesBytes (body.Bytes (b ∷ bytes)) content h is = let same : body.Bytes (b ∷ bytes) ≡ content = cc in subst IsSendableBody same tt
given_sendable TakesTree (body.Bytes (b ∷ bytes)) content h is = let same : body.Malformed ≡ content = cc in subst IsSendableBody same tt
given_sendable TakesNone (body.Bytes (b ∷ bytes)) content h is = absurd cc
given_sendable TakesTree (body.Tree tree) content h is = tree_given (nat_lt 64 (depth_of tree)) tree content h is
given_sendable TakesBytes (body.Tree tree) content h is = absurd cc
given_sendable TakesNone (body.Tree tree) content h is = absurd cc
given_sendable TakesTree body.Malformed content h is = let same : body.Malformed ≡ content = cc in subst IsSendableBody same tt
given_sendable TakesBytes body.Malformed content h is = absurd cc
given_sendable TakesNone body.Malformed content h is = absurd cc

-- ---- plans

got : {m : DavMethod} {headers : Headers} {p : PathText} {now : ℕ} {plan : MethodPlan Reply} → IsGet m headers p now plan → Sends IsSent plan
got {m} {p = p} {now} (is_get c are) = get_sends m c (names p) now

stored : {m : DavMethod} {headers : Headers} {p : PathText} {content : Body} {who : Caller} {plan : MethodPlan Reply} → IsPut m headers p content who plan → Sends IsSent plan
stored {m} {p = p} {content} {who} (is_put h are) = put_sends m h (names p) who (bytes_of_body content)

brought : {m : DavMethod} {headers : Headers} {p : PathText} {who : Caller} {plan : MethodPlan Reply} → HasPath p → IsCopyMove m headers p who plan → Sends IsSent plan
brought {m} {p = p} {who} some (is_copy_move h are) = copymove_sends m h p who some (λ d is. place_some d are.destination is)

plan_sends : {allowed : ℕ} {headers : Headers} {p : PathText} {content : Body} {who : Caller} {m : DavMethod} {plan : MethodPlan Reply}
    → HasPath p → IsSendableBody content → IsSendableTextIfAny who.principal → IsSendableTextIfAny who.token → PlanOf allowed headers p content who m plan → Sends IsSent plan
plan_sends some given principal token (gets is) = got is
plan_sends some given principal token (heads is) = got is
plan_sends some given principal token (puts is) = stored is
plan_sends some given principal token (patches is) = stored is
plan_sends {p = p} {who = who} some given principal token (makes (is_mkcol c are)) = mkcol_sends c p who
plan_sends {p = p} {who = who} some given principal token (deletes (is_delete h are)) = delete_sends h p who some
plan_sends some given principal token (copies is) = brought some is
plan_sends some given principal token (moves is) = brought some is
plan_sends {allowed} {p = p} some given principal token offers = options_sends allowed p
plan_sends {headers = headers} {p = p} {content = content} {who = who} some given principal token (finds_properties (is_propfind h are)) = propfind_sends h headers content who given principal p some
plan_sends {p = p} {content = content} {who = who} some given principal token (sets_properties (is_proppatch c are)) = proppatch_sends c p content who some given
plan_sends {p = p} {content = content} {who = who} some given principal token (locks (is_lock h are)) = lock_sends h p content who some given token
plan_sends {p = p} some given principal token (releases (is_unlock token_said said)) = unlock_sends token_said p

means_sends : {s : Settings} {x : Exchange} {plan : MethodPlan Reply} → IsSendableRequest x → Means s x plan → Sends IsSent plan
means_sends h (no_head out) = sends_err
means_sends h (no_method r e is gives) = sends_err
means_sends h (known r m is gives (not_allowed out)) = sends_err
means_sends h (known r m is gives (no_path e has none)) = sends_err
means_sends h (known r m is gives (no_body p e has named bad)) = sends_err
means_sends {x = x} h (known r m is gives (method p content has named good plan)) = plan_sends (target_some named) (given_sendable (taken_by m) x.body content h.body good) h.principal h.token plan

-- ---- steps

outcome_sent : (outcome : Result Reply DavError) → IfOk outcome IsSent → IsSent (reply_to outcome)
outcome_sent (Ok r) h = h
outcome_sent (Err e) h = tt

pub read_by : (content : ReplyBody) → HoldsSendable content → IsReadByClient content
read_by reply.Nothing h = tt
read_by (reply.Bytes bytes) h = tt
read_by (reply.Tree tree) h = λ deep few short. sendable_is_read tree h deep few short

record Stepped (r : Reply) (new : StoreState) (ms : Locks) : Type 0 where
  sendable : HoldsSendable r.body
  state : IsSendableState new ms
  world : IsWorld new.world

stepped : (s : Settings) (x : Exchange) (old new : StoreState) (ls ms : Locks) (r : Reply) → IsWorld old.world → x.moment ≤ last_moment → IsSendableRequest x → IsSendableState old ls → Steps s x old ls r new ms → Stepped r new ms
stepped s x old new ls ms r world small h state (steps plan outcome means ran) =
    let sent = sends_ran (means_sends h means) (means_proper small means) world state.keeps state.holds ran in
    record {
      sendable = outcome_sent outcome sent.gives;
      state = record { keeps = sent.world; holds = sent.locks };
      world = (proper_keeps (means_proper small means) world ran).world;
    }

pub steps_are_read_again : StepsAreReadAgain
steps_are_read_again s x old new ls ms r world small h state step =
    let done = stepped s x old new ls ms r world small h state step in
    (read_by r.body done.sendable, done.state)

abbrev Moment : Turn → Type 0
Moment t = t.asked.moment ≤ last_moment

pub runs_are_read_again : RunsAreReadAgain
runs_are_read_again s [] old new ls ms rs world small all state no_more = (tt, state)
runs_are_read_again s (t ∷ ts) old new ls ms rs world small all state (one_more {mid = mid} {ks = ks} {reply = r} {replies = others} step rest) =
    let same = begun_world t.refusals old in
    let at : IsSendableState (begun t.refusals old) ls = record { keeps = subst KeepsSendable (sym same) state.keeps; holds = state.holds } in
    let done = stepped s t.asked (begun t.refusals old) mid ls ks r (subst IsWorld (sym same) world) (All-head Moment t ts small) all.0 at step in
    let more = runs_are_read_again s ts mid new ks ms others done.world (All-tail Moment t ts small) all.1 done.state rest in
    ((read_by r.body done.sendable, more.0), more.1)

pub new_is_sendable : NewIsSendable
new_is_sendable next store is =
    let keeps : KeepsSendable store.world = subst KeepsSendable (sym is) (tt, tt) in
    (record { keeps = keeps; holds = tt }, record { keeps = keeps; holds = tt })

pub cuts_stay_sendable : CutsStaySendable
cuts_stay_sendable s x old new ls ms world small h state short = elim (cuts_are_like_steps cuts_are_like_refusals s x old new ls ms short) as (λ _. IsSendableState new ms) [
  | inl same ↦ record { keeps = subst (λ (store : StoreState). KeepsSendable store.world) (sym same.0) state.keeps; holds = subst AreSendableLocks (sym same.1) state.holds }
  | inr like ↦
      let at : IsSendableState (ample old.world like.0) ls = record { keeps = state.keeps; holds = state.holds } in
      let done = stepped s x (ample old.world like.0) (ample new.world []) ls like.2 like.1 world small h at like.3 in
      by like.2 done.state like.4
]
  where
    by : (ks : Locks) → IsSendableState (ample new.world []) ks → (ms ≡ ls) ⊎ (ms ≡ ks) → IsSendableState new ms
    by ks done (inl same) = record { keeps = done.keeps; holds = subst AreSendableLocks (sym same) state.holds }
    by ks done (inr same) = record { keeps = done.keeps; holds = subst AreSendableLocks (sym same) done.holds }

-- ---- servers

pub server_answers : (s : Settings) (x : Exchange) (old new : ServerState) (r : Reply) → IsSendableServer old → x.moment ≤ last_moment → IsSendableRequest x → Steps s x old.store old.locks r new.store new.locks
    → HoldsSendable r.body × IsSendableServer new
server_answers s x old new r o small h step =
    let done = stepped s x old.store new.store old.locks new.locks r o.world small h o.state step in
    (done.sendable, record { world = done.world; state = done.state })

pub server_stops : (s : Settings) (x : Exchange) (old new : ServerState) → IsSendableServer old → x.moment ≤ last_moment → IsSendableRequest x → StepCut s x old.store old.locks new.store new.locks → IsSendableServer new
server_stops s x old new o small h short = record {
  world = elim (cuts_are_like_steps cuts_are_like_refusals s x old.store new.store old.locks new.locks short) as (λ _. IsWorld new.store.world) [
    | inl same ↦ subst (λ (store : StoreState). IsWorld store.world) (sym same.0) o.world
    | inr like ↦
        let at : IsSendableState (ample old.store.world like.0) old.locks = record { keeps = o.state.keeps; holds = o.state.holds } in
        (stepped s x (ample old.store.world like.0) (ample new.store.world []) old.locks like.2 like.1 o.world small h at like.3).world
  ];
  state = cuts_stay_sendable s x old.store new.store old.locks new.locks o.world small h o.state short;
}

pub new_server : (store : StoreState) (ls : Locks) → store.world ≡ empty_from 1 → ls ≡ Some [] → IsSendableServer (record { store = store; locks = ls })
new_server store ls is none = record {
  world = subst IsWorld (sym is) (empty_is_world 1 (omega arith) (omega arith));
  state = subst (λ (l : Locks). IsSendableState store l) (sym none) (new_is_sendable 1 store is).0;
}
