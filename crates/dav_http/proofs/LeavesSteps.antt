-- A request that is known to leave the server leaves it as it was.
use Rattle.std.proofs.Common.{◌≡◌, ◌≤◌, ◌⊎◌, inl, inr, ℕ, Bool, false, List, [], All, Option, None, Result, Err, refl, sym, ap, subst, ◌∙◌}
use Rattle.std.proofs.lemmas.List.Elements.{All-nil}
use Rattle.dav_core.specs.declared.errors.FsError.{FsError}
use Rattle.dav_core.specs.declared.errors.DavError.{DavError}
use Rattle.dav_core.specs.Asking.{Asks, StoreState}
use Rattle.dav_core.specs.World.{World, IsWorld, last_moment}
use Rattle.dav_engine.specs.Method.{MethodPlan, fails}
use Rattle.dav_engine.specs.Plan.{Locks, Ran, ran_done}
use Rattle.dav_engine.specs.Reply.{Reply}
use Rattle.dav_server.specs.Head.{IsHead, Request}
use Rattle.dav_server.specs.Leaving.{SafeLeaves, SameContent}
use Rattle.dav_server.specs.Machine.{Exchange, Means, Settings, Steps, steps}
use Rattle.dav_server.specs.Machine as machine
use Rattle.dav_server.specs.Method.{GivesServed}
use Rattle.dav_server.specs.Server.{Answers, Server}
use Rattle.dav_server.proofs.EarlyErrors.{early_errors_leave}
use Rattle.dav_server.proofs.HeadLemmas.{one_head}
use Rattle.dav_store.specs.Store.{Store, state_of}
use Rattle.dav_http.specs.Leaves as leaves
use Rattle.dav_http.specs.Leaves.{Leaves}

-- a plan that fails at once leaves all
failed : {e : DavError} (old new : StoreState) (ls ms : Locks) (outcome : Result Reply DavError) → Ran Asks (fails e) old ls outcome new ms → (new ≡ old) × (ms ≡ ls)
failed old new ls ms outcome ran_done = (refl, refl)

-- bytes that are no head, or one of a method that isn't served
abbrev IsUnread : List ℕ → Type 0
IsUnread head = ((r : Request) → ¬ IsHead head r) ⊎ ((r : Request) × (e : DavError) × IsHead head r × GivesServed r.method (Err e))

unread : (s : Settings) (x : Exchange) (plan : MethodPlan Reply) (old new : StoreState) (ls ms : Locks) (outcome : Result Reply DavError) → IsUnread x.head → Means s x plan
    → Ran Asks plan old ls outcome new ms → (new ≡ old) × (ms ≡ ls)
unread s x plan old new ls ms outcome out (machine.no_head none) ran = failed old new ls ms outcome ran
unread s x plan old new ls ms outcome out (machine.no_method r e is gives) ran = failed old new ls ms outcome ran
unread s x plan old new ls ms outcome (inl none) (machine.known r m is gives means) ran = absurd (none r is)
unread s x plan old new ls ms outcome (inr (q, e, other, refuses)) (machine.known r m is gives means) ran =
    absurd (refuses.1 m gives.0 (ap (λ (y : Request). y.method) (one_head x.head q r other is) ∙ gives.1))

unread_step : (s : Settings) (x : Exchange) (old new : StoreState) (ls ms : Locks) (reply : Reply) → IsUnread x.head → Steps s x old ls reply new ms → (new.world ≡ old.world) × (ms ≡ ls)
unread_step s x old new ls ms reply out (steps plan outcome means ran) =
    let same = unread s x plan old new ls ms outcome out means ran in
    (ap (λ (t : StoreState). t.world) same.0, same.1)

content_left : (old new : Server) (x : Exchange) (reply : Reply) → Answers old x reply new → SafeLeaves x old.state new.state
    → IsWorld old.state.store.world → x.moment ≤ last_moment → All (λ (e : Option FsError). e ≡ None) old.state.store.refusals → new.state.store.short ≡ false
    → Leaves x.head reply → SameContent old.state new.state
content_left old new x reply step safe world small none unset (leaves.no_head out) =
    unread_step old.settings x old.state.store new.state.store old.state.locks new.state.locks reply (inl out) step
content_left old new x reply step safe world small none unset (leaves.reading r m is gives reads) = safe (m, (r, is, gives), reads)
content_left old new x reply step safe world small none unset (leaves.unserved r e is gives) =
    unread_step old.settings x old.state.store new.state.store old.state.locks new.state.locks reply (inr (r, e, is, gives)) step
content_left old new x reply step safe world small none unset (leaves.early r m is gives error) =
    early_errors_leave old.settings x m old.state.store new.state.store old.state.locks new.state.locks reply world small none unset (r, is, gives) error step

-- of a store in memory that had memory for all, the same content is the same state
pub left_as_it_was : (old new : Server) (x : Exchange) (reply : Reply) (s t : Store) → new.settings ≡ old.settings → Answers old x reply new
    → SafeLeaves x old.state new.state → IsWorld old.state.store.world → x.moment ≤ last_moment
    → state_of s ≡ old.state.store → state_of t ≡ new.state.store → s.short ≡ false → t.short ≡ false → Leaves x.head reply → new ≡ old
left_as_it_was old new x reply s t settings step safe holds small was now had has left =
    let none : All (λ (e : Option FsError). e ≡ None) old.state.store.refusals = subst (All (λ (e : Option FsError). e ≡ None)) (ap (λ (u : StoreState). u.refusals) was) (All-nil (λ (e : Option FsError). e ≡ None)) in
    let unset : new.state.store.short ≡ false = ap (λ (u : StoreState). u.short) (sym now) ∙ has in
    let same = content_left old new x reply step safe holds small none unset left in
    let world : t.world ≡ s.world = ap (λ (u : StoreState). u.world) now ∙ same.0 ∙ sym (ap (λ (u : StoreState). u.world) was) in
    let store : new.state.store ≡ old.state.store =
    sym now ∙ ap (λ (w : World). record { world = w; refusals = []; short = t.short }) world
    ∙ ap (λ (b : Bool). record { world = s.world; refusals = []; short = b }) (has ∙ sym had) ∙ was in
    ap (λ (q : Settings). record { settings = q; state = new.state }) settings
    ∙ ap (λ (u : StoreState). record { settings = old.settings; state = record { store = u; locks = new.state.locks } }) store
    ∙ ap (λ (ls : Locks). record { settings = old.settings; state = record { store = old.state.store; locks = ls } }) same.1
