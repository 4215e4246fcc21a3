-- How the logic stores states, replies and what a LOCK asks for.
use Rattle.std.specs.Prelude.{ℕ, Bool, List, Option, refl}
use Rattle.std.specs.Coded.{Coded, code_by, coded_ℕ, coded_bool, coded_list, coded_option, coded×}
use Rattle.dav_core.specs.declared.errors.FsError.{FsError}
use Rattle.dav_core.specs.Asking.{StoreState}
use Rattle.dav_core.specs.Element.{ElementTree}
use Rattle.dav_core.specs.ElementCode.{coded_tree}
use Rattle.dav_core.specs.Locks.{Lock}
use Rattle.dav_core.specs.LockCode.{lock_code}
use Rattle.dav_core.specs.World.{World}
use Rattle.dav_core.specs.WorldCode.{coded_world}
use Rattle.dav_engine.specs.declared.lock_scope.LockScope.{LockScope}
use Rattle.dav_engine.specs.declared.reply.ReplyBody.{ReplyBody}
use Rattle.dav_engine.specs.LockInfo.{LockInfo}
use Rattle.dav_engine.specs.Plan.{ServerState}
use Rattle.dav_engine.specs.Reply.{Header, Reply}

-- How the logic stores the state of a store, given how it stores an error.
abbrev pub coded_store : Coded FsError → Coded StoreState
coded_store refusal =
    code_by (World × (List (Option FsError) × Bool)) (coded× coded_world (coded× (coded_list (coded_option refusal)) coded_bool))
    (λ s. (s.world, (s.refusals, s.short))) (λ p. record { world = p.0; refusals = p.1.0; short = p.1.1 }) (λ _. refl)

-- How the logic stores the state of a server, given how it stores an error of the store.
abbrev pub coded_state : Coded FsError → Coded ServerState
coded_state refusal =
    code_by (StoreState × Option (List Lock)) (coded× (coded_store refusal) (coded_option (coded_list lock_code)))
    (λ s. (s.store, s.locks)) (λ p. record { store = p.0; locks = p.1 }) (λ _. refl)

-- How the logic stores a reply, given how it stores a body.
abbrev pub coded_response : Coded ReplyBody → Coded Reply
coded_response body =
    code_by (ℕ × (List Header × ReplyBody)) (coded× coded_ℕ (coded× (coded_list (coded× (coded_list coded_ℕ) (coded_list coded_ℕ))) body))
    (λ r. (r.status, (r.headers, r.body))) (λ p. record { status = p.0; headers = p.1.0; body = p.1.1 }) (λ _. refl)

-- How the logic stores what the body of a LOCK asks for.
abbrev pub coded_lock_info : Coded LockScope → Coded LockInfo
coded_lock_info scope =
    code_by (LockScope × Option ElementTree) (coded× scope (coded_option coded_tree))
    (λ i. (i.scope, i.owner)) (λ p. record { scope = p.0; owner = p.1 }) (λ _. refl)
