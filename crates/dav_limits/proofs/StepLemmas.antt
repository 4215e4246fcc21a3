-- A request leaves how much is where it may change nothing.
use Rattle.std.proofs.Common.{◌+◌, ◌≡◌, ◌≤◌, ℕ, Bool, true, not, min, List, length, option_map, Option, Some, None, refl, sym, ap, subst, ◌∙◌, arith}
use Rattle.std.specs.FinMap.{find}
use Rattle.dav_store.specs.Sizes.{properties_len}
use Rattle.dav_store.specs.Used.{size_of}
use Rattle.dav_core.specs.Locks.{Lock}
use Rattle.dav_core.specs.Path.{Path, path_cmp}
use Rattle.dav_core.specs.World.{IsWorld, Node, World, bytes_of, last_moment, node_at}
use Rattle.dav_engine.specs.Caller.{Caller}
use Rattle.dav_engine.specs.Inside.{Content, content_of}
use Rattle.dav_engine.specs.Plan.{Locks}
use Rattle.dav_engine.specs.Reply.{Reply}
use Rattle.dav_engine.specs.Sparing.{Spared}
use Rattle.dav_server.specs.Machine.{Exchange, Steps}
use Rattle.dav_server.specs.Server.{Server}
use Rattle.dav_confined.specs.Asked.{AskedView}
use Rattle.dav_confined.specs.ConfinedSteps.{KeepsOff}
use Rattle.dav_confined.proofs.ReachedLemmas.{keeps_off_unreached, unread_keeps_off}
use Rattle.dav_confined.proofs.StepsConfined.{steps_leave_others}
use Rattle.dav_http.specs.Steps.{IsStepFor}
use Rattle.dav_limits.specs.Parts.{may_change}
use Rattle.dav_limits.specs.Watches.{IsReading}

-- how many bytes a content has
abbrev sized : Content → ℕ
sized c = length (bytes_of c.0) + properties_len c.1

content_size : (o : Option Node) → option_map size_of o ≡ option_map sized (option_map content_of o)
content_size None = refl
content_size (Some n) = refl

-- what has the same content has the same size
pub alike : (covered : Path → Bool) (w v : World) → Spared covered w v → (q : Path) → covered q ≡ true → option_map size_of (find path_cmp q w.nodes) ≡ option_map size_of (find path_cmp q v.nodes)
alike covered w v spared q is =
    content_size (node_at w q) ∙ ap (option_map sized) (spared.same q is) ∙ sym (content_size (node_at v q))

off : (s : Server) (head : List ℕ) (asked : Option AskedView) → IsReading s head asked → (x : Exchange) → x.head ≡ head → KeepsOff (λ q. not (may_change asked q)) s.settings x
off s head None reading x here = unread_keeps_off (λ q. not (may_change None q)) s.settings x (reading s.settings x refl here)
off s head (Some a) reading x here = keeps_off_unreached s.settings x a (reading s.settings x refl here)

below : (a b : ℕ) → min a b ≤ b
below a b = omega arith

-- a step leaves the content where what is asked may change nothing
pub spared : (head body : List ℕ) (who : Caller) (old new : Server) (reply : Reply) (asked : Option AskedView) (ls : List Lock) → IsReading old head asked → old.state.locks ≡ Some ls
    → IsWorld old.state.store.world → IsStepFor head body who old reply new → Spared (λ q. not (may_change asked q)) old.state.store.world new.state.store.world
spared head body who old new reply asked ls reading locked world step =
    let x = step.exchange in
    let small : x.moment ≤ last_moment = subst (λ (n : ℕ). n ≤ last_moment) (sym step.is_exchange.moment) (below who.moment last_moment) in
    steps_leave_others (λ q. not (may_change asked q)) old.settings x old.state.store new.state.store ls new.state.locks reply
    (off old head asked reading x step.is_exchange.head_is) small world
    (subst (λ (locks : Locks). Steps old.settings x old.state.store locks reply new.state.store new.state.locks) locked step.answers)
