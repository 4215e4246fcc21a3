-- The element tree of each reply is read again by its client (RFC 4918, section 8.2).
use Rattle.std.specs.Prelude.{◌≡◌, ℕ, ◌≤◌, List, [], Some, None}
use Rattle.std.specs.List.{AllByRecursion}
use Rattle.dav_core.specs.Element.{ElementTree, child_elements}
use Rattle.dav_core.specs.Asking.{StoreState}
use Rattle.dav_core.specs.World.{IsWorld, last_moment, empty_from}
use Rattle.dav_engine.specs.declared.request.Body.TheVariants as body
use Rattle.dav_engine.specs.Plan.{Locks, ServerState}
use Rattle.dav_engine.specs.Reply.{Reply}
use Rattle.dav_server.specs.Machine.{Exchange, Settings, Steps, StepCut}
use Rattle.dav_server.specs.Run.{Turn, Runs}
use Rattle.dav_server.specs.TagLaws.{MomentsAreDates}
use Rattle.dav_xml.specs.Sendable.{IsSendable}
use Rattle.dav_http.specs.Owners.{prefixed_owners}
use Rattle.dav_http.specs.Sent.{IsSendableTextIfAny, KeepsSendable, AreSendableLocks, IsSendableBody, IsUsualOwner, IsReadByClient}

-- Of a request the body may be sent, and so may the name of who makes it, and the token for a lock that it creates.
pub record IsSendableRequest (x : Exchange) : Type 0 where
  pub body : IsSendableBody x.body
  pub principal : IsSendableTextIfAny x.principal
  pub token : IsSendableTextIfAny x.token

-- what a store keeps and what a list of locks holds may be sent
pub record IsSendableState (store : StoreState) (locks : Locks) : Type 0 where
  pub keeps : KeepsSendable store.world
  pub holds : AreSendableLocks locks

-- A server whose store holds a world, and all that its store keeps and its list of locks holds may be sent.
pub record IsSendableServer (s : ServerState) : Type 0 where
  pub world : IsWorld s.store.world
  pub state : IsSendableState s.store s.locks

-- A new server keeps nothing that may not be sent.
abbrev pub NewIsSendable : Type 0
NewIsSendable = (next : ℕ) (store : StoreState) → store.world ≡ empty_from next → IsSendableState store (Some []) × IsSendableState store None

-- What a request is answered is read again, whatever the store refuses; and what is kept then may be sent.
abbrev pub StepsAreReadAgain : Type 0
StepsAreReadAgain =
    (s : Settings) (x : Exchange) (old new : StoreState) (ls ms : Locks) (r : Reply)
    → IsWorld old.world → x.moment ≤ last_moment → IsSendableRequest x → IsSendableState old ls → Steps s x old ls r new ms
    → IsReadByClient r.body × IsSendableState new ms

-- What each request of a run is answered is read again, whatever the store refuses; and what is kept at its end may be sent.
abbrev pub RunsAreReadAgain : Type 0
RunsAreReadAgain =
    (s : Settings) (ts : List Turn) (old new : StoreState) (ls ms : Locks) (rs : List Reply)
    → IsWorld old.world → MomentsAreDates ts → AllByRecursion (λ t. IsSendableRequest t.asked) ts → IsSendableState old ls → Runs s ts old ls rs new ms
    → AllByRecursion (λ r. IsReadByClient r.body) rs × IsSendableState new ms

-- What is kept may be sent too where memory ran out in a request.
abbrev pub CutsStaySendable : Type 0
CutsStaySendable =
    (s : Settings) (x : Exchange) (old new : StoreState) (ls ms : Locks)
    → IsWorld old.world → x.moment ≤ last_moment → IsSendableRequest x → IsSendableState old ls → StepCut s x old ls new ms → IsSendableState new ms

-- A tree that may be sent may be sent as a body, where each owner in it is as the standard has it (RFC 4918, section 14.17).
abbrev pub UsualOwnersMayBeSent : Type 0
UsualOwnersMayBeSent = (tree : ElementTree) → IsSendable tree → AllByRecursion IsUsualOwner (child_elements tree) → IsSendableBody (body.Tree tree)

-- A tree that may be sent may be sent as a body, once each owner in it has the prefix `D` (RFC 4918, section 14.17).
abbrev pub PrefixedOwnersMayBeSent : Type 0
PrefixedOwnersMayBeSent = (tree : ElementTree) → IsSendable tree → IsSendableBody (body.Tree (prefixed_owners tree))
