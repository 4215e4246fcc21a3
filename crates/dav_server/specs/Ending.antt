-- No lock ends by a request that neither names its token nor hands it in for a lock of its own (RFC 4918, sections 6.5, 7 and 9.11).
use Rattle.std.specs.Prelude.{◌≢◌, Some}
use Rattle.dav_core.specs.Asking.{StoreState}
use Rattle.dav_core.specs.Locks.{Lock}
use Rattle.dav_engine.specs.Guard.{Stands}
use Rattle.dav_engine.specs.Plan.{Locks}
use Rattle.dav_engine.specs.Reply.{Reply}
use Rattle.dav_server.specs.Machine.{Exchange, Settings, Steps, StepCut}
use Rattle.dav_server.specs.Naming.{NamesToken}

-- A lock that is in the list when a request begins is in the list after it, perhaps refreshed, whatever the store refuses; unless the
-- request names its token, or hands it in for a lock that it creates (RFC 4918, sections 7 and 9.11).
abbrev pub NoLockEnds : Type 0
NoLockEnds =
    (s : Settings) (x : Exchange) (old new : StoreState) (ls ms : Locks) (reply : Reply) (h : Lock)
    → Stands h ls → ¬ NamesToken x h.token → x.token ≢ Some h.token → Steps s x old ls reply new ms → Stands h ms

-- A lock that is in the list when a request begins is in the list also after a step in which memory runs out, unless the request names
-- its token, or hands it in for a lock that it creates (RFC 4918, sections 7 and 9.11).
abbrev pub NoLockEndsCut : Type 0
NoLockEndsCut =
    (s : Settings) (x : Exchange) (old new : StoreState) (ls ms : Locks) (h : Lock)
    → Stands h ls → ¬ NamesToken x h.token → x.token ≢ Some h.token → StepCut s x old ls new ms → Stands h ms
