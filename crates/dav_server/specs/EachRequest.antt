-- Each request of a run, and what it finds at its path (RFC 9110, sections 13.1 and 15.4.5; RFC 4918, section 10.4).
use Rattle.std.specs.Prelude.{◌≡◌, ◌++◌, ℕ, List, ◌∷◌, Some}
use Rattle.dav_core.specs.Path.{PathText, names}
use Rattle.dav_core.specs.World.{Node, File, node_at}
use Rattle.dav_headers.specs.ETag.{EntityTag, tag_text}
use Rattle.dav_engine.specs.Plan.{ServerState}
use Rattle.dav_engine.specs.Reply.{Reply}
use Rattle.dav_server.specs.Machine.{Exchange, Settings, Steps}
use Rattle.dav_server.specs.Run.{Turn, begun, Runs}
use Rattle.dav_server.specs.Server.{Server}
use Rattle.dav_server.specs.TagLaws.{ShownIn, LacksTag}
use Rattle.dav_server.specs.UpdateLaws.{ToldIn, UpdatesIf, IsSuccess}

-- One request of a run of these turns with these replies: its turn and its reply, those before and after it, and the store and the list
-- of locks before its step, without the refusals that its turn brings (`was`), and after it (`now`).
pub record RunStep (old : Server) (ts : List Turn) (replies : List Reply) : Type 0 where
  pub front : List Turn
  pub turn : Turn
  pub back : List Turn
  pub before : List Reply
  pub reply : Reply
  pub after : List Reply
  pub was : ServerState
  pub now : ServerState
  pub turns_are : ts ≡ front ++ turn ∷ back
  pub replies_are : replies ≡ before ++ reply ∷ after
  pub earlier : Runs old.settings front old.state.store old.state.locks before was.store was.locks
  pub stepped : Steps old.settings turn.asked (begun turn.refusals was.store) was.locks reply now.store now.locks

-- at this path is a file with these bytes
abbrev pub HoldsBytes : ServerState → PathText → List ℕ → Type 0
HoldsBytes state p bytes = (n : Node) × (node_at state.store.world (names p) ≡ Some n) × (n.kind ≡ File bytes)

-- A request that is answered 304 to an If-None-Match of one tag finds at its path a file with the bytes that any GET among these requests
-- was answered with under that tag (RFC 9110, sections 13.1.2 and 15.4.5).
abbrev pub Every304IsTrue : Settings → List Turn → List Reply → Exchange → Reply → ServerState → Type 0
Every304IsTrue s ts replies x reply was =
    (p : PathText) (tag : EntityTag) (bytes : List ℕ)
    → reply.status ≡ 304 → LacksTag s x p tag → ShownIn ts replies (tag_text tag.weak tag.tag) bytes → HoldsBytes was p bytes

-- An update on condition of one entity tag that is answered with success finds at its path a file with the bytes that a reply among these
-- reported under that tag (RFC 9110, section 13.1.1; RFC 4918, section 10.4).
abbrev pub UpdateFinds : Settings → List Turn → List Reply → Exchange → Reply → ServerState → Type 0
UpdateFinds s ts replies x reply was =
    (p : PathText) (tag : EntityTag) (bytes : List ℕ)
    → ToldIn ts replies (tag_text tag.weak tag.tag) bytes → UpdatesIf s x p tag → IsSuccess reply.status → HoldsBytes was p bytes
