-- A property that a client stores by a PROPPATCH comes back by a PROPFIND, as the same element (RFC 4918, sections 4, 9.1 and 9.2).
use Rattle.std.specs.Prelude.{◌≡◌, false, List, ◌∷◌, All, codes, None, Ok}
use Rattle.http_header.specs.HeaderMap.{get_all}
use Rattle.dav_core.specs.declared.method.DavMethod.TheVariants.{PropFind, PropPatch}
use Rattle.dav_core.specs.Asking.{StoreState}
use Rattle.dav_core.specs.Element.{ElementTree}
use Rattle.dav_core.specs.Path.{PathText, names}
use Rattle.dav_core.specs.World.{World, is_missing}
use Rattle.dav_headers.specs.Depth.{IsDepth}
use Rattle.dav_headers.specs.declared.depth.Depth.{Depth}
use Rattle.dav_engine.specs.declared.request.Body.{Body}
use Rattle.dav_engine.specs.Plan.{Locks}
use Rattle.dav_engine.specs.PropfindLaws.{path_in, responses_in}
use Rattle.dav_engine.specs.Proppatch.{to_store}
use Rattle.dav_engine.specs.ProppatchLaws.{AreDone, IsPatched}
use Rattle.dav_engine.specs.Reply.{Reply}
use Rattle.dav_engine.specs.StoredLaws.{IsSetLast, TellsWhole}
use Rattle.dav_server.specs.Head.{Request}
use Rattle.dav_server.specs.Headers.{headers_of}
use Rattle.dav_server.specs.Holder.{IsRequestTo}
use Rattle.dav_server.specs.Machine.{Settings, Exchange, Steps, body_for, taken_by}

-- What a PROPPATCH that is answered 207 did to what is at its path: it made all changes of its body that were to be stored, or none (RFC
-- 4918, section 9.2).
pub record Patched (x : Exchange) (p : PathText) (reply : Reply) (w v : World) : Type 0 where
  pub content : Body
  pub given : body_for (taken_by PropPatch) x.body ≡ Ok content
  pub patched : IsPatched p content reply w v

-- Each PROPPATCH that is answered 207 made all changes that were to be stored, or none, whatever the store refuses (RFC 4918, section 9.2).
abbrev pub PatchesAreMade : Type 0
PatchesAreMade =
    (s : Settings) (x : Exchange) (r : Request) (p : PathText) (old new : StoreState) (ls ms : Locks) (reply : Reply)
    → IsRequestTo s x r PropPatch p → Steps s x old ls reply new ms → reply.status ≡ 207 → Patched x p reply old.world new.world

-- A PROPPATCH stored this element as a property: it answers 200 for each property, and of the changes that were to be stored one sets the
-- element, and no later one is of the same property (RFC 4918, section 9.2).
abbrev pub Stores : {x : Exchange} {p : PathText} {reply : Reply} {w v : World} → Patched x p reply w v → ElementTree → Type 0
Stores did e = AreDone did.patched.told × IsSetLast e (to_store did.patched.has did.patched.changes)

-- The first response of this reply is that of the path, and has this element whole among the properties that were found (RFC 4918,
-- section 9.1).
abbrev pub TellsFirst : World → PathText → ElementTree → Reply → Type 0
TellsFirst w p e reply =
    (response : ElementTree) × (more : List ElementTree) × (responses_in reply.body ≡ response ∷ more) × TellsWhole (path_in w p) e response

-- What a PROPPATCH stored as a property of what is at a path is returned whole by the next PROPFIND of the path with a Depth, whatever
-- properties this asks for and whoever makes it; where it is answered 207, no refusal is left to come, and the store doesn't run out of
-- memory (RFC 4918, sections 4, 9.1 and 9.2).
abbrev pub StoredComesBack : Type 0
StoredComesBack =
    (s : Settings) (x y : Exchange) (q : Request) (p : PathText) (depth : Depth) (e : ElementTree)
    (old mid new : StoreState) (ks ms : Locks) (first second : Reply) (did : Patched x p first old.world mid.world)
    → is_missing old.world (names p) ≡ false → Stores did e
    → IsRequestTo s y q PropFind p → IsDepth (get_all (headers_of q.fields) (codes "depth")) depth
    → All (λ r. r ≡ None) mid.refusals → new.short ≡ false → Steps s y mid ks second new ms → second.status ≡ 207
    → TellsFirst mid.world p e second
