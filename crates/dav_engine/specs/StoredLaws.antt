-- A property that a client stores is reported again, as the same element (RFC 4918, sections 4 and 9.2).
use Rattle.std.specs.Prelude.{◌≡◌, ◌≢◌, ◌++◌, true, false, List, ◌∷◌, All, codes, Some, None, Ok}
use Rattle.std.specs.FinMap.{find}
use Rattle.http_header.specs.HeaderMap.{get_all}
use Rattle.dav_core.specs.Asking.{StoreState, Asks}
use Rattle.dav_core.specs.Element.{ElementTree}
use Rattle.dav_core.specs.Path.{Path, PathText, star, names}
use Rattle.dav_core.specs.Property.{key_cmp, is_same_key}
use Rattle.dav_core.specs.World.{World, Node, node_at}
use Rattle.dav_headers.specs.Depth.{IsDepth}
use Rattle.dav_headers.specs.declared.depth.Depth.{Depth}
use Rattle.dav_engine.specs.declared.request.Body.{Body}
use Rattle.dav_engine.specs.Caller.{Caller}
use Rattle.dav_engine.specs.Folder.{closed}
use Rattle.dav_engine.specs.Headers.{Headers}
use Rattle.dav_engine.specs.Method.{MethodPlan}
use Rattle.dav_engine.specs.Plan.{Locks, Ran}
use Rattle.dav_engine.specs.Properties.{key_of, found_groups, property_response}
use Rattle.dav_engine.specs.Propfind.{IsPropfind}
use Rattle.dav_engine.specs.PropfindLaws.{path_in, responses_in}
use Rattle.dav_engine.specs.Proppatch.{Change, to_store}
use Rattle.dav_engine.specs.ProppatchLaws.{patched_world, AreDone, IsPatched}
use Rattle.dav_engine.specs.Reply.{Reply}

-- What is at the path keeps this element as one of its dead properties.
pub record Keeps (w : World) (p : Path) (e : ElementTree) : Type 0 where
  pub node : Node
  pub stands : node_at w p ≡ Some node
  pub kept : find key_cmp (key_of e) node.properties ≡ Some (Some e)

-- These changes set this element, and none after it is of the same property (RFC 4918, section 9.2).
pub record IsSetLast (e : ElementTree) (changes : List Change) : Type 0 where
  pub front : List Change
  pub back : List Change
  pub are : changes ≡ front ++ record { is_set = true; property = e } ∷ back
  pub last : All (λ c. is_same_key (key_of e) (key_of c.property) ≡ false) back

-- After changes that were made at a path, what is there keeps each element that they set last (RFC 4918, section 9.2).
abbrev pub SetIsKept : Type 0
SetIsKept =
    (p : Path) (changes : List Change) (e : ElementTree) (w : World) (n : Node)
    → node_at w p ≡ Some n → IsSetLast e changes → Keeps (patched_world p changes w) p e

-- What is at the path of a PROPPATCH keeps each element that it set last of those that the store was to make, where the reply
-- reports 200 for each property (RFC 4918, section 9.2).
abbrev pub PatchedIsKept : Type 0
PatchedIsKept =
    (p : PathText) (content : Body) (r : Reply) (e : ElementTree) (w v : World) (n : Node) (done : IsPatched p content r w v)
    → node_at w (names (closed done.dir p)) ≡ Some n → AreDone done.told → IsSetLast e (to_store done.has done.changes) → Keeps v (names (closed done.dir p)) e

-- The response for a path has this element, whole, among the properties that were found (RFC 4918, sections 9.1 and 14.22).
pub record TellsWhole (p : PathText) (e response : ElementTree) : Type 0 where
  pub front : List ElementTree
  pub back : List ElementTree
  pub is : response ≡ property_response p (found_groups (front ++ e ∷ back))

-- Whatever a PROPFIND with a Depth asks for, if it is answered 207, no refusal is left to come and the store doesn't run out of
-- memory, its first response is for its target, and has each element that the target keeps (RFC 4918, sections 9.1 and 14.22).
abbrev pub KeptIsTold : Type 0
KeptIsTold =
    (headers : Headers) (depth : Depth) (p : PathText) (content : Body) (who : Caller) (plan : MethodPlan Reply) (e : ElementTree)
    (old new : StoreState) (ls ms : Locks) (r : Reply)
    → p.bytes ≢ star → IsDepth (get_all headers (codes "depth")) depth → IsPropfind headers p content who plan → Keeps old.world (names p) e
    → All (λ x. x ≡ None) old.refusals → new.short ≡ false → Ran Asks plan old ls (Ok r) new ms → r.status ≡ 207
    → (response : ElementTree) × (more : List ElementTree) × (responses_in r.body ≡ response ∷ more) × TellsWhole (path_in old.world p) e response
