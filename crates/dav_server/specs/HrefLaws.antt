-- Hrefs lead back: each href of a multistatus, as the target of a request, names the path that its response is about (RFC 4918, sections
-- 8.3 and 14.7).
use Rattle.std.specs.Prelude.{◌≡◌, ◌≢◌, ◌⊎◌, ℕ, ◌≤◌, Bool, true, false, List, [], ◌∷◌, All, map, codes, Option, None, Ok}
use Rattle.http_header.specs.HeaderMap.{get_all}
use Rattle.dav_core.specs.declared.method.DavMethod.{DavMethod}
use Rattle.dav_core.specs.declared.method.DavMethod.TheVariants.{PropFind, Copy, Move}
use Rattle.dav_core.specs.Asking.{StoreState}
use Rattle.dav_core.specs.CallLaws.{IsStorable}
use Rattle.dav_core.specs.Element.{ElementTree}
use Rattle.dav_core.specs.Path.{PathText, names, star, path_bytes, full_bytes, without_slash, is_at_or_under}
use Rattle.dav_core.specs.UrlText.{path_text}
use Rattle.dav_core.specs.World.{World, IsWorld, last_moment}
use Rattle.dav_headers.specs.Depth.{IsDepth}
use Rattle.dav_headers.specs.declared.depth.Depth.{Depth}
use Rattle.dav_engine.specs.AnswerParts.{children_named}
use Rattle.dav_engine.specs.CopyMove.{DestinationNames}
use Rattle.dav_engine.specs.Headers.{Decodes}
use Rattle.dav_engine.specs.Multistatus.{PathStatus, dav_text, multistatus_reply}
use Rattle.dav_engine.specs.Plan.{Locks}
use Rattle.dav_engine.specs.Properties.{Group, property_response}
use Rattle.dav_engine.specs.PropfindLaws.{AreListed, AsksListing, HasFewNames, path_in, responses_in}
use Rattle.dav_engine.specs.RefusedCalls.{lists_what_is_there}
use Rattle.dav_engine.specs.Reply.{Reply}
use Rattle.dav_server.specs.Head.{Request}
use Rattle.dav_server.specs.Headers.{headers_of}
use Rattle.dav_server.specs.Holder.{IsRequestTo}
use Rattle.dav_server.specs.Machine.{Exchange, Settings, StepsBy, Steps, StepRefused}
use Rattle.dav_server.specs.Server.{Server}
use Rattle.dav_server.specs.Setup.{IsPrefix}
use Rattle.dav_server.specs.Target.{TargetNames}

-- ---- the text of a path

-- A path of a server with this prefix: the prefix without a slash at its end, then names, whatever their bytes are, each after a slash,
-- and perhaps a slash at the end.
pub record IsServedPath (prefix : List ℕ) (p : PathText) : Type 0 where
  pub front : p.prefix ≡ without_slash prefix
  pub storable : IsStorable (names p)
  pub is_closed : Bool
  pub bytes_are : p.bytes ≡ path_bytes (names p) is_closed

-- What a target other than `*` names is a path of the server with this prefix.
abbrev pub TargetsAreServed : Type 0
TargetsAreServed = (prefix target : List ℕ) (m : DavMethod) (p : PathText) → target ≢ star → TargetNames prefix m target (Ok p) → IsServedPath prefix p

-- a request with this target is for this path, whatever its method is (RFC 4918, section 8.3)
abbrev pub LeadsTo : List ℕ → List ℕ → PathText → Type 0
LeadsTo prefix target p = (m : DavMethod) → TargetNames prefix m target (Ok p)

-- The text of a served path in a URL, with the prefix and with escapes, is a target that names this path (RFC 4918, section 8.3).
abbrev pub TextsLeadBack : Type 0
TextsLeadBack = (prefix : List ℕ) (p : PathText) → IsPrefix prefix → IsServedPath prefix p → LeadsTo prefix (path_text (full_bytes p)) p

-- ---- responses

-- The response is about this path: it has one href of its own, and that is a target that names the path (RFC 4918, sections 14.7 and
-- 14.24).
pub record TellsOf (prefix : List ℕ) (p : PathText) (response : ElementTree) : Type 0 where
  pub text : List ℕ
  pub hrefs : children_named (codes "href") response ≡ dav_text (codes "href") text ∷ []
  pub leads : LeadsTo prefix text p

-- the responses are about these paths, one for each, in order (RFC 4918, sections 14.7 and 14.24)
pub data TellOf (prefix : List ℕ) : List PathText → List ElementTree → Type 0 where
  none_told : TellOf prefix [] []
  one_told : {p : PathText} {ps : List PathText} {response : ElementTree} {responses : List ElementTree}
      → TellsOf prefix p response → TellOf prefix ps responses → TellOf prefix (p ∷ ps) (response ∷ responses)

-- A multistatus that reports a status for each of these paths has a response for each of them, in order, whose href leads back to the
-- path (RFC 4918, sections 13 and 14.24).
abbrev pub StatusesLeadBack : Type 0
StatusesLeadBack =
    (prefix : List ℕ) (items : List PathStatus)
    → IsPrefix prefix → All (λ i. IsServedPath prefix i.0) items
    → TellOf prefix (map (λ i. i.0) items) (responses_in (multistatus_reply items).body)

-- The response with the properties of a path, under any statuses, has one href, which leads back to the path (RFC 4918, sections 9.1 and
-- 14.24).
abbrev pub PropertiesLeadBack : Type 0
PropertiesLeadBack =
    (prefix : List ℕ) (p : PathText) (groups : List Group) → IsPrefix prefix → IsServedPath prefix p → TellsOf prefix p (property_response p groups)

-- ---- replies

-- The request concerns this path: it is the request's target or below it, or for COPY and MOVE the destination or below it.
pub data ConcernsPath (s : Settings) (x : Exchange) (q : PathText) : Type 0 where
  at_target : (r : Request) (m : DavMethod) (p : PathText) → IsRequestTo s x r m p → is_at_or_under (names q) (names p) ≡ true → ConcernsPath s x q
  at_destination : (r : Request) (m : DavMethod) (p d : PathText) → IsRequestTo s x r m p → (m ≡ Copy) ⊎ (m ≡ Move)
      → DestinationNames p.prefix (get_all (headers_of r.fields) (codes "destination")) (Ok d) → is_at_or_under (names q) (names d) ≡ true → ConcernsPath s x q

-- the response is about a path that the request concerns, by an href that leads to it
abbrev pub HasConcernedHref : Settings → Exchange → ElementTree → Type 0
HasConcernedHref s x response = (q : PathText) × ConcernsPath s x q × TellsOf s.prefix q response

-- Each response of a multistatus that answers a request is about a path that the request concerns, whatever its method is and whatever
-- the store refuses, where the server's prefix is a prefix and its store holds a world (RFC 4918, sections 8.3 and 13).
abbrev pub RepliesLeadBack : Type 0
RepliesLeadBack =
    (s : Settings) (x : Exchange) (old new : StoreState) (ls ms : Locks) (reply : Reply)
    → IsPrefix s.prefix → IsWorld old.world → x.moment ≤ last_moment → Steps s x old ls reply new ms
    → All (HasConcernedHref s x) (responses_in reply.body)

-- The hrefs of this reply lead back to paths that the request concerns, where the server's prefix is a prefix, its store holds a world,
-- and the moment is one that HTTP can write (RFC 4918, sections 8.3 and 13).
abbrev pub ReplyLeadsBack : Server → Exchange → Reply → Type 0
ReplyLeadsBack old x reply =
    IsPrefix old.settings.prefix → IsWorld old.state.store.world → x.moment ≤ last_moment → All (HasConcernedHref old.settings x) (responses_in reply.body)

-- ---- what is listed

-- The responses are about what a PROPFIND of this depth lists, in order (RFC 4918, sections 9.1 and 10.2).
abbrev pub TellAll : List ℕ → World → PathText → Option Depth → List ElementTree → Type 0
TellAll prefix w p depth responses = (ps : List PathText) × AreListed w p depth ps × TellOf prefix ps responses

-- A PROPFIND that is answered 207 has a response for everything that it lists, where the store refuses none of its calls that list or
-- describe what is there, and paths have fewer than 2^64 names: at Depth 0 for its target, at Depth 1 also for the members, at Depth
-- infinity for all that is below it; without a Depth for the members alone (RFC 4918, sections 9.1 and 10.2).
abbrev pub ListingsAreWhole : Type 0
ListingsAreWhole =
    (s : Settings) (x : Exchange) (r : Request) (p : PathText) (depth : Option Depth) (old new : StoreState) (ls ms : Locks) (reply : Reply)
    → IsPrefix s.prefix → IsWorld old.world → IsRequestTo s x r PropFind p
    → Decodes IsDepth (get_all (headers_of r.fields) (codes "depth")) depth → HasFewNames depth old.world p
    → StepsBy AsksListing s x old ls reply new ms → reply.status ≡ 207
    → TellAll s.prefix old.world (path_in old.world p) depth (responses_in reply.body)

-- In a step of a store to which no refusal is left, and that doesn't run out of memory, no call is refused that lists or describes what is
-- there.
abbrev pub UnrefusedStepsList : Type 0
UnrefusedStepsList =
    (s : Settings) (x : Exchange) (old new : StoreState) (ls ms : Locks) (reply : Reply)
    → All (λ e. e ≡ None) old.refusals → new.short ≡ false → ¬ StepRefused lists_what_is_there s x old ls reply new ms

-- This reply to a PROPFIND, where it is a 207, has a response for everything that it lists, if the server's prefix is a prefix and its store
-- holds a world whose paths have fewer than 2^64 names; or else the store refused, in answering it, to list a folder that is there or to
-- give the metadata of a member that is there (RFC 4918, sections 9.1 and 10.2).
abbrev pub ReplyIsWhole : Server → Exchange → Reply → Server → Type 0
ReplyIsWhole old x reply new =
    (r : Request) (p : PathText) (depth : Option Depth)
    → IsPrefix old.settings.prefix → IsWorld old.state.store.world → IsRequestTo old.settings x r PropFind p
    → Decodes IsDepth (get_all (headers_of r.fields) (codes "depth")) depth → HasFewNames depth old.state.store.world p → reply.status ≡ 207
    → TellAll old.settings.prefix old.state.store.world (path_in old.state.store.world p) depth (responses_in reply.body)
    ⊎ StepRefused lists_what_is_there old.settings x old.state.store old.state.locks reply new.state.store new.state.locks
