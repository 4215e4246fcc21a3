-- Laws of PROPFIND: of which paths its responses are, and that their hrefs lead back there (RFC 4918, sections 9.1 and 14.7).
use Rattle.std.specs.Prelude.{◌≡◌, ◌≢◌, ◌⊎◌, ℕ, ◌<◌, ◌^◌, ◌++◌, Bool, true, false, codes, List, [], ◌∷◌, All, length, map, Option, Some, None, Result, Ok}
use Rattle.http_header.specs.HeaderMap.{get_all}
use Rattle.dav_core.specs.declared.errors.DavError.{DavError}
use Rattle.dav_core.specs.declared.fs.DavMetaData.{DavMetaData}
use Rattle.dav_core.specs.Asking.{StoreState, Asks}
use Rattle.dav_core.specs.Element.{ElementTree}
use Rattle.dav_core.specs.Path.{Path, PathText, star, names, is_at_or_under}
use Rattle.dav_core.specs.Target.{Reads}
use Rattle.dav_core.specs.World.{World, is_folder, is_missing, members, IsWorld}
use Rattle.dav_headers.specs.Depth.{IsDepth}
use Rattle.dav_headers.specs.declared.depth.Depth.{Depth}
use Rattle.dav_headers.specs.declared.depth.Depth.TheVariants.{Zero, One, Infinity}
use Rattle.dav_engine.specs.declared.reply.ReplyBody.{ReplyBody}
use Rattle.dav_engine.specs.declared.reply.ReplyBody.TheVariants as reply
use Rattle.dav_engine.specs.declared.request.Body.{Body}
use Rattle.dav_engine.specs.AnswerParts.{children_named}
use Rattle.dav_engine.specs.Caller.{Caller}
use Rattle.dav_engine.specs.CopyView.{NamesBelow}
use Rattle.dav_engine.specs.Folder.{closed, child_of}
use Rattle.dav_engine.specs.Headers.{Headers, Decodes}
use Rattle.dav_engine.specs.Method.{MethodPlan}
use Rattle.dav_engine.specs.Multistatus.{dav_text}
use Rattle.dav_engine.specs.Plan.{CallStep, Locks, Ran}
use Rattle.dav_engine.specs.Properties.{Writer, QuotaKnown, WithQuota, properties_of}
use Rattle.dav_engine.specs.Propfind.{IsPropfind}
use Rattle.dav_engine.specs.RefusedCalls.{AsksAnswered, lists_what_is_there}
use Rattle.dav_engine.specs.Reply.{Reply}

-- ---- responses and their paths

-- The prefix of a server: nothing, or a text that is read as a path of the same bytes.
abbrev pub IsServerPrefix : List ℕ → Type 0
IsServerPrefix prefix = (prefix ≡ []) ⊎ ((prefix ≢ star) × Reads prefix prefix)

-- The target of a request names this path below the prefix.
abbrev pub IsTarget : List ℕ → List ℕ → PathText → Type 0
IsTarget prefix target p = (target ≢ star) × NamesBelow prefix target p

-- The response is of this path: it has one href of its own, and a request with that as its target is to this path.
pub record IsResponseFor (prefix : List ℕ) (p : PathText) (response : ElementTree) : Type 0 where
  pub text : List ℕ
  pub hrefs : children_named (codes "href") response ≡ dav_text (codes "href") text ∷ []
  pub leads : IsTarget prefix text p

-- the responses in a body
abbrev pub responses_in : ReplyBody → List ElementTree
responses_in (reply.Tree tree) = children_named (codes "response") tree
responses_in _ = []

-- The response with the properties of a path is a response for this path (RFC 4918, section 8.3).
abbrev pub PropertiesLeadBack : Type 0
PropertiesLeadBack =
    (prefix target : List ℕ) (p : PathText) (w : Writer) (m : DavMetaData) (known : QuotaKnown)
    (old new : StoreState) (ls ms : Locks) (told : WithQuota ElementTree)
    → IsServerPrefix prefix → IsTarget prefix target p → Ran Asks (properties_of w p m known) old ls (Ok told) new ms → IsResponseFor prefix p told.0

-- The response is for this path or for one below it.
abbrev pub IsOfOneUnder : List ℕ → Path → ElementTree → Type 0
IsOfOneUnder prefix top response = (p : PathText) × (is_at_or_under (names p) top ≡ true) × IsResponseFor prefix p response

-- Each response to a PROPFIND is of a path at its target or below it, whatever the store refuses (RFC 4918, sections 8.3 and 9.1).
abbrev pub ResponsesLeadBack : Type 0
ResponsesLeadBack =
    (prefix target : List ℕ) (headers : Headers) (p : PathText) (content : Body) (who : Caller) (plan : MethodPlan Reply)
    (old new : StoreState) (ls ms : Locks) (r : Reply)
    → IsServerPrefix prefix → IsTarget prefix target p → IsWorld old.world → IsPropfind headers p content who plan
    → Ran Asks plan old ls (Ok r) new ms → All (IsOfOneUnder prefix (names p)) (responses_in r.body)

-- ---- which paths have responses

-- The responses are for these paths, in order.
pub data AreResponsesFor (prefix : List ℕ) : List PathText → List ElementTree → Type 0 where
  none_told : AreResponsesFor prefix [] []
  one_told : {p : PathText} {ps : List PathText} {response : ElementTree} {responses : List ElementTree}
      → IsResponseFor prefix p response → AreResponsesFor prefix ps responses → AreResponsesFor prefix (p ∷ ps) (response ∷ responses)

-- The path of what is there: that of a folder ends in a slash (RFC 4918, section 5.2).
abbrev pub path_in : World → PathText → PathText
path_in w p = closed (is_folder w (names p)) p

-- The paths of a folder's members, each once, since no name is listed twice; a file has none.
abbrev pub member_paths : World → PathText → List PathText
member_paths w p = map (λ member. child_of p member.0 member.1) (members (names p) w.nodes)

-- These are the paths of these members of a path, in order, and after each of them those of all that is below it.
pub data AreWithAllBelow (w : World) : PathText → List (List ℕ × Bool) → List PathText → Type 0 where
  no_member : {p : PathText} → AreWithAllBelow w p [] []
  one_member : {p : PathText} {member : List ℕ × Bool} {others : List (List ℕ × Bool)} {below behind : List PathText}
      → AreWithAllBelow w (child_of p member.0 member.1) (members (names (child_of p member.0 member.1)) w.nodes) below
      → AreWithAllBelow w p others behind
      → AreWithAllBelow w p (member ∷ others) (child_of p member.0 member.1 ∷ (below ++ behind))

-- These are the paths of all that is below a path, each once, and a folder before what is in it.
abbrev pub AreBelow : World → PathText → List PathText → Type 0
AreBelow w p ps = AreWithAllBelow w p (members (names p) w.nodes) ps

-- These are the paths that a PROPFIND of this depth has responses for: at Depth 0 its target; at Depth 1 also the members; at
-- infinite depth also all that is below them (RFC 4918, section 9.1); and without Depth the members alone.
pub data AreListed (w : World) (p : PathText) : Option Depth → List PathText → Type 0 where
  itself : AreListed w p (Some Zero) (p ∷ [])
  with_members : AreListed w p (Some One) (p ∷ member_paths w p)
  members_alone : AreListed w p None (member_paths w p)
  with_all_below : {ps : List PathText} → AreBelow w p ps → AreListed w p (Some Infinity) (p ∷ ps)

-- ---- where nothing is refused

-- One call of a lawful store that neither refuses to list a folder that is there, nor the metadata of a member that is there.
abbrev pub AsksListing : CallStep
AsksListing = AsksAnswered lists_what_is_there

-- A store to which no refusal is left, and that doesn't run out of memory, lists each folder and gives the metadata of each member.
abbrev pub UnrefusedRunsList : Type 0
UnrefusedRunsList =
    (plan : MethodPlan Reply) (old new : StoreState) (ls ms : Locks) (outcome : Result Reply DavError)
    → All (λ r. r ≡ None) old.refusals → new.short ≡ false → Ran Asks plan old ls outcome new ms → Ran AsksListing plan old ls outcome new ms

-- The target of a PROPFIND, and at infinite depth each path at which something is, has fewer than 2^64 names, as each path has
-- that memory can hold.
abbrev pub HasFewNames : Option Depth → World → PathText → Type 0
HasFewNames (Some Infinity) w p = (q : Path) → is_missing w q ≡ false → length q < 2 ^ 64
HasFewNames depth w p = length (names p) < 2 ^ 64

-- The responses are those for what a PROPFIND of this depth lists (RFC 4918, section 9.1).
abbrev pub ListAll : List ℕ → World → PathText → Option Depth → List ElementTree → Type 0
ListAll prefix w p depth responses = (ps : List PathText) × AreListed w p depth ps × AreResponsesFor prefix ps responses

-- The responses of a PROPFIND that is answered 207 are a whole listing, where the store neither refuses to list a folder that
-- is there, nor the metadata of a member (RFC 4918, section 9.1).
abbrev pub ListingsAreWhole : Type 0
ListingsAreWhole =
    (prefix target : List ℕ) (headers : Headers) (depth : Option Depth) (p : PathText) (content : Body) (who : Caller) (plan : MethodPlan Reply)
    (old new : StoreState) (ls ms : Locks) (r : Reply)
    → IsServerPrefix prefix → IsTarget prefix target p → IsWorld old.world
    → Decodes IsDepth (get_all headers (codes "depth")) depth → HasFewNames depth old.world p
    → IsPropfind headers p content who plan → Ran AsksListing plan old ls (Ok r) new ms → r.status ≡ 207
    → ListAll prefix old.world (path_in old.world p) depth (responses_in r.body)
