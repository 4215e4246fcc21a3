-- What is replied to a request that asks for a folder on the way to what its principal may read, and may not be read itself.
use Rattle.std.specs.Prelude.{◌≡◌, ◌≢◌, ◌⊎◌, ◌==◌, ◌||◌, ◌&&◌, ◌++◌, ℕ, Bool, true, false, not, if◌then◌else◌, bytes_eq, List, [], ◌∷◌, map, codes, Option, Some, None}
use Rattle.std.specs.List.{filter, slice_get}
use Rattle.std.specs.Result.{result_ok}
use Rattle.dav_core.specs.declared.method.DavMethod.{DavMethod}
use Rattle.dav_core.specs.declared.method.DavMethod.TheVariants.{Options, PropFind}
use Rattle.dav_core.specs.Element.{ElementTree, children_of, with_children}
use Rattle.dav_core.specs.Path.{Path, PathText, full_bytes, names}
use Rattle.dav_core.specs.UrlText.{path_text}
use Rattle.dav_core.specs.World.{World, is_folder}
use Rattle.dav_engine.specs.Caller.{Caller}
use Rattle.dav_engine.specs.Folder.{child_of, closed}
use Rattle.dav_engine.specs.Multistatus.{status_reply}
use Rattle.dav_engine.specs.declared.reply.ReplyBody.{ReplyBody}
use Rattle.dav_engine.specs.declared.reply.ReplyBody.TheVariants as reply
use Rattle.dav_engine.specs.Reply.{Reply}
use Rattle.dav_server.specs.Head.{IsHead, Request, values_of}
use Rattle.dav_server.specs.Machine.{Exchange, Settings}
use Rattle.dav_server.specs.Server.{Server}
use Rattle.dav_access.specs.Rules.{Rules, may_read, may_see}
use Rattle.dav_confined.specs.Asked.{AskedView, IsAsked}
use Rattle.dav_confined.specs.Sight.{OnlyReads}
use Rattle.dav_http.specs.Steps.{IsStepFor}
use Rattle.dav_presented.specs.Missing.{AsksForMany}
use Rattle.dav_xml.specs.Namespaces.{document}
use Rattle.dav_seen.specs.Names.{names_seen}
use Rattle.dav_seen.specs.Told.{listing_reply, too_deep_reply, way_options, ways_told}

-- ---- what is asked

-- this is what the machine reads in the bytes of a head, whatever else the request has
abbrev pub IsReadIn : Settings → List ℕ → AskedView → Type 0
IsReadIn s head a = (x : Exchange) → x.head ≡ head → IsAsked s x a

-- what Depth says, if it is there (RFC 4918, section 10.2)
abbrev pub depth_in : Request → Option (List ℕ)
depth_in r = slice_get (values_of (codes "depth") r.fields) 0

-- whether a folder is asked for without its members
abbrev pub is_alone : Option (List ℕ) → Bool
is_alone None = false
is_alone (Some text) = bytes_eq text (codes "0")

-- whether all below a folder is asked for
abbrev pub is_deep : Option (List ℕ) → Bool
is_deep None = false
is_deep (Some text) = bytes_eq text (codes "infinity") || bytes_eq text (codes "Infinity")

-- ---- members on the way

-- the names of the members that are asked for, of those to which rules lead
abbrev pub names_told : Option (List ℕ) → Rules → Option (List ℕ) → Path → List (List ℕ)
names_told depth rules who p = if is_alone depth then [] else names_seen rules who p

-- whether a path is on the way: it may be seen, and not be read, and a folder is there
abbrev pub is_way : Rules → Option (List ℕ) → World → PathText → Bool
is_way rules who w q = may_see rules who (names q) && (not (may_read rules who (names q)) && is_folder w (names q))

-- the folders on the way of which is told: the one that is asked for, and those of its members, each with a slash at its end
abbrev pub ways : Rules → Option (List ℕ) → World → PathText → List (List ℕ) → List PathText
ways rules who w p members =
    closed true p ∷ filter (is_way rules who w) (map (λ name. child_of p name true) members)

-- ---- members that may be read

-- the head of the request for a member alone
abbrev pub member_head : PathText → List ℕ
member_head q = codes "PROPFIND " ++ path_text (full_bytes q) ++ codes " HTTP/1.1\r\nDepth: 0\r\n\r\n"

-- what is in a multistatus; in nothing else is anything
abbrev pub told_in : ReplyBody → List ElementTree
told_in (reply.Tree tree) = children_of tree
told_in (reply.Bytes bytes) = []
told_in reply.Nothing = []

-- the responses that a reply has, if it is 207
abbrev pub responses_of : Reply → List ElementTree
responses_of r = if r.status == 207 then told_in r.body else []

-- these bytes are a head, and each request with it, of this principal, only reads, at what may be read
abbrev pub IsReading : Rules → List ℕ → Option (List ℕ) → List ℕ → Type 0
IsReading rules prefix who head = ((q : Request) × IsHead head q) × OnlyReads rules prefix who head

-- What is told of a member that may be read: what the machine replies to the same request for it alone; nothing of one that may not be read.
pub data IsMemberTold (rules : Rules) (s : Server) (bytes : List ℕ) (who : Caller) (q : PathText) (told : List ElementTree) : Type 0 where
  unread : ¬ IsReading rules s.settings.prefix who.principal (member_head q) → told ≡ [] → IsMemberTold rules s bytes who q told
  read : (r : Reply) → IsReading rules s.settings.prefix who.principal (member_head q)
      → IsStepFor (member_head q) bytes who s r s → told ≡ responses_of r → IsMemberTold rules s bytes who q told

-- what is told of the members with these names that may be read, in their order
abbrev pub AreTold : Rules → Server → List ℕ → Caller → PathText → List (List ℕ) → List ElementTree → Type 0
AreTold rules s bytes who p [] told = told ≡ []
AreTold rules s bytes who p (name ∷ members) told =
    (first : List ElementTree) × (others : List ElementTree) × IsMemberTold rules s bytes who (child_of p name false) first
    × AreTold rules s bytes who p members others × (told ≡ first ++ others)

-- ---- the reply

-- the multistatus of the folders on the way, and after them what is told of members that may be read
abbrev pub listing : Rules → Server → List ℕ → Option (List ℕ) → PathText → List (List ℕ) → List ElementTree → ElementTree
listing rules s bytes who p members told =
    let on_way = ways_told (result_ok (document bytes)) (ways rules who s.state.store.world p members) in with_children on_way (children_of on_way ++ told)

-- 207 with a listing of a folder, with its members unless it is asked for alone (RFC 4918, section 9.1)
pub record IsListing (rules : Rules) (s : Server) (p : PathText) (depth : Option (List ℕ)) (bytes : List ℕ) (who : Caller) (r : Reply) : Type 0 where
  pub read : List ElementTree
  pub are_told : AreTold rules s bytes who p (names_told depth rules who.principal (names p)) read
  pub reply : r ≡ listing_reply (listing rules s bytes who.principal p (names_told depth rules who.principal (names p)) read)

-- the body of a request isn't taken: it has bytes, and is no document; or it asks for more than 1,000 properties by their names
abbrev pub IsBodyRefused : List ℕ → Type 0
IsBodyRefused bytes =
    ((bytes ≢ []) × (result_ok (document bytes) ≡ None)) ⊎ ((propfind : ElementTree) × (result_ok (document bytes) ≡ Some propfind) × AsksForMany propfind)

-- the reply to a PROPFIND with this body: 400 where its body isn't taken, else a listing (RFC 4918, section 9.1)
pub data IsListedBy (rules : Rules) (s : Server) (p : PathText) (depth : Option (List ℕ)) (bytes : List ℕ) (who : Caller) (r : Reply) : Type 0 where
  refused : IsBodyRefused bytes → r ≡ status_reply 400 → IsListedBy rules s p depth bytes who r
  listed : ¬ IsBodyRefused bytes → IsListing rules s p depth bytes who r → IsListedBy rules s p depth bytes who r

-- the reply to a PROPFIND, by whether it goes too deep
abbrev pub IsListedIf : Bool → Rules → Server → PathText → Option (List ℕ) → List ℕ → Caller → Reply → Type 0
IsListedIf true rules s p depth bytes who r = r ≡ too_deep_reply
IsListedIf false rules s p depth bytes who r = IsListedBy rules s p depth bytes who r

-- the reply to a PROPFIND of a folder on the way, with this Depth and this body (RFC 4918, section 9.1)
abbrev pub IsListed : Rules → Server → PathText → Option (List ℕ) → List ℕ → Caller → Reply → Type 0
IsListed rules s p depth bytes who r = IsListedIf (is_deep depth) rules s p depth bytes who r

-- The reply to a request with this method, of a folder on the way, where there is one: to an OPTIONS that it may be asked for by OPTIONS and
-- PROPFIND (RFC 9110, section 9.3.7), to a PROPFIND a listing, to anything else 405; and 404 where there is none.
abbrev pub IsReplyIf : Bool → DavMethod → Rules → Server → PathText → Option (List ℕ) → List ℕ → Caller → Reply → Type 0
IsReplyIf false m rules s p depth bytes who r = r ≡ status_reply 404
IsReplyIf true Options rules s p depth bytes who r = r ≡ way_options
IsReplyIf true PropFind rules s p depth bytes who r = IsListed rules s p depth bytes who r
IsReplyIf true _ rules s p depth bytes who r = r ≡ status_reply 405

-- the reply to a request with this method for this path
abbrev pub IsReplyAt : Rules → Server → DavMethod → PathText → Option (List ℕ) → List ℕ → Caller → Reply → Type 0
IsReplyAt rules s m p depth bytes who r = IsReplyIf (is_folder s.state.store.world (names p)) m rules s p depth bytes who r

-- The reply to a request with this head and a body of these bytes, of this caller, that asks for a folder on the way: 404 where the machine
-- reads no request in the head.
pub data IsWayReply (rules : Rules) (s : Server) (head bytes : List ℕ) (who : Caller) (r : Reply) : Type 0 where
  nowhere : ((a : AskedView) → ¬ IsReadIn s.settings head a) → r ≡ status_reply 404 → IsWayReply rules s head bytes who r
  replied : (q : Request) (a : AskedView) → IsHead head q → IsReadIn s.settings head a → IsReplyAt rules s a.method a.path (depth_in q) bytes who r
      → IsWayReply rules s head bytes who r
