-- A listing that is shown to its client response by response (RFC 4918, sections 9.1 and 14.16).
use Rattle.std.specs.Prelude.{◌≡◌, ℕ, ◌==◌, Bool, if◌then◌else◌, List, [], ◌∷◌, ◌++◌, length, Option, Some, None, false}
use Rattle.http_server.specs.declared.response.Response.{Response}
use Rattle.dav_core.specs.Element.{ElementTree, with_children}
use Rattle.dav_engine.specs.Reply.{Reply}
use Rattle.dav_engine.specs.Taking.{IsHandedOn}
use Rattle.dav_server.specs.Head.{Request}
use Rattle.dav_presented.specs.declared.quota.Room.{Room}
use Rattle.dav_presented.specs.Minimal.{answered_to}
use Rattle.dav_presented.specs.Quota.{asks_for_quota, with_quota}
use Rattle.dav_presented.specs.Typed.{typed}
use Rattle.dav_xml.specs.ByChild.{closing_of, content_of, opening_of}
use Rattle.dav_xml.specs.Written.{document_of}
use Rattle.dav_http.specs.Presented.{applied, found, leaves_out, shown_tree}
use Rattle.dav_http.specs.Sending.{IsSentWith}

-- What a listing is taken into: whether it leaves out what isn't there, the room that folders tell, what was read of the request's body, if
-- anything was, the multistatus that holds no response, once it is there, and the text of the responses so far, with what stands before them.
pub record Listed : Type 0 where
  pub leaves_out : Bool
  pub room : Room
  pub asked : Option ElementTree
  pub root : Option ElementTree
  pub text : List ℕ

-- a multistatus as it is shown by what was read of the request's body: as to no body where nothing was (`completed_by`)
abbrev pub shown_by : Bool → Room → Option ElementTree → ElementTree → ElementTree
shown_by leaves_out room (Some propfind) told = answered_to leaves_out propfind (with_quota room propfind (typed told))
shown_by leaves_out room None told = typed told

-- a multistatus as it is shown
abbrev pub shown_in : Listed → ElementTree → ElementTree
shown_in l told = shown_by l.leaves_out l.room l.asked told

-- whether the room of folders is asked for (RFC 4331)
abbrev pub asks_for_room : Option ElementTree → Bool
asks_for_room (Some propfind) = asks_for_quota propfind
asks_for_room None = false

-- Nothing was taken yet of a listing that is shown so to a PROPFIND with a body of these bytes (RFC 4918, section 9.1).
pub record IsBegun (leaves_out : Bool) (room : Room) (bytes : List ℕ) (l : Listed) : Type 0 where
  pub shows : (told : ElementTree) → shown_in l told ≡ shown_tree leaves_out room bytes told
  pub root : l.root ≡ None
  pub text : l.text ≡ []

-- after the multistatus came that holds no response yet
abbrev pub opened : Listed → ElementTree → Listed
opened l multistatus = record l { root = Some (with_children multistatus []); text = [] }

-- the text so far; before the first response what stands before all of them (XML 1.0, sections 2.8 and 3.1)
abbrev pub text_before : List ℕ → ElementTree → List ℕ
text_before text root = if length text == 0 then opening_of root else text

-- the text with what stands in a multistatus behind it
abbrev pub text_in : List ℕ → ElementTree → List ℕ
text_in text told = text_before text told ++ content_of told

-- the text with one more response, as it is shown where the multistatus has it alone
abbrev pub text_with : Listed → Option ElementTree → ElementTree → List ℕ
text_with l None response = l.text
text_with l (Some root) response = text_in l.text (shown_in l (with_children root (response ∷ [])))

-- after one more response came; without a multistatus it is let go
abbrev pub taken : Listed → ElementTree → Listed
taken l response = record l { text = text_with l l.root response }

-- the document of all that was taken: without a response that of the multistatus alone (RFC 4918, section 14.16)
abbrev pub whole_text : Option ElementTree → List ℕ → List ℕ
whole_text None text = []
whole_text (Some root) text = if length text == 0 then document_of root else text ++ closing_of root

-- What is sent of a 207 to a PROPFIND whose multistatus was handed on to a listing in parts: what is shown of the whole reply (RFC 4918,
-- section 9.1).
abbrev pub ShowsListing : Request → Reply → Listed → Response → Type 0
ShowsListing q told l sent =
    (room : Room) (bytes : List ℕ) (start : Listed) (whole : Reply)
    → IsBegun (leaves_out q) room bytes start → IsHandedOn opened taken start whole told (Some l)
    → IsSentWith (applied q whole) false (found (leaves_out q) room bytes whole) sent
