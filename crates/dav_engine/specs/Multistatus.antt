-- Element trees that are sent (RFC 4918, section 14), and replies with several statuses (section 13).
use Rattle.std.specs.Prelude.{ℕ, ◌++◌, ◌==◌, List, [], ◌∷◌, map, codes, if◌then◌else◌, Option, Some, None, Result, Ok, Err}
use Rattle.std.specs.Fmt.{decimal}
use Rattle.std.specs.List.{last_or}
use Rattle.std.specs.Option.{unwrap_or}
use Rattle.http.specs.StatusCode.{reason_phrase}
use Rattle.dav_core.specs.declared.errors.DavError.{DavError}
use Rattle.dav_core.specs.declared.errors.DavError.TheVariants.{ChanError, Status}
use Rattle.dav_core.specs.Element.{ElementTree, element, text, trees, with_attributes}
use Rattle.dav_core.specs.Path.{PathText, full_bytes, are_equal}
use Rattle.dav_core.specs.UrlText.{path_text}
use Rattle.dav_engine.specs.declared.reply.ReplyBody.TheVariants.{Nothing, Tree}
use Rattle.dav_engine.specs.Reply.{Reply, Header}

-- An element of the namespace `DAV:` as it is written: with the prefix `D`, which an element around it declares.
abbrev pub dav_element : List ℕ → List ElementTree → ElementTree
dav_element name children = element name (Some (codes "D")) None [] (trees children)

-- an element of the namespace `DAV:` with a text in it
abbrev pub dav_text : List ℕ → List ℕ → ElementTree
dav_text name bytes = dav_element name (text bytes ∷ [])

-- The element with one attribute, which declares the prefix `D` of the namespace `DAV:`.
abbrev pub declares_dav : ElementTree → ElementTree
declares_dav e = with_attributes e ((codes "xmlns:D", codes "DAV:") ∷ [])

-- The element with the address of a path: its text in a URL, with its prefix (RFC 4918, section 14.7).
abbrev pub href : PathText → ElementTree
href p = dav_text (codes "href") (path_text (full_bytes p))

-- a status line, without the reason phrase where there is none (RFC 4918, section 14.28; RFC 9112, section 4)
abbrev pub status_line : ℕ → List ℕ
status_line status = codes "HTTP/1.1 " ++ decimal status ++ 32 ∷ unwrap_or (reason_phrase status) []

-- an element with a status line (RFC 4918, section 14.28)
abbrev pub status_element : ℕ → ElementTree
status_element status = dav_text (codes "status") (status_line status)

-- The Content-Type of a reply whose body is an element tree: it is sent as XML (RFC 4918, section 8.2).
abbrev pub xml_type : Header
xml_type = (codes "content-type", codes "application/xml; charset=utf-8")

-- The element with responses for several resources (RFC 4918, section 14.16).
abbrev pub multistatus : List ElementTree → ElementTree
multistatus responses = declares_dav (dav_element (codes "multistatus") responses)

-- ---- what a method did at several paths

-- a path, and the status that reports what was done there (RFC 4918, section 13)
abbrev pub PathStatus : Type 0
PathStatus = PathText × ℕ

-- The status of a path as an error; where there is none, the error that says so (`ChanError`, 500).
abbrev pub error_of : Option PathStatus → DavError
error_of None = ChanError
error_of (Some item) = Status item.1

-- The last of the statuses, as an error.
abbrev pub last_error : List PathStatus → DavError
last_error items = error_of (last_or None items)

-- The status as a multistatus has it: 204 is reported as 200.
abbrev pub listed_status : ℕ → ℕ
listed_status status = if status == 204 then 200 else status

-- The response for one path with one status (RFC 4918, section 14.24).
abbrev pub response_for : PathStatus → ElementTree
response_for item = dav_element (codes "response") (href item.0 ∷ status_element (listed_status item.1) ∷ [])

-- a reply that has a status alone
abbrev pub status_reply : ℕ → Reply
status_reply status = record { status = status; headers = []; body = Nothing }

-- 207 with one response for each path, in order (RFC 4918, section 11.1)
abbrev pub multistatus_reply : List PathStatus → Reply
multistatus_reply items = record {
  status = 207;
  headers = xml_type ∷ [];
  body = Tree (multistatus (map response_for items));
}

-- The reply where one path is reported: the status alone if that is the request's own path p, else 207 (RFC 4918, section 13).
abbrev pub one_reply : PathText → PathStatus → Reply
one_reply p item = if are_equal item.0 p then status_reply item.1 else multistatus_reply (item ∷ [])

-- The reply to a request for p, by the paths that are reported: the status alone, where the only path is p; else 207 with all
-- of them (RFC 4918, section 13). That nothing is reported is an error.
abbrev pub multi_reply : PathText → List PathStatus → Result Reply DavError
multi_reply p [] = Err ChanError
multi_reply p (item ∷ []) = Ok (one_reply p item)
multi_reply p (item ∷ other ∷ more) = Ok (multistatus_reply (item ∷ other ∷ more))
