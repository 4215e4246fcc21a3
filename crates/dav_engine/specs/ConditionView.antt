-- What contracts see of conditions, and of the calls that evaluate them.
use Rattle.std.specs.Prelude.{◌≡◌, ℕ, Bool, List, map, codes, string_bytes, String, Option, Result, Ok, Err}
use Rattle.std.specs.Option.{option_map, option_copied}
use Rattle.std.specs.Global.{Global, Vec}
use denote.Ref.{Bor}
use Rattle.http_header.specs.HeaderMap.{get_all}
use Rattle.dav_core.specs.declared.fs.DavMetaData.{DavMetaData}
use Rattle.dav_core.specs.declared.method.DavMethod.{DavMethod}
use Rattle.dav_core.specs.Locks.{Lock}
use Rattle.dav_core.specs.Path.{PathText, names}
use Rattle.dav_headers.specs.ETagList.{TagList, IsTagList, tag_list}
use Rattle.dav_headers.specs.IfView.{condition_value}
use Rattle.dav_engine.specs.declared.conditions.Addressed as declared_list
use Rattle.dav_engine.specs.declared.conditions.Conditions.TheInside.{Inside}
use Rattle.dav_engine.specs.declared.request.DavRequest.{DavRequest}
use Rattle.dav_engine.specs.Conditions.{Addressed, Conditions, AreConditions, SaysLists, http_conditions, dav_if_match, if_match, if_match_get_tokens}
use Rattle.dav_engine.specs.Headers.{Headers, Decodes}
use Rattle.dav_engine.specs.Method.{MethodPlan}
use Rattle.dav_engine.specs.Plan.{Locks}

-- A list of an If header as contracts see it.
abbrev pub list_of : declared_list.Addressed → Addressed
list_of l = record { path = option_map names l.path; conditions = map condition_value l.conditions.items }

-- The conditions of a request as contracts see them.
abbrev pub conditions_of : Inside → Conditions
conditions_of c = record { if_match = option_map tag_list c.if_match; if_none_match = option_map tag_list c.if_none_match; lists = option_map (λ ls. map list_of ls.items) c.lists }

-- the list of locks of a borrowed lock system, where there is one
abbrev pub locks_in : {L : Type 0} → (L → List Lock) → Option (Bor L) → Locks
locks_in locks ls = option_map locks (option_copied ls)

-- texts as their bytes
abbrev pub texts_of : Vec (String Global) → List (List ℕ)
texts_of v = map string_bytes v.items

-- Tokens or a status, as contracts see them.
abbrev pub tokens_or_status : Result (Vec (String Global)) ℕ → Result (List (List ℕ)) ℕ
tokens_or_status (Ok v) = Ok (texts_of v)
tokens_or_status (Err status) = Err status

-- the status that If-Match and If-None-Match answer, if they do (RFC 9110, section 13.1)
abbrev pub IsHttpVerdict : DavMethod → Headers → Option DavMetaData → Option ℕ → Type 0
IsHttpVerdict m headers found status =
    (match : Option TagList) × (none_match : Option TagList)
    × Decodes IsTagList (get_all headers (codes "if-match")) match
    × Decodes IsTagList (get_all headers (codes "if-none-match")) none_match
    × (status ≡ http_conditions m match none_match found)

-- The plan that finds out whether If holds, and gives the tokens that it submits (RFC 4918, section 10.4).
pub data IsDavIf (request : DavRequest) (path : PathText) : MethodPlan (Bool × List (List ℕ)) → Type 0 where
  is_dav_if : (lists : Option (List Addressed)) → Decodes (SaysLists request.path.prefix (names path)) (get_all request.headers (codes "if")) lists
      → IsDavIf request path (dav_if_match lists)

-- the plan that gives the status that all conditions answer, with If evaluated first (RFC 4918, section 10.4; RFC 9110, section 13.2)
pub data IsIfMatch (request : DavRequest) (path : PathText) (found : Option DavMetaData) : MethodPlan (Option ℕ) → Type 0 where
  is_if_match : (c : Conditions) → AreConditions request.headers request.path.prefix (names path) c → IsIfMatch request path found (if_match request.method c found)

-- the plan that gives the submitted tokens, or the status that all conditions answer, with If evaluated last
-- (RFC 4918, section 10.4; RFC 9110, section 13.2)
pub data IsIfMatchGetTokens (request : DavRequest) (path : PathText) (found : Option DavMetaData) : MethodPlan (Result (List (List ℕ)) ℕ) → Type 0 where
  is_if_match_get_tokens : (c : Conditions) → AreConditions request.headers request.path.prefix (names path) c → IsIfMatchGetTokens request path found (if_match_get_tokens request.method c found)
