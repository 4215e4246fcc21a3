-- Conditions of a request (RFC 9110, section 13; RFC 4918, section 10.4): what its headers say, and whether they hold.
use Rattle.std.specs.Prelude.{◌≡◌, ◌≢◌, ℕ, ◌==◌, ◌&&◌, Bool, true, false, not, List, [], ◌∷◌, codes, if◌then◌else◌, Option, Some, None, Result, Ok, Err}
use Rattle.std.specs.Fmt.{digits}
use Rattle.std.specs.List.{filter_map, flat_map, list_any, starts_with}
use Rattle.std.specs.Option.{is_some, option_map, unwrap_or}
use Rattle.std.specs.Result.{result_ok}
use Rattle.http_header.specs.FieldValue.{FieldValue}
use Rattle.http_header.specs.HeaderMap.{get_all}
use Rattle.url.specs.Parts.{Parts}
use Rattle.dav_core.specs.declared.errors.FsError.{FsError}
use Rattle.dav_core.specs.declared.errors.DavError.{DavError}
use Rattle.dav_core.specs.declared.fs.DavMetaData.{DavMetaData}
use Rattle.dav_core.specs.declared.method.DavMethod.{DavMethod}
use Rattle.dav_core.specs.declared.method.DavMethod.TheVariants.{Get, Head}
use Rattle.dav_core.specs.Asking.{Metadata}
use Rattle.dav_core.specs.Locks.{requester_of, is_free}
use Rattle.dav_core.specs.Path.{Path, PathText, names, star as server, IsCut, without_slash}
use Rattle.dav_core.specs.Target.{Reads}
use Rattle.dav_headers.specs.ETag.{EntityTag, is_strong_match}
use Rattle.dav_headers.specs.ETagList.{TagList, star, tags, IsTagList}
use Rattle.dav_headers.specs.If.{Item, state_token, entity_tag, Condition, ConditionList, IsIfHeader, tokens_among}
use Rattle.dav_engine.specs.Headers.{Headers, Decodes}
use Rattle.dav_engine.specs.Method.{MethodPlan, ◌>>=◌, gives, look, answer_of}
use Rattle.dav_engine.specs.Plan.{Locks, Done}

-- ---- what the headers say

-- A list of conditions of an If header, and the path that it applies to; none where its resource tag names no path of this
-- server (RFC 4918, section 10.4.2).
pub record Addressed : Type 0 where
  pub path : Option Path
  pub conditions : List Condition

-- The conditions of a request: what If-Match and If-None-Match say, and the lists of If, each where the header is there
-- (RFC 9110, section 13.1; RFC 4918, section 10.4).
pub record Conditions : Type 0 where
  -- the list of If-Match, where the header is there (RFC 9110, section 13.1.1); the function `if_match` is below
  pub if_match : Option TagList
  pub if_none_match : Option TagList
  pub lists : Option (List Addressed)

-- The URL of a resource tag names the path q below the prefix, whatever its host is; `*` names none (RFC 4918, section 10.4.2).
abbrev pub TagNames : List ℕ → Parts → Path → Type 0
TagNames prefix url q =
    (bytes : List ℕ) × (p : PathText)
    × Reads url.path bytes × (bytes ≢ server) × IsCut (without_slash prefix) bytes p × (q ≡ names p)

-- The path that a list applies to: without a resource tag the request's own; else the one that the tag names, if it names one
-- (RFC 4918, section 10.4.2).
abbrev pub SpeaksOf : List ℕ → Path → Option Parts → Option Path → Type 0
SpeaksOf prefix own None q = q ≡ Some own
SpeaksOf prefix own (Some url) (Some q) = TagNames prefix url q
SpeaksOf prefix own (Some url) None = (q : Path) → ¬ TagNames prefix url q

-- The lists of an If header in order, each with the path that it applies to (RFC 4918, section 10.4.2).
abbrev pub AreAddressed : List ℕ → Path → List ConditionList → List Addressed → Type 0
AreAddressed prefix own [] lists = lists ≡ []
AreAddressed prefix own (l ∷ ls) lists =
    (q : Option Path) × (more : List Addressed)
    × SpeaksOf prefix own l.resource q × (lists ≡ record { path = q; conditions = l.conditions } ∷ more) × AreAddressed prefix own ls more

-- The only value of an If header has these lists, each with the path that it applies to (RFC 4918, section 10.4.2).
abbrev pub SaysLists : List ℕ → Path → List FieldValue → List Addressed → Type 0
SaysLists prefix own values lists = (ls : List ConditionList) × IsIfHeader values ls × AreAddressed prefix own ls lists

-- The conditions in the headers of a request to a path, below the request's prefix; a header that doesn't decode counts as absent.
pub record AreConditions (headers : Headers) (prefix : List ℕ) (own : Path) (c : Conditions) : Type 0 where
  pub match : Decodes IsTagList (get_all headers (codes "if-match")) c.if_match
  pub none_match : Decodes IsTagList (get_all headers (codes "if-none-match")) c.if_none_match
  pub lists : Decodes (SaysLists prefix own) (get_all headers (codes "if")) c.lists

-- ---- If-Match and If-None-Match (RFC 9110, sections 13.1.1 and 13.1.2)

-- the entity tag of what was found, which is strong: its change number in lower-case hexadecimal (RFC 9110, section 8.8.3)
abbrev pub tag_found : Option DavMetaData → Option EntityTag
tag_found None = None
tag_found (Some m) = option_map (λ number. record { weak = false; tag = digits 16 false number }) m.number

-- Whether a list matches what is there: `*` matches anything, tags match what has one of them by the strong comparison.
-- If-None-Match uses it too, where the standard has the weak one (RFC 9110, sections 8.8.3.2, 13.1.1 and 13.1.2).
abbrev pub matches : TagList → Bool → Option EntityTag → Bool
matches star exists tag = exists
matches (tags ts) exists None = false
matches (tags ts) exists (Some tag) = list_any (λ t. is_strong_match t tag) ts

-- Whether a header is there, and its list is `*` (RFC 9110, section 13.1).
abbrev pub is_star : Option TagList → Bool
is_star None = false
is_star (Some star) = true
is_star (Some (tags ts)) = false

-- whether a header's list matches what was found; none without the header
abbrev pub matches_found : Option TagList → Option DavMetaData → Option Bool
matches_found None found = None
matches_found (Some l) found = Some (matches l (is_some found) (tag_found found))

-- whether the method is GET or HEAD
abbrev pub is_reading : DavMethod → Bool
is_reading Get = true
is_reading Head = true
is_reading _ = false

-- The status with which If-Match and If-None-Match answer, if they do: 412 where If-Match doesn't match; and where
-- If-None-Match matches, 304 for GET and HEAD, 412 for other methods (RFC 9110, sections 13.1.1, 13.1.2 and 13.2.2).
abbrev pub http_conditions : DavMethod → Option TagList → Option TagList → Option DavMetaData → Option ℕ
http_conditions m match none_match found =
    if not (unwrap_or (matches_found match found) true) then Some 412
    else if unwrap_or (matches_found none_match found) false then Some (if is_reading m then 304 else 412)
    else None

-- ---- If (RFC 4918, section 10.4)

-- Whether a state token is true of a path: the path isn't locked against a requester who submits it, whoever that is. So a
-- token is also true where no lock covers the path, though RFC 4918, section 10.4.4, asks for a lock with that token. One that
-- begins with `DAV:` is never true (section 10.4.8), and without a list of locks none is.
abbrev pub token_holds : List ℕ → Path → Locks → Bool
token_holds token p None = false
token_holds token p (Some ls) = not (starts_with ◌==◌ token (codes "DAV:")) && is_free (requester_of (token ∷ []) true None) p ls

-- Whether an entity tag is that of the metadata that the store returned, by the strong comparison; false where the store refused.
abbrev pub tag_holds : EntityTag → Result DavMetaData FsError → Bool
tag_holds tag answer = matches (tags (tag ∷ [])) true (tag_found (result_ok answer))

-- Asks the store whether what is at a path has an entity tag (RFC 4918, section 10.4.4).
abbrev pub has_tag : Path → EntityTag → MethodPlan Bool
has_tag p e = do
  found ← answer_of (Metadata p)
  gives (tag_holds e found)

-- Whether a state token or an entity tag is true of a path; where there is no path, neither is (RFC 4918, section 10.4.4).
abbrev pub item_holds : Option Path → Item → MethodPlan Bool
item_holds None i = gives false
item_holds (Some p) (state_token t) = do
  locks ← look
  gives (token_holds t p locks)
item_holds (Some p) (entity_tag e) = has_tag p e

-- Goes on where the answer is true so far; else it is false.
abbrev pub and_then : Bool → MethodPlan Bool → MethodPlan Bool
and_then true next = next
and_then false next = gives false

-- Goes on where the answer is false so far; else it is true.
abbrev pub or_else : Bool → MethodPlan Bool → MethodPlan Bool
or_else true next = gives true
or_else false next = next

-- Whether a condition holds: under `Not`, where its item isn't true (RFC 4918, section 10.4.3).
abbrev pub condition_holds : Bool → Bool → Bool
condition_holds negated holds = if negated then not holds else holds

-- whether all conditions of a list hold; they are evaluated in order, up to the first that doesn't (RFC 4918, section 10.4.3)
abbrev pub all_hold : Option Path → List Condition → MethodPlan Bool
all_hold p [] = gives true
all_hold p (c ∷ cs) = do
  holds ← item_holds p c.item
  and_then (condition_holds c.negated holds) (all_hold p cs)

-- whether one of the lists holds; they are evaluated in order, up to the first that does (RFC 4918, section 10.4.3)
abbrev pub some_holds : List Addressed → MethodPlan Bool
some_holds [] = gives false
some_holds (l ∷ ls) = do
  holds ← all_hold l.path l.conditions
  or_else holds (some_holds ls)

-- whether an If header holds; without the header the answer is yes (RFC 4918, section 10.4.3)
abbrev pub if_holds : Option (List Addressed) → MethodPlan Bool
if_holds None = gives true
if_holds (Some ls) = some_holds ls

-- The state tokens that an If header submits: all tokens of its lists in order, whether or not the lists hold (RFC 4918, section 10.4.1).
abbrev pub submitted : Option (List Addressed) → List (List ℕ)
submitted None = []
submitted (Some ls) = flat_map (λ l. tokens_among l.conditions) ls

-- the paths that the lists of an If header speak of, in order; none without the header (RFC 4918, section 10.4.2)
abbrev pub paths_in : Option (List Addressed) → List Path
paths_in None = []
paths_in (Some ls) = filter_map (λ l. l.path) ls

-- ---- all conditions

-- whether If holds, and the tokens that it submits (RFC 4918, section 10.4)
abbrev pub dav_if_match : Option (List Addressed) → MethodPlan (Bool × List (List ℕ))
dav_if_match lists = do
  holds ← if_holds lists
  gives (holds, submitted lists)

-- The status with which all conditions answer, if they do, with If evaluated first, as for GET, HEAD and LOCK: 412 where If
-- doesn't hold (RFC 9110, section 13.2; RFC 4918, section 10.4).
abbrev pub if_match : DavMethod → Conditions → Option DavMetaData → MethodPlan (Option ℕ)
if_match m c found = do
  holds ← if_holds c.lists
  gives (if holds then http_conditions m c.if_match c.if_none_match found else Some 412)

-- Goes on, unless there is a status, which is then given.
abbrev pub unless : {A : Type 0} → Option ℕ → MethodPlan (Result A ℕ) → MethodPlan (Result A ℕ)
unless (Some status) next = gives (Err status)
unless None next = next

-- The submitted tokens, or the status with which the conditions answer, with If evaluated last: 412 where If doesn't hold
-- (RFC 9110, section 13.2; RFC 4918, section 10.4).
abbrev pub if_match_get_tokens : DavMethod → Conditions → Option DavMetaData → MethodPlan (Result (List (List ℕ)) ℕ)
if_match_get_tokens m c found = unless (http_conditions m c.if_match c.if_none_match found) (do
  holds ← if_holds c.lists
  gives (if holds then Ok (submitted c.lists) else Err 412))

-- turns a status into an error of a method
abbrev pub status_as : {A : Type 0} → (ℕ → DavError) → Result A ℕ → Result A DavError
status_as f (Ok a) = Ok a
status_as f (Err status) = Err (f status)

-- gives the tokens where the conditions hold; else ends with their status (RFC 9110, section 13.2; RFC 4918, section 10.4)
abbrev pub guarded : (ℕ → DavError) → DavMethod → Conditions → Option DavMetaData → MethodPlan (List (List ℕ))
guarded f m c found = do
  verdict ← if_match_get_tokens m c found
  Done (status_as f verdict)
