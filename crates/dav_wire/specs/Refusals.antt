-- Why a request is refused or rejected, and the texts that the connection sends of its own.
use Rattle.std.specs.Prelude.{◌≡◌, ◌≢◌, ℕ, ◌<◌, ◌||◌, ◌==◌, Bool, true, List, [], ◌∷◌, ◌++◌, ◌+◌, length, codes, decimal, if◌then◌else◌, IsTrue, ◌≤◌}
use Rattle.httparse.specs.Grammar.{RequestHead}
use Rattle.http1.specs.declared.framing.Framing.{Framing}
use Rattle.http1.specs.declared.conn.Limits.{Limits}
use Rattle.http1.specs.declared.framing.Framing.TheVariants.{NoBody, Length, Chunked, UntilClose}
use Rattle.http1.specs.declared.chunked.State.{State}
use Rattle.http1.specs.declared.chunked.State.TheVariants as state
use Rattle.http1.specs.ChunkedDecoder.{run, start}
use Rattle.http1.specs.Framing.{method_kind}
use Rattle.http1.specs.Message.{AcceptsRequest}
use Rattle.http1.specs.ReadError.{status_of}
use Rattle.http1.specs.Head.{response_text}
use Rattle.http1.specs.Server.{is_head}
use Rattle.http1_typed.specs.Parts.{reason_of}
use Rattle.http_server.specs.History.{HasNoMessage, NextIs, HasTooManyFields, HasUnknownCoding, IsReadError}
use Rattle.dav_wire.specs.declared.answer.Rejection.{Rejection}
use Rattle.dav_wire.specs.declared.answer.Rejection.TheVariants.{BadRequest, Unauthorized, Forbidden, UnsupportedMediaType, Misdirected, TooManyRequests, NotImplemented, Unavailable}
use Rattle.dav_wire.specs.declared.state.Config.{Config}
use Rattle.dav_wire.specs.declared.state.Refusal.{Refusal}
use Rattle.dav_wire.specs.declared.state.Refusal.TheVariants.{Truncated, Unreadable, BodyTooLong, UnknownCoding, NoRoom}
use Rattle.dav_wire.specs.Exchange.{most_of}
use Rattle.dav_wire.specs.Explained.{explanation, text_fields}

-- the status of a refusal (RFC 9110, sections 15.5 and 15.6.4, RFC 6585, section 5, and RFC 9112,
-- sections 3 and 6.1)
abbrev pub refusal_status : Refusal → ℕ
refusal_status Truncated = 400
refusal_status (Unreadable e) = status_of e
refusal_status BodyTooLong = 413
refusal_status UnknownCoding = 501
refusal_status (NoRoom room) = 503

-- the status of a request that the answerer doesn't take (RFC 9110, sections 15.5 and 15.6; RFC 6585,
-- section 4)
abbrev pub rejection_status : Rejection → ℕ
rejection_status BadRequest = 400
rejection_status Unauthorized = 401
rejection_status Forbidden = 403
rejection_status UnsupportedMediaType = 415
rejection_status Misdirected = 421
rejection_status TooManyRequests = 429
rejection_status NotImplemented = 501
rejection_status Unavailable = 503

-- a status that the connection answers with itself, and 400 for any other
abbrev pub known_status : ℕ → ℕ
known_status status =
    if (status == 401) || ((status == 403) || ((status == 413) || ((status == 414) || ((status == 415) || ((status == 421) || ((status == 429) || ((status == 431)
    || ((status == 500) || ((status == 501) || (status == 503)))))))))) then status else 400

-- the fields of a response with this text, after which the connection is closed (RFC 9110, section 8.3; RFC 9112, sections 6.2 and 9.6)
abbrev pub last_fields : List ℕ → List (List ℕ × List ℕ)
last_fields text =
    text_fields text ++ (codes "connection", codes "close") ∷ (codes "content-length", decimal (length text)) ∷ []

-- the challenge of a 401 (RFC 9110, section 11.6.1, and RFC 7617, section 2.1)
abbrev pub challenge : List ℕ × List ℕ
challenge = (codes "www-authenticate", codes "Basic realm=\"vuldarg\", charset=\"UTF-8\"")

-- when to try again what is refused with 503: after a second (RFC 9110, section 10.2.3)
abbrev pub retry_after : List ℕ × List ℕ
retry_after = (codes "retry-after", codes "1")

-- and what is refused with 429: after a minute (RFC 6585, section 4)
abbrev pub retry_later : List ℕ × List ℕ
retry_later = (codes "retry-after", codes "60")

-- the fields of such a response; a 401 has a challenge too, and a 429 and a 503 say when to try again
abbrev pub closing_fields : ℕ → List (List ℕ × List ℕ)
closing_fields status =
    if status == 401 then challenge ∷ last_fields (explanation status)
    else if status == 429 then retry_later ∷ last_fields (explanation status)
    else if status == 503 then retry_after ∷ last_fields (explanation status) else last_fields (explanation status)

-- the head of a response with this status, its phrase and these fields
abbrev pub closing_head : ℕ → List ℕ
closing_head status = response_text 1 status (reason_of status) (closing_fields status)

-- what follows it: what the status means, in words, and nothing in a bare one, as to a HEAD (RFC 9110, section 9.3.2)
abbrev pub closing_body : Bool → ℕ → List ℕ
closing_body bare status = if bare then [] else explanation status

-- such a response, with these words or bare
abbrev pub closing_text : Bool → ℕ → List ℕ
closing_text bare status = closing_head status ++ closing_body bare status

-- The text is the response with this status to the request that begins the stream, of which the head was read.
abbrev pub ClosesRequest : Limits → List ℕ → ℕ → List ℕ → Type 0
ClosesRequest limits stream status text =
    (h : RequestHead) × (framing : Framing) × (after : List ℕ) × AcceptsRequest limits stream h framing after
    × (text ≡ closing_text (is_head (method_kind h.method)) status)

-- whether the response is bare that refuses a request for this, which is a HEAD or not: where its head isn't known it is
abbrev pub is_bare : Refusal → Bool → Bool
is_bare Truncated is_head = true
is_bare (Unreadable e) is_head = true
is_bare BodyTooLong is_head = is_head
is_bare UnknownCoding is_head = true
is_bare (NoRoom room) is_head = is_head

-- The text refuses the request that begins the stream for this. It is bare where its head isn't known.
abbrev pub IsRefusalText : Limits → List ℕ → Refusal → List ℕ → Type 0
IsRefusalText limits stream Truncated text = text ≡ closing_text true 400
IsRefusalText limits stream (Unreadable e) text = text ≡ closing_text true (status_of e)
IsRefusalText limits stream BodyTooLong text = ClosesRequest limits stream 413 text
IsRefusalText limits stream UnknownCoding text = text ≡ closing_text true 501
IsRefusalText limits stream (NoRoom room) text = ClosesRequest limits stream 503 text

-- how many bytes are to come of the chunk in whose data the machine of chunks is
abbrev pub left_in : State → ℕ
left_in (state.Data left) = left + 1
left_in _ = 0

-- How many bytes of a body in chunks are stated by what came of it: those that came, and those that are
-- to come of the last chunk whose size line came whole (RFC 9112, section 7.1).
abbrev pub chunks_stated : Limits → List ℕ → ℕ
chunks_stated limits came =
    let r = run (start limits.max_extensions_len) came in length r.body + left_in r.ends.state

-- how long a body is stated to be by what frames it, and by its chunks as far as these bytes (RFC 9112,
-- section 6.3)
abbrev pub len_stated : Limits → Framing → List ℕ → ℕ
len_stated limits NoBody came = 0
len_stated limits (Length len) came = len
len_stated limits Chunked came = chunks_stated limits came
len_stated limits UntilClose came = 0

-- So many bytes are stated of the body of the request that begins the stream, by its head or by the
-- chunks that came, and no more than its method may have (RFC 9112, sections 6.2 and 7.1).
abbrev pub IsStatedWithin : Config → ℕ → List ℕ → Type 0
IsStatedWithin config stated stream =
    (h : RequestHead) (framing : Framing) (after : List ℕ)
    → AcceptsRequest config.limits stream h framing after → (stated ≡ len_stated config.limits framing after) × (stated ≤ most_of config h.method)

-- Why the request that begins the stream is refused: the input ended within it; or, whatever bytes
-- might follow, it has too many fields, or can't be read at all, or its body is longer than its
-- method may have, or has an unknown coding, or there is room for less of its body.
abbrev pub IsRefusedFor : Refusal → Config → Bool → List ℕ → Type 0
IsRefusedFor Truncated config ended stream = IsTrue ended × (stream ≢ []) × HasNoMessage config.limits stream
IsRefusedFor (Unreadable e) config ended stream = NextIs config.limits stream HasTooManyFields × IsReadError config.limits stream e
IsRefusedFor BodyTooLong config ended stream =
    NextIs config.limits stream (λ m. most_of config m.head.method < length m.body.bytes)
IsRefusedFor UnknownCoding config ended stream = NextIs config.limits stream HasUnknownCoding
IsRefusedFor (NoRoom room) config ended stream =
    NextIs config.limits stream (λ m. room < length m.body.bytes)
