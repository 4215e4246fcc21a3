-- What the contracts of a connection mean.
use Rattle.std.specs.Prelude.{◌≡◌, ◌≢◌, ℕ, ◌+◌, ◌<◌, ◌≤◌, ◌⊎◌, List, [], ◌∷◌, ◌++◌, flat_map, length, map, sum_by, IsTrue, IsFalse}
use Rattle.std.specs.List.{AllByRecursion}
use Rattle.httparse.specs.Grammar.{RequestHead, ReadsRequest, print_response, status_code}
use Rattle.http1.specs.declared.conn.Limits.{Limits}
use Rattle.http1.specs.declared.framing.MethodKind.{MethodKind}
use Rattle.http1.specs.ChunkedBody.{Chunk, IsChunk, IsSizeLine, SizeLine, chunk_size, extension_len, print_chunk, print_size_line}
use Rattle.http1.specs.Message as Wire
use Rattle.http1.specs.Server.{is_head}
use Rattle.http1.specs.Message.{known_of, ReadsResponseMessage}
use Rattle.http_server.specs.declared.state.TheConstants.{MAX_HEADERS}
use Rattle.dav_wire.specs.declared.state.Config.{Config}
use Rattle.dav_wire.specs.declared.answer.Asked.{Asked}
use Rattle.dav_wire.specs.declared.answer.Rejection.{Rejection}
use Rattle.dav_wire.specs.declared.state.Refusal.{Refusal}
use Rattle.dav_wire.specs.declared.state.State.TheVariants.{Open}
use Rattle.dav_wire.specs.Exchange.{Call, ReadsCall}
use Rattle.dav_wire.specs.History.{History, IsServed, Rests}
use Rattle.dav_wire.specs.Refusals.{chunks_stated, closing_body, closing_text, refusal_status, rejection_status}

-- these bytes, by themselves, are this head and no other, within the limits of length and of fields
pub record IsHeadAlone (config : Config) (bytes : List ℕ) (h : RequestHead) : Type 0 where
  pub reads : ReadsRequest bytes h []
  pub only : (k : RequestHead) (more : List ℕ) → ReadsRequest bytes k more → (k ≡ h) × (more ≡ [])
  pub within : length bytes ≤ config.limits.max_head_len
  pub few : length h.fields ≤ MAX_HEADERS

-- What reads the bytes that are handed over as a head, by themselves, reads the head that was read in the stream: so nothing
-- is smuggled past the answerer's own reading (RFC 9112, section 11.2).
abbrev pub HeadsStandAlone : Type 0
HeadsStandAlone =
    (config : Config) (stream : List ℕ) (m : Wire.Request) (asked : Asked) (rest : List ℕ) → ReadsCall config stream m asked rest
    → IsHeadAlone config asked.head m.head

-- the stream begins with the requests of these calls, one after another
abbrev pub ReadsCalls : Config → List ℕ → List Call → List ℕ → Type 0
ReadsCalls config stream [] rest = stream ≡ rest
ReadsCalls config stream (c ∷ calls) rest =
    (m : Wire.Request) × (after : List ℕ) × ReadsCall config stream m c.0 after × ReadsCalls config after calls rest

-- What came begins with the requests that were handed over, each once and in that order.
abbrev pub CallsAreRequests : Type 0
CallsAreRequests = (config : Config) (h : History) → IsServed config h → (rest : List ℕ) × ReadsCalls config h.received h.calls rest

-- And these are the only ones: what is handed over follows from the bytes that came, and from how much was handed over.
abbrev pub RequestsAreDetermined : Type 0
RequestsAreDetermined =
    (config : Config) (stream : List ℕ) (xs ys : List Call) (r q : List ℕ) → ReadsCalls config stream xs r → ReadsCalls config stream ys q
    → length xs ≡ length ys → (map (λ (c : Call). c.0) xs ≡ map (λ (c : Call). c.0) ys) × (r ≡ q)

-- After `advance` a connection has something to send, or waits for input that goes on, or is closed.
abbrev pub ConnectionsNeverStall : Type 0
ConnectionsNeverStall =
    (config : Config) (h : History) → Rests config h
    → (0 < length h.pending) ⊎ (((h.state ≡ Open) × IsFalse h.ended) ⊎ (h.state ≢ Open))

-- A client that sent a request with this method, and has room for the head, reads the text, whole, as a response of this status
-- that has this body and says that the connection is closed.
pub record IsLastResponse (method : MethodKind) (status : ℕ) (body text : List ℕ) : Type 0 where
  pub message : Wire.Response
  pub reads : (limits : Limits) → length (print_response message.head) ≤ limits.max_head_len
      → ReadsResponseMessage limits method text message []
  pub status_is : status_code message.head ≡ status
  pub closes : IsTrue (known_of message.head.fields).close
  pub content : message.body.bytes ≡ body

-- The response with this status that ends a connection is read by who sent a request with this method as what it is, with the
-- words of its status, but for a HEAD.
abbrev pub IsReadAsLast : MethodKind → ℕ → Type 0
IsReadAsLast method status =
    IsLastResponse method status (closing_body (is_head method) status) (closing_text (is_head method) status)

-- So are each refusal and rejection, and the 500 where a response can't be sent.
abbrev pub RefusalsAreRead : Type 0
RefusalsAreRead =
    (method : MethodKind)
    → ((why : Refusal) → IsReadAsLast method (refusal_status why))
    × ((why : Rejection) → IsReadAsLast method (rejection_status why))
    × IsReadAsLast method 500

-- What came of a body in chunks states the bytes of its whole chunks and the size of the next one, once the line of that came whole, however
-- little came after it (RFC 9112, section 7.1).
abbrev pub ChunksStateTheirSizes : Type 0
ChunksStateTheirSizes =
    (limits : Limits) (chunks : List Chunk) (line : SizeLine) (came : List ℕ) → AllByRecursion IsChunk chunks → IsSizeLine line
    → sum_by (λ c. extension_len c.line) chunks + extension_len line ≤ limits.max_extensions_len
    → length (flat_map (λ c. c.bytes) chunks) + chunk_size line ≤ chunks_stated limits (flat_map print_chunk chunks ++ (print_size_line line ++ came))
