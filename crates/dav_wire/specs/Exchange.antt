-- Requests of HTTP/1.1's grammar as they are handed over, and the bytes that answer them (RFC 9112).
use Rattle.std.specs.Prelude.{◌≡◌, ℕ, ◌≤◌, ◌||◌, Bool, true, not, List, [], ◌∷◌, ◌++◌, length, map, flat_map, Option, None, codes, bytes_eq, if◌then◌else◌, IsFalse}
use Rattle.httparse.specs.Grammar.{RequestHead}
use Rattle.http1.specs.declared.conn.Limits.{Limits}
use Rattle.http1.specs.Message as Wire
use Rattle.http1.specs.Message.{known_of, ReadsRequestMessage}
use Rattle.http_server.specs.declared.response.Response.{Response}
use Rattle.http_server.specs.declared.state.TheConstants.{MAX_HEADERS}
use Rattle.http_server.specs.Exchange.{IsInterim, IsAnswer, keeps_open}
use Rattle.dav_wire.specs.declared.answer.Asked.{Asked}
use Rattle.dav_wire.specs.declared.answer.Rejection.{Rejection}
use Rattle.dav_wire.specs.declared.state.Config.{Config}

-- a method whose body is an element tree (RFC 4918, sections 9.1, 9.2 and 9.10)
abbrev pub takes_tree : List ℕ → Bool
takes_tree method = bytes_eq method (codes "PROPFIND") || bytes_eq method (codes "PROPPATCH") || bytes_eq method (codes "LOCK")

-- the most bytes of a body of this method
abbrev pub most_of : Config → List ℕ → ℕ
most_of config method = if takes_tree method then config.max_tree_len else config.max_body_len

-- The stream begins with the request m, which is handed over as the very bytes of its head and its decoded body, and the
-- rest follows it. Its body is within the limit of its method, and has no transfer coding but `chunked`.
pub record ReadsCall (config : Config) (stream : List ℕ) (m : Wire.Request) (asked : Asked) (rest : List ℕ) : Type 0 where
  pub reads : ReadsRequestMessage config.limits stream m rest
  pub head : stream ≡ asked.head ++ reads.after_head
  pub body : asked.body ≡ m.body.bytes
  pub plain : IsFalse (known_of m.head.fields).other_coding
  pub fits : length m.body.bytes ≤ most_of config m.head.method
  pub few : length m.head.fields ≤ MAX_HEADERS

-- what the answerer was given, and the response that it gave
abbrev pub Call : Type 0
Call = Asked × Response

-- the bytes of a head that the answerer was given, and why it doesn't take the request, if so
abbrev pub Judgement : Type 0
Judgement = List ℕ × Option Rejection

-- the judgements of these requests, each of which may go on
abbrev pub passed : List Call → List Judgement
passed calls = map (λ (c : Call). (c.0.head, None)) calls

-- what an answerer does: it judges the head of a request, or answers a request
pub data Act : Type 0 where
  judged : Judgement → Act
  answered : Call → Act

abbrev pub judgement_in : Act → List Judgement
judgement_in (judged judgement) = judgement ∷ []
judgement_in (answered call) = []

abbrev pub call_in : Act → List Call
call_in (judged judgement) = []
call_in (answered call) = call ∷ []

-- the judgements and the calls among these acts, in their order
abbrev pub judgements_in : List Act → List Judgement
judgements_in acts = flat_map judgement_in acts

abbrev pub calls_in : List Act → List Call
calls_in acts = flat_map call_in acts

-- how judging a head, and answering a request, lead from state to state of an answerer
abbrev pub Judging : Type 0 → Type 1
Judging S = S → List ℕ → Option Rejection → S → Type 0

abbrev pub Answering : Type 0 → Type 1
Answering S = S → Asked → Response → S → Type 0

-- an act takes the answerer from the first state to the second
abbrev pub Does : {S : Type 0} → Judging S → Answering S → S → Act → S → Type 0
Does judges answers first (judged judgement) second = judges first judgement.0 judgement.1 second
Does judges answers first (answered call) second = answers first call.0 call.1 second

-- one act after the other, these take the answerer from the first state to the last
abbrev pub Chain : {S : Type 0} → Judging S → Answering S → S → List Act → S → Type 0
Chain judges answers first [] last = last ≡ first
Chain {S} judges answers first (act ∷ acts) last =
    (second : S) × Does judges answers first act second × Chain judges answers second acts last

-- The text is all that is sent for the request with this head that begins the stream: `100 Continue`, where the head asks for
-- that, or nothing, and then the answer, which its client reads whole. It says `close` where the request or the response asks
-- for that, and only there (RFC 9112, section 9.6).
pub record IsReply (limits : Limits) (stream : List ℕ) (head : RequestHead) (response : Response) (stays : Bool)
    (text : List ℕ) : Type 0 where
  pub before : List ℕ
  pub may_precede : IsInterim limits stream before
  pub final : List ℕ
  pub reads_as : IsAnswer head response final
  pub text_is : text ≡ before ++ final
  pub asks : stays ≡ keeps_open head response
  pub says : (known_of reads_as.message.head.fields).close ≡ not stays

-- The stream begins with the request of the call and then has the rest, and the text replies to it.
pub record Exchanges (config : Config) (stays : Bool) (stream : List ℕ) (call : Call) (text rest : List ℕ) : Type 0 where
  pub message : Wire.Request
  pub request : ReadsCall config stream message call.0 rest
  pub reply : IsReply config.limits stream message.head call.1 stays text

-- The stream and the text begin with the exchange of this call, which asks for no close, and what follows in the two is such.
pub record ServesFirst (config : Config) (stream : List ℕ) (call : Call) (text : List ℕ)
    (Later : List ℕ → List ℕ → Type 0) : Type 0 where
  pub own : List ℕ
  pub after : List ℕ
  pub exchange : Exchanges config true stream call own after
  pub others : List ℕ
  pub text_is : text ≡ own ++ others
  pub later : Later after others

-- The stream is these requests, one after the other, and the rest. The text is their answers, in that order. None asked to close.
abbrev pub Serves : Config → List ℕ → List Call → List ℕ → List ℕ → Type 0
Serves config stream [] text rest = (stream ≡ rest) × (text ≡ [])
Serves config stream (call ∷ calls) text rest =
    ServesFirst config stream call text (λ after others. Serves config after calls others rest)
