-- Where the reader of a connection is in the stream between two steps, and what is true there.
use Rattle.std.specs.Prelude.{◌≡◌, ◌≢◌, ℕ, ◌+◌, ◌*◌, ◌<◌, ◌≤◌, Bool, true, false, List, [], ◌∷◌, ◌++◌, length, map, take, drop, flat_map, None, if◌then◌else◌, IsTrue, IsFalse}
use Rattle.std.specs.Bool.{⊤}
use Rattle.httparse.specs.Grammar.{RequestHead}
use Rattle.httparse.specs.Spans.{span_bytes}
use Rattle.httparse.specs.declared.spans.HeaderSpan.{HeaderSpan}
use Rattle.httparse.specs.declared.spans.RequestSpans.{RequestSpans}
use Rattle.httparse.specs.declared.spans.Span.{Span}
use Rattle.http1.specs.declared.chunked.ChunkedDecoder.{ChunkedDecoder}
use Rattle.http1.specs.declared.decode.Decoder.{Decoder}
use Rattle.http1.specs.declared.decode.Decoder.TheVariants as Decoding
use Rattle.http1.specs.declared.decode.Decoder.TheVariants.{UntilClose}
use Rattle.http1.specs.declared.conn.Limits.{Limits}
use Rattle.http1.specs.declared.framing.Framing.{Framing}
use Rattle.http1.specs.declared.framing.Framing.TheVariants as Framed
use Rattle.http1.specs.declared.server.Server.{Server}
use Rattle.http1.specs.ChunkedDecoder.{run, run_result, start}
use Rattle.http1.specs.Decoder.{decoder_for}
use Rattle.http1.specs.Framing.{method_kind}
use Rattle.http1.specs.Message as Wire
use Rattle.http1.specs.Message.{known_of, AcceptsRequest, ReadsRequestMessage}
use Rattle.http1.specs.declared.conn.Writing.{Writing}
use Rattle.http1.specs.declared.conn.BodySize.{BodySize}
use Rattle.http1.specs.declared.conn.BodySize.TheVariants.{Empty, Known, Unknown}
use Rattle.http1.specs.Conn.{data_text, after_data, finish_text, unread_size}
use Rattle.http1.specs.Server.{new_server, request_of, is_head, TakesHead, reading, writing, with_writing, after_end}
use Rattle.http_server.specs.declared.response.Response.{Response}
use Rattle.http_server.specs.declared.state.TheConstants.{MAX_HEADERS}
use Rattle.http_server.specs.Encoding.{answering}
use Rattle.http_server.specs.Exchange.{ExpectsContinue, continue_text, IsInterim}
use Rattle.http_server.specs.History.{HasNoMessage}
use Rattle.http_server.specs.Machine.{in_body, Leads}
use Rattle.dav_wire.specs.declared.answer.Asked.{Asked}
use Rattle.dav_wire.specs.declared.state.Config.{Config}
use Rattle.dav_wire.specs.declared.intake.Intake.{Intake}
use Rattle.dav_wire.specs.declared.intake.Found.{Found}
use Rattle.dav_wire.specs.declared.intake.Found.TheVariants as found
use Rattle.dav_wire.specs.declared.line.Line.{Line}
use Rattle.dav_wire.specs.declared.state.Reason.{Reason}
use Rattle.dav_wire.specs.declared.state.Reason.TheVariants.{Refused}
use Rattle.dav_wire.specs.declared.state.Refusal.{Refusal}
use Rattle.dav_wire.specs.declared.state.Refusal.TheVariants.{Truncated, Unreadable, BodyTooLong, UnknownCoding, NoRoom}
use Rattle.dav_wire.specs.declared.state.State.{State}
use Rattle.dav_wire.specs.declared.state.State.TheVariants.{Open, Closing, Aborted}
use Rattle.dav_wire.specs.Exchange.{Call, Judgement, ReadsCall, Serves, most_of, passed}
use Rattle.dav_wire.specs.History.{History, BeginsRequest, BeginsWithHead, written, HasWork, IsServed, Rests}
use Rattle.dav_wire.specs.Refusals.{IsRefusedFor, IsStatedWithin, len_stated}
use Rattle.dav_wire.specs.Spots.{followed, spot_of, to_come}
use Rattle.dav_wire.specs.declared.spot.Spot.{Spot}

-- the part of an intake of which the invariant speaks
pub record Place : Type 0 where
  pub config : Config
  pub unread : List ℕ
  pub server : Server
  pub within : Bool
  pub head : List ℕ
  pub is_head : Bool
  pub most : ℕ
  pub stated : ℕ
  pub spot : Spot
  pub body : List ℕ

abbrev pub place : Intake → Place
place i = record {
  config = i.config;
  unread = i.input.items;
  server = i.server;
  within = i.is_within;
  head = i.head.items;
  is_head = i.is_head;
  most = i.most;
  stated = i.stated;
  spot = i.spot;
  body = i.body.items;
}

-- what goes before the answer to a request with this head
abbrev pub invitation : RequestHead → Framing → List ℕ
invitation h framing = if (request_of h framing).expects_continue then continue_text else []

-- the decoder of a body that isn't in chunks
abbrev pub IsSized : Decoder → Type 0
IsSized (Decoding.Length left) = ⊤
IsSized (Decoding.Chunked chunks max_len) = ⊥
IsSized Decoding.UntilClose = ⊥

-- What came of a body in chunks, and was read, went through the machine of chunks, which gave the
-- bytes that are kept, and is where the place says.
pub record Follows (limits : Limits) (after : List ℕ) (decoder : Decoder) (unread body : List ℕ) (spot : Spot) : Type 0 where
  pub chunks : ChunkedDecoder
  pub max_len : ℕ
  pub decoder_is : decoder ≡ Decoding.Chunked chunks max_len
  pub came : List ℕ
  pub text : after ≡ came ++ unread
  pub ran : run (start limits.max_extensions_len) came ≡ run_result chunks body []
  pub is_at : spot ≡ spot_of chunks.state

-- so it is where this frames the body
abbrev pub FollowsIn : Framing → Limits → List ℕ → Decoder → List ℕ → List ℕ → Spot → Type 0
FollowsIn Framed.NoBody limits after decoder unread body spot = IsSized decoder
FollowsIn (Framed.Length len) limits after decoder unread body spot = IsSized decoder
FollowsIn Framed.Chunked limits after decoder unread body spot = Follows limits after decoder unread body spot
FollowsIn Framed.UntilClose limits after decoder unread body spot = ⊥

-- how long a body is stated to be by what frames it, and by its chunks as far as they were read
abbrev pub tally : Framing → List ℕ → Spot → ℕ
tally Framed.NoBody body spot = 0
tally (Framed.Length len) body spot = len
tally Framed.Chunked body spot = length body + to_come spot
tally Framed.UntilClose body spot = 0

-- it is stated to be so long, and no longer than its method may have
abbrev pub IsTallied : Place → List ℕ → Type 0
IsTallied p stream =
    (h : RequestHead) (framing : Framing) (after : List ℕ)
    → AcceptsRequest p.config.limits stream h framing after → (p.stated ≡ tally framing p.body p.spot) × (p.stated ≤ most_of p.config h.method)

-- The head of the request that begins the stream was read, and of its body the bytes that are kept: whatever comes, its body is
-- these and then what the decoder reads in the unread bytes.
pub record Begun (p : Place) (stream interim : List ℕ) : Type 0 where
  pub head : RequestHead
  pub framing : Framing
  pub after : List ℕ
  pub accepts : AcceptsRequest p.config.limits stream head framing after
  pub text : stream ≡ p.head ++ after
  pub few : length head.fields ≤ MAX_HEADERS
  pub plain : IsFalse (known_of head.fields).other_coding
  pub most : p.most ≡ most_of p.config head.method
  pub kind : p.is_head ≡ is_head (method_kind head.method)
  pub invited : interim ≡ invitation head framing
  pub decoder : Decoder
  pub ends : decoder ≢ UntilClose
  pub waits : Bool
  pub server : p.server ≡ in_body p.config.limits head framing decoder waits
  pub goes_on : Leads (decoder_for p.config.limits framing) after decoder p.unread p.body
  pub follows : FollowsIn framing p.config.limits after decoder p.unread p.body p.spot

-- the reader is at the start of a request
pub record IsBetween (p : Place) (stream interim : List ℕ) : Type 0 where
  pub server : p.server ≡ new_server p.config.limits
  pub unread : p.unread ≡ stream
  pub body : p.body ≡ []
  pub stated : p.stated ≡ 0
  pub silent : interim ≡ []

-- The reader is within the body of the request that begins the stream, for which this much was written, or at its start.
abbrev pub StandsAt : Bool → Place → List ℕ → List ℕ → Type 0
StandsAt true p stream interim =
    Begun p stream interim × (length p.body ≤ p.most) × IsTallied p stream
StandsAt false p stream interim = IsBetween p stream interim

abbrev pub Standing : Place → List ℕ → List ℕ → Type 0
Standing p stream interim = StandsAt p.within p stream interim

-- what was judged of the request that is being read: its head, once that came, and it may go on
abbrev pub judged_at : Place → List Judgement
judged_at p = if p.within then (p.head, None) ∷ [] else []

-- The stream has no whole request. Of the one that begins it the head was judged, where that came,
-- and its sender was invited, where it waits for that.
pub record IsStarved (p : Place) (stream interim : List ℕ) : Type 0 where
  pub standing : Standing p stream interim
  pub unfinished : HasNoMessage p.config.limits stream
  pub invited : ExpectsContinue p.config.limits stream → interim ≡ continue_text
  pub within : IsStatedWithin p.config p.stated stream
  pub judged : (bytes : List ℕ) → BeginsWithHead p.config.limits stream bytes
      → judged_at p ≡ (bytes, None) ∷ []
  pub free : (BeginsRequest p.config.limits stream → ⊥) → (p.stated ≡ 0) × (p.body ≡ [])

-- The head of the request that begins the stream was read, and nothing was written for it. Once it
-- is judged its sender is invited, if it waits for that.
pub record IsHeadRead (p : Place) (stream interim : List ℕ) (waits : Bool) : Type 0 where
  pub silent : interim ≡ []
  pub within : p.within ≡ true
  pub standing : Standing p stream (if waits then continue_text else [])
  pub invites : IsTrue waits → ExpectsContinue p.config.limits stream

-- the request that begins the stream was read whole
pub record IsWhole (p : Place) (stream : List ℕ) (asked : Asked) (bodiless : Bool) : Type 0 where
  pub message : Wire.Request
  pub request : ReadsCall p.config stream message asked p.unread
  pub kind : bodiless ≡ is_head (method_kind message.head.method)
  pub server : p.server ≡ answering p.config.limits message.head request.reads.framing
  pub between : p.within ≡ false
  pub body : p.body ≡ []
  pub stated : p.stated ≡ 0

-- the head of the request that begins the stream was read, and it is known whether it is a HEAD
abbrev pub KnowsHead : Place → List ℕ → Type 0
KnowsHead p stream =
    (h : RequestHead) × (framing : Framing) × (after : List ℕ)
    × AcceptsRequest p.config.limits stream h framing after × (p.is_head ≡ is_head (method_kind h.method))

-- so it is where that request is refused for its body
abbrev pub IsKnownFor : Refusal → Place → List ℕ → Type 0
IsKnownFor Truncated p stream = ⊤
IsKnownFor (Unreadable e) p stream = ⊤
IsKnownFor BodyTooLong p stream = KnowsHead p stream
IsKnownFor UnknownCoding p stream = ⊤
IsKnownFor (NoRoom room) p stream = KnowsHead p stream

-- a step that goes on leaves less of this
abbrev pub work : Place → ℕ
work p = 2 * length p.unread + (if p.within then 1 else 0)

-- What was found at a place with so much work, in the stream for whose first request this was judged
-- and this much was written, and the place after that.
abbrev pub Finds : Found → Bool → List Judgement → ℕ → Place → List ℕ → List ℕ → Type 0
Finds found.Nothing ended judged before p stream interim =
    IsStarved p stream interim × IsFalse ended × (judged_at p ≡ judged)
Finds found.End ended judged before p stream interim = IsTrue ended × (stream ≡ []) × (interim ≡ [])
Finds (found.Head waits) ended judged before p stream interim =
    IsHeadRead p stream interim waits × (judged ≡ []) × (work p < before)
Finds found.Part ended judged before p stream interim =
    Standing p stream interim × (judged_at p ≡ judged) × (work p < before)
Finds (found.Request asked bodiless) ended judged before p stream interim =
    IsWhole p stream asked bodiless × (judged ≡ (asked.head, None) ∷ []) × (work p < before)
Finds (found.Refused why) ended judged before p stream interim =
    IsRefusedFor why p.config ended stream × HasWork p.config.limits ended stream × IsKnownFor why p stream

-- a head was read at the start of the stream, and is still among the bytes
pub record HasHead (p : Place) (spans : List HeaderSpan) (r : RequestSpans) (stream interim : List ℕ) : Type 0 where
  pub unread : p.unread ≡ stream
  pub silent : interim ≡ []
  pub within : p.within ≡ false
  pub body : p.body ≡ []
  pub takes : TakesHead (new_server p.config.limits) stream spans p.server r.len r
  pub few : length spans ≤ MAX_HEADERS

-- the place once so many of the unread bytes are noted in the chunks
abbrev pub noted : Place → ℕ → Place
noted p count = record p { spot = followed (unread_size (reading p.server)) p.spot (take count p.unread) }

-- and once they are dropped
abbrev pub paused : Place → ℕ → Place
paused p count = record (noted p count) { unread = drop count p.unread }

-- the next piece of a body was read, and is still among the bytes
pub record HasPiece (p : Place) (piece : Span) (stream interim : List ℕ) : Type 0 where
  pub within : p.within ≡ true
  pub some : piece.start < piece.end
  pub fits : length p.body ≤ p.most
  pub stated : IsTallied p stream
  pub onward : Begun (record (paused p piece.end) { body = p.body ++ span_bytes p.unread piece }) stream interim

-- What the head states of a body, and its chunks as far as they came, is what they state as far as they were read.
abbrev pub IsToldWhole : Place → List ℕ → Type 0
IsToldWhole p stream =
    (h : RequestHead) (framing : Framing) (after : List ℕ)
    → AcceptsRequest p.config.limits stream h framing after → len_stated p.config.limits framing after ≡ tally framing p.body p.spot

-- so many bytes were read, in which there is no piece of the body and no end, or no head
abbrev pub PausesAt : Bool → Place → ℕ → List ℕ → List ℕ → Type 0
PausesAt true p count stream interim =
    Begun (paused p count) stream interim × (length p.body ≤ p.most) × IsTallied p stream × IsToldWhole (paused p count) stream
PausesAt false p count stream interim =
    IsBetween (paused p count) stream interim × (BeginsRequest p.config.limits stream → ⊥)

-- they are still among the bytes, and the stream has no whole request
pub record HasNone (p : Place) (count : ℕ) (stream interim : List ℕ) : Type 0 where
  pub at : PausesAt p.within p count stream interim
  pub unfinished : HasNoMessage p.config.limits stream
  pub invited : ExpectsContinue p.config.limits stream → interim ≡ continue_text
  pub judged : (bytes : List ℕ) → BeginsWithHead p.config.limits stream bytes
      → judged_at p ≡ (bytes, None) ∷ []
  pub free : (BeginsRequest p.config.limits stream → ⊥) → (p.stated ≡ 0) × (p.body ≡ [])

-- a body of so many bytes, and maybe more, isn't taken: its method may have at most so many, or there is room for so many
abbrev pub IsExcess : Refusal → ℕ → ℕ → ℕ → Type 0
IsExcess Truncated most room total = ⊥
IsExcess (Unreadable e) most room total = ⊥
IsExcess BodyTooLong most room total = most < total
IsExcess UnknownCoding most room total = ⊥
IsExcess (NoRoom told) most room total = (told ≡ room) × (room < total)

-- the end of the request that begins the stream was read
pub record HasEnd (p : Place) (stream : List ℕ) : Type 0 where
  pub within : p.within ≡ true
  pub message : Wire.Request
  pub reads : ReadsRequestMessage p.config.limits stream message p.unread
  pub head : stream ≡ p.head ++ reads.after_head
  pub body : p.body ≡ message.body.bytes
  pub plain : IsFalse (known_of message.head.fields).other_coding
  pub fits : length message.body.bytes ≤ most_of p.config message.head.method
  pub few : length message.head.fields ≤ MAX_HEADERS
  pub kind : p.is_head ≡ is_head (method_kind message.head.method)
  pub server : p.server ≡ answering p.config.limits message.head reads.framing

-- nothing came, and the limits are the same
pub record KeepsIntake (old new : Intake) : Type 0 where
  pub config : new.config ≡ old.config
  pub ended : new.ended ≡ old.ended

-- how many bytes of a body are known to come
abbrev pub known_len : BodySize → ℕ
known_len Empty = 0
known_len (Known len) = len
known_len Unknown = 0

-- there is room for what is stated and for what was taken of the body
pub record FitsIn (room : ℕ) (i : Intake) : Type 0 where
  pub stated : i.stated ≤ room
  pub body : length i.body.items ≤ room

-- and nothing of that changed
pub record KeepsBody (old new : Intake) : Type 0 where
  pub stated : new.stated ≡ old.stated
  pub body : new.body ≡ old.body

-- a refusal for want of room tells this room
abbrev pub TellsRoom : ℕ → Found → Type 0
TellsRoom room f = (told : ℕ) → f ≡ found.Refused (NoRoom told) → told ≡ room

-- the connection wasn't refused
abbrev pub IsUnrefused : Line → Line → Type 0
IsUnrefused old new =
    (why : Refusal) → new.state ≡ Closing (Refused why) → old.state ≡ Closing (Refused why)

abbrev pub history_of : Line → History
history_of l = record {
  state = l.state;
  received = flat_map (λ r. drop r.1 r.0.items) l.reads.items;
  ended = l.intake.ended;
  unread = l.intake.input.items;
  calls = l.calls.items;
  judgements = map (λ j. (j.0.items, j.1)) l.judgements.items;
  sent = flat_map (λ w. take w.1 w.0.items) l.writes.items;
  pending = l.output.items;
  stated = l.intake.stated;
  body = l.intake.body.items;
}

-- what was answered, and what is left of the stream
pub record Base (config : Config) (h : History) : Type 0 where
  pub is_open : h.state ≡ Open
  pub answered : List Call
  pub text : List ℕ
  pub rest : List ℕ
  pub serves : Serves config h.received answered text rest
  pub interim : List ℕ
  pub is_interim : IsInterim config.limits rest interim
  pub written_is : written h ≡ text ++ interim

pub record IsRunning (p : Place) (h : History) : Type 0 where
  pub base : Base p.config h
  pub calls : h.calls ≡ base.answered
  pub judged : h.judgements ≡ passed h.calls ++ judged_at p
  pub standing : Standing p base.rest base.interim

-- what is true of a connection in each state
abbrev pub HoldsAt : State → Place → History → Type 0
HoldsAt Open p h = IsRunning p h
HoldsAt (Closing why) p h = IsServed p.config h
HoldsAt Aborted p h = IsServed p.config h

abbrev pub Holds : Line → Type 0
Holds l = HoldsAt l.state (place l.intake) (history_of l)

-- memory ran out or the answerer stopped, and what waited was dropped
abbrev pub aborted : History → History
aborted h = record h { state = Aborted; pending = [] }

-- `100 Continue` was written
abbrev pub invited : History → History
invited h = record h { pending = h.pending ++ continue_text }

-- this text was written, and it is the last
abbrev pub closed_with : Reason → List ℕ → History → History
closed_with why text h = record h { state = Closing why; pending = h.pending ++ text }

-- a head was read, and is given to the answerer
pub record IsAtHead (p : Place) (h : History) (waits : Bool) : Type 0 where
  pub base : Base p.config h
  pub calls : h.calls ≡ base.answered
  pub judged : h.judgements ≡ passed h.calls
  pub read : IsHeadRead p base.rest base.interim waits

-- a request was given to the answerer
pub record IsGiven (p : Place) (h : History) (asked : Asked) (bodiless : Bool) : Type 0 where
  pub base : Base p.config h
  pub calls : h.calls ≡ base.answered
  pub judged : h.judgements ≡ passed h.calls ++ (asked.head, None) ∷ []
  pub whole : IsWhole p base.rest asked bodiless

-- and it gave this response
pub record IsAnswered (p : Place) (h : History) (response : Response) (bodiless : Bool) : Type 0 where
  pub base : Base p.config h
  pub asked : Asked
  pub calls : h.calls ≡ base.answered ++ (asked, response) ∷ []
  pub judged : h.judgements ≡ passed h.calls
  pub whole : IsWhole p base.rest asked bodiless

-- no bytes came and none went
pub record KeepsLine (old new : Line) : Type 0 where
  pub config : new.intake.config ≡ old.intake.config
  pub ended : new.intake.ended ≡ old.intake.ended
  pub reads : new.reads ≡ old.reads
  pub writes : new.writes ≡ old.writes

-- a step keeps what holds, and has less to do, or else waits for input alone
pub record Reaches (old : ℕ) (goes_on : Bool) (new : Line) : Type 0 where
  pub holds : Holds new
  pub less : IsTrue goes_on → work (place new.intake) < old
  pub rests : IsFalse goes_on → Rests new.intake.config (history_of new)

-- what is written after the head of a response: its body, unless the method is HEAD, and the end
abbrev pub rest_text : Bool → Writing → List ℕ → List ℕ
rest_text true w body = finish_text w []
rest_text false w body = data_text w body ++ finish_text (after_data w (length body)) []

-- the server after that
abbrev pub after_rest : Bool → Server → ℕ → Server
after_rest true s len = after_end s
after_rest false s len = after_end (with_writing s (after_data (writing s) len))
