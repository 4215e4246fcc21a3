-- What came and went over a connection, and what always holds of that.
use Rattle.std.specs.Prelude.{◌≡◌, ℕ, ◌≤◌, ◌⊎◌, Bool, true, false, List, [], ◌∷◌, ◌++◌, length, max, take, drop, Some, IsTrue, IsFalse, Option, None, if◌then◌else◌, ◌==◌}
use Rattle.httparse.specs.Grammar.{RequestHead}
use Rattle.http1.specs.declared.conn.Limits.{Limits}
use Rattle.http1.specs.declared.error.WriteError.{WriteError}
use Rattle.http1.specs.declared.framing.Framing.{Framing}
use Rattle.http1.specs.Message as Wire
use Rattle.http1.specs.Message.{AcceptsRequest, ReadsRequests}
use Rattle.http1.specs.Server.{response_refusal}
use Rattle.http1_typed.specs.Parts.{reason_of}
use Rattle.http_server.specs.Encoding.{answering, size_of}
use Rattle.http_server.specs.Exchange.{ExpectsContinue, continue_text, IsInterim}
use Rattle.http_server.specs.History.{NextIs, HasTooManyFields}
use Rattle.http_server.specs.Response.{fields_of}
use Rattle.dav_wire.specs.declared.answer.Rejection.{Rejection}
use Rattle.dav_wire.specs.declared.state.Config.{Config}
use Rattle.dav_wire.specs.declared.state.State.{State}
use Rattle.dav_wire.specs.declared.state.State.TheVariants.{Open, Closing, Aborted}
use Rattle.dav_wire.specs.declared.state.Reason.TheVariants.{Asked, EndOfInput, Refused, Rejected, Unsendable}
use Rattle.dav_wire.specs.Exchange.{Call, Judgement, Judging, Answering, Act, Chain, ReadsCall, Exchanges, Serves, calls_in, judgements_in, passed}
use Rattle.dav_wire.specs.Refusals.{ClosesRequest, IsRefusalText, IsRefusedFor, IsStatedWithin, closing_text, rejection_status}

pub record History : Type 0 where
  pub state : State
  -- all that came, whether it ended, and what of it wasn't read yet
  pub received : List ℕ
  pub ended : Bool
  pub unread : List ℕ
  -- each request that was handed over, with its response
  pub calls : List Call
  -- each head that was judged, with its verdict
  pub judgements : List Judgement
  -- all that was sent, and what waits for that
  pub sent : List ℕ
  pub pending : List ℕ
  -- of the request that is being read: how long its head states its body to be, or the chunks that
  -- came of it, and what of that body was taken
  pub stated : ℕ
  pub body : List ℕ

-- For so many bytes of the body that is being read there has to be room: for as many as its head
-- or its chunks state, and for those that came.
abbrev pub held : History → ℕ
held h = max h.stated (length h.body)

-- all that was written: what was sent, and what waits
abbrev pub written : History → List ℕ
written h = h.sent ++ h.pending

-- the stream begins with the head of a request
pub record BeginsRequest (limits : Limits) (stream : List ℕ) : Type 0 where
  pub head : RequestHead
  pub framing : Framing
  pub after : List ℕ
  pub accepts : AcceptsRequest limits stream head framing after

-- the stream begins with these bytes, which are the head of a request
pub record BeginsWithHead (limits : Limits) (stream bytes : List ℕ) : Type 0 where
  pub head : RequestHead
  pub framing : Framing
  pub after : List ℕ
  pub accepts : AcceptsRequest limits stream head framing after
  pub text : stream ≡ bytes ++ after

-- The heads that were judged are those of the requests that were handed over, the very bytes of each
-- once and in that order. Each of these may go on.
abbrev pub AreJudged : History → Type 0
AreJudged h = h.judgements ≡ passed h.calls

-- after them the head that begins the stream was judged, with this verdict
abbrev pub IsNextJudged : Limits → History → Option Rejection → List ℕ → Type 0
IsNextJudged limits h verdict stream =
    (bytes : List ℕ) × BeginsWithHead limits stream bytes
    × (h.judgements ≡ passed h.calls ++ (bytes, verdict) ∷ [])

-- and the request that begins the stream may go on, or wasn't judged yet
abbrev pub MayGoOn : Limits → History → List ℕ → Type 0
MayGoOn limits h stream = AreJudged h ⊎ IsNextJudged limits h None stream

-- There is something to do: a head came whole, or the input ended, or no request can come of what came.
abbrev pub HasWork : Limits → Bool → List ℕ → Type 0
HasWork limits ended stream = BeginsRequest limits stream ⊎ (IsTrue ended ⊎ NextIs limits stream HasTooManyFields)

-- the answerer was called once more, for the request that begins the stream
pub record IsCalledFor (config : Config) (calls answered : List Call) (stream : List ℕ) : Type 0 where
  pub call : Call
  pub calls_are : calls ≡ answered ++ call ∷ []
  pub rest : List ℕ
  pub message : Wire.Request
  pub request : ReadsCall config stream message call.0 rest

-- it was called once more, or not
abbrev pub MayBeCalledFor : Config → List Call → List Call → List ℕ → Type 0
MayBeCalledFor config calls answered stream = (calls ≡ answered) ⊎ IsCalledFor config calls answered stream

-- the response of the last call can't be sent, for this reason
pub record IsUnsendable (config : Config) (e : WriteError) (calls answered : List Call) (stream : List ℕ) : Type 0 where
  pub last : IsCalledFor config calls answered stream
  pub refused : response_refusal (answering config.limits last.message.head last.request.reads.framing)
      last.call.1.status (reason_of last.call.1.status) (size_of last.call.1) (fields_of last.call.1) ≡ Some e

-- one exchange more, in which the request or the response asked to close
pub record IsLast (config : Config) (h : History) (answered : List Call) (text rest : List ℕ) : Type 0 where
  pub call : Call
  pub calls_are : h.calls ≡ answered ++ call ∷ []
  pub last : List ℕ
  pub after : List ℕ
  pub exchange : Exchanges config false rest call last after
  pub written_is : written h ≡ text ++ last
  pub judged : AreJudged h

-- the input ended after the last of these requests
pub record IsAtEnd (h : History) (answered : List Call) (text rest : List ℕ) : Type 0 where
  pub calls_are : h.calls ≡ answered
  pub ended : IsTrue h.ended
  pub whole : rest ≡ []
  pub written_is : written h ≡ text
  pub judged : AreJudged h

-- Memory ran out or the answerer stopped, where there was something to do. What waited is lost.
pub record IsAborted (config : Config) (h : History) (answered : List Call) (text rest : List ℕ) : Type 0 where
  pub had_work : HasWork config.limits h.ended rest
  pub calls : MayBeCalledFor config h.calls answered rest
  pub dropped : h.pending ≡ []
  pub lost : List ℕ
  pub sent : h.sent ++ lost ≡ text
  pub judged :
      AreJudged h ⊎ ((verdict : Option Rejection) × IsNextJudged config.limits h verdict rest)

-- The request that begins the stream isn't taken, as the answerer judged of the very bytes of its
-- head before anything was written for it. Nothing of it was handed over.
pub record IsRejected (why : Rejection) (config : Config) (h : History) (answered : List Call)
    (text interim rest : List ℕ) : Type 0 where
  pub calls_are : h.calls ≡ answered
  pub judged : IsNextJudged config.limits h (Some why) rest
  pub silent : interim ≡ []
  pub last : List ℕ
  pub closes : ClosesRequest config.limits rest (rejection_status why) last
  pub written_is : written h ≡ text ++ last

-- What each state says, after the calls that were answered by the text and the interim response to the request that begins
-- the rest of the stream.
abbrev pub Stands : State → Config → History → List Call → List ℕ → List ℕ → List ℕ → Type 0
Stands Open config h answered text interim rest =
    (h.calls ≡ answered) × (written h ≡ text ++ interim) × MayGoOn config.limits h rest
Stands (Closing Asked) config h answered text interim rest = IsLast config h answered text rest
Stands (Closing EndOfInput) config h answered text interim rest = IsAtEnd h answered text rest
Stands (Closing (Refused why)) config h answered text interim rest =
    (h.calls ≡ answered) × IsRefusedFor why config h.ended rest
    × ((last : List ℕ) × IsRefusalText config.limits rest why last × (written h ≡ (text ++ interim) ++ last))
    × MayGoOn config.limits h rest
Stands (Closing (Rejected why)) config h answered text interim rest =
    IsRejected why config h answered text interim rest
Stands (Closing (Unsendable e)) config h answered text interim rest =
    IsUnsendable config e h.calls answered rest × (written h ≡ (text ++ interim) ++ closing_text true 500)
    × AreJudged h
Stands Aborted config h answered text interim rest = IsAborted config h answered (text ++ interim) rest

-- At any time what came begins with the requests of the first calls, what was written begins with their answers, in
-- that order, and the state says what follows.
pub record IsServed (config : Config) (h : History) : Type 0 where
  pub answered : List Call
  pub text : List ℕ
  pub rest : List ℕ
  pub serves : Serves config h.received answered text rest
  pub interim : List ℕ
  pub is_interim : IsInterim config.limits rest interim
  pub stands : Stands h.state config h answered text interim rest

-- each whole request that came was handed over
abbrev pub AreAllCalled : Limits → History → Type 0
AreAllCalled limits h =
    (ms : List Wire.Request) (rest : List ℕ) → ReadsRequests limits h.received ms rest → length ms ≤ length h.calls

-- what came after as many requests as were handed over is such
abbrev pub RestIs : Limits → History → (List ℕ → Type 0) → Type 0
RestIs limits h P =
    (ms : List Wire.Request) (rest : List ℕ) → ReadsRequests limits h.received ms rest → length ms ≡ length h.calls → P rest

-- where the request that begins there waits for `100 Continue`, what was written ends in that
abbrev pub IsInvited : Limits → History → Type 0
IsInvited limits h =
    RestIs limits h (λ rest. ExpectsContinue limits rest → ∥ ((front : List ℕ) × (written h ≡ front ++ continue_text)) ∥₁)

-- that request states no longer body than it may have, by its head or by its chunks as far as they
-- came (one that does was refused), and what it states is what is held for it
abbrev pub IsNextWithin : Config → History → Type 0
IsNextWithin config h = RestIs config.limits h (IsStatedWithin config h.stated)

-- nothing is held where no head of a request came whole
abbrev pub IsNothingHeld : Limits → History → Type 0
IsNothingHeld limits h = RestIs limits h (λ rest. (BeginsRequest limits rest → ⊥) → held h ≡ 0)

-- the head of that request was judged, once it came whole
abbrev pub IsNextHeadJudged : Limits → History → Type 0
IsNextHeadJudged limits h =
    RestIs limits h (λ rest. (bytes : List ℕ) → BeginsWithHead limits rest bytes
    → ∥ (h.judgements ≡ passed h.calls ++ (bytes, None) ∷ []) ∥₁)

-- an open connection with room in its output waits for input, and for that alone
abbrev pub Rests : Config → History → Type 0
Rests config h =
    h.state ≡ Open → length h.pending ≤ config.max_pending
    → IsFalse h.ended × AreAllCalled config.limits h × IsInvited config.limits h × IsNextWithin config h
    × IsNextHeadJudged config.limits h × IsNothingHeld config.limits h

-- nothing was taken and nothing was sent
abbrev pub IsQuiet : History → History → Type 0
IsQuiet old new = (new.received ≡ old.received) × (new.ended ≡ old.ended) × (new.sent ≡ old.sent)

-- these bytes came, or the end where there are none; after the end nothing is taken
abbrev pub after_taken : History → List ℕ → History
after_taken h more =
    if h.ended then h
    else record h { received = h.received ++ more; unread = h.unread ++ more; ended = length more == 0 }

-- so many bytes were sent
abbrev pub after_sent : History → ℕ → History
after_sent h count = record h { sent = h.sent ++ take count h.pending; pending = drop count h.pending }

-- nothing came yet
abbrev pub new_history : History
new_history = record {
  state = Open;
  received = [];
  ended = false;
  unread = [];
  calls = [];
  judgements = [];
  sent = [];
  pending = [];
  stated = 0;
  body = [];
}

-- What the answerer did, from one state to the other, are the judgements and the calls that were
-- added to the history.
abbrev pub Acts : {S : Type 0} → Judging S → Answering S → S → S → History → History → Type 0
Acts judges answers first last old new =
    (acts : List Act) × (new.calls ≡ old.calls ++ calls_in acts)
    × (new.judgements ≡ old.judgements ++ judgements_in acts) × Chain judges answers first acts last
