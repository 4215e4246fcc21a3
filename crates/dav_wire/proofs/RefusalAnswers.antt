-- The connection's own responses are read by the client.
use Rattle.std.proofs.Common.{◌≡◌, ℕ, ◌⊎◌, Bool, true, false, cond, [], None, Ok, refl, sym, ap, ◌∙◌, subst, arith, inl, inr}
use Rattle.std.specs.Fmt.{digits}
use Rattle.httparse.specs.Grammar.{trim_ows, is_token_byte}
use Rattle.http1.specs.declared.conn.Limits.{Limits}
use Rattle.http1.specs.declared.error.ReadError.{ReadError}
use Rattle.http1.specs.declared.error.ReadError.TheVariants as read
use Rattle.http1.specs.declared.framing.Framing.{Framing}
use Rattle.http1.specs.declared.framing.Framing.TheVariants as Framed
use Rattle.http1.specs.declared.framing.MethodKind.{MethodKind}
use Rattle.http1.specs.declared.framing.MethodKind.TheVariants as Method
use Rattle.http1.specs.Body.{ReadsBody, body_of}
use Rattle.http1.specs.Fields.{elements, known_fields}
use Rattle.http1.specs.Framing.{response_framing}
use Rattle.http1.specs.Head.{are_headers, is_status_line, head_refusal, response_head}
use Rattle.http1.specs.Message.{known_of}
use Rattle.http1.specs.ReadError.{status_of, is_too_large}
use Rattle.http1.specs.Server.{is_head}
use Rattle.http1.specs.Text.{eq_ignore_case}
use Rattle.http1.proofs.HeadRoundTrip.{response_reads_back}
use Rattle.http1_typed.specs.Parts.{reason_of}
use Rattle.dav_wire.specs.declared.answer.Rejection.{Rejection}
use Rattle.dav_wire.specs.declared.answer.Rejection.TheVariants.{BadRequest, Unauthorized, Forbidden, UnsupportedMediaType, Misdirected, TooManyRequests, NotImplemented, Unavailable}
use Rattle.dav_wire.specs.declared.state.Refusal.{Refusal}
use Rattle.dav_wire.specs.declared.state.Refusal.TheVariants.{Truncated, Unreadable, BodyTooLong, UnknownCoding, NoRoom}
use Rattle.dav_wire.specs.Laws.{IsReadAsLast, RefusalsAreRead}
use Rattle.dav_wire.specs.Refusals.{closing_body, closing_fields, refusal_status, rejection_status}

-- how the client frames the body, which are the words of the status, or none
abbrev IsFramed : MethodKind → ℕ → Type 0
IsFramed method status =
    (f : Framing) × (response_framing method status 1 (known_fields (closing_fields status)) ≡ Ok f)
    × ((limits : Limits) → ReadsBody limits f (closing_body (is_head method) status) (body_of (closing_body (is_head method) status) []) [])

abbrev Closes : ℕ → Type 0
Closes status = (known_fields (closing_fields status)).close ≡ true

read_back : (method : MethodKind) (status : ℕ) → head_refusal (is_status_line 1 status (reason_of status)) (closing_fields status) ≡ None
    → Closes status → IsFramed method status → IsReadAsLast method status
read_back method status valid closes framed =
    let body = closing_body (is_head method) status in
    let back = response_reads_back 1 status (reason_of status) (closing_fields status) body valid in
    let head = response_head 1 status (reason_of status) (closing_fields status) in
    let known : known_of head.fields ≡ known_fields (closing_fields status) = ap known_fields back.fields in
    record {
      message = record { head = head; body = body_of body [] };
      reads = λ limits room. record {
        framing = framed.0;
        after_head = body;
        head = record {
          reads = back.reads;
          strict = (room, back.strict);
          status = omega (arith, back.in_range, back.code);
          framed = (λ i. response_framing method (back.code i) 1 (known i)) ∙ framed.1;
        };
        body = framed.2 limits;
      };
      status_is = back.code;
      closes = ap (λ k. k.close) known ∙ closes;
      content = refl;
    }

closes_400 : Closes 400
unfolding known_fields elements eq_ignore_case trim_ows digits
closes_400 = refl

framed_400 : (method : MethodKind) → IsFramed method 400
unfolding known_fields elements eq_ignore_case trim_ows digits
framed_400 Method.Head = (Framed.NoBody, refl, λ _. (refl, refl, refl))
framed_400 Method.Connect = (Framed.Length 0, refl, λ _. (refl, refl, refl))
framed_400 Method.Other = (Framed.Length 0, refl, λ _. (refl, refl, refl))

read_400 : (method : MethodKind) → IsReadAsLast method 400
unfolding are_headers is_token_byte digits
read_400 method = read_back method 400 refl closes_400 (framed_400 method)

closes_413 : Closes 413
unfolding known_fields elements eq_ignore_case trim_ows digits
closes_413 = refl

framed_413 : (method : MethodKind) → IsFramed method 413
unfolding known_fields elements eq_ignore_case trim_ows digits
framed_413 Method.Head = (Framed.NoBody, refl, λ _. (refl, refl, refl))
framed_413 Method.Connect = (Framed.Length 39, refl, λ _. (refl, refl, refl))
framed_413 Method.Other = (Framed.Length 39, refl, λ _. (refl, refl, refl))

read_413 : (method : MethodKind) → IsReadAsLast method 413
unfolding are_headers is_token_byte digits
read_413 method = read_back method 413 refl closes_413 (framed_413 method)

closes_414 : Closes 414
unfolding known_fields elements eq_ignore_case trim_ows digits
closes_414 = refl

framed_414 : (method : MethodKind) → IsFramed method 414
unfolding known_fields elements eq_ignore_case trim_ows digits
framed_414 Method.Head = (Framed.NoBody, refl, λ _. (refl, refl, refl))
framed_414 Method.Connect = (Framed.Length 0, refl, λ _. (refl, refl, refl))
framed_414 Method.Other = (Framed.Length 0, refl, λ _. (refl, refl, refl))

read_414 : (method : MethodKind) → IsReadAsLast method 414
unfolding are_headers is_token_byte digits
read_414 method = read_back method 414 refl closes_414 (framed_414 method)

closes_431 : Closes 431
unfolding known_fields elements eq_ignore_case trim_ows digits
closes_431 = refl

framed_431 : (method : MethodKind) → IsFramed method 431
unfolding known_fields elements eq_ignore_case trim_ows digits
framed_431 Method.Head = (Framed.NoBody, refl, λ _. (refl, refl, refl))
framed_431 Method.Connect = (Framed.Length 0, refl, λ _. (refl, refl, refl))
framed_431 Method.Other = (Framed.Length 0, refl, λ _. (refl, refl, refl))

read_431 : (method : MethodKind) → IsReadAsLast method 431
unfolding are_headers is_token_byte digits
read_431 method = read_back method 431 refl closes_431 (framed_431 method)

closes_500 : Closes 500
unfolding known_fields elements eq_ignore_case trim_ows digits
closes_500 = refl

framed_500 : (method : MethodKind) → IsFramed method 500
unfolding known_fields elements eq_ignore_case trim_ows digits
framed_500 Method.Head = (Framed.NoBody, refl, λ _. (refl, refl, refl))
framed_500 Method.Connect = (Framed.Length 0, refl, λ _. (refl, refl, refl))
framed_500 Method.Other = (Framed.Length 0, refl, λ _. (refl, refl, refl))

read_500 : (method : MethodKind) → IsReadAsLast method 500
unfolding are_headers is_token_byte digits
read_500 method = read_back method 500 refl closes_500 (framed_500 method)

closes_501 : Closes 501
unfolding known_fields elements eq_ignore_case trim_ows digits
closes_501 = refl

framed_501 : (method : MethodKind) → IsFramed method 501
unfolding known_fields elements eq_ignore_case trim_ows digits
framed_501 Method.Head = (Framed.NoBody, refl, λ _. (refl, refl, refl))
framed_501 Method.Connect = (Framed.Length 0, refl, λ _. (refl, refl, refl))
framed_501 Method.Other = (Framed.Length 0, refl, λ _. (refl, refl, refl))

read_501 : (method : MethodKind) → IsReadAsLast method 501
unfolding are_headers is_token_byte digits
read_501 method = read_back method 501 refl closes_501 (framed_501 method)

closes_401 : Closes 401
unfolding known_fields elements eq_ignore_case trim_ows digits
closes_401 = refl

framed_401 : (method : MethodKind) → IsFramed method 401
unfolding known_fields elements eq_ignore_case trim_ows digits
framed_401 Method.Head = (Framed.NoBody, refl, λ _. (refl, refl, refl))
framed_401 Method.Connect = (Framed.Length 48, refl, λ _. (refl, refl, refl))
framed_401 Method.Other = (Framed.Length 48, refl, λ _. (refl, refl, refl))

read_401 : (method : MethodKind) → IsReadAsLast method 401
unfolding are_headers is_token_byte digits
read_401 method = read_back method 401 refl closes_401 (framed_401 method)

closes_403 : Closes 403
unfolding known_fields elements eq_ignore_case trim_ows digits
closes_403 = refl

framed_403 : (method : MethodKind) → IsFramed method 403
unfolding known_fields elements eq_ignore_case trim_ows digits
framed_403 Method.Head = (Framed.NoBody, refl, λ _. (refl, refl, refl))
framed_403 Method.Connect = (Framed.Length 40, refl, λ _. (refl, refl, refl))
framed_403 Method.Other = (Framed.Length 40, refl, λ _. (refl, refl, refl))

read_403 : (method : MethodKind) → IsReadAsLast method 403
unfolding are_headers is_token_byte digits
read_403 method = read_back method 403 refl closes_403 (framed_403 method)

closes_415 : Closes 415
unfolding known_fields elements eq_ignore_case trim_ows digits
closes_415 = refl

framed_415 : (method : MethodKind) → IsFramed method 415
unfolding known_fields elements eq_ignore_case trim_ows digits
framed_415 Method.Head = (Framed.NoBody, refl, λ _. (refl, refl, refl))
framed_415 Method.Connect = (Framed.Length 0, refl, λ _. (refl, refl, refl))
framed_415 Method.Other = (Framed.Length 0, refl, λ _. (refl, refl, refl))

read_415 : (method : MethodKind) → IsReadAsLast method 415
unfolding are_headers is_token_byte digits
read_415 method = read_back method 415 refl closes_415 (framed_415 method)

closes_421 : Closes 421
unfolding known_fields elements eq_ignore_case trim_ows digits
closes_421 = refl

framed_421 : (method : MethodKind) → IsFramed method 421
unfolding known_fields elements eq_ignore_case trim_ows digits
framed_421 Method.Head = (Framed.NoBody, refl, λ _. (refl, refl, refl))
framed_421 Method.Connect = (Framed.Length 50, refl, λ _. (refl, refl, refl))
framed_421 Method.Other = (Framed.Length 50, refl, λ _. (refl, refl, refl))

read_421 : (method : MethodKind) → IsReadAsLast method 421
unfolding are_headers is_token_byte digits
read_421 method = read_back method 421 refl closes_421 (framed_421 method)

closes_429 : Closes 429
unfolding known_fields elements eq_ignore_case trim_ows digits
closes_429 = refl

framed_429 : (method : MethodKind) → IsFramed method 429
unfolding known_fields elements eq_ignore_case trim_ows digits
framed_429 Method.Head = (Framed.NoBody, refl, λ _. (refl, refl, refl))
framed_429 Method.Connect = (Framed.Length 43, refl, λ _. (refl, refl, refl))
framed_429 Method.Other = (Framed.Length 43, refl, λ _. (refl, refl, refl))

read_429 : (method : MethodKind) → IsReadAsLast method 429
unfolding are_headers is_token_byte digits
read_429 method = read_back method 429 refl closes_429 (framed_429 method)

closes_503 : Closes 503
unfolding known_fields elements eq_ignore_case trim_ows digits
closes_503 = refl

framed_503 : (method : MethodKind) → IsFramed method 503
unfolding known_fields elements eq_ignore_case trim_ows digits
framed_503 Method.Head = (Framed.NoBody, refl, λ _. (refl, refl, refl))
framed_503 Method.Connect = (Framed.Length 41, refl, λ _. (refl, refl, refl))
framed_503 Method.Other = (Framed.Length 41, refl, λ _. (refl, refl, refl))

read_503 : (method : MethodKind) → IsReadAsLast method 503
unfolding are_headers is_token_byte digits
read_503 method = read_back method 503 refl closes_503 (framed_503 method)

-- a status that `http1` gives an error is one of three
abbrev IsReadStatus : ℕ → Type 0
IsReadStatus status = (status ≡ 400) ⊎ ((status ≡ 414) ⊎ (status ≡ 431))

by_size : (t : Bool) (status : ℕ) → status ≡ cond t 431 400 → IsReadStatus status
by_size true status is = inr (inr is)
by_size false status is = inl is

read_status : (e : ReadError) → IsReadStatus (status_of e)
read_status (read.Parse error) = by_size (is_too_large (read.Parse error)) _ refl
read_status read.BareLineFeed = inl refl
read_status read.TooLarge = inr (inr refl)
read_status read.UriTooLong = inr (inl refl)
read_status read.Host = inl refl
read_status (read.Framing error) = inl refl
read_status (read.Chunk error) = inl refl
read_status read.UnexpectedEof = inl refl
read_status read.UnexpectedResponse = inl refl

refusal_is_read : (method : MethodKind) (why : Refusal) → IsReadAsLast method (refusal_status why)
refusal_is_read method Truncated = read_400 method
refusal_is_read method (Unreadable e) = elim (read_status e) [
  | inl bad ↦ subst (IsReadAsLast method) (sym bad) (read_400 method)
  | inr other ↦ elim other [
    | inl long ↦ subst (IsReadAsLast method) (sym long) (read_414 method)
    | inr large ↦ subst (IsReadAsLast method) (sym large) (read_431 method)
  ]
]
refusal_is_read method BodyTooLong = read_413 method
refusal_is_read method UnknownCoding = read_501 method
refusal_is_read method (NoRoom room) = read_503 method

rejection_is_read : (method : MethodKind) (why : Rejection) → IsReadAsLast method (rejection_status why)
rejection_is_read method BadRequest = read_400 method
rejection_is_read method Unauthorized = read_401 method
rejection_is_read method Forbidden = read_403 method
rejection_is_read method UnsupportedMediaType = read_415 method
rejection_is_read method Misdirected = read_421 method
rejection_is_read method TooManyRequests = read_429 method
rejection_is_read method NotImplemented = read_501 method
rejection_is_read method Unavailable = read_503 method

pub refusals_are_read : RefusalsAreRead
refusals_are_read method = (refusal_is_read method, rejection_is_read method, read_500 method)
