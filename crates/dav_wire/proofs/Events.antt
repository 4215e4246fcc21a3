-- The events of the reader: what each finds in the stream, and where it leaves the reader.
use Rattle.std.proofs.Common.{◌≡◌, ◌≢◌, ℕ, ◌+◌, ◌*◌, ◌<◌, ◌≤◌, Bool, true, false, cond, ◌==◌, List, [], ◌∷◌, ◌++◌, length, take, drop, None, refl, sym, ap, ◌∙◌, subst, subst₂, arith, append-nil, length-append, length-drop, take-append-drop, ◌⊎◌, inl, inr}
use Rattle.std.proofs.Math.Bool.{and-false}
use Rattle.std.proofs.Math.ListN.{drop_of_length-le}
use Rattle.std.proofs.lemmas.Bool.{and_right}
use Rattle.std.proofs.lemmas.List.{append_cancel_right, length-map, take_all}
use Rattle.httparse.specs.declared.spans.Span.{Span}
use Rattle.httparse.specs.declared.spans.HeaderSpan.{HeaderSpan}
use Rattle.httparse.specs.declared.spans.RequestSpans.{RequestSpans}
use Rattle.httparse.specs.Grammar.{RequestHead}
use Rattle.httparse.specs.Spans.{span_bytes, header_bytes, name_and_value}
use Rattle.http1.specs.declared.conn.Event.{Event}
use Rattle.http1.specs.declared.conn.Event.TheVariants as event
use Rattle.http1.specs.declared.conn.Progress.{Progress}
use Rattle.http1.specs.declared.conn.Reading.TheVariants as Reads
use Rattle.http1.specs.declared.error.ReadError.{ReadError}
use Rattle.http1.specs.declared.server.Server.{Server}
use Rattle.http1.specs.Body.{body_of}
use Rattle.http1.specs.declared.conn.Limits.{Limits}
use Rattle.http1.specs.declared.framing.Framing.{Framing}
use Rattle.http1.specs.declared.framing.Framing.TheVariants as Framed
use Rattle.http1.specs.Conn.{ReadsPiece, unread_size}
use Rattle.http1.specs.Decoder.{AwaitsTrailers, with_front, decoder_for}
use Rattle.http1.specs.Framing.{method_kind}
use Rattle.http1.specs.Message.{known_of, AcceptsRequest}
use Rattle.http1.specs.Server.{new_server, request_of, is_head, reading, has_codings, expects_continue, after_piece, TakesHead, ReadsHead, ReadsInBody, ReadsAt, ServerReads, ServerRefuses}
use Rattle.http_server.specs.Exchange.{ExpectsContinue, continue_text}
use Rattle.http_server.specs.History.{NextIs, HasTooManyFields, HasUnknownCoding, IsReadError}
use Rattle.http_server.specs.Machine.{in_body, Leads}
use Rattle.http1.proofs.DecoderLemmas.{decoder_for-live}
use Rattle.http_server.proofs.MachineLemmas.{head_is_some}
use Rattle.http_server.proofs.StreamLemmas.{AcceptsRequest-append, accepts_unique, has_an_end, Leads-start}
use Rattle.dav_wire.specs.declared.answer.Asked.{Asked}
use Rattle.dav_wire.specs.Exchange.{most_of}
use Rattle.dav_wire.specs.History.{BeginsWithHead, HasWork}
use Rattle.dav_wire.specs.declared.spot.Spot.TheVariants.{Size}
use Rattle.dav_wire.specs.declared.state.Refusal.{Refusal}
use Rattle.dav_wire.specs.declared.state.Refusal.TheVariants.{Truncated, Unreadable, BodyTooLong, UnknownCoding, NoRoom}
use Rattle.dav_wire.specs.Refusals.{IsRefusedFor}
use Rattle.dav_wire.specs.Spots.{chunk_left, tallied, to_come}
use Rattle.dav_wire.specs.Place.{Place, Begun, invitation, IsBetween, StandsAt, Standing, IsExcess, IsKnownFor, IsStarved, HasHead, HasNone, HasPiece, IsTallied, PausesAt, noted, paused, tally, HasEnd, IsWhole, IsHeadRead, judged_at, known_len, work}
use Rattle.dav_wire.proofs.Bodies.{ends_first, Begun-step, begun_stated, exceeds, follows_first, tallies, step_told, begun_some, finishes, ends_request, begun_invited, is_unfinished}

-- ---- the head of a request that was begun

-- it is the only one that begins the stream
its_head : {p : Place} {stream interim bytes : List ℕ} (x : Begun p stream interim) → BeginsWithHead p.config.limits stream bytes
    → p.head ≡ bytes
its_head {p} {stream} {interim} {bytes} x b =
    let after = (accepts_unique b.accepts x.accepts).2 in
    append_cancel_right p.head bytes x.after (sym x.text ∙ b.text ∙ ap (λ (t : List ℕ). bytes ++ t) after)

-- and it was judged
its_judgement : (p : Place) {stream interim : List ℕ} → p.within ≡ true → Begun p stream interim → (bytes : List ℕ)
    → BeginsWithHead p.config.limits stream bytes → judged_at p ≡ (bytes, None) ∷ []
its_judgement p within x bytes b =
    ap (λ w. cond w ((p.head, None) ∷ []) []) within ∙ ap (λ (t : List ℕ). (t, None) ∷ []) (its_head x b)

-- ---- events

module _ (p : Place) (stream interim : List ℕ) (spans : List HeaderSpan) (new : Server) (read : Progress RequestSpans)
    (did : ServerReads p.server p.unread spans new read) where
  abbrev with_server : Place
  with_server = record p { server = new }

  abbrev after_read : Place
  after_read = record p { server = new; unread = drop read.consumed p.unread }

  at_start : IsBetween p stream interim → ReadsHead (new_server p.config.limits) stream spans new read.consumed read.event
  at_start x =
      subst (λ (u : List ℕ). ReadsHead (new_server p.config.limits) u spans new read.consumed read.event) x.unread
      (subst (λ s. ServerReads s p.unread spans new read) x.server did)

  in_its_body : (x : Begun p stream interim) → ReadsInBody x.decoder p.server p.unread spans new read
  in_its_body x = subst (λ r. ReadsAt r p.server p.unread spans new read) (ap reading x.server) did

  head_at : (b : Bool) (r : RequestSpans) → p.within ≡ b → StandsAt b p stream interim → read.event ≡ event.Head r
      → length spans ≤ 64 → HasHead with_server spans r stream interim
  head_at false r within x is few =
      let takes = subst (ReadsHead (new_server p.config.limits) stream spans new read.consumed) is (at_start x) in
      record {
        unread = x.unread;
        silent = x.silent;
        within = within;
        body = x.body;
        takes = subst (λ n. TakesHead (new_server p.config.limits) stream spans new n r) takes.consumed takes;
        few = few;
      }
  head_at true r within x is few =
      let found = in_its_body x.0 in
      absurd (subst (λ e. ReadsPiece x.0.decoder p.unread spans found.0 read.consumed e) is found.1)

  pub head_found : (r : RequestSpans) → Standing p stream interim → read.event ≡ event.Head r → length spans ≤ 64
      → HasHead with_server spans r stream interim
  head_found r x is few = head_at p.within r refl x is few

  piece_at : (b : Bool) (s : Span) → p.within ≡ b → StandsAt b p stream interim → read.event ≡ event.Data s
      → HasPiece with_server s stream interim
  piece_at false s within x is =
      absurd (subst (ReadsHead (new_server p.config.limits) stream spans new read.consumed) is (at_start x))
  piece_at true s within x is =
      let found = in_its_body x.0 in
      let piece = subst (λ e. ReadsPiece x.0.decoder p.unread spans found.0 read.consumed e) is found.1 in
      record {
        within = within;
        some = piece.3;
        fits = x.1;
        stated = x.2;
        onward = Begun-step x.0 piece.0 s.end _ new piece.4 (rw piece.1 at found.2);
      }

  pub piece_found : (s : Span) → Standing p stream interim → read.event ≡ event.Data s → HasPiece with_server s stream interim
  piece_found s x is = piece_at p.within s refl x is

  end_at : (b : Bool) (count : ℕ) → p.within ≡ b → StandsAt b p stream interim → read.event ≡ event.End count
      → HasEnd after_read stream
  end_at false count within x is =
      absurd (subst (ReadsHead (new_server p.config.limits) stream spans new read.consumed) is (at_start x))
  end_at true count within x is =
      let found = in_its_body x.0 in
      let ends = subst (λ e. ReadsPiece x.0.decoder p.unread spans found.0 read.consumed e) is found.1 in
      let b = x.0 in
      let tail = body_of [] ends.1.trailers in
      let whole = ends_request b tail (drop read.consumed p.unread) (ends.1.completes []) in
      record {
        within = within;
        message = record { head = b.head; body = with_front p.body tail };
        reads = record {
          framing = b.framing;
          after_head = b.after;
          head = b.accepts;
          body = whole;
        };
        head = b.text;
        body = sym (append-nil p.body);
        plain = b.plain;
        fits = omega (arith, x.1, b.most, ap length (append-nil p.body));
        few = b.few;
        kind = b.kind;
        server =
            found.2 ∙ (λ i. after_piece (b.server i) p.unread (ends.0 i))
            ∙ ap (λ t. record (in_body p.config.limits b.head b.framing b.decoder t) { reading = Reads.Done })
            (and_right b.waits _ (and-false (length p.unread == 0)));
      }

  pub end_found : (count : ℕ) → Standing p stream interim → read.event ≡ event.End count → HasEnd after_read stream
  end_found count x is = end_at p.within count refl x is

  waits_at : (b : Bool) → p.within ≡ b → StandsAt b p stream interim → read.event ≡ event.NeedMore
      → HasNone with_server read.consumed stream interim
  waits_at false within x is =
      let none = subst (ReadsHead (new_server p.config.limits) stream spans new read.consumed) is (at_start x) in
      record {
        at = subst (λ b. PausesAt b with_server read.consumed stream interim) (sym within) (
          record {
            server = none.1;
            unread = ap (λ n. drop n p.unread) none.0 ∙ x.unread;
            body = x.body;
            stated = x.stated;
            silent = x.silent;
          },
          λ begins. none.2 begins.head begins.after begins.accepts.reads,
        );
        unfinished = λ m rest z. none.2 m.head z.after_head z.head.reads;
        invited = λ waits. absurd (none.2 waits.0 waits.2 waits.3.reads);
        free = λ _. (x.stated, x.body);
        judged = λ bytes b. absurd (none.2 b.head b.after b.accepts.reads);
      }
  waits_at true within x is =
      let found = in_its_body x.0 in
      let starves = subst (λ e. ReadsPiece x.0.decoder p.unread spans found.0 read.consumed e) is found.1 in
      let next : Begun (record (paused with_server read.consumed) { body = p.body ++ [] }) stream interim =
      Begun-step x.0 starves.0 read.consumed [] new starves.2.continues (rw starves.1 at found.2) in
      let over : (drop read.consumed p.unread ≡ []) ⊎ AwaitsTrailers starves.0 (length (drop read.consumed p.unread)) =
      elim starves.2.drained [
        | inl all ↦ inl (drop_of_length-le p.unread (omega (arith, all)))
        | inr awaits ↦ inr awaits
      ] in
      let whole = step_told x.0 starves.0 read.consumed new starves.2.continues (rw starves.1 at found.2) over in
      record {
        at = subst (λ b. PausesAt b with_server read.consumed stream interim) (sym within)
            (rw append-nil at next, x.1, x.2, whole);
        unfinished = is_unfinished x.0 (starves.2.unfinished x.0.ends);
        invited = begun_invited x.0;
        judged = its_judgement p within x.0;
        free = λ other. absurd (other (record { head = x.0.head; framing = x.0.framing; after = x.0.after; accepts = x.0.accepts }));
      }

  -- what no event of a request is
  abbrev IsOther : Event RequestSpans → Type 0
  IsOther e = ((r : RequestSpans) → e ≢ event.Head r) × ((s : Span) → e ≢ event.Data s) × ((count : ℕ) → e ≢ event.End count)

  needs_more : (b : Bool) (e : Event RequestSpans) → StandsAt b p stream interim → read.event ≡ e → IsOther e → e ≡ event.NeedMore
  needs_more b event.NeedMore x is other = refl
  needs_more b (event.Head r) x is other = absurd (other.0 r refl)
  needs_more b (event.Data s) x is other = absurd (other.1 s refl)
  needs_more b (event.End count) x is other = absurd (other.2 count refl)
  needs_more false (event.Informational r) x is other = absurd (subst (ReadsHead (new_server p.config.limits) stream spans new read.consumed) is (at_start x))
  needs_more false event.Paused x is other = absurd (subst (ReadsHead (new_server p.config.limits) stream spans new read.consumed) is (at_start x))
  needs_more false event.Upgraded x is other = absurd (subst (ReadsHead (new_server p.config.limits) stream spans new read.consumed) is (at_start x))
  needs_more false event.Closed x is other = absurd (subst (ReadsHead (new_server p.config.limits) stream spans new read.consumed) is (at_start x))
  needs_more true (event.Informational r) x is other = absurd (subst (λ e. ReadsPiece x.0.decoder p.unread spans (in_its_body x.0).0 read.consumed e) is (in_its_body x.0).1)
  needs_more true event.Paused x is other = absurd (subst (λ e. ReadsPiece x.0.decoder p.unread spans (in_its_body x.0).0 read.consumed e) is (in_its_body x.0).1)
  needs_more true event.Upgraded x is other = absurd (subst (λ e. ReadsPiece x.0.decoder p.unread spans (in_its_body x.0).0 read.consumed e) is (in_its_body x.0).1)
  needs_more true event.Closed x is other = absurd (subst (λ e. ReadsPiece x.0.decoder p.unread spans (in_its_body x.0).0 read.consumed e) is (in_its_body x.0).1)

  pub nothing_found : Standing p stream interim → IsOther read.event → HasNone with_server read.consumed stream interim
  nothing_found x other = waits_at p.within refl x (needs_more p.within read.event x refl other)

-- ---- a piece of a body

-- how much of a body is stated at a place, where so much of it came
abbrev total_at : Place → ℕ → ℕ
total_at q len = len + chunk_left (unread_size (reading q.server)) q.spot

-- the place where that is noted
abbrev weighed : Place → ℕ → Place
weighed q len = record q { stated = tallied (unread_size (reading q.server)) q.stated (total_at q len) }

known_same : (why : Refusal) (p q : Place) (stream : List ℕ) → q.config ≡ p.config → q.is_head ≡ p.is_head → IsKnownFor why p stream
    → IsKnownFor why q stream
known_same Truncated p q stream config kind x = tt
known_same (Unreadable e) p q stream config kind x = tt
known_same BodyTooLong p q stream config kind x =
    (x.0, x.1, x.2, subst (λ c. AcceptsRequest c.limits stream x.0 x.1 x.2) (sym config) x.3, kind ∙ x.4)
known_same UnknownCoding p q stream config kind x = tt
known_same (NoRoom told) p q stream config kind x =
    (x.0, x.1, x.2, subst (λ c. AcceptsRequest c.limits stream x.0 x.1 x.2) (sym config) x.3, kind ∙ x.4)

module _ {p : Place} {piece : Span} {stream interim : List ℕ} (x : HasPiece p piece stream interim) where
  abbrev with_piece : List ℕ
  with_piece = p.body ++ span_bytes p.unread piece

  -- with a piece it is too much
  pub piece_refused : (q w : Place) (why : Refusal) (room len : ℕ) (ended : Bool) → q ≡ noted p piece.end → w ≡ q → len ≡ length with_piece
      → IsExcess why q.most room (total_at q len)
      → IsRefusedFor why w.config ended stream × HasWork w.config.limits ended stream × IsKnownFor why w stream
  piece_refused q w why room len ended at same long over =
      let here = subst (λ k. IsExcess why k.most room (total_at k len)) at over in
      let refused = exceeds x.onward why room _ ended here (ap (λ n. total_at (noted p piece.end) n) long) in
      let known = known_same why (record (paused p piece.end) { body = with_piece }) (noted p piece.end) stream refl refl refused.2 in
      subst (λ k. IsRefusedFor why k.config ended stream × HasWork k.config.limits ended stream × IsKnownFor why k stream)
      (sym (same ∙ at)) (refused.0, refused.1, known)

  -- or it isn't
  pub piece_taken : (q w : Place) (len : ℕ) (unread body : List ℕ) → q ≡ noted p piece.end → w ≡ weighed q len → len ≡ length with_piece
      → total_at q len ≤ q.most → unread ≡ drop piece.end p.unread → body ≡ with_piece → piece.end ≤ length p.unread
      → Standing (record w { unread = unread; body = body }) stream interim × (judged_at (record w { unread = unread; body = body }) ≡ judged_at p)
      × (work (record w { unread = unread; body = body }) < work p)
  piece_taken q w len unread body at is long fits left whole within =
      let n = noted p piece.end in
      let r = record (weighed n len) { unread = drop piece.end p.unread; body = with_piece } in
      let all = is ∙ ap (λ k. weighed k len) at in
      let same : record w { unread = unread; body = body } ≡ r = λ i. record (all i) { unread = left i; body = whole i } in
      let here : total_at n len ≤ p.most = subst (λ k. total_at k len ≤ k.most) at fits in
      let now = tallies x.onward p (total_at n len) refl x.stated (ap (λ m. total_at n m) long) here in
      let short : length with_piece ≤ p.most = omega (arith, here, long) in
      let standing : StandsAt true r stream interim = (begun_stated x.onward r.stated, short, now) in
      subst (λ k. Standing k stream interim × (judged_at k ≡ judged_at p) × (work k < work p)) (sym same) (
        subst (λ b. StandsAt b r stream interim) (sym x.within) standing,
        refl,
        omega (arith, x.some, within, length-drop piece.end p.unread),
      )

-- ---- where there is no more to read

no_excess : (why : Refusal) (most room total : ℕ) → IsExcess why most room total → total ≢ 0
no_excess Truncated most room total over none = absurd over
no_excess (Unreadable e) most room total over none = absurd over
no_excess BodyTooLong most room total over none = absurd (omega (arith, over, none))
no_excess UnknownCoding most room total over none = absurd over
no_excess (NoRoom told) most room total over none = absurd (omega (arith, over.1, none))

module _ (p : Place) (count : ℕ) (stream interim : List ℕ) where
  paused_starved : (b : Bool) → p.within ≡ b → PausesAt b p count stream interim → HasNone p count stream interim
      → total_at (paused p count) (length p.body) ≤ p.most → IsStarved (weighed (paused p count) (length p.body)) stream interim
  paused_starved true within at x fits =
      let q = weighed (paused p count) (length p.body) in
      let now = tallies at.0 p (total_at (paused p count) (length p.body)) refl at.2 refl fits in
      let standing : StandsAt true q stream interim = (begun_stated at.0 q.stated, at.1, now) in
      record {
        standing = subst (λ b. StandsAt b q stream interim) (sym within) standing;
        unfinished = x.unfinished;
        invited = x.invited;
        within = λ h framing after z. let is_now = now h framing after z in (is_now.0 ∙ sym (at.3 h framing after z), is_now.1);
        judged = x.judged;
        free = λ none. absurd (none (record { head = at.0.head; framing = at.0.framing; after = at.0.after; accepts = at.0.accepts }));
      }
  paused_starved false within at x fits =
      let total = total_at (paused p count) (length p.body) in
      let kept : tallied (unread_size (reading p.server)) p.stated total ≡ p.stated =
      ap (λ s. tallied (unread_size (reading s)) p.stated total) at.0.server in
      let q = weighed (paused p count) (length p.body) in
      let standing : StandsAt false q stream interim = record {
        server = at.0.server;
        unread = at.0.unread;
        body = at.0.body;
        stated = kept ∙ at.0.stated;
        silent = at.0.silent;
      } in
      record {
        standing = subst (λ b. StandsAt b q stream interim) (sym within) standing;
        unfinished = x.unfinished;
        invited = x.invited;
        within = λ h framing after z. absurd (at.1 (record { head = h; framing = framing; after = after; accepts = z }));
        judged = x.judged;
        free = λ none. (kept ∙ at.0.stated, at.0.body);
      }

  paused_exceeds : (b : Bool) (why : Refusal) (room : ℕ) (ended : Bool) → PausesAt b p count stream interim
      → IsExcess why p.most room (total_at (paused p count) (length p.body))
      → IsRefusedFor why p.config ended stream × HasWork p.config.limits ended stream × IsKnownFor why (paused p count) stream
  paused_exceeds true why room ended at over = exceeds at.0 why room _ ended over refl
  paused_exceeds false why room ended at over =
      let none : total_at (paused p count) (length p.body) ≡ 0 =
      omega (arith, ap length at.0.body, ap (λ s. chunk_left (unread_size (reading s)) (paused p count).spot) at.0.server) in
      absurd (no_excess why p.most room _ over none)

module _ {p : Place} {count : ℕ} {stream interim : List ℕ} (x : HasNone p count stream interim) (q w : Place) (len : ℕ)
    (at : q ≡ paused p count) (long : len ≡ length p.body) where
  -- what isn't too much leaves the connection waiting
  pub starves : w ≡ weighed q len → total_at q len ≤ q.most → IsStarved w stream interim × (judged_at w ≡ judged_at p)
  starves is fits =
      let all : w ≡ weighed (paused p count) (length p.body) = is ∙ (λ i. weighed (at i) (long i)) in
      let here : total_at (paused p count) (length p.body) ≤ p.most =
      subst (λ n. total_at (paused p count) n ≤ p.most) long (subst (λ k. total_at k len ≤ k.most) at fits) in
      subst (λ k. IsStarved k stream interim × (judged_at k ≡ judged_at p)) (sym all)
      (paused_starved p count stream interim p.within refl x.at x here, refl)

  -- and what is too much is refused
  pub refused_pausing : (why : Refusal) (room : ℕ) (ended : Bool) → w ≡ q → IsExcess why q.most room (total_at q len)
      → IsRefusedFor why w.config ended stream × HasWork w.config.limits ended stream × IsKnownFor why w stream
  refused_pausing why room ended same over =
      let here = subst (λ n. IsExcess why p.most room (total_at (paused p count) n)) long
      (subst (λ k. IsExcess why k.most room (total_at k len)) at over) in
      subst (λ k. IsRefusedFor why k.config ended stream × HasWork k.config.limits ended stream × IsKnownFor why k stream)
      (sym (same ∙ at)) (paused_exceeds p count stream interim p.within why room ended x.at here)

starved_at : (b : Bool) (p : Place) (stream interim : List ℕ) → StandsAt b p stream interim → (b ≡ false → p.unread ≢ [])
    → stream ≢ []
starved_at true p stream interim x some none = begun_some x.0 none
starved_at false p stream interim x some none = some refl (x.unread ∙ none)

-- where something of a request came, the stream isn't empty
pub starved_some : (p : Place) (stream interim : List ℕ) → IsStarved p stream interim → (p.within ≡ false → p.unread ≢ [])
    → stream ≢ []
starved_some p stream interim x = starved_at p.within p stream interim x.standing

-- at the end of the stream nothing was written for a request
pub ends_between : (p : Place) (stream interim : List ℕ) → IsStarved p stream interim → p.within ≡ false → p.unread ≡ []
    → (stream ≡ []) × (interim ≡ [])
ends_between p stream interim x between none =
    let at = subst (λ b. StandsAt b p stream interim) between x.standing in (sym at.unread ∙ none, at.silent)

-- ---- a whole request

module _ {p : Place} {stream : List ℕ} (x : HasEnd p stream) where
  -- what was kept of the request was handed over
  pub handed_over : (asked : Asked) (len : ℕ) (head body : List ℕ) (stated : ℕ) → len ≡ length p.head → asked.head ≡ take len p.head
      → asked.body ≡ p.body → body ≡ [] → stated ≡ 0
      → IsWhole (record p { within = false; head = head; body = body; stated = stated }) stream asked p.is_head
  handed_over asked len head body stated long front whole none freed =
      let is_head : asked.head ≡ p.head = front ∙ take_all len p.head (omega (arith, long)) in
      record {
        message = x.message;
        request = record {
          reads = x.reads;
          head = x.head ∙ ap (λ (t : List ℕ). t ++ x.reads.after_head) (sym is_head);
          body = whole ∙ x.body;
          plain = x.plain;
          fits = x.fits;
          few = x.few;
        };
        kind = x.kind;
        server = x.server;
        between = refl;
        body = none;
        stated = freed;
      }

  -- and that head was judged
  pub end_judged : (head : List ℕ) (len : ℕ) → len ≡ length p.head → head ≡ take len p.head → judged_at p ≡ (head, None) ∷ []
  end_judged head len long front =
      ap (λ w. cond w ((p.head, None) ∷ []) []) x.within
      ∙ ap (λ (t : List ℕ). (t, None) ∷ []) (sym (front ∙ take_all len p.head (omega (arith, long))))

  pub end_less : 2 * length p.unread + 0 < work p
  end_less = let within = x.within in rw within (omega arith)

-- ---- refusals

refused_at : (b : Bool) (p : Place) (stream interim : List ℕ) (e : ReadError) → StandsAt b p stream interim
    → ServerRefuses p.server p.unread 64 e
    → NextIs p.config.limits stream HasTooManyFields × IsReadError p.config.limits stream e
refused_at false p stream interim e x refuses =
    let why = subst (λ (u : List ℕ). ServerRefuses (new_server p.config.limits) u 64 e) x.unread
    (subst (λ s. ServerRefuses s p.unread 64 e) x.server refuses) in (
      λ more m rest z. inl (why.0 more m.head z.framing z.after_head z.head),
      inl (stream, [], sym (append-nil stream), why.1),
    )
refused_at true p stream interim e x refuses =
    let b = x.0 in
    let why = subst (λ s. ServerRefuses s p.unread 64 e) b.server refuses in (
      λ more m rest z. let f = finishes b more m rest z in inr (rw f.body (why.0 more f.left rest f.completes)),
      inr (b.head, b.framing, b.after, b.accepts),
    )

pub unreadable : (p : Place) (stream interim : List ℕ) (e : ReadError) → Standing p stream interim
    → ServerRefuses p.server p.unread 64 e
    → NextIs p.config.limits stream HasTooManyFields × IsReadError p.config.limits stream e
unreadable p stream interim e x = refused_at p.within p stream interim e x

-- ---- a head

-- the size of a body that is to be read is the one that its framing states
known_stated : (limits : Limits) (f : Framing) (p : Place) → p.body ≡ [] → p.spot ≡ Size 0
    → known_len (unread_size (Reads.Body (decoder_for limits f))) ≡ tally f p.body p.spot
known_stated limits Framed.NoBody p none spot = refl
known_stated limits (Framed.Length len) p none spot = refl
known_stated limits Framed.Chunked p none spot = omega (arith, ap length none, ap to_come spot)
known_stated limits Framed.UntilClose p none spot = refl

length-take : (n : ℕ) (spans : List HeaderSpan) → length (take n spans) ≤ length spans
length-take n spans = omega (arith, ap length (take-append-drop n spans), length-append (take n spans) (drop n spans))

module _ {p : Place} {spans : List HeaderSpan} {r : RequestSpans} {stream interim : List ℕ} (x : HasHead p spans r stream interim) where
  pub head_accepted : AcceptsRequest p.config.limits stream x.takes.head x.takes.framing (drop r.len stream)
  head_accepted = x.takes.accepts

  pub head_work : (ended : Bool) → HasWork p.config.limits ended stream
  head_work ended = inl (record { head = x.takes.head; framing = x.takes.framing; after = drop r.len stream; accepts = head_accepted })

  -- each request that may begin the stream has the head that was taken
  one_head : NextIs p.config.limits stream (λ m. m.head ≡ x.takes.head)
  one_head more m rest read = (accepts_unique read.head (AcceptsRequest-append head_accepted more)).0

  pub has_coding : has_codings p.server ≡ true → NextIs p.config.limits stream HasUnknownCoding
  has_coding coded more m rest read =
      ap (λ (k : RequestHead). (known_of k.fields).other_coding) (one_head more m rest read)
      ∙ sym (ap has_codings x.takes.next) ∙ coded

  pub head_some : 0 < r.len
  head_some = omega (arith, head_is_some x.takes.head, x.takes.covered.len)

  pub head_method : span_bytes p.unread r.method ≡ x.takes.head.method
  head_method = ap (λ (u : List ℕ). span_bytes u r.method) x.unread ∙ x.takes.covered.method

  few_fields : length x.takes.head.fields ≤ 64
  few_fields =
      let same = ap length x.takes.covered.fields in
      omega (
        arith,
        same,
        length-map (take r.headers spans) (header_bytes stream),
        length-map x.takes.head.fields name_and_value,
        length-take r.headers spans,
        x.few,
      )

  -- the head was taken from the bytes, and what is known of its request was noted
  pub begins : has_codings p.server ≡ false → (unread head method : List ℕ) (kind : Bool) (most stated : ℕ)
      → unread ≡ drop r.len p.unread → head ≡ take r.len p.unread → method ≡ span_bytes p.unread r.method
      → kind ≡ is_head (method_kind method) → most ≡ most_of p.config method
      → Begun (record p { unread = unread; within = true; head = head; is_head = kind; most = most; stated = stated; spot = Size 0 }) stream
      (invitation x.takes.head x.takes.framing)
  begins uncoded unread head method kind most stated left front named kind_is most_is = record {
    head = x.takes.head;
    framing = x.takes.framing;
    after = drop r.len stream;
    accepts = head_accepted;
    text =
        sym (take-append-drop r.len stream) ∙ ap (λ (u : List ℕ). take r.len u ++ drop r.len stream) (sym x.unread)
        ∙ ap (λ (u : List ℕ). u ++ drop r.len stream) (sym front);
    few = few_fields;
    plain = sym (ap has_codings x.takes.next) ∙ uncoded;
    most = most_is ∙ ap (most_of p.config) (named ∙ head_method);
    kind = kind_is ∙ ap (λ m. is_head (method_kind m)) (named ∙ head_method);
    invited = refl;
    decoder = decoder_for p.config.limits x.takes.framing;
    ends = ends_first p.config.limits x.takes.framing (has_an_end head_accepted);
    waits = (request_of x.takes.head x.takes.framing).expects_continue;
    server = x.takes.next;
    goes_on =
        let first = decoder_for p.config.limits x.takes.framing in
        subst₂ (Leads first (drop r.len stream) first) (ap (λ (u : List ℕ). drop r.len u) (sym x.unread) ∙ sym left) (sym x.body)
        (Leads-start first (drop r.len stream) (decoder_for-live p.config.limits x.takes.framing));
    follows =
        let q = record p { unread = unread; within = true; head = head; is_head = kind; most = most; stated = stated; spot = Size 0 } in
        follows_first p.config.limits (drop r.len stream) x.takes.framing q (has_an_end head_accepted) (ap (λ (u : List ℕ). drop r.len u) (sym x.unread) ∙ sym left) x.body refl;
  }

  -- it states no longer body than it may have
  pub states_within : (q : Place) (method : List ℕ) (most : ℕ) → q.config ≡ p.config → q.body ≡ [] → q.spot ≡ Size 0
      → method ≡ span_bytes p.unread r.method → most ≡ most_of p.config method
      → q.stated ≡ known_len (unread_size (reading p.server)) → q.stated ≤ most → IsTallied q stream
  states_within q method most config none spot named most_is known fits h framing after came =
      let z = subst (λ c. AcceptsRequest c.limits stream h framing after) config came in
      let same = accepts_unique z head_accepted in
      let size : q.stated ≡ tally framing q.body q.spot =
      known ∙ ap (λ s. known_len (unread_size (reading s))) x.takes.next
      ∙ known_stated p.config.limits x.takes.framing q none spot ∙ ap (λ f. tally f q.body q.spot) (sym same.1) in
      let is : most ≡ most_of p.config h.method =
      most_is ∙ ap (most_of p.config) (named ∙ head_method ∙ ap (λ (k : RequestHead). k.method) (sym same.0)) in
      (size, omega (arith, fits, is, ap (λ c. most_of c h.method) config))

  -- the work that is left is less
  pub head_less : (unread : List ℕ) → unread ≡ drop r.len p.unread → r.len ≤ length p.unread
      → 2 * length unread + 1 < work p
  head_less unread left fits =
      let none = x.within in
      let len = length-drop r.len p.unread in
      let some = head_some in
      rw (left, none) (omega arith)

  -- it asks for `100 Continue`, or not
  asks : (waits : Bool) → waits ≡ expects_continue p.server → (request_of x.takes.head x.takes.framing).expects_continue ≡ waits
  asks waits is = sym (ap expects_continue x.takes.next) ∙ sym is

  -- it is to be judged
  pub head_read : (q : Place) (waits : Bool) → waits ≡ expects_continue p.server → q.config ≡ p.config → q.within ≡ true
      → Begun q stream (invitation x.takes.head x.takes.framing) → length q.body ≤ q.most → IsTallied q stream
      → IsHeadRead q stream interim waits
  head_read q waits is config within begun fits stated = record {
    silent = x.silent;
    within = within;
    standing = subst (λ b. StandsAt b q stream (cond waits continue_text [])) (sym within)
        (subst (λ b. Begun q stream (cond b continue_text [])) (asks waits is) begun, fits, stated);
    invites = λ wanted. subst (λ c. ExpectsContinue c.limits stream) (sym config)
        (x.takes.head, x.takes.framing, drop r.len stream, head_accepted, asks waits is ∙ wanted);
  }

  pub unjudged : judged_at p ≡ []
  unjudged = ap (λ w. cond w ((p.head, None) ∷ []) []) x.within
