-- Where the reader is in a stream, within a request or before one.
use Rattle.std.proofs.Common.{inr, ◌≡◌, ◌≢◌, ℕ, ◌+◌, ◌<◌, ◌≤◌, ◌⊎◌, Bool, true, false, cond, List, [], ◌++◌, length, drop, take, refl, sym, ap, ◌∙◌, subst, subst₂, arith, append_assoc, append-nil, length-append, take-append-drop, inl}
use Rattle.httparse.specs.Grammar.{RequestHead}
use Rattle.http1.specs.declared.conn.BodySize.TheVariants.{Known}
use Rattle.http1.specs.declared.conn.Limits.{Limits}
use Rattle.http1.specs.declared.conn.Reading.TheVariants as Reads
use Rattle.http1.specs.declared.decode.Decoder.{Decoder}
use Rattle.http1.specs.declared.decode.Decoder.TheVariants as Decoding
use Rattle.http1.specs.declared.framing.Framing.{Framing}
use Rattle.http1.specs.declared.framing.Framing.TheVariants as Framed
use Rattle.http1.specs.declared.server.Server.{Server}
use Rattle.http1.specs.Body.{Body, ReadsBody}
use Rattle.http1.specs.declared.chunked.State.TheVariants as Chunking
use Rattle.http1.specs.ChunkedDecoder.{Run, prepend, run, run_result, start, use_of}
use Rattle.http1.specs.Conn.{unread_size}
use Rattle.http1.specs.Decoder.{AwaitsTrailers, Completes, Continues, Runs, with_front, decoder_for}
use Rattle.http1.specs.Message as Wire
use Rattle.http1.specs.Message.{known_of, AcceptsRequest, ReadsRequestMessage}
use Rattle.http1.specs.Server.{reading, after_piece}
use Rattle.http1.proofs.RunLemmas.{run-nil, run_after, run_stops}
use Rattle.http1.proofs.OneParse.{completes_from_body, body_from_completes}
use Rattle.http_server.specs.Exchange.{ExpectsContinue, continue_text}
use Rattle.http_server.specs.History.{HasNoMessage, NextIs}
use Rattle.http_server.specs.Machine.{Leads}
use Rattle.http_server.proofs.MachineLemmas.{head_is_some}
use Rattle.http_server.proofs.StreamLemmas.{AcceptsRequest-append, accepts_unique, Leads-step}
use Rattle.dav_wire.specs.Exchange.{most_of}
use Rattle.dav_wire.specs.History.{HasWork}
use Rattle.dav_wire.specs.declared.state.Refusal.{Refusal}
use Rattle.dav_wire.specs.declared.state.Refusal.TheVariants.{Truncated, Unreadable, BodyTooLong, UnknownCoding, NoRoom}
use Rattle.dav_wire.specs.Refusals.{IsRefusedFor, left_in, len_stated}
use Rattle.dav_wire.specs.Spots.{chunk_left, followed, spot_after, spot_of, tallied, to_come}
use Rattle.dav_wire.specs.Place.{Place, Begun, Follows, FollowsIn, IsExcess, IsKnownFor, IsSized, IsTallied, IsToldWhole, KnowsHead, StandsAt, Standing, paused, tally}
use Rattle.dav_wire.proofs.SpotLemmas.{gives_all, left_is, spot_follows}
use Rattle.dav_wire.proofs.Streams.{after_front}

-- ---- the body

-- a decoder of a body with an end goes on as one
ends_on : (d e : Decoder) (input piece : List ℕ) (len : ℕ) → Runs d input e len piece → d ≢ Decoding.UntilClose → e ≢ Decoding.UntilClose
ends_on (Decoding.Length left) e input piece len x other is = let wrong = sym x ∙ is in cc
ends_on (Decoding.Chunked chunks max_len) e input piece len x other is = let wrong = sym x.1 ∙ is in cc
ends_on Decoding.UntilClose e input piece len x other is = other refl

pub ends_first : (limits : Limits) (framing : Framing) → framing ≢ Framed.UntilClose → decoder_for limits framing ≢ Decoding.UntilClose
ends_first limits Framed.NoBody other is = cc
ends_first limits (Framed.Length n) other is = cc
ends_first limits Framed.Chunked other is = cc
ends_first limits Framed.UntilClose other is = other refl

-- a decoder that knows how much is left is the one for so many bytes
counts : {len : ℕ} (d : Decoder) → unread_size (Reads.Body d) ≡ Known len → d ≡ Decoding.Length len
counts (Decoding.Length left) known = ap Decoding.Length (cc)
counts (Decoding.Chunked chunks max_len) known = cc
counts Decoding.UntilClose known = cc

-- ---- the chunks of a body

sized_on : (d e : Decoder) (input piece : List ℕ) (len : ℕ) → Runs d input e len piece → IsSized d → IsSized e
sized_on (Decoding.Length left) e input piece len x sized = subst IsSized (sym x) tt
sized_on (Decoding.Chunked chunks max_len) e input piece len x sized = absurd sized
sized_on Decoding.UntilClose e input piece len x sized = absurd sized

module _ (limits : Limits) (after : List ℕ) where
  -- more comes
  follows_grows : (f : Framing) (d : Decoder) (p : Place) (came : List ℕ) → FollowsIn f limits after d p.unread p.body p.spot
      → FollowsIn f limits (after ++ came) d (p.unread ++ came) p.body p.spot
  follows_grows Framed.NoBody d p came x = x
  follows_grows (Framed.Length len) d p came x = x
  follows_grows Framed.Chunked d p came x = record {
    chunks = x.chunks;
    max_len = x.max_len;
    decoder_is = x.decoder_is;
    came = x.came;
    text = after_front x.came p.unread came x.text;
    ran = x.ran;
    is_at = x.is_at;
  }
  follows_grows Framed.UntilClose d p came x = absurd x

  -- bytes are read
  follows_on : (f : Framing) (d e : Decoder) (p : Place) (piece : List ℕ) (len : ℕ) (new : Server) → FollowsIn f limits after d p.unread p.body p.spot
      → Runs d p.unread e len piece → reading new ≡ Reads.Body e
      → FollowsIn f limits after e (drop len p.unread) (p.body ++ piece) (followed (unread_size (reading new)) p.spot (take len p.unread))
  follows_on Framed.NoBody d e p piece len new x y is = sized_on d e p.unread piece len y x
  follows_on (Framed.Length n) d e p piece len new x y is = sized_on d e p.unread piece len y x
  follows_on Framed.Chunked d e p piece len new x y is =
      let on = subst (λ k. Runs k p.unread e len piece) x.decoder_is y in
      let seen = take len p.unread in
      let size = ap unread_size (is ∙ ap Reads.Body on.1) in
      record {
        chunks = on.0;
        max_len = x.max_len;
        decoder_is = on.1;
        came = x.came ++ seen;
        text = x.text ∙ ap (λ (t : List ℕ). x.came ++ t) (sym (take-append-drop len p.unread)) ∙ sym (append_assoc x.came seen (drop len p.unread));
        ran = run_after (start limits.max_extensions_len) x.chunks x.came p.body seen x.ran ∙ ap (prepend p.body) on.2;
        is_at = ap (λ s. followed s p.spot seen) size ∙ ap (λ s. spot_after s seen) x.is_at ∙ sym (spot_follows seen x.chunks on.0 piece on.2 on.3);
      }
  follows_on Framed.UntilClose d e p piece len new x y is = absurd x

  -- at the start of a body
  pub follows_first : (f : Framing) (p : Place) → f ≢ Framed.UntilClose → after ≡ p.unread → p.body ≡ [] → p.spot ≡ spot_of Chunking.Start
      → FollowsIn f limits after (decoder_for limits f) p.unread p.body p.spot
  follows_first Framed.NoBody p other text none spot = tt
  follows_first (Framed.Length len) p other text none spot = tt
  follows_first Framed.Chunked p other text none spot = record {
    chunks = start limits.max_extensions_len;
    max_len = limits.max_trailers_len;
    decoder_is = refl;
    came = [];
    text = text;
    ran = run-nil _ ∙ ap (λ (t : List ℕ). run_result (start limits.max_extensions_len) t []) (sym none);
    is_at = spot;
  }
  follows_first Framed.UntilClose p other text none spot = absurd (other refl)

  -- a body has at least what is to come of its chunk
  waits_for : (f : Framing) (d : Decoder) (p : Place) (input : List ℕ) (left : Body) (rest : List ℕ) → FollowsIn f limits after d p.unread p.body p.spot
      → Completes d input left rest → chunk_left (unread_size (Reads.Body d)) p.spot ≤ length left.bytes
  waits_for Framed.NoBody (Decoding.Length n) p input left rest x y = omega arith
  waits_for Framed.NoBody (Decoding.Chunked chunks max_len) p input left rest x y = absurd x
  waits_for Framed.NoBody Decoding.UntilClose p input left rest x y = absurd x
  waits_for (Framed.Length len) (Decoding.Length n) p input left rest x y = omega arith
  waits_for (Framed.Length len) (Decoding.Chunked chunks max_len) p input left rest x y = absurd x
  waits_for (Framed.Length len) Decoding.UntilClose p input left rest x y = absurd x
  waits_for Framed.Chunked d p input left rest x y =
      let done = subst (λ k. Completes k input left rest) x.decoder_is y in
      let size = ap (λ k. chunk_left (unread_size (Reads.Body k)) p.spot) x.decoder_is in
      let gives = gives_all x.chunks.state x.chunks.extension_room input done.0 in
      omega (arith, size, ap to_come x.is_at, gives, ap length done.1)
  waits_for Framed.UntilClose d p input left rest x y = absurd x

  -- the machine reads no more of what is left
  stays : (d : Decoder) (p : Place) (x : Follows limits after d p.unread p.body p.spot) → (p.unread ≡ []) ⊎ AwaitsTrailers d (length p.unread)
      → run x.chunks p.unread ≡ run_result x.chunks [] p.unread
  stays d p x over = elim over [
    | inl none ↦ subst (λ (t : List ℕ). run x.chunks t ≡ run_result x.chunks [] t) (sym none) (run-nil x.chunks)
    | inr awaits ↦
        let done = subst (λ k. AwaitsTrailers k (length p.unread)) x.decoder_is awaits in
        run_stops x.chunks p.unread (ap use_of done.0)
  ]

  -- where it doesn't, what came of the body states what was read of it
  whole_at : (f : Framing) (d : Decoder) (p : Place) → FollowsIn f limits after d p.unread p.body p.spot
      → (p.unread ≡ []) ⊎ AwaitsTrailers d (length p.unread) → len_stated limits f after ≡ tally f p.body p.spot
  whole_at Framed.NoBody d p x over = refl
  whole_at (Framed.Length len) d p x over = refl
  whole_at Framed.Chunked d p x over =
      let first = start limits.max_extensions_len in
      let all : run first after ≡ run_result x.chunks (p.body ++ []) p.unread =
      ap (run first) x.text ∙ run_after first x.chunks x.came p.body p.unread x.ran ∙ ap (prepend p.body) (stays d p x over) in
      let left = left_is x.chunks.state ∙ ap to_come (sym x.is_at) in
      ap (λ (r : Run). length r.body + left_in r.ends.state) all
      ∙ (λ i. length (append-nil p.body i) + left i)
  whole_at Framed.UntilClose d p x over = absurd x

-- what is stated once it is weighed
tallied_at : (limits : Limits) (after : List ℕ) (f : Framing) (d : Decoder) (p q : Place) (old total most : ℕ)
    → FollowsIn f limits after d q.unread q.body q.spot → old ≡ tally f p.body p.spot → old ≤ most → total ≡ length q.body + chunk_left (unread_size (Reads.Body d)) q.spot → total ≤ most
    → (tallied (unread_size (Reads.Body d)) old total ≡ tally f q.body q.spot) × (tallied (unread_size (Reads.Body d)) old total ≤ most)
tallied_at limits after Framed.NoBody (Decoding.Length n) p q old total most x was fits is within = (was, fits)
tallied_at limits after Framed.NoBody (Decoding.Chunked chunks max_len) p q old total most x was fits is within = absurd x
tallied_at limits after Framed.NoBody Decoding.UntilClose p q old total most x was fits is within = absurd x
tallied_at limits after (Framed.Length len) (Decoding.Length n) p q old total most x was fits is within = (was, fits)
tallied_at limits after (Framed.Length len) (Decoding.Chunked chunks max_len) p q old total most x was fits is within = absurd x
tallied_at limits after (Framed.Length len) Decoding.UntilClose p q old total most x was fits is within = absurd x
tallied_at limits after Framed.Chunked d p q old total most x was fits is within =
    let size = ap (λ k. unread_size (Reads.Body k)) x.decoder_is in (
      ap (λ s. tallied s old total) size ∙ is ∙ ap (λ s. length q.body + chunk_left s q.spot) size,
      omega (arith, ap (λ s. tallied s old total) size, within),
    )
tallied_at limits after Framed.UntilClose d p q old total most x was fits is within = absurd x

-- ---- a request that was begun

-- A whole request begins the stream, once more has come: its head is the one that was read, and its body is what is kept and
-- then what the decoder reads.
pub record Finishes {p : Place} {stream interim : List ℕ} (x : Begun p stream interim) (more : List ℕ) (m : Wire.Request)
    (rest : List ℕ) : Type 0 where
  pub head : m.head ≡ x.head
  pub left : Body
  pub body : m.body ≡ with_front p.body left
  pub completes : Completes x.decoder (p.unread ++ more) left rest

module _ {p : Place} {stream interim : List ℕ} (x : Begun p stream interim) where
  -- its head stays when more comes, and no other begins the stream
  still : (came : List ℕ) → AcceptsRequest p.config.limits (stream ++ came) x.head x.framing (x.after ++ came)
  still = AcceptsRequest-append x.accepts

  alone : (came : List ℕ) {h : RequestHead} {f : Framing} {after : List ℕ} → AcceptsRequest p.config.limits (stream ++ came) h f after
      → (h ≡ x.head) × (f ≡ x.framing) × (after ≡ x.after ++ came)
  alone came other = accepts_unique other (still came)

  -- and its decoder goes on in the unread bytes and those that come
  onward : (came : List ℕ) → Leads (decoder_for p.config.limits x.framing) (x.after ++ came) x.decoder (p.unread ++ came) p.body
  onward came =
      let first = decoder_for p.config.limits x.framing in
      let unread = λ (more : List ℕ). sym (append_assoc p.unread came more) in
      let after = λ (more : List ℕ). sym (append_assoc x.after came more) in
      record {
        live = x.goes_on.live;
        back = λ more body rest.
            subst₂ (λ (u t : List ℕ). Completes x.decoder u body rest → Completes first t (with_front p.body body) rest)
            (unread more) (after more) (x.goes_on.back (came ++ more) body rest);
        forth = λ more whole rest.
            subst₂ (λ (u t : List ℕ). Completes first t whole rest
            → (body : Body) × (whole ≡ with_front p.body body) × Completes x.decoder u body rest)
            (unread more) (after more) (x.goes_on.forth (came ++ more) whole rest);
      }

  pub begun_stated : (stated : ℕ) → Begun (record p { stated = stated }) stream interim
  begun_stated stated = record {
    head = x.head;
    framing = x.framing;
    after = x.after;
    accepts = x.accepts;
    text = x.text;
    few = x.few;
    plain = x.plain;
    most = x.most;
    kind = x.kind;
    invited = x.invited;
    decoder = x.decoder;
    ends = x.ends;
    waits = x.waits;
    server = x.server;
    goes_on = x.goes_on;
    follows = x.follows;
  }

  begun_grows : (came : List ℕ) → Begun (record p { unread = p.unread ++ came }) (stream ++ came) interim
  begun_grows came = record {
    head = x.head;
    framing = x.framing;
    after = x.after ++ came;
    accepts = still came;
    text = after_front p.head x.after came x.text;
    few = x.few;
    plain = x.plain;
    most = x.most;
    kind = x.kind;
    invited = x.invited;
    decoder = x.decoder;
    ends = x.ends;
    waits = x.waits;
    server = x.server;
    goes_on = onward came;
    follows = follows_grows p.config.limits x.after x.framing x.decoder p came x.follows;
  }

  pub Begun-step : (e : Decoder) (len : ℕ) (piece : List ℕ) (new : Server) → Continues x.decoder p.unread e len piece
      → new ≡ after_piece p.server p.unread (Reads.Body e)
      → Begun (record (paused (record p { server = new }) len) { body = p.body ++ piece }) stream interim
  Begun-step e len piece new y is = record {
    head = x.head;
    framing = x.framing;
    after = x.after;
    accepts = x.accepts;
    text = x.text;
    few = x.few;
    plain = x.plain;
    most = x.most;
    kind = x.kind;
    invited = x.invited;
    decoder = e;
    ends = ends_on x.decoder e p.unread piece len y.runs x.ends;
    waits = _;
    server = is ∙ ap (λ s. after_piece s p.unread (Reads.Body e)) x.server;
    goes_on = Leads-step p.unread piece len x.goes_on y;
    follows = follows_on p.config.limits x.after x.framing x.decoder e p piece len new x.follows y.runs
        (ap reading is ∙ ap (λ s. reading (after_piece s p.unread (Reads.Body e))) x.server);
  }

  pub begun_work : (ended : Bool) → HasWork p.config.limits ended stream
  begun_work ended = inl (record { head = x.head; framing = x.framing; after = x.after; accepts = x.accepts })

  pub knows : KnowsHead p stream
  knows = (x.head, x.framing, x.after, x.accepts, x.kind)

  pub begun_some : stream ≢ []
  begun_some none =
      let long = simp length-append at (ap length (sym none ∙ x.accepts.reads.1)) in
      let some = head_is_some x.head in
      omega (arith, long, some)

  pub finishes : (more : List ℕ) (m : Wire.Request) (rest : List ℕ) → ReadsRequestMessage p.config.limits (stream ++ more) m rest
      → Finishes x more m rest
  finishes more m rest read =
      let same = alone more read.head in
      let its_body = completes_from_body p.config.limits x.framing (x.after ++ more) m.body rest (rw (same.1, same.2) at read.body) in
      let it = x.goes_on.forth more m.body rest its_body in
      record { head = same.0; left = it.0; body = it.1; completes = it.2 }

  module _ {more : List ℕ} {m : Wire.Request} {rest : List ℕ} (f : Finishes x more m rest) where
    its_most : most_of p.config m.head.method ≡ p.most
    its_most = ap (λ (h : RequestHead). most_of p.config h.method) f.head ∙ sym x.most

    its_len : length m.body.bytes ≡ length p.body + length f.left.bytes
    its_len = ap (λ (b : Body). length b.bytes) f.body ∙ length-append p.body f.left.bytes

  pub begun_invited : ExpectsContinue p.config.limits stream → interim ≡ continue_text
  begun_invited waits =
      let is = accepts_unique waits.3 x.accepts in
      x.invited ∙ ap (λ b. cond b continue_text []) (rw (is.0, is.1) at waits.4)

  -- what the decoder reads to the end of the body ends the request
  pub ends_request : (body : Body) (rest : List ℕ) → Completes x.decoder (p.unread ++ []) body (rest ++ [])
      → ReadsBody p.config.limits x.framing x.after (with_front p.body body) rest
  ends_request body rest read =
      let all = x.goes_on.back [] body (rest ++ []) read in
      subst₂ (λ (t later : List ℕ). ReadsBody p.config.limits x.framing t (with_front p.body body) later) (append-nil x.after)
      (append-nil rest) (body_from_completes p.config.limits x.framing (x.after ++ []) (with_front p.body body) (rest ++ []) all)

  pub is_unfinished : ((body : Body) (rest : List ℕ) → ¬ (Completes x.decoder p.unread body rest)) → HasNoMessage p.config.limits stream
  is_unfinished none m rest read =
      let f = finishes [] m rest (subst (λ (t : List ℕ). ReadsRequestMessage p.config.limits t m rest) (sym (append-nil stream)) read) in
      none f.left rest (subst (λ (t : List ℕ). Completes x.decoder t f.left rest) (append-nil p.unread) f.completes)

  -- how much a body has that came, with what is to come of its chunk
  abbrev pub now_stated : ℕ
  now_stated = length p.body + chunk_left (unread_size (reading p.server)) p.spot

  its_chunk : {more : List ℕ} {m : Wire.Request} {rest : List ℕ} → Finishes x more m rest → now_stated ≤ length m.body.bytes
  its_chunk {more} {m} {rest} f =
      let waits = waits_for p.config.limits x.after x.framing x.decoder p (p.unread ++ more) f.left rest x.follows f.completes in
      omega (arith, waits, ap (λ s. chunk_left (unread_size (reading s)) p.spot) x.server, its_len f)

  too_long : p.most < now_stated → NextIs p.config.limits stream (λ m. most_of p.config m.head.method < length m.body.bytes)
  too_long over more m rest read = let f = finishes more m rest read in omega (arith, over, its_most f, its_chunk f)

  no_room : (room : ℕ) → room < now_stated → NextIs p.config.limits stream (λ m. room < length m.body.bytes)
  no_room room over more m rest read = let f = finishes more m rest read in omega (arith, over, its_chunk f)

  -- a body that is too much is refused
  pub exceeds : (why : Refusal) (room total : ℕ) (ended : Bool) → IsExcess why p.most room total → total ≡ now_stated
      → IsRefusedFor why p.config ended stream × HasWork p.config.limits ended stream × IsKnownFor why p stream
  exceeds Truncated room total ended over is = absurd over
  exceeds (Unreadable e) room total ended over is = absurd over
  exceeds BodyTooLong room total ended over is = (too_long (omega (arith, over, is)), begun_work ended, knows)
  exceeds UnknownCoding room total ended over is = absurd over
  exceeds (NoRoom told) room total ended over is =
      (no_room told (omega (arith, over.0, over.1, is)), begun_work ended, knows)

  -- and one that isn't is stated to be as much as came of it says
  pub tallies : (q : Place) (total : ℕ) → q.config ≡ p.config → IsTallied q stream → total ≡ now_stated → total ≤ p.most
      → IsTallied (record p { stated = tallied (unread_size (reading p.server)) q.stated total }) stream
  tallies q total config old is within h framing after z =
      let same = accepts_unique z x.accepts in
      let was = old h framing after (subst (λ c. AcceptsRequest c.limits stream h framing after) (sym config) z) in
      let most : p.most ≡ most_of p.config h.method =
      x.most ∙ ap (λ (k : RequestHead). most_of p.config k.method) (sym same.0) in
      let size = ap (λ s. unread_size (reading s)) x.server in
      let now = tallied_at p.config.limits x.after x.framing x.decoder q p q.stated total (most_of p.config h.method) x.follows
      (was.0 ∙ ap (λ f. tally f q.body q.spot) same.1) (omega (arith, was.1, ap (λ c. most_of c h.method) config))
      (is ∙ ap (λ s. length p.body + chunk_left s p.spot) size) (omega (arith, within, most)) in (
        ap (λ s. tallied s q.stated total) size ∙ now.0 ∙ ap (λ f. tally f p.body p.spot) (sym same.1),
        omega (arith, ap (λ s. tallied s q.stated total) size, now.1),
      )

  -- what came of a body states what was read of it, where no more of it is read
  told_whole : (p.unread ≡ []) ⊎ AwaitsTrailers x.decoder (length p.unread) → IsToldWhole p stream
  told_whole over h framing after z =
      let same = accepts_unique z x.accepts in
      (λ i. len_stated p.config.limits (same.1 i) (same.2 i))
      ∙ whole_at p.config.limits x.after x.framing x.decoder p x.follows over ∙ ap (λ f. tally f p.body p.spot) (sym same.1)

  pub no_room_ahead : (room len : ℕ) → unread_size (reading p.server) ≡ Known len → room < len
      → NextIs p.config.limits stream (λ m. room < length m.body.bytes)
  no_room_ahead room len known over more m rest read =
      let f = finishes more m rest read in
      let is = counts x.decoder (rw x.server at known) in
      let size = (subst (λ d. Completes d (p.unread ++ more) f.left rest) is f.completes).0 in
      omega (arith, over, size, its_len f)

  pub too_long_ahead : (len : ℕ) → unread_size (reading p.server) ≡ Known len → p.most < len
      → NextIs p.config.limits stream (λ m. most_of p.config m.head.method < length m.body.bytes)
  too_long_ahead len known over more m rest read =
      let f = finishes more m rest read in
      let is = counts x.decoder (rw x.server at known) in
      let size = (subst (λ d. Completes d (p.unread ++ more) f.left rest) is f.completes).0 in
      omega (arith, over, size, its_most f, its_len f)

-- after a step that gives nothing what came of the body states what was read of it, where no more of it is read
pub step_told : {p : Place} {stream interim : List ℕ} (x : Begun p stream interim) (e : Decoder) (len : ℕ) (new : Server)
    → Continues x.decoder p.unread e len [] → new ≡ after_piece p.server p.unread (Reads.Body e)
    → (drop len p.unread ≡ []) ⊎ AwaitsTrailers e (length (drop len p.unread)) → IsToldWhole (paused (record p { server = new }) len) stream
unfolding Begun-step
step_told {p} {stream} x e len new y is over =
    subst (λ (t : List ℕ). IsToldWhole (record (paused (record p { server = new }) len) { body = t }) stream) (append-nil p.body)
    (told_whole (Begun-step x e len [] new y is) over)

-- what a head states stays when more comes
stated_more : {p : Place} {stream interim : List ℕ} (x : Begun p stream interim) (came : List ℕ) → IsTallied p stream
    → IsTallied (record p { unread = p.unread ++ came }) (stream ++ came)
stated_more {p} {stream} x came within h framing after z =
    let same = alone x came z in
    let accepts = subst (λ f. AcceptsRequest p.config.limits stream x.head f x.after) (sym same.1) x.accepts in
    let fits = within x.head framing x.after accepts in
    (fits.0, omega (arith, fits.1, ap (λ (k : RequestHead). most_of p.config k.method) same.0))

Standing-at : (b : Bool) (p : Place) (stream interim came : List ℕ) → StandsAt b p stream interim
    → StandsAt b (record p { unread = p.unread ++ came }) (stream ++ came) interim
Standing-at true p stream interim came x = (begun_grows x.0 came, x.1, stated_more x.0 came x.2)
Standing-at false p stream interim came x =
    record { server = x.server; unread = ap (λ (t : List ℕ). t ++ came) x.unread; body = x.body; stated = x.stated; silent = x.silent }

pub Standing-append : (p : Place) (stream interim came : List ℕ) → Standing p stream interim
    → Standing (record p { unread = p.unread ++ came }) (stream ++ came) interim
Standing-append p stream interim came x = Standing-at p.within p stream interim came x
