-- Leave for what is asked is leave for the request.
use Rattle.std.proofs.Common.{◌≡◌, ◌≢◌, ◌⊎◌, inl, inr, ◌&&◌, ◌||◌, ◌↔◌, ℕ, Bool, true, false, true≢false, All, IfSome, IsTrue, bytes_eq, codes, List, [], ◌∷◌, Option, Some, None, Result, Ok, Err, refl, sym, ap, subst, ◌∙◌}
use Rattle.std.specs.List.{cons_option, filter_map, list_all}
use Rattle.std.specs.Result.{result_ok}
use Rattle.std.proofs.lemmas.Bool.{and_parts}
use Rattle.std.proofs.lemmas.List.Elements.{All-cons, All-head, All-nil, All-tail}
use Rattle.std.proofs.lemmas.Slice.Eq.{bytes_eq-Decides}
use Rattle.http_header.specs.HeaderMap.{get_all}
use Rattle.dav_core.specs.declared.errors.DavError.{DavError}
use Rattle.dav_core.specs.declared.method.DavMethod.{DavMethod}
use Rattle.dav_core.specs.declared.method.DavMethod.TheVariants.{Copy, Get, Head, Move, Options, PropFind}
use Rattle.dav_core.specs.Path.{Path, PathText, names, star}
use Rattle.dav_engine.specs.Conditions.{Addressed, AreConditions, Conditions, SaysLists, paths_in}
use Rattle.dav_engine.specs.CopyMove.{DestinationNames}
use Rattle.dav_engine.specs.Headers.{Decodes}
use Rattle.dav_engine.proofs.OnePlanLemmas.{one_conditions, one_place}
use Rattle.dav_server.specs.Head.{Request}
use Rattle.dav_server.specs.Headers.{headers_of}
use Rattle.dav_server.specs.Holder.{IsRequestTo}
use Rattle.dav_server.specs.Machine.{Exchange, Settings}
use Rattle.dav_server.specs.Method.{GivesServed}
use Rattle.dav_server.specs.Target.{TargetNames}
use Rattle.dav_server.proofs.HeadLemmas.{one_head}
use Rattle.dav_server.proofs.MeansWorld.{one_method}
use Rattle.dav_server.proofs.TargetLemmas.{one_outcome}
use Rattle.dav_access.specs.Rules.{Rules, has_right, may_read, may_see, may_write}
use Rattle.dav_confined.specs.Asked.{AskedView, IsAsked, has_destination, has_leave, has_target, may_write_at}
use Rattle.dav_server.specs.TagLaws.{is_safe}
use Rattle.dav_confined.specs.Granted.{OnlyReadsThere}
use Rattle.dav_confined.specs.Leave.{HasLeave, SpeaksOfReadable, needed}
use Rattle.dav_confined.specs.Sight.{MayLook, OnlyReads, may_look, only_reads}

-- ---- tests

or_left : (a b : Bool) → a ≡ true → (a || b) ≡ true
or_left true b is = refl
or_left false b is = cc

or_right : (a b : Bool) → b ≡ true → (a || b) ≡ true
or_right true b is = refl
or_right false b is = is

and_join : (a b : Bool) → a ≡ true → b ≡ true → (a && b) ≡ true
and_join true b one two = two
and_join false b one two = cc

-- what is left of a choice whose first part doesn't hold
other_of : (a b : Bool) → (a ≡ true → ⊥) → (a || b) ≡ true → b ≡ true
other_of true b none is = absurd (none refl)
other_of false b none is = is

abbrev Outcome : Type 0
Outcome = Result PathText DavError

-- an outcome that is a path is one path
ok_same : (p q : PathText) (r : Outcome) → r ≡ Ok p → r ≡ Ok q → p ≡ q
ok_same p q (Ok r) one two = cc
ok_same p q (Err e) one two = cc

-- ---- the paths that lists speak of

module _ (f : Path → Bool) where
  abbrev Readable : Addressed → Type 0
  Readable l = IfSome l.path (λ q. f q ≡ true)

  abbrev paths : List Addressed → List Path
  paths lists = filter_map (λ l. l.path) lists

  one_readable : (o : Option Path) (l : Addressed) (lists : List Addressed) → l.path ≡ o → (list_all f (paths lists) ≡ true → All Readable lists)
      → list_all f (cons_option o (paths lists)) ≡ true → All Readable (l ∷ lists)
  one_readable None l lists here more is = All-cons Readable l lists (subst (λ (o : Option Path). IfSome o (λ q. f q ≡ true)) (sym here) tt) (more is)
  one_readable (Some q) l lists here more is =
      let two = and_parts (f q) (list_all f (paths lists)) is in
      All-cons Readable l lists (subst (λ (o : Option Path). IfSome o (λ q. f q ≡ true)) (sym here) two.0) (more two.1)

  all_readable : (lists : List Addressed) → list_all f (paths lists) ≡ true → All Readable lists
  all_readable [] is = All-nil Readable
  all_readable (l ∷ lists) is = one_readable l.path l lists refl (all_readable lists) is

  one_read : (o : Option Path) (rest : List Path) → IfSome o (λ q. f q ≡ true) → list_all f rest ≡ true → list_all f (cons_option o rest) ≡ true
  one_read None rest here more = more
  one_read (Some q) rest here more = and_join (f q) (list_all f rest) here more

  readable_all : (lists : List Addressed) → All Readable lists → list_all f (paths lists) ≡ true
  readable_all [] all = refl
  readable_all (l ∷ lists) all = one_read l.path (paths lists) (All-head Readable l lists all) (readable_all lists (All-tail Readable l lists all))

module _ (rules : Rules) (s : Settings) (x : Exchange) (a : AskedView) (asked : IsAsked s x a) where
  -- what holds of the reading that is asked of holds of each
  pub by_reading : (G : Request → DavMethod → PathText → Type 0) → G asked.request a.method a.path → (r : Request) (m : DavMethod) (p : PathText) → IsRequestTo s x r m p → G r m p
  by_reading G is r m p to =
      let one : asked.request ≡ r = one_head x.head asked.request r asked.to.head to.head in
      let mine : GivesServed r.method (Ok a.method) = subst (λ (q : Request). GivesServed q.method (Ok a.method)) one asked.to.method in
      let two : a.method ≡ m = one_method r.method a.method m mine to.method in
      let named : TargetNames s.prefix m r.target (Ok a.path) =
      subst (λ (n : DavMethod). TargetNames s.prefix n r.target (Ok a.path)) two (subst (λ (q : Request). TargetNames s.prefix a.method q.target (Ok a.path)) one asked.to.target) in
      let three : a.path ≡ p = ok_same a.path p (Ok a.path) refl (one_outcome s.prefix m r.target (Ok a.path) (Ok p) named to.target) in
      subst (λ (q : PathText). G r m q) three (subst (λ (n : DavMethod). G r n a.path) two (subst (λ (q : Request). G q a.method a.path) one is))

  -- the one path that Destination names
  pub place_is : (d : PathText) → DestinationNames a.path.prefix (get_all (headers_of asked.request.fields) (codes "destination")) (Ok d) → a.destination ≡ Some d
  place_is d named = asked.says.destination ∙ ap result_ok (one_place a.path.prefix (get_all (headers_of asked.request.fields) (codes "destination")) asked.says.named named)

  -- the lists that the If says
  lists_are : (lists : List Addressed) → SaysLists a.path.prefix (names a.path) (get_all (headers_of asked.request.fields) (codes "if")) lists → asked.says.conditions.lists ≡ Some lists
  lists_are lists says =
      ap (λ (c : Conditions). c.lists)
      (one_conditions (headers_of asked.request.fields) a.path.prefix (names a.path) asked.says.conditions (record asked.says.conditions { lists = Some lists }) asked.says.read
      (record { match = asked.says.read.match; none_match = asked.says.read.none_match; lists = says }))

  -- ---- leave for what is asked

  module _ (is : has_leave rules x.principal a ≡ true) where
    parts : (has_target rules x.principal a ≡ true) × ((has_destination rules x.principal a.method a.destination && list_all (may_read rules x.principal) a.spoken_of) ≡ true)
    parts = and_parts (has_target rules x.principal a) (has_destination rules x.principal a.method a.destination && list_all (may_read rules x.principal) a.spoken_of) is

    rest : (has_destination rules x.principal a.method a.destination ≡ true) × (list_all (may_read rules x.principal) a.spoken_of ≡ true)
    rest = and_parts (has_destination rules x.principal a.method a.destination) (list_all (may_read rules x.principal) a.spoken_of) parts.1

    at_target : a.path.bytes ≢ star → has_right rules x.principal (needed a.method) (names a.path) ≡ true
    at_target other = other_of (bytes_eq a.path.bytes star) (has_right rules x.principal (needed a.method) (names a.path)) (λ e. other ((bytes_eq-Decides a.path.bytes star).0 e)) parts.0

    writes_at : (m : DavMethod) (o : Option PathText) (d : PathText) → (m ≡ Copy) ⊎ (m ≡ Move) → o ≡ Some d → has_destination rules x.principal m o ≡ true → may_write rules x.principal (names d) ≡ true
    writes_at m o d (inl copy) here has = subst (λ (p : Option PathText). may_write_at rules x.principal p ≡ true) here (subst (λ (n : DavMethod). has_destination rules x.principal n o ≡ true) copy has)
    writes_at m o d (inr move) here has = subst (λ (p : Option PathText). may_write_at rules x.principal p ≡ true) here (subst (λ (n : DavMethod). has_destination rules x.principal n o ≡ true) move has)

    pub leave_of : HasLeave rules s x
    leave_of = record {
      target = by_reading (λ r m p. p.bytes ≢ star → has_right rules x.principal (needed m) (names p) ≡ true) at_target;
      destination = λ r m p d to is_one named. by_reading
          (λ r m p. (m ≡ Copy) ⊎ (m ≡ Move) → DestinationNames p.prefix (get_all (headers_of r.fields) (codes "destination")) (Ok d) → may_write rules x.principal (names d) ≡ true)
          (λ one named. writes_at a.method a.destination d one (place_is d named) rest.0) r m p to is_one named;
      conditions = λ r m p lists to says. by_reading
          (λ r m p. SaysLists p.prefix (names p) (get_all (headers_of r.fields) (codes "if")) lists → SpeaksOfReadable rules x.principal lists)
          (λ says. all_readable (may_read rules x.principal) lists (subst (λ (qs : List Path). list_all (may_read rules x.principal) qs ≡ true) (asked.says.spoken_of ∙ ap paths_in (lists_are lists says)) rest.1)) r m p to says;
    }

  -- ---- leave for the request

  module _ (leave : HasLeave rules s x) where
    target_by : (b : Bool) → bytes_eq a.path.bytes star ≡ b → (b || has_right rules x.principal (needed a.method) (names a.path)) ≡ true
    target_by true same = refl
    target_by false same = leave.target asked.request a.method a.path asked.to (λ e. true≢false (sym ((bytes_eq-Decides a.path.bytes star).1 e) ∙ same))

    place_of : (r : Result PathText DavError) (d : PathText) → result_ok r ≡ Some d → r ≡ Ok d
    place_of (Ok p) d is = let same : p ≡ d = cc in ap Ok same
    place_of (Err e) d is = cc

    written : (one : (a.method ≡ Copy) ⊎ (a.method ≡ Move)) (o : Option PathText) → a.destination ≡ o → may_write_at rules x.principal o ≡ true
    written one None here = refl
    written one (Some d) here =
        let is : asked.says.place ≡ Ok d = place_of asked.says.place d (sym asked.says.destination ∙ here) in
        leave.destination asked.request a.method a.path d asked.to one
        (subst (DestinationNames a.path.prefix (get_all (headers_of asked.request.fields) (codes "destination"))) is asked.says.named)

    destination_by : (m : DavMethod) → a.method ≡ m → has_destination rules x.principal m a.destination ≡ true
    destination_by Copy is = written (inl is) a.destination refl
    destination_by Move is = written (inr is) a.destination refl
    destination_by _ is = refl

    read_by : (o : Option (List Addressed)) → asked.says.conditions.lists ≡ o → list_all (may_read rules x.principal) (paths_in o) ≡ true
    read_by None is = refl
    read_by (Some lists) is =
        readable_all (may_read rules x.principal) lists
        (leave.conditions asked.request a.method a.path lists asked.to
        (subst (Decodes (SaysLists a.path.prefix (names a.path)) (get_all (headers_of asked.request.fields) (codes "if"))) is asked.says.read.lists))

    pub of_leave : has_leave rules x.principal a ≡ true
    of_leave =
        and_join (has_target rules x.principal a) (has_destination rules x.principal a.method a.destination && list_all (may_read rules x.principal) a.spoken_of)
        (target_by (bytes_eq a.path.bytes star) refl)
        (and_join (has_destination rules x.principal a.method a.destination) (list_all (may_read rules x.principal) a.spoken_of) (destination_by a.method refl)
        (subst (λ (qs : List Path). list_all (may_read rules x.principal) qs ≡ true) (sym asked.says.spoken_of) (read_by asked.says.conditions.lists refl)))

  -- ---- looks

  -- the If of a request speaks of what may be read, by what is asked
  speaks : list_all (may_read rules x.principal) a.spoken_of ≡ true → (lists : List Addressed)
      → SaysLists a.path.prefix (names a.path) (get_all (headers_of asked.request.fields) (codes "if")) lists → SpeaksOfReadable rules x.principal lists
  speaks is lists says =
      all_readable (may_read rules x.principal) lists (subst (λ (qs : List Path). list_all (may_read rules x.principal) qs ≡ true) (asked.says.spoken_of ∙ ap paths_in (lists_are lists says)) is)

  -- and what is asked, by the If
  spoken : ((lists : List Addressed) → SaysLists a.path.prefix (names a.path) (get_all (headers_of asked.request.fields) (codes "if")) lists → SpeaksOfReadable rules x.principal lists)
      → (o : Option (List Addressed)) → asked.says.conditions.lists ≡ o → list_all (may_read rules x.principal) (paths_in o) ≡ true
  spoken all None is = refl
  spoken all (Some lists) is =
      readable_all (may_read rules x.principal) lists
      (all lists (subst (Decodes (SaysLists a.path.prefix (names a.path)) (get_all (headers_of asked.request.fields) (codes "if"))) is asked.says.read.lists))

  pub looks_by : may_look rules x.principal a ≡ true → MayLook rules s x
  looks_by is =
      let two = and_parts (is_safe a.method) (may_see rules x.principal (names a.path) && list_all (may_read rules x.principal) a.spoken_of) is in
      let rest = and_parts (may_see rules x.principal (names a.path)) (list_all (may_read rules x.principal) a.spoken_of) two.1 in
      record { request = asked.request; method = a.method; path = a.path; to = asked.to; safe = two.0; seen = rest.0; conditions = speaks rest.1 }

  abbrev Sees : Request → DavMethod → PathText → Type 0
  Sees r m p =
      (is_safe m ≡ true) × (may_see rules x.principal (names p) ≡ true)
      × ((lists : List Addressed) → SaysLists p.prefix (names p) (get_all (headers_of r.fields) (codes "if")) lists → SpeaksOfReadable rules x.principal lists)

  pub by_looks : MayLook rules s x → may_look rules x.principal a ≡ true
  by_looks look =
      let here : Sees asked.request a.method a.path =
      by_reading (λ r m p. Sees r m p → Sees asked.request a.method a.path) (λ sees. sees) look.request look.method look.path look.to (look.safe, look.seen, look.conditions) in
      and_join (is_safe a.method) (may_see rules x.principal (names a.path) && list_all (may_read rules x.principal) a.spoken_of) here.0
      (and_join (may_see rules x.principal (names a.path)) (list_all (may_read rules x.principal) a.spoken_of) here.1
      (subst (λ (qs : List Path). list_all (may_read rules x.principal) qs ≡ true) (sym asked.says.spoken_of) (spoken here.2 asked.says.conditions.lists refl)))

  -- ---- reads

  -- what only reads needs to read, and names no place to write at
  needs_reads : (m : DavMethod) → is_safe m ≡ true → (who : Option (List ℕ)) (p : Path) → may_read rules who p ≡ true → has_right rules who (needed m) p ≡ true
  needs_reads Get safe who p is = is
  needs_reads Head safe who p is = is
  needs_reads Options safe who p is = is
  needs_reads PropFind safe who p is = is
  needs_reads _ safe who p is = absurd (true≢false (sym safe))

  nowhere : (m : DavMethod) → is_safe m ≡ true → (who : Option (List ℕ)) (o : Option PathText) → has_destination rules who m o ≡ true
  nowhere Copy safe who o = absurd (true≢false (sym safe))
  nowhere Move safe who o = absurd (true≢false (sym safe))
  nowhere _ safe who o = refl

  pub reads_by : only_reads rules x.principal a ≡ true → HasLeave rules s x × OnlyReadsThere rules s x
  reads_by is =
      let two = and_parts (is_safe a.method) (may_read rules x.principal (names a.path) && list_all (may_read rules x.principal) a.spoken_of) is in
      let rest = and_parts (may_read rules x.principal (names a.path)) (list_all (may_read rules x.principal) a.spoken_of) two.1 in (
        leave_of (and_join (has_target rules x.principal a) (has_destination rules x.principal a.method a.destination && list_all (may_read rules x.principal) a.spoken_of)
            (or_right (bytes_eq a.path.bytes star) (has_right rules x.principal (needed a.method) (names a.path)) (needs_reads a.method two.0 x.principal (names a.path) rest.0))
            (and_join (has_destination rules x.principal a.method a.destination) (list_all (may_read rules x.principal) a.spoken_of) (nowhere a.method two.0 x.principal a.destination) rest.1)),
        λ r m p to. by_reading (λ r m p. (is_safe m ≡ true) × (may_read rules x.principal (names p) ≡ true)) (two.0, rest.0) r m p to,
      )

  pub by_reads : HasLeave rules s x × OnlyReadsThere rules s x → only_reads rules x.principal a ≡ true
  by_reads (leave, only) =
      let here = only asked.request a.method a.path asked.to in
      and_join (is_safe a.method) (may_read rules x.principal (names a.path) && list_all (may_read rules x.principal) a.spoken_of) here.0
      (and_join (may_read rules x.principal (names a.path)) (list_all (may_read rules x.principal) a.spoken_of) here.1
      (subst (λ (qs : List Path). list_all (may_read rules x.principal) qs ≡ true) (sym asked.says.spoken_of) (read_by leave asked.says.conditions.lists refl)))
