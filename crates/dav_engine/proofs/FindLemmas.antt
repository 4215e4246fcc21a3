-- How code follows a PROPFIND.
use Rattle.std.proofs.Common.{◌≡◌, ◌&&◌, Bool, true, false, List, [], ◌∷◌, ◌++◌, Option, Some, None, Result, Ok, Err, refl, sym, ap, subst, ◌∙◌}
use Rattle.dav_core.specs.declared.errors.FsError.{FsError}
use Rattle.dav_core.specs.declared.errors.DavError.{DavError}
use Rattle.dav_core.specs.declared.errors.DavError.TheVariants as dav
use Rattle.dav_core.specs.declared.fs.DavMetaData.{DavMetaData}
use Rattle.dav_core.specs.Asking.{StoreState, Asks, Metadata}
use Rattle.dav_core.specs.Element.{ElementTree}
use Rattle.dav_core.specs.Path.{PathText, names}
use Rattle.dav_engine.specs.declared.reply.ReplyBody.TheVariants as reply
use Rattle.dav_engine.specs.declared.request.Body.{Body}
use Rattle.dav_engine.specs.Caller.{Caller}
use Rattle.dav_engine.specs.FindView.{response_at}
use Rattle.dav_engine.specs.Folder.{closed, location_found, room_at}
use Rattle.dav_engine.specs.Follows.{as_is, Follows, followed, gave_up}
use Rattle.dav_engine.specs.Headers.{Headers}
use Rattle.dav_engine.specs.Method.{MethodPlan, ◌>>=◌, gives, required}
use Rattle.dav_engine.specs.Plan.{Done, Ask, Look, Keep, Locks, Ran, ran_done, Cut}
use Rattle.dav_engine.specs.Propfind.{FindHeaders, Query, Responses, query_in, tell_itself, tell_below, tells_itself, tells_members, is_infinite, is_served_depth, finite_depth, found_reply, propfind_reply, propfind_found, propfind_if, propfind}
use Rattle.dav_engine.specs.Properties.{Writer, writer, WithQuota, properties_of, told_by}
use Rattle.dav_engine.specs.Reply.{Reply, Header}
use Rattle.dav_engine.specs.ResponseWriter.{ResponseWriter, started, alone}
use Rattle.dav_engine.specs.Taking.{FollowsHandingOn}
use Rattle.dav_engine.proofs.CutPlans.{cut_first, cut_bind, cut_in}
use Rattle.dav_engine.proofs.Following.{ran_bind, follows_ask, follows_done}
use Rattle.dav_engine.proofs.PartLemmas.{Gave, Stopped}
use Rattle.dav_engine.proofs.GuardLemmas.{follows_ok, follows_fails}
use Rattle.dav_engine.proofs.TellLemmas.{Told, more_and_more, nothing_told, same_writer}

-- parts of a plan are carried out in their order, however they are grouped
same_order : {A B C : Type 0} (plan : MethodPlan A) (f : A → MethodPlan B) (g : B → MethodPlan C) → ((plan >>= f) >>= g) ≡ (plan >>= (λ a. f a >>= g))
same_order (Done (Ok a)) f g = refl
same_order (Done (Err e)) f g = refl
same_order (Ask c go) f g = λ i. Ask c (λ answer. same_order (go answer) f g i)
same_order (Look go) f g = λ i. Look (λ ls. same_order (go ls) f g i)
same_order (Keep ls rest) f g = λ i. Keep ls (same_order rest f g i)

-- ---- what was found, and what is below it

module _ (locks : Locks) (h : FindHeaders) (w : Writer) (p : PathText) (m : DavMetaData) where
  -- how the resource itself is told
  abbrev itself : MethodPlan Responses
  itself = tell_itself (tells_itself h.depth) w p m

  -- what follows its response
  abbrev one_response : WithQuota ElementTree → MethodPlan Responses
  one_response one = gives (one.0 ∷ [], one.1)

  pub itself_told : {T : Type 0} (opened taken : T → ElementTree → T) (to : T) (old mid : ResponseWriter T) {s t : StoreState} → true ≡ tells_itself h.depth → old ≡ started opened w to
      → Told taken locks alone (properties_of old.writer p m) old mid s t → Told taken locks as_is (λ known. itself) (started opened w to) mid s t
  itself_told {T} opened taken to old mid {s} {t} said fresh one =
      let here : Told taken locks alone (properties_of w p m) (started opened w to) mid s t = subst (λ (o : ResponseWriter T). Told taken locks alone (properties_of o.writer p m) o mid s t) fresh one in
      (here.0 ∷ [], subst (λ b. Gave locks (tell_itself b w p m) s (here.0 ∷ [], mid.quota) t) said (ran_bind one_response here.1 ran_done), here.2)

  pub itself_untold : {T : Type 0} (opened taken : T → ElementTree → T) (to : T) (mid : ResponseWriter T) {s : StoreState} → false ≡ tells_itself h.depth → mid ≡ started opened w to → Told taken locks as_is (λ known. itself) (started opened w to) mid s s
  itself_untold {T} opened taken to mid {s} said fresh =
      subst (λ (o : ResponseWriter T). Told taken locks as_is (λ known. itself) (started opened w to) o s s) (sym fresh)
      (nothing_told taken locks (λ known. itself) (started opened w to) (subst (λ b. Gave locks (tell_itself b w p m) s ([], None) s) said ran_done))

  -- what follows the resource itself, and what follows what is below it
  abbrev both : Responses → Responses → MethodPlan Responses
  both one more = gives (one.0 ++ more.0, more.1)

  abbrev and_below : Responses → MethodPlan Responses
  and_below one = do
    more ← tell_below (is_infinite h.depth) (room_at p) w p (m.dir && tells_members h.depth) one.1
    both one more

  pub itself_stopped : {T : Type 0} (opened taken : T → ElementTree → T) (to : T) (old : ResponseWriter T) {s t : StoreState} → true ≡ tells_itself h.depth → old ≡ started opened w to
      → Stopped locks (properties_of old.writer p m old.quota) s t → Stopped locks (response_at h w p m) s t
  itself_stopped {T} opened taken to old {s} {t} said fresh stop =
      let here : Stopped locks (properties_of w p m None) s t = subst (λ (o : ResponseWriter T). Stopped locks (properties_of o.writer p m o.quota) s t) fresh stop in
      cut_in and_below (subst (λ b. Stopped locks (tell_itself b w p m) s t) said (cut_in one_response here refl)) refl

  pub below_cut : {T : Type 0} (opened taken : T → ElementTree → T) (to : T) (deep wanted : Bool) (mid : ResponseWriter T) {s u t : StoreState} → deep ≡ is_infinite h.depth → wanted ≡ (m.dir && tells_members h.depth)
      → Told taken locks as_is (λ known. itself) (started opened w to) mid s u → Stopped locks (tell_below deep (room_at p) mid.writer p wanted mid.quota) u t
      → Stopped locks (response_at h w p m) s t
  below_cut {T} opened taken to deep wanted mid {s} {u} {t} how where_to one stop =
      let here : Stopped locks (tell_below deep (room_at p) w p wanted mid.quota) u t = subst (λ (o : Writer). Stopped locks (tell_below deep (room_at p) o p wanted mid.quota) u t) (same_writer taken (started opened w to) mid mid.quota one.0 one.2) stop in
      let there : Stopped locks (tell_below (is_infinite h.depth) (room_at p) w p (m.dir && tells_members h.depth) mid.quota) u t =
      subst (λ b. Stopped locks (tell_below (is_infinite h.depth) (room_at p) w p b mid.quota) u t) where_to (subst (λ d. Stopped locks (tell_below d (room_at p) w p wanted mid.quota) u t) how here) in
      cut_bind and_below one.1 (cut_in (both (one.0, mid.quota)) there refl)

  pub both_told : {T : Type 0} (opened taken : T → ElementTree → T) (to : T) (deep wanted : Bool) (mid new : ResponseWriter T) {s u t : StoreState} → deep ≡ is_infinite h.depth → wanted ≡ (m.dir && tells_members h.depth)
      → Told taken locks as_is (λ known. itself) (started opened w to) mid s u → Told taken locks as_is (tell_below deep (room_at p) mid.writer p wanted) mid new u t
      → Told taken locks as_is (λ known. response_at h w p m) (started opened w to) new s t
  both_told {T} opened taken to deep wanted mid new {s} {u} {t} how where_to one two =
      let here : Gave locks (tell_below deep (room_at p) w p wanted mid.quota) u (two.0, new.quota) t =
      subst (λ (o : Writer). Gave locks (tell_below deep (room_at p) o p wanted mid.quota) u (two.0, new.quota) t) (same_writer taken (started opened w to) mid mid.quota one.0 one.2) two.1 in
      let there : Gave locks (tell_below (is_infinite h.depth) (room_at p) w p (m.dir && tells_members h.depth) mid.quota) u (two.0, new.quota) t =
      subst (λ b. Gave locks (tell_below (is_infinite h.depth) (room_at p) w p b mid.quota) u (two.0, new.quota) t) where_to
      (subst (λ d. Gave locks (tell_below d (room_at p) w p wanted mid.quota) u (two.0, new.quota) t) how here) in
      (one.0 ++ two.0, ran_bind and_below one.1 (ran_bind (both (one.0, mid.quota)) there ran_done), more_and_more taken (started opened w to) mid new one.0 two.0 one.2 two.2)

  -- ---- the reply

  module _ (location : List Header) where
    -- what follows what is told
    abbrev replies : Responses → MethodPlan Reply
    replies told = gives (propfind_reply location w told.0)

    -- the rest of a PROPFIND, in its order
    abbrev pub finds : MethodPlan Reply
    finds = do
      one ← itself
      more ← tell_below (is_infinite h.depth) (room_at p) w p (m.dir && tells_members h.depth) one.1
      gives (propfind_reply location w (one.0 ++ more.0))

    in_order : (response_at h w p m >>= replies) ≡ finds
    in_order =
        same_order itself and_below replies
        ∙ (λ i. itself >>= (λ one. same_order (tell_below (is_infinite h.depth) (room_at p) w p (m.dir && tells_members h.depth) one.1) (both one) replies i))

    cut_finds : {s t : StoreState} → Stopped locks (response_at h w p m >>= replies) s t → Follows as_is finds s locks (Err dav.Memory) t locks
    cut_finds {s} {t} stop = gave_up refl (subst (λ (plan : MethodPlan Reply). Cut Asks locks plan s locks t locks) in_order stop)

    pub finds_stopped : {s t : StoreState} → Stopped locks (response_at h w p m) s t → Follows as_is finds s locks (Err dav.Memory) t locks
    finds_stopped stop = cut_finds (cut_in replies stop refl)

    pub finds_short : {T : Type 0} (opened taken : T → ElementTree → T) (to : T) (new : ResponseWriter T) {s t : StoreState} → Told taken locks as_is (λ known. response_at h w p m) (started opened w to) new s t → Follows as_is finds s locks (Err dav.Memory) t locks
    finds_short {T} opened taken to new told = cut_finds (cut_bind replies told.1 cut_first)

    pub finds_all : {T : Type 0} (opened taken : T → ElementTree → T) (to : T) (new : ResponseWriter T) (r : Reply) {s t : StoreState} → Told taken locks as_is (λ known. response_at h w p m) (started opened w to) new s t
        → r ≡ found_reply location reply.Nothing → FollowsHandingOn opened taken to locks finds s (Ok (r, Some new.finished)) t
    finds_all {T} opened taken to new r {s} {t} told is =
        let whole : Reply = propfind_reply location w told.0 in (
          Ok whole,
          followed (subst (λ (plan : MethodPlan Reply). Ran Asks plan s locks (Ok whole) t locks) in_order (ran_bind replies told.1 ran_done)),
          (
            told_by w [],
            told.0,
            refl,
            ap (λ (x : Reply). x.status) is,
            ap (λ (x : Reply). record x { body = reply.Tree (told_by w told.0) }) (sym is),
            ap (λ (x : Reply). x.body) is,
            ap (λ (n : ResponseWriter T). n.finished) told.2,
          ),
        )

-- ---- the method

module _ (h : FindHeaders) (headers : Headers) (p : PathText) (content : Body) (who : Caller) where
  module _ (location : List Header) (m : DavMetaData) where
    -- how a query is answered
    abbrev answers : Query → MethodPlan Reply
    answers query = finds None h (writer query.0 headers who.principal query.1) p m location

    -- the same by a writer and a path that equal its own
    pub answers_by : (query : Query) (w : Writer) (q : PathText) {s t : StoreState} {ls : Locks} {r : Result Reply DavError} → w ≡ writer query.0 headers who.principal query.1 → q ≡ p
        → Follows as_is (finds None h w q m location) s ls r t ls → Follows as_is (answers query) s ls r t ls
    answers_by query w q {s} {t} {ls} {r} same path more =
        subst (λ (x : Writer). Follows as_is (finds None h x p m location) s ls r t ls) same (subst (λ (x : PathText). Follows as_is (finds None h w x m location) s ls r t ls) path more)

    pub no_query : {s : StoreState} {ls : Locks} → None ≡ query_in content → Follows as_is (propfind_found h headers p location content who m) s ls (Err dav.XmlParseError) s ls
    no_query is = follows_fails _ dav.XmlParseError answers (ap (λ (o : Option Query). required o dav.XmlParseError) (sym is)) refl

    pub this_query : (query : Query) {s t : StoreState} {ls : Locks} {r : Result Reply DavError} → Some query ≡ query_in content
        → Follows as_is (answers query) s ls r t ls → Follows as_is (propfind_found h headers p location content who m) s ls r t ls
    this_query query is more = follows_ok _ query answers (ap (λ (o : Option Query). required o dav.XmlParseError) (sym is)) more

  pub depth_refused : (served : Bool) (r : Reply) {s : StoreState} {ls : Locks} → served ≡ is_served_depth h → served ≡ false → r ≡ finite_depth → Follows as_is (propfind h headers p content who) s ls (Ok r) s ls
  depth_refused served r {s} {ls} said is reply =
      subst (λ b. Follows as_is (propfind_if b h headers p content who) s ls (Ok r) s ls) (sym is ∙ said) (follows_done (ap Ok reply))

  pub not_there : (served : Bool) (e : FsError) {s t : StoreState} {ls : Locks} → served ≡ is_served_depth h → served ≡ true → Asks (Metadata (names p)) s (Err e) t
      → Follows as_is (propfind h headers p content who) s ls (Err (dav.FsError e)) t ls
  not_there served e {s} {t} {ls} said is one =
      subst (λ b. Follows as_is (propfind_if b h headers p content who) s ls (Err (dav.FsError e)) t ls) (sym is ∙ said) (follows_ask one (follows_done refl))

  pub is_there : (served : Bool) (m : DavMetaData) (r : Result Reply DavError) {s u t : StoreState} {ls : Locks} → served ≡ is_served_depth h → served ≡ true → Asks (Metadata (names p)) s (Ok m) u
      → Follows as_is (propfind_found h headers (closed m.dir p) (location_found (Some m) p) content who m) u ls r t ls → Follows as_is (propfind h headers p content who) s ls r t ls
  is_there served m r {s} {u} {t} {ls} said is one rest =
      subst (λ b. Follows as_is (propfind_if b h headers p content who) s ls r t ls) (sym is ∙ said) (follows_ask one rest)
