-- Two servers that are alike for who looks tell the same.
use Rattle.std.proofs.Common.{◌≡◌, ◌≢◌, ◌&&◌, ◌++◌, cond, not, ℕ, Bool, true, false, All, List, [], ◌∷◌, map, Option, Some, None, Ok, refl, sym, ap, subst, ◌∙◌, arith}
use Rattle.std.specs.List.{filter}
use Rattle.std.proofs.lemmas.Bool.{and_parts}
use Rattle.std.proofs.lemmas.List.Elements.{All-cons, All-nil}
use Rattle.dav_core.specs.declared.method.DavMethod.{DavMethod}
use Rattle.dav_core.specs.declared.method.DavMethod.TheVariants.{Options, PropFind}
use Rattle.dav_core.specs.Element.{ElementTree, children_of, with_children}
use Rattle.dav_core.specs.Path.{Path, PathText, names, star}
use Rattle.dav_core.specs.World.{World, is_folder}
use Rattle.dav_engine.specs.Caller.{Caller}
use Rattle.dav_engine.specs.Folder.{child_of, closed}
use Rattle.dav_engine.specs.Plan.{Locks}
use Rattle.dav_engine.specs.Reply.{Reply}
use Rattle.dav_engine.specs.declared.request.Body.TheVariants as body
use Rattle.dav_engine.proofs.ChildLemmas.{names_closed}
use Rattle.dav_server.specs.Head.{IsHead, Request}
use Rattle.dav_server.specs.Holder.{IsRequestTo}
use Rattle.dav_server.specs.Machine.{Exchange, Settings, Steps}
use Rattle.dav_server.specs.Method.{GivesServed}
use Rattle.dav_server.specs.Server.{Server}
use Rattle.dav_server.specs.Target.{TargetNames}
use Rattle.dav_server.proofs.HeadLemmas.{one_head}
use Rattle.dav_server.proofs.HeldConditions.{ok_same}
use Rattle.dav_server.proofs.MeansWorld.{one_method}
use Rattle.dav_server.proofs.TargetLemmas.{one_outcome}
use Rattle.dav_access.specs.Rules.{Rules, may_read, may_see}
use Rattle.dav_confined.specs.Asked.{AskedView, IsAsked}
use Rattle.dav_confined.specs.Seen.{AgreeAt, CoverAlike}
use Rattle.dav_confined.specs.Sight.{Looks, MayLook}
use Rattle.dav_confined.proofs.GrantedLemmas.{answers_stay_in_grants}
use Rattle.dav_http.specs.Steps.{IsStepFor}
use Rattle.dav_http.proofs.OneAnswer.{one_exchange}
use Rattle.dav_xml.specs.Namespaces.{document}
use Rattle.dav_seen.specs.Laws.{AreAlikeFor, WaysMayBeSeen, WaysStayInSight}
use Rattle.dav_seen.specs.Told.{listing_reply, ways_told}
use Rattle.dav_seen.specs.Ways.{AreTold, IsListedBy, IsListedIf, IsListing, IsMemberTold, IsReadIn, IsReading, IsReplyIf, IsWayReply, depth_in, is_deep, is_way, listed, member_head, names_told, nowhere, read, refused, replied, responses_of, unread, ways}
use Rattle.std.specs.Result.{result_ok}

-- ---- lists

filter_step : {A : Type 0} (x : A) (xs ys : List A) (p q : Bool) → p ≡ q → xs ≡ ys → cond p (x ∷ xs) xs ≡ cond q (x ∷ ys) ys
filter_step x xs ys p q same rest = ap (λ c. cond c (x ∷ xs) xs) same ∙ ap (λ zs. cond q (x ∷ zs) zs) rest

filter_same : {A : Type 0} (f g : A → Bool) → ((x : A) → f x ≡ g x) → (xs : List A) → filter f xs ≡ filter g xs
filter_same f g same [] = refl
filter_same f g same (x ∷ xs) = filter_step x (filter f xs) (filter g xs) (f x) (g x) (same x) (filter_same f g same xs)

kept_if : {A : Type 0} (P : A → Type 0) (x : A) (xs : List A) (b : Bool) → (b ≡ true → P x) → All P xs → All P (cond b (x ∷ xs) xs)
kept_if P x xs true here all = All-cons P x xs (here refl) all
kept_if P x xs false here all = all

all_filtered : {A : Type 0} (P : A → Type 0) (f : A → Bool) → ((x : A) → f x ≡ true → P x) → (xs : List A) → All P (filter f xs)
all_filtered P f has [] = All-nil P
all_filtered P f has (x ∷ xs) = kept_if P x (filter f xs) (f x) (has x) (all_filtered P f has xs)

-- ---- what may be seen

pub ways_may_be_seen : WaysMayBeSeen
ways_may_be_seen rules who w p members other seen =
    All-cons (λ (q : PathText). may_see rules who (names q) ≡ true) (closed true p) (filter (is_way rules who w) (map (λ name. child_of p name true) members))
    (subst (λ (q : Path). may_see rules who q ≡ true) (sym (names_closed true p other)) seen)
    (all_filtered (λ (q : PathText). may_see rules who (names q) ≡ true) (is_way rules who w)
    (λ q is. (and_parts (may_see rules who (names q)) (not (may_read rules who (names q)) && is_folder w (names q)) is).0) (map (λ name. child_of p name true) members))

-- ---- what is asked

-- some request of a principal with this head
abbrev exchange_at : List ℕ → Option (List ℕ) → Exchange
exchange_at head who = record { head = head; body = body.None; principal = who; moment = 0; token = None }

-- it is for one path, by one method
one_target : (s : Settings) (x : Exchange) (r q : Request) (m n : DavMethod) (p t : PathText) → IsRequestTo s x r m p → IsRequestTo s x q n t → (m ≡ n) × (p ≡ t)
one_target s x r q m n p t here there =
    let one : r ≡ q = one_head x.head r q here.head there.head in
    let two : m ≡ n = one_method q.method m n (subst (λ (k : Request). GivesServed k.method (Ok m)) one here.method) there.method in
    let named : TargetNames s.prefix n q.target (Ok p) =
    subst (λ (k : DavMethod). TargetNames s.prefix k q.target (Ok p)) two (subst (λ (k : Request). TargetNames s.prefix m k.target (Ok p)) one here.target) in
    (two, ok_same (one_outcome s.prefix n q.target (Ok p) (Ok t) named there.target))

-- ---- two servers

module _ (rules : Rules) (who : Caller) (a b : Server) (alike : AreAlikeFor rules who.principal a b) where
  way_if : (q : PathText) (x : Bool) → may_see rules who.principal (names q) ≡ x
      → (x && (not (may_read rules who.principal (names q)) && is_folder a.state.store.world (names q)))
      ≡ (x && (not (may_read rules who.principal (names q)) && is_folder b.state.store.world (names q)))
  way_if q true is = ap (λ f. not (may_read rules who.principal (names q)) && f) (alike.folders (names q) is)
  way_if q false is = refl

  same_way : (q : PathText) → is_way rules who.principal a.state.store.world q ≡ is_way rules who.principal b.state.store.world q
  same_way q = way_if q (may_see rules who.principal (names q)) refl

  same_ways : (p : PathText) (members : List (List ℕ)) → ways rules who.principal a.state.store.world p members ≡ ways rules who.principal b.state.store.world p members
  same_ways p members =
      ap (λ qs. closed true p ∷ qs)
      (filter_same (is_way rules who.principal a.state.store.world) (is_way rules who.principal b.state.store.world) same_way (map (λ name. child_of p name true) members))

  -- a request that only reads has the same reply
  same_step : (head bytes : List ℕ) (reply other : Reply) → IsReading rules a.settings.prefix who.principal head → IsStepFor head bytes who a reply a → IsStepFor head bytes who b other b → reply ≡ other
  same_step head bytes reply other ((q, is), reads) here there =
      let x = here.exchange in
      let same : there.exchange ≡ x = one_exchange head bytes who there.exchange x q is there.is_exchange here.is_exchange in
      let may = reads a.settings x refl here.is_exchange.head_is here.is_exchange.principal in
      let ran : Steps a.settings x a.state.store (Some alike.list) reply a.state.store a.state.locks =
      subst (λ (l : Locks). Steps a.settings x a.state.store l reply a.state.store a.state.locks) alike.locks here.answers in
      let also : Steps a.settings x b.state.store (Some alike.others) other b.state.store b.state.locks =
      subst (λ (s : Settings). Steps s x b.state.store (Some alike.others) other b.state.store b.state.locks) alike.settings
      (subst (λ (y : Exchange). Steps b.settings y b.state.store (Some alike.others) other b.state.store b.state.locks) same
      (subst (λ (l : Locks). Steps b.settings there.exchange b.state.store l other b.state.store b.state.locks) alike.other_locks there.answers)) in
      answers_stay_in_grants rules a.settings x a.state.store a.state.store b.state.store b.state.store alike.list alike.others a.state.locks b.state.locks reply other
      may.0 may.1 (omega (arith, here.is_exchange.moment)) ran also here.ample there.ample alike.refusals alike.world alike.other
      (subst (λ (u : Option (List ℕ)). AgreeAt (may_read rules u) a.state.store.world b.state.store.world) (sym here.is_exchange.principal) alike.agree)
      (subst (λ (u : Option (List ℕ)). CoverAlike (may_read rules u) alike.list alike.others) (sym here.is_exchange.principal) alike.covered)

  of_other : (head : List ℕ) → IsReading rules b.settings.prefix who.principal head → IsReading rules a.settings.prefix who.principal head
  of_other head reading = subst (λ (s : Settings). IsReading rules s.prefix who.principal head) alike.settings reading

  to_other : (head : List ℕ) → IsReading rules a.settings.prefix who.principal head → IsReading rules b.settings.prefix who.principal head
  to_other head reading = subst (λ (s : Settings). IsReading rules s.prefix who.principal head) (sym alike.settings) reading

  same_member : (bytes : List ℕ) (q : PathText) (one two : List ElementTree) → IsMemberTold rules a bytes who q one → IsMemberTold rules b bytes who q two → one ≡ two
  same_member bytes q one two (unread none is) (unread also empty) = is ∙ sym empty
  same_member bytes q one two (unread none is) (read r reading step empty) = absurd (none (of_other (member_head q) reading))
  same_member bytes q one two (read r reading step is) (unread none empty) = absurd (none (to_other (member_head q) reading))
  same_member bytes q one two (read r reading step is) (read s also other empty) =
      is ∙ ap responses_of (same_step (member_head q) bytes r s reading step other) ∙ sym empty

  same_members : (bytes : List ℕ) (p : PathText) (members : List (List ℕ)) (one two : List ElementTree) → AreTold rules a bytes who p members one → AreTold rules b bytes who p members two → one ≡ two
  same_members bytes p [] one two is also = is ∙ sym also
  same_members bytes p (name ∷ members) one two (first, others, told, more, is) (first', others', told', more', also) =
      is ∙ ap (λ xs. xs ++ others) (same_member bytes (child_of p name false) first first' told told')
      ∙ ap (λ ys. first' ++ ys) (same_members bytes p members others others' more more') ∙ sym also

  abbrev told_after : List ℕ → List PathText → List ElementTree → ElementTree
  told_after bytes paths found =
      with_children (ways_told (result_ok (document bytes)) paths) (children_of (ways_told (result_ok (document bytes)) paths) ++ found)

  same_listing : (p : PathText) (depth : Option (List ℕ)) (bytes : List ℕ) (reply other : Reply) → IsListing rules a p depth bytes who reply → IsListing rules b p depth bytes who other → reply ≡ other
  same_listing p depth bytes reply other one two =
      let members = names_told depth rules who.principal (names p) in
      one.reply
      ∙ ap (λ paths. listing_reply (told_after bytes paths one.read)) (same_ways p members)
      ∙ ap (λ found. listing_reply (told_after bytes (ways rules who.principal b.state.store.world p members) found)) (same_members bytes p members one.read two.read one.are_told two.are_told)
      ∙ sym two.reply

  same_body : (p : PathText) (depth : Option (List ℕ)) (bytes : List ℕ) (reply other : Reply)
      → IsListedBy rules a p depth bytes who reply → IsListedBy rules b p depth bytes who other → reply ≡ other
  same_body p depth bytes reply other (refused bad one) (refused also two) = one ∙ sym two
  same_body p depth bytes reply other (refused bad one) (listed good two) = absurd (good bad)
  same_body p depth bytes reply other (listed good one) (refused bad two) = absurd (good bad)
  same_body p depth bytes reply other (listed good one) (listed fine two) = same_listing p depth bytes reply other one two

  same_listed : (deep : Bool) (p : PathText) (depth : Option (List ℕ)) (bytes : List ℕ) (reply other : Reply)
      → IsListedIf deep rules a p depth bytes who reply → IsListedIf deep rules b p depth bytes who other → reply ≡ other
  same_listed true p depth bytes reply other one two = one ∙ sym two
  same_listed false p depth bytes reply other one two = same_body p depth bytes reply other one two

  same_reply : (found : Bool) (m : DavMethod) (p : PathText) (depth : Option (List ℕ)) (bytes : List ℕ) (reply other : Reply)
      → IsReplyIf found m rules a p depth bytes who reply → IsReplyIf found m rules b p depth bytes who other → reply ≡ other
  same_reply false m p depth bytes reply other one two = one ∙ sym two
  same_reply true Options p depth bytes reply other one two = one ∙ sym two
  same_reply true PropFind p depth bytes reply other one two = same_listed (is_deep depth) p depth bytes reply other one two
  same_reply true _ p depth bytes reply other one two = one ∙ sym two

  module _ (head : List ℕ) (looks : Looks rules a.settings.prefix who.principal head) where
    asked_by : (v : AskedView) → IsReadIn a.settings head v → IsAsked a.settings (exchange_at head who.principal) v
    asked_by v reads = reads (exchange_at head who.principal) refl

    read_there : (v : AskedView) → IsReadIn b.settings head v → IsReadIn a.settings head v
    read_there v reads = subst (λ (s : Settings). IsReadIn s head v) alike.settings reads

    read_here : (v : AskedView) → IsReadIn a.settings head v → IsReadIn b.settings head v
    read_here v reads = subst (λ (s : Settings). IsReadIn s head v) (sym alike.settings) reads

    -- what is asked is one method and one path, and may be seen
    one_asked : (v w : AskedView) → IsReadIn a.settings head v → IsReadIn a.settings head w → (v.method ≡ w.method) × (v.path ≡ w.path)
    one_asked v w here there =
        let mine = asked_by v here in let other = asked_by w there in
        one_target a.settings (exchange_at head who.principal) mine.request other.request v.method w.method v.path w.path mine.to other.to

    sees : (v : AskedView) → IsReadIn a.settings head v → may_see rules who.principal (names v.path) ≡ true
    sees v here =
        let mine = asked_by v here in
        let look : MayLook rules a.settings (exchange_at head who.principal) = looks a.settings (exchange_at head who.principal) refl refl refl in
        let same = one_target a.settings (exchange_at head who.principal) mine.request look.request v.method look.method v.path look.path mine.to look.to in
        subst (λ (q : PathText). may_see rules who.principal (names q) ≡ true) (sym same.1) look.seen

    same_way_reply : (bytes : List ℕ) (reply other : Reply) → IsWayReply rules a head bytes who reply → IsWayReply rules b head bytes who other → reply ≡ other
    same_way_reply bytes reply other (nowhere none is) (nowhere also there) = is ∙ sym there
    same_way_reply bytes reply other (nowhere none is) (replied q v head_is reads there) = absurd (none v (read_there v reads))
    same_way_reply bytes reply other (replied q v head_is reads here) (nowhere none is) = absurd (none v (read_here v reads))
    same_way_reply bytes reply other (replied q v head_is reads here) (replied r w head_also reads_also there) =
        let same = one_asked v w reads (read_there w reads_also) in
        let one : r ≡ q = one_head head r q head_also head_is in
        let folders : is_folder a.state.store.world (names v.path) ≡ is_folder b.state.store.world (names v.path) = alike.folders (names v.path) (sees v reads) in
        let moved : IsReplyIf (is_folder b.state.store.world (names v.path)) v.method rules b v.path (depth_in q) bytes who other =
        subst (λ (p : PathText). IsReplyIf (is_folder b.state.store.world (names p)) v.method rules b p (depth_in q) bytes who other) (sym same.1)
        (subst (λ (m : DavMethod). IsReplyIf (is_folder b.state.store.world (names w.path)) m rules b w.path (depth_in q) bytes who other) (sym same.0)
        (subst (λ (k : Request). IsReplyIf (is_folder b.state.store.world (names w.path)) w.method rules b w.path (depth_in k) bytes who other) one there)) in
        same_reply (is_folder b.state.store.world (names v.path)) v.method v.path (depth_in q) bytes reply other
        (subst (λ (f : Bool). IsReplyIf f v.method rules a v.path (depth_in q) bytes who reply) folders here) moved

pub ways_stay_in_sight : WaysStayInSight
ways_stay_in_sight rules head bytes who a b reply other looks alike one two = same_way_reply rules who a b alike head looks bytes reply other one two
