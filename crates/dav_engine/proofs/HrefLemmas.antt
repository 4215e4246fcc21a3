-- The hrefs of a PROPFIND lead back to the paths that they are written for.
use Rattle.std.proofs.Common.{◌≡◌, ◌≢◌, ℕ, zero, suc, ◌<◌, ◌-◌, ◌&&◌, ◌++◌, arith, codes, Bool, true, false, List, [], ◌∷◌, All, length, take, append_assoc, Some, None, Result, Ok, Err, inl, inr, refl, sym, ap, subst, ◌∙◌}
use Rattle.std.proofs.lemmas.Grind.{flat_map-append}
use Rattle.std.proofs.lemmas.List.{append-nil, take_at, length_push}
use Rattle.std.proofs.lemmas.List.Elements.{All-nil, All-cons, All-head, All-tail, All-append}
use Rattle.std.specs.Prelude.{IfOk, ⊤}
use Rattle.std.specs.List.{filter}
use Rattle.std.specs.Option.{is_some}
use Rattle.dav_core.specs.declared.errors.FsError.{FsError}
use Rattle.dav_core.specs.declared.errors.DavError.{DavError}
use Rattle.dav_core.specs.declared.errors.DavError.TheVariants as dav
use Rattle.dav_core.specs.declared.fs.DavMetaData.{DavMetaData}
use Rattle.dav_core.specs.Asking.{Call, Answer, StoreState, Asks, Metadata, ReadDir, EntryMetadata}
use Rattle.dav_core.specs.CallLaws.{IsStorable}
use Rattle.dav_core.specs.Element.{ElementTree, tree_list, trees, is_named}
use Rattle.dav_core.specs.Path.{Path, PathText, IsName, joined, path_bytes, star, names, names_of, full_bytes, is_at_or_under, without_slash, IsCut, at_start, at_slash, at_end}
use Rattle.dav_core.specs.Target.{Reads}
use Rattle.dav_core.specs.UrlText.{path_text, url_text}
use Rattle.dav_core.specs.World.{World, IsWorld}
use Rattle.dav_core.proofs.Theorems.{Leaves-names, Reads-bytes, names_kept, rest_after-append, names_again}
use Rattle.dav_engine.specs.declared.reply.ReplyBody.TheVariants as reply
use Rattle.dav_engine.specs.declared.request.Body.{Body}
use Rattle.dav_engine.specs.AnswerParts.{children_named}
use Rattle.dav_engine.specs.Caller.{Caller}
use Rattle.dav_engine.specs.Folder.{closed, child_of, location_found, room_at}
use Rattle.dav_engine.specs.Headers.{Headers}
use Rattle.dav_engine.specs.Method.{MethodPlan, then as followed_by, ◌>>=◌, required, refused_as}
use Rattle.dav_engine.specs.Multistatus.{href}
use Rattle.dav_engine.specs.Plan.{Done, Ask, Look, CallStep, Locks, Ran, ran_done, ran_ask, ran_look}
use Rattle.dav_engine.specs.Properties.{Writer, writer, QuotaKnown, WithQuota, found_groups, property_response, properties_of, told_by}
use Rattle.dav_engine.specs.Propfind.{Responses, Below, query_in, tell_member, tell_if_found, tell_members, tell_listed, tell_below, tell_itself, tells_itself, tells_members, is_infinite, is_served_depth, FindHeaders, propfind_found, propfind_if, is_propfind}
use Rattle.dav_engine.specs.PropfindLaws.{IsServerPrefix, IsTarget, IsResponseFor, responses_in, PropertiesLeadBack, IsOfOneUnder, ResponsesLeadBack}
use Rattle.dav_engine.specs.Reply.{Header, Reply}
use Rattle.dav_engine.specs.WorldLaws.{OnlyReads, MayTell}
use Rattle.dav_engine.proofs.CallWorlds.{did, did_leave, asks_tell}
use Rattle.dav_engine.proofs.ChildLemmas.{names_closed}
use Rattle.dav_engine.proofs.CopiedLemmas.{one_name, storable_more, child_names}
use Rattle.dav_engine.proofs.CopyHeaderLemmas.{IsPlace, place_cut, plain_other}
use Rattle.dav_engine.proofs.PlainLemmas.{closed_at, open_names, closed_plain, closed_prefix, plain_child, child_prefix}
use Rattle.dav_engine.proofs.PropertyPlans.{IsQuestion, question_reads, only_found_all, only_all_kept}
use Rattle.dav_engine.proofs.WorldPlans.{Only, only_done, only_ask, only_look}

-- ---- what plans that only read end with

-- Where answers are such, the plan only reads, and whatever it gives is such.
pub data Ends (Told : (c : Call) → Result (Answer c) FsError → Type 0) {A : Type 0} (P : A → Type 0) : MethodPlan A → Type 0 where
  ends_ok : {a : A} → P a → Ends Told P (Done (Ok a))
  ends_err : {e : DavError} → Ends Told P (Done (Err e))
  ends_ask : {c : Call} {go : Result (Answer c) FsError → MethodPlan A} → OnlyReads c → ((answer : Result (Answer c) FsError) → Told c answer → Ends Told P (go answer)) → Ends Told P (Ask c go)
  ends_look : {go : Locks → MethodPlan A} → ((ls : Locks) → Ends Told P (go ls)) → Ends Told P (Look go)

module _ {Told : (c : Call) → Result (Answer c) FsError → Type 0} where
  pub ends_then : {A B : Type 0} {P : B → Type 0} (r : Result A DavError) (f : A → MethodPlan B) → ((a : A) → r ≡ Ok a → Ends Told P (f a)) → Ends Told P (followed_by r f)
  ends_then (Ok a) f more = more a refl
  ends_then (Err e) f more = ends_err

  pub ends_bind : {A B : Type 0} {Q : A → Type 0} {P : B → Type 0} {plan : MethodPlan A} (f : A → MethodPlan B) → Ends Told Q plan → ((a : A) → Q a → Ends Told P (f a)) → Ends Told P (plan >>= f)
  ends_bind f (ends_ok {a = a} q) more = more a q
  ends_bind f ends_err more = ends_err
  ends_bind f (ends_ask {c = c} only next) more = ends_ask {c = c} only (λ answer told. ends_bind f (next answer told) more)
  ends_bind f (ends_look next) more = ends_look (λ ls. ends_bind f (next ls) more)

  pub ends_only : {A : Type 0} {plan : MethodPlan A} → Only IsQuestion plan → Ends Told (λ a. ⊤) plan
  ends_only {plan = Done (Ok a)} only_done = ends_ok tt
  ends_only {plan = Done (Err e)} only_done = ends_err
  ends_only (only_ask {c = c} is more) = ends_ask {c = c} (question_reads c is) (λ answer told. ends_only (more answer))
  ends_only (only_look more) = ends_look (λ ls. ends_only (more ls))

  -- so is what a run of it ends with, in a world in which answers are such
  pub ends_ran : {step : CallStep} (w : World) → ((c : Call) (old new : StoreState) (a : Result (Answer c) FsError) → step c old a new → old.world ≡ w → OnlyReads c → Told c a × (new.world ≡ w))
      → {A : Type 0} {P : A → Type 0} {plan : MethodPlan A} {old new : StoreState} {ls ms : Locks} {r : Result A DavError} → Ends Told P plan → old.world ≡ w → Ran step plan old ls r new ms → IfOk r P
  ends_ran w say (ends_ok p) at ran_done = p
  ends_ran w say ends_err at ran_done = tt
  ends_ran w say (ends_ask {c = c} only more) at (ran_ask {old = old} {mid = mid} {answer = answer} one rest) =
      let (told, left) = say c old mid answer one at only in
      ends_ran w say (more answer told) left rest
  ends_ran w say (ends_look more) at (ran_look {ls = ls} rest) = ends_ran w say (more ls) at rest

-- a lawful store in a world
pub world_says : (w : World) → IsWorld w → (c : Call) (old new : StoreState) (a : Result (Answer c) FsError) → Asks c old a new → old.world ≡ w → OnlyReads c → MayTell c a × (new.world ≡ w)
world_says w world c old new a one at only = (asks_tell (subst IsWorld (sym at) world) one, did_leave c old.world new.world a only (did one) ∙ at)

-- ---- the text of a path

-- the prefix as names
record Front (prefix : List ℕ) : Type 0 where
  path : Path
  storable : IsStorable path
  is : without_slash prefix ≡ joined path

one_less : (xs : List ℕ) → length (xs ++ 47 ∷ []) - 1 ≡ length xs
one_less xs = let more = length_push xs 47 in omega (arith, more)

-- without the slash at its end, a path is its names
pub bare : (ns : Path) (c : Bool) → All IsName ns → without_slash (path_bytes ns c) ≡ joined ns
bare [] c all = refl
bare (n ∷ ns) false all =
    ap without_slash (append-nil (joined (n ∷ ns))) ∙ (rw (open_names [] n ns all) refl)
bare (n ∷ ns) true all =
    rw (closed_at (joined (n ∷ ns)))
    (ap (λ k. take k (joined (n ∷ ns) ++ 47 ∷ [])) (one_less (joined (n ∷ ns))) ∙ take_at (joined (n ∷ ns)) (47 ∷ []) (length (joined (n ∷ ns))) refl)

front_of : (prefix : List ℕ) → IsServerPrefix prefix → Front prefix
front_of prefix (inl empty) = record { path = []; storable = (All-nil IsName, All-nil (All (λ b. b < 256))); is = ap without_slash empty }
front_of prefix (inr (other, inl (is, same))) = absurd (other is)
front_of prefix (inr (other, inr (ns, closed, named, is))) =
    let are : All IsName ns = Leaves-names _ ns named.leaves in
    record {
      path = ns;
      storable = (are, subst (All (All (λ b. b < 256))) (ap names_of is ∙ names_kept ns closed are) (Reads-bytes prefix prefix (inr (ns, closed, named, is))));
      is = ap without_slash is ∙ bare ns closed are;
    }

joined_more : (ps ns : Path) → joined (ps ++ ns) ≡ joined ps ++ joined ns
joined_more ps ns = flat_map-append (λ (n : List ℕ). 47 ∷ n) ps ns

-- joined names, and a path behind them, are a path
whole_of : (ps ns : Path) (c : Bool) → (end : Bool) × (joined ps ++ path_bytes ns c ≡ path_bytes (ps ++ ns) end)
whole_of [] ns c = (c, refl)
whole_of (p ∷ ps) [] c = (true, ap (λ (x : Path). joined (p ∷ x) ++ 47 ∷ []) (sym (append-nil ps)))
whole_of (p ∷ ps) (n ∷ ns) true = (true, sym (append_assoc (joined (p ∷ ps)) (joined (n ∷ ns)) (47 ∷ [])) ∙ ap (λ xs. xs ++ 47 ∷ []) (sym (joined_more (p ∷ ps) (n ∷ ns))))
whole_of (p ∷ ps) (n ∷ ns) false = (false, sym (append_assoc (joined (p ∷ ps)) (joined (n ∷ ns)) []) ∙ ap (λ xs. xs ++ []) (sym (joined_more (p ∷ ps) (n ∷ ns))))

begins : (ns : Path) (c : Bool) → (rest : List ℕ) × (path_bytes ns c ≡ 47 ∷ rest)
begins [] c = ([], refl)
begins (n ∷ ns) true = ((n ++ joined ns) ++ 47 ∷ [], refl)
begins (n ∷ ns) false = ((n ++ joined ns) ++ [], refl)

text_of_names : (ns : Path) (c : Bool) → path_text (path_bytes ns c) ≡ url_text (path_bytes ns c)
text_of_names [] c = refl
text_of_names (n ∷ ns) true = refl
text_of_names (n ∷ ns) false = refl

-- a text of a path begins with a slash
text_begins : (bytes : List ℕ) (rest : List ℕ) → bytes ≡ 47 ∷ rest → path_text bytes ≢ star
unfolding url_text
text_begins bytes rest is e = let same : path_text (47 ∷ rest) ≡ star = ap path_text (sym is) ∙ e in cc

-- a path below the prefix, at which a node may be
pub record IsHome (prefix : List ℕ) (q : PathText) : Type 0 where
  pub at : q.prefix ≡ without_slash prefix
  pub place : IsPlace q

cut_front : (p bytes : List ℕ) (cut : PathText) → IsCut p bytes cut → cut.prefix ≡ p
cut_front p bytes cut (at_start empty same) = ap (λ (t : PathText). t.prefix) same ∙ sym empty
cut_front p bytes cut (at_slash whole same) = ap (λ (t : PathText). t.prefix) same
cut_front p bytes cut (at_end some whole same) = ap (λ (t : PathText). t.prefix) same

-- what a target names is such a path
pub target_home : (prefix target : List ℕ) (p : PathText) → IsTarget prefix target p → IsHome prefix p
target_home prefix target p (other, (bytes, reads, cut)) = record { at = cut_front (without_slash prefix) bytes p cut; place = place_cut target bytes (without_slash prefix) p other reads cut }

pub closed_home : (prefix : List ℕ) (p : PathText) (dir : Bool) → IsHome prefix p → IsHome prefix (closed dir p)
closed_home prefix p dir home = record {
  at = closed_prefix dir p ∙ home.at;
  place = record { plain = closed_plain dir p home.place.plain; storable = subst IsStorable (sym (names_closed dir p (plain_other p home.place.plain))) home.place.storable };
}

pub child_home : (prefix : List ℕ) (p : PathText) (name : List ℕ) (dir : Bool) → IsHome prefix p → IsStorable (name ∷ []) → IsHome prefix (child_of p name dir)
child_home prefix p name dir home one = record {
  at = child_prefix p name dir ∙ home.at;
  place = record {
    plain = plain_child p name dir home.place.plain (one_name name one);
    storable = subst IsStorable (sym (child_names p name dir home.place.plain one)) (storable_more (names p) name home.place.storable one);
  };
}

module _ (prefix : List ℕ) (served : IsServerPrefix prefix) where
  abbrev pub leading : PathText → Type 0
  leading q = IsTarget prefix (path_text (full_bytes q)) q

  -- the text of such a path names it again
  pub leads_back : (q : PathText) → IsHome prefix q → leading q
  leads_back q home =
      let front = front_of prefix served in
      let plain = home.place.plain in
      let ns : Path = front.path ++ names q in
      let (end, whole) = whole_of front.path (names q) plain.is_closed in
      let (rest, slash) = begins (names q) plain.is_closed in
      let (after, first) = begins ns end in
      let full : full_bytes q ≡ path_bytes ns end = (λ i. home.at i ++ plain.bytes_are i) ∙ ap (λ xs. xs ++ path_bytes (names q) plain.is_closed) front.is ∙ whole in
      let written : path_text (full_bytes q) ≡ url_text (path_bytes ns end) = ap path_text full ∙ text_of_names ns end in
      let reads : Reads (url_text (path_bytes ns end)) (path_bytes ns end) =
      names_again ns end (All-append IsName front.path (names q) front.storable.0 home.place.storable.0) (All-append (All (λ b. b < 256)) front.path (names q) front.storable.1 home.place.storable.1) in (
        text_begins (full_bytes q) after (full ∙ first),
        (
          path_bytes ns end,
          subst (λ (t : List ℕ). Reads t (path_bytes ns end)) (sym written) reads,
          at_slash {rest = rest} (sym whole ∙ (λ i. sym front.is i ++ slash i)) (λ i. record { prefix = home.at i; bytes = (plain.bytes_are ∙ slash) i }),
        ),
      )

  -- ---- responses

  -- a response of a path, as it stands among others
  abbrev pub Told : PathText → ElementTree → Type 0
  Told q response = IsResponseFor prefix q response × (is_named (codes "response") response ≡ true)

  one_href : (q : PathText) (es : List ElementTree) → children_named (codes "href") (property_response q (found_groups es)) ≡ href q ∷ []
  one_href q [] = refl
  one_href q (e ∷ es) = refl

  response_told : (q : PathText) (es : List ElementTree) → IsHome prefix q → Told q (property_response q (found_groups es))
  response_told q es home = (record { text = path_text (full_bytes q); hrefs = one_href q es; leads = leads_back q home }, refl)

  module _ {Known : (c : Call) → Result (Answer c) FsError → Type 0} where
    pub ends_properties : (w : Writer) (q : PathText) (m : DavMetaData) (known : QuotaKnown) → IsHome prefix q → Ends Known (λ (x : WithQuota ElementTree). Told q x.0) (properties_of w q m known)
    ends_properties w q m known home =
        ends_bind _ (ends_only (only_found_all w q m known w.properties)) (λ found _.
        ends_bind _ (ends_only (only_all_kept q)) (λ kept _. ends_ok (response_told q (found.0 ++ kept) home)))

pub properties_lead_back : PropertiesLeadBack
properties_lead_back prefix target p w m known old new ls ms told served is ran =
    (ends_ran {Told = λ c a. ⊤} old.world (λ c s t a one at only. (tt, did_leave c s.world t.world a only (did one) ∙ at))
    (ends_properties prefix served w p m known (target_home prefix target p is)) refl ran).0

-- ---- all responses are of paths at the target and below it

-- each of a list is such
data Led (prefix : List ℕ) (top : Path) : List ElementTree → Type 0 where
  none_led : Led prefix top []
  one_led : {r : ElementTree} {rs : List ElementTree} → IsOfOneUnder prefix top r → is_named (codes "response") r ≡ true → Led prefix top rs → Led prefix top (r ∷ rs)

led_more : (prefix : List ℕ) (top : Path) {rs ss : List ElementTree} → Led prefix top rs → Led prefix top ss → Led prefix top (rs ++ ss)
led_more prefix top none_led more = more
led_more prefix top (one_led is named rest) more = one_led is named (led_more prefix top rest more)

list_of_trees : (ts : List ElementTree) → tree_list (trees ts) ≡ ts
list_of_trees [] = refl
list_of_trees (t ∷ ts) = ap (λ us. t ∷ us) (list_of_trees ts)

-- the responses of a reply are those that were gathered
pub among : (w : Writer) (rs : List ElementTree) → responses_in (reply.Tree (told_by w rs)) ≡ filter (is_named (codes "response")) rs
among w rs = ap (filter (is_named (codes "response"))) (list_of_trees rs)

pub kept_first : (r : ElementTree) (rs : List ElementTree) → is_named (codes "response") r ≡ true → filter (is_named (codes "response")) (r ∷ rs) ≡ r ∷ filter (is_named (codes "response")) rs
kept_first r rs is = rw is refl

led_all : (prefix : List ℕ) (top : Path) (rs : List ElementTree) → Led prefix top rs → All (IsOfOneUnder prefix top) (filter (is_named (codes "response")) rs)
led_all prefix top [] none_led = All-nil (IsOfOneUnder prefix top)
led_all prefix top (r ∷ rs) (one_led is named rest) =
    subst (All (IsOfOneUnder prefix top)) (sym (kept_first r rs named)) (All-cons (IsOfOneUnder prefix top) r (filter (is_named (codes "response")) rs) is (led_all prefix top rs rest))

module _ (prefix : List ℕ) (served : IsServerPrefix prefix) (top : Path) where
  abbrev Below_top : PathText → Type 0
  Below_top q = (rest : Path) × (names q ≡ top ++ rest)

  at_top : (q : PathText) → Below_top q → is_at_or_under (names q) top ≡ true
  at_top q (rest, is) = ap (λ (x : Path). is_at_or_under x top) is ∙ ap is_some (rest_after-append top rest)

  child_below : (q : PathText) (name : List ℕ) (dir : Bool) → IsHome prefix q → IsStorable (name ∷ []) → Below_top q → Below_top (child_of q name dir)
  child_below q name dir home one (rest, is) = (rest ++ name ∷ [], child_names q name dir home.place.plain one ∙ ap (λ (x : Path). x ++ name ∷ []) is ∙ append_assoc top rest (name ∷ []))

  abbrev EndsLed : MethodPlan Responses → Type 0
  EndsLed plan = Ends MayTell (λ (x : Responses). Led prefix top x.0) plan

  module _ (w : Writer) where
    module _ (below : Below) (walk : (q : PathText) (dir : Bool) (known : QuotaKnown) → IsHome prefix q → Below_top q → EndsLed (below q dir known)) where
      ends_member : (q : PathText) (m : DavMetaData) (known : QuotaKnown) → IsHome prefix q → Below_top q → EndsLed (tell_member below w q m known)
      ends_member q m known home at =
          ends_bind _ (ends_properties prefix served w q m known home) (λ one told.
          ends_bind _ (walk q m.dir one.1 home at) (λ more led. ends_ok (one_led (q, at_top q at, told.0) told.1 led)))

      ends_seen : (p : PathText) (name : List ℕ) (known : QuotaKnown) (seen : Result DavMetaData FsError) → IsHome prefix p → IsStorable (name ∷ []) → Below_top p → EndsLed (tell_if_found below w p name known seen)
      ends_seen p name known (Err e) home one at = ends_ok none_led
      ends_seen p name known (Ok m) home one at = ends_member (child_of p name m.dir) m known (child_home prefix p name m.dir home one) (child_below p name m.dir home one at)

      ends_members : (p : PathText) (known : QuotaKnown) (entries : List (List ℕ × Bool)) → IsHome prefix p → Below_top p → All (λ (e : List ℕ × Bool). IsStorable (e.0 ∷ [])) entries → EndsLed (tell_members below w p known entries)
      ends_members p known [] home at all = ends_ok none_led
      ends_members p known (entry ∷ entries) home at all =
          ends_ask {c = EntryMetadata (names p ++ entry.0 ∷ [])} tt (λ seen _.
          ends_bind _ (ends_seen p entry.0 known seen home (All-head (λ (e : List ℕ × Bool). IsStorable (e.0 ∷ [])) entry entries all) at) (λ one led.
          ends_bind _ (ends_members p one.1 entries home at (All-tail (λ (e : List ℕ × Bool). IsStorable (e.0 ∷ [])) entry entries all)) (λ more others.
          ends_ok (led_more prefix top led others))))

      ends_listed : (p : PathText) (known : QuotaKnown) (listed : Result (List (List ℕ × Bool)) FsError) → IsHome prefix p → Below_top p → MayTell (ReadDir (names p)) listed → EndsLed (tell_listed below w p known listed)
      ends_listed p known (Err e) home at may = ends_ok none_led
      ends_listed p known (Ok entries) home at may = ends_members p known entries home at may

    ends_below : (deep : Bool) (room : ℕ) (q : PathText) (dir : Bool) (known : QuotaKnown) → IsHome prefix q → Below_top q → EndsLed (tell_below deep room w q dir known)
    ends_below deep room q false known home at = ends_ok none_led
    ends_below deep zero q true known home at = ends_ok none_led
    ends_below deep (suc room) q true known home at =
        ends_ask {c = ReadDir (names q)} tt (λ listed may.
        ends_listed (λ r dir now. tell_below deep room w r (dir && deep) now) (λ r dir now other within. ends_below deep room r (dir && deep) now other within) q known listed home at may)

    ends_itself : (told : Bool) (q : PathText) (m : DavMetaData) → IsHome prefix q → Below_top q → EndsLed (tell_itself told w q m)
    ends_itself false q m home at = ends_ok none_led
    ends_itself true q m home at = ends_bind _ (ends_properties prefix served w q m None home) (λ one told. ends_ok (one_led (q, at_top q at, told.0) told.1 none_led))

  abbrev EndsTold : MethodPlan Reply → Type 0
  EndsTold plan = Ends MayTell (λ (r : Reply). All (IsOfOneUnder prefix top) (responses_in r.body)) plan

  module _ (h : FindHeaders) (headers : Headers) (content : Body) (who : Caller) where
    ends_found : (q : PathText) (location : List Header) (m : DavMetaData) → IsHome prefix q → Below_top q → EndsTold (propfind_found h headers q location content who m)
    ends_found q location m home at =
        ends_then (required (query_in content) dav.XmlParseError) _ (λ query _.
        ends_bind _ (ends_itself (writer query.0 headers who.principal query.1) (tells_itself h.depth) q m home at) (λ itself one.
        ends_bind _ (ends_below (writer query.0 headers who.principal query.1) (is_infinite h.depth) (room_at q) q (m.dir && tells_members h.depth) itself.1 home at) (λ below more.
        ends_ok (subst (All (IsOfOneUnder prefix top)) (sym (among (writer query.0 headers who.principal query.1) (itself.0 ++ below.0))) (led_all prefix top (itself.0 ++ below.0) (led_more prefix top one more))))))

    ends_if : (p : PathText) (is_served : Bool) → IsHome prefix p → names p ≡ top → EndsTold (propfind_if is_served h headers p content who)
    ends_if p false home at = ends_ok (All-nil (IsOfOneUnder prefix top))
    ends_if p true home at =
        ends_ask {c = Metadata (names p)} tt (λ answer _.
        ends_then (refused_as dav.FsError answer) _ (λ found _.
        ends_found (closed found.dir p) (location_found (Some found) p) found (closed_home prefix p found.dir home)
        ([], names_closed found.dir p (plain_other p home.place.plain) ∙ at ∙ sym (append-nil top))))

pub responses_lead_back : ResponsesLeadBack
responses_lead_back prefix target headers p content who plan old new ls ms r served is world (is_propfind h are) ran =
    ends_ran old.world (world_says old.world world) (ends_if prefix served (names p) h headers content who p (is_served_depth h) (target_home prefix target p is) refl) refl ran
