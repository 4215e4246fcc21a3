-- A 304 is true: the file has the bytes that a GET of the run shows with its tag, before or after it.
use Rattle.std.proofs.Common.{◌≡◌, ◌⊎◌, inl, inr, ℕ, ◌≤◌, ◌==◌, ◌||◌, ◌&&◌, ◌++◌, Bool, true, false, not, if◌then◌else◌, List, [], ◌∷◌, codes, Option, Some, None, Result, Ok, Err, refl, sym, ap, subst, ◌∙◌, arith}
use Rattle.std.proofs.lemmas.Bool.{not-true}
use Rattle.std.proofs.lemmas.Bool.{eqb-true}
use Rattle.std.proofs.lemmas.Slice.Eq.{bytes_eq-Decides}
use Rattle.std.specs.Fmt.{digits}
use Rattle.std.specs.Str.{bytes_eq}
use Rattle.http_header.specs.FieldValue.{FieldValue}
use Rattle.http_header.specs.HeaderMap.{get_all}
use Rattle.dav_core.specs.declared.errors.FsError.{FsError}
use Rattle.dav_core.specs.declared.errors.DavError.{DavError}
use Rattle.dav_core.specs.declared.errors.DavError.TheVariants as dav
use Rattle.dav_core.specs.declared.fs.DavMetaData.{DavMetaData}
use Rattle.dav_core.specs.declared.method.DavMethod.{DavMethod}
use Rattle.dav_core.specs.declared.method.DavMethod.TheVariants.{Get, Head, Put, Patch, Copy, Move}
use Rattle.dav_core.specs.Asking.{Metadata, meaning, StoreState, Asks as Asking}
use Rattle.dav_core.specs.Calls.{metadata_of}
use Rattle.dav_core.specs.Metadata.{tag_of}
use Rattle.dav_core.specs.Path.{Path, PathText, names}
use Rattle.dav_core.specs.World.{World, Node, File, is_folder_kind, last_moment, IsWorld}
use Rattle.dav_headers.specs.ETag.{EntityTag, tag_text}
use Rattle.dav_headers.specs.ETagList.{TagList, tags, IsTagList}
use Rattle.dav_headers.proofs.Theorems.{one_tag_list}
use Rattle.dav_engine.specs.declared.request.Body.{Body}
use Rattle.dav_engine.specs.declared.request.Body.TheVariants as body
use Rattle.dav_engine.specs.Caller.{Caller}
use Rattle.dav_engine.specs.Conditions.{Conditions, is_reading, matches, http_conditions, if_match}
use Rattle.dav_engine.specs.Headers.{Headers, Decodes}
use Rattle.dav_engine.specs.Method.{MethodPlan, then as followed_by, ◌>>=◌, gives, fails, require, refused_as}
use Rattle.dav_engine.specs.CopyMove.{is_copy_move}
use Rattle.dav_engine.specs.Delete.{is_delete}
use Rattle.dav_engine.specs.Mkcol.{is_mkcol}
use Rattle.dav_engine.specs.Plan.{Locks, Ran, ran_ask}
use Rattle.dav_engine.specs.Put.{bytes_of_body, is_put}
use Rattle.dav_engine.specs.Reply.{Reply, reply_to}
use Rattle.dav_engine.specs.Lock.{is_lock}
use Rattle.dav_engine.specs.Unlock.{is_unlock}
use Rattle.dav_engine.specs.Propfind.{is_propfind}
use Rattle.dav_engine.specs.Proppatch.{is_proppatch}
use Rattle.dav_server.proofs.FindStatuses.{ends_propfind}
use Rattle.dav_server.proofs.PropertyStatuses.{ends_proppatch}
use Rattle.dav_engine.proofs.Theorems.{Did, did, ran_split, ran_outcome}
use Rattle.dav_server.specs.Get.{not_modified, show_or_tell, unless_condition_status, get, is_get}
use Rattle.dav_server.specs.Head.{Request}
use Rattle.dav_server.specs.Headers.{headers_of}
use Rattle.dav_server.specs.Machine.{Settings, Exchange, Taken, TakesBytes, TakesTree, TakesNone, taken_by, body_for, PlanOf, gets, heads, puts, patches, makes, deletes, copies, moves, offers, finds_properties, sets_properties, locks, releases, MeansOf, not_allowed, no_path, no_body, method, Means, no_head, no_method, known, Steps, steps}
use Rattle.dav_server.specs.Method.{GivesServed}
use Rattle.dav_server.specs.Run.{Turn, begun, Runs, no_more, one_more}
use Rattle.dav_server.specs.TagLaws.{MomentsAreDates, LacksTag, NotModifiedIsTrue}
use Rattle.dav_server.specs.Target.{TargetNames}
use Rattle.dav_server.proofs.GetWorld.{Stands, after_found, file_kind, told_of, stands_known, known_bytes}
use Rattle.dav_server.proofs.HeadLemmas.{one_head}
use Rattle.dav_server.proofs.MeansWorld.{all_front, all_back, begun_world, turn_keeps, run_keeps, one_method}
use Rattle.dav_server.proofs.PlanStatuses.{Outcome, Any, IsOther, IsFailure, failure_other, ends_other, fs_other, outcome_if, ran_ends, conditions_end, ends_put, ends_mkcol, ends_copymove, ends_delete, ends_options, ends_lock, ends_unlock, ends_show_or_tell, other_status}
use Rattle.dav_server.proofs.TagLemmas.{ShownAmong, shown_among, known_on, known_shown, shown_known, small_first, small_rest}
use Rattle.dav_server.proofs.TargetLemmas.{one_outcome}

-- ---- what matches

or_false : (b : Bool) → (b || false) ≡ true → b ≡ true
or_false true h = refl
or_false false h = h

strong : (w b : Bool) → (not w && not false && b) ≡ true → (w ≡ false) × (b ≡ true)
strong true b h = cc
strong false b h = (refl, h)

-- a tag that matches is that of the number
pub matched : (tag : EntityTag) (number : ℕ) → matches (tags (tag ∷ [])) true (Some (record { weak = false; tag = digits 16 false number })) ≡ true → tag_text tag.weak tag.tag ≡ tag_of number
matched tag number h =
    let (weak, same) = strong tag.weak (bytes_eq tag.tag (digits 16 false number)) (or_false _ h) in
    ap (λ (w : Bool). tag_text w tag.tag) weak ∙ ap (λ (l : List ℕ). 34 ∷ (l ++ 34 ∷ [])) ((bytes_eq-Decides tag.tag (digits 16 false number)).0 same)

some_same : {A : Type 0} {a b : A} → ◌≡◌ {A = Option A} (Some a) (Some b) → a ≡ b
some_same same = cc

no_412 : {A : Type 0} → ◌≡◌ {A = Option ℕ} (Some 412) (Some 304) → A
no_412 same = let both = some_same same in absurd (omega (arith, both))

none_matched : (a b t : Bool) → ◌≡◌ {A = Option ℕ} (if a then Some 412 else if b then Some (if t then 304 else 412) else None) (Some 304) → b ≡ true
none_matched true b t h = no_412 h
none_matched false true t h = refl
none_matched false false t h = cc

-- where If-None-Match says one tag, the conditions answer 304 only for what has this tag
has_tag : (m : DavMethod) (match none_match : Option TagList) (n : Node) (tag : EntityTag) → none_match ≡ Some (tags (tag ∷ [])) → http_conditions m match none_match (Some (metadata_of n)) ≡ Some 304
    → tag_text tag.weak tag.tag ≡ tag_of n.number
has_tag m match none_match n tag says h =
    matched tag n.number (none_matched _ _ (is_reading m) (subst (λ (o : Option TagList). http_conditions m match o (Some (metadata_of n)) ≡ Some 304) says h))

-- ---- one GET or HEAD

-- the status of the reply where a plan failed
failed_status : {A : Type 0} {e : DavError} {outcome : Result Reply DavError} {old new : StoreState} {ls ms : Locks} → IsOther e → Ran Asking (fails e) old ls outcome new ms → (reply_to outcome).status ≡ 304 → A
failed_status other ran is = absurd (other (sym (ap (λ (o : Result Reply DavError). (reply_to o).status) (ran_outcome ran)) ∙ is))

judged_status : (status : ℕ) (t : Bool) (d : DavMetaData) {outcome : Result Reply DavError} {old new : StoreState} {ls ms : Locks} → (status == 304) ≡ t
    → Ran Asking (if t then gives (not_modified d) else fails (dav.Status status)) old ls outcome new ms → (reply_to outcome).status ≡ 304 → status ≡ 304
judged_status status true d same ran is = eqb-true status 304 same
judged_status status false d same ran is = sym (ap (λ (o : Result Reply DavError). (reply_to o).status) (ran_outcome ran)) ∙ is

verdict_304 : (m : DavMethod) (p : Path) (now : ℕ) (d : DavMetaData) (verdict : Option ℕ) (outcome : Result Reply DavError) {old new : StoreState} {ls ms : Locks}
    → Ran Asking (unless_condition_status verdict d (show_or_tell m p now d)) old ls outcome new ms → (reply_to outcome).status ≡ 304 → verdict ≡ Some 304
verdict_304 m p now d None outcome ran is = absurd (other_status outcome (ran_ends (ends_show_or_tell m p now d) ran) is)
verdict_304 m p now d (Some status) outcome ran is = ap Some (judged_status status (status == 304) d refl ran is)

settled : (verdict judgement : Option ℕ) → (verdict ≡ judgement) ⊎ (verdict ≡ Some 412) → verdict ≡ Some 304 → judgement ≡ Some 304
settled verdict judgement (inl same) is = sym same ∙ is
settled verdict judgement (inr same) is = no_412 (sym same ∙ is)

answered_304 : (m : DavMethod) (c : Conditions) (p : Path) (now : ℕ) (d : DavMetaData) (o : Result (Option ℕ) DavError) (outcome : Result Reply DavError) {old new : StoreState} {ls ms : Locks}
    → Outcome (λ e. ⊥) (λ verdict. (verdict ≡ http_conditions m c.if_match c.if_none_match (Some d)) ⊎ (verdict ≡ Some 412)) o
    → Ran Asking (followed_by o (λ verdict. unless_condition_status verdict d (show_or_tell m p now d))) old ls outcome new ms → (reply_to outcome).status ≡ 304 → http_conditions m c.if_match c.if_none_match (Some d) ≡ Some 304
answered_304 m c p now d (Err e) outcome ends ran is = absurd ends
answered_304 m c p now d (Ok verdict) outcome ends ran is = settled verdict _ ends (verdict_304 m p now d verdict outcome ran is)

conditions_304 : (m : DavMethod) (c : Conditions) (p : Path) (now : ℕ) (d : DavMetaData) (outcome : Result Reply DavError) {old new : StoreState} {ls ms : Locks}
    → Ran Asking (if_match m c (Some d) >>= (λ verdict. unless_condition_status verdict d (show_or_tell m p now d))) old ls outcome new ms → (reply_to outcome).status ≡ 304 → http_conditions m c.if_match c.if_none_match (Some d) ≡ Some 304
conditions_304 m c p now d outcome ran is =
    let parts = ran_split (if_match m c (Some d)) _ ran in
    answered_304 m c p now d parts.outcome outcome (ran_ends (conditions_end m c (Some d)) parts.first) parts.rest is

no_file : IsOther (dav.Status 405)
no_file same = absurd (omega (arith, same))

plain_304 : (m : DavMethod) (c : Conditions) (p : Path) (now : ℕ) (d : DavMetaData) (b : Bool) (outcome : Result Reply DavError) {old new : StoreState} {ls ms : Locks}
    → Ran Asking (require b (dav.Status 405) >>= (λ plain. if_match m c (Some d) >>= (λ verdict. unless_condition_status verdict d (show_or_tell m p now d)))) old ls outcome new ms → (reply_to outcome).status ≡ 304
    → (b ≡ true) × (http_conditions m c.if_match c.if_none_match (Some d) ≡ Some 304)
plain_304 m c p now d true outcome ran is = (refl, conditions_304 m c p now d outcome ran is)
plain_304 m c p now d false outcome ran is = failed_status no_file ran is

-- at the path there is a file of some bytes, with the number that the tag holds
abbrev pub SomeStands : World → Path → List ℕ → Type 0
SomeStands w p tag = (bytes : List ℕ) × Stands w p tag bytes

found_304 : (m : DavMethod) (c : Conditions) (p : Path) (now : ℕ) (tag : EntityTag) (w : World) (answer : Result DavMetaData FsError) (outcome : Result Reply DavError) {mid new : StoreState} {ls ms : Locks}
    → c.if_none_match ≡ Some (tags (tag ∷ [])) → Did (meaning (Metadata p) w) w answer mid.world
    → Ran Asking (followed_by (refused_as dav.FsError answer) (after_found m c p now)) mid ls outcome new ms → (reply_to outcome).status ≡ 304 → SomeStands w p (tag_text tag.weak tag.tag)
found_304 m c p now tag w (Err e) outcome says one ran is = failed_status (fs_other e) ran is
found_304 m c p now tag w (Ok d) outcome {mid} {new} {ls} {ms} says one ran is =
    let (n, there, about) = told_of w mid.world p (Ok d) d one refl in
    let (plain, verdict) = plain_304 m c p now (metadata_of n) (not (metadata_of n).dir) outcome (subst (λ (x : DavMetaData). Ran Asking (after_found m c p now x) mid ls outcome new ms) about ran) is in
    (_, record { node = n; there = there; kind = file_kind n.kind (not-true (is_folder_kind n.kind) plain); tag_is = has_tag m c.if_match c.if_none_match n tag says verdict })

get_304 : (m : DavMethod) (c : Conditions) (p : Path) (now : ℕ) (tag : EntityTag) (outcome : Result Reply DavError) {old new : StoreState} {ls ms : Locks}
    → c.if_none_match ≡ Some (tags (tag ∷ [])) → Ran Asking (get m c p now) old ls outcome new ms → (reply_to outcome).status ≡ 304 → SomeStands old.world p (tag_text tag.weak tag.tag)
get_304 m c p now tag outcome says (ran_ask {old = old} {answer = answer} one rest) is = found_304 m c p now tag old.world answer outcome says (did one) rest is

-- ---- one step

-- what the header says is what the conditions have
pub says_tags : (values : List FieldValue) (o : Option TagList) (l : TagList) → Decodes IsTagList values o → IsTagList values l → o ≡ Some l
says_tags values None l none is = absurd (none l is)
says_tags values (Some k) l decoded is = ap Some (one_tag_list values k l decoded is)

not_415 : IsFailure (dav.Status 415)
not_415 = omega arith

-- an error of a body reports one
pub body_status : (taken : Taken) (given : Body) → Outcome IsFailure Any (body_for taken given)
body_status taken body.None = tt
body_status taken (body.Bytes []) = tt
body_status TakesBytes (body.Bytes (b ∷ bytes)) = tt
body_status TakesTree (body.Bytes (b ∷ bytes)) = tt
body_status TakesNone (body.Bytes (b ∷ bytes)) = not_415
body_status TakesTree (body.Tree tree) = outcome_if _ (Err (dav.Status 400)) (Ok (body.Tree tree)) (omega arith) tt
body_status TakesBytes (body.Tree tree) = not_415
body_status TakesNone (body.Tree tree) = not_415
body_status TakesTree body.Malformed = tt
body_status TakesBytes body.Malformed = not_415
body_status TakesNone body.Malformed = not_415

plan_304 : {allowed : ℕ} {headers : Headers} {p : PathText} {given : Body} {who : Caller} {m : DavMethod} {plan : MethodPlan Reply} (tag : EntityTag) (outcome : Result Reply DavError) {old new : StoreState} {ls ms : Locks}
    → IsTagList (get_all headers (codes "if-none-match")) (tags (tag ∷ [])) → PlanOf allowed headers p given who m plan → Ran Asking plan old ls outcome new ms → (reply_to outcome).status ≡ 304
    → SomeStands old.world (names p) (tag_text tag.weak tag.tag)
plan_304 {p = p} {who = who} tag outcome says (gets (is_get c are)) ran is = get_304 Get c (names p) who.moment tag outcome (says_tags _ c.if_none_match _ are.none_match says) ran is
plan_304 {p = p} {who = who} tag outcome says (heads (is_get c are)) ran is = get_304 Head c (names p) who.moment tag outcome (says_tags _ c.if_none_match _ are.none_match says) ran is
plan_304 {p = p} {given} {who} tag outcome says (puts (is_put h are)) ran is = absurd (other_status outcome (ran_ends (ends_put Put h (names p) who (bytes_of_body given) refl) ran) is)
plan_304 {p = p} {given} {who} tag outcome says (patches (is_put h are)) ran is = absurd (other_status outcome (ran_ends (ends_put Patch h (names p) who (bytes_of_body given) refl) ran) is)
plan_304 {p = p} {who = who} tag outcome says (makes (is_mkcol c are)) ran is = absurd (other_status outcome (ran_ends (ends_mkcol c p who) ran) is)
plan_304 {p = p} {who = who} tag outcome says (deletes (is_delete h are)) ran is = absurd (other_status outcome (ran_ends (ends_delete h p who) ran) is)
plan_304 {headers = headers} {p} {who = who} tag outcome says (copies (is_copy_move h are)) ran is = absurd (other_status outcome (ran_ends (ends_copymove Copy headers h p who refl are) ran) is)
plan_304 {headers = headers} {p} {who = who} tag outcome says (moves (is_copy_move h are)) ran is = absurd (other_status outcome (ran_ends (ends_copymove Move headers h p who refl are) ran) is)
plan_304 {allowed} {p = p} tag outcome says offers ran is = absurd (other_status outcome (ran_ends (ends_options allowed p) ran) is)
plan_304 {headers = headers} {p} {given} {who} tag outcome says (finds_properties (is_propfind h are)) ran is = absurd (other_status outcome (ran_ends (ends_other (ends_propfind h headers given who p)) ran) is)
plan_304 {p = p} {given} {who} tag outcome says (sets_properties (is_proppatch c are)) ran is = absurd (other_status outcome (ran_ends (ends_proppatch c p given who) ran) is)
plan_304 {p = p} {given} {who} tag outcome says (locks (is_lock h are)) ran is = absurd (other_status outcome (ran_ends (ends_lock h p given who) ran) is)
plan_304 {p = p} tag outcome says (releases (is_unlock token said)) ran is = absurd (other_status outcome (ran_ends (ends_unlock token p) ran) is)

pub one_value : {A : Type 0} {a b : A} → ◌≡◌ {A = Result A DavError} (Ok a) (Ok b) → a ≡ b
one_value same = cc

pub no_error : {A B : Type 0} {a : A} {e : DavError} → ◌≡◌ {A = Result A DavError} (Ok a) (Err e) → B
no_error same = absurd (cc)

of_304 : {s : Settings} {x : Exchange} {r : Request} {m : DavMethod} {plan : MethodPlan Reply} (p : PathText) (tag : EntityTag) (outcome : Result Reply DavError) {old new : StoreState} {ls ms : Locks}
    → TargetNames s.prefix m r.target (Ok p) → IsTagList (get_all (headers_of r.fields) (codes "if-none-match")) (tags (tag ∷ []))
    → MeansOf s x r m plan → Ran Asking plan old ls outcome new ms → (reply_to outcome).status ≡ 304 → SomeStands old.world (names p) (tag_text tag.weak tag.tag)
of_304 p tag outcome names_p says (not_allowed out) ran is = failed_status {e = dav.StatusClose 405} (λ same. absurd (omega (arith, same))) ran is
of_304 {s} {r = r} {m} p tag outcome names_p says (no_path e has none) ran is = no_error (one_outcome s.prefix m r.target _ _ names_p none)
of_304 {x = x} {m = m} p tag outcome names_p says (no_body q e has named bad) ran is = failed_status {e = e} (failure_other e (subst (Outcome IsFailure Any) bad (body_status (taken_by m) x.body))) ran is
of_304 {s} {r = r} {m} p tag outcome {old} names_p says (method q given has named good plan) ran is =
    let same : q ≡ p = one_value (one_outcome s.prefix m r.target _ _ named names_p) in
    subst (λ (t : PathText). SomeStands old.world (names t) (tag_text tag.weak tag.tag)) same (plan_304 tag outcome says plan ran is)

means_304 : {s : Settings} {x : Exchange} {plan : MethodPlan Reply} (p : PathText) (tag : EntityTag) (outcome : Result Reply DavError) {old new : StoreState} {ls ms : Locks}
    → LacksTag s x p tag → Means s x plan → Ran Asking plan old ls outcome new ms → (reply_to outcome).status ≡ 304 → SomeStands old.world (names p) (tag_text tag.weak tag.tag)
means_304 p tag outcome (r, m, head, gives, named, says) (no_head out) ran is = absurd (out r head)
means_304 p tag outcome (r, m, head, gives, named, says) (no_method q e head' gives') ran is =
    failed_status {e = e} (subst IsOther (sym gives'.0) (λ same. absurd (omega (arith, same)))) ran is
means_304 {s} {x} {plan} p tag outcome (r, m, head, gives, named, says) (known q n head' gives' means) ran is =
    let request : q ≡ r = one_head x.head q r head' head in
    let same : n ≡ m = one_method r.method n m (subst (λ (h : Request). GivesServed h.method (Ok n)) request gives') gives in
    of_304 p tag outcome named says (subst (λ (k : DavMethod). MeansOf s x r k plan) same (subst (λ (h : Request). MeansOf s x h n plan) request means)) ran is

step_304 : {s : Settings} {x : Exchange} (p : PathText) (tag : EntityTag) {old new : StoreState} {ls ms : Locks} {reply : Reply} → LacksTag s x p tag → Steps s x old ls reply new ms → reply.status ≡ 304
    → SomeStands old.world (names p) (tag_text tag.weak tag.tag)
step_304 p tag lacks (steps plan outcome means ran) is = means_304 p tag outcome lacks means ran is

turn_304 : {s : Settings} (t : Turn) (p : PathText) (tag : EntityTag) (old : StoreState) {new : StoreState} {ls ms : Locks} {reply : Reply} → LacksTag s t.asked p tag → Steps s t.asked (begun t.refusals old) ls reply new ms → reply.status ≡ 304
    → SomeStands old.world (names p) (tag_text tag.weak tag.tag)
turn_304 t p tag old lacks step is = subst (λ w. SomeStands w (names p) (tag_text tag.weak tag.tag)) (begun_world t.refusals old) (step_304 p tag lacks step is)

-- ---- whole runs

-- what is shown in a run is shown before a request, by it, or after it
among_parts : {s : Settings} {front : List Turn} {old mid : StoreState} {ls ks : Locks} {replies : List Reply} (t : Turn) (back : List Turn) (reply : Reply) (more : List Reply) (tag bytes : List ℕ)
    → Runs s front old ls replies mid ks → ShownAmong (front ++ t ∷ back) (replies ++ reply ∷ more) tag bytes → ShownAmong front replies tag bytes ⊎ ShownAmong (t ∷ back) (reply ∷ more) tag bytes
among_parts t back reply more tag bytes no_more is = inr is
among_parts t back reply more tag bytes (one_more step rest) (inl is) = inl (inl is)
among_parts t back reply more tag bytes (one_more step rest) (inr later) = elim (among_parts t back reply more tag bytes rest later) [
  | inl before ↦ inl (inr before)
  | inr behind ↦ inr behind
]

-- the bytes that are shown with a tag are those of the file that has it
shown_bytes : {s : Settings} {front back : List Turn} (t : Turn) {old : StoreState} (mid : StoreState) {end new : StoreState} {ls ks js ms : Locks} {replies more : List Reply} {reply : Reply} (p : Path) (tag bytes others : List ℕ)
    → IsWorld old.world → MomentsAreDates (front ++ t ∷ back)
    → Runs s front old ls replies mid ks → Steps s t.asked (begun t.refusals mid) ks reply end js → Runs s back end js more new ms
    → reply.status ≡ 304 → Stands mid.world p tag others → ShownAmong front replies tag bytes ⊎ ShownAmong (t ∷ back) (reply ∷ more) tag bytes → bytes ≡ others
shown_bytes {front = front} {back} t mid p tag bytes others world small runs step rest is stands (inl before) =
    let first = all_front (λ t. t.asked.moment ≤ last_moment) front (t ∷ back) small in
    known_bytes mid.world p tag bytes others (run_keeps world first runs).world (shown_known tag bytes world first runs (inr before)) stands
shown_bytes t mid p tag bytes others world small runs step rest is stands (inr (inl (asks, shows))) =
    let status = shows.status in absurd (omega (arith, is, status))
shown_bytes {front = front} {back} t mid {end} p tag bytes others world small runs step rest is stands (inr (inr later)) =
    let first = all_front (λ t. t.asked.moment ≤ last_moment) front (t ∷ back) small in
    let last = all_back (λ t. t.asked.moment ≤ last_moment) front (t ∷ back) small in
    let now = (run_keeps world first runs).world in
    let kept = turn_keeps t mid (small_first t back last) now step in
    sym (known_shown tag others bytes kept.world (small_rest t back last) rest (known_on mid.world end.world tag others kept (stands_known mid.world p tag others now stands)) later)

pub not_modified_is_true : NotModifiedIsTrue
not_modified_is_true s front back t old mid end new ls ks js ms replies more reply p tag bytes world small runs step rest is lacks shown =
    let (others, stands) = turn_304 t p tag mid lacks step is in
    let text = tag_text tag.weak tag.tag in
    let among = among_parts t back reply more text bytes runs (shown_among (front ++ t ∷ back) (replies ++ reply ∷ more) text bytes shown) in
    let same = shown_bytes t mid (names p) text bytes others world small runs step rest is stands among in
    (stands.node, stands.there, stands.kind ∙ ap File (sym same))
