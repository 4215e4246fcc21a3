-- No update is lost: what an update on condition of a tag finds are the bytes that were told to have it.
use Rattle.std.proofs.Common.{◌≡◌, inl, inr, ℕ, zero, suc, ◌<◌, ◌≤◌, ◌||◌, Bool, true, false, true≢false, not, List, [], ◌∷◌, ◌++◌, length, slice_index_or, Contains, codes, Option, Some, None, Result, Ok, Err, refl, sym, ap, subst, ◌∙◌, arith}
use Rattle.std.specs.Bool.{⊤}
use Rattle.std.specs.List.{zip}
use Rattle.std.specs.Option.{unwrap_or, is_some}
use Rattle.std.specs.Result.{is_ok, result_ok}
use Rattle.http_header.specs.FieldValue.{FieldValue}
use Rattle.http_header.specs.HeaderMap.{get_all}
use Rattle.dav_core.specs.declared.errors.FsError.{FsError}
use Rattle.dav_core.specs.declared.errors.DavError.{DavError}
use Rattle.dav_core.specs.declared.errors.DavError.TheVariants as dav
use Rattle.dav_core.specs.declared.fs.DavMetaData.{DavMetaData}
use Rattle.dav_core.specs.declared.method.DavMethod.{DavMethod}
use Rattle.dav_core.specs.declared.method.DavMethod.TheVariants.{Put, Patch, Delete, Copy, Move, PropPatch}
use Rattle.dav_core.specs.Asking.{Metadata, meaning, StoreState, Asks as Asking}
use Rattle.dav_core.specs.CallLaws.{IsStorable}
use Rattle.dav_core.specs.Path.{Path, PathText, names, is_at_or_under}
use Rattle.dav_core.specs.Status.{must_close}
use Rattle.dav_core.specs.World.{World, Node, File, node_at, last_moment, IsWorld}
use Rattle.dav_headers.specs.ContentRange.{IsContentRange}
use Rattle.dav_headers.specs.ETag.{EntityTag}
use Rattle.dav_engine.specs.declared.methods.put.headers.Bounds.{Bounds}
use Rattle.dav_engine.specs.declared.methods.put.headers.Bounds.TheVariants.{Unread, Whole, Within}
use Rattle.dav_engine.specs.declared.methods.put.headers.Writing.{Writing}
use Rattle.dav_engine.specs.declared.request.Body.{Body}
use Rattle.dav_engine.specs.declared.request.Body.TheVariants as body
use Rattle.dav_engine.specs.Caller.{Caller, requester}
use Rattle.dav_engine.specs.Conditions.{Conditions, AreConditions, guarded}
use Rattle.dav_engine.specs.CopyMove.{CopyHeaders, is_move, copy_depth, destination_found, copy_free, copy_allowed, copy_found, copy_or_move, is_copy_move}
use Rattle.dav_engine.specs.Delete.{DeleteHeaders, whole_depth, delete_allowed, delete_found, delete, is_delete}
use Rattle.dav_engine.specs.Folder.{closed, is_folder_found}
use Rattle.dav_engine.specs.Headers.{Headers}
use Rattle.dav_engine.specs.Method.{MethodPlan, ◌>>=◌, ask_for, fails}
use Rattle.dav_engine.specs.Plan.{Locks, Ran, ran_ask}
use Rattle.dav_engine.specs.Proppatch.{proppatch, is_proppatch}
use Rattle.dav_engine.specs.Put.{PutHeaders, TellsBounds, writing_of, put_allowed, put_body, bytes_of_body, is_put}
use Rattle.dav_engine.specs.Reply.{Reply, Header, closing, content_length, reply_to}
use Rattle.dav_engine.specs.WorldLaws.{IsReading}
use Rattle.dav_engine.proofs.Theorems.{Did, did, did_leave, ran_outcome, look_reads, looks, only_done, only_ask, only_bind, only_require, only_reads, one_conditions}
use Rattle.dav_server.specs.Head.{Request}
use Rattle.dav_server.specs.Headers.{headers_of}
use Rattle.dav_server.specs.Machine.{Settings, Exchange, TakesBytes, taken_by, body_for, PlanOf, gets, heads, puts, patches, makes, deletes, copies, moves, offers, finds_properties, sets_properties, locks, releases, MeansOf, not_allowed, no_path, no_body, method, Means, no_head, no_method, known, Steps, steps}
use Rattle.dav_server.specs.Method.{GivesServed}
use Rattle.dav_server.specs.Run.{Turn, begun, Runs, no_more, one_more}
use Rattle.dav_server.specs.TagLaws.{MomentsAreDates}
use Rattle.dav_server.specs.Target.{TargetNames}
use Rattle.dav_server.specs.UpdateLaws.{PutsWhole, ToldIn, is_update, AsksForTag, UpdatesIf, IsSuccess, NoLostUpdate}
use Rattle.dav_server.proofs.GetWorld.{Known, stands_known, one_number, answered_by, required, looked, gone_on}
use Rattle.dav_server.proofs.HeadLemmas.{one_head}
use Rattle.dav_server.proofs.HeldConditions.{HasTag, text_of, matched_there, went, own_list, AskForTag, guard_held}
use Rattle.dav_server.proofs.MeansWorld.{target_storable, begun_world, turn_keeps, run_keeps, one_method, asks_one}
use Rattle.dav_server.proofs.NotModified.{says_tags, one_value, no_error, body_status}
use Rattle.dav_server.proofs.PlanStatuses.{Outcome, Any, Ends, IsOtherStatus, IsFailure, AnswersOther, store_fails, guarded_ends, ends_free, ran_ends, put_ends, delete_ends, copymove_ends}
use Rattle.dav_server.proofs.PropertyStatuses.{ends_patching}
use Rattle.dav_server.proofs.StoredBytes.{StandsAnywhere, put_stands}
use Rattle.dav_server.proofs.TagLemmas.{shown_among, shown_known, known_on, small_first, small_rest}
use Rattle.dav_server.proofs.TargetLemmas.{one_outcome}

-- ---- one update

-- the metadata of a path, and the world after it was asked
looked_left : (p : Path) (w new : World) (answer : Result DavMetaData FsError) → Did (meaning (Metadata p) w) w answer new → new ≡ w
looked_left p w new answer one = did_leave (Metadata p) w new answer tt one

checked_put : (m : DavMethod) (h : PutHeaders) (p : Path) (who : Caller) (bytes : List ℕ) (tag : EntityTag) {old new : StoreState} {ls ms : Locks} {allowed : Writing × Bool}
    → AskForTag h.conditions p tag → Ran Asking (put_allowed m h p who bytes) old ls (Ok allowed) new ms → HasTag old.world p (text_of tag)
checked_put m h p who bytes tag asks (ran_ask {old = old} {mid = mid} {answer = answer} one ran) =
    let (w, is, more) = gone_on (writing_of m h (result_ok answer)) _ ran in
    let guard = went (guarded dav.StatusClose m h.conditions (result_ok answer)) _ more in
    guard_held m h.conditions (result_ok answer) old.world p tag asks (matched_there old.world mid.world p tag (is_some (result_ok answer)) answer (did one))
    dav.StatusClose guard.value (looked_left p old.world mid.world answer (did one)) guard.first

put_held : (m : DavMethod) (h : PutHeaders) (p : Path) (who : Caller) (bytes : Option (List ℕ)) (tag : EntityTag) {old new : StoreState} {ls ms : Locks} {r : Reply}
    → AskForTag h.conditions p tag → Ran Asking (put_body m h p who bytes) old ls (Ok r) new ms → HasTag old.world p (text_of tag)
put_held m h p who None tag asks ran = let clash = ran_outcome ran in cc
put_held m h p who (Some bytes) tag asks ran = checked_put m h p who bytes tag asks (went (put_allowed m h p who bytes) _ ran).first

-- the conditions on what the store told of a path
found_held : (m : DavMethod) (f : ℕ → DavError) (c : Conditions) (p : Path) (tag : EntityTag) (w after : World) (answer : Result DavMetaData FsError) (found : DavMetaData) (tokens : List (List ℕ)) {old new : StoreState} {ls ms : Locks}
    → AskForTag c p tag → Did (meaning (Metadata p) w) w answer after → answer ≡ Ok found → old.world ≡ w
    → Ran Asking (guarded f m c (Some found)) old ls (Ok tokens) new ms → HasTag w p (text_of tag)
found_held m f c p tag w after answer found tokens asks one is at ran =
    guard_held m c (Some found) w p tag asks (matched_there w after p tag true (Ok found) (subst (λ (a : Result DavMetaData FsError). Did (meaning (Metadata p) w) w a after) is one))
    f tokens at ran

-- a DELETE whose depth was read
deleted_held : (deep : Bool) (c : Conditions) (p : PathText) (who : Caller) (tag : EntityTag) {old new : StoreState} {ls ms : Locks} {r : Reply}
    → AskForTag c (names p) tag → Ran Asking (ask_for (Metadata (names p)) >>= (λ found. delete_found deep c (closed found.dir p) who found)) old ls (Ok r) new ms → HasTag old.world (names p) (text_of tag)
deleted_held deep c p who tag asks (ran_ask {old = old} {mid = mid} {answer = answer} one ran) =
    let (found, is, more) = answered_by dav.FsError answer _ ran in
    let checks = went (delete_allowed c (closed found.dir p) who found) _ more in
    let guard = went (guarded dav.Status Delete c (Some found)) _ checks.first in
    found_held Delete dav.Status c (names p) tag old.world mid.world answer found guard.value asks (did one) is (looked_left (names p) old.world mid.world answer (did one)) guard.first

delete_held : (h : DeleteHeaders) (p : PathText) (who : Caller) (tag : EntityTag) {old new : StoreState} {ls ms : Locks} {r : Reply}
    → AskForTag h.conditions (names p) tag → Ran Asking (delete h p who) old ls (Ok r) new ms → HasTag old.world (names p) (text_of tag)
delete_held h p who tag asks ran =
    let (deep, depth, rest) = gone_on (whole_depth h.depth) _ ran in
    deleted_held deep h.conditions p who tag asks rest

place_reads : (overwrite : Option Bool) (d : PathText) → IsReading (destination_found overwrite d)
place_reads overwrite d = only_reads look_reads (only_ask looks (λ above.
    only_bind _ _ (only_require (is_folder_found (result_ok above)) (dav.Status 409)) (λ u.
    only_ask looks (λ there. only_bind _ _ (only_require (unwrap_or overwrite true || not (is_ok there)) (dav.Status 412)) (λ u. only_done)))))

-- a COPY or MOVE whose depth and destination were read
brought_held : (m : DavMethod) (deep : Bool) (h : CopyHeaders) (p d : PathText) (who : Caller) (tag : EntityTag) {old new : StoreState} {ls ms : Locks} {r : Reply}
    → AskForTag h.conditions (names p) tag → Ran Asking (ask_for (Metadata (names p)) >>= (λ found. copy_found m deep h (closed found.dir p) d who found)) old ls (Ok r) new ms → HasTag old.world (names p) (text_of tag)
brought_held m deep h p d who tag asks (ran_ask {old = old} {mid = mid} {answer = answer} one ran) =
    let (found, is, more) = answered_by dav.FsError answer _ ran in
    let checks = went (copy_allowed m deep h (closed found.dir p) d who found) _ more in
    let place = looked (destination_found h.overwrite d) _ (place_reads h.overwrite d) checks.first in
    let (apart, rest) = required (not (is_at_or_under (names (closed found.dir p)) (names d))) (dav.Status 403) _ place.rest in
    let free = went (copy_free m deep h.conditions (closed found.dir p) d who found _) _ rest in
    let guard = went (guarded dav.Status m h.conditions (Some found)) _ free.first in
    found_held m dav.Status h.conditions (names p) tag old.world mid.world answer found guard.value asks (did one) is (place.same ∙ looked_left (names p) old.world mid.world answer (did one)) guard.first

copymove_held : (m : DavMethod) (h : CopyHeaders) (p : PathText) (who : Caller) (tag : EntityTag) {old new : StoreState} {ls ms : Locks} {r : Reply}
    → AskForTag h.conditions (names p) tag → Ran Asking (copy_or_move m h p who) old ls (Ok r) new ms → HasTag old.world (names p) (text_of tag)
copymove_held m h p who tag asks ran =
    let (deep, depth, rest) = gone_on (copy_depth (is_move m) h.depth) _ ran in
    let (d, place, more) = gone_on h.destination _ rest in
    brought_held m deep h p d who tag asks more

-- an error of a PROPPATCH reports one
proppatch_ends : (c : Conditions) (p : PathText) (content : Body) (who : Caller) → Ends IsFailure AnswersOther (proppatch c p content who)
proppatch_ends c p content who =
    ends_patching IsFailure IsOtherStatus (λ same. absurd (omega (arith, same))) (λ A answer. store_fails answer) (omega arith) c p content who
    (λ found. guarded_ends dav.Status PropPatch c (Some found) (λ status above. above) refl)
    (λ tokens q. ends_free false (requester who tokens) (names q) (dav.Status 423) (omega arith))

proppatch_held : (c : Conditions) (p : PathText) (content : Body) (who : Caller) (tag : EntityTag) {old new : StoreState} {ls ms : Locks} {r : Reply}
    → AskForTag c (names p) tag → Ran Asking (proppatch c p content who) old ls (Ok r) new ms → HasTag old.world (names p) (text_of tag)
proppatch_held c p content who tag asks (ran_ask {old = old} {mid = mid} {answer = answer} one ran) =
    let (found, is, more) = answered_by dav.FsError answer _ ran in
    let guard = went (guarded dav.Status PropPatch c (Some found)) _ more in
    found_held PropPatch dav.Status c (names p) tag old.world mid.world answer found guard.value asks (did one) is (looked_left (names p) old.world mid.world answer (did one)) guard.first

-- ---- from the headers

-- what the headers ask for is what the conditions do
asked_for : (headers : Headers) (p : PathText) (c : Conditions) (tag : EntityTag) → AreConditions headers p.prefix (names p) c → AsksForTag headers tag → AskForTag c (names p) tag
asked_for headers p c tag are (inl says) = inl (says_tags _ c.if_match _ are.match says)
asked_for headers p c tag are (inr (cs, says, among)) =
    let lists = own_list (names p) cs in
    let same : c ≡ record c { lists = Some lists } = one_conditions headers p.prefix (names p) c (record c { lists = Some lists }) are
    (record { match = are.match; none_match = are.none_match; lists = (record { resource = None; conditions = cs } ∷ [], says, (Some (names p), [], refl, refl, refl)) }) in
    inr (cs, ap (λ (x : Conditions). x.lists) same, among)

-- an outcome whose reply tells success is no error
succeeded : (P : Reply → Type 0) (outcome : Result Reply DavError) → Outcome IsFailure P outcome → IsSuccess (reply_to outcome).status → (r : Reply) × (outcome ≡ Ok r)
succeeded P (Ok r) ends good = (r, refl)
succeeded P (Err e) ends good =
    let (from, below) = good in
    absurd (omega (arith, ends, below))

-- a plan that fails tells no success
failed_held : {A : Type 0} {e : DavError} (outcome : Result Reply DavError) {old new : StoreState} {ls ms : Locks} → IsFailure e → Ran Asking (fails e) old ls outcome new ms → IsSuccess (reply_to outcome).status → A
failed_held outcome above ran good =
    let (r, is) = succeeded (λ r. ⊤) outcome (subst (Outcome IsFailure (λ r. ⊤)) (sym (ran_outcome ran)) above) good in
    let clash = sym is ∙ ran_outcome ran in cc

plan_held : {allowed : ℕ} {headers : Headers} {p : PathText} {given : Body} {who : Caller} {m : DavMethod} {plan : MethodPlan Reply} (tag : EntityTag) (outcome : Result Reply DavError) {old new : StoreState} {ls ms : Locks}
    → is_update m ≡ true → AsksForTag headers tag → PlanOf allowed headers p given who m plan → Ran Asking plan old ls outcome new ms → IsSuccess (reply_to outcome).status → HasTag old.world (names p) (text_of tag)
plan_held tag outcome updates asks (gets is) ran good = absurd (true≢false (sym updates))
plan_held tag outcome updates asks (heads is) ran good = absurd (true≢false (sym updates))
plan_held {headers = headers} {p} {given} {who} {plan = plan} tag outcome {old} {new} {ls} {ms} updates asks (puts (is_put h are)) ran good =
    let (r, is) = succeeded AnswersOther outcome (ran_ends (put_ends Put h (names p) who (bytes_of_body given) refl) ran) good in
    put_held Put h (names p) who (bytes_of_body given) tag (asked_for headers p h.conditions tag are.conditions asks) (subst (λ (o : Result Reply DavError). Ran Asking plan old ls o new ms) is ran)
plan_held {headers = headers} {p} {given} {who} {plan = plan} tag outcome {old} {new} {ls} {ms} updates asks (patches (is_put h are)) ran good =
    let (r, is) = succeeded AnswersOther outcome (ran_ends (put_ends Patch h (names p) who (bytes_of_body given) refl) ran) good in
    put_held Patch h (names p) who (bytes_of_body given) tag (asked_for headers p h.conditions tag are.conditions asks) (subst (λ (o : Result Reply DavError). Ran Asking plan old ls o new ms) is ran)
plan_held tag outcome updates asks (makes is) ran good = absurd (true≢false (sym updates))
plan_held {headers = headers} {p} {who = who} {plan = plan} tag outcome {old} {new} {ls} {ms} updates asks (deletes (is_delete h are)) ran good =
    let (r, is) = succeeded AnswersOther outcome (ran_ends (delete_ends h p who) ran) good in
    delete_held h p who tag (asked_for headers p h.conditions tag are.conditions asks) (subst (λ (o : Result Reply DavError). Ran Asking plan old ls o new ms) is ran)
plan_held {headers = headers} {p} {who = who} {plan = plan} tag outcome {old} {new} {ls} {ms} updates asks (copies (is_copy_move h are)) ran good =
    let (r, is) = succeeded AnswersOther outcome (ran_ends (copymove_ends Copy headers h p who refl are) ran) good in
    copymove_held Copy h p who tag (asked_for headers p h.conditions tag are.conditions asks) (subst (λ (o : Result Reply DavError). Ran Asking plan old ls o new ms) is ran)
plan_held {headers = headers} {p} {who = who} {plan = plan} tag outcome {old} {new} {ls} {ms} updates asks (moves (is_copy_move h are)) ran good =
    let (r, is) = succeeded AnswersOther outcome (ran_ends (copymove_ends Move headers h p who refl are) ran) good in
    copymove_held Move h p who tag (asked_for headers p h.conditions tag are.conditions asks) (subst (λ (o : Result Reply DavError). Ran Asking plan old ls o new ms) is ran)
plan_held tag outcome updates asks offers ran good = absurd (true≢false (sym updates))
plan_held tag outcome updates asks (finds_properties other) ran good = absurd (true≢false (sym updates))
plan_held {headers = headers} {p} {given} {who} {plan = plan} tag outcome {old} {new} {ls} {ms} updates asks (sets_properties (is_proppatch c are)) ran good =
    let (r, is) = succeeded AnswersOther outcome (ran_ends (proppatch_ends c p given who) ran) good in
    proppatch_held c p given who tag (asked_for headers p c tag are asks) (subst (λ (o : Result Reply DavError). Ran Asking plan old ls o new ms) is ran)
plan_held tag outcome updates asks (locks is) ran good = absurd (true≢false (sym updates))
plan_held tag outcome updates asks (releases is) ran good = absurd (true≢false (sym updates))

of_held : {s : Settings} {x : Exchange} {r : Request} {m : DavMethod} {plan : MethodPlan Reply} (p : PathText) (tag : EntityTag) (outcome : Result Reply DavError) {old new : StoreState} {ls ms : Locks}
    → is_update m ≡ true → TargetNames s.prefix m r.target (Ok p) → AsksForTag (headers_of r.fields) tag
    → MeansOf s x r m plan → Ran Asking plan old ls outcome new ms → IsSuccess (reply_to outcome).status → HasTag old.world (names p) (text_of tag)
of_held p tag outcome updates names_p asks (not_allowed out) ran good = failed_held {e = dav.StatusClose 405} outcome (omega arith) ran good
of_held {s} {r = r} {m} p tag outcome updates names_p asks (no_path e has none) ran good = no_error (one_outcome s.prefix m r.target _ _ names_p none)
of_held {x = x} {m = m} p tag outcome updates names_p asks (no_body q e has named bad) ran good =
    failed_held {e = e} outcome (subst (Outcome IsFailure Any) bad (body_status (taken_by m) x.body)) ran good
of_held {s} {r = r} {m} p tag outcome {old} updates names_p asks (method q given has named fits plan) ran good =
    let same : q ≡ p = one_value (one_outcome s.prefix m r.target _ _ named names_p) in
    subst (λ (t : PathText). HasTag old.world (names t) (text_of tag)) same (plan_held tag outcome updates asks plan ran good)

means_held : {s : Settings} {x : Exchange} {plan : MethodPlan Reply} (p : PathText) (tag : EntityTag) (outcome : Result Reply DavError) {old new : StoreState} {ls ms : Locks}
    → UpdatesIf s x p tag → Means s x plan → Ran Asking plan old ls outcome new ms → IsSuccess (reply_to outcome).status → HasTag old.world (names p) (text_of tag)
means_held p tag outcome (r, m, head, gives, updates, named, asks) (no_head out) ran good = absurd (out r head)
means_held p tag outcome (r, m, head, gives, updates, named, asks) (no_method q e head' gives') ran good =
    failed_held {e = e} outcome (subst IsFailure (sym gives'.0) (omega arith)) ran good
means_held {s} {x} {plan} p tag outcome (r, m, head, gives, updates, named, asks) (known q n head' gives' means) ran good =
    let request : q ≡ r = one_head x.head q r head' head in
    let same : n ≡ m = one_method r.method n m (subst (λ (h : Request). GivesServed h.method (Ok n)) request gives') gives in
    of_held p tag outcome updates named asks (subst (λ (k : DavMethod). MeansOf s x r k plan) same (subst (λ (h : Request). MeansOf s x h n plan) request means)) ran good

step_held : {s : Settings} {x : Exchange} (p : PathText) (tag : EntityTag) {old new : StoreState} {ls ms : Locks} {reply : Reply} → UpdatesIf s x p tag → Steps s x old ls reply new ms → IsSuccess reply.status → HasTag old.world (names p) (text_of tag)
step_held p tag updates (steps plan outcome means ran) good = means_held p tag outcome updates means ran good

-- ---- one PUT

header_length : (a b : Header) → a ≡ b → length a.0 ≡ length b.0
header_length a b same = ap (λ (h : Header). length h.0) same

-- no error tells a tag
error_untagged : {A : Type 0} (close : Bool) (tag : List ℕ) → Contains (closing close ++ content_length 0 ∷ []) (codes "etag", tag) → A
error_untagged true tag (zero, within, is) = let clash = header_length (codes "connection", codes "close") (codes "etag", tag) is in absurd (omega (arith, clash))
error_untagged true tag (suc zero, within, is) = let clash = header_length (content_length 0) (codes "etag", tag) is in absurd (omega (arith, clash))
error_untagged true tag (suc (suc k), within, is) = absurd (omega (arith, within))
error_untagged false tag (zero, within, is) = let clash = header_length (content_length 0) (codes "etag", tag) is in absurd (omega (arith, clash))
error_untagged false tag (suc k, within, is) = absurd (omega (arith, within))

-- a plan that fails tells none
failed_untagged : {A : Type 0} (e : DavError) (outcome : Result Reply DavError) (tag : List ℕ) {old new : StoreState} {ls ms : Locks} → Ran Asking (fails e) old ls outcome new ms → Contains (reply_to outcome).headers (codes "etag", tag) → A
failed_untagged e outcome tag ran among =
    error_untagged (must_close e) tag (subst (λ (o : Result Reply DavError). Contains (reply_to o).headers (codes "etag", tag)) (ran_outcome ran) among)

-- no Content-Range means the whole file
whole_bounds : (values : List FieldValue) (b : Bounds) → values ≡ [] → TellsBounds values b → b ≡ Whole
whole_bounds values Unread none (some, unread) = absurd (some none)
whole_bounds values Whole none tells = refl
whole_bounds values (Within a b) none (len, is) = absurd (subst (λ (vs : List FieldValue). IsContentRange vs (record { bounds = Some (a, b); length = len })) none is)

-- the bytes of the body that PUT is handed
taken_bytes : (b given : Body) (bytes : List ℕ) → body_for TakesBytes b ≡ Ok given → bytes_of_body b ≡ Some bytes → bytes_of_body given ≡ Some bytes
taken_bytes body.None given bytes taken is = ap bytes_of_body (sym (one_value taken)) ∙ is
taken_bytes (body.Bytes []) given bytes taken is = ap bytes_of_body (sym (one_value taken)) ∙ is
taken_bytes (body.Bytes (b ∷ bs)) given bytes taken is = ap bytes_of_body (sym (one_value taken)) ∙ is
taken_bytes (body.Tree tree) given bytes taken is = cc
taken_bytes body.Malformed given bytes taken is = cc

body_stands : (h : PutHeaders) (p : Path) (who : Caller) (body : Option (List ℕ)) (bytes tag : List ℕ) (outcome : Result Reply DavError) {old new : StoreState} {ls ms : Locks} → body ≡ Some bytes → IsWorld old.world → IsStorable p → who.moment ≤ last_moment → h.range ≡ Whole
    → Ran Asking (put_body Put h p who body) old ls outcome new ms → Contains (reply_to outcome).headers (codes "etag", tag) → StandsAnywhere new.world tag bytes
body_stands h p who body bytes tag (Err e) is world storable small whole ran among = error_untagged (must_close e) tag among
body_stands h p who body bytes tag (Ok r) {old} {new} {ls} {ms} is world storable small whole ran among =
    put_stands h p who bytes tag world storable small whole (subst (λ (b : Option (List ℕ)). Ran Asking (put_body Put h p who b) old ls (Ok r) new ms) is ran) among

-- the plan of a PUT of these bytes
plan_stands : {allowed : ℕ} {headers : Headers} {p : PathText} {given : Body} {who : Caller} {m : DavMethod} {plan : MethodPlan Reply} (bytes tag : List ℕ) (outcome : Result Reply DavError) {old new : StoreState} {ls ms : Locks}
    → m ≡ Put → get_all headers (codes "content-range") ≡ [] → bytes_of_body given ≡ Some bytes → IsWorld old.world → IsStorable (names p) → who.moment ≤ last_moment
    → PlanOf allowed headers p given who m plan → Ran Asking plan old ls outcome new ms → Contains (reply_to outcome).headers (codes "etag", tag) → StandsAnywhere new.world tag bytes
plan_stands bytes tag outcome puts_it range is world storable small (gets other) ran among = absurd (cc)
plan_stands bytes tag outcome puts_it range is world storable small (heads other) ran among = absurd (cc)
plan_stands {headers = headers} {p} {given} {who} bytes tag outcome puts_it range is world storable small (puts (is_put h are)) ran among =
    body_stands h (names p) who (bytes_of_body given) bytes tag outcome is world storable small (whole_bounds (get_all headers (codes "content-range")) h.range range are.range) ran among
plan_stands bytes tag outcome puts_it range is world storable small (patches other) ran among = absurd (cc)
plan_stands bytes tag outcome puts_it range is world storable small (makes other) ran among = absurd (cc)
plan_stands bytes tag outcome puts_it range is world storable small (deletes other) ran among = absurd (cc)
plan_stands bytes tag outcome puts_it range is world storable small (copies other) ran among = absurd (cc)
plan_stands bytes tag outcome puts_it range is world storable small (moves other) ran among = absurd (cc)
plan_stands bytes tag outcome puts_it range is world storable small offers ran among = absurd (cc)
plan_stands bytes tag outcome puts_it range is world storable small (finds_properties other) ran among = absurd (cc)
plan_stands bytes tag outcome puts_it range is world storable small (sets_properties other) ran among = absurd (cc)
plan_stands bytes tag outcome puts_it range is world storable small (locks other) ran among = absurd (cc)
plan_stands bytes tag outcome puts_it range is world storable small (releases other) ran among = absurd (cc)

of_stands : {s : Settings} {x : Exchange} {r : Request} {m : DavMethod} {plan : MethodPlan Reply} (bytes tag : List ℕ) (outcome : Result Reply DavError) {old new : StoreState} {ls ms : Locks}
    → m ≡ Put → get_all (headers_of r.fields) (codes "content-range") ≡ [] → bytes_of_body x.body ≡ Some bytes → IsWorld old.world → x.moment ≤ last_moment
    → MeansOf s x r m plan → Ran Asking plan old ls outcome new ms → Contains (reply_to outcome).headers (codes "etag", tag) → StandsAnywhere new.world tag bytes
of_stands bytes tag outcome puts_it range is world small (not_allowed out) ran among = failed_untagged (dav.StatusClose 405) outcome tag ran among
of_stands bytes tag outcome puts_it range is world small (no_path e has none) ran among = failed_untagged e outcome tag ran among
of_stands bytes tag outcome puts_it range is world small (no_body q e has named bad) ran among = failed_untagged e outcome tag ran among
of_stands {x = x} bytes tag outcome puts_it range is world small (method q given has named fits plan) ran among =
    let taken : body_for TakesBytes x.body ≡ Ok given = subst (λ (k : DavMethod). body_for (taken_by k) x.body ≡ Ok given) puts_it fits in
    plan_stands bytes tag outcome puts_it range (taken_bytes x.body given bytes taken is) world (target_storable named) small plan ran among

means_stands : {s : Settings} {x : Exchange} {plan : MethodPlan Reply} (bytes tag : List ℕ) (outcome : Result Reply DavError) {old new : StoreState} {ls ms : Locks}
    → PutsWhole x bytes → IsWorld old.world → x.moment ≤ last_moment → Means s x plan → Ran Asking plan old ls outcome new ms → Contains (reply_to outcome).headers (codes "etag", tag) → StandsAnywhere new.world tag bytes
means_stands bytes tag outcome whole world small (no_head out) ran among = failed_untagged (dav.Status 400) outcome tag ran among
means_stands bytes tag outcome whole world small (no_method q e head' gives') ran among = failed_untagged e outcome tag ran among
means_stands {x = x} bytes tag outcome (r, head, gives, range, is) world small (known q n head' gives' means) ran among =
    let request : q ≡ r = one_head x.head q r head' head in
    of_stands bytes tag outcome (asks_one x Put (r, head, gives) head' gives') (ap (λ (h : Request). get_all (headers_of h.fields) (codes "content-range")) request ∙ range) is world small means ran among

step_stands : {s : Settings} {x : Exchange} (bytes tag : List ℕ) {old new : StoreState} {ls ms : Locks} {reply : Reply}
    → PutsWhole x bytes → IsWorld old.world → x.moment ≤ last_moment → Steps s x old ls reply new ms → Contains reply.headers (codes "etag", tag) → StandsAnywhere new.world tag bytes
step_stands bytes tag whole world small (steps plan outcome means ran) among = means_stands bytes tag outcome whole world small means ran among

-- what a PUT told is known after it
turn_stored : {s : Settings} (t : Turn) (bytes tag : List ℕ) (old : StoreState) {new : StoreState} {ls ms : Locks} {reply : Reply}
    → PutsWhole t.asked bytes → IsWorld old.world → t.asked.moment ≤ last_moment → Steps s t.asked (begun t.refusals old) ls reply new ms → Contains reply.headers (codes "etag", tag) → Known new.world tag bytes
turn_stored t bytes tag old {new} whole world small step among =
    let (p, stands) = step_stands bytes tag whole (subst IsWorld (sym (begun_world t.refusals old)) world) small step among in
    stands_known new.world p tag bytes (turn_keeps t old small world step).world stands

-- ---- whole runs

-- what has a tag that is known is a file of the bytes that it is known of
known_there : (w : World) (p : Path) (tag bytes : List ℕ) → IsWorld w → Known w tag bytes → HasTag w p tag → (n : Node) × (node_at w p ≡ Some n) × (n.kind ≡ File bytes)
known_there w p tag bytes world is has =
    let top = world.next in
    let low = is.remembered.below in
    let high = world.numbers.below p has.node has.there in
    let same : has.node.number ≡ is.number = one_number has.node.number is.number (omega (arith, top, high)) (omega (arith, top, low)) (sym has.tag_is ∙ is.tag_is) in
    (has.node, has.there, is.remembered.bytes_are p has.node has.there same)

-- what a PUT of a run told is known at its end
stored_known : {s : Settings} {ts : List Turn} {old new : StoreState} {ls ms : Locks} {replies : List Reply} (k : ℕ) (t : Turn) (reply : Reply) (bytes tag : List ℕ)
    → IsWorld old.world → MomentsAreDates ts → Runs s ts old ls replies new ms → k < length (zip ts replies) → slice_index_or (zip ts replies) k (t, reply) ≡ (t, reply)
    → PutsWhole t.asked bytes → Contains reply.headers (codes "etag", tag) → Known new.world tag bytes
stored_known k t reply bytes tag world small no_more within is whole among = absurd (omega (arith, within))
stored_known zero t reply bytes tag world small (one_more {t = u} {ts} {old} {mid} {new} {reply = first} step rest) within is whole among =
    let turn : u ≡ t = ap (λ (e : Turn × Reply). e.0) is in
    let answer : first ≡ reply = ap (λ (e : Turn × Reply). e.1) is in
    let puts_it : PutsWhole u.asked bytes = subst (λ (v : Turn). PutsWhole v.asked bytes) (sym turn) whole in
    let told : Contains first.headers (codes "etag", tag) = subst (λ (r : Reply). Contains r.headers (codes "etag", tag)) (sym answer) among in
    let after = (turn_keeps u old (small_first u ts small) world step).world in
    known_on mid.world new.world tag bytes (run_keeps after (small_rest u ts small) rest) (turn_stored u bytes tag old puts_it world (small_first u ts small) step told)
stored_known (suc k) t reply bytes tag world small (one_more {t = u} {ts} {old} step rest) within is whole among =
    stored_known k t reply bytes tag (turn_keeps u old (small_first u ts small) world step).world (small_rest u ts small) rest (omega (arith, within)) is whole among

-- what a run told is known at its end
told_known : {s : Settings} {ts : List Turn} {old new : StoreState} {ls ms : Locks} {replies : List Reply} (tag bytes : List ℕ)
    → IsWorld old.world → MomentsAreDates ts → Runs s ts old ls replies new ms → ToldIn ts replies tag bytes → Known new.world tag bytes
told_known {ts = ts} {replies = replies} tag bytes world small ran (inl shown) = shown_known tag bytes world small ran (inr (shown_among ts replies tag bytes shown))
told_known tag bytes world small ran (inr (t, reply, (k, within, is), whole, among)) = stored_known k t reply bytes tag world small ran within is whole among

pub no_lost_update : NoLostUpdate
no_lost_update s ts t old mid new ls ks ms replies reply p tag bytes world small ran told updates step good =
    let text = text_of tag in
    let has : HasTag mid.world (names p) text = subst (λ (w : World). HasTag w (names p) text) (begun_world t.refusals mid) (step_held p tag updates step good) in
    known_there mid.world (names p) text bytes (run_keeps world small ran).world (told_known text bytes world small ran told) has
