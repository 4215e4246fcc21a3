-- The hrefs of replies lead back to paths that the request is about.
use Rattle.std.proofs.Common.{◌≡◌, ◌≢◌, ◌⊎◌, ◌≤◌, ℕ, ◌==◌, Bool, true, false, not, if◌then◌else◌, List, [], ◌∷◌, All, map, codes, Option, Some, None, Result, Ok, Err, inl, inr, refl, sym, ap, subst, ◌∙◌, append-nil}
use Rattle.std.specs.Prelude.{IfOk}
use Rattle.std.specs.Option.{is_some}
use Rattle.std.specs.Result.{result_ok}
use Rattle.std.proofs.lemmas.List.Elements.{All-nil, All-cons, All-head, All-tail, All-weaker, All-map}
use Rattle.http_header.specs.FieldValue.{FieldValue}
use Rattle.http_header.specs.HeaderMap.{get_all}
use Rattle.dav_core.specs.declared.errors.DavError.{DavError}
use Rattle.dav_core.specs.declared.errors.DavError.TheVariants as dav
use Rattle.dav_core.specs.declared.fs.DavMetaData.{DavMetaData}
use Rattle.dav_core.specs.declared.method.DavMethod.{DavMethod}
use Rattle.dav_core.specs.declared.method.DavMethod.TheVariants.{Get, Head, Put, Patch, Options, PropFind, PropPatch, Delete, Copy as CopyMethod, Move as MoveMethod}
use Rattle.dav_core.specs.Asking.{StoreState, Asks, Metadata, CreateDir, HaveProps, Open, Flush, FileMetadata, Rename}
use Rattle.dav_core.specs.Element.{ElementTree}
use Rattle.dav_core.specs.Path.{Path, PathText, names, star, is_at_or_under, are_equal, without_slash}
use Rattle.dav_core.specs.Target.{Reads}
use Rattle.dav_core.specs.World.{IsWorld, last_moment}
use Rattle.dav_core.proofs.Theorems.{rest_after-append}
use Rattle.dav_engine.specs.declared.request.Body.{Body}
use Rattle.dav_engine.specs.Caller.{Caller, requester}
use Rattle.dav_engine.specs.Conditions.{Conditions, if_match, guarded}
use Rattle.dav_engine.specs.Copying.{CopyFault, copy_report, refused_at}
use Rattle.dav_engine.specs.CopyMove.{CopyHeaders, DestinationNames, absent, unreadable, outside, inside, is_copy_move, is_move, copy_depth, copy_allowed, is_replaced, clearing, drop_if, drop_if_moved, transfer, copied_status, copy_reply, transfer_if_cleared, copy_found, copy_or_move}
use Rattle.dav_engine.specs.Delete.{DeleteHeaders, is_delete, whole_depth, delete_allowed, drop_if_gone, delete_reply, delete_found, delete}
use Rattle.dav_engine.specs.Folder.{closed, room_at, is_folder_found, path_found, location_found}
use Rattle.dav_engine.specs.Headers.{Headers}
use Rattle.dav_engine.specs.Lock.{is_lock, asked_lock, grant_in, empty_opening, make_empty, lock_new, token_to_refresh, refresh_in, lock_again, is_absent, lock as lock_plan}
use Rattle.dav_engine.specs.LockHeaders.{LockHeaders, refreshed_for}
use Rattle.dav_engine.specs.Method.{MethodPlan, ◌>>=◌, gives, require, require_free, required, has_locks, refused_as}
use Rattle.dav_engine.specs.Mkcol.{is_mkcol, mkcol, mkcol_allowed, create_error}
use Rattle.dav_engine.specs.Multistatus.{PathStatus, response_for, status_reply, multistatus_reply, multi_reply}
use Rattle.dav_engine.specs.Options.{options}
use Rattle.dav_engine.specs.Plan.{Done, Locks, Ran}
use Rattle.dav_engine.specs.Properties.{property_response}
use Rattle.dav_engine.specs.Propfind.{IsPropfind}
use Rattle.dav_engine.specs.PropfindLaws.{IsServerPrefix, IsTarget, IsOfOneUnder, responses_in}
use Rattle.dav_engine.specs.Proppatch.{Change, is_proppatch, changes_in, grouped, proppatch_reply, patch_properties, proppatch}
use Rattle.dav_engine.specs.Put.{PutHeaders, is_put, put_opening, open_error, sought, written, put_allowed, put_body, bytes_of_body}
use Rattle.dav_engine.specs.Removal.{Fault, Stays, StaysWhole, StaysWith, report_of}
use Rattle.dav_engine.specs.Reply.{Reply, Header, reply_to}
use Rattle.dav_engine.specs.Unlock.{is_unlock, end_in, end_lock, unlock}
use Rattle.dav_engine.specs.WorldLaws.{IsProperPlan}
use Rattle.dav_engine.proofs.Theorems.{IsPlace, place_by, responses_lead_back}
use Rattle.dav_server.specs.Get.{is_get, show, show_or_tell, unless_condition_status, get}
use Rattle.dav_server.specs.Head.{Request, IsHead}
use Rattle.dav_server.specs.Headers.{headers_of}
use Rattle.dav_server.specs.Holder.{IsRequestTo}
use Rattle.dav_server.specs.HrefLaws.{IsServedPath, TellsOf, ConcernsPath, at_target, at_destination, HasConcernedHref, RepliesLeadBack}
use Rattle.dav_server.specs.Machine.{Settings, Exchange, caller, PlanOf, gets, heads, puts, patches, makes, deletes, copies, moves, offers, finds_properties, sets_properties, locks, releases, MeansOf, not_allowed, no_path, no_body, method, Means, no_head, no_method, known, Steps, steps}
use Rattle.dav_server.specs.Method.{GivesServed}
use Rattle.dav_server.specs.Setup.{IsPrefix}
use Rattle.dav_server.specs.Target.{BeginsWithSlash, TargetNames, server, path}
use Rattle.dav_server.proofs.HrefLemmas.{Reached, reached_closed, read_served, responses_are, status_tells, properties_lead_back}
use Rattle.dav_server.proofs.MeansWorld.{means_proper}
use Rattle.dav_server.proofs.PathLemmas.{slash_no_star, slash_once, cut_prefix}
use Rattle.dav_server.proofs.TargetLemmas.{text_no_star}
use Rattle.dav_server.proofs.TellWalks.{Tells, tells_ok, tells_err, tells_ask, tells_look, tells_ran, tells_outcome, tells_then, tells_bind, tells_after, tells_either, Names, tells_removal, Concerns, refused_concerns, tells_copy}

-- ---- replies of methods

-- `About` holds of the paths that a request is about
module _ (prefix : List ℕ) (fits : IsPrefix prefix) (About : PathText → Type 0) where
  abbrev pub TellsOne : ElementTree → Type 0
  TellsOne response = (q : PathText) × About q × TellsOf prefix q response

  abbrev pub AllTell : Reply → Type 0
  AllTell r = All TellsOne (responses_in r.body)

  none : All TellsOne []
  none = All-nil TellsOne

  -- what is reported of such a path
  abbrev Reported : PathStatus → Type 0
  Reported item = IsServedPath prefix item.0 × About item.0

  tell_all : (items : List PathStatus) → All Reported items → All TellsOne (map response_for items)
  tell_all [] are = none
  tell_all (item ∷ items) are =
      let (served, about) = All-head Reported item items are in
      All-cons TellsOne (response_for item) (map response_for items) (item.0, about, status_tells prefix item fits served) (tell_all items (All-tail Reported item items are))

  told : (items : List PathStatus) → All Reported items → AllTell (multistatus_reply items)
  told items are = subst (All TellsOne) (sym (responses_are items)) (tell_all items are)

  one_told : (b : Bool) (item : PathStatus) → Reported item → AllTell (if b then status_reply item.1 else multistatus_reply (item ∷ []))
  one_told true item is = none
  one_told false item is = told (item ∷ []) (All-cons Reported item [] is (All-nil Reported))

  multi_told : (p : PathText) (items : List PathStatus) → All Reported items → IfOk (multi_reply p items) AllTell
  multi_told p [] are = tt
  multi_told p (item ∷ []) are = one_told (are_equal item.0 p) item (All-head Reported item [] are)
  multi_told p (item ∷ other ∷ more) are = told (item ∷ other ∷ more) are

  -- ---- DELETE

  module _ (top : Path) (about : (q : PathText) → Reached prefix top q → About q) where
    reported_by : (f : Fault) → Names prefix top f → Reported (report_of f)
    reported_by (Stays p status) at = (at.served, about p at)
    reported_by (StaysWhole p status) at = (at.served, about p at)
    reported_by (StaysWith p name status) at = (at.served, about p at)

    all_reported : (faults : List Fault) → All (Names prefix top) faults → All Reported (map report_of faults)
    all_reported faults are = All-map Reported report_of faults (All-weaker (Names prefix top) (λ f. Reported (report_of f)) reported_by faults are)

    delete_told : (p : PathText) (faults : List Fault) → All (Names prefix top) faults → IfOk (delete_reply p faults) AllTell
    delete_told p [] are = none
    delete_told p (f ∷ faults) are = multi_told p (map report_of (f ∷ faults)) (all_reported (f ∷ faults) are)

    delete_found_tells : (deep : Bool) (c : Conditions) (p : PathText) (who : Caller) (found : DavMetaData) → Reached prefix top p → Tells AllTell (delete_found deep c p who found)
    delete_found_tells deep c p who found at =
        tells_after (delete_allowed c p who found) _ (λ _.
        tells_bind _ (tells_removal prefix top deep who.moment p found.dir at) (λ faults are.
        tells_after (drop_if_gone p faults) _ (λ _. tells_outcome (delete_reply p faults) (delete_told p faults are))))

    pub delete_tells : (h : DeleteHeaders) (p : PathText) (who : Caller) → Reached prefix top p → Tells AllTell (delete h p who)
    delete_tells h p who at =
        tells_then (whole_depth h.depth) _ (λ deep _.
        tells_ask {c = Metadata (names p)} (λ answer _. tells_then (refused_as dav.FsError answer) _ (λ found _.
        delete_found_tells deep h.conditions (closed found.dir p) who found (reached_closed prefix top found.dir p at))))

  -- ---- COPY and MOVE

  module _ (source place : Path) (about : (q : PathText) → Reached prefix source q → About q) (about_place : (q : PathText) → Reached prefix place q → About q) where
    copied_by : (f : CopyFault) → Concerns prefix source place f → Reported (copy_report f)
    copied_by f (inl at) = (at.served, about f.0 at)
    copied_by f (inr at) = (at.served, about_place f.0 at)

    copy_told : (p : PathText) (status : ℕ) (faults : List CopyFault) → All (Concerns prefix source place) faults → IfOk (copy_reply p status faults) AllTell
    copy_told p status [] are = none
    copy_told p status (f ∷ faults) are =
        multi_told p (map copy_report (f ∷ faults)) (All-map Reported copy_report (f ∷ faults) (All-weaker (Concerns prefix source place) (λ g. Reported (copy_report g)) copied_by (f ∷ faults) are))

    brought_concern : (by_moving deep : Bool) (now : ℕ) (p d : PathText) → Reached prefix source p → Reached prefix place d → Tells (All (Concerns prefix source place)) (transfer by_moving deep now p d)
    brought_concern true deep now p d from to =
        tells_ask {c = Rename (names p) (names d) now} (λ moved _.
        tells_after (drop_if_moved p (refused_at p moved)) (λ _. gives (refused_at p moved)) (λ _. tells_ok (refused_concerns prefix source place p moved from)))
    brought_concern false deep now p d from to = tells_copy prefix source place (room_at p) deep now d p d from to

    clearing_names : (deep : Bool) (now : ℕ) (d : PathText) (there : Option DavMetaData) → Reached prefix place d → Tells (All (Names prefix place)) (clearing deep now d there)
    clearing_names deep now d there to =
        tells_either (is_replaced deep there) _ _ (tells_removal prefix place true now d (is_folder_found there) to) (tells_ok (All-nil (Names prefix place)))

    bring_tells : (by_moving deep : Bool) (now : ℕ) (p d : PathText) (there : Option DavMetaData) (faults : List Fault) → Reached prefix source p → Reached prefix place d → All (Names prefix place) faults
        → Tells AllTell (transfer_if_cleared by_moving deep now p d there faults)
    bring_tells by_moving deep now p d there (f ∷ faults) from to are = tells_outcome (multi_reply p (map report_of (f ∷ faults))) (multi_told p (map report_of (f ∷ faults)) (all_reported place about_place (f ∷ faults) are))
    bring_tells by_moving deep now p d there [] from to are =
        tells_after (drop_if (is_replaced deep there) d) _ (λ _.
        tells_bind _ (brought_concern by_moving deep now p d from to) (λ faults concern. tells_outcome (copy_reply p (copied_status there) faults) (copy_told p (copied_status there) faults concern)))

    pub copy_found_tells : (m : DavMethod) (deep : Bool) (h : CopyHeaders) (p d : PathText) (who : Caller) (found : DavMetaData) → Reached prefix source p → Reached prefix place d → Tells AllTell (copy_found m deep h p d who found)
    copy_found_tells m deep h p d who found from to =
        tells_after (copy_allowed m deep h p d who found) _ (λ there.
        tells_bind _ (clearing_names deep who.moment d there to) (λ faults are. bring_tells (is_move m) deep who.moment p d there faults from to are))

  pub copymove_tells : (source : Path) (m : DavMethod) (h : CopyHeaders) (p : PathText) (who : Caller) → ((q : PathText) → Reached prefix source q → About q) → Reached prefix source p
      → ((d : PathText) → h.destination ≡ Ok d → Reached prefix (names d) d × ((q : PathText) → Reached prefix (names d) q → About q)) → Tells AllTell (copy_or_move m h p who)
  copymove_tells source m h p who about from place =
      tells_then (copy_depth (is_move m) h.depth) _ (λ deep _.
      tells_then h.destination _ (λ d is.
      tells_ask {c = Metadata (names p)} (λ answer _. tells_then (refused_as dav.FsError answer) _ (λ found _.
      copy_found_tells source (names d) about (place d is).1 m deep h (closed found.dir p) d who found (reached_closed prefix source found.dir p from) (place d is).0))))

  -- ---- PROPPATCH

  module _ (top : Path) (about : (q : PathText) → Reached prefix top q → About q) where
    patch_tells : (p : PathText) (location : List Header) (changes : List Change) → Reached prefix top p → Tells AllTell (patch_properties p location changes)
    patch_tells p location changes at =
        tells_ask {c = HaveProps (names p)} (λ answer _.
        tells_after _ (λ did. gives (proppatch_reply location p did)) (λ did.
        tells_ok (All-cons TellsOne (property_response p (grouped did)) [] (p, about p at, properties_lead_back prefix p (grouped did) fits at.served) none)))

    pub proppatch_tells : (c : Conditions) (p : PathText) (content : Body) (who : Caller) → Reached prefix top p → Tells AllTell (proppatch c p content who)
    proppatch_tells c p content who at =
        tells_ask {c = Metadata (names p)} (λ answer _. tells_then (refused_as dav.FsError answer) _ (λ found _.
        tells_after (guarded dav.Status PropPatch c (Some found)) _ (λ tokens.
        tells_after (require_free false (requester who tokens) (names (closed found.dir p)) (dav.Status 423)) _ (λ _.
        tells_then (required (changes_in content) dav.XmlParseError) _ (λ changes _.
        patch_tells (closed found.dir p) (location_found (Some found) p) changes (reached_closed prefix top found.dir p at))))))

  -- ---- methods whose replies hold no responses

  put_tells : (m : DavMethod) (h : PutHeaders) (p : Path) (who : Caller) (bytes : Option (List ℕ)) → Tells AllTell (put_body m h p who bytes)
  put_tells m h p who None = tells_err
  put_tells m h p who (Some bytes) =
      tells_after (put_allowed m h p who bytes) _ (λ allowed.
      tells_ask {c = Open p (put_opening h allowed.0) who.moment} (λ answer _. tells_then (refused_as (open_error (put_opening h allowed.0)) answer) _ (λ file _.
      tells_after (sought allowed.0.from file) _ (λ file.
      tells_after (written file bytes who.moment) _ (λ file.
      tells_ask {c = Flush file} (λ answer _. tells_then (refused_as dav.FsError answer) _ (λ done _.
      tells_ask {c = FileMetadata file} (λ answer _. tells_ok none))))))))

  mkcol_tells : (c : Conditions) (p : PathText) (who : Caller) → Tells AllTell (mkcol c p who)
  mkcol_tells c p who =
      tells_after (mkcol_allowed c p who) _ (λ _.
      tells_ask {c = CreateDir (names p) who.moment} (λ answer _. tells_then (refused_as create_error answer) _ (λ done _. tells_ok none)))

  options_tells : (allowed : ℕ) (p : PathText) → Tells AllTell (options allowed p)
  options_tells allowed p = tells_ask {c = Metadata (names p)} (λ answer _. tells_look (λ ls. tells_ok none))

  unlocked_tells : (token : Option (List ℕ)) (p : PathText) → Tells AllTell (Done (required token (dav.Status 400)) >>= (λ said. end_lock p said))
  unlocked_tells None p = tells_err
  unlocked_tells (Some token) p = tells_ask {c = Metadata (names p)} (λ found _. tells_look (λ ls. tells_after (end_in token (names p) ls) _ (λ _. tells_ok none)))

  unlock_tells : (token : Option (List ℕ)) (p : PathText) → Tells AllTell (unlock token p)
  unlock_tells token p = tells_look (λ ls. tells_after (require (has_locks ls) (dav.Status 405)) _ (λ _. unlocked_tells token p))

  lock_again_tells : (h : LockHeaders) (p : PathText) (location : List Header) (who : Caller) → Tells AllTell (lock_again h p location who)
  lock_again_tells h p location who =
      tells_after (token_to_refresh h (names p) who) _ (λ token. tells_look (λ ls.
      tells_after (refresh_in token (names p) (refreshed_for h.timeout) who.moment ls) _ (λ l. tells_ok none)))

  lock_new_tells : (h : LockHeaders) (p : PathText) (location : List Header) (content : Body) (who : Caller) (found : Option DavMetaData) → Tells AllTell (lock_new h p location content who found)
  lock_new_tells h p location content who found =
      tells_after (asked_lock h p content who found) _ (λ new. tells_look (λ ls.
      tells_after (grant_in new ls) _ (λ _.
      tells_after (make_empty (empty_opening h.conditions) new.token (names p) who.moment found) _ (λ _. tells_ok none))))

  lock_tells : (h : LockHeaders) (p : PathText) (content : Body) (who : Caller) → Tells AllTell (lock_plan h p content who)
  lock_tells h p content who = tells_look (λ ls.
      tells_after (require (has_locks ls) (dav.Status 405)) _ (λ _.
      tells_ask {c = Metadata (names p)} (λ answer _.
      tells_either (is_absent content) _ _ (lock_again_tells h (path_found (result_ok answer) p) (location_found (result_ok answer) p) who)
      (lock_new_tells h (path_found (result_ok answer) p) (location_found (result_ok answer) p) content who (result_ok answer)))))

  show_tells : (p : Path) (now : ℕ) (file : DavMetaData) → Tells AllTell (show p now file)
  show_tells p now file =
      tells_ask (λ answer _. tells_then (refused_as dav.FsError answer) _ (λ handle _.
      tells_ask (λ answer _. tells_then (refused_as dav.FsError answer) _ (λ bytes _. tells_ok none))))

  show_or_tell_tells : (m : DavMethod) (p : Path) (now : ℕ) (file : DavMetaData) → Tells AllTell (show_or_tell m p now file)
  show_or_tell_tells Head p now file = tells_ok none
  show_or_tell_tells _ p now file = show_tells p now file

  judged_tells : (verdict : Option ℕ) (found : DavMetaData) (next : MethodPlan Reply) → Tells AllTell next → Tells AllTell (unless_condition_status verdict found next)
  judged_tells None found next is = is
  judged_tells (Some status) found next is = tells_either (status == 304) _ _ (tells_ok none) tells_err

  get_tells : (m : DavMethod) (c : Conditions) (p : Path) (now : ℕ) → Tells AllTell (get m c p now)
  get_tells m c p now =
      tells_ask {c = Metadata p} (λ answer _. tells_then (refused_as dav.FsError answer) _ (λ found _.
      tells_after (require (not found.dir) (dav.Status 405)) _ (λ _.
      tells_after (if_match m c (Some found)) _ (λ verdict. judged_tells verdict found (show_or_tell m p now found) (show_or_tell_tells m p now found)))))

  -- what answers an error holds none
  by_outcome : (outcome : Result Reply DavError) → IfOk outcome AllTell → AllTell (reply_to outcome)
  by_outcome (Ok r) is = is
  by_outcome (Err e) is = none

-- ---- where a request leads

under_top : (prefix : List ℕ) (top : Path) (q : PathText) → Reached prefix top q → is_at_or_under (names q) top ≡ true
under_top prefix top q at = ap (λ (z : Path). is_at_or_under z top) at.at ∙ ap is_some (rest_after-append top at.rest)

itself : (prefix : List ℕ) (p : PathText) → IsServedPath prefix p → Reached prefix (names p) p
itself prefix p served = record { served = served; rest = []; at = sym (append-nil (names p)) }

-- what the target of another method than OPTIONS names
pub record Named (prefix : List ℕ) (p : PathText) : Type 0 where
  pub text : List ℕ
  pub target : IsTarget prefix text p
  pub served : IsServedPath prefix p

pub named_by : {prefix target : List ℕ} {m : DavMethod} {p : PathText} → m ≢ Options → TargetNames prefix m target (Ok p) → Named prefix p
named_by other (server is options) = absurd (other options)
named_by {prefix} {target} {p = p} other (path {text} {bytes} has reads cut) =
    let apart : text ≢ star = text_no_star target text has in
    record { text = text; target = (apart, (bytes, reads, cut)); served = read_served prefix text bytes p apart reads cut }

pub server_prefix : (prefix : List ℕ) → IsPrefix prefix → IsServerPrefix prefix
server_prefix prefix (inl empty) = inl empty
server_prefix prefix (inr (slash, reads)) = inr (slash_no_star prefix slash, reads)

pub begins : (text bytes : List ℕ) → text ≢ star → Reads text bytes → BeginsWithSlash text
begins text bytes other (inl (is, same)) = absurd (other is)
begins text bytes other (inr (ns, c, named, is)) = named.rooted.rooted

-- what Destination names has the prefix of the target, without a slash at its end
place_front : {front : List ℕ} {values : List FieldValue} {r : Result PathText DavError} (d : PathText) → DestinationNames front values r → r ≡ Ok d → d.prefix ≡ without_slash front
place_front d (absent out) h = cc
place_front d (unreadable text is refused other) h = cc
place_front d (outside text bytes is reads cut) h = cc
place_front {front} d (inside text bytes {d = place} is reads cut) h =
    let same : place ≡ d = cc in subst (λ (z : PathText). z.prefix ≡ without_slash front) same (cut_prefix cut)

place_served : (prefix : List ℕ) (fits : IsPrefix prefix) (p d : PathText) {values : List FieldValue} {r : Result PathText DavError} → IsServedPath prefix p → DestinationNames p.prefix values r → r ≡ Ok d → IsServedPath prefix d
place_served prefix fits p d served names_it is =
    let at : IsPlace d = place_by d names_it is in
    record { front = place_front d names_it is ∙ ap without_slash served.front ∙ slash_once prefix fits; storable = at.storable; is_closed = at.plain.is_closed; bytes_are = at.plain.bytes_are }

-- ---- the law

module _ (s : Settings) (x : Exchange) (fits : IsPrefix s.prefix) (small : x.moment ≤ last_moment) where
  abbrev About : PathText → Type 0
  About = ConcernsPath s x

  abbrev AllTold : Reply → Type 0
  AllTold = AllTell s.prefix fits About

  module _ (r : Request) (m : DavMethod) (p : PathText) (is_for : IsRequestTo s x r m p) where
    about : (q : PathText) → Reached s.prefix (names p) q → About q
    about q at = at_target r m p is_for (under_top s.prefix (names p) q at)

    from_find : (response : ElementTree) → IsOfOneUnder s.prefix (names p) response → TellsOne s.prefix fits About response
    from_find response (q, within, tells) = (
      q,
      at_target r m p is_for within,
      record {
        text = tells.text;
        hrefs = tells.hrefs;
        leads = λ n. let (other, (bytes, reads, cut)) = tells.leads in path (inl (begins tells.text bytes other reads, refl)) reads cut;
      },
    )

    find_tells : {headers : Headers} {content : Body} {plan : MethodPlan Reply} {old new : StoreState} {ls ms : Locks} (outcome : Result Reply DavError)
        → IsWorld old.world → Named s.prefix p → IsPropfind headers p content (caller x) plan → Ran Asks plan old ls outcome new ms → IfOk outcome AllTold
    find_tells (Err e) world named is ran = tt
    find_tells {headers} {content} {plan} {old} {new} {ls} {ms} (Ok reply) world named is ran =
        All-weaker (IsOfOneUnder s.prefix (names p)) (TellsOne s.prefix fits About) from_find (responses_in reply.body)
        (responses_lead_back s.prefix named.text headers p content (caller x) plan old new ls ms reply (server_prefix s.prefix fits) named.target world is ran)

    moved_to : (h : CopyHeaders) → (m ≡ CopyMethod) ⊎ (m ≡ MoveMethod) → IsServedPath s.prefix p → DestinationNames p.prefix (get_all (headers_of r.fields) (codes "destination")) h.destination
        → (d : PathText) → h.destination ≡ Ok d → Reached s.prefix (names d) d × ((q : PathText) → Reached s.prefix (names d) q → About q)
    moved_to h may served names_it d is = (
      itself s.prefix d (place_served s.prefix fits p d served names_it is),
      λ q at. at_destination r m p d is_for may (subst (DestinationNames p.prefix (get_all (headers_of r.fields) (codes "destination"))) is names_it) (under_top s.prefix (names d) q at),
    )

  -- what the plan of a method gives
  planned : (r : Request) {m : DavMethod} (p : PathText) {body : Body} {plan : MethodPlan Reply} {old new : StoreState} {ls ms : Locks} {outcome : Result Reply DavError}
      → IsRequestTo s x r m p → PlanOf s.allowed (headers_of r.fields) p body (caller x) m plan → IsProperPlan plan → IsWorld old.world → Ran Asks plan old ls outcome new ms → IfOk outcome AllTold
  planned r p is_for (gets (is_get c are)) proper world ran = tells_ran (get_tells s.prefix fits About Get c (names p) x.moment) proper world ran
  planned r p is_for (heads (is_get c are)) proper world ran = tells_ran (get_tells s.prefix fits About Head c (names p) x.moment) proper world ran
  planned r p {body} is_for (puts (is_put h are)) proper world ran = tells_ran (put_tells s.prefix fits About Put h (names p) (caller x) (bytes_of_body body)) proper world ran
  planned r p {body} is_for (patches (is_put h are)) proper world ran = tells_ran (put_tells s.prefix fits About Patch h (names p) (caller x) (bytes_of_body body)) proper world ran
  planned r p is_for (makes (is_mkcol c are)) proper world ran = tells_ran (mkcol_tells s.prefix fits About c p (caller x)) proper world ran
  planned r p is_for (deletes (is_delete h are)) proper world ran =
      let named = named_by (λ e. cc) is_for.target in
      tells_ran (delete_tells s.prefix fits About (names p) (about r Delete p is_for) h p (caller x) (itself s.prefix p named.served)) proper world ran
  planned r p is_for (copies (is_copy_move h are)) proper world ran =
      let named = named_by (λ e. cc) is_for.target in
      tells_ran (copymove_tells s.prefix fits About (names p) CopyMethod h p (caller x) (about r CopyMethod p is_for) (itself s.prefix p named.served)
      (moved_to r CopyMethod p is_for h (inl refl) named.served are.destination)) proper world ran
  planned r p is_for (moves (is_copy_move h are)) proper world ran =
      let named = named_by (λ e. cc) is_for.target in
      tells_ran (copymove_tells s.prefix fits About (names p) MoveMethod h p (caller x) (about r MoveMethod p is_for) (itself s.prefix p named.served)
      (moved_to r MoveMethod p is_for h (inr refl) named.served are.destination)) proper world ran
  planned r p is_for offers proper world ran = tells_ran (options_tells s.prefix fits About s.allowed p) proper world ran
  planned r p {outcome = outcome} is_for (finds_properties is) proper world ran = find_tells r PropFind p is_for outcome world (named_by (λ e. cc) is_for.target) is ran
  planned r p {body} is_for (sets_properties (is_proppatch c are)) proper world ran =
      let named = named_by (λ e. cc) is_for.target in
      tells_ran (proppatch_tells s.prefix fits About (names p) (about r PropPatch p is_for) c p body (caller x) (itself s.prefix p named.served)) proper world ran
  planned r p {body} is_for (locks (is_lock h are)) proper world ran = tells_ran (lock_tells s.prefix fits About h p body (caller x)) proper world ran
  planned r p is_for (releases (is_unlock token are)) proper world ran = tells_ran (unlock_tells s.prefix fits About token p) proper world ran

  of_planned : (r : Request) (m : DavMethod) {plan : MethodPlan Reply} {old new : StoreState} {ls ms : Locks} {outcome : Result Reply DavError}
      → IsHead x.head r → GivesServed r.method (Ok m) → MeansOf s x r m plan → IsProperPlan plan → IsWorld old.world → Ran Asks plan old ls outcome new ms → IfOk outcome AllTold
  of_planned r m head gives (not_allowed out) proper world ran = tells_ran tells_err proper world ran
  of_planned r m head gives (no_path e has out) proper world ran = tells_ran tells_err proper world ran
  of_planned r m head gives (no_body p e has named bad) proper world ran = tells_ran tells_err proper world ran
  of_planned r m head gives (method p body has named good is) proper world ran = planned r p (record { head = head; method = gives; target = named }) is proper world ran

  means_planned : {plan : MethodPlan Reply} {old new : StoreState} {ls ms : Locks} {outcome : Result Reply DavError}
      → Means s x plan → IsProperPlan plan → IsWorld old.world → Ran Asks plan old ls outcome new ms → IfOk outcome AllTold
  means_planned (no_head out) proper world ran = tells_ran tells_err proper world ran
  means_planned (no_method r e is gives) proper world ran = tells_ran tells_err proper world ran
  means_planned (known r m is gives means) proper world ran = of_planned r m is gives means proper world ran

pub replies_lead_back : RepliesLeadBack
replies_lead_back s x old new ls ms reply fits world small (steps plan outcome means ran) =
    by_outcome s.prefix fits (ConcernsPath s x) outcome (means_planned s x fits small means (means_proper small means) world ran)

-- the same of a step
pub step_leads_back : (s : Settings) (x : Exchange) (old new : StoreState) (ls ms : Locks) (reply : Reply) → Steps s x old ls reply new ms
    → IsPrefix s.prefix → IsWorld old.world → x.moment ≤ last_moment → All (HasConcernedHref s x) (responses_in reply.body)
step_leads_back s x old new ls ms reply step fits world small = replies_lead_back s x old new ls ms reply fits world small step
