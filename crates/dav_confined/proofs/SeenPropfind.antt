-- What a PROPFIND reads.
use Rattle.std.proofs.Common.{◌≡◌, ◌≢◌, ◌++◌, ◌&&◌, ℕ, zero, suc, Bool, true, false, if◌then◌else◌, cond, List, [], ◌∷◌, codes, bytes_eq, Option, Some, None, Result, Ok, Err, refl, sym, ap, subst, ◌∙◌, append-nil}
use Rattle.std.specs.List.{filter, flat_map}
use Rattle.dav_core.specs.declared.errors.FsError.{FsError}
use Rattle.dav_core.specs.declared.errors.DavError.{DavError}
use Rattle.dav_core.specs.declared.errors.DavError.TheVariants as dav
use Rattle.dav_core.specs.declared.fs.DavMetaData.{DavMetaData}
use Rattle.dav_core.specs.Asking.{Metadata, ReadDir, EntryMetadata, HaveProps, GetProps, GetProp, GetQuota}
use Rattle.dav_core.specs.Element.{ElementTree, name_of}
use Rattle.dav_core.specs.Locks.{Lock, covers, covering, discovered}
use Rattle.dav_core.specs.Path.{Path, PathText, names, names_in, star, fronts, is_same_path, is_at_or_under}
use Rattle.dav_engine.specs.declared.properties.kind.Telling.{Telling}
use Rattle.dav_engine.specs.declared.properties.kind.Telling.TheVariants.{Requested, AllProperties, NamesAlone, Outcomes, Others}
use Rattle.dav_engine.specs.declared.properties.live.Source.{Source}
use Rattle.dav_engine.specs.declared.properties.live.Source.TheVariants.{Here, Nowhere, AvailableQuota, UsedQuota, InStore}
use Rattle.dav_engine.specs.declared.request.Body.{Body}
use Rattle.dav_engine.specs.Caller.{Caller}
use Rattle.dav_engine.specs.Folder.{closed, child_of, location_found, room_at}
use Rattle.dav_engine.specs.Headers.{Headers}
use Rattle.dav_engine.specs.LockTree.{locks_found, locks_supported, lock_discovery}
use Rattle.dav_engine.specs.Method.{MethodPlan, then as followed_by, required, refused_as}
use Rattle.dav_engine.specs.Plan.{Locks}
use Rattle.dav_engine.specs.Properties.{Writer, writer, source, QuotaKnown, cached_quota, has_properties, kept_if, kept_property, found_in, found_property, found_properties, stored_properties, all_kept, properties_of, dav_source, windows_source, locks_told, tag_source, length_source, content_type_of, resource_type, principal_source, live, has_values, internet_date, dav_space, microsoft_space, apache_space, is_in}
use Rattle.dav_engine.specs.Propfind.{Below, query_in, tell_member, tell_if_found, tell_members, tell_listed, tell_below, tell_itself, tells_itself, tells_members, is_infinite, is_served_depth, FindHeaders, propfind_found, propfind_if, propfind, is_propfind}
use Rattle.dav_engine.specs.Date.{date_of, date_text_of}
use Rattle.dav_engine.specs.Reply.{Header}
use Rattle.dav_confined.specs.Seen.{AllUnder, CoverAlike, PropfindReadsSeen}
use Rattle.dav_engine.proofs.ChildLemmas.{closed_is_path, names_closed, slash_is_path, names_member}
use Rattle.dav_engine.proofs.FaultLemmas.{at_path, below_trans}
use Rattle.dav_confined.proofs.SeenLemmas.{ReadsWithout, without_done, without_ask, without_look, without_bind, seen_without}

-- ---- the locks that are told

filter_by : (a c : Lock → Bool) (l : Lock) (rest more : List Lock) (x y : Bool) → rest ≡ filter a more → a l ≡ x → c l ≡ y → cond (x && y) (l ∷ rest) rest ≡ filter a (cond y (l ∷ more) more)
filter_by a c l rest more true true is here there = ap (λ xs. l ∷ xs) is ∙ sym (ap (λ b. cond b (l ∷ filter a more) (filter a more)) here)
filter_by a c l rest more false true is here there = is ∙ sym (ap (λ b. cond b (l ∷ filter a more) (filter a more)) here)
filter_by a c l rest more true false is here there = is
filter_by a c l rest more false false is here there = is

filter_both : (a c : Lock → Bool) (ls : List Lock) → filter (λ l. a l && c l) ls ≡ filter a (filter c ls)
filter_both a c [] = refl
filter_both a c (l ∷ ls) = filter_by a c l (filter (λ l. a l && c l) ls) (filter c ls) (a l) (c l) (filter_both a c ls) refl refl

-- the locks that are told of a path are among those that cover it
told_by_covering : (p : Path) (qs : List Path) (ls : List Lock)
    → flat_map (λ q. filter (λ l. is_same_path (names l.path) q && covers l p) ls) qs ≡ flat_map (λ q. filter (λ l. is_same_path (names l.path) q) (covering p ls)) qs
told_by_covering p [] ls = refl
told_by_covering p (q ∷ qs) ls =
    ap (λ xs. xs ++ flat_map (λ q. filter (λ l. is_same_path (names l.path) q && covers l p) ls) qs) (filter_both (λ l. is_same_path (names l.path) q) (λ l. covers l p) ls)
    ∙ ap (λ xs. filter (λ l. is_same_path (names l.path) q) (covering p ls) ++ xs) (told_by_covering p qs ls)

same_discovered : (p : Path) (ls ks : List Lock) → covering p ls ≡ covering p ks → discovered p ls ≡ discovered p ks
same_discovered p ls ks same =
    told_by_covering p (fronts p) ls ∙ ap (λ xs. flat_map (λ q. filter (λ l. is_same_path (names l.path) q) xs) (fronts p)) same ∙ sym (told_by_covering p (fronts p) ks)

-- ---- where properties are found

found_by : (b : Bool) (p : Path) (ls ks : List Lock) → covering p ls ≡ covering p ks → locks_found (if b then Some ls else None) p ≡ locks_found (if b then Some ks else None) p
found_by true p ls ks same = ap lock_discovery (same_discovered p ls ks same)
found_by false p ls ks same = refl

supported_by : (b : Bool) (ls ks : List Lock) → locks_supported (if b then Some ls else None) ≡ locks_supported (if b then Some ks else None)
supported_by true ls ks = refl
supported_by false ls ks = refl

abbrev dav_by : Writer → ElementTree → PathText → DavMetaData → List ℕ → ElementTree → ElementTree → Source
dav_by w e p m name supports finds =
    if bytes_eq name (codes "creationdate") then Here (live (codes "D") w e (internet_date (date_of m.created)))
    else if bytes_eq name (codes "displayname") then InStore
    else if bytes_eq name (codes "getcontentlanguage") then InStore
    else if bytes_eq name (codes "getetag") then tag_source w e m.number
    else if bytes_eq name (codes "getcontentlength") then length_source w e m
    else if bytes_eq name (codes "getcontenttype") then Here (live (codes "D") w e (content_type_of m.dir))
    else if bytes_eq name (codes "getlastmodified") then Here (live (codes "D") w e (date_text_of m.modified))
    else if bytes_eq name (codes "resourcetype") then Here (resource_type (m.dir && has_values w.telling) e)
    else if bytes_eq name (codes "current-user-principal") then principal_source w e w.principal
    else if bytes_eq name (codes "supportedlock") then Here supports
    else if bytes_eq name (codes "lockdiscovery") then Here finds
    else if bytes_eq name (codes "quota-available-bytes") then AvailableQuota
    else if bytes_eq name (codes "quota-used-bytes") then UsedQuota
    else Nowhere

same_source : (w : Writer) (e : ElementTree) (p : PathText) (m : DavMetaData) (ls ks : List Lock) → covering (names p) ls ≡ covering (names p) ks → source w e p m (Some ls) ≡ source w e p m (Some ks)
same_source w e p m ls ks same =
    ap (λ (s : Source). if is_in dav_space e then s else if is_in microsoft_space e then windows_source w e p m (name_of e) else if is_in apache_space e then Nowhere else InStore)
    (ap (λ x. dav_by w e p m (name_of e) x (locks_found (locks_told w (Some ls)) (names p))) (supported_by (has_values w.telling) ls ks)
    ∙ ap (λ x. dav_by w e p m (name_of e) (locks_supported (locks_told w (Some ks))) x) (found_by (has_values w.telling) (names p) ls ks same))

-- ---- the plan

module _ (seen : Path → Bool) where
  here : (p : PathText) → AllUnder seen (names p) → seen (names p) ≡ true
  here p all = all (names p) (at_path (names p) (names p) [] (sym (append-nil (names p))))

  child_all : (p : PathText) (name : List ℕ) (dir : Bool) → p.bytes ≢ star → AllUnder seen (names p) → AllUnder seen (names (child_of p name dir))
  child_all p name dir other all q below = all q (below_trans (names p) (names (child_of p name dir)) q (at_path (names p) (names (child_of p name dir)) (names_in name) (names_member p name dir other)) below)

  quota : (known : QuotaKnown) → ReadsWithout seen (cached_quota known)
  quota (Some q) = without_done
  quota None = without_ask {c = GetQuota} tt (λ answer. without_done)

  kept_when : (p : PathText) (e : ElementTree) (has : Bool) → seen (names p) ≡ true → ReadsWithout seen (kept_if p e has)
  kept_when p e false in_sight = without_done
  kept_when p e true in_sight = without_ask {c = GetProp (names p) _} in_sight (λ answer. without_done)

  has : (p : PathText) → ReadsWithout seen (has_properties p)
  has p = without_ask {c = HaveProps (names p)} tt (λ answer. without_done)

  kept : (telling : Telling) (p : PathText) (e : ElementTree) → seen (names p) ≡ true → ReadsWithout seen (kept_property telling p e)
  kept Requested p e in_sight = without_bind _ (has p) (λ b. kept_when p e b in_sight)
  kept AllProperties p e in_sight = without_done
  kept NamesAlone p e in_sight = without_done
  kept Outcomes p e in_sight = without_done
  kept Others p e in_sight = without_done

  all_if : (p : PathText) (b : Bool) → seen (names p) ≡ true → ReadsWithout seen (stored_properties p b)
  all_if p false in_sight = without_done
  all_if p true in_sight = without_ask {c = GetProps (names p) true} in_sight (λ answer. without_done)

  module _ (w : Writer) where
    in_source : (e : ElementTree) (p : PathText) (m : DavMetaData) (known : QuotaKnown) (s : Source) → seen (names p) ≡ true → ReadsWithout seen (found_in w e p m known s)
    in_source e p m known (Here told) in_sight = without_done
    in_source e p m known Nowhere in_sight = without_done
    in_source e p m known AvailableQuota in_sight = without_bind _ (quota known) (λ q. without_done)
    in_source e p m known UsedQuota in_sight = without_bind _ (quota known) (λ q. without_done)
    in_source e p m known InStore in_sight = without_bind _ (kept w.telling p e in_sight) (λ k. without_done)

    one : (p : PathText) (m : DavMetaData) (known : QuotaKnown) (e : ElementTree) → seen (names p) ≡ true → ReadsWithout seen (found_property w p m known e)
    one p m known e in_sight =
        without_look (λ ls ks alike. ap (λ s. found_in w e p m known s) (same_source w e p m ls ks (alike (names p) in_sight))) (λ ls. in_source e p m known (source w e p m (Some ls)) in_sight)

    all_found : (p : PathText) (m : DavMetaData) (known : QuotaKnown) (es : List ElementTree) → seen (names p) ≡ true → ReadsWithout seen (found_properties w p m known es)
    all_found p m known [] in_sight = without_done
    all_found p m known (e ∷ es) in_sight = without_bind _ (one p m known e in_sight) (λ first. without_bind _ (all_found p m first.1 es in_sight) (λ more. without_done))

    properties : (p : PathText) (m : DavMetaData) (known : QuotaKnown) → seen (names p) ≡ true → ReadsWithout seen (properties_of w p m known)
    properties p m known in_sight =
        without_bind _ (all_found p m known w.properties in_sight) (λ found. without_bind _ (without_bind _ (has p) (λ b. all_if p b in_sight)) (λ kept. without_done))

    abbrev Walks : Below → Type 0
    Walks below = (p : PathText) (dir : Bool) (known : QuotaKnown) → p.bytes ≢ star → AllUnder seen (names p) → ReadsWithout seen (below p dir known)

    module _ (below : Below) (walk : Walks below) where
      member : (p : PathText) (m : DavMetaData) (known : QuotaKnown) → p.bytes ≢ star → AllUnder seen (names p) → ReadsWithout seen (tell_member below w p m known)
      member p m known other all = without_bind _ (properties p m known (here p all)) (λ first. without_bind _ (walk p m.dir first.1 other all) (λ rest. without_done))

      if_found : (p : PathText) (name : List ℕ) (known : QuotaKnown) (answer : Result DavMetaData FsError) → p.bytes ≢ star → AllUnder seen (names p) → ReadsWithout seen (tell_if_found below w p name known answer)
      if_found p name known (Err e) other all = without_done
      if_found p name known (Ok m) other all = member (child_of p name m.dir) m known (slash_is_path p name m.dir) (child_all p name m.dir other all)

      members : (p : PathText) (known : QuotaKnown) (entries : List (List ℕ × Bool)) → p.bytes ≢ star → AllUnder seen (names p) → ReadsWithout seen (tell_members below w p known entries)
      members p known [] other all = without_done
      members p known (entry ∷ entries) other all =
          without_ask {c = EntryMetadata (names p ++ entry.0 ∷ [])} (all (names p ++ entry.0 ∷ []) (at_path (names p) (names p ++ entry.0 ∷ []) (entry.0 ∷ []) refl)) (λ answer.
          without_bind _ (if_found p entry.0 known answer other all) (λ first. without_bind _ (members p first.1 entries other all) (λ rest. without_done)))

      listed : (p : PathText) (known : QuotaKnown) (answer : Result (List (List ℕ × Bool)) FsError) → p.bytes ≢ star → AllUnder seen (names p) → ReadsWithout seen (tell_listed below w p known answer)
      listed p known (Err e) other all = without_done
      listed p known (Ok entries) other all = members p known entries other all

    below : (deep : Bool) (room : ℕ) → Walks (tell_below deep room w)
    below deep room p false known other all = without_done
    below deep zero p true known other all = without_done
    below deep (suc room) p true known other all =
        without_ask {c = ReadDir (names p)} all (λ answer.
        listed (λ q dir now. tell_below deep room w q (dir && deep) now) (λ q dir now path in_sight. below deep room q (dir && deep) now path in_sight) p known answer other all)

    itself : (wanted : Bool) (p : PathText) (m : DavMetaData) → seen (names p) ≡ true → ReadsWithout seen (tell_itself wanted w p m)
    itself false p m in_sight = without_done
    itself true p m in_sight = without_bind _ (properties p m None in_sight) (λ first. without_done)

  seen_then : {A B : Type 0} (r : Result A DavError) (f : A → MethodPlan B) → ((a : A) → ReadsWithout seen (f a)) → ReadsWithout seen (followed_by r f)
  seen_then (Ok a) f more = more a
  seen_then (Err e) f more = without_done

  module _ (h : FindHeaders) (headers : Headers) (content : Body) (who : Caller) where
    found_one : (p : PathText) (location : List Header) (m : DavMetaData) → p.bytes ≢ star → AllUnder seen (names p) → ReadsWithout seen (propfind_found h headers p location content who m)
    found_one p location m other all =
        seen_then (required (query_in content) dav.XmlParseError) _ (λ query.
        without_bind _ (itself (writer query.0 headers who.principal query.1) (tells_itself h.depth) p m (here p all)) (λ first.
        without_bind _ (below (writer query.0 headers who.principal query.1) (is_infinite h.depth) (room_at p) p (m.dir && tells_members h.depth) first.1 other all) (λ rest. without_done)))

    if_served : (p : PathText) (served : Bool) → p.bytes ≢ star → AllUnder seen (names p) → ReadsWithout seen (propfind_if served h headers p content who)
    if_served p false other all = without_done
    if_served p true other all =
        without_ask {c = Metadata (names p)} (here p all) (λ answer. seen_then (refused_as dav.FsError answer) _ (λ found.
        found_one (closed found.dir p) (location_found (Some found) p) found (closed_is_path found.dir p other) (subst (AllUnder seen) (sym (names_closed found.dir p other)) all)))

pub propfind_reads_seen : PropfindReadsSeen
propfind_reads_seen seen headers p content who plan other all (is_propfind h are) = seen_without (if_served seen h headers content who p (is_served_depth h) other all)
