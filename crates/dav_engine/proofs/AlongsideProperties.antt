-- A PROPFIND in a guarded folder, and a holder's PROPPATCH there, go side by side with themselves.
use Rattle.std.proofs.Common.{◌≡◌, ◌≢◌, ℕ, zero, suc, ◌&&◌, ◌++◌, codes, bytes_eq, Bool, true, false, true≢false, if◌then◌else◌, List, [], ◌∷◌, map, append_assoc, Option, Some, None, Result, Ok, Err, refl, sym, ap, subst, ◌∙◌}
use Rattle.std.proofs.lemmas.Grind.{flat_map-append}
use Rattle.std.proofs.lemmas.List.{append-nil}
use Rattle.std.proofs.lemmas.List.Elements.{filter-append}
use Rattle.std.specs.List.{filter, flat_map}
use Rattle.std.specs.Option.{is_some, option_map, unwrap_or}
use Rattle.std.specs.Result.{result_ok}
use Rattle.dav_core.specs.declared.errors.FsError.{FsError}
use Rattle.dav_core.specs.declared.errors.DavError.TheVariants as dav
use Rattle.dav_core.specs.declared.fs.DavMetaData.{DavMetaData}
use Rattle.dav_core.specs.declared.method.DavMethod.TheVariants as method
use Rattle.dav_core.specs.Asking.{Metadata, ReadDir, EntryMetadata, HaveProps, PatchProps, GetProps, GetProp, GetQuota}
use Rattle.dav_core.specs.Element.{ElementTree, element, text, tree_list, trees, name_of, namespace_of, text_of, is_named}
use Rattle.dav_core.specs.Locks.{Lock}
use Rattle.dav_core.specs.Path.{Path, PathText, star, names, names_in, with_slash}
use Rattle.dav_core.specs.Property.{Property}
use Rattle.dav_core.proofs.Theorems.{member_is_no_star}
use Rattle.dav_engine.specs.declared.reply.ReplyBody.TheVariants as reply
use Rattle.dav_engine.specs.declared.request.Body.{Body}
use Rattle.dav_engine.specs.Alongside.{SameResult, SameMetadata, Alongside, side_ok, side_err, side_asks, side_look, SameAnswers}
use Rattle.dav_engine.specs.IsolatedPlans.{IsIsolatedPlan, PropfindIsIsolated, ProppatchIsIsolated}
use Rattle.dav_engine.specs.AnswerParts.{StatusItem, property_name, items_of, items_in, allow_in, answers_of}
use Rattle.dav_engine.specs.Caller.{Caller, requester}
use Rattle.dav_engine.specs.Conditions.{Conditions, Addressed}
use Rattle.dav_engine.specs.Folder.{closed, child_of, location_found, room_at}
use Rattle.dav_engine.specs.Guard.{folder_of, IsGuard, IsInReach, SubmitOnly}
use Rattle.dav_engine.specs.Headers.{Headers}
use Rattle.dav_engine.specs.LockTree.{locks_found, locks_supported}
use Rattle.dav_engine.specs.Method.{MethodPlan, then as followed_by, ◌>>=◌, require_free, required, gives, refused_as}
use Rattle.dav_engine.specs.Multistatus.{href, status_element, xml_type}
use Rattle.dav_engine.specs.Plan.{Locks, Done}
use Rattle.dav_engine.specs.Properties.{dav_space, apache_space, microsoft_space, is_in, Telling, Requested, AllProperties, NamesAlone, Outcomes, Others, Writer, writer, has_values, Source, Here, Nowhere, AvailableQuota, UsedQuota, InStore, tag_source, resource_type, locks_told, dav_source, windows_source, source, Quota, QuotaKnown, cached_quota, available_told, used_told, has_properties, kept_if, kept_property, WithQuota, found_in, found_property, with_found, found_properties, kept_elements, stored_properties, all_kept, found_groups, property_response, properties_of, told_by}
use Rattle.dav_engine.specs.Propfind.{Responses, Below, Query, query_in, tell_member, tell_if_found, tell_members, tell_listed, tell_below, tell_itself, tells_itself, tells_members, is_infinite, is_served_depth, uncached, propfind_reply, FindHeaders, propfind_found, propfind_if, is_propfind}
use Rattle.dav_engine.specs.Proppatch.{Change, changes_in, as_patch, answered_at_once, to_store, has_refused, store_changes, all_done, change_all, Told, proppatch_reply, patch_properties, proppatch_found, proppatch, is_proppatch}
use Rattle.dav_engine.specs.Reply.{Header, Reply}
use Rattle.dav_engine.proofs.AlongsideDelete.{IsIn, member_in}
use Rattle.dav_engine.proofs.AlongsideLock.{closed_in}
use Rattle.dav_engine.proofs.IsolatedPlans.{AtBoth, holders, in_reach, only_lists, side_bind, side_then, side_guarded, side_free}
use Rattle.dav_engine.proofs.ChildLemmas.{slash_is_path}

first_of : (b c : Bool) → (b && c) ≡ true → b ≡ true
first_of true c is = refl
first_of false c is = cc

-- a path that got a slash is no star path
closed_folder : (p : PathText) (dir : Bool) → dir ≡ true → (closed dir p).bytes ≢ star
closed_folder p true is e = member_is_no_star p.bytes [] (append-nil (with_slash p.bytes) ∙ e)
closed_folder p false is e = true≢false (sym is)

-- ---- what is compared of responses

-- properties of the same names, in the same order
abbrev SameNames : List ElementTree → List ElementTree → Type 0
SameNames es fs = map property_name es ≡ map property_name fs

items_among : List ElementTree → List StatusItem
items_among responses = flat_map items_of (filter (is_named (codes "response")) responses)

abbrev SameItems : List ElementTree → List ElementTree → Type 0
SameItems rs ss = items_among rs ≡ items_among ss

items_among-append : (rs ss : List ElementTree) → items_among (rs ++ ss) ≡ items_among rs ++ items_among ss
unfolding items_among
items_among-append rs ss =
    ap (flat_map items_of) (filter-append (is_named (codes "response")) rs ss)
    ∙ flat_map-append items_of (filter (is_named (codes "response")) rs) (filter (is_named (codes "response")) ss)

joined_items : (rs rs' ss ss' : List ElementTree) → SameItems rs rs' → SameItems ss ss' → SameItems (rs ++ ss) (rs' ++ ss')
joined_items rs rs' ss ss' one more =
    items_among-append rs ss ∙ ap (λ x. x ++ items_among ss) one ∙ ap (λ x. items_among rs' ++ x) more ∙ sym (items_among-append rs' ss')

list_of_trees : (ts : List ElementTree) → tree_list (trees ts) ≡ ts
list_of_trees [] = refl
list_of_trees (t ∷ ts) = ap (λ us. t ∷ us) (list_of_trees ts)

-- the items of a response with properties of these names
abbrev named_items : PathText → List (Option (List ℕ) × List ℕ) → List StatusItem
named_items p named = record { path = text_of (href p) ∷ []; status = text_of (status_element 200) ∷ []; names = named ++ [] } ∷ []

response_items : (p : PathText) (es fs : List ElementTree) → SameNames es fs → SameItems (property_response p (found_groups es) ∷ []) (property_response p (found_groups fs) ∷ [])
unfolding items_among
response_items p [] [] same = refl
response_items p [] (f ∷ fs) same = cc
response_items p (e ∷ es) [] same = cc
response_items p (e ∷ es) (f ∷ fs) same =
    ap (λ named. named_items p named ++ [])
    (ap (map property_name) (list_of_trees (e ∷ es)) ∙ same ∙ sym (ap (map property_name) (list_of_trees (f ∷ fs))))

reply_items : (w : Writer) (rs : List ElementTree) → items_in (reply.Tree (told_by w rs)) ≡ items_among rs
unfolding items_among
reply_items w rs = ap (λ xs. flat_map items_of (filter (is_named (codes "response")) xs)) (list_of_trees rs)

reply_parts : (location : List Header) (w : Writer) (rs ss : List ElementTree) → SameItems rs ss → SameAnswers (propfind_reply location w rs) (propfind_reply location w ss)
reply_parts location w rs ss same =
    ap (λ (items : List StatusItem). record { status = 207; items = items; bytes = None; allow = allow_in (uncached (location ++ xml_type ∷ [])) })
    (reply_items w rs ∙ same ∙ sym (reply_items w ss))

-- ---- where properties are found

-- both are found here under one name, or both in one other place
data SameSource : Source → Source → Type 0 where
  both_here : {a b : ElementTree} → property_name a ≡ property_name b → SameSource (Here a) (Here b)
  both_so : {s : Source} → SameSource s s

source_if : (b : Bool) {s s' t t' : Source} → SameSource s s' → SameSource t t' → SameSource (if b then s else t) (if b then s' else t')
source_if true one other = one
source_if false one other = other

typed_name : (dir : Bool) (e : ElementTree) → property_name (resource_type dir e) ≡ property_name e
typed_name true (element name prefix namespace attributes children) = refl
typed_name true (text bytes) = refl
typed_name false e = refl

supported_name : (ls ks : Locks) → property_name (locks_supported ls) ≡ property_name (locks_supported ks)
supported_name None None = refl
supported_name None (Some ks) = refl
supported_name (Some ls) None = refl
supported_name (Some ls) (Some ks) = refl

discovered_name : (ls ks : Locks) (p : Path) → property_name (locks_found ls p) ≡ property_name (locks_found ks p)
discovered_name None None p = refl
discovered_name None (Some ks) p = refl
discovered_name (Some ls) None p = refl
discovered_name (Some ls) (Some ks) p = refl

module _ (w : Writer) (e : ElementTree) where
  same_tag : (o o' : Option ℕ) → is_some o ≡ is_some o' → SameSource (tag_source w e o) (tag_source w e o')
  same_tag None None same = both_so
  same_tag (Some n) (Some k) same = both_here refl
  same_tag None (Some k) same = cc
  same_tag (Some n) None same = cc

  same_length : (b c : Bool) (a a' : ElementTree) → b ≡ c → property_name a ≡ property_name a' → SameSource (if b then Nowhere else Here a) (if c then Nowhere else Here a')
  same_length true true a a' same named = both_so
  same_length false false a a' same named = both_here named
  same_length true false a a' same named = cc
  same_length false true a a' same named = cc

  module _ (p : PathText) (m n : DavMetaData) (told : SameMetadata m n) (ls ks : Locks) where
    same_dav : (name : List ℕ) → SameSource (dav_source w e p m ls name) (dav_source w e p n ks name)
    same_dav name =
        source_if (bytes_eq name (codes "creationdate")) (both_here refl)
        (source_if (bytes_eq name (codes "displayname")) both_so
        (source_if (bytes_eq name (codes "getcontentlanguage")) both_so
        (source_if (bytes_eq name (codes "getetag")) (same_tag m.number n.number told.numbered)
        (source_if (bytes_eq name (codes "getcontentlength")) (same_length m.dir n.dir _ _ told.dir refl)
        (source_if (bytes_eq name (codes "getcontenttype")) (both_here refl)
        (source_if (bytes_eq name (codes "getlastmodified")) (both_here refl)
        (source_if (bytes_eq name (codes "resourcetype")) (both_here (typed_name (m.dir && has_values w.telling) e ∙ sym (typed_name (n.dir && has_values w.telling) e)))
        (source_if (bytes_eq name (codes "current-user-principal")) both_so
        (source_if (bytes_eq name (codes "supportedlock")) (both_here (supported_name (locks_told w ls) (locks_told w ks)))
        (source_if (bytes_eq name (codes "lockdiscovery")) (both_here (discovered_name (locks_told w ls) (locks_told w ks) (names p)))
        (source_if (bytes_eq name (codes "quota-available-bytes")) both_so
        (source_if (bytes_eq name (codes "quota-used-bytes")) both_so both_so))))))))))))

    same_windows : (name : List ℕ) → SameSource (windows_source w e p m name) (windows_source w e p n name)
    same_windows name =
        source_if (bytes_eq name (codes "Win32CreationTime")) (both_here refl)
        (source_if (bytes_eq name (codes "Win32LastModifiedTime")) (both_here refl)
        (source_if (bytes_eq name (codes "Win32FileAttributes")) (both_here refl) both_so))

    same_source : SameSource (source w e p m ls) (source w e p n ks)
    same_source = source_if (is_in dav_space e) (same_dav (name_of e)) (source_if (is_in microsoft_space e) (same_windows (name_of e)) (source_if (is_in apache_space e) both_so both_so))

-- ---- what is found

ok_same : {A : Type 0} (a b : Result A FsError) → SameResult (λ x y. x ≡ y) a b → result_ok a ≡ result_ok b
ok_same (Ok x) (Ok y) same = ap Some same
ok_same (Err e) (Err f) same = refl
ok_same (Ok x) (Err f) same = absurd same
ok_same (Err e) (Ok y) same = absurd same

abbrev name_found : Option ElementTree → Option (Option (List ℕ) × List ℕ)
name_found found = option_map property_name found

module _ (w : Writer) (e : ElementTree) (p : PathText) (m n : DavMetaData) where
  available_name : (quota : Quota) → name_found (available_told w e p m quota) ≡ name_found (available_told w e p n quota)
  available_name None = refl
  available_name (Some (used, None)) = refl
  available_name (Some (used, Some total)) = refl

  used_name : (quota : Quota) → name_found (used_told w e p m quota) ≡ name_found (used_told w e p n quota)
  used_name None = refl
  used_name (Some (used, total)) = refl

with_names : (a b : Option ElementTree) (es fs : List ElementTree) → name_found a ≡ name_found b → SameNames es fs → SameNames (with_found a es) (with_found b fs)
with_names None None es fs one more = more
with_names (Some a) (Some b) es fs one more =
    let named : property_name a ≡ property_name b = cc in
    ap (λ x. x ∷ map property_name es) named ∙ ap (λ xs. property_name b ∷ xs) more
with_names None (Some b) es fs one more = cc
with_names (Some a) None es fs one more = cc

joined_names : (es es' fs fs' : List ElementTree) → SameNames es es' → fs ≡ fs' → SameNames (es ++ fs) (es' ++ fs')
joined_names [] [] fs fs' one same = ap (map property_name) same
joined_names (e ∷ es) (e' ∷ es') fs fs' one same =
    let named : property_name e ≡ property_name e' = cc in
    let rest : map property_name es ≡ map property_name es' = cc in
    ap (λ x. x ∷ map property_name (es ++ fs)) named ∙ ap (λ xs. property_name e' ∷ xs) (joined_names es es' fs fs' rest same)
joined_names [] (e ∷ es) fs fs' one same = cc
joined_names (e ∷ es) [] fs fs' one same = cc

module _ (h : Lock) where
  abbrev SidePart : {A : Type 0} → (A → A → Type 0) → MethodPlan A → MethodPlan A → Type 0
  SidePart Q plan plan' = Alongside h false (AtBoth None Q) None plan plan'

  abbrev SideWhole : MethodPlan Reply → MethodPlan Reply → Type 0
  SideWhole plan plan' = Alongside h true (λ file. SameAnswers) None plan plan'

  side_quota : (known known' : QuotaKnown) → known ≡ known' → SidePart (λ x y. x ≡ y) (cached_quota known) (cached_quota known')
  side_quota None None same = side_asks {c = GetQuota} tt (λ a b told. side_ok (refl, ok_same a b told))
  side_quota (Some quota) (Some other) same = side_ok (refl, (let is : quota ≡ other = cc in is))
  side_quota None (Some other) same = cc
  side_quota (Some quota) None same = cc

  module _ (p : PathText) (rest : Path) (at : IsIn h p rest) where
    side_has : SidePart (λ x y. x ≡ y) (has_properties p) (has_properties p)
    side_has = side_asks {c = HaveProps (names p)} (rest, at) (λ a b told. side_ok (refl, ap (λ (o : Option Bool). unwrap_or o false) (ok_same a b told)))

    side_kept_if : (e : ElementTree) (b c : Bool) → b ≡ c → SidePart (λ x y. x ≡ y) (kept_if p e b) (kept_if p e c)
    side_kept_if e false false same = side_ok (refl, refl)
    side_kept_if e true true same = side_asks {c = GetProp (names p) (unwrap_or (namespace_of e) [], name_of e)} (rest, at) (λ a b told. side_ok (refl, ok_same a b told))
    side_kept_if e true false same = cc
    side_kept_if e false true same = cc

    side_kept : (telling : Telling) (e : ElementTree) → SidePart (λ x y. x ≡ y) (kept_property telling p e) (kept_property telling p e)
    side_kept Requested e = side_bind _ _ side_has (λ b c same. side_kept_if e b c same)
    side_kept AllProperties e = side_ok (refl, refl)
    side_kept NamesAlone e = side_ok (refl, refl)
    side_kept Outcomes e = side_ok (refl, refl)
    side_kept Others e = side_ok (refl, refl)

    side_all_if : (b c : Bool) → b ≡ c → SidePart (λ x y. x ≡ y) (stored_properties p b) (stored_properties p c)
    side_all_if false false same = side_ok (refl, refl)
    side_all_if true true same = side_asks {c = GetProps (names p) true} (rest, at) (λ a b told. side_ok (refl, ap kept_elements (ok_same a b told)))
    side_all_if true false same = cc
    side_all_if false true same = cc

    side_all_kept : SidePart (λ x y. x ≡ y) (all_kept p) (all_kept p)
    side_all_kept = side_bind _ _ side_has (λ b c same. side_all_if b c same)

  abbrev SameFound : WithQuota (Option ElementTree) → WithQuota (Option ElementTree) → Type 0
  SameFound x y = (name_found x.0 ≡ name_found y.0) × (x.1 ≡ y.1)

  abbrev SameProperties : WithQuota (List ElementTree) → WithQuota (List ElementTree) → Type 0
  SameProperties x y = SameNames x.0 y.0 × (x.1 ≡ y.1)

  abbrev SameOne : WithQuota ElementTree → WithQuota ElementTree → Type 0
  SameOne x y = SameItems (x.0 ∷ []) (y.0 ∷ []) × (x.1 ≡ y.1)

  abbrev SameTold : Responses → Responses → Type 0
  SameTold x y = SameItems x.0 y.0 × (x.1 ≡ y.1)

  module _ (w : Writer) where
    module _ (p : PathText) (rest : Path) (at : IsIn h p rest) (m n : DavMetaData) (told : SameMetadata m n) where
      side_found_in : (e : ElementTree) (known known' : QuotaKnown) → known ≡ known' → {s s' : Source} → SameSource s s' → SidePart SameFound (found_in w e p m known s) (found_in w e p n known' s')
      side_found_in e known known' same (both_here named) = side_ok (refl, (ap Some named, same))
      side_found_in e known known' same (both_so {s = Here a}) = side_ok (refl, (refl, same))
      side_found_in e known known' same (both_so {s = Nowhere}) = side_ok (refl, (refl, same))
      side_found_in e known known' same (both_so {s = AvailableQuota}) =
          side_bind _ _ (side_quota known known' same) (λ q r is. side_ok (refl, (available_name w e p m n q ∙ ap (λ (x : Quota). name_found (available_told w e p n x)) is, ap Some is)))
      side_found_in e known known' same (both_so {s = UsedQuota}) =
          side_bind _ _ (side_quota known known' same) (λ q r is. side_ok (refl, (used_name w e p m n q ∙ ap (λ (x : Quota). name_found (used_told w e p n x)) is, ap Some is)))
      side_found_in e known known' same (both_so {s = InStore}) =
          side_bind _ _ (side_kept p rest at w.telling e) (λ a b is. side_ok (refl, (ap name_found is, same)))

      side_found : (e : ElementTree) (known known' : QuotaKnown) → known ≡ known' → SidePart SameFound (found_property w p m known e) (found_property w p n known' e)
      side_found e known known' same = side_look (λ ls ks g g'. side_found_in e known known' same (same_source w e p m n told (Some ls) (Some ks)))

      side_found_all : (es : List ElementTree) (known known' : QuotaKnown) → known ≡ known' → SidePart SameProperties (found_properties w p m known es) (found_properties w p n known' es)
      side_found_all [] known known' same = side_ok (refl, (refl, same))
      side_found_all (e ∷ es) known known' same =
          side_bind _ _ (side_found e known known' same) (λ one other is.
          side_bind _ _ (side_found_all es one.1 other.1 is.1) (λ more others are.
          side_ok (refl, (with_names one.0 other.0 more.0 others.0 is.0 are.0, are.1))))

      side_properties : (known known' : QuotaKnown) → known ≡ known' → SidePart SameOne (properties_of w p m known) (properties_of w p n known')
      side_properties known known' same =
          side_bind _ _ (side_found_all w.properties known known' same) (λ found others is.
          side_bind _ _ (side_all_kept p rest at) (λ kept left are.
          side_ok (refl, (response_items p (found.0 ++ kept) (others.0 ++ left) (joined_names found.0 others.0 kept left is.0 are), is.1))))

    -- ---- the walk

    abbrev SideBelow : Below → Type 0
    SideBelow below = (q : PathText) (rest : Path) (dir dir' : Bool) (known known' : QuotaKnown) → (dir ≡ true → q.bytes ≢ star) → IsIn h q rest → dir ≡ dir' → known ≡ known' → SidePart SameTold (below q dir known) (below q dir' known')

    module _ (below : Below) (walk : SideBelow below) where
      side_member : (q : PathText) (rest : Path) (m n : DavMetaData) (known known' : QuotaKnown) → q.bytes ≢ star → IsIn h q rest → SameMetadata m n → known ≡ known'
          → SidePart SameTold (tell_member below w q m known) (tell_member below w q n known')
      side_member q rest m n known known' other at told same =
          side_bind _ _ (side_properties q rest at m n told known known' same) (λ one two is.
          side_bind _ _ (walk q rest m.dir n.dir one.1 two.1 (λ dir. other) at told.dir is.1) (λ more others are.
          side_ok (refl, (joined_items (one.0 ∷ []) (two.0 ∷ []) more.0 others.0 is.0 are.0, are.1))))

      side_seen : (p : PathText) (rest : Path) (name : List ℕ) (a b : Result DavMetaData FsError) (known known' : QuotaKnown) → p.bytes ≢ star → IsIn h p rest → SameResult SameMetadata a b → known ≡ known'
          → SidePart SameTold (tell_if_found below w p name known a) (tell_if_found below w p name known' b)
      side_seen p rest name (Ok m) (Ok n) known known' other at told same =
          subst (λ (d : Bool). SidePart SameTold (tell_member below w (child_of p name m.dir) m known) (tell_member below w (child_of p name d) n known')) told.dir
          (side_member (child_of p name m.dir) (rest ++ names_in name) m n known known' (slash_is_path p name m.dir) (member_in h p rest name m.dir other at) told same)
      side_seen p rest name (Err e) (Err f) known known' other at told same = side_ok (refl, (refl, same))
      side_seen p rest name (Ok m) (Err f) known known' other at told same = absurd told
      side_seen p rest name (Err e) (Ok n) known known' other at told same = absurd told

      side_members : (p : PathText) (rest : Path) (entries : List (List ℕ × Bool)) (known known' : QuotaKnown) → p.bytes ≢ star → IsIn h p rest → known ≡ known'
          → SidePart SameTold (tell_members below w p known entries) (tell_members below w p known' entries)
      side_members p rest [] known known' other at same = side_ok (refl, (refl, same))
      side_members p rest (entry ∷ entries) known known' other at same =
          side_asks {c = EntryMetadata (names p ++ entry.0 ∷ [])} (rest ++ entry.0 ∷ [], ap (λ ns. ns ++ entry.0 ∷ []) at ∙ append_assoc (folder_of h) rest (entry.0 ∷ []))
          (λ a b told.
          side_bind _ _ (side_seen p rest entry.0 a b known known' other at told same) (λ one two is.
          side_bind _ _ (side_members p rest entries one.1 two.1 other at is.1) (λ more others are.
          side_ok (refl, (joined_items one.0 two.0 more.0 others.0 is.0 are.0, are.1)))))

      side_listed : (p : PathText) (rest : Path) (a b : Result (List (List ℕ × Bool)) FsError) (known known' : QuotaKnown) → p.bytes ≢ star → IsIn h p rest → SameResult (λ x y. x ≡ y) a b → known ≡ known'
          → SidePart SameTold (tell_listed below w p known a) (tell_listed below w p known' b)
      side_listed p rest (Ok entries) (Ok others) known known' other at same is =
          subst (λ (es : List (List ℕ × Bool)). SidePart SameTold (tell_members below w p known entries) (tell_members below w p known' es)) same
          (side_members p rest entries known known' other at is)
      side_listed p rest (Err e) (Err f) known known' other at same is = side_ok (refl, (refl, is))
      side_listed p rest (Ok entries) (Err f) known known' other at same is = absurd same
      side_listed p rest (Err e) (Ok others) known known' other at same is = absurd same

    side_below : (deep : Bool) (room : ℕ) → SideBelow (λ q dir known. tell_below deep room w q dir known)
    side_below deep room q rest false false known known' other at is same = side_ok (refl, (refl, same))
    side_below deep zero q rest true true known known' other at is same = side_ok (refl, (refl, same))
    side_below deep (suc room) q rest true true known known' other at is same =
        side_asks {c = ReadDir (names q)} (rest, at) (λ a b alike.
        side_listed (λ r dir now. tell_below deep room w r (dir && deep) now)
        (λ r left dir dir' now now' path within one two. side_below deep room r left (dir && deep) (dir' && deep) now now' (λ both. path (first_of dir deep both)) within (ap (λ (d : Bool). d && deep) one) two)
        q rest a b known known' (other refl) at alike same)
    side_below deep room q rest true false known known' other at is same = cc
    side_below deep room q rest false true known known' other at is same = cc

    side_itself : (told : Bool) (q : PathText) (rest : Path) (m n : DavMetaData) → IsIn h q rest → SameMetadata m n → SidePart SameTold (tell_itself told w q m) (tell_itself told w q n)
    side_itself false q rest m n at same = side_ok (refl, (refl, refl))
    side_itself true q rest m n at same = side_bind _ _ (side_properties q rest at m n same None None refl) (λ one two is. side_ok (refl, is))

  -- ---- PROPFIND

  module _ (k : FindHeaders) (headers : Headers) (content : Body) (who : Caller) where
    side_find_found : (q : PathText) (rest : Path) (location : List Header) (m n : DavMetaData) → (m.dir ≡ true → q.bytes ≢ star) → IsIn h q rest → SameMetadata m n
        → SideWhole (propfind_found k headers q location content who m) (propfind_found k headers q location content who n)
    side_find_found q rest location m n other at told =
        side_then (required (query_in content) dav.XmlParseError) (required (query_in content) dav.XmlParseError) _ _ refl (λ (query : Query).
        let w : Writer = writer query.0 headers who.principal query.1 in
        side_bind _ _ (side_itself w (tells_itself k.depth) q rest m n at told) (λ one two is.
        side_bind _ _ (side_below w (is_infinite k.depth) (room_at q) q rest (m.dir && tells_members k.depth) (n.dir && tells_members k.depth) one.1 two.1 (λ both. other (first_of m.dir (tells_members k.depth) both)) at (ap (λ (d : Bool). d && tells_members k.depth) told.dir) is.1) (λ more others are.
        side_ok (reply_parts location w (one.0 ++ more.0) (two.0 ++ others.0) (joined_items one.0 two.0 more.0 others.0 is.0 are.0)))))

    side_looked : (p : PathText) → IsInReach h (names p) → (a b : Result DavMetaData FsError) → SameResult SameMetadata a b
        → SideWhole (followed_by (refused_as dav.FsError a) (λ found. propfind_found k headers (closed found.dir p) (location_found (Some found) p) content who found))
        (followed_by (refused_as dav.FsError b) (λ found. propfind_found k headers (closed found.dir p) (location_found (Some found) p) content who found))
    side_looked p within (Ok m) (Ok n) told =
        let (rest, at) = closed_in h p within m.dir in
        subst (λ (d : Bool). SideWhole (propfind_found k headers (closed m.dir p) (location_found (Some m) p) content who m) (propfind_found k headers (closed d p) (location_found (Some (record m { dir = d })) p) content who n)) told.dir
        (side_find_found (closed m.dir p) rest (location_found (Some m) p) m n (closed_folder p m.dir) at told)
    side_looked p within (Err e) (Err f) same = subst (λ (d : FsError). SideWhole (Done (Err (dav.FsError e))) (Done (Err (dav.FsError d)))) same side_err
    side_looked p within (Ok m) (Err f) same = absurd same
    side_looked p within (Err e) (Ok n) same = absurd same

    side_propfind : (p : PathText) → IsInReach h (names p) → (served : Bool) → SideWhole (propfind_if served k headers p content who) (propfind_if served k headers p content who)
    side_propfind p within false = side_ok refl
    side_propfind p within true = side_asks {c = Metadata (names p)} (in_reach h (names p) within) (λ a b told. side_looked p within a b told)

pub propfind_goes_along : PropfindIsIsolated
propfind_goes_along h headers p content who plan within (is_propfind k are) = side_propfind h k headers content who p within (is_served_depth k)

-- ---- PROPPATCH

module _ (h : Lock) (guard : IsGuard h) where
  abbrev SameParts : {A : Type 0} → MethodPlan A → MethodPlan A → Type 0
  SameParts plan plan' = Alongside h false (AtBoth None (λ x y. x ≡ y)) None plan plan'

  side_done : (a b : Result (List (ℕ × Property)) FsError) → SameResult (λ x y. x ≡ y) a b → SameParts (Done (refused_as dav.FsError a)) (Done (refused_as dav.FsError b))
  side_done (Ok done) (Ok others) same = side_ok (refl, same)
  side_done (Err e) (Err f) same = subst (λ (d : FsError). SameParts {A = List (ℕ × Property)} (Done (Err (dav.FsError e))) (Done (Err (dav.FsError d)))) same side_err
  side_done (Ok done) (Err f) same = absurd same
  side_done (Err e) (Ok others) same = absurd same

  module _ (p : PathText) (rest : Path) (at : IsIn h p rest) where
    side_store : (stored : List Change) → SameParts (store_changes p stored) (store_changes p stored)
    side_store [] = side_ok (refl, refl)
    side_store (c ∷ cs) = side_asks {c = PatchProps (names p) (map as_patch (c ∷ cs))} (rest, at) side_done

    side_change_all : (refused : Bool) (answers : List (ℕ × Change)) (stored : List Change) → SameParts (change_all p refused answers stored) (change_all p refused answers stored)
    side_change_all true answers stored = side_ok (refl, refl)
    side_change_all false answers stored = side_bind _ _ (side_store stored) (λ done others same. side_ok (refl, ap (all_done answers) same))

    side_patch : (location : List Header) (changes : List Change) → SideWhole h (patch_properties p location changes) (patch_properties p location changes)
    side_patch location changes =
        side_bind _ _ (side_has h p rest at) (λ b c same.
        subst (λ (x : Bool). SideWhole h (patching b) (patching x)) same
        (side_bind _ _ (side_change_all (has_refused (answered_at_once b changes)) (answered_at_once b changes) (to_store b changes)) (λ told others alike.
        side_ok (ap (λ (t : List Told). answers_of (proppatch_reply location p t)) alike))))
      where
        patching : Bool → MethodPlan Reply
        patching has = change_all p (has_refused (answered_at_once has changes)) (answered_at_once has changes) (to_store has changes) >>= (λ told. gives (proppatch_reply location p told))

  module _ (who : Caller) (content : Body) {lists : List Addressed} (only : SubmitOnly h lists) where
    side_patch_found : (p : PathText) (rest : Path) (location : List Header) (m n : DavMetaData) → IsIn h p rest
        → SideWhole h (proppatch_found (holders lists) p location content who m) (proppatch_found (holders lists) p location content who n)
    side_patch_found p rest location m n at =
        side_bind _ _ (side_guarded h guard dav.Status method.PropPatch (Some m) (Some n) only) (λ ts us same.
        side_bind _ _
        (subst (λ (q : Path). SameParts (require_free false (requester who ts) q (dav.Status 423)) (require_free false (requester who us) q (dav.Status 423))) (sym at)
        (side_free h guard false who rest (dav.Status 423) ts us same))
        (λ u v _.
        side_then (required (changes_in content) dav.XmlParseError) (required (changes_in content) dav.XmlParseError) _ _ refl (λ changes. side_patch p rest at location changes)))

    side_patch_looked : (p : PathText) → IsInReach h (names p) → (a b : Result DavMetaData FsError) → SameResult SameMetadata a b
        → SideWhole h (followed_by (refused_as dav.FsError a) (λ found. proppatch_found (holders lists) (closed found.dir p) (location_found (Some found) p) content who found))
        (followed_by (refused_as dav.FsError b) (λ found. proppatch_found (holders lists) (closed found.dir p) (location_found (Some found) p) content who found))
    side_patch_looked p within (Ok m) (Ok n) told =
        let (rest, at) = closed_in h p within m.dir in
        subst (λ (d : Bool). SideWhole h (proppatch_found (holders lists) (closed m.dir p) (location_found (Some m) p) content who m) (proppatch_found (holders lists) (closed d p) (location_found (Some (record m { dir = d })) p) content who n)) told.dir
        (side_patch_found (closed m.dir p) rest (location_found (Some m) p) m n at)
    side_patch_looked p within (Err e) (Err f) same = subst (λ (d : FsError). SideWhole h (Done (Err (dav.FsError e))) (Done (Err (dav.FsError d)))) same side_err
    side_patch_looked p within (Ok m) (Err f) same = absurd same
    side_patch_looked p within (Err e) (Ok n) same = absurd same

pub proppatch_goes_along : ProppatchIsIsolated
proppatch_goes_along h headers p content who plan guard within alone (is_proppatch c are) =
    subst (λ (d : Conditions). IsIsolatedPlan h (proppatch d p content who)) (sym (only_lists alone c are))
    (side_asks {c = Metadata (names p)} (in_reach h (names p) within) (λ a b told. side_patch_looked h guard who content alone.only p within a b told))
