-- What a PROPFIND tells of a property may be sent.
use Rattle.std.proofs.Common.{◌≡◌, ℕ, zero, suc, ◌-◌, ◌≤◌, ◌++◌, Bool, true, false, cond, not, ◌&&◌, length, replicate, List, [], ◌∷◌, map, codes, bytes_eq, Option, Some, None, Result, Ok, Err, refl, subst}
use Rattle.std.specs.Fmt.{decimal, digits}
use Rattle.std.specs.List.{AllByRecursion, filter, list_any, find as first}
use Rattle.std.specs.Option.{option_or}
use Rattle.std.specs.Result.{result_ok}
use Rattle.dav_core.specs.declared.errors.FsError.{FsError}
use Rattle.dav_core.specs.declared.fs.DavMetaData.{DavMetaData}
use Rattle.dav_core.specs.Asking.{HaveProps, GetProps, GetProp, GetQuota}
use Rattle.dav_core.specs.CallLaws.{TimesAreDates}
use Rattle.dav_core.specs.Element.{ElementTree, name_of, child_elements, is_named}
use Rattle.dav_core.specs.Metadata.{tag_of}
use Rattle.dav_core.specs.Path.{Path, PathText, names}
use Rattle.dav_core.specs.Property.{Property, PropertyKey}
use Rattle.dav_core.specs.World.{last_moment}
use Rattle.dav_engine.specs.declared.properties.live.Source.{Source}
use Rattle.dav_engine.specs.declared.properties.live.Source.TheVariants.{Here, Nowhere, AvailableQuota, UsedQuota, InStore}
use Rattle.dav_engine.specs.declared.request.Body.{Body}
use Rattle.dav_engine.specs.declared.request.Body.TheVariants as body
use Rattle.dav_engine.specs.declared.properties.kind.Telling.{Telling}
use Rattle.dav_engine.specs.declared.properties.kind.Telling.TheVariants.{Requested, AllProperties, NamesAlone, Outcomes, Others}
use Rattle.dav_engine.specs.Date.{date_of, date_text_of}
use Rattle.dav_engine.specs.Lock.{is_absent}
use Rattle.dav_engine.specs.Multistatus.{dav_element, dav_text}
use Rattle.dav_engine.specs.Plan.{Locks}
use Rattle.dav_engine.specs.Properties.{is_in, asked_property, dav_space, apache_space, microsoft_space, common_properties, windows_names, named_properties, holds, Writer, is_same_property, windows_properties, listed_properties, wanted_properties, has_values, live, internet_date, padded, tag_source, content_type_of, principal_element, principal_source, resource_type, locks_told, dav_source, windows_attributes, windows_source, source, Quota, QuotaKnown, cached_quota, used_bytes, used_text, used_told, available_told, has_properties, key_of, kept_if, kept_property, WithQuota, found_in, found_property, with_found, found_properties, kept_elements, stored_properties, all_kept, found_groups, properties_of}
use Rattle.dav_engine.specs.Propfind.{Query, children_of_found, query_by, query_among, included_in, tree_query, query_in}
use Rattle.dav_engine.proofs.DateLemmas.{dates_of_moments}
use Rattle.dav_xml.specs.Expanded.{IsPlain}
use Rattle.dav_xml.specs.Sendable.{IsSendable}
use Rattle.dav_http.specs.Sent.{IsSendableTextIfAny, IsSendableIfAny, AreSendableLocks, IsSendableBody}
use Rattle.dav_http.proofs.Each.{each_append, each_filter, each_filter_map, each_first}
use Rattle.dav_http.proofs.PlainWords.{plain_word, dav_is_space, apache_is_space, microsoft_is_space, dav_known, microsoft_known}
use Rattle.dav_presented.proofs.Printed.{IsPrinted, printed_legal, printed_append, printed_more, none_printed, internet_printed, written_date}
use Rattle.dav_http.proofs.Printed.{decimal_printed, hex_printed}
use Rattle.dav_http.proofs.SentNames.{HasPath, asked_sendable}
use Rattle.dav_http.proofs.SentParts.{AllSendable, dav_of, dav_text_of, with_child_sendable, children_sendable, live_sendable, found_sendable, supported_sendable, IsSendableGroup, property_response_sendable}
use Rattle.dav_http.proofs.SentPlans.{Says, Sends, sends_ok, sends_ask, sends_look, sends_bind}

-- ---- names that are listed

dav_asked : (name : List ℕ) → IsPlain name → IsSendable (asked_property (codes "D") dav_space name)
dav_asked name plain = asked_sendable (codes "D") dav_space name dav_is_space refl plain

apache_asked : (name : List ℕ) → IsPlain name → IsSendable (asked_property (codes "A") apache_space name)
apache_asked name plain = asked_sendable (codes "A") apache_space name apache_is_space refl plain

microsoft_asked : (name : List ℕ) → IsPlain name → IsSendable (asked_property (codes "Z") microsoft_space name)
microsoft_asked name plain = asked_sendable (codes "Z") microsoft_space name microsoft_is_space refl plain

common_sendable : AllSendable common_properties
common_sendable = (
  dav_asked (codes "creationdate") (plain_word (codes "creationdate") refl refl),
  (
    dav_asked (codes "displayname") (plain_word (codes "displayname") refl refl),
    (
      dav_asked (codes "getcontentlanguage") (plain_word (codes "getcontentlanguage") refl refl),
      (
        dav_asked (codes "getcontentlength") (plain_word (codes "getcontentlength") refl refl),
        (
          dav_asked (codes "getcontenttype") (plain_word (codes "getcontenttype") refl refl),
          (
            dav_asked (codes "getetag") (plain_word (codes "getetag") refl refl),
            (
              dav_asked (codes "getlastmodified") (plain_word (codes "getlastmodified") refl refl),
              (
                dav_asked (codes "lockdiscovery") (plain_word (codes "lockdiscovery") refl refl),
                (
                  dav_asked (codes "resourcetype") (plain_word (codes "resourcetype") refl refl),
                  (dav_asked (codes "supportedlock") (plain_word (codes "supportedlock") refl refl), tt),
                ),
              ),
            ),
          ),
        ),
      ),
    ),
  ),
)

windows_sendable : AllSendable (map (asked_property (codes "Z") microsoft_space) windows_names)
windows_sendable = (
  microsoft_asked (codes "Win32CreationTime") (plain_word (codes "Win32CreationTime") refl refl),
  (
    microsoft_asked (codes "Win32FileAttributes") (plain_word (codes "Win32FileAttributes") refl refl),
    (
      microsoft_asked (codes "Win32LastAccessTime") (plain_word (codes "Win32LastAccessTime") refl refl),
      (microsoft_asked (codes "Win32LastModifiedTime") (plain_word (codes "Win32LastModifiedTime") refl refl), tt),
    ),
  ),
)

abbrev last_named : List ElementTree
last_named =
    asked_property (codes "D") dav_space (codes "quota-available-bytes") ∷ asked_property (codes "D") dav_space (codes "quota-used-bytes")
    ∷ asked_property (codes "A") apache_space (codes "executable") ∷ asked_property (codes "Z") microsoft_space (codes "Win32LastAccessTime") ∷ []

more_named : AllSendable last_named
more_named = (
  dav_asked (codes "quota-available-bytes") (plain_word (codes "quota-available-bytes") refl refl),
  (
    dav_asked (codes "quota-used-bytes") (plain_word (codes "quota-used-bytes") refl refl),
    (apache_asked (codes "executable") (plain_word (codes "executable") refl refl), (microsoft_asked (codes "Win32LastAccessTime") (plain_word (codes "Win32LastAccessTime") refl refl), tt)),
  ),
)

named_sendable : AllSendable named_properties
named_sendable = each_append IsSendable common_properties last_named common_sendable more_named

for_windows : (t : Bool) → AllSendable (cond t (map (asked_property (codes "Z") microsoft_space) windows_names) [])
for_windows true = windows_sendable
for_windows false = tt

listed_sendable : (telling : Telling) (agent : List ℕ) → AllSendable (listed_properties telling agent)
listed_sendable Requested agent = tt
listed_sendable Outcomes agent = tt
listed_sendable AllProperties agent = each_append IsSendable common_properties (windows_properties agent) common_sendable (for_windows (holds agent (codes "Microsoft")))
listed_sendable NamesAlone agent = named_sendable
listed_sendable Others agent = named_sendable

pub wanted_sendable : (telling : Telling) (agent : List ℕ) (given : List ElementTree) → AllSendable given → AllSendable (wanted_properties telling agent given)
wanted_sendable telling agent given all =
    let fewer = filter (λ e. not (list_any (λ f. is_same_property f e) given)) (listed_properties telling agent) in
    each_append IsSendable given fewer all (each_filter IsSendable (λ e. not (list_any (λ f. is_same_property f e) given)) (listed_properties telling agent) (listed_sendable telling agent))

-- ---- what a body asks for

record IsSendableQuery (o : Option Query) : Type 0 where
  all : (q : Query) → o ≡ Some q → AllSendable q.1

no_query : IsSendableQuery None
no_query = record { all = λ q is. absurd cc }

one_query : (telling : Telling) (es : List ElementTree) → AllSendable es → IsSendableQuery (Some (telling, es))
one_query telling es h = record { all = λ q is. let same : (telling, es) ≡ q = cc in subst (λ (x : Query). AllSendable x.1) same h }

if_query : (b : Bool) (x y : Option Query) → IsSendableQuery x → IsSendableQuery y → IsSendableQuery (cond b x y)
if_query true x y h k = h
if_query false x y h k = k

or_query : (x y : Option Query) → IsSendableQuery x → IsSendableQuery y → IsSendableQuery (option_or x y)
or_query None y h k = k
or_query (Some q) y h k = h

by_sendable : (included : List ElementTree) (e : ElementTree) → AllSendable included → IsSendable e → IsSendableQuery (query_by included e)
by_sendable included e all h =
    if_query (bytes_eq (name_of e) (codes "propname")) (Some (NamesAlone, [])) _ (one_query NamesAlone [] tt)
    (if_query (bytes_eq (name_of e) (codes "prop")) (Some (Requested, child_elements e)) _ (one_query Requested (child_elements e) (children_sendable e h))
    (if_query (bytes_eq (name_of e) (codes "allprop")) (Some (AllProperties, included)) None (one_query AllProperties included all) no_query))

among_sendable : (included es : List ElementTree) → AllSendable included → AllSendable es → IsSendableQuery (query_among included es)
among_sendable included [] all h = no_query
among_sendable included (e ∷ es) all h = or_query (query_by included e) (query_among included es) (by_sendable included e all h.0) (among_sendable included es all h.1)

found_children : (o : Option ElementTree) → ((e : ElementTree) → o ≡ Some e → IsSendable e) → AllSendable (children_of_found o)
found_children None h = tt
found_children (Some e) h = children_sendable e (h e refl)

included_sendable : (tree : ElementTree) → IsSendable tree → AllSendable (included_in tree)
included_sendable tree h =
    found_children (first (is_named (codes "includes")) (child_elements tree)) (λ e is. each_first IsSendable (is_named (codes "includes")) (child_elements tree) (children_sendable tree h) e is)

tree_sendable : (content : Body) → IsSendableBody content → IsSendableQuery (tree_query content)
tree_sendable body.None h = no_query
tree_sendable (body.Bytes bytes) h = no_query
tree_sendable body.Malformed h = no_query
tree_sendable (body.Tree tree) h =
    if_query (bytes_eq (name_of tree) (codes "propfind") && is_in dav_space tree) (query_among (included_in tree) (child_elements tree)) None
    (among_sendable (included_in tree) (child_elements tree) (included_sendable tree h.0) (children_sendable tree h.0)) no_query

pub query_sendable : (content : Body) → IsSendableBody content → (q : Query) → query_in content ≡ Some q → AllSendable q.1
query_sendable content h = (if_query (is_absent content) (Some (AllProperties, [])) (tree_query content) (one_query AllProperties [] tt) (tree_sendable content h)).all

-- ---- where a property is found

record IsToldSource (s : Source) : Type 0 where
  told : (t : ElementTree) → s ≡ Here t → IsSendable t

here : (t : ElementTree) → IsSendable t → IsToldSource (Here t)
here t h = record { told = λ u is. let same : t ≡ u = cc in subst IsSendable same h }

nowhere : IsToldSource Nowhere
nowhere = record { told = λ t is. absurd cc }

available : IsToldSource AvailableQuota
available = record { told = λ t is. absurd cc }

used : IsToldSource UsedQuota
used = record { told = λ t is. absurd cc }

in_store : IsToldSource InStore
in_store = record { told = λ t is. absurd cc }

if_source : (b : Bool) (x y : Source) → IsToldSource x → IsToldSource y → IsToldSource (cond b x y)
if_source true x y h k = h
if_source false x y h k = k

tag_printed : (number : ℕ) → IsPrinted (tag_of number)
tag_printed number = printed_more 34 _ refl (printed_append (digits 16 false number) (34 ∷ []) (hex_printed false number) (printed_more 34 [] refl none_printed))

zeros_printed : (n : ℕ) → IsPrinted (replicate n 48)
zeros_printed zero = none_printed
zeros_printed (suc n) = printed_more 48 (replicate n 48) refl (zeros_printed n)

padded_printed : (n : ℕ) (value : List ℕ) → IsPrinted value → IsPrinted (padded n value)
padded_printed n value h = printed_append (replicate (n - length value) 48) value (zeros_printed (n - length value)) h

type_printed : (dir : Bool) → IsPrinted (content_type_of dir)
type_printed true = record { all = refl }
type_printed false = record { all = refl }

written_internet : (moment : ℕ) → moment ≤ last_moment → IsPrinted (internet_date (date_of moment))
written_internet moment le = internet_printed (date_of moment) (dates_of_moments moment le).0

module _ (w : Writer) (all : AllSendable w.properties) (principal : IsSendableTextIfAny w.principal) where
  dav_live : (e : ElementTree) (value : List ℕ) → IsSendable e → IsPrinted value → IsSendable (live (codes "D") w e value)
  dav_live e value h printed = live_sendable (codes "D") w e value dav_known h (printed_legal value printed)

  windows_live : (e : ElementTree) (value : List ℕ) → IsSendable e → IsPrinted value → IsSendable (live (codes "Z") w e value)
  windows_live e value h printed = live_sendable (codes "Z") w e value microsoft_known h (printed_legal value printed)

  tag_told : (e : ElementTree) (number : Option ℕ) → IsSendable e → IsToldSource (tag_source w e number)
  tag_told e None h = nowhere
  tag_told e (Some number) h = here _ (dav_live e (tag_of number) h (tag_printed number))

  principal_told : (has : Bool) (e : ElementTree) (o : Option (List ℕ)) → IsSendable e → IsSendableTextIfAny o → (value : List ℕ) → o ≡ Some value → IsSendable (principal_element has e value)
  principal_told false e o h k value is = h
  principal_told true e None h k value is = absurd cc
  principal_told true e (Some bytes) h k value is =
      let same : bytes ≡ value = cc in
      with_child_sendable e (dav_text (codes "href") value) h (dav_text_of (codes "href") value (plain_word (codes "href") refl refl) (subst (λ (x : List ℕ). IsSendableTextIfAny (Some x)) same k))

  asker_told : (e : ElementTree) (o : Option (List ℕ)) → IsSendable e → IsSendableTextIfAny o → IsToldSource (principal_source w e o)
  asker_told e None h k = nowhere
  asker_told e (Some bytes) h k = here _ (principal_told (has_values w.telling) e (Some bytes) h k bytes refl)

  type_told : (dir : Bool) (e : ElementTree) → IsSendable e → IsSendable (resource_type dir e)
  type_told true e h = with_child_sendable e (dav_element (codes "collection") []) h (dav_of (codes "collection") [] (plain_word (codes "collection") refl refl) tt)
  type_told false e h = h

  locks_sendable : (t : Bool) (ls : Locks) → AreSendableLocks ls → AreSendableLocks (cond t ls None)
  locks_sendable true ls h = h
  locks_sendable false ls h = tt

  dav_told : (e : ElementTree) (p : PathText) (m : DavMetaData) (ls : Locks) (name : List ℕ) → IsSendable e → TimesAreDates m → AreSendableLocks ls → IsToldSource (dav_source w e p m ls name)
  dav_told e p m ls name h shown locks =
      let told = locks_sendable (has_values w.telling) ls locks in
      if_source (bytes_eq name (codes "creationdate")) _ _ (here _ (dav_live e (internet_date (date_of m.created)) h (written_internet m.created shown.0)))
      (if_source (bytes_eq name (codes "displayname")) _ _ in_store
      (if_source (bytes_eq name (codes "getcontentlanguage")) _ _ in_store
      (if_source (bytes_eq name (codes "getetag")) _ _ (tag_told e m.number h)
      (if_source (bytes_eq name (codes "getcontentlength")) _ _ (if_source m.dir _ _ nowhere (here _ (dav_live e (decimal m.len) h (decimal_printed m.len))))
      (if_source (bytes_eq name (codes "getcontenttype")) _ _ (here _ (dav_live e (content_type_of m.dir) h (type_printed m.dir)))
      (if_source (bytes_eq name (codes "getlastmodified")) _ _ (here _ (dav_live e (date_text_of m.modified) h (written_date m.modified shown.1)))
      (if_source (bytes_eq name (codes "resourcetype")) _ _ (here _ (type_told (m.dir && has_values w.telling) e h))
      (if_source (bytes_eq name (codes "current-user-principal")) _ _ (asker_told e w.principal h principal)
      (if_source (bytes_eq name (codes "supportedlock")) _ _ (here _ (supported_sendable (locks_told w ls)))
      (if_source (bytes_eq name (codes "lockdiscovery")) _ _ (here _ (found_sendable (locks_told w ls) (names p) told))
      (if_source (bytes_eq name (codes "quota-available-bytes")) _ _ available
      (if_source (bytes_eq name (codes "quota-used-bytes")) _ _ used nowhere))))))))))))

  windows_told : (e : ElementTree) (p : PathText) (m : DavMetaData) (name : List ℕ) → IsSendable e → TimesAreDates m → IsToldSource (windows_source w e p m name)
  windows_told e p m name h shown =
      if_source (bytes_eq name (codes "Win32CreationTime")) _ _ (here _ (windows_live e (date_text_of m.created) h (written_date m.created shown.0)))
      (if_source (bytes_eq name (codes "Win32LastModifiedTime")) _ _ (here _ (windows_live e (date_text_of m.modified) h (written_date m.modified shown.1)))
      (if_source (bytes_eq name (codes "Win32FileAttributes")) _ _
      (here _ (windows_live e (padded 8 (digits 16 false (windows_attributes p m))) h (padded_printed 8 (digits 16 false (windows_attributes p m)) (hex_printed false (windows_attributes p m))))) nowhere))

  source_told : (e : ElementTree) (p : PathText) (m : DavMetaData) (ls : Locks) → IsSendable e → TimesAreDates m → AreSendableLocks ls → IsToldSource (source w e p m ls)
  source_told e p m ls h shown locks =
      if_source (is_in dav_space e) _ _ (dav_told e p m ls (name_of e) h shown locks)
      (if_source (is_in microsoft_space e) _ _ (windows_told e p m (name_of e) h shown) (if_source (is_in apache_space e) _ _ nowhere in_store))

  -- ---- the store is asked

  abbrev Any : {A : Type 0} → A → Type 0
  Any a = Unit {0}

  quota_sends : (known : QuotaKnown) → Sends Any (cached_quota known)
  quota_sends (Some quota) = sends_ok tt
  quota_sends None = sends_ask {c = GetQuota} tt (λ answer says. sends_ok tt)

  used_printed : (t : Bool) (n : ℕ) → IsPrinted (cond t (padded 14 (decimal n)) (decimal n))
  used_printed true n = padded_printed 14 (decimal n) (decimal_printed n)
  used_printed false n = decimal_printed n

  used_sendable : (e : ElementTree) (p : PathText) (m : DavMetaData) (quota : Quota) → IsSendable e → IsSendableIfAny (used_told w e p m quota)
  used_sendable e p m None h = tt
  used_sendable e p m (Some (bytes, total)) h = dav_live e (used_text w.agent (used_bytes p m bytes)) h (used_printed (holds w.agent (codes "WebDAVFS")) (used_bytes p m bytes))

  available_sendable : (e : ElementTree) (p : PathText) (m : DavMetaData) (quota : Quota) → IsSendable e → IsSendableIfAny (available_told w e p m quota)
  available_sendable e p m None h = tt
  available_sendable e p m (Some (bytes, None)) h = tt
  available_sendable e p m (Some (bytes, Some total)) h = dav_live e (decimal (total - used_bytes p m bytes)) h (decimal_printed (total - used_bytes p m bytes))

  abbrev Kept : Option ElementTree → Type 0
  Kept o = IsSendableIfAny o

  one_said : (p : Path) (key : PropertyKey) (answer : Result ElementTree FsError) → Says (GetProp p key) answer → Kept (result_ok answer)
  one_said p key (Ok tree) says = says
  one_said p key (Err x) says = tt

  kept_if_sends : (p : PathText) (e : ElementTree) (has : Bool) → Sends Kept (kept_if p e has)
  kept_if_sends p e false = sends_ok tt
  kept_if_sends p e true = sends_ask {c = GetProp (names p) (key_of e)} tt (λ answer says. sends_ok (one_said (names p) (key_of e) answer says))

  has_sends : (p : PathText) → Sends Any (has_properties p)
  has_sends p = sends_ask {c = HaveProps (names p)} tt (λ answer says. sends_ok tt)

  kept_sends : (telling : Telling) (p : PathText) (e : ElementTree) → Sends Kept (kept_property telling p e)
  kept_sends Requested p e = sends_bind _ (has_sends p) (λ has u. kept_if_sends p e has)
  kept_sends AllProperties p e = sends_ok tt
  kept_sends NamesAlone p e = sends_ok tt
  kept_sends Outcomes p e = sends_ok tt
  kept_sends Others p e = sends_ok tt

  abbrev Found : WithQuota (Option ElementTree) → Type 0
  Found r = IsSendableIfAny r.0

  found_in_sends : (e : ElementTree) (p : PathText) (m : DavMetaData) (known : QuotaKnown) (s : Source) → IsSendable e → IsToldSource s → Sends Found (found_in w e p m known s)
  found_in_sends e p m known (Here t) h is = sends_ok (is.told t refl)
  found_in_sends e p m known Nowhere h is = sends_ok tt
  found_in_sends e p m known AvailableQuota h is = sends_bind _ (quota_sends known) (λ quota u. sends_ok (available_sendable e p m quota h))
  found_in_sends e p m known UsedQuota h is = sends_bind _ (quota_sends known) (λ quota u. sends_ok (used_sendable e p m quota h))
  found_in_sends e p m known InStore h is = sends_bind _ (kept_sends w.telling p e) (λ kept fits. sends_ok fits)

  found_sends : (p : PathText) (m : DavMetaData) (known : QuotaKnown) (e : ElementTree) → IsSendable e → TimesAreDates m → Sends Found (found_property w p m known e)
  found_sends p m known e h shown = sends_look (λ ls locks. found_in_sends e p m known (source w e p m ls) h (source_told e p m ls h shown locks))

  abbrev AllFound : WithQuota (List ElementTree) → Type 0
  AllFound r = AllSendable r.0

  with_sendable : (o : Option ElementTree) (more : List ElementTree) → IsSendableIfAny o → AllSendable more → AllSendable (with_found o more)
  with_sendable None more h k = k
  with_sendable (Some e) more h k = (h, k)

  all_found_sends : (p : PathText) (m : DavMetaData) (known : QuotaKnown) (es : List ElementTree) → AllSendable es → TimesAreDates m → Sends AllFound (found_properties w p m known es)
  all_found_sends p m known [] h shown = sends_ok tt
  all_found_sends p m known (e ∷ es) h shown =
      sends_bind _ (found_sends p m known e h.0 shown) (λ one fits.
      sends_bind _ (all_found_sends p m one.1 es h.1 shown) (λ more fit. sends_ok (with_sendable one.0 more.0 fits fit)))

  elements_sendable : (o : Option (List Property)) → ((ps : List Property) → o ≡ Some ps → AllByRecursion (λ property. IsSendableIfAny property.xml) ps) → AllSendable (kept_elements o)
  elements_sendable None h = tt
  elements_sendable (Some ps) h =
      each_filter_map (λ property. IsSendableIfAny property.xml) IsSendable (λ property. property.xml) (λ property e fits is. subst IsSendableIfAny is fits) ps (h ps refl)

  all_said : (p : Path) (content : Bool) (answer : Result (List Property) FsError) → Says (GetProps p content) answer → (ps : List Property) → result_ok answer ≡ Some ps → AllByRecursion (λ property. IsSendableIfAny property.xml) ps
  all_said p content (Ok qs) says ps is = let same : qs ≡ ps = cc in subst (AllByRecursion (λ property. IsSendableIfAny property.xml)) same says
  all_said p content (Err x) says ps is = absurd cc

  all_kept_if_sends : (p : PathText) (has : Bool) → Sends AllSendable (stored_properties p has)
  all_kept_if_sends p false = sends_ok tt
  all_kept_if_sends p true = sends_ask {c = GetProps (names p) true} tt (λ answer says. sends_ok (elements_sendable (result_ok answer) (all_said (names p) true answer says)))

  all_kept_sends : (p : PathText) → Sends AllSendable (all_kept p)
  all_kept_sends p = sends_bind _ (has_sends p) (λ has u. all_kept_if_sends p has)

  groups_sendable : (es : List ElementTree) → AllSendable es → AllByRecursion IsSendableGroup (found_groups es)
  groups_sendable [] h = tt
  groups_sendable (e ∷ es) h = (h, tt)

  abbrev pub OneTold : WithQuota ElementTree → Type 0
  OneTold r = IsSendable r.0

  pub properties_sends : (p : PathText) (m : DavMetaData) (known : QuotaKnown) → HasPath p → TimesAreDates m → Sends OneTold (properties_of w p m known)
  properties_sends p m known some shown =
      sends_bind _ (all_found_sends p m known w.properties all shown) (λ found fit.
      sends_bind _ (all_kept_sends p) (λ kept fits.
      sends_ok (property_response_sendable p (found_groups (found.0 ++ kept)) some (groups_sendable (found.0 ++ kept) (each_append IsSendable found.0 kept fit fits)))))
