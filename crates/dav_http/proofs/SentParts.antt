-- The elements that the server writes may be sent.
use Rattle.std.proofs.Common.{◌≡◌, ℕ, Bool, true, false, cond, not, ◌&&◌, ◌||◌, List, [], ◌∷◌, ◌++◌, map, codes, bytes_eq, Option, Some, None, refl, ap, ◌∙◌}
use Rattle.std.proofs.lemmas.Bool.{or_parts, and_parts, and_from}
use Rattle.std.specs.Fmt.{decimal}
use Rattle.std.specs.List.{AllByRecursion, filter, list_any}
use Rattle.std.specs.Option.{option_to_list}
use Rattle.dav_core.specs.Element.{ElementTree, ElementTrees, element, text, trees, tree_list, no_trees, tree_then, name_of, child_elements, is_element, with_child}
use Rattle.dav_core.specs.Locks.{Lock, covers, discovered}
use Rattle.dav_core.specs.Path.{Path, PathText, names, full_bytes, fronts, is_same_path, is_nonempty}
use Rattle.dav_core.specs.UrlText.{path_text}
use Rattle.dav_headers.specs.Timeout.{time_type_text}
use Rattle.dav_engine.specs.LockTree.{lock_scope, lock_type, lock_depth, time_type, lock_parts, active_lock, lock_discovery, locks_found, lock_entry, locks_supported, lock_reply}
use Rattle.dav_engine.specs.Multistatus.{dav_element, dav_text, declares_dav, href, status_line, status_element, multistatus, PathStatus, listed_status, response_for}
use Rattle.dav_engine.specs.Plan.{Locks}
use Rattle.dav_engine.specs.declared.properties.kind.Telling.{Telling}
use Rattle.dav_engine.specs.declared.properties.kind.Telling.TheVariants.{Requested, AllProperties, NamesAlone, Outcomes, Others}
use Rattle.dav_engine.specs.Properties.{Space, other_spaces, declaration, declared_for, is_in, Writer, told_by, value_text, has_values, live, Group, propstat, property_response}
use Rattle.dav_xml.specs.Legal.{IsLegal}
use Rattle.dav_xml.specs.Namespaces.{has_attribute, are_distinct}
use Rattle.dav_xml.specs.Expanded.{IsPlain, IsDeclaration}
use Rattle.dav_xml.specs.Sendable.{IsKnownPrefix, IsSendableAs, known_prefix, IsSendable, AreSendable}
use Rattle.dav_http.specs.Sent.{IsSendableText, IsSendableIfAny, IsSendableLock, AreSendableLocks}
use Rattle.dav_http.proofs.Each.{test_of, each_append, each_filter, each_map, each_flat_map}
use Rattle.dav_http.proofs.PlainWords.{plain_word, dav_is_space, apache_is_space, microsoft_is_space, nextcloud_is_space, owncloud_is_space, dav_known, declares_space}
use Rattle.dav_presented.proofs.Printed.{IsPrinted, printed_legal, printed_append, printed_more}
use Rattle.dav_http.proofs.Printed.{decimal_printed, path_printed, path_some, reason_printed}

abbrev pub AllSendable : List ElementTree → Type 0
AllSendable es = AllByRecursion IsSendable es

-- ---- children

pub are_elements : (texted : Bool) (es : List ElementTree) → AllSendable es → AreSendable texted (trees es)
are_elements texted [] h = tt
are_elements texted (element m p s a c ∷ es) h = (h.0, are_elements false es h.1)
are_elements texted (text bytes ∷ es) h = absurd h.0

pub text_child : (bytes : List ℕ) → is_nonempty bytes ≡ true → IsLegal bytes → AreSendable false (tree_then (text bytes) no_trees)
text_child [] some legal = absurd cc
text_child (b ∷ bs) some legal = (legal, tt)

alone : (texted : Bool) (child : ElementTree) → IsSendable child → AreSendable texted (tree_then child no_trees)
alone texted (element m p s a c) h = (h, tt)
alone texted (text bytes) h = absurd h

child_last : (texted : Bool) (ts : ElementTrees) (child : ElementTree) → AreSendable texted ts → IsSendable child → AreSendable texted (trees (tree_list ts ++ child ∷ []))
child_last texted no_trees child h one = alone texted child one
child_last texted (tree_then (element m p s a c) ts) child h one = (h.0, child_last false ts child h.1 one)
child_last true (tree_then (text bytes) ts) child h one = absurd h
child_last false (tree_then (text []) ts) child h one = absurd h
child_last false (tree_then (text (b ∷ bs)) ts) child h one = (h.0, child_last true ts child h.1 one)

-- an element with one more child
pub with_child_sendable : (e child : ElementTree) → IsSendable e → IsSendable child → IsSendable (with_child e child)
with_child_sendable (text bytes) child h one = absurd h
with_child_sendable (element m p s a c) child h one = (h.0, (h.1.0, child_last false c child h.1.1 one))

elements_of : (texted : Bool) (ts : ElementTrees) → AreSendable texted ts → AllSendable (filter is_element (tree_list ts))
elements_of texted no_trees h = tt
elements_of texted (tree_then (element m p s a c) ts) h = (h.0, elements_of false ts h.1)
elements_of true (tree_then (text bytes) ts) h = absurd h
elements_of false (tree_then (text []) ts) h = absurd h
elements_of false (tree_then (text (b ∷ bs)) ts) h = elements_of true ts h.1

pub children_sendable : (e : ElementTree) → IsSendable e → AllSendable (child_elements e)
children_sendable (text bytes) h = absurd h
children_sendable (element m p s a c) h = elements_of false c h.1.1

pub plain_name_of : (e : ElementTree) → IsSendable e → IsPlain (name_of e)
plain_name_of (text bytes) h = absurd h
plain_name_of (element m p s a c) h = h.0

-- ---- elements of the namespace `DAV:`

dav_as : IsSendableAs (Some (codes "D")) None []
dav_as = known_prefix (codes "D") dav_known refl refl tt refl

pub dav_of : (name : List ℕ) (children : List ElementTree) → IsPlain name → AllSendable children → IsSendable (dav_element name children)
dav_of name children plain all = (plain, (dav_as, are_elements false children all))

-- one with one child, and one with more
pub dav_one : (name : List ℕ) (child : ElementTree) → IsPlain name → IsSendable child → IsSendable (dav_element name (child ∷ []))
dav_one name child plain h = dav_of name (child ∷ []) plain (h, tt)

pub dav_more : (name : List ℕ) (child : ElementTree) (more : List ElementTree) → IsPlain name → IsSendable child → AllSendable more → IsSendable (dav_element name (child ∷ more))
dav_more name child more plain h all = dav_of name (child ∷ more) plain (h, all)

pub dav_text_of : (name bytes : List ℕ) → IsPlain name → IsSendableText bytes → IsSendable (dav_text name bytes)
dav_text_of name bytes plain h = (plain, (dav_as, text_child bytes h.some h.legal))

printed_text : (bytes : List ℕ) → is_nonempty bytes ≡ true → IsPrinted bytes → IsSendableText bytes
printed_text bytes some h = record { some = some; legal = printed_legal bytes h }

some_behind : (xs ys : List ℕ) → is_nonempty ys ≡ true → is_nonempty (xs ++ ys) ≡ true
some_behind [] ys e = e
some_behind (x ∷ xs) ys e = refl

pub href_sendable : (p : PathText) → is_nonempty p.bytes ≡ true → IsSendable (href p)
href_sendable p some =
    dav_text_of (codes "href") (path_text (full_bytes p)) (plain_word (codes "href") refl refl) (printed_text (path_text (full_bytes p)) (path_some (full_bytes p) (some_behind p.prefix p.bytes some)) (path_printed (full_bytes p)))

line_printed : (status : ℕ) → IsPrinted (status_line status)
line_printed status =
    let front : IsPrinted (codes "HTTP/1.1 ") = record { all = refl } in
    printed_append _ _ (printed_append _ _ front (decimal_printed status)) (printed_more 32 _ refl (reason_printed status))

pub status_sendable : (status : ℕ) → IsSendable (status_element status)
status_sendable status = dav_text_of (codes "status") (status_line status) (plain_word (codes "status") refl refl) (printed_text (status_line status) refl (line_printed status))

-- the attribute with which a reply begins
dav_declared : IsDeclaration (codes "xmlns:D", codes "DAV:")
dav_declared = declares_space (codes "D") (codes "DAV:") (codes "xmlns:D") dav_is_space refl

pub root_sendable : (name : List ℕ) (children : List ElementTree) → IsPlain name → AllSendable children → IsSendable (declares_dav (dav_element name children))
root_sendable name children plain all = (plain, (known_prefix (codes "D") dav_known refl refl (dav_declared, tt) refl, are_elements false children all))

abbrev pub HasBytes : PathStatus → Type 0
HasBytes item = is_nonempty item.0.bytes ≡ true

response_sendable : (item : PathStatus) → HasBytes item → IsSendable (response_for item)
response_sendable item some = dav_more (codes "response") (href item.0) (status_element (listed_status item.1) ∷ []) (plain_word (codes "response") refl refl) (href_sendable item.0 some) (status_sendable (listed_status item.1), tt)

pub multistatus_sendable : (responses : List ElementTree) → AllSendable responses → IsSendable (multistatus responses)
multistatus_sendable responses all = root_sendable (codes "multistatus") responses (plain_word (codes "multistatus") refl refl) all

pub statuses_sendable : (items : List PathStatus) → AllByRecursion HasBytes items → IsSendable (multistatus (map response_for items))
statuses_sendable items all = multistatus_sendable (map response_for items) (each_map HasBytes IsSendable response_for response_sendable items all)

-- ---- properties

abbrev pub IsSendableGroup : Group → Type 0
IsSendableGroup group = AllSendable group.1

propstat_sendable : (group : Group) → IsSendableGroup group → IsSendable (propstat group)
propstat_sendable group all =
    dav_more (codes "propstat") (dav_element (codes "prop") group.1) (status_element group.0 ∷ []) (plain_word (codes "propstat") refl refl) (dav_of (codes "prop") group.1 (plain_word (codes "prop") refl refl) all) (status_sendable group.0, tt)

pub property_response_sendable : (p : PathText) (groups : List Group) → is_nonempty p.bytes ≡ true → AllByRecursion IsSendableGroup groups → IsSendable (property_response p groups)
property_response_sendable p groups some all =
    dav_more (codes "response") (href p) (map propstat groups) (plain_word (codes "response") refl refl) (href_sendable p some) (each_map IsSendableGroup IsSendable propstat propstat_sendable groups all)

value_sendable : (has : Bool) (value : List ℕ) → IsLegal value → AreSendable false (trees (value_text has value))
value_sendable false value legal = tt
value_sendable true [] legal = tt
value_sendable true (b ∷ bs) legal = (legal, tt)

pub live_sendable : (prefix : List ℕ) (w : Writer) (e : ElementTree) (value : List ℕ) → IsKnownPrefix prefix → IsSendable e → IsLegal value → IsSendable (live prefix w e value)
live_sendable prefix w e value k h legal = (plain_name_of e h, (known_prefix prefix k refl refl tt refl, value_sendable (has_values w.telling) value legal))

-- ---- the other namespaces that a reply declares

has_fewer : (name : List ℕ) (f : Space → List ℕ × List ℕ) (test : Space → Bool) (xs : List Space) → has_attribute name (map f xs) ≡ false → has_attribute name (map f (filter test xs)) ≡ false
has_fewer name f test [] e = refl
has_fewer name f test (x ∷ xs) e =
    let parts = or_parts (bytes_eq (f x).0 name) (has_attribute name (map f xs)) e in
    let rest = has_fewer name f test xs parts.1 in
    test_of (test x) (λ t. has_attribute name (map f (cond t (x ∷ filter test xs) (filter test xs))) ≡ false) (λ is. ap (λ (t : Bool). t || has_attribute name (map f (filter test xs))) parts.0 ∙ rest) (λ is. rest)

not_true : (t : Bool) → not t ≡ true → t ≡ false
not_true true e = absurd cc
not_true false e = refl

distinct_fewer : (f : Space → List ℕ × List ℕ) (test : Space → Bool) (xs : List Space) → are_distinct (map f xs) ≡ true → are_distinct (map f (filter test xs)) ≡ true
distinct_fewer f test [] e = refl
distinct_fewer f test (x ∷ xs) e =
    let parts = and_parts (not (has_attribute (f x).0 (map f xs))) (are_distinct (map f xs)) e in
    let rest = distinct_fewer f test xs parts.1 in
    test_of (test x) (λ t. are_distinct (map f (cond t (x ∷ filter test xs) (filter test xs))) ≡ true)
    (λ is. and_from (not (has_attribute (f x).0 (map f (filter test xs)))) (are_distinct (map f (filter test xs))) (ap (λ (t : Bool). not t) (has_fewer (f x).0 f test xs (not_true (has_attribute (f x).0 (map f xs)) parts.0))) rest) (λ is. rest)

abbrev DeclaresSpace : Space → Type 0
DeclaresSpace s = IsDeclaration (declaration s)

all_spaces : AllByRecursion DeclaresSpace other_spaces
all_spaces = (
  declares_space (codes "A") (codes "http://apache.org/dav/props/") _ apache_is_space refl,
  (
    declares_space (codes "Z") (codes "urn:schemas-microsoft-com:") _ microsoft_is_space refl,
    (declares_space (codes "nc") (codes "http://nextcloud.org/ns") _ nextcloud_is_space refl, (declares_space (codes "oc") (codes "http://owncloud.org/ns") _ owncloud_is_space refl, tt)),
  ),
)

record AreOthers (ds : List (List ℕ × List ℕ)) : Type 0 where
  all : AllByRecursion IsDeclaration ds
  none : has_attribute (codes "xmlns:D") ds ≡ false
  distinct : are_distinct ds ≡ true

some_others : (test : Space → Bool) → AreOthers (map declaration (filter test other_spaces))
some_others test = record {
  all = each_map DeclaresSpace IsDeclaration declaration (λ s h. h) (filter test other_spaces) (each_filter DeclaresSpace test other_spaces all_spaces);
  none = has_fewer (codes "xmlns:D") declaration test other_spaces refl;
  distinct = distinct_fewer declaration test other_spaces refl;
}

others_declared : (telling : Telling) (es : List ElementTree) → AreOthers (declared_for telling es)
others_declared Outcomes es = record { all = tt; none = refl; distinct = refl }
others_declared Requested es = some_others (λ s. list_any (is_in s.1) es)
others_declared AllProperties es = some_others (λ s. list_any (is_in s.1) es)
others_declared NamesAlone es = some_others (λ s. list_any (is_in s.1) es)
others_declared Others es = some_others (λ s. list_any (is_in s.1) es)

pub told_sendable : (w : Writer) (responses : List ElementTree) → AllSendable responses → IsSendable (told_by w responses)
told_sendable w responses all =
    let others = others_declared w.telling w.properties in (
      plain_word (codes "multistatus") refl refl,
      (
        known_prefix (codes "D") dav_known refl refl (dav_declared, others.all)
            (and_from (not (has_attribute (codes "xmlns:D") (declared_for w.telling w.properties))) (are_distinct (declared_for w.telling w.properties)) (ap (λ (t : Bool). not t) others.none) others.distinct),
        are_elements false responses all,
      ),
    )

-- ---- locks

scope_sendable : (shared : Bool) → IsSendable (lock_scope shared)
scope_sendable true = dav_one (codes "lockscope") (dav_element (codes "shared") []) (plain_word (codes "lockscope") refl refl) (dav_of (codes "shared") [] (plain_word (codes "shared") refl refl) tt)
scope_sendable false = dav_one (codes "lockscope") (dav_element (codes "exclusive") []) (plain_word (codes "lockscope") refl refl) (dav_of (codes "exclusive") [] (plain_word (codes "exclusive") refl refl) tt)

type_sendable : IsSendable lock_type
type_sendable = dav_one (codes "locktype") (dav_element (codes "write") []) (plain_word (codes "locktype") refl refl) (dav_of (codes "write") [] (plain_word (codes "write") refl refl) tt)

word_text : (bytes : List ℕ) → is_nonempty bytes ≡ true → IsPrinted bytes → IsSendableText bytes
word_text bytes some h = printed_text bytes some h

depth_sendable : (deep : Bool) → IsSendable (lock_depth deep)
depth_sendable true = dav_text_of (codes "depth") (codes "Infinity") (plain_word (codes "depth") refl refl) (word_text (codes "Infinity") refl (record { all = refl }))
depth_sendable false = dav_text_of (codes "depth") (codes "0") (plain_word (codes "depth") refl refl) (word_text (codes "0") refl (record { all = refl }))

time_text : (timeout : Option ℕ) → IsSendableText (time_type_text (time_type timeout))
time_text None = word_text (codes "Infinite") refl (record { all = refl })
time_text (Some seconds) =
    let front : IsPrinted (codes "Second-") = record { all = refl } in
    word_text (codes "Second-" ++ decimal seconds) refl (printed_append (codes "Second-") (decimal seconds) front (decimal_printed seconds))

parts_sendable : (l : Lock) → IsSendableLock l → AllSendable (lock_parts l)
parts_sendable l h = (
  scope_sendable l.shared,
  (
    type_sendable,
    (
      depth_sendable l.deep,
      (
        dav_text_of (codes "timeout") (time_type_text (time_type l.timeout)) (plain_word (codes "timeout") refl refl) (time_text l.timeout),
        (
          dav_one (codes "locktoken") (dav_text (codes "href") l.token) (plain_word (codes "locktoken") refl refl) (dav_text_of (codes "href") l.token (plain_word (codes "href") refl refl) h.token),
          (dav_one (codes "lockroot") (href l.path) (plain_word (codes "lockroot") refl refl) (href_sendable l.path h.path), tt),
        ),
      ),
    ),
  ),
)

owner_sendable : (owner : Option ElementTree) → IsSendableIfAny owner → AllSendable (option_to_list owner)
owner_sendable None h = tt
owner_sendable (Some e) h = (h, tt)

active_sendable : (l : Lock) → IsSendableLock l → IsSendable (active_lock l)
active_sendable l h = dav_of (codes "activelock") (lock_parts l ++ option_to_list l.owner) (plain_word (codes "activelock") refl refl) (each_append IsSendable (lock_parts l) (option_to_list l.owner) (parts_sendable l h) (owner_sendable l.owner h.owner))

discovery_sendable : (ls : List Lock) → AllByRecursion IsSendableLock ls → IsSendable (lock_discovery ls)
discovery_sendable ls all = dav_of (codes "lockdiscovery") (map active_lock ls) (plain_word (codes "lockdiscovery") refl refl) (each_map IsSendableLock IsSendable active_lock active_sendable ls all)

abbrev Fine : Path → Type 0
Fine q = Unit {0}

all_fine : (qs : List Path) → AllByRecursion Fine qs
all_fine [] = tt
all_fine (q ∷ qs) = (tt, all_fine qs)

pub found_sendable : (ls : Locks) (p : Path) → AreSendableLocks ls → IsSendable (locks_found ls p)
found_sendable None p all = discovery_sendable [] tt
found_sendable (Some ls) p all =
    discovery_sendable (discovered p ls) (each_flat_map Fine IsSendableLock (λ q. filter (λ l. is_same_path (names l.path) q && covers l p) ls) (λ q fine. each_filter IsSendableLock (λ l. is_same_path (names l.path) q && covers l p) ls all) (fronts p) (all_fine (fronts p)))

entry_sendable : (shared : Bool) → IsSendable (lock_entry shared)
entry_sendable shared = dav_more (codes "lockentry") (lock_scope shared) (lock_type ∷ []) (plain_word (codes "lockentry") refl refl) (scope_sendable shared) (type_sendable, tt)

pub supported_sendable : (ls : Locks) → IsSendable (locks_supported ls)
supported_sendable None = dav_of (codes "supportedlock") [] (plain_word (codes "supportedlock") refl refl) tt
supported_sendable (Some ls) = dav_more (codes "supportedlock") (lock_entry false) (lock_entry true ∷ []) (plain_word (codes "supportedlock") refl refl) (entry_sendable false) (entry_sendable true, tt)

pub lock_told_sendable : (l : Lock) → IsSendableLock l → IsSendable (lock_reply l)
lock_told_sendable l h = root_sendable (codes "prop") (lock_discovery (l ∷ []) ∷ []) (plain_word (codes "prop") refl refl) (discovery_sendable (l ∷ []) (h, tt), tt)

-- ---- an element by its name

pub finite_sendable : IsSendable (declares_dav (dav_element (codes "error") (dav_element (codes "propfind-finite-depth") [] ∷ [])))
finite_sendable = root_sendable (codes "error") (dav_element (codes "propfind-finite-depth") [] ∷ []) (plain_word (codes "error") refl refl) (dav_of (codes "propfind-finite-depth") [] (plain_word (codes "propfind-finite-depth") refl refl) tt, tt)
