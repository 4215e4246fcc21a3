-- What is shown may be sent.
use Rattle.std.proofs.Common.{◌≡◌, ℕ, ◌≤◌, Bool, true, false, cond, not, ◌&&◌, ◌||◌, nat_lt, take, drop, length, List, [], ◌∷◌, ◌++◌, map, codes, bytes_eq, Option, Some, None, IfSome, ◌⊎◌, inl, inr, refl, sym, ap, subst}
use Rattle.std.specs.List.{AllByRecursion, cons_option, filter, filter_map, list_any}
use Rattle.std.specs.Option.{option_and_then, option_eq}
use Rattle.httpdate.specs.Date.{parse_secs}
use Rattle.dav_core.specs.Element.{ElementTree, ElementTrees, element, text, no_trees, tree_then, trees, tree_list, text_of, name_of, prefix_of, children_of, child_elements, is_element, is_named, with_child, with_children}
use Rattle.dav_core.specs.Path.{is_nonempty}
use Rattle.dav_core.specs.World.{last_moment}
use Rattle.dav_engine.specs.Date.{date_text_of}
use Rattle.dav_xml.specs.Expanded.{IsPlain}
use Rattle.dav_xml.specs.Sendable.{IsSendable, IsSendableAs, AreSendable}
use Rattle.dav_xml.proofs.Escapes.{by_test}
use Rattle.dav_xml.proofs.LegalTrees.{legal_word}
use Rattle.dav_presented.specs.Names.{is_same, is_dav}
use Rattle.dav_presented.specs.Missing.{prop_among, is_in_prop, is_told, bare, one_more, missing_after, dav_element, not_found, with_missing, completed, completed_child, completed_tree, answered}
use Rattle.dav_presented.specs.Usual.{has_usual_name, usual}
use Rattle.dav_presented.specs.Times.{Times, asked_too, both, each_named, find_as, is_kept, is_own, is_time, is_unchanged, kept, kept_if, kept_in_propstats, named_as_set, own_space, own_time, patch_as, refused, set_as, timed, times_in, times_of, times_told, windows_time}
use Rattle.dav_presented.specs.Typed.{is_unknown, typed_property, found_property, told_property, child_told, prop_told, each_below, type_in, typed_by, typed_child, typed, outcome_child, outcomes}
use Rattle.dav_presented.specs.declared.quota.Room.{Room}
use Rattle.dav_presented.specs.declared.times.Telling.{Telling}
use Rattle.dav_presented.specs.declared.times.Telling.TheVariants.{Found, Outcome}
use Rattle.dav_presented.specs.Minimal.{answered_to, with_propstat}
use Rattle.dav_presented.specs.Quota.{bytes_property, is_found, is_of_folder, more_in_found, more_in_prop, named_quota, names_quota, quota, telling, with_quota_for, with_quota_of}
use Rattle.dav_presented.specs.Responses.{changed_child, each_response, ok_status, propstat_of}
use Rattle.dav_presented.specs.Sent.{AskedMayBeSent, ShownMayBeSent}
use Rattle.dav_presented.proofs.Printed.{IsPrinted, date_read, printed_append, printed_legal, written_date}
use Rattle.dav_presented.proofs.SentNames.{plain_word, dav_as, dav_declared, windows_as, own_as, bare_sent}
use Rattle.dav_presented.proofs.SentNumbers.{decimal_sent}
use Rattle.dav_presented.proofs.SentTypes.{TellsWord, no_type, type_sent, address_told}
use Rattle.dav_presented.proofs.TypedLemmas.{time_named}

abbrev AllSendable : List ElementTree → Type 0
AllSendable es = AllByRecursion IsSendable es

-- ---- children

first_sent : (texted : Bool) (e : ElementTree) (ts : ElementTrees) → IsSendable e → AreSendable false ts → AreSendable texted (tree_then e ts)
first_sent texted (element n p s a c) ts h k = (h, k)
first_sent texted (text bytes) ts h k = absurd h

all_sent : (texted : Bool) (es : List ElementTree) → AllSendable es → AreSendable texted (trees es)
all_sent texted [] h = tt
all_sent texted (e ∷ es) h = first_sent texted e (trees es) h.0 (all_sent false es h.1)

-- a change that keeps texts, and of which what may be sent may be sent
record Keeps (f : ElementTree → ElementTree) : Type 0 where
  elements : (e : ElementTree) → IsSendable e → IsSendable (f e)
  texts : (bytes : List ℕ) → f (text bytes) ≡ text bytes

each_sent : (f : ElementTree → ElementTree) → Keeps f → (texted : Bool) (ts : ElementTrees) → AreSendable texted ts → AreSendable texted (trees (map f (tree_list ts)))
each_sent f k texted no_trees h = tt
each_sent f k texted (tree_then (element n p s a c) ts) h =
    first_sent texted (f (element n p s a c)) (trees (map f (tree_list ts))) (k.elements (element n p s a c) h.0) (each_sent f k false ts h.1)
each_sent f k true (tree_then (text bytes) ts) h = absurd h
each_sent f k false (tree_then (text []) ts) h = absurd h
each_sent f k false (tree_then (text (b ∷ bs)) ts) h =
    subst (λ (t : ElementTree). AreSendable false (tree_then t (trees (map f (tree_list ts))))) (sym (k.texts (b ∷ bs))) (h.0, each_sent f k true ts h.1)

holding : (e : ElementTree) (es : List ElementTree) → IsSendable e → AreSendable false (trees es) → IsSendable (with_children e es)
holding (element n p s a c) es h k = (h.0, (h.1.0, k))
holding (text bytes) es h k = absurd h

changed : (f : ElementTree → ElementTree) → Keeps f → (e : ElementTree) → IsSendable e → IsSendable (with_children e (map f (children_of e)))
changed f k (element n p s a c) h = (h.0, (h.1.0, each_sent f k false c h.1.1))
changed f k (text bytes) h = absurd h

one_text : (t : Bool) (bytes : List ℕ) → cond t (text bytes) (text bytes) ≡ text bytes
one_text true bytes = refl
one_text false bytes = refl

-- ---- types and usual names

typed_keeps : (kind : Option (List ℕ)) → TellsWord kind → Keeps (typed_property kind)
typed_keeps None h = record { elements = λ e sent. sent; texts = λ bytes. refl }
typed_keeps (Some kind) h = record {
  elements = λ e sent. by_test (is_dav (codes "getcontenttype") e && is_unknown (text_of e)) (λ t. IsSendable (cond t (with_children e (text kind ∷ [])) e)) (λ is. holding e (text kind ∷ []) sent (type_sent kind h)) (λ is. sent);
  texts = λ bytes. one_text (is_dav (codes "getcontenttype") (text bytes) && is_unknown (text_of (text bytes))) bytes;
}

again : (ts : ElementTrees) → trees (tree_list ts) ≡ ts
again no_trees = refl
again (tree_then t ts) = ap (tree_then t) (again ts)

dav_sent : (e : ElementTree) → IsSendable e → IsSendable (dav_element (name_of e) (children_of e))
dav_sent (element n p s a c) h = (h.0, (dav_as, subst (AreSendable false) (sym (again c)) h.1.1))
dav_sent (text bytes) h = absurd h

usual_keeps : Keeps usual
usual_keeps = record {
  elements = λ e sent. by_test (has_usual_name e) (λ t. IsSendable (cond t (dav_element (name_of e) (children_of e)) e)) (λ is. dav_sent e sent) (λ is. sent);
  texts = λ bytes. refl;
}

-- a text of printable ASCII that isn't empty may be sent
printed_sent : (bytes : List ℕ) → is_nonempty bytes ≡ true → IsPrinted bytes → AreSendable false (tree_then (text bytes) no_trees)
printed_sent [] some h = absurd cc
printed_sent (b ∷ bs) some h = (printed_legal (b ∷ bs) h, tt)

some_after : (xs : List ℕ) (b : ℕ) (bs : List ℕ) → is_nonempty (xs ++ b ∷ bs) ≡ true
some_after [] b bs = refl
some_after (x ∷ xs) b bs = refl

some_before : (xs ys : List ℕ) → is_nonempty xs ≡ true → is_nonempty (xs ++ ys) ≡ true
some_before [] ys e = absurd cc
some_before (x ∷ xs) ys e = refl

-- a date isn't empty
date_some : (moment : ℕ) → is_nonempty (date_text_of moment) ≡ true
date_some moment = some_after _ 32 (codes "GMT")

dates_some : (time moment : ℕ) → is_nonempty (date_text_of time ++ date_text_of moment) ≡ true
dates_some time moment = some_before (date_text_of time) (date_text_of moment) (date_some time)

-- a date that is told may be sent
date_sent : (moment : ℕ) → moment ≤ last_moment → AreSendable false (tree_then (text (date_text_of moment)) no_trees)
date_sent moment le = printed_sent (date_text_of moment) (date_some moment) (written_date moment le)

-- times that are told are of the year 9999 or before
abbrev AreDates : Option Times → Type 0
AreDates times = IfSome times (λ times. times.0 ≤ last_moment)

timed_sent : (times : Option Times) → AreDates times → (e : ElementTree) → IsSendable e → IsSendable (timed times e)
timed_sent None h e sent = sent
timed_sent (Some times) h e sent =
    by_test (is_time e && is_unchanged (option_and_then parse_secs (text_of e)) times.1) (λ t. IsSendable (cond t (with_children e (text (date_text_of times.0) ∷ [])) e))
    (λ is. holding e (text (date_text_of times.0) ∷ []) sent (date_sent times.0 h)) (λ is. sent)

both_dates : (a b : Option ℕ) → IfSome a (λ n. n ≤ last_moment) → AreDates (both a b)
both_dates None b h = tt
both_dates (Some time) None h = tt
both_dates (Some time) (Some moment) h = h

read_date : (o : Option ℕ) (bytes : List ℕ) → parse_secs bytes ≡ o → IfSome o (λ n. n ≤ last_moment)
read_date None bytes e = tt
read_date (Some secs) bytes e = date_read bytes secs e

dates_if : (short : Bool) (bytes : List ℕ) → AreDates (cond short None (both (parse_secs (take 29 bytes)) (parse_secs (drop 29 bytes))))
dates_if true bytes = tt
dates_if false bytes = both_dates (parse_secs (take 29 bytes)) (parse_secs (drop 29 bytes)) (read_date (parse_secs (take 29 bytes)) (take 29 bytes) refl)

dates_of : (o : Option (List ℕ)) → AreDates (option_and_then times_of o)
dates_of None = tt
dates_of (Some bytes) = dates_if (nat_lt (length bytes) 29) bytes

dates_in : (o : Option ElementTree) → AreDates (option_and_then times_in o)
dates_in None = tt
dates_in (Some e) = dates_of (text_of e)

dates_told : (response : ElementTree) → AreDates (times_told response)
dates_told response = dates_in (kept_in_propstats (child_elements response))

found_sent : (kind : Option (List ℕ)) (times : Option Times) → TellsWord kind → AreDates times → (e : ElementTree) → IsSendable e → IsSendable (found_property kind times e)
found_sent kind times h dates e sent = usual_keeps.elements (typed_property kind (timed times e)) ((typed_keeps kind h).elements (timed times e) (timed_sent times dates e sent))

-- what is told of a property, if anything is, may be sent
abbrev MayBeTold : Option ElementTree → Type 0
MayBeTold o = IfSome o IsSendable

named_sent : (e : ElementTree) → IsSendable e → IsSendable (named_as_set e)
named_sent e sent =
    by_test (is_kept e && option_eq bytes_eq (prefix_of e) (Some (codes "getlastmodified")))
    (λ t. IsSendable (cond t (dav_element (codes "getlastmodified") []) (cond (is_kept e && option_eq bytes_eq (prefix_of e) (Some windows_time)) (element windows_time (Some (codes "Z")) None [] no_trees) e)))
    (λ is. (plain_word (codes "getlastmodified") refl refl, (dav_as, tt)))
    (λ is. by_test (is_kept e && option_eq bytes_eq (prefix_of e) (Some windows_time)) (λ t. IsSendable (cond t (element windows_time (Some (codes "Z")) None [] no_trees) e)) (λ is. (plain_word windows_time refl refl, (windows_as, tt))) (λ is. sent))

-- how properties are told: the times are dates
abbrev AreDated : Telling → Type 0
AreDated (Found times) = AreDates times
AreDated Outcome = Unit {0}

told_sent : (kind : Option (List ℕ)) (telling : Telling) → TellsWord kind → AreDated telling → (e : ElementTree) → IsSendable e → MayBeTold (told_property kind telling e)
told_sent kind (Found times) h dates e sent = by_test (is_own e) (λ t. MayBeTold (cond t None (Some (found_property kind times e)))) (λ is. tt) (λ is. found_sent kind times h dates e sent)
told_sent kind Outcome h dates e sent = named_sent e sent

one_told : (o : Option ElementTree) (es : List ElementTree) → MayBeTold o → AllSendable es → AllSendable (cons_option o es)
one_told None es h k = k
one_told (Some e) es h k = (h, k)

children_told : (f : ElementTree → Option ElementTree) → ((e : ElementTree) → IsSendable e → MayBeTold (f e)) → (texted : Bool) (ts : ElementTrees) → AreSendable texted ts → AllSendable (filter_map (child_told f) (tree_list ts))
children_told f k texted no_trees h = tt
children_told f k texted (tree_then (element n p s a c) ts) h =
    one_told (f (element n p s a c)) (filter_map (child_told f) (tree_list ts)) (k (element n p s a c) h.0) (children_told f k false ts h.1)
children_told f k true (tree_then (text bytes) ts) h = absurd h
children_told f k false (tree_then (text []) ts) h = absurd h
children_told f k false (tree_then (text (b ∷ bs)) ts) h = children_told f k true ts h.1

props_told : (f : ElementTree → Option ElementTree) → ((e : ElementTree) → IsSendable e → MayBeTold (f e)) → (e : ElementTree) → IsSendable e → IsSendable (with_children e (filter_map (child_told f) (children_of e)))
props_told f k (element n p s a c) h = (h.0, (h.1.0, all_sent false (filter_map (child_told f) (tree_list c)) (children_told f k false c h.1.1)))
props_told f k (text bytes) h = absurd h

prop_keeps : (f : ElementTree → Option ElementTree) → ((e : ElementTree) → IsSendable e → MayBeTold (f e)) → Keeps (prop_told f)
prop_keeps f k = record {
  elements = λ e sent. by_test (is_dav (codes "prop") e) (λ t. IsSendable (cond t (with_children e (filter_map (child_told f) (children_of e))) e)) (λ is. props_told f k e sent) (λ is. sent);
  texts = λ bytes. refl;
}

below_keeps : (name : List ℕ) (f : ElementTree → ElementTree) → Keeps f → Keeps (each_below name f)
below_keeps name f k = record {
  elements = λ e sent. by_test (is_dav name e) (λ t. IsSendable (cond t (with_children e (map f (children_of e))) e)) (λ is. changed f k e sent) (λ is. sent);
  texts = λ bytes. one_text (is_dav name (text bytes)) bytes;
}

response_sent : (kind : Option (List ℕ)) (telling : Telling) → TellsWord kind → AreDated telling → (e : ElementTree) → IsSendable e → IsSendable (typed_by kind telling e)
response_sent kind telling h dates e sent = changed _ (below_keeps (codes "propstat") _ (prop_keeps _ (told_sent kind telling h dates))) e sent

child_keeps : Keeps typed_child
child_keeps = record {
  elements = λ e sent. by_test (is_dav (codes "response") e) (λ t. IsSendable (cond t (typed_by (type_in e) (Found (times_told e)) e) e))
      (λ is. response_sent (type_in e) (Found (times_told e)) (address_told e) (dates_told e) e sent) (λ is. sent);
  texts = λ bytes. refl;
}

outcome_keeps : Keeps outcome_child
outcome_keeps = record {
  elements = λ e sent. by_test (is_dav (codes "response") e) (λ t. IsSendable (cond t (typed_by None Outcome e) e)) (λ is. response_sent None Outcome no_type tt e sent) (λ is. sent);
  texts = λ bytes. refl;
}

outcomes_sent : (told : ElementTree) → IsSendable told → IsSendable (outcomes told)
outcomes_sent told h = changed outcome_child outcome_keeps told h

typed_sent : (told : ElementTree) → IsSendable told → IsSendable (typed told)
typed_sent told h = changed typed_child child_keeps told h

-- ---- what is missing

elements_of : (texted : Bool) (ts : ElementTrees) → AreSendable texted ts → AllSendable (filter is_element (tree_list ts))
elements_of texted no_trees h = tt
elements_of texted (tree_then (element n p s a c) ts) h = (h.0, elements_of false ts h.1)
elements_of true (tree_then (text bytes) ts) h = absurd h
elements_of false (tree_then (text []) ts) h = absurd h
elements_of false (tree_then (text (b ∷ bs)) ts) h = elements_of true ts h.1

children_sent : (e : ElementTree) → IsSendable e → AllSendable (child_elements e)
children_sent (element n p s a c) h = elements_of false c h.1.1
children_sent (text bytes) h = absurd h

-- what is asked for
abbrev AsksSendable : Option ElementTree → Type 0
AsksSendable None = Unit {0}
AsksSendable (Some prop) = AllSendable (child_elements prop)

asks_sent : (es : List ElementTree) → AllSendable es → AsksSendable (prop_among es)
asks_sent [] h = tt
asks_sent (e ∷ es) h = by_test (bytes_eq (name_of e) (codes "prop"))
    (λ t. AsksSendable (cond t (Some e) (cond (bytes_eq (name_of e) (codes "propname") || bytes_eq (name_of e) (codes "allprop")) None (prop_among es)))) (λ is. children_sent e h.0)
    (λ is. by_test (bytes_eq (name_of e) (codes "propname") || bytes_eq (name_of e) (codes "allprop")) (λ t. AsksSendable (cond t None (prop_among es))) (λ other. tt) (λ other. asks_sent es h.1))

joined : (xs ys : List ElementTree) → AllSendable xs → AllSendable ys → AllSendable (xs ++ ys)
joined [] ys h k = k
joined (x ∷ xs) ys h k = (h.0, joined xs ys h.1 k)

more_sent : (response : ElementTree) (found : List ElementTree) (e : ElementTree) → AllSendable found → IsSendable e → AllSendable (one_more response found e)
more_sent response found e h sent =
    by_test (is_told e response || list_any (λ f. is_same e f) found) (λ t. AllSendable (cond t found (found ++ bare e ∷ []))) (λ is. h) (λ is. joined found (bare e ∷ []) h (bare_sent e sent, tt))

missing_sent : (response : ElementTree) (found asked : List ElementTree) → AllSendable found → AllSendable asked → AllSendable (missing_after response found asked)
missing_sent response found [] h k = h
missing_sent response found (e ∷ es) h k = missing_sent response (one_more response found e) es (more_sent response found e h k.0) k.1

dav_of : (name : List ℕ) (children : List ElementTree) → IsPlain name → AllSendable children → IsSendable (dav_element name children)
dav_of name children plain all = (plain, (dav_as, all_sent false children all))

not_found_sent : (es : List ElementTree) → AllSendable es → IsSendable (not_found es)
not_found_sent es all =
    let status : IsSendable (dav_element (codes "status") (text (codes "HTTP/1.1 404 Not Found") ∷ [])) = (plain_word (codes "status") refl refl, (dav_as, (legal_word (codes "HTTP/1.1 404 Not Found") refl, tt))) in
    let prop : IsSendable (dav_element (codes "prop") es) = dav_of (codes "prop") es (plain_word (codes "prop") refl refl) all in
    dav_of (codes "propstat") (dav_element (codes "prop") es ∷ dav_element (codes "status") (text (codes "HTTP/1.1 404 Not Found") ∷ []) ∷ []) (plain_word (codes "propstat") refl refl) (prop, (status, tt))

last_sent : (texted : Bool) (ts : ElementTrees) (child : ElementTree) → AreSendable texted ts → IsSendable child → AreSendable texted (trees (tree_list ts ++ child ∷ []))
last_sent texted no_trees child h one = first_sent texted child no_trees one tt
last_sent texted (tree_then (element n p s a c) ts) child h one = (h.0, last_sent false ts child h.1 one)
last_sent true (tree_then (text bytes) ts) child h one = absurd h
last_sent false (tree_then (text []) ts) child h one = absurd h
last_sent false (tree_then (text (b ∷ bs)) ts) child h one = (h.0, last_sent true ts child h.1 one)

child_sent : (e child : ElementTree) → IsSendable e → IsSendable child → IsSendable (with_child e child)
child_sent (element n p s a c) child h one = (h.0, (h.1.0, last_sent false c child h.1.1 one))
child_sent (text bytes) child h one = absurd h

with_missing_sent : (response : ElementTree) (missing : List ElementTree) → IsSendable response → AllSendable missing → IsSendable (with_missing response missing)
with_missing_sent response [] h all = h
with_missing_sent response (e ∷ es) h all = child_sent response (not_found (e ∷ es)) h (not_found_sent (e ∷ es) all)

completed_keeps : (asked : List ElementTree) → AllSendable asked → Keeps (completed_child asked)
completed_keeps asked all = record {
  elements = λ e sent. by_test (is_dav (codes "response") e) (λ t. IsSendable (cond t (completed asked e) e)) (λ is. with_missing_sent e (missing_after e [] asked) sent (missing_sent e [] asked tt all)) (λ is. sent);
  texts = λ bytes. refl;
}

tree_sent : (asked : Option ElementTree) (told : ElementTree) → AsksSendable asked → IsSendable told → IsSendable (completed_tree asked told)
tree_sent None told asks h = h
tree_sent (Some prop) told asks h = changed (completed_child (child_elements prop)) (completed_keeps (child_elements prop) asks) told h

answered_sent : (propfind told : ElementTree) → IsSendable propfind → IsSendable told → IsSendable (answered propfind told)
answered_sent propfind told asks h = tree_sent (prop_among (child_elements propfind)) told (asks_sent (child_elements propfind) (children_sent propfind asks)) h

-- ---- a response that is changed

response_keeps : (change : ElementTree → ElementTree) → ((e : ElementTree) → IsSendable e → IsSendable (change e)) → Keeps (changed_child change)
response_keeps change h = record {
  elements = λ e sent. by_test (is_dav (codes "response") e) (λ t. IsSendable (cond t (change e) e)) (λ is. h e sent) (λ is. sent);
  texts = λ bytes. refl;
}

each_response_sent : (change : ElementTree → ElementTree) → ((e : ElementTree) → IsSendable e → IsSendable (change e)) → (told : ElementTree) → IsSendable told → IsSendable (each_response change told)
each_response_sent change h told may = changed (changed_child change) (response_keeps change h) told may

ok_sent : (es : List ElementTree) → AllSendable es → IsSendable (propstat_of ok_status es)
ok_sent es all =
    let status : IsSendable (dav_element (codes "status") (text ok_status ∷ [])) = (plain_word (codes "status") refl refl, (dav_as, (legal_word ok_status refl, tt))) in
    let prop : IsSendable (dav_element (codes "prop") es) = dav_of (codes "prop") es (plain_word (codes "prop") refl refl) all in
    dav_of (codes "propstat") (dav_element (codes "prop") es ∷ dav_element (codes "status") (text ok_status ∷ []) ∷ []) (plain_word (codes "propstat") refl refl) (prop, (status, tt))

-- ---- a reply without what is missing

propstat_sent : (response : ElementTree) → IsSendable response → IsSendable (with_propstat response)
propstat_sent response sent =
    by_test (list_any (is_dav (codes "propstat")) (child_elements response)) (λ t. IsSendable (cond t response (with_child response (propstat_of ok_status []))))
    (λ is. sent) (λ is. child_sent response (propstat_of ok_status []) sent (ok_sent [] tt))

answered_to_sent : (leaves_out : Bool) (propfind told : ElementTree) → IsSendable propfind → IsSendable told → IsSendable (answered_to leaves_out propfind told)
answered_to_sent true propfind told asks may = each_response_sent with_propstat propstat_sent told may
answered_to_sent false propfind told asks may = answered_sent propfind told asks may

-- ---- the room

bytes_sent : (name : List ℕ) (count : ℕ) → IsPlain name → IsSendable (bytes_property name count)
bytes_sent name count plain = (plain, (dav_as, decimal_sent count))

quota_sent : (room : Room) → AllSendable (quota room)
quota_sent room = (
  bytes_sent (codes "quota-available-bytes") room.available (plain_word (codes "quota-available-bytes") refl refl),
  (bytes_sent (codes "quota-used-bytes") room.used (plain_word (codes "quota-used-bytes") refl refl), tt),
)

some_sent : (test : ElementTree → Bool) (es : List ElementTree) → AllSendable es → AllSendable (filter test es)
some_sent test [] all = tt
some_sent test (e ∷ es) all = by_test (test e) (λ t. AllSendable (cond t (e ∷ filter test es) (filter test es))) (λ is. (all.0, some_sent test es all.1)) (λ is. some_sent test es all.1)

more_sent_after : (texted : Bool) (ts : ElementTrees) (es : List ElementTree) → AreSendable texted ts → AllSendable es → AreSendable texted (trees (tree_list ts ++ es))
more_sent_after texted no_trees es h all = all_sent texted es all
more_sent_after texted (tree_then (element n p s a c) ts) es h all = (h.0, more_sent_after false ts es h.1 all)
more_sent_after true (tree_then (text bytes) ts) es h all = absurd h
more_sent_after false (tree_then (text []) ts) es h all = absurd h
more_sent_after false (tree_then (text (b ∷ bs)) ts) es h all = (h.0, more_sent_after true ts es h.1 all)

with_more_sent : (e : ElementTree) (es : List ElementTree) → IsSendable e → AllSendable es → IsSendable (with_children e (children_of e ++ es))
with_more_sent (element n p s a c) es h all = (h.0, (h.1.0, more_sent_after false c es h.1.1 all))
with_more_sent (text bytes) es h all = absurd h

in_prop_keeps : (es : List ElementTree) → AllSendable es → Keeps (more_in_prop es)
in_prop_keeps es all = record {
  elements = λ e sent. by_test (is_dav (codes "prop") e) (λ t. IsSendable (cond t (with_children e (children_of e ++ es)) e)) (λ is. with_more_sent e es sent all) (λ is. sent);
  texts = λ bytes. refl;
}

in_found_keeps : (es : List ElementTree) → AllSendable es → Keeps (more_in_found es)
in_found_keeps es all = record {
  elements = λ e sent. by_test (is_found e) (λ t. IsSendable (cond t (with_children e (map (more_in_prop es) (children_of e))) e)) (λ is. changed (more_in_prop es) (in_prop_keeps es all) e sent) (λ is. sent);
  texts = λ bytes. refl;
}

telling_sent : (es : List ElementTree) (response : ElementTree) → AllSendable es → IsSendable response → IsSendable (telling es response)
telling_sent [] response all sent = sent
telling_sent (e ∷ es) response all sent =
    by_test (list_any is_found (child_elements response))
    (λ t. IsSendable (cond t (with_children response (map (more_in_found (e ∷ es)) (children_of response))) (with_child response (propstat_of ok_status (e ∷ es)))))
    (λ is. changed (more_in_found (e ∷ es)) (in_found_keeps (e ∷ es) all) response sent) (λ is. child_sent response (propstat_of ok_status (e ∷ es)) sent (ok_sent (e ∷ es) all))

with_quota_of_sent : (room : Room) (prop response : ElementTree) → IsSendable response → IsSendable (with_quota_of room prop response)
with_quota_of_sent room prop response sent =
    by_test (is_of_folder response) (λ t. IsSendable (cond t (telling (named_quota room prop response) response) response))
    (λ is. telling_sent (named_quota room prop response) response (some_sent (λ e. is_in_prop e prop && not (is_told e response)) (quota room) (quota_sent room)) sent) (λ is. sent)

with_quota_for_sent : (room : Room) (asked : Option ElementTree) (told : ElementTree) → IsSendable told → IsSendable (with_quota_for room asked told)
with_quota_for_sent room None told may = may
with_quota_for_sent room (Some prop) told may =
    by_test (names_quota prop) (λ t. IsSendable (cond t (each_response (with_quota_of room prop) told) told))
    (λ is. each_response_sent (with_quota_of room prop) (with_quota_of_sent room prop) told may) (λ is. may)

pub shown_may_be_sent : ShownMayBeSent
shown_may_be_sent = record {
  types = typed_sent;
  quota = λ room propfind told may. with_quota_for_sent room (prop_among (child_elements propfind)) told may;
  names = answered_to_sent;
  times = outcomes_sent;
}

-- ---- what is run of a request

own_time_sent : IsSendable own_time
own_time_sent = (plain_word (codes "modified") refl refl, (own_as 84 [] refl refl refl, tt))

asked_keeps : Keeps asked_too
asked_keeps = record {
  elements = λ e sent. by_test (is_named (codes "prop") e && list_any is_time (child_elements e)) (λ t. IsSendable (cond t (with_child e own_time) e)) (λ is. child_sent e own_time sent own_time_sent) (λ is. sent);
  texts = λ bytes. refl;
}

find_sent : (tree : ElementTree) → IsSendable tree → IsSendable (find_as tree)
find_sent tree h = changed asked_too asked_keeps tree h

-- a name with which a time is set may be a prefix
kept_sent : (e : ElementTree) (time moment : ℕ) → is_time e ≡ true → time ≤ last_moment → moment ≤ last_moment → IsSendable (kept (name_of e) time moment)
kept_sent e time moment is le later = (
  plain_word (codes "modified") refl refl,
  (by_name (time_named e is), printed_sent (date_text_of time ++ date_text_of moment) (dates_some time moment) (printed_append (date_text_of time) (date_text_of moment) (written_date time le) (written_date moment later))),
)
  where
    by_name : (name_of e ≡ codes "getlastmodified") ⊎ (name_of e ≡ windows_time) → IsSendableAs (Some (name_of e)) (Some own_space) []
    by_name (inl same) = subst (λ (n : List ℕ). IsSendableAs (Some n) (Some own_space) []) (sym same) (own_as 103 (codes "etlastmodified") refl refl refl)
    by_name (inr same) = subst (λ (n : List ℕ). IsSendableAs (Some n) (Some own_space) []) (sym same) (own_as 87 (codes "in32LastModifiedTime") refl refl refl)

kept_if_sent : (moment : ℕ) (e : ElementTree) (o : Option ℕ) → is_time e ≡ true → moment ≤ last_moment → IfSome o (λ n. n ≤ last_moment) → IsSendable e → IsSendable (kept_if moment e o)
kept_if_sent moment e None is le time sent = sent
kept_if_sent moment e (Some secs) is le time sent = kept_sent e secs moment is time le

time_in : (o : Option (List ℕ)) → IfSome (option_and_then parse_secs o) (λ n. n ≤ last_moment)
time_in None = tt
time_in (Some bytes) = read_date (parse_secs bytes) bytes refl

refused_sent : (e : ElementTree) → IsSendable e → IsSendable (refused e)
refused_sent (element n p s a c) h = (h.0, (dav_declared, tt))
refused_sent (text bytes) h = absurd h

set_keeps : (moment : ℕ) → moment ≤ last_moment → Keeps (set_as moment)
set_keeps moment le = record {
  elements = λ e sent. by_test (is_time e) (λ t. is_time e ≡ t → IsSendable (cond t (kept_if moment e (option_and_then parse_secs (text_of e))) (cond (is_own e) (refused e) e)))
      (λ is same. kept_if_sent moment e (option_and_then parse_secs (text_of e)) is le (time_in (text_of e)) sent)
      (λ no same. by_test (is_own e) (λ t. IsSendable (cond t (refused e) e)) (λ is. refused_sent e sent) (λ is. sent)) refl;
  texts = λ bytes. refl;
}

named_keeps : (name : List ℕ) (f : ElementTree → ElementTree) → Keeps f → Keeps (each_named name f)
named_keeps name f k = record {
  elements = λ e sent. by_test (is_named name e) (λ t. IsSendable (cond t (with_children e (map f (children_of e))) e)) (λ is. changed f k e sent) (λ is. sent);
  texts = λ bytes. refl;
}

patch_sent : (moment : ℕ) (tree : ElementTree) → moment ≤ last_moment → IsSendable tree → IsSendable (patch_as moment tree)
patch_sent moment tree le h = changed _ (named_keeps (codes "set") _ (named_keeps (codes "prop") _ (set_keeps moment le))) tree h

pub asked_may_be_sent : AskedMayBeSent
asked_may_be_sent = (find_sent, patch_sent)
