-- The owner of a lock may be sent as the server keeps it, where it is as the standard has it.
use Rattle.std.proofs.Common.{◌≡◌, ℕ, Bool, true, false, cond, List, [], ◌∷◌, map, bytes_eq, codes, Option, Some, None, refl, sym, ap, subst, ◌∙◌}
use Rattle.std.specs.List.{AllByRecursion, filter}
use Rattle.std.specs.Option.{option_map}
use Rattle.dav_core.specs.Element.{ElementTree, ElementTrees, element, text, no_trees, tree_then, tree_list, trees, is_element, is_named, attributes_of, child_elements, namespace_of}
use Rattle.dav_core.proofs.ElementLemmas.{tree_list_trees}
use Rattle.dav_engine.specs.declared.lock_scope.LockScope.{LockScope}
use Rattle.dav_engine.specs.declared.request.Body.TheVariants as body
use Rattle.dav_engine.specs.LockInfo.{LockInfo, is_owner, is_lock_info, last_scope, last_owner, with_dav_prefix, asked_by}
use Rattle.dav_xml.specs.Expanded.{AreKept}
use Rattle.dav_xml.specs.Namespaces.{has_prefix}
use Rattle.dav_xml.specs.Prefixed.{namespace_under, renamed, under_prefix}
use Rattle.dav_xml.specs.Sendable.{IsSendable, IsSendableAs, as_read, AreSendable}
use Rattle.dav_xml.proofs.Declared.{bytes_same}
use Rattle.dav_xml.proofs.SentPrefixed.{prefixed_is_sendable}
use Rattle.dav_http.specs.Owners.{prefixed_child, prefixed_owners}
use Rattle.dav_http.specs.Sent.{IsSendableIfAny, IsSendableBody, IsUsualOwner}
use Rattle.dav_http.specs.SentLaws.{UsualOwnersMayBeSent, PrefixedOwnersMayBeSent}
use Rattle.dav_http.proofs.Each.{test_of, each_last}
use Rattle.dav_http.proofs.PlainWords.{dav_is_space, dav_known, expanded_in}
use Rattle.dav_http.proofs.SentParts.{children_sendable}

-- an element of `DAV:` with the prefix `D` keeps no attributes where it has none
none_kept_of_dav : AreKept (Some (codes "D")) (Some (codes "DAV:")) []
none_kept_of_dav = record {
  scope = (codes "D", codes "DAV:") ∷ [];
  given = [];
  names = [];
  declarable = (dav_is_space.declarable, tt);
  own = refl;
  kept = refl;
  distinct = refl;
  legal = tt;
}

abbrev IsUsual : ElementTree → Type 0
IsUsual e = (namespace_of e ≡ Some (codes "DAV:")) × (attributes_of e ≡ [])

prefixed : (e : ElementTree) → IsSendable e → IsUsual e → IsSendable (with_dav_prefix e)
prefixed (text bytes) h usual = absurd h
prefixed (element m p s a c) h usual = (
  h.0,
  (
    subst (λ (n : Option (List ℕ)). IsSendableAs (Some (codes "D")) n a) (sym usual.0)
        (subst (λ (xs : List (List ℕ × List ℕ)). IsSendableAs (Some (codes "D")) (Some (codes "DAV:")) xs) (sym usual.1)
        (as_read (expanded_in (codes "D") (codes "DAV:") dav_is_space) none_kept_of_dav)),
    h.1.1,
  ),
)

-- an element that may be sent with the prefix `D`
abbrev MayBeKept : ElementTree → Type 0
MayBeKept e = IsSendable (with_dav_prefix e)

owners_of : (es : List ElementTree) → AllByRecursion (λ e. is_owner e ≡ true → MayBeKept e) es → AllByRecursion MayBeKept (filter is_owner es)
owners_of [] all = tt
owners_of (e ∷ es) all = if_owner (is_owner e) all.0 (owners_of es all.1)
  where
    if_owner : (b : Bool) → (b ≡ true → MayBeKept e) → AllByRecursion MayBeKept (filter is_owner es) → AllByRecursion MayBeKept (cond b (e ∷ filter is_owner es) (filter is_owner es))
    if_owner true h more = (h refl, more)
    if_owner false h more = more

kept_owner : (o : Option ElementTree) → ((e : ElementTree) → o ≡ Some e → MayBeKept e) → IsSendableIfAny (option_map with_dav_prefix o)
kept_owner None h = tt
kept_owner (Some e) h = h e refl

asked_owner : (es : List ElementTree) (o : Option LockScope) (info : LockInfo) → AllByRecursion MayBeKept (filter is_owner es)
    → option_map (λ scope. record { scope = scope; owner = option_map with_dav_prefix (last_owner es) }) o ≡ Some info → IsSendableIfAny info.owner
asked_owner es None info all is = absurd cc
asked_owner es (Some scope) info all is =
    let asked : LockInfo = record { scope = scope; owner = option_map with_dav_prefix (last_owner es) } in
    let same : asked ≡ info = cc in
    subst (λ (i : LockInfo). IsSendableIfAny i.owner) same (kept_owner (last_owner es) (λ e there. each_last MayBeKept None (filter is_owner es) (λ x none. absurd cc) all e there))

if_asked : (b : Bool) (o : Option LockInfo) (info : LockInfo) → (o ≡ Some info → IsSendableIfAny info.owner) → cond b o None ≡ Some info → IsSendableIfAny info.owner
if_asked true o info h is = h is
if_asked false o info h is = absurd cc

body_sendable : (tree : ElementTree) → IsSendable tree → AllByRecursion (λ e. is_owner e ≡ true → MayBeKept e) (child_elements tree) → IsSendableBody (body.Tree tree)
body_sendable tree sendable all = (
  sendable,
  λ info is. if_asked (is_lock_info tree) (asked_by (child_elements tree)) info
      (λ some. asked_owner (child_elements tree) (last_scope (child_elements tree)) info (owners_of (child_elements tree) all) some) is,
)

each_usual : (es : List ElementTree) → AllByRecursion IsSendable es → AllByRecursion IsUsualOwner es → AllByRecursion (λ e. is_owner e ≡ true → MayBeKept e) es
each_usual [] all usual = tt
each_usual (e ∷ es) all usual = ((λ is. prefixed e all.0 (usual.0 is)), each_usual es all.1 usual.1)

pub usual_owners_may_be_sent : UsualOwnersMayBeSent
usual_owners_may_be_sent tree sendable usual = body_sendable tree sendable (each_usual (child_elements tree) (children_sendable tree sendable) usual)

-- ---- owners that were made ready

told_sendable : (e : ElementTree) → IsSendable e → IsSendable (prefixed_child e)
told_sendable e h = test_of (is_named (codes "owner") e) (λ t. IsSendable (cond t (under_prefix (codes "D") e) e)) (λ is. prefixed_is_sendable (codes "D") e dav_known h) (λ other. h)

child_first : (texted : Bool) (e : ElementTree) (ts : ElementTrees) → IsSendable e → AreSendable false ts → AreSendable texted (tree_then e ts)
child_first texted (text bytes) ts h more = absurd h
child_first texted (element m p s a c) ts h more = (h, more)

told_children : (texted : Bool) (ts : ElementTrees) → AreSendable texted ts → AreSendable texted (trees (map prefixed_child (tree_list ts)))
told_children texted no_trees h = tt
told_children texted (tree_then (element m p s a c) ts) h =
    child_first texted (prefixed_child (element m p s a c)) (trees (map prefixed_child (tree_list ts))) (told_sendable (element m p s a c) h.0) (told_children false ts h.1)
told_children true (tree_then (text bytes) ts) h = absurd h
told_children false (tree_then (text []) ts) h = absurd h
told_children false (tree_then (text (b ∷ bs)) ts) h = (h.0, told_children true ts h.1)

tree_told : (tree : ElementTree) → IsSendable tree → IsSendable (prefixed_owners tree)
tree_told (text bytes) h = absurd h
tree_told (element m p s a c) h = (h.0, (h.1.0, told_children false c h.1.1))

-- an owner that has the prefix already
abbrev IsReady : ElementTree → Type 0
IsReady e = is_owner e ≡ true → with_dav_prefix e ≡ e

prefix_is : (p : Option (List ℕ)) → has_prefix p (codes "D") ≡ true → Some (codes "D") ≡ p
prefix_is None e = absurd cc
prefix_is (Some q) e = ap (λ (x : List ℕ). Some x) (sym (bytes_same q (codes "D") e))

ready : (t : ElementTree) → IsReady (prefixed_child t)
ready (text bytes) = λ is. refl
ready (element m p s a c) =
    test_of (bytes_eq m (codes "owner")) (λ t. IsReady (cond t (under_prefix (codes "D") (element m p s a c)) (element m p s a c)))
    (λ is. test_of (has_prefix p (codes "D")) (λ t. IsReady (cond t (element m p s a c) (renamed (codes "D") (namespace_under (codes "D") s) (element m p s a c))))
    (λ has owner. ap (λ (q : Option (List ℕ)). element m q s a c) (prefix_is p has)) (λ hasnt owner. refl))
    (λ other owner. absurd (never (sym other ∙ owner)))
  where
    never : false ≡ true → ⊥
    never e = absurd cc

all_ready : (ts : List ElementTree) → AllByRecursion IsReady (filter is_element (tree_list (trees (map prefixed_child ts))))
all_ready [] = tt
all_ready (t ∷ ts) =
    test_of (is_element (prefixed_child t)) (λ b. AllByRecursion IsReady (cond b (prefixed_child t ∷ filter is_element (tree_list (trees (map prefixed_child ts)))) (filter is_element (tree_list (trees (map prefixed_child ts))))))
    (λ is. (ready t, all_ready ts)) (λ other. all_ready ts)

children_ready : (tree : ElementTree) → AllByRecursion IsReady (child_elements (prefixed_owners tree))
children_ready (text bytes) = tt
children_ready (element m p s a c) = all_ready (tree_list c)

each_ready : (es : List ElementTree) → AllByRecursion IsSendable es → AllByRecursion IsReady es → AllByRecursion (λ e. is_owner e ≡ true → MayBeKept e) es
each_ready [] all ready = tt
each_ready (e ∷ es) all ready = ((λ is. subst IsSendable (sym (ready.0 is)) all.0), each_ready es all.1 ready.1)

pub prefixed_owners_may_be_sent : PrefixedOwnersMayBeSent
prefixed_owners_may_be_sent tree h =
    let told = tree_told tree h in
    body_sendable (prefixed_owners tree) told (each_ready (child_elements (prefixed_owners tree)) (children_sendable (prefixed_owners tree) told) (children_ready tree))

-- ---- code

pub prefixed_is : (tree : ElementTree) (m : List ℕ) (p s : Option (List ℕ)) (a : List (List ℕ × List ℕ)) (children told : List ElementTree) → element m p s a (trees children) ≡ tree → told ≡ map prefixed_child children
    → element m p s a (trees told) ≡ prefixed_owners tree
prefixed_is tree m p s a children told e is =
    ap (λ (ts : List ElementTree). element m p s a (trees ts)) (is ∙ ap (map prefixed_child) (sym (tree_list_trees children))) ∙ ap prefixed_owners e
