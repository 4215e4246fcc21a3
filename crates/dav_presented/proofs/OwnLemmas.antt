-- No client sets a property of the server's own but a time.
use Rattle.std.proofs.Common.{◌≡◌, ◌||◌, ◌&&◌, true≢false, ℕ, Bool, true, false, cond, List, [], ◌∷◌, ◌++◌, map, codes, bytes_eq, Option, Some, None, refl, sym, ap, subst, ◌∙◌}
use Rattle.std.specs.List.{AllByRecursion, filter, flat_map}
use Rattle.std.specs.Option.{option_and_then}
use Rattle.httpdate.specs.Date.{parse_secs}
use Rattle.dav_core.specs.Element.{ElementTree, element, text, trees, tree_list, name_of, namespace_of, prefix_of, text_of, is_element, is_named, children_of, child_elements, with_children}
use Rattle.dav_engine.specs.declared.request.Body.TheVariants as body
use Rattle.dav_engine.specs.Proppatch.{Change, changes_by, changes_in, changes_to}
use Rattle.dav_xml.proofs.Escapes.{by_test}
use Rattle.dav_presented.specs.Names.{is_dav, is_in, space_by, space_of}
use Rattle.dav_presented.specs.Own.{IsKeptIfOwn, NoTimeIsForged}
use Rattle.dav_presented.specs.Times.{each_named, is_own, is_time, kept, kept_if, own_space, patch_as, refused, set_as, windows_time}
use Rattle.dav_presented.proofs.TreeLemmas.{list_of_trees}

-- ---- lists

all_append : {X : Type 0} (P : X → Type 0) (xs ys : List X) → AllByRecursion P xs → AllByRecursion P ys → AllByRecursion P (xs ++ ys)
all_append P [] ys h k = k
all_append P (x ∷ xs) ys h k = (h.0, all_append P xs ys h.1 k)

all_map : {X Y : Type 0} (P : X → Type 0) (Q : Y → Type 0) (f : X → Y) → ((x : X) → P x → Q (f x)) → (xs : List X) → AllByRecursion P xs → AllByRecursion Q (map f xs)
all_map P Q f maps [] h = tt
all_map P Q f maps (x ∷ xs) h = (maps x h.0, all_map P Q f maps xs h.1)

-- what is taken of each tree that a test picks, of those that were changed
all_picked : {Y : Type 0} (Q : Y → Type 0) (g : ElementTree → ElementTree) (test : ElementTree → Bool) (f : ElementTree → List Y)
    → ((e : ElementTree) → test (g e) ≡ true → AllByRecursion Q (f (g e))) → (es : List ElementTree) → AllByRecursion Q (flat_map f (filter test (map g es)))
all_picked Q g test f each [] = tt
all_picked Q g test f each (e ∷ es) =
    by_test (test (g e)) (λ t. test (g e) ≡ t → AllByRecursion Q (flat_map f (cond t (g e ∷ filter test (map g es)) (filter test (map g es)))))
    (λ is same. all_append Q (f (g e)) (flat_map f (filter test (map g es))) (each e is) (all_picked Q g test f each es)) (λ no same. all_picked Q g test f each es) refl

-- two tests, one after the other
both_tests : (test other : ElementTree → Bool) (es : List ElementTree) → ((e : ElementTree) → test e ≡ true → other e ≡ true) → filter test (filter other es) ≡ filter test es
both_tests test other [] implies = refl
both_tests test other (e ∷ es) implies =
    by_test (other e) (λ t. other e ≡ t → filter test (cond t (e ∷ filter other es) (filter other es)) ≡ filter test (e ∷ es))
    (λ is same. ap (λ fs. cond (test e) (e ∷ fs) fs) (both_tests test other es implies))
    (λ no same. both_tests test other es implies ∙ unless (test e) refl no) refl
  where
    unless : (t : Bool) → test e ≡ t → other e ≡ false → filter test es ≡ cond t (e ∷ filter test es) (filter test es)
    unless true is not = absurd (true≢false (sym (implies e is) ∙ not))
    unless false is not = refl

named_is_element : (name : List ℕ) (e : ElementTree) → is_named name e ≡ true → is_element e ≡ true
named_is_element name (element n p s a c) h = refl
named_is_element name (text bytes) h = absurd cc

children_again : (e : ElementTree) (ts : List ElementTree) → is_element e ≡ true → children_of (with_children e ts) ≡ ts
children_again (element n p s a c) ts h = list_of_trees ts
children_again (text bytes) ts h = absurd cc

-- ---- a property

own_by : (space : Option (List ℕ)) (prefix : Option (List ℕ)) → space ≡ Some own_space → space_by space prefix ≡ own_space
own_by None prefix e = absurd cc
own_by (Some s) prefix e = cc

own_space_of : (e : ElementTree) → namespace_of e ≡ Some own_space → space_of e ≡ own_space
own_space_of e h = own_by (namespace_of e) (prefix_of e) h

not_dav : (e : ElementTree) (name : List ℕ) → space_of e ≡ own_space → is_dav name e ≡ false
not_dav e name h = ap (λ s. bytes_eq (name_of e) name && bytes_eq s (codes "DAV:")) h ∙ never (bytes_eq (name_of e) name)
  where
    never : (b : Bool) → (b && false) ≡ false
    never true = refl
    never false = refl

not_windows : (e : ElementTree) → space_of e ≡ own_space → (bytes_eq (name_of e) windows_time && is_in (codes "urn:schemas-microsoft-com:") e) ≡ false
not_windows e h = ap (λ s. bytes_eq (name_of e) windows_time && bytes_eq s (codes "urn:schemas-microsoft-com:")) h ∙ never (bytes_eq (name_of e) windows_time)
  where
    never : (b : Bool) → (b && false) ≡ false
    never true = refl
    never false = refl

no_time : (e : ElementTree) → space_of e ≡ own_space → is_time e ≡ false
no_time e h =
    ap (λ b. b || (bytes_eq (name_of e) windows_time && is_in (codes "urn:schemas-microsoft-com:") e)) (not_dav e (codes "getlastmodified") h) ∙ not_windows e h

own_is : (e : ElementTree) → space_of e ≡ own_space → is_own e ≡ true
own_is e h = ap (λ s. bytes_eq s own_space) h

set_time : (moment : ℕ) (e : ElementTree) (o : Option ℕ) → is_time e ≡ true → IsKeptIfOwn moment (kept_if moment e o)
set_time moment e None is own = absurd (true≢false (sym is ∙ no_time e (own_space_of e own)))
set_time moment e (Some time) is own = (name_of e, time, refl)

set_other : (moment : ℕ) (e : ElementTree) (b : Bool) → is_own e ≡ b → IsKeptIfOwn moment (cond b (refused e) e)
set_other moment e true is own = absurd cc
set_other moment e false is own = absurd (true≢false (sym (own_is e (own_space_of e own)) ∙ is))

set_fine : (moment : ℕ) (e : ElementTree) → IsKeptIfOwn moment (set_as moment e)
set_fine moment e =
    by_test (is_time e) (λ t. is_time e ≡ t → IsKeptIfOwn moment (cond t (kept_if moment e (option_and_then parse_secs (text_of e))) (cond (is_own e) (refused e) e)))
    (λ is same. set_time moment e (option_and_then parse_secs (text_of e)) is) (λ no same. set_other moment e (is_own e) refl) refl

-- ---- what is set

all_set : (moment : ℕ) (es : List ElementTree) → AllByRecursion (IsKeptIfOwn moment) (filter is_element (map (set_as moment) es))
all_set moment [] = tt
all_set moment (e ∷ es) =
    by_test (is_element (set_as moment e)) (λ t. AllByRecursion (IsKeptIfOwn moment) (cond t (set_as moment e ∷ filter is_element (map (set_as moment) es)) (filter is_element (map (set_as moment) es))))
    (λ is. (set_fine moment e, all_set moment es)) (λ no. all_set moment es)

-- the properties of a `prop`
in_prop : (moment : ℕ) (e : ElementTree) → is_named (codes "prop") (each_named (codes "prop") (set_as moment) e) ≡ true
    → AllByRecursion (IsKeptIfOwn moment) (child_elements (each_named (codes "prop") (set_as moment) e))
in_prop moment e =
    by_test (is_named (codes "prop") e)
    (λ t. is_named (codes "prop") e ≡ t → is_named (codes "prop") (cond t (with_children e (map (set_as moment) (children_of e))) e) ≡ true
    → AllByRecursion (IsKeptIfOwn moment) (child_elements (cond t (with_children e (map (set_as moment) (children_of e))) e)))
    (λ is same named. subst (λ (ts : List ElementTree). AllByRecursion (IsKeptIfOwn moment) (filter is_element ts))
    (sym (children_again e (map (set_as moment) (children_of e)) (named_is_element (codes "prop") e is))) (all_set moment (children_of e)))
    (λ no same named. absurd (true≢false (sym named ∙ no))) refl

-- the properties of a `set`
in_set : (moment : ℕ) (es : List ElementTree)
    → AllByRecursion (IsKeptIfOwn moment) (flat_map child_elements (filter (is_named (codes "prop")) (filter is_element (map (each_named (codes "prop") (set_as moment)) es))))
in_set moment es =
    subst (λ (fs : List ElementTree). AllByRecursion (IsKeptIfOwn moment) (flat_map child_elements fs))
    (sym (both_tests (is_named (codes "prop")) is_element (map (each_named (codes "prop") (set_as moment)) es) (named_is_element (codes "prop"))))
    (all_picked (IsKeptIfOwn moment) (each_named (codes "prop") (set_as moment)) (is_named (codes "prop")) child_elements (in_prop moment) es)

abbrev IsFine : ℕ → Change → Type 0
IsFine moment c = c.is_set ≡ true → IsKeptIfOwn moment c.property

set_changes : (moment : ℕ) (e : ElementTree) → is_named (codes "set") e ≡ true
    → AllByRecursion (IsFine moment) (changes_to true (with_children e (map (each_named (codes "prop") (set_as moment)) (children_of e))))
set_changes moment e is =
    all_map (IsKeptIfOwn moment) (IsFine moment) (λ e. record { is_set = true; property = e }) (λ x fine set. fine) _
    (subst (λ (ts : List ElementTree). AllByRecursion (IsKeptIfOwn moment) (flat_map child_elements (filter (is_named (codes "prop")) (filter is_element ts))))
    (sym (children_again e (map (each_named (codes "prop") (set_as moment)) (children_of e)) (named_is_element (codes "set") e is))) (in_set moment (children_of e)))

all_removed : (moment : ℕ) (es : List ElementTree) → AllByRecursion (IsFine moment) (map (λ e. record { is_set = false; property = e }) es)
all_removed moment [] = tt
all_removed moment (e ∷ es) = ((λ set. absurd cc), all_removed moment es)

other_changes : (moment : ℕ) (e : ElementTree) → bytes_eq (name_of e) (codes "set") ≡ false → AllByRecursion (IsFine moment) (changes_by e)
other_changes moment e none =
    subst (λ (b : Bool). AllByRecursion (IsFine moment) (cond b (changes_to true e) (cond (bytes_eq (name_of e) (codes "remove")) (changes_to false e) []))) (sym none)
    (by_test (bytes_eq (name_of e) (codes "remove")) (λ t. AllByRecursion (IsFine moment) (cond t (changes_to false e) [])) (λ is. all_removed moment _) (λ other. tt))

named_by_name : (name : List ℕ) (e : ElementTree) → is_element e ≡ true → is_named name e ≡ bytes_eq (name_of e) name
named_by_name name (element n p s a c) h = refl
named_by_name name (text bytes) h = absurd cc

name_stays : (e : ElementTree) (ts : List ElementTree) → name_of (with_children e ts) ≡ name_of e
name_stays (element n p s a c) ts = refl
name_stays (text bytes) ts = refl

in_update : (moment : ℕ) (e : ElementTree) → is_element (each_named (codes "set") (each_named (codes "prop") (set_as moment)) e) ≡ true
    → AllByRecursion (IsFine moment) (changes_by (each_named (codes "set") (each_named (codes "prop") (set_as moment)) e))
in_update moment e =
    by_test (is_named (codes "set") e)
    (λ t. is_named (codes "set") e ≡ t → is_element (cond t (with_children e (map (each_named (codes "prop") (set_as moment)) (children_of e))) e) ≡ true
    → AllByRecursion (IsFine moment) (changes_by (cond t (with_children e (map (each_named (codes "prop") (set_as moment)) (children_of e))) e)))
    (λ is same some.
    let changed = with_children e (map (each_named (codes "prop") (set_as moment)) (children_of e)) in
    let name : bytes_eq (name_of changed) (codes "set") ≡ true =
    ap (λ n. bytes_eq n (codes "set")) (name_stays e (map (each_named (codes "prop") (set_as moment)) (children_of e))) ∙ sym (named_by_name (codes "set") e (named_is_element (codes "set") e is)) ∙ is in
    subst (λ (b : Bool). AllByRecursion (IsFine moment) (cond b (changes_to true changed) (cond (bytes_eq (name_of changed) (codes "remove")) (changes_to false changed) []))) (sym name) (set_changes moment e is))
    (λ no same some. other_changes moment e (sym (named_by_name (codes "set") e some) ∙ no)) refl

updated : (moment : ℕ) (es : List ElementTree) → AllByRecursion (IsFine moment) (flat_map changes_by (filter is_element (map (each_named (codes "set") (each_named (codes "prop") (set_as moment))) es)))
updated moment es = all_picked (IsFine moment) (each_named (codes "set") (each_named (codes "prop") (set_as moment))) is_element changes_by (in_update moment) es

given : (moment : ℕ) (b : Bool) (made changes : List Change) → AllByRecursion (IsFine moment) made → cond {A = Option (List Change)} b (Some made) None ≡ Some changes → AllByRecursion (IsFine moment) changes
given moment true made changes all e = let same : made ≡ changes = cc in subst (AllByRecursion (IsFine moment)) same all
given moment false made changes all e = absurd cc

of_tree : (moment : ℕ) (tree : ElementTree) → AllByRecursion (IsFine moment) (flat_map changes_by (child_elements (patch_as moment tree)))
of_tree moment (element n p s a c) =
    subst (λ (ts : List ElementTree). AllByRecursion (IsFine moment) (flat_map changes_by (filter is_element ts)))
    (sym (list_of_trees (map (each_named (codes "set") (each_named (codes "prop") (set_as moment))) (tree_list c)))) (updated moment (tree_list c))
of_tree moment (text bytes) = tt

pub no_time_is_forged : NoTimeIsForged
no_time_is_forged moment tree changes e =
    given moment (bytes_eq (name_of (patch_as moment tree)) (codes "propertyupdate")) (flat_map changes_by (child_elements (patch_as moment tree))) changes (of_tree moment tree) e
