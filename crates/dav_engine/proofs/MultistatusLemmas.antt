-- How trees are built, one child after another.
use Rattle.std.proofs.Common.{◌≡◌, ℕ, ◌+◌, ◌-◌, ◌<◌, arith, List, [], ◌∷◌, ◌++◌, map, take, length, get_or, suc, codes, Some, None, refl, ap, sym, ◌∙◌, append_assoc}
use Rattle.dav_core.specs.Locks.{Lock}
use Rattle.dav_core.specs.Element.{ElementTree, element, text, tree_list, trees, with_child, with_children}
use Rattle.std.specs.List.{last_or, slice_get}
use Rattle.dav_core.specs.declared.errors.DavError.TheVariants.{Status}
use Rattle.dav_headers.proofs.Theorems.{take_turn}
use Rattle.dav_engine.specs.LockTree.{active_lock, lock_discovery}
use Rattle.dav_core.specs.Path.{PathText}
use Rattle.dav_engine.specs.Multistatus.{PathStatus, error_of, last_error, href, response_for, multistatus}
use Rattle.dav_engine.specs.Properties.{Group, propstat, property_response}

pub list_of_trees : (ts : List ElementTree) → tree_list (trees ts) ≡ ts
list_of_trees [] = refl
list_of_trees (t ∷ ts) = ap (λ us. t ∷ us) (list_of_trees ts)

pub one_mapped : {X Y : Type 0} (f : X → Y) (xs : List X) (x : X) → map f xs ++ f x ∷ [] ≡ map f (xs ++ x ∷ [])
one_mapped f [] x = refl
one_mapped f (y ∷ xs) x = ap (λ ys. f y ∷ ys) (one_mapped f xs x)

-- the turn of a loop that tells of each item, after what was told before it: of one item a pair is told
pub told_turn : {X Y Z : Type 0} (f : X → Y) (g : X → Z) (before : List (Y × Z)) (items : List X) (i : ℕ) (item : X) (told after : List (Y × Z)) (y : Y) (z : Z)
    → i < length items → item ≡ get_or items i item → told ≡ before ++ map (λ x. (f x, g x)) (take i items) → y ≡ f item → z ≡ g item → after ≡ told ++ (y, z) ∷ []
    → after ≡ before ++ map (λ x. (f x, g x)) (take (i + 1) items)
told_turn {X} {Y} {Z} f g before items i item told after y z lt is so_far first second added =
    let both : X → Y × Z = λ x. (f x, g x) in
    added ∙ ap (λ ys. ys ++ (y, z) ∷ []) so_far ∙ append_assoc before (map both (take i items)) ((y, z) ∷ [])
    ∙ ap (λ a. before ++ (map both (take i items) ++ (a, z) ∷ [])) first
    ∙ ap (λ b. before ++ (map both (take i items) ++ (f item, b) ∷ [])) second
    ∙ ap (λ ys. before ++ ys) (one_mapped both (take i items) item)
    ∙ ap (λ xs. before ++ map both xs) (sym (take_turn items i item lt is))

-- an element with a child for each item
with_each : List ℕ → List (List ℕ × List ℕ) → List ElementTree → ElementTree
with_each name attributes ts = element name (Some (codes "D")) None attributes (trees ts)

-- one child more
child_added : (name : List ℕ) (attributes : List (List ℕ × List ℕ)) (ts : List ElementTree) (t : ElementTree)
    → with_child (with_each name attributes ts) t ≡ with_each name attributes (ts ++ t ∷ [])
unfolding with_each
child_added name attributes ts t = ap (λ us. element name (Some (codes "D")) None attributes (trees (us ++ t ∷ []))) (list_of_trees ts)

-- the turn of a loop that adds a child for each item
child_turn : {X : Type 0} (f : X → ElementTree) (name : List ℕ) (attributes : List (List ℕ × List ℕ))
    (items : List X) (i : ℕ) (item : X) (old new child : ElementTree) → i < length items → item ≡ get_or items i item
    → old ≡ with_each name attributes (map f (take i items)) → child ≡ f item → new ≡ with_child old child
    → new ≡ with_each name attributes (map f (take (i + 1) items))
child_turn f name attributes items i item old new child lt is so_far one added =
    added ∙ ap (λ e. with_child e child) so_far ∙ child_added name attributes (map f (take i items)) child
    ∙ ap (λ t. with_each name attributes (map f (take i items) ++ t ∷ [])) one
    ∙ ap (with_each name attributes) (one_mapped f (take i items) item)
    ∙ ap (λ l. with_each name attributes (map f l)) (sym (take_turn items i item lt is))

-- the turn of the loop over the items of a multistatus
pub response_turn : (items : List PathStatus) (i : ℕ) (item : PathStatus) (old new response : ElementTree) → i < length items → item ≡ get_or items i item
    → old ≡ multistatus (map response_for (take i items)) → response ≡ response_for item → new ≡ with_child old response
    → new ≡ multistatus (map response_for (take (i + 1) items))
unfolding with_each
response_turn items i item old new response lt is so_far one added =
    child_turn response_for (codes "multistatus") ((codes "xmlns:D", codes "DAV:") ∷ []) items i item old new response lt is so_far one added

-- the turn of the loop over locks
pub lock_turn : (ls : List Lock) (i : ℕ) (l : Lock) (old new child : ElementTree) → i < length ls → l ≡ get_or ls i l
    → old ≡ lock_discovery (take i ls) → child ≡ active_lock l → new ≡ with_child old child → new ≡ lock_discovery (take (i + 1) ls)
unfolding with_each
lock_turn ls i l old new child lt is so_far one added = child_turn active_lock (codes "lockdiscovery") [] ls i l old new child lt is so_far one added

-- a child more in an element, whatever its name is
pub child_more : (e : ElementTree) (ts : List ElementTree) (t : ElementTree) {old new : ElementTree} → old ≡ with_children e ts → new ≡ with_child old t → new ≡ with_children e (ts ++ t ∷ [])
child_more (element name prefix namespace attributes children) ts t so_far added =
    added ∙ ap (λ o. with_child o t) so_far ∙ ap (λ us. element name prefix namespace attributes (trees (us ++ t ∷ []))) (list_of_trees ts)
child_more (text bytes) ts t so_far added = added ∙ ap (λ o. with_child o t) so_far

-- the turn of the loop over the properties under their statuses
pub group_turn : (p : PathText) (gs : List Group) (g : Group) (old new child : ElementTree) → old ≡ property_response p gs → child ≡ propstat g → new ≡ with_child old child
    → new ≡ property_response p (gs ++ g ∷ [])
unfolding with_each
group_turn p gs g old new child so_far one added =
    added ∙ ap (λ e. with_child e child) so_far ∙ child_added (codes "response") [] (href p ∷ map propstat gs) child
    ∙ ap (λ t. with_each (codes "response") [] (href p ∷ map propstat gs ++ t ∷ [])) one
    ∙ ap (λ ts. with_each (codes "response") [] (href p ∷ ts)) (one_mapped propstat gs g)

-- ---- the last of the items

last_after : {X : Type 0} (x : X) (xs : List X) → last_or (Some x) xs ≡ slice_get (x ∷ xs) (length xs)
last_after x [] = refl
last_after x (y ∷ ys) = last_after y ys

one_less : (n : ℕ) → n ≡ suc n - 1
one_less n = omega arith

last_is : {X : Type 0} (xs : List X) → last_or None xs ≡ slice_get xs (length xs - 1)
last_is [] = refl
last_is (x ∷ xs) = last_after x xs ∙ ap (slice_get (x ∷ xs)) (one_less (length xs))

pub last_status : (items : List PathStatus) (item : PathStatus) → Some item ≡ slice_get items (length items - 1) → Status item.1 ≡ last_error items
last_status items item is = ap error_of (is ∙ sym (last_is items))
