-- Paths, what faults name and withhold, and what a removal leaves at a path.
use Rattle.std.proofs.Common.{◌≡◌, ℕ, Bool, true, false, cond, if◌then◌else◌, not, ◌&&◌, ◌||◌, T, List, [], ◌∷◌, ◌++◌, Option, Some, None, All, Contains, ◌⊎◌, inl, inr, refl, sym, ap, ◌∙◌, append_assoc, append-nil}
use Rattle.std.specs.List.{list_any}
use Rattle.std.specs.Option.{is_some}
use Rattle.std.specs.declared.cmp.Ordering.{Ordering}
use Rattle.std.specs.declared.cmp.Ordering.TheVariants.{Less, Equal, Greater}
use Rattle.std.specs.Ordering.{is_eq, is_lt}
use Rattle.std.specs.FinMap.Entries.{below_all}
use Rattle.std.proofs.lemmas.List.Elements.{All-head, All-tail}
use Rattle.std.proofs.lemmas.List.Folds.{list_any-append, list_any-from_Any}
use Rattle.dav_core.specs.Path.{Path, names, name_cmp, is_same_path, rest_after, has_names, is_at_or_under, is_under, parent_of}
use Rattle.dav_core.specs.World.{Node}
use Rattle.dav_core.proofs.Theorems.{name-itself, rest_after-append, from_rest, parent-append, path-itself, left_true, right_true}
use Rattle.dav_engine.specs.Removal.{Fault, Stays, StaysWhole, StaysWith, fault_path, is_named_by, is_withheld_by, survives}
use Rattle.dav_engine.specs.RemovalLaws.{is_fault_path, is_withheld}

pub one_holds : (a b : Bool) → (a || b) ≡ true → (a ≡ true) ⊎ (b ≡ true)
one_holds true b h = inl refl
one_holds false b h = inr h

pub first_holds : (a b : Bool) → a ≡ true → (a || b) ≡ true
first_holds true b h = refl
first_holds false b h = cc

pub second_holds : (a b : Bool) → b ≡ true → (a || b) ≡ true
second_holds true b h = refl
second_holds false b h = h

-- ---- what is left

-- what is left at a path: nothing, where it is in the zone and doesn't survive
abbrev pub left : Bool → Bool → Option Node → Option Node
left zone stays o = if zone && not stays then None else o

pub left_gone : (z : Bool) (o : Option Node) → cond z None o ≡ left z false o
left_gone true o = refl
left_gone false o = refl

pub left_kept : (z s : Bool) (o : Option Node) → (z ≡ true → s ≡ false → o ≡ None) → o ≡ left z s o
left_kept true true o none = refl
left_kept true false o none = none refl refl
left_kept false s o none = refl

pub left_wider : (c z s : Bool) (o : Option Node) → (c ≡ true → z ≡ true) → (z ≡ true → c ≡ false → s ≡ false → o ≡ None) → left c s o ≡ left z s o
left_wider true true s o inside none = refl
left_wider true false s o inside none = let h : false ≡ true = inside refl in cc
left_wider false true true o inside none = refl
left_wider false true false o inside none = none refl refl refl
left_wider false false s o inside none = refl

pub left_emptied : (c z s : Bool) (o : Option Node) → (c ≡ true → z ≡ true) → cond z None (left c s o) ≡ left z false o
left_emptied c true s o inside = refl
left_emptied true false s o inside = let h : false ≡ true = inside refl in cc
left_emptied false false s o inside = refl

pub left_only : (c z s : Bool) (o : Option Node) → (c ≡ true → z ≡ true) → (c ≡ true → s ≡ false) → (z ≡ true → c ≡ false → s ≡ false → o ≡ None) → left c false o ≡ left z s o
left_only true true true o inside out none = let h : true ≡ false = out refl in cc
left_only true true false o inside out none = refl
left_only true false s o inside out none = let h : false ≡ true = inside refl in cc
left_only false true true o inside out none = refl
left_only false true false o inside out none = none refl refl refl
left_only false false s o inside out none = refl

pub left_joined : (z c s t : Bool) (o : Option Node) → (z ≡ true → c ≡ true → ⊥) → (z ≡ true → t ≡ true → ⊥) → (c ≡ true → s ≡ true → ⊥)
    → left c t (left z s o) ≡ left (z || c) (s || t) o
left_joined true true s t o apart a b = absurd (apart refl refl)
left_joined true false s true o apart a b = absurd (a refl refl)
left_joined true false true false o apart a b = refl
left_joined true false false false o apart a b = refl
left_joined false true true t o apart a b = absurd (b refl refl)
left_joined false true false t o apart a b = refl
left_joined false false s t o apart a b = refl

-- ---- paths

rest_by : (p q : Path) (o : Option Path) → rest_after p q ≡ o → is_some o ≡ true → (r : Path) × (q ≡ p ++ r)
rest_by p q None is h = cc
rest_by p q (Some r) is h = (r, from_rest p q r is)

-- what is at a path or below it has that path in front
pub rest : (p q : Path) → is_at_or_under q p ≡ true → (r : Path) × (q ≡ p ++ r)
rest p q h = rest_by p q (rest_after p q) refl h

pub at_path : (p q r : Path) → q ≡ p ++ r → is_at_or_under q p ≡ true
at_path p q r e = ap (λ z. is_at_or_under z p) e ∙ ap is_some (rest_after-append p r)

pub below_trans : (a b c : Path) → is_at_or_under b a ≡ true → is_at_or_under c b ≡ true → is_at_or_under c a ≡ true
below_trans a b c h k =
    let (r, e) = rest a b h in
    let (s, e') = rest b c k in
    at_path a c (r ++ s) (e' ∙ ap (λ (x : Path). x ++ s) e ∙ append_assoc a r s)

below_cons : (x y : List ℕ) (q r : Path) → x ≡ y → is_at_or_under r q ≡ true → is_at_or_under (y ∷ r) (x ∷ q) ≡ true
below_cons x y q r e h = ap (λ b. is_some (cond b (rest_after q r) None)) (ap (λ (z : List ℕ). is_eq (name_cmp x z)) (sym e) ∙ name-itself x) ∙ h

fronts_meet : (q r a b : Path) → q ++ a ≡ r ++ b → (is_at_or_under r q ≡ true) ⊎ (is_at_or_under q r ≡ true)
fronts_meet [] r a b e = inl refl
fronts_meet (x ∷ q) [] a b e = inr refl
fronts_meet (x ∷ q) (y ∷ r) a b e =
    let same : x ≡ y = cc in
    let more : q ++ a ≡ r ++ b = cc in
    elim (fronts_meet q r a b more) as (λ _. (is_at_or_under (y ∷ r) (x ∷ q) ≡ true) ⊎ (is_at_or_under (x ∷ q) (y ∷ r) ≡ true)) [
      | inl h ↦ inl (below_cons x y q r same h)
      | inr h ↦ inr (below_cons y x r q (sym same) h)
    ]

-- of two paths above one, or at it, one is above the other, or at it
pub one_line : (q r s : Path) → is_at_or_under s q ≡ true → is_at_or_under s r ≡ true → (is_at_or_under r q ≡ true) ⊎ (is_at_or_under q r ≡ true)
one_line q r s h k = let (a, e) = rest q s h in let (b, e') = rest r s k in fronts_meet q r a b (sym e ∙ e')

-- a member isn't above its folder
pub not_above : (p : Path) (n : List ℕ) (r : Path) → is_at_or_under p (p ++ n ∷ r) ≡ false
not_above [] n r = refl
not_above (x ∷ p) n r = ap (λ b. is_some (cond b (rest_after (p ++ n ∷ r) p) None)) (name-itself x) ∙ not_above p n r

pub member_not_above : (p : Path) (n : List ℕ) (q : Path) → is_at_or_under q (p ++ n ∷ []) ≡ true → is_at_or_under p q ≡ true → ⊥
member_not_above p n q h k = let one : is_at_or_under p (p ++ n ∷ []) ≡ true = below_trans (p ++ n ∷ []) q p h k in let other = not_above p n [] in cc

pub member_below : (p : Path) (n : List ℕ) (q : Path) → is_at_or_under q (p ++ n ∷ []) ≡ true → is_at_or_under q p ≡ true
member_below p n q h = below_trans p (p ++ n ∷ []) q (at_path p (p ++ n ∷ []) (n ∷ []) refl) h

up_by : (q p : Path) (n : List ℕ) (a : Path) → q ++ a ≡ p ++ n ∷ [] → (is_at_or_under p q ≡ true) ⊎ (is_at_or_under q (p ++ n ∷ []) ≡ true)
up_by [] p n a e = inl refl
up_by (x ∷ q) [] n a e = let same : n ≡ x = cc in inr (below_cons n x [] q same refl)
up_by (x ∷ q) (y ∷ p) n a e =
    let same : x ≡ y = cc in
    let more : q ++ a ≡ p ++ n ∷ [] = cc in
    elim (up_by q p n a more) as (λ _. (is_at_or_under (y ∷ p) (x ∷ q) ≡ true) ⊎ (is_at_or_under (x ∷ q) (y ∷ (p ++ n ∷ [])) ≡ true)) [
      | inl h ↦ inl (below_cons x y q p same h)
      | inr h ↦ inr (below_cons y x (p ++ n ∷ []) q (sym same) h)
    ]

-- what is at a member or above it is at the folder or above it, or is the member
pub up_or_member : (q p : Path) (n : List ℕ) → is_at_or_under (p ++ n ∷ []) q ≡ true → (is_at_or_under p q ≡ true) ⊎ (is_at_or_under q (p ++ n ∷ []) ≡ true)
up_or_member q p n h = let (a, e) = rest q (p ++ n ∷ []) h in up_by q p n a (sym e)

one_name : (p : Path) (n m : List ℕ) (r s : Path) → p ++ n ∷ r ≡ p ++ m ∷ s → n ≡ m
one_name [] n m r s e = cc
one_name (x ∷ p) n m r s e = let more : p ++ n ∷ r ≡ p ++ m ∷ s = cc in one_name p n m r s more

-- a path is below one member alone
pub same_member : (p : Path) (n m : List ℕ) (q : Path) → is_at_or_under q (p ++ n ∷ []) ≡ true → is_at_or_under q (p ++ m ∷ []) ≡ true → n ≡ m
same_member p n m q h k =
    let (r, e) = rest (p ++ n ∷ []) q h in
    let (s, e') = rest (p ++ m ∷ []) q k in
    one_name p n m r s (sym (append_assoc p (n ∷ []) r) ∙ sym e ∙ e' ∙ append_assoc p (m ∷ []) s)

has_by : (o : Option Path) → has_names o ≡ true → is_some o ≡ true
has_by None h = cc
has_by (Some r) h = refl

pub strictly : (p q : Path) → is_under q p ≡ true → is_at_or_under q p ≡ true
strictly p q h = has_by (rest_after p q) h

below_or_by : (p q : Path) (o : Option Path) → rest_after p q ≡ o → is_some o ≡ true → (is_at_or_under p q ≡ true) ⊎ (has_names o ≡ true)
below_or_by p q None is h = cc
below_or_by p q (Some []) is h = inl (ap (λ (x : Path). is_at_or_under p x) (from_rest p q [] is ∙ append-nil p) ∙ at_path p p [] (sym (append-nil p)))
below_or_by p q (Some (x ∷ r)) is h = inr refl

-- what is at a path or below it is at it or above it, or strictly below it
pub below_or : (p q : Path) → is_at_or_under q p ≡ true → (is_at_or_under p q ≡ true) ⊎ (is_under q p ≡ true)
below_or p q h = below_or_by p q (rest_after p q) refl h

-- ---- entries of a folder

-- a path at one of the entries of a folder, or below it
abbrev pub covers : Path → List (List ℕ × Bool) → Path → Bool
covers p entries q = list_any (λ e. is_at_or_under q (p ++ e.0 ∷ [])) entries

pub covers_below : (p : Path) (entries : List (List ℕ × Bool)) (q : Path) → covers p entries q ≡ true → is_at_or_under q p ≡ true
covers_below p [] q h = cc
covers_below p (e ∷ es) q h = elim (one_holds (is_at_or_under q (p ++ e.0 ∷ [])) (covers p es q) h) [
  | inl one ↦ member_below p e.0 q one
  | inr more ↦ covers_below p es q more
]

pub covers_not_above : (p : Path) (entries : List (List ℕ × Bool)) (q : Path) → covers p entries q ≡ true → is_at_or_under p q ≡ true → ⊥
covers_not_above p [] q h up = cc
covers_not_above p (e ∷ es) q h up = elim (one_holds (is_at_or_under q (p ++ e.0 ∷ [])) (covers p es q) h) [
  | inl one ↦ member_not_above p e.0 q one up
  | inr more ↦ covers_not_above p es q more up
]

pub covers_entry : (p : Path) (entries : List (List ℕ × Bool)) (e : List ℕ × Bool) (q : Path) → Contains entries e → is_at_or_under q (p ++ e.0 ∷ []) ≡ true → covers p entries q ≡ true
covers_entry p entries e q (k, lt, is) h = list_any-from_Any (λ x. is_at_or_under q (p ++ x.0 ∷ [])) entries (k, e, lt, is, h)

not_less : (o : Ordering) → is_eq o ≡ true → T (is_lt o) → ⊥
not_less Less h less = cc
not_less Equal h less = less
not_less Greater h less = less

-- a path below an entry is below none of those behind it
pub entries_apart : (p : Path) (n : List ℕ) (entries : List (List ℕ × Bool)) (q : Path)
    → T (below_all name_cmp n entries) → is_at_or_under q (p ++ n ∷ []) ≡ true → covers p entries q ≡ true → ⊥
entries_apart p n [] q rise h c = cc
entries_apart p n (e ∷ es) q rise h c = elim (one_holds (is_at_or_under q (p ++ e.0 ∷ [])) (covers p es q) c) [
  | inl one ↦
      let same : n ≡ e.0 = same_member p n e.0 q h one in
      not_less (name_cmp n e.0) (ap (λ (x : List ℕ). is_eq (name_cmp n x)) (sym same) ∙ name-itself n) (left_true (is_lt (name_cmp n e.0)) (below_all name_cmp n es) rise)
  | inr more ↦ entries_apart p n es q (right_true (is_lt (name_cmp n e.0)) (below_all name_cmp n es) rise) h more
]

-- ---- faults

pub survives_both : (xs ys : List Fault) (q : Path) → survives (xs ++ ys) q ≡ (survives xs q || survives ys q)
survives_both xs ys q = list_any-append (λ f. is_named_by q f || is_withheld_by q f) xs ys

-- what a fault withholds is below the path that it names
pub withheld_below : (f : Fault) (q : Path) → is_withheld_by q f ≡ true → is_at_or_under q (names (fault_path f)) ≡ true
withheld_below (Stays p status) q h = cc
withheld_below (StaysWhole p status) q h = strictly (names p) q h
withheld_below (StaysWith p name status) q h = member_below (names p) name q h

-- every fault names this path, or one below it
abbrev pub AreBelow : Path → List Fault → Type 0
AreBelow r = All (λ f. is_at_or_under (names (fault_path f)) r ≡ true)

near_one : (r : Path) (f : Fault) (q : Path) → is_at_or_under (names (fault_path f)) r ≡ true → (is_named_by q f || is_withheld_by q f) ≡ true
    → (is_at_or_under r q ≡ true) ⊎ (is_at_or_under q r ≡ true)
near_one r f q below h = elim (one_holds (is_named_by q f) (is_withheld_by q f) h) [
  | inl named ↦ one_line q r (names (fault_path f)) named below
  | inr withheld ↦ inr (below_trans r (names (fault_path f)) q below (withheld_below f q withheld))
]

-- what survives by faults below a path is at it, above it or below it
pub near_to : (r : Path) (faults : List Fault) (q : Path) → AreBelow r faults → survives faults q ≡ true → (is_at_or_under r q ≡ true) ⊎ (is_at_or_under q r ≡ true)
near_to r [] q below h = cc
near_to r (f ∷ fs) q below h = elim (one_holds (is_named_by q f || is_withheld_by q f) (survives fs q) h) [
  | inl one ↦ near_one r f q (All-head (λ x. is_at_or_under (names (fault_path x)) r ≡ true) f fs below) one
  | inr more ↦ near_to r fs q (All-tail (λ x. is_at_or_under (names (fault_path x)) r ≡ true) f fs below) more
]

-- what is at a path or above it survives by a fault below the path
pub survives_up : (r : Path) (f : Fault) (fs : List Fault) (q : Path) → AreBelow r (f ∷ fs) → is_at_or_under r q ≡ true → survives (f ∷ fs) q ≡ true
survives_up r f fs q below up =
    let named : is_named_by q f ≡ true = below_trans q r (names (fault_path f)) up (All-head (λ x. is_at_or_under (names (fault_path x)) r ≡ true) f fs below) in
    first_holds (is_named_by q f || is_withheld_by q f) (survives fs q) (first_holds (is_named_by q f) (is_withheld_by q f) named)

-- ---- the parent of what is withheld

parent_at : (p : Path) (n : List ℕ) → is_same_path (parent_of (p ++ n ∷ [])) p ≡ true
parent_at p n = ap (λ (x : Path). is_same_path x p) (parent-append p n [] ∙ append-nil p) ∙ path-itself p

-- at a path, or with its parent at it
abbrev IsUnder : Path → Bool → Path → Type 0
IsUnder p withheld q = (is_same_path (parent_of q) p || withheld) ≡ true

whole_by : (p q r : Path) (n : List ℕ) → q ≡ p ++ n ∷ r → IsUnder p (is_under (parent_of q) p) q
whole_by p q [] n e = first_holds (is_same_path (parent_of q) p) (is_under (parent_of q) p) (ap (λ (x : Path). is_same_path (parent_of x) p) e ∙ parent_at p n)
whole_by p q (m ∷ r) n e =
    let up : parent_of q ≡ p ++ n ∷ parent_of (m ∷ r) = ap parent_of e ∙ parent-append p n (m ∷ r) in
    second_holds (is_same_path (parent_of q) p) (is_under (parent_of q) p) (ap (λ z. is_under z p) up ∙ ap has_names (rest_after-append p (n ∷ parent_of (m ∷ r))))

with_by : (p q r : Path) (n : List ℕ) → q ≡ (p ++ n ∷ []) ++ r → IsUnder p (is_at_or_under (parent_of q) (p ++ n ∷ [])) q
with_by p q [] n e =
    first_holds (is_same_path (parent_of q) p) (is_at_or_under (parent_of q) (p ++ n ∷ []))
    (ap (λ (x : Path). is_same_path (parent_of x) p) (e ∙ append-nil (p ++ n ∷ [])) ∙ parent_at p n)
with_by p q (m ∷ r) n e =
    second_holds (is_same_path (parent_of q) p) (is_at_or_under (parent_of q) (p ++ n ∷ []))
    (at_path (p ++ n ∷ []) (parent_of q) (parent_of (m ∷ r)) (ap parent_of e ∙ parent-append (p ++ n ∷ []) m r))

strict_by : (p q : Path) (o : Option Path) → rest_after p q ≡ o → has_names o ≡ true → IsUnder p (is_under (parent_of q) p) q
strict_by p q None is h = cc
strict_by p q (Some []) is h = cc
strict_by p q (Some (n ∷ r)) is h = whole_by p q r n (from_rest p q (n ∷ r) is)

parent_one : (f : Fault) (q : Path) → is_withheld_by q f ≡ true → IsUnder (names (fault_path f)) (is_withheld_by (parent_of q) f) q
parent_one (Stays p status) q h = cc
parent_one (StaysWhole p status) q h = strict_by (names p) q (rest_after (names p) q) refl h
parent_one (StaysWith p name status) q h = let (r, e) = rest (names p ++ name ∷ []) q h in with_by (names p) q r name e

-- each of two pairs with one
either : (a b c d : Bool) → (a || b) ≡ true → ((a || c) || (b || d)) ≡ true
either true b c d h = refl
either false true c d h = second_holds c true refl
either false false c d h = cc

or_more : (a b c d : Bool) → (c || d) ≡ true → ((a || c) || (b || d)) ≡ true
or_more a b true d h = first_holds (a || true) (b || d) (second_holds a true refl)
or_more a b false true h = second_holds (a || false) (b || true) (second_holds b true refl)
or_more a b false false h = cc

-- the parent of what is withheld is named or withheld too
pub parents : (faults : List Fault) (q : Path) → is_withheld faults q ≡ true → (is_fault_path faults (parent_of q) || is_withheld faults (parent_of q)) ≡ true
parents [] q h = cc
parents (f ∷ fs) q h = elim (one_holds (is_withheld_by q f) (is_withheld fs q) h) [
  | inl one ↦ either (is_same_path (parent_of q) (names (fault_path f))) (is_withheld_by (parent_of q) f) (is_fault_path fs (parent_of q)) (is_withheld fs (parent_of q)) (parent_one f q one)
  | inr more ↦ or_more (is_same_path (parent_of q) (names (fault_path f))) (is_withheld_by (parent_of q) f) (is_fault_path fs (parent_of q)) (is_withheld fs (parent_of q)) (parents fs q more)
]
