-- What holds of each element of a list.
use Rattle.std.proofs.Common.{◌≡◌, Bool, true, false, cond, List, [], ◌∷◌, ◌++◌, map, Option, Some, None, refl, subst}
use Rattle.std.specs.List.{AllByRecursion, filter, filter_map, flat_map, cons_option, last_or, find as first}
use Rattle.std.specs.FinMap.Entries.{by_order}
use Rattle.std.specs.FinMap.{find, put}
use Rattle.std.specs.Ordering.{eq_by_cmp}
use Rattle.std.specs.declared.cmp.Ordering.{Ordering}
use Rattle.std.specs.declared.cmp.Ordering.TheVariants.{Less, Equal, Greater}
use Rattle.dav_core.specs.Lists.{without_first, change_first}

-- a claim is proved by a claim on the same option or value
pub test_of : (t : Bool) (Q : Bool → Type 0) → (t ≡ true → Q true) → (t ≡ false → Q false) → Q t
test_of true Q p q = p refl
test_of false Q p q = q refl

module _ {X : Type 0} (P : X → Type 0) where
  pub each_append : (xs ys : List X) → AllByRecursion P xs → AllByRecursion P ys → AllByRecursion P (xs ++ ys)
  each_append [] ys h k = k
  each_append (x ∷ xs) ys h k = (h.0, each_append xs ys h.1 k)

  each_cond : (b : Bool) (xs ys : List X) → AllByRecursion P xs → AllByRecursion P ys → AllByRecursion P (cond b xs ys)
  each_cond true xs ys h k = h
  each_cond false xs ys h k = k

  pub each_filter : (test : X → Bool) (xs : List X) → AllByRecursion P xs → AllByRecursion P (filter test xs)
  each_filter test [] h = tt
  each_filter test (x ∷ xs) h = each_cond (test x) (x ∷ filter test xs) (filter test xs) (h.0, each_filter test xs h.1) (each_filter test xs h.1)

  pub each_without_first : (test : X → Bool) (xs : List X) → AllByRecursion P xs → AllByRecursion P (without_first test xs)
  each_without_first test [] h = tt
  each_without_first test (x ∷ xs) h = each_cond (test x) xs (x ∷ without_first test xs) h.1 (h.0, each_without_first test xs h.1)

  pub each_change_first : (test : X → Bool) (f : X → X) → ((x : X) → P x → P (f x)) → (xs : List X) → AllByRecursion P xs → AllByRecursion P (change_first test f xs)
  each_change_first test f keeps [] h = tt
  each_change_first test f keeps (x ∷ xs) h = each_cond (test x) (f x ∷ xs) (x ∷ change_first test f xs) (keeps x h.0, h.1) (h.0, each_change_first test f keeps xs h.1)

  pub each_last : (o : Option X) (xs : List X) → ((x : X) → o ≡ Some x → P x) → AllByRecursion P xs → (x : X) → last_or o xs ≡ Some x → P x
  each_last o [] before h x e = before x e
  each_last o (y ∷ xs) before h x e = each_last (Some y) xs (λ z is. let same : y ≡ z = cc in subst P same h.0) h.1 x e

  found_if : (b : Bool) (x y : X) (o : Option X) → P x → ((z : X) → o ≡ Some z → P z) → cond b (Some x) o ≡ Some y → P y
  found_if true x y o h more e = let same : x ≡ y = cc in subst P same h
  found_if false x y o h more e = more y e

  pub each_first : (test : X → Bool) (xs : List X) → AllByRecursion P xs → (x : X) → first test xs ≡ Some x → P x
  each_first test [] h x e = absurd cc
  each_first test (y ∷ xs) h x e = found_if (test y) y x (first test xs) h.0 (λ z is. each_first test xs h.1 z is) e

pub each_weaker : {X : Type 0} (P Q : X → Type 0) → ((x : X) → P x → Q x) → (xs : List X) → AllByRecursion P xs → AllByRecursion Q xs
each_weaker P Q weak [] h = tt
each_weaker P Q weak (x ∷ xs) h = (weak x h.0, each_weaker P Q weak xs h.1)

pub each_map : {X Y : Type 0} (P : X → Type 0) (Q : Y → Type 0) (f : X → Y) → ((x : X) → P x → Q (f x)) → (xs : List X) → AllByRecursion P xs → AllByRecursion Q (map f xs)
each_map P Q f maps [] h = tt
each_map P Q f maps (x ∷ xs) h = (maps x h.0, each_map P Q f maps xs h.1)

pub each_flat_map : {X Y : Type 0} (P : X → Type 0) (Q : Y → Type 0) (f : X → List Y) → ((x : X) → P x → AllByRecursion Q (f x)) → (xs : List X) → AllByRecursion P xs → AllByRecursion Q (flat_map f xs)
each_flat_map P Q f maps [] h = tt
each_flat_map P Q f maps (x ∷ xs) h = each_append Q (f x) (flat_map f xs) (maps x h.0) (each_flat_map P Q f maps xs h.1)

each_option : {Y : Type 0} (Q : Y → Type 0) (o : Option Y) (ys : List Y) → ((y : Y) → o ≡ Some y → Q y) → AllByRecursion Q ys → AllByRecursion Q (cons_option o ys)
each_option Q None ys h k = k
each_option Q (Some y) ys h k = (h y refl, k)

pub each_filter_map : {X Y : Type 0} (P : X → Type 0) (Q : Y → Type 0) (f : X → Option Y) → ((x : X) (y : Y) → P x → f x ≡ Some y → Q y) → (xs : List X) → AllByRecursion P xs → AllByRecursion Q (filter_map f xs)
each_filter_map P Q f maps [] h = tt
each_filter_map P Q f maps (x ∷ xs) h = each_option Q (f x) (filter_map f xs) (λ y is. maps x y h.0 is) (each_filter_map P Q f maps xs h.1)

-- a finite map, of whose values a claim holds
module _ {K X : Type 0} (R : K → K → Ordering) (P : X → Type 0) where
  abbrev Fits : K × X → Type 0
  Fits e = P e.1

  by_place : (o : Ordering) (xs ys zs : List (K × X)) → AllByRecursion Fits xs → AllByRecursion Fits ys → AllByRecursion Fits zs → AllByRecursion Fits (by_order o xs ys zs)
  by_place Less xs ys zs a b c = a
  by_place Equal xs ys zs a b c = b
  by_place Greater xs ys zs a b c = c

  pub each_put : (k : K) (v : X) (es : List (K × X)) → P v → AllByRecursion Fits es → AllByRecursion Fits (put R k v es)
  each_put k v [] h all = (h, tt)
  each_put k v (e ∷ es) h all = by_place (R k e.0) ((k, v) ∷ e ∷ es) ((e.0, v) ∷ es) (e ∷ put R k v es) (h, all) (h, all.1) (all.0, each_put k v es h all.1)

  pub each_found : (q : K) (es : List (K × X)) → AllByRecursion Fits es → (v : X) → find R q es ≡ Some v → P v
  each_found q [] all v e = absurd cc
  each_found q (x ∷ es) all v e = found_if P (eq_by_cmp R q x.0) x.1 v (find R q es) all.0 (λ z is. each_found q es all.1 z is) e
