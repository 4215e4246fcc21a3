-- Rights of rules: each includes those before it, reaches down, and grows with grants.
use Rattle.std.proofs.Common.{◌≡◌, ◌||◌, ◌&&◌, ◌++◌, ℕ, Bool, true, false, List, [], ◌∷◌, Option, Some, None, refl, ap, ◌∙◌, append_assoc}
use Rattle.std.specs.List.{list_any}
use Rattle.std.specs.Option.{is_some}
use Rattle.std.proofs.lemmas.Bool.{and_parts}
use Rattle.std.proofs.lemmas.List.Folds.{list_any-append}
use Rattle.dav_core.specs.Path.{Path, is_at_or_under, names, rest_after}
use Rattle.dav_core.proofs.Theorems.{from_rest, rest_after-append}
use Rattle.dav_access.specs.declared.grant.Grant.{Grant}
use Rattle.dav_access.specs.declared.grant.Right.{Right}
use Rattle.dav_access.specs.declared.grant.Right.TheVariants.{See, Read, Write, Admin}
use Rattle.dav_access.specs.Rules.{Rules, gives, has_right, includes, is_for, leads_to, may_read, may_write, RightsAreOrdered, RightsReachDown, GrantsAdd}

-- ---- paths

rest_by : (p q : Path) (o : Option Path) → rest_after p q ≡ o → is_some o ≡ true → (r : Path) × (q ≡ p ++ r)
rest_by p q None is h = cc
rest_by p q (Some r) is h = (r, from_rest p q r is)

-- what is below a path that is below another is below that
pub below_trans : (a b c : Path) → is_at_or_under b a ≡ true → is_at_or_under c b ≡ true → is_at_or_under c a ≡ true
below_trans a b c h k =
    let (r, e) = rest_by a b (rest_after a b) refl h in
    let (s, e') = rest_by b c (rest_after b c) refl k in
    let whole : c ≡ a ++ (r ++ s) = e' ∙ ap (λ (x : Path). x ++ s) e ∙ append_assoc a r s in
    ap (λ z. is_at_or_under z a) whole ∙ ap is_some (rest_after-append a (r ++ s))

-- ---- tests of a list

pub or_left : (a b : Bool) → a ≡ true → (a || b) ≡ true
or_left true b is = refl
or_left false b is = cc

pub or_right : (a b : Bool) → b ≡ true → (a || b) ≡ true
or_right true b is = refl
or_right false b is = is

or_grows : (a b c d : Bool) → (a ≡ true → c ≡ true) → (b ≡ true → d ≡ true) → (a || b) ≡ true → (c || d) ≡ true
or_grows true b c d one two is = or_left c d (one refl)
or_grows false b c d one two is = or_right c d (two is)

and_join : (a b : Bool) → a ≡ true → b ≡ true → (a && b) ≡ true
and_join true b one two = two
and_join false b one two = cc

-- where one test passes, another does
any_grows : (f g : Grant → Bool) → ((x : Grant) → f x ≡ true → g x ≡ true) → (xs : List Grant) → list_any f xs ≡ true → list_any g xs ≡ true
any_grows f g more [] is = is
any_grows f g more (x ∷ xs) is = or_grows (f x) (list_any f xs) (g x) (list_any g xs) (more x) (any_grows f g more xs) is

-- what passes in a list passes in a longer one
any_front : (f : Grant → Bool) (xs ys : List Grant) → list_any f xs ≡ true → list_any f (xs ++ ys) ≡ true
any_front f xs ys is = list_any-append f xs ys ∙ or_left (list_any f xs) (list_any f ys) is

-- ---- rights

includes_trans : (granted right less : Right) → includes granted right ≡ true → includes right less ≡ true → includes granted less ≡ true
includes_trans Admin right less one two = refl
includes_trans Write Admin less one two = cc
includes_trans Write Write less one two = two
includes_trans Write Read Admin one two = two
includes_trans Write Read less one two = refl
includes_trans Write See Admin one two = two
includes_trans Write See less one two = refl
includes_trans Read Admin less one two = cc
includes_trans Read Write less one two = cc
includes_trans Read Read less one two = two
includes_trans Read See See one two = refl
includes_trans Read See less one two = cc
includes_trans See See less one two = two
includes_trans See right less one two = cc

module _ (rules : Rules) (who : Option (List ℕ)) where
  -- a grant of a right is one of what it includes
  less_given : (right less : Right) (p : Path) → includes right less ≡ true → list_any (gives who right p) rules ≡ true → list_any (gives who less p) rules ≡ true
  less_given right less p more =
      any_grows (gives who right p) (gives who less p) (λ g is.
      let parts = and_parts (is_for g.whom who) (includes g.right right && is_at_or_under p (names g.path)) is in
      let inner = and_parts (includes g.right right) (is_at_or_under p (names g.path)) parts.1 in
      and_join _ _ parts.0 (and_join _ _ (includes_trans g.right right less inner.0 more) inner.1)) rules

  -- a grant at a path is one at each path below it
  below_given : (right : Right) (p q : Path) → is_at_or_under q p ≡ true → list_any (gives who right p) rules ≡ true → list_any (gives who right q) rules ≡ true
  below_given right p q below =
      any_grows (gives who right p) (gives who right q) (λ g is.
      let parts = and_parts (is_for g.whom who) (includes g.right right && is_at_or_under p (names g.path)) is in
      let inner = and_parts (includes g.right right) (is_at_or_under p (names g.path)) parts.1 in
      and_join _ _ parts.0 (and_join _ _ inner.0 (below_trans (names g.path) p q inner.1 below))) rules

  pub reads_below : (p q : Path) → is_at_or_under q p ≡ true → may_read rules who p ≡ true → may_read rules who q ≡ true
  reads_below p q = below_given Read p q

  pub writes_below : (p q : Path) → is_at_or_under q p ≡ true → may_write rules who p ≡ true → may_write rules who q ≡ true
  writes_below p q = below_given Write p q

  sees : (right : Right) (p : Path) → includes right See ≡ true → list_any (gives who right p) rules ≡ true → has_right rules who See p ≡ true
  sees right p more is = or_left (list_any (gives who See p) rules) (list_any (leads_to who p) rules) (less_given right See p more is)

  -- a right of its own is one that a grant gives
  ordered : (right less : Right) (p : Path) → includes right less ≡ true → has_right rules who right p ≡ true → has_right rules who less p ≡ true
  ordered Admin Admin p more is = is
  ordered Admin Write p more is = less_given Admin Write p more is
  ordered Admin Read p more is = less_given Admin Read p more is
  ordered Admin See p more is = sees Admin p more is
  ordered Write Admin p more is = cc
  ordered Write Write p more is = is
  ordered Write Read p more is = less_given Write Read p more is
  ordered Write See p more is = sees Write p more is
  ordered Read Admin p more is = cc
  ordered Read Write p more is = cc
  ordered Read Read p more is = is
  ordered Read See p more is = sees Read p more is
  ordered See Admin p more is = cc
  ordered See Write p more is = cc
  ordered See Read p more is = cc
  ordered See See p more is = is

  down : (right : Right) (p q : Path) → includes right Read ≡ true → is_at_or_under q p ≡ true → has_right rules who right p ≡ true → has_right rules who right q ≡ true
  down Admin p q more below is = below_given Admin p q below is
  down Write p q more below is = below_given Write p q below is
  down Read p q more below is = below_given Read p q below is
  down See p q more below is = cc

  added : (more : Rules) (right : Right) (p : Path) → has_right rules who right p ≡ true → has_right (rules ++ more) who right p ≡ true
  added more Admin p is = any_front (gives who Admin p) rules more is
  added more Write p is = any_front (gives who Write p) rules more is
  added more Read p is = any_front (gives who Read p) rules more is
  added more See p is =
      or_grows (list_any (gives who See p) rules) (list_any (leads_to who p) rules) (list_any (gives who See p) (rules ++ more)) (list_any (leads_to who p) (rules ++ more))
      (any_front (gives who See p) rules more) (any_front (leads_to who p) rules more) is

pub rights_are_ordered : RightsAreOrdered
rights_are_ordered rules who right less p more is = ordered rules who right less p more is

pub rights_reach_down : RightsReachDown
rights_reach_down rules who right p q more below is = down rules who right p q more below is

pub grants_add : GrantsAdd
grants_add rules more who right p is = added rules who more right p is
