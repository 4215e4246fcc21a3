-- Tests of the locks that cover a path, or are below one, as tests of the whole list.
use Rattle.std.proofs.Common.{◌≡◌, Bool, true, false, not, ◌&&◌, ◌||◌, cond, List, [], ◌∷◌, refl, ap, ◌∙◌}
use Rattle.std.specs.List.{list_all, list_any, filter}
use Rattle.dav_core.specs.Lists.{is_empty}
use Rattle.dav_core.specs.Path.{Path, names, is_under}
use Rattle.dav_core.specs.Locks.{Lock, Requester, covers, covering, locks_below, is_held, is_free, is_grantable}

module _ {X : Type 0} (p test : X → Bool) where
  any_step : (b : Bool) (x : X) (rest : List X) (more : Bool) → list_any test rest ≡ more → list_any test (cond b (x ∷ rest) rest) ≡ ((b && test x) || more)
  any_step true x rest more e = ap (λ m. test x || m) e
  any_step false x rest more e = e

  -- one that passes the filter passes the test
  pub any_filtered : (xs : List X) → list_any test (filter p xs) ≡ list_any (λ x. p x && test x) xs
  any_filtered [] = refl
  any_filtered (x ∷ xs) = any_step (p x) x (filter p xs) _ (any_filtered xs)

  all_step : (b : Bool) (x : X) (rest : List X) (more : Bool) → list_all test rest ≡ more → list_all test (cond b (x ∷ rest) rest) ≡ ((test x || not b) && more)
  all_step true x rest more e = or_false (test x) ∙ ap (λ m. (test x || false) && m) e
    where
      or_false : (t : Bool) → (t && list_all test rest) ≡ ((t || false) && list_all test rest)
      or_false true = refl
      or_false false = refl
  all_step false x rest more e = or_true (test x) e
    where
      or_true : (t : Bool) → list_all test rest ≡ more → list_all test rest ≡ ((t || true) && more)
      or_true true e = e
      or_true false e = e

  -- each that passes the filter passes the test
  pub all_filtered : (xs : List X) → list_all test (filter p xs) ≡ list_all (λ x. test x || not (p x)) xs
  all_filtered [] = refl
  all_filtered (x ∷ xs) = all_step (p x) x (filter p xs) _ (all_filtered xs)

  none_step : (b t more any : Bool) → more ≡ not any → ((t || not b) && more) ≡ not ((b && not t) || any)
  none_step true true more any e = e
  none_step true false more any e = refl
  none_step false true more any e = e
  none_step false false more any e = e

  none_fails : (xs : List X) → list_all (λ x. test x || not (p x)) xs ≡ not (list_any (λ x. p x && not (test x)) xs)
  none_fails [] = refl
  none_fails (x ∷ xs) = none_step (p x) (test x) _ _ (none_fails xs)

  -- and none that does fails it
  pub none_filtered : (xs : List X) → list_all test (filter p xs) ≡ not (list_any (λ x. p x && not (test x)) xs)
  none_filtered xs = all_filtered xs ∙ none_fails xs

module _ {X : Type 0} (p : X → Bool) where
  empty_step : (b : Bool) (x : X) (rest : List X) (any : Bool) → is_empty rest ≡ not any → is_empty (cond b (x ∷ rest) rest) ≡ not (b || any)
  empty_step true x rest any e = refl
  empty_step false x rest any e = e

  -- none passes the filter
  pub empty_filtered : (xs : List X) → is_empty (filter p xs) ≡ not (list_any p xs)
  empty_filtered [] = refl
  empty_filtered (x ∷ xs) = empty_step (p x) x (filter p xs) _ (empty_filtered xs)

-- a requester holds some lock that covers a path
pub some_held : (who : Requester) (p : Path) (ls : List Lock) → list_any (is_held who) (covering p ls) ≡ list_any (λ l. covers l p && is_held who l) ls
some_held who p ls = any_filtered (λ l. covers l p) (is_held who) ls

-- a path is free, by tests of the whole list
pub free_by_tests : (who : Requester) (p : Path) (ls : List Lock)
    → is_free who p ls ≡ (list_all (λ l. is_held who l || l.shared || not (covers l p)) ls && (list_any (λ l. covers l p && is_held who l) ls || not (list_any (λ l. covers l p) ls)))
free_by_tests who p ls =
    ap (λ b. b && (list_any (is_held who) (covering p ls) || is_empty (covering p ls))) (all_filtered (λ l. covers l p) (λ l. is_held who l || l.shared) ls)
    ∙ (λ i. list_all (λ l. is_held who l || l.shared || not (covers l p)) ls && (some_held who p ls i || empty_filtered (λ l. covers l p) ls i))

not_both : (d b : Bool) → (not d || not b) ≡ not (d && b)
not_both true b = refl
not_both false b = refl

-- a lock may be granted, by tests of the whole list
pub grantable_by_tests : (new : Lock) (ls : List Lock)
    → is_grantable new ls ≡ (not (list_any (λ l. covers l (names new.path) && not (l.shared && new.shared)) ls) && not (new.deep && list_any (λ l. is_under (names l.path) (names new.path)) ls))
grantable_by_tests new ls =
    ap (λ b. b && (not new.deep || is_empty (locks_below (names new.path) ls))) (none_filtered (λ l. covers l (names new.path)) (λ l. l.shared && new.shared) ls)
    ∙ ap (λ b. not (list_any (λ l. covers l (names new.path) && not (l.shared && new.shared)) ls) && b)
    (ap (λ b. not new.deep || b) (empty_filtered (λ l. is_under (names l.path) (names new.path)) ls) ∙ not_both new.deep (list_any (λ l. is_under (names l.path) (names new.path)) ls))
