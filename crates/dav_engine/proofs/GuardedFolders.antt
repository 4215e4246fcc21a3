-- What is free at a guarded folder, and of what an exclusive lock covers.
use Rattle.std.proofs.Common.{◌≡◌, ℕ, bytes_eq, ◌++◌, ◌&&◌, ◌||◌, Bool, true, false, not, true≢false, List, [], ◌∷◌, append-nil, append_assoc, Option, Some, None, refl, sym, ap, subst, ◌∙◌}
use Rattle.std.proofs.Math.Bool.{or-false}
use Rattle.std.proofs.lemmas.Bool.{and_parts}
use Rattle.std.specs.List.{list_all, list_any}
use Rattle.std.specs.Option.{is_some}
use Rattle.dav_core.specs.Locks.{Lock, Requester, Claimant, Anyone, By, covers, is_of, is_same_principal, is_held, is_free, is_free_deep, is_free_for}
use Rattle.dav_core.specs.Path.{Path, names, rest_after, is_same_path, is_under, is_at_or_under, has_names, is_root, parent_of}
use Rattle.dav_core.proofs.Theorems.{free_by_tests, rest_after-append, from_rest, path-itself, parent-append}
use Rattle.dav_engine.specs.Guard.{folder_of, IsGuard, IsSameLock, IsElsewhere, AllElsewhere, no_others, another, Guards, guards_here, guards_later, IsListed, listed_here, listed_later, FreeIsHeld, FreeIsApart, FreeIsUncovered, ParentFreeIsHeld}

pub stands_guarded : {h : Lock} {ls : List Lock} → Guards h ls → IsListed h ls
stands_guarded (guards_here is off) = listed_here is
stands_guarded (guards_later off more) = listed_later (stands_guarded more)

or_true : (a : Bool) → (a || true) ≡ true
or_true true = refl
or_true false = refl

and_true : (a : Bool) → (a && true) ≡ a
and_true true = refl
and_true false = refl

pub covers_by : (l : Lock) (r : Path) → l.deep ≡ true → covers l (names l.path ++ r) ≡ true
covers_by l [] deep = ap (λ (p : Path). is_same_path (names l.path) p || (l.deep && is_under p (names l.path))) (append-nil (names l.path)) ∙ ap (λ b. b || (l.deep && is_under (names l.path) (names l.path))) (path-itself (names l.path))
covers_by l (x ∷ r) deep =
    ap (λ b. is_same_path (names l.path) (names l.path ++ x ∷ r) || (b && is_under (names l.path ++ x ∷ r) (names l.path))) deep
    ∙ ap (λ o. is_same_path (names l.path) (names l.path ++ x ∷ r) || has_names o) (rest_after-append (names l.path) (x ∷ r))
    ∙ or_true (is_same_path (names l.path) (names l.path ++ x ∷ r))

of_alike : (principal : Claimant) (h l : Lock) → IsSameLock h l → is_of principal l ≡ is_of principal h
of_alike Anyone h l is = refl
of_alike (By principal) h l is = ap (λ (m : Lock). is_same_principal m.principal principal) is

-- a lock that was refreshed is held as before
pub held_still : (who : Requester) (h l : Lock) → IsSameLock h l → is_held who l ≡ is_held who h
held_still who h l is = ap (λ (t : List ℕ). list_any (bytes_eq t) who.tokens && is_of who.principal l) (ap (λ (m : Lock). m.token) is) ∙ ap (λ b. list_any (bytes_eq h.token) who.tokens && b) (of_alike who.principal h l is)

module _ (h : Lock) (is_guard : IsGuard h) (who : Requester) (r : Path) where
  abbrev place : Path
  place = folder_of h ++ r

  covered : (l : Lock) → IsSameLock h l → covers l place ≡ true
  covered l is = ap (λ (m : Lock). covers m place) is ∙ covers_by h r is_guard.deep

  held_alike : (l : Lock) → IsSameLock h l → is_held who l ≡ is_held who h
  held_alike l is = held_still who h l is

  unshared : (l : Lock) → IsSameLock h l → l.shared ≡ false
  unshared l is = ap (λ (m : Lock). m.shared) is ∙ is_guard.exclusive

  abbrev passes : Lock → Bool
  passes l = is_held who l || l.shared || not (covers l place)

  off_passes : (l : Lock) → IsElsewhere h l → passes l ≡ true
  off_passes l off = ap (λ b. is_held who l || l.shared || not b) (off.apart r) ∙ or_true (is_held who l || l.shared)

  guard_passes : (l : Lock) → IsSameLock h l → passes l ≡ is_held who h
  guard_passes l is =
      ap (λ b. is_held who l || l.shared || not b) (covered l is) ∙ ap (λ b. is_held who l || b || false) (unshared l is) ∙ or-false (is_held who l || false) ∙ or-false (is_held who l) ∙ held_alike l is

  offs_pass : (ls : List Lock) → AllElsewhere h ls → list_all passes ls ≡ true
  offs_pass [] no_others = refl
  offs_pass (l ∷ ls) (another off more) = ap (λ b. b && list_all passes ls) (off_passes l off) ∙ offs_pass ls more

  all_pass : (ls : List Lock) → Guards h ls → list_all passes ls ≡ is_held who h
  all_pass [] x = elim x [ ]
  all_pass (l ∷ ls) (guards_here is off) = ap (λ b. b && list_all passes ls) (guard_passes l is) ∙ ap (λ b. is_held who h && b) (offs_pass ls off) ∙ and_true (is_held who h)
  all_pass (l ∷ ls) (guards_later off more) = ap (λ b. b && list_all passes ls) (off_passes l off) ∙ all_pass ls more

  offs_covered : (ls : List Lock) → AllElsewhere h ls → list_any (λ l. covers l place && is_held who l) ls ≡ false
  offs_covered [] no_others = refl
  offs_covered (l ∷ ls) (another off more) = ap (λ b. (b && is_held who l) || list_any (λ m. covers m place && is_held who m) ls) (off.apart r) ∙ offs_covered ls more

  held_covers : (ls : List Lock) → Guards h ls → list_any (λ l. covers l place && is_held who l) ls ≡ is_held who h
  held_covers [] x = elim x [ ]
  held_covers (l ∷ ls) (guards_here is off) =
      ap (λ b. (b && is_held who l) || list_any (λ m. covers m place && is_held who m) ls) (covered l is)
      ∙ ap (λ b. is_held who l || b) (offs_covered ls off) ∙ or-false (is_held who l) ∙ held_alike l is
  held_covers (l ∷ ls) (guards_later off more) = ap (λ b. (b && is_held who l) || list_any (λ m. covers m place && is_held who m) ls) (off.apart r) ∙ held_covers ls more

  some_covers : (ls : List Lock) → Guards h ls → list_any (λ l. covers l place) ls ≡ true
  some_covers [] x = elim x [ ]
  some_covers (l ∷ ls) (guards_here is off) = ap (λ b. b || list_any (λ m. covers m place) ls) (covered l is)
  some_covers (l ∷ ls) (guards_later off more) = ap (λ b. b || list_any (λ m. covers m place) ls) (off.apart r) ∙ some_covers ls more

  twice : (b : Bool) → (b && (b || false)) ≡ b
  twice true = refl
  twice false = refl

  -- at and below the folder a question of the list is one of the guard
  pub free_is : (ls : List Lock) → Guards h ls → is_free who place ls ≡ is_held who h
  free_is ls g =
      free_by_tests who place ls
      ∙ ap (λ b. b && (list_any (λ l. covers l place && is_held who l) ls || not (list_any (λ l. covers l place) ls))) (all_pass ls g)
      ∙ ap (λ b. is_held who h && (b || not (list_any (λ l. covers l place) ls))) (held_covers ls g)
      ∙ ap (λ b. is_held who h && (is_held who h || not b)) (some_covers ls g)
      ∙ twice (is_held who h)

  abbrev below : Lock → Bool
  below l = is_held who l || not (is_at_or_under (names l.path) place)

  off_below_by : (l : Lock) → IsElsewhere h l → (o : Option Path) → rest_after place (names l.path) ≡ o → is_some o ≡ false
  off_below_by l off None is = refl
  off_below_by l off (Some s) is =
      let there : names l.path ≡ folder_of h ++ (r ++ s) = from_rest place (names l.path) s is ∙ append_assoc (folder_of h) r s in
      let yes : covers l (folder_of h ++ (r ++ s)) ≡ true = subst (λ (p : Path). covers l p ≡ true) there (ap (λ b. b || (l.deep && is_under (names l.path) (names l.path))) (path-itself (names l.path))) in
      absurd (true≢false (sym yes ∙ off.apart (r ++ s)))

  off_below : (l : Lock) → IsElsewhere h l → below l ≡ true
  off_below l off = ap (λ b. is_held who l || not b) (off_below_by l off (rest_after place (names l.path)) refl) ∙ or_true (is_held who l)

  offs_below : (ls : List Lock) → AllElsewhere h ls → list_all below ls ≡ true
  offs_below [] no_others = refl
  offs_below (l ∷ ls) (another off more) = ap (λ b. b && list_all below ls) (off_below l off) ∙ offs_below ls more

  all_below : (ls : List Lock) → is_held who h ≡ true → Guards h ls → list_all below ls ≡ true
  all_below [] held x = elim x [ ]
  all_below (l ∷ ls) held (guards_here is off) = ap (λ b. (b || not (is_at_or_under (names l.path) place)) && list_all below ls) (held_alike l is ∙ held) ∙ offs_below ls off
  all_below (l ∷ ls) held (guards_later off more) = ap (λ b. b && list_all below ls) (off_below l off) ∙ all_below ls held more

  deep_by : (ls : List Lock) → Guards h ls → (b : Bool) → is_held who h ≡ b → is_free_deep who place ls ≡ b
  deep_by ls g true held = ap (λ b. b && list_all below ls) (free_is ls g ∙ held) ∙ all_below ls held g
  deep_by ls g false held = ap (λ b. b && list_all below ls) (free_is ls g ∙ held)

  pub free_for_is : (deep : Bool) (ls : List Lock) → Guards h ls → is_free_for deep who place ls ≡ is_held who h
  free_for_is true ls g = deep_by ls g (is_held who h) refl
  free_for_is false ls g = free_is ls g

pub free_is_held : FreeIsHeld
free_is_held h deep who r ls guard g = free_for_is h guard who r deep ls g

-- ---- the folder above a member

pub not_root : (p : Path) (x : List ℕ) (rest : Path) → is_root (p ++ x ∷ rest) ≡ false
not_root [] x rest = refl
not_root (y ∷ p) x rest = refl

pub parent_free_is_held : ParentFreeIsHeld
parent_free_is_held h who x rest ls guard g =
    ap (λ b. b || is_free who (parent_of (folder_of h ++ x ∷ rest)) ls) (not_root (folder_of h) x rest)
    ∙ ap (λ (q : Path). is_free who q ls) (parent-append (folder_of h) x rest) ∙ free_for_is h guard who (parent_of (x ∷ rest)) false ls g

-- ---- who doesn't hold the guard

outside_by : (h : Lock) → IsGuard h → (who : Requester) (deep : Bool) (p : Path) (ls : List Lock) → Guards h ls → is_held who h ≡ false → is_free_for deep who p ls ≡ true
    → (o : Option Path) → rest_after (folder_of h) p ≡ o → is_some o ≡ false
outside_by h guard who deep p ls g unheld free None is = refl
outside_by h guard who deep p ls g unheld free (Some r) is =
    absurd (true≢false (sym free ∙ ap (λ (q : Path). is_free_for deep who q ls) (from_rest (folder_of h) p r is) ∙ free_for_is h guard who r deep ls g ∙ unheld))

-- what is free to such a one isn't in the folder
pub free_outside : (h : Lock) → IsGuard h → (who : Requester) (deep : Bool) (p : Path) (ls : List Lock) → Guards h ls → is_held who h ≡ false → is_free_for deep who p ls ≡ true
    → is_at_or_under p (folder_of h) ≡ false
free_outside h guard who deep p ls g unheld free = outside_by h guard who deep p ls g unheld free (rest_after (folder_of h) p) refl

not_below : (h l : Lock) (who : Requester) (p : Path) → IsSameLock h l → is_held who h ≡ false → (is_held who l || not (is_at_or_under (names l.path) p)) ≡ true → (b : Bool) → is_at_or_under (folder_of h) p ≡ b → b ≡ false
not_below h l who p is unheld passed false there = refl
not_below h l who p is unheld passed true there =
    let held : is_held who l ≡ false = held_still who h l is ∙ unheld in
    let here : is_at_or_under (names l.path) p ≡ true = ap (λ (m : Lock). is_at_or_under (names m.path) p) is ∙ there in
    absurd (true≢false (sym passed ∙ ap (λ b. b || not (is_at_or_under (names l.path) p)) held ∙ ap not here))

not_above : (h : Lock) (who : Requester) (p : Path) {ls : List Lock} → Guards h ls → is_held who h ≡ false → list_all (λ l. is_held who l || not (is_at_or_under (names l.path) p)) ls ≡ true
    → is_at_or_under (folder_of h) p ≡ false
not_above h who p (guards_here {l} is off) unheld all = not_below h l who p is unheld (and_parts _ _ all).0 (is_at_or_under (folder_of h) p) refl
not_above h who p (guards_later off more) unheld all = not_above h who p more unheld (and_parts _ _ all).1

pub free_is_apart : FreeIsApart
free_is_apart h who p ls guard g unheld free = (free_outside h guard who true p ls g unheld free, not_above h who p g unheld (and_parts _ _ free).1)

-- ---- what an exclusive lock covers

uncovered : (c : Bool) → (false || false || not c) ≡ true → c ≡ false
uncovered true h = cc
uncovered false h = refl

module _ (h : Lock) (exclusive : h.shared ≡ false) (who : Requester) (unheld : is_held who h ≡ false) (p : Path) where
  one_uncovered : (l : Lock) → IsSameLock h l → (is_held who l || l.shared || not (covers l p)) ≡ true → covers h p ≡ false
  one_uncovered l is passed =
      let held : is_held who l ≡ false = held_still who h l is ∙ unheld in
      let unshared : l.shared ≡ false = ap (λ (m : Lock). m.shared) is ∙ exclusive in
      let no : covers l p ≡ false = uncovered (covers l p) (ap (λ b. false || b || not (covers l p)) (sym unshared) ∙ ap (λ b. b || l.shared || not (covers l p)) (sym held) ∙ passed) in
      ap (λ (m : Lock). covers m p) (sym is) ∙ no

  all_uncovered : {ls : List Lock} → IsListed h ls → list_all (λ l. is_held who l || l.shared || not (covers l p)) ls ≡ true → covers h p ≡ false
  all_uncovered (listed_here {l} is) passed = one_uncovered l is (and_parts _ _ passed).0
  all_uncovered (listed_later more) passed = all_uncovered more (and_parts _ _ passed).1

  free_uncovered : (ls : List Lock) → IsListed h ls → is_free who p ls ≡ true → covers h p ≡ false
  free_uncovered ls listed free = all_uncovered listed (and_parts _ _ (sym (free_by_tests who p ls) ∙ free)).0

  pub free_passes : (deep : Bool) (ls : List Lock) → IsListed h ls → is_free_for deep who p ls ≡ true → covers h p ≡ false
  free_passes true ls listed free = free_uncovered ls listed (and_parts _ _ free).0
  free_passes false ls listed free = free_uncovered ls listed free

pub free_is_uncovered : FreeIsUncovered
free_is_uncovered h deep who p ls exclusive unheld listed free = free_passes h exclusive who unheld p deep ls listed free
