-- What a grant leaves: a list that its lock guards, and folders above it.
use Rattle.std.proofs.Common.{◌≡◌, ◌≢◌, ◌++◌, ◌&&◌, ◌||◌, Bool, true, false, not, true≢false, List, [], ◌∷◌, All, cond, ℕ, suc, arith, Option, Some, None, ◌⊎◌, inl, inr, refl, sym, ap, ◌∙◌, append_assoc, append-nil}
use Rattle.std.proofs.lemmas.Bool.{or_parts}
use Rattle.std.specs.List.{list_any}
use Rattle.std.specs.Option.{is_some}
use Rattle.std.specs.FinMap.{find}
use Rattle.dav_core.specs.LockLaws.{CoveringAreShared}
use Rattle.dav_core.specs.Locks.{Lock, covers, is_grantable}
use Rattle.dav_core.specs.Path.{Path, path_cmp, names, rest_after, is_same_path, is_under, is_at_or_under, has_names}
use Rattle.dav_core.specs.World.{World, Node, node_at, is_folder, IsWorld}
use Rattle.dav_core.proofs.Theorems.{rest_after-append, from_rest, parent-append, outside, above, same_path, path-itself, grantable_by_tests, same_name, name-itself}
use Rattle.std.proofs.lemmas.List.Elements.{All-head, All-tail, All-contains, Contains-push}
use Rattle.dav_core.specs.Path.{name_cmp}
use Rattle.std.specs.Ordering.{is_eq}
use Rattle.dav_engine.specs.Guard.{folder_of, IsGuard, no_others, Guards, guards_here, guards_later, GrantedGuards, SharedGuards}
use Rattle.dav_engine.specs.Inside.{FoldersAreAbove}
use Rattle.dav_engine.proofs.GuardedFolders.{covers_by}
use Rattle.dav_engine.proofs.SparingCalls.{within_too}

-- ---- fronts of one path

comparable_by : (x y : List ℕ) (p folder r : Path) (b : Bool) → is_eq (name_cmp x y) ≡ b
    → (is_some (rest_after p (folder ++ r)) ≡ true → (is_at_or_under folder p ≡ true) ⊎ (is_at_or_under p folder ≡ true))
    → is_some (cond b (rest_after p (folder ++ r)) None) ≡ true → (is_at_or_under (y ∷ folder) (x ∷ p) ≡ true) ⊎ (is_at_or_under (x ∷ p) (y ∷ folder) ≡ true)
comparable_by x y p folder r true is ih h =
    elim (ih h) as (λ _. (is_at_or_under (y ∷ folder) (x ∷ p) ≡ true) ⊎ (is_at_or_under (x ∷ p) (y ∷ folder) ≡ true)) [
      | inl a ↦ inl (ap (λ b. is_some (cond b (rest_after p folder) None)) is ∙ a)
      | inr a ↦ inr (ap (λ b. is_some (cond b (rest_after folder p) None)) (ap (λ (z : List ℕ). is_eq (name_cmp y z)) (same_name x y is) ∙ name-itself y) ∙ a)
    ]
comparable_by x y p folder r false is ih h = cc

-- of two fronts of one path one is a front of the other
pub comparable : (p folder r : Path) → is_at_or_under (folder ++ r) p ≡ true → (is_at_or_under folder p ≡ true) ⊎ (is_at_or_under p folder ≡ true)
comparable [] folder r h = inl refl
comparable (x ∷ p) [] r h = inr refl
comparable (x ∷ p) (y ∷ folder) r h = comparable_by x y p folder r (is_eq (name_cmp x y)) refl (comparable p folder r) h

-- ---- the list

-- locks that have another token
pub data OtherTokens (h : Lock) : List Lock → Type 0 where
  none_other : OtherTokens h []
  one_other : {l : Lock} {ls : List Lock} → l.token ≢ h.token → OtherTokens h ls → OtherTokens h (l ∷ ls)

-- a lock that neither covers the folder nor is below it covers nothing there
below_at : (p q : Path) → is_at_or_under q p ≡ true → (b c : Bool) → is_same_path p q ≡ b → is_under q p ≡ c → (b || c) ≡ true
below_at p q h true c same below = refl
below_at p q h false true same below = refl
below_at p q h false false same below = sym (sym h ∙ outside p q same below)

same_below : (p q : Path) → is_same_path p q ≡ true → is_at_or_under q p ≡ true
same_below p q h = ap (λ (under : Path). is_at_or_under under p) (sym (same_path p q h)) ∙ ap (λ (under : Path). is_at_or_under under p) (sym (append-nil p)) ∙ ap is_some (rest_after-append p [])

either_within : (p q : Path) (deep a : Bool) → is_same_path p q ≡ a → (a || (deep && is_under q p)) ≡ true → is_at_or_under q p ≡ true
either_within p q deep true same h = same_below p q same
either_within p q true false same h = within_too p q h
either_within p q false false same h = cc

or_false : (a b : Bool) → (a || b) ≡ true → b ≡ false → a ≡ true
or_false true b h no_b = refl
or_false false b h no_b = sym no_b ∙ h

module _ (folder : Path) (l : Lock) (uncovered : covers l folder ≡ false) (unbelow : is_under (names l.path) folder ≡ false) where
  abbrev q : Path
  q = names l.path

  not_same : is_same_path q folder ≡ false
  not_same = (or_parts (is_same_path q folder) (l.deep && is_under folder q) uncovered).0

  -- its path isn't at the folder or below it
  not_within : (b : Bool) → is_at_or_under q folder ≡ b → b ≡ false
  not_within false h = refl
  not_within true h =
      let same : is_same_path folder q ≡ true = or_false (is_same_path folder q) (is_under q folder) (below_at folder q h (is_same_path folder q) (is_under q folder) refl refl) unbelow in
      let back : is_same_path q folder ≡ true = ap (λ (p : Path). is_same_path p folder) (sym (same_path folder q same)) ∙ path-itself folder in
      absurd (true≢false (sym back ∙ not_same))

  off_deep : (r : Path) (deep : Bool) → l.deep ≡ deep → (is_same_path q (folder ++ r) || (deep && is_under (folder ++ r) q)) ≡ true → true ≡ false
  off_deep r false is h =
      let same : is_same_path q (folder ++ r) ≡ true = or_false (is_same_path q (folder ++ r)) false h refl in
      let within : is_at_or_under q folder ≡ true = ap (λ (under : Path). is_at_or_under under folder) (same_path q (folder ++ r) same) ∙ ap is_some (rest_after-append folder r) in
      sym within ∙ not_within (is_at_or_under q folder) refl
  off_deep r true is h =
      elim (comparable q folder r (either_within q (folder ++ r) true (is_same_path q (folder ++ r)) refl h)) as (λ _. true ≡ false) [
        | inr down ↦ sym down ∙ not_within (is_at_or_under q folder) refl
        | inl up ↦
            let covered : covers l folder ≡ true = ap (λ d. is_same_path q folder || (d && is_under folder q)) is ∙ below_at q folder up (is_same_path q folder) (is_under folder q) refl refl in
            sym covered ∙ uncovered
      ]

  off_by : (r : Path) (b : Bool) → covers l (folder ++ r) ≡ b → b ≡ false
  off_by r false h = refl
  off_by r true h = off_deep r l.deep refl h

module _ (h : Lock) (guard : IsGuard h) where
  abbrev in_way : Lock → Bool
  in_way l = covers l (folder_of h) && not (l.shared && h.shared)

  not_in_way : (l : Lock) → in_way l ≡ false → covers l (folder_of h) ≡ false
  not_in_way l free = sym (exclusive_step (covers l (folder_of h)) l.shared h.shared guard.exclusive) ∙ free
    where
      exclusive_step : (c s e : Bool) → e ≡ false → (c && not (s && e)) ≡ c
      exclusive_step true true e is = ap not is
      exclusive_step true false e is = refl
      exclusive_step false s e is = refl

  guards_at_end : (ls : List Lock) → OtherTokens h ls → list_any in_way ls ≡ false → list_any (λ l. is_under (names l.path) (folder_of h)) ls ≡ false → Guards h (ls ++ h ∷ [])
  guards_at_end [] none_other free below = guards_here refl no_others
  guards_at_end (l ∷ ls) (one_other other more) free below =
      let (out, rest) = or_parts (in_way l) (list_any in_way ls) free in
      let (off, rest') = or_parts (is_under (names l.path) (folder_of h)) (list_any (λ m. is_under (names m.path) (folder_of h)) ls) below in
      guards_later (record { token = other; apart = λ r. off_by (folder_of h) l (not_in_way l out) off r (covers l (folder_of h ++ r)) refl }) (guards_at_end ls more rest rest')

  grantable_parts : (a d b : Bool) → d ≡ true → (not a && not (d && b)) ≡ true → (a ≡ false) × (b ≡ false)
  grantable_parts false d false is h = (refl, refl)
  grantable_parts false true true is h = cc
  grantable_parts false false true is h = cc
  grantable_parts true d b is h = cc

  -- a lock that may be granted guards its folder behind locks of other tokens
  granted_at_end : (ls : List Lock) → OtherTokens h ls → is_grantable h ls ≡ true → Guards h (ls ++ h ∷ [])
  granted_at_end ls others ok =
      let (free, below) = grantable_parts (list_any in_way ls) h.deep (list_any (λ l. is_under (names l.path) (folder_of h)) ls) guard.deep (sym (grantable_by_tests h ls) ∙ ok) in
      guards_at_end ls others free below

other_tokens : (h : Lock) (ls : List Lock) → All (λ l. l.token ≢ h.token) ls → OtherTokens h ls
other_tokens h [] all = none_other
other_tokens h (l ∷ ls) all = one_other (All-head (λ m. m.token ≢ h.token) l ls all) (other_tokens h ls (All-tail (λ m. m.token ≢ h.token) l ls all))

pub granted_guards : GrantedGuards
granted_guards h ls guard others ok = granted_at_end h guard ls (other_tokens h ls others) ok

-- ---- where covering locks are shared

-- where both locks cover a path, both are shared
abbrev ShareBoth : Lock → Lock → Type 0
ShareBoth l m = (p : Path) → covers l p ≡ true → covers m p ≡ true → (l.shared ≡ true) × (m.shared ≡ true)

module _ (h : Lock) (guard : IsGuard h) where
  -- what covers a path below the folder would be shared with the guard
  off_shared : (l : Lock) (rest : Path) → ShareBoth l h → (b : Bool) → covers l (folder_of h ++ rest) ≡ b → b ≡ false
  off_shared l rest both false is = refl
  off_shared l rest both true is = sym (both (folder_of h ++ rest) is (covers_by h rest guard.deep)).1 ∙ guard.exclusive

  guards_shared : (ls : List Lock) → OtherTokens h ls → CoveringAreShared (ls ++ h ∷ []) → Guards h (ls ++ h ∷ [])
  guards_shared [] none_other shared = guards_here refl no_others
  guards_shared (l ∷ ls) (one_other other more) shared =
      let both : ShareBoth l h = All-contains (ShareBoth l) (ls ++ h ∷ []) h (λ k d small. shared 0 (suc k) d (omega arith) (omega (arith, small))) (Contains-push ls h) in
      guards_later (record { token = other; apart = λ rest. off_shared l rest both (covers l (folder_of h ++ rest)) refl })
      (guards_shared ls more (λ i j d less small. shared (suc i) (suc j) d (omega (arith, less)) (omega (arith, small))))

pub shared_guards : SharedGuards
shared_guards h ls guard others shared = guards_shared h guard ls (other_tokens h ls others) shared

-- ---- the world

above_by : (w : World) → IsWorld w → (folder p : Path) (n : Node) → node_at w folder ≡ Some n → (o : Option Path) → rest_after p folder ≡ o → has_names o ≡ true → is_folder w p ≡ true
above_by w world folder p n there None is h = cc
above_by w world folder p n there (Some []) is h = cc
above_by w world folder p n there (Some (x ∷ r)) is h =
    let whole : folder ≡ (p ++ x ∷ []) ++ r = from_rest p folder (x ∷ r) is ∙ sym (append_assoc p (x ∷ []) r) in
    let (m, at) = above w.nodes world.tree (p ++ x ∷ []) r n (ap (λ (q : Path). find path_cmp q w.nodes) (sym whole) ∙ there) in
    ap (is_folder w) (sym (append-nil p) ∙ sym (parent-append p x [])) ∙ world.tree.parents (p ++ x ∷ []) m at

-- in a world all above a folder are folders
pub folders_are_above : FoldersAreAbove
folders_are_above w folder n world there p up = above_by w world folder p n there (rest_after p folder) refl up
