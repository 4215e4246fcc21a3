-- The map from the numbers with which nodes were made, after each call of a tree of names, and what it finds.
use Rattle.std.proofs.Common.{◌≡◌, ℕ, ◌==◌, ◌&&◌, Bool, true, false, not, cond, if◌then◌else◌, List, [], ◌∷◌, Option, Some, None, refl, sym, ap, subst, ◌∙◌, ⊎_elim}
use Rattle.std.specs.Option.{option_and_then, option_map, is_some}
use Rattle.std.specs.List.{find as first}
use Rattle.std.specs.FinMap.{find}
use Rattle.std.proofs.lemmas.Bool.{cases_Bool, cases_eq, eqb-true, eq-eqb}
use Rattle.dav_core.specs.Path.{Path, path_cmp}
use Rattle.dav_core.specs.World.{Node as Seen, Nodes, is_folder_kind, is_file_made_with, file_made_with, change_node, adjust}
use Rattle.dav_core.proofs.Theorems.{made_stands, change_made}
use Rattle.dav_store.specs.Tree.{Tree, value_of}
use Rattle.dav_store.specs.Placed.{placed, found, stands, IsGrown, IsMadeMap}
use Rattle.dav_store.proofs.Walks.{inner}
use Rattle.dav_store.proofs.Placing.{find-placed, sorted-placed}

-- a file, where there is one
abbrev pub if_file : Option Seen → Option Seen
if_file None = None
if_file (Some v) = cond (is_folder_kind v.kind) None (Some v)

-- what is found first among some that pass
some_first_step : (test : Path × Seen → Bool) (q : Path) (v : Seen) (d : Path × Seen) (es : Nodes) (b c : Bool) → test d ≡ b → ((e : Path) → test (e, v) ≡ true)
    → (find path_cmp q es ≡ Some v → (x : Path × Seen) × (first test es ≡ Some x))
    → cond c (Some d.1) (find path_cmp q es) ≡ Some v → (x : Path × Seen) × (cond b (Some d) (first test es) ≡ Some x)
some_first_step test q v d es true c is passes ih h = (d, refl)
some_first_step test q v d es false true is passes ih h =
    let one : d.1 ≡ v = inner d.1 v h in
    let yes : test d ≡ true = subst (λ (m : Seen). test (d.0, m) ≡ true) (sym one) (passes d.0) in cc
some_first_step test q v d es false false is passes ih h = ih h

some_first : (test : Path × Seen → Bool) (q : Path) (v : Seen) → ((e : Path) → test (e, v) ≡ true) → (ns : Nodes) → find path_cmp q ns ≡ Some v → (x : Path × Seen) × (first test ns ≡ Some x)
some_first test q v passes [] h = cc
some_first test q v passes (d ∷ es) h = some_first_step test q v d es (test d) _ refl passes (some_first test q v passes es) h

module _ (t : Tree (List ℕ) Seen) (grown : IsGrown t) (made : ℕ → Option ℕ) (is : IsMadeMap made t) where
  stands_of : (q : Path) (v : Seen) → stands t q ≡ Some v → (m : ℕ) × (found t q ≡ Some m) × (value_of t m ≡ Some v)
  stands_of q v h = by (found t q) refl h where
    by : (o : Option ℕ) → found t q ≡ o → option_and_then (value_of t) o ≡ Some v → (m : ℕ) × (found t q ≡ Some m) × (value_of t m ≡ Some v)
    by None at h = cc
    by (Some m) at h = (m, at, h)

  -- a file that was made with a number is the node that the map has
  made_found : (n : ℕ) (w : Seen) → file_made_with n (placed t) ≡ Some w → (m : ℕ) × (made n ≡ Some m) × (value_of t m ≡ Some w) × (is_folder_kind w.kind ≡ false)
  made_found n w h =
      let s = made_stands n (placed t) (sorted-placed t grown) w h in
      let at = stands_of s.0 w (sym (find-placed t grown s.0) ∙ s.1) in
      (at.0, ap made (sym s.2) ∙ is.each at.0 w at.2, at.2, s.3)

  made_same : (n m : ℕ) (v w : Seen) → made n ≡ Some m → value_of t m ≡ Some v → file_made_with n (placed t) ≡ Some w → (w ≡ v) × (is_folder_kind w.kind ≡ false)
  made_same n m v w e value h =
      let f = made_found n w h in
      let same : f.0 ≡ m = inner f.0 m (sym f.1 ∙ e) in
      (inner w v (sym f.2 ∙ ap (value_of t) same ∙ value), f.3)

  none_by : (n : ℕ) (o : Option Seen) → file_made_with n (placed t) ≡ o → ((v : Seen) → file_made_with n (placed t) ≡ Some v → ⊥) → file_made_with n (placed t) ≡ None
  none_by n None e h = e
  none_by n (Some v) e h = absurd (h v e)

  found_file : (n m : ℕ) (v : Seen) (b : Bool) → made n ≡ Some m → value_of t m ≡ Some v → v.made ≡ n → is_folder_kind v.kind ≡ b → file_made_with n (placed t) ≡ cond b None (Some v)
  found_file n m v true e value number kind =
      none_by n (file_made_with n (placed t)) refl (λ w h.
      let same = made_same n m v w e value h in
      let file : is_folder_kind v.kind ≡ false = ap (λ (x : Seen). is_folder_kind x.kind) (sym same.0) ∙ same.1 in cc)
  found_file n m v false e value number kind =
      let r = grown.reached m (ap is_some value) in
      let passes : ((v.made == n) && not (is_folder_kind v.kind)) ≡ true = ap (λ b. b && not (is_folder_kind v.kind)) (eq-eqb v.made n number) ∙ ap not kind in
      let x = some_first (is_file_made_with n) r.0 v (λ _. passes) (placed t) (find-placed t grown r.0 ∙ ap (option_and_then (value_of t)) r.1 ∙ value) in
      let is_file : file_made_with n (placed t) ≡ Some x.0.1 = ap (option_map (λ (y : Path × Seen). y.1)) x.1 in
      is_file ∙ ap Some (made_same n m v x.0.1 e value is_file).0

  found_by : (n : ℕ) (o : Option ℕ) → made n ≡ o → file_made_with n (placed t) ≡ if_file (option_and_then (value_of t) o)
  found_by n None e = none_by n (file_made_with n (placed t)) refl (λ w h. let f = made_found n w h in let clash : None ≡ Some f.0 = sym e ∙ f.1 in cc)
  found_by n (Some m) e =
      let v = is.only n m e in
      found_file n m v.0 (is_folder_kind v.0.kind) e v.1 v.2 refl ∙ sym (ap if_file v.1)

  -- the file that was made with a number is the one that the map has
  pub file_by_map : (n : ℕ) → file_made_with n (placed t) ≡ if_file (option_and_then (value_of t) (made n))
  file_by_map n = found_by n (made n) refl

  -- a change of it is the change at its path
  pub change_by_map : (n m : ℕ) (v : Seen) (f : Seen → Seen) → made n ≡ Some m → value_of t m ≡ Some v → is_folder_kind v.kind ≡ false
      → (p : Path) × (found t p ≡ Some m) × (change_node (is_file_made_with n) f (placed t) ≡ adjust p f (placed t))
  change_by_map n m v f e value file =
      let here : file_made_with n (placed t) ≡ Some v = file_by_map n ∙ ap (λ o. if_file (option_and_then (value_of t) o)) e ∙ ap if_file value ∙ ap (λ b. cond b None (Some v)) file in
      let c = change_made n f (placed t) (sorted-placed t grown) v here in
      let at = stands_of c.0 v (sym (find-placed t grown c.0) ∙ c.1) in
      let one = is.only n m e in
      let number : v.made ≡ n = ap (λ (x : Seen). x.made) (inner v one.0 (sym value ∙ one.1)) ∙ one.2 in
      let same : at.0 ≡ m = inner at.0 m (sym (is.each at.0 v at.2) ∙ ap made number ∙ e) in
      (c.0, at.1 ∙ ap Some same, c.2)

-- where none passes, no change is made
none_changed_step : (test : Path × Seen → Bool) (f : Seen → Seen) (d : Path × Seen) (es : Nodes) (b : Bool) → (option_map (λ (x : Path × Seen). x.1) (first test es) ≡ None → change_node test f es ≡ es)
    → option_map (λ (x : Path × Seen). x.1) (cond b (Some d) (first test es)) ≡ None → (if b then (d.0, f d.1) ∷ es else d ∷ change_node test f es) ≡ d ∷ es
none_changed_step test f d es true ih h = cc
none_changed_step test f d es false ih h = ap (λ (rest : Nodes). d ∷ rest) (ih h)

pub none_changed : (test : Path × Seen → Bool) (f : Seen → Seen) (ns : Nodes) → option_map (λ (x : Path × Seen). x.1) (first test ns) ≡ None → change_node test f ns ≡ ns
none_changed test f [] h = refl
none_changed test f (d ∷ es) h = none_changed_step test f d es (test d) (none_changed test f es) h

-- ---- the map after a call
module _ (t u : Tree (List ℕ) Seen) (made later : ℕ → Option ℕ) (is : IsMadeMap made t) (m : ℕ) (others : (q : ℕ) → (q ≡ m → ⊥) → value_of u q ≡ value_of t q) where
  -- a node got another value
  pub made_valued : (w v : Seen) → value_of t m ≡ Some w → value_of u m ≡ Some v → v.made ≡ w.made → ((n : ℕ) → later n ≡ made n) → IsMadeMap later u
  made_valued w v was value same map = record {
    each = λ x y h. ⊎_elim
        (λ e. let y_is : y ≡ v = inner y v (sym h ∙ ap (value_of u) e ∙ value) in
        map y.made ∙ ap made (ap (λ (z : Seen). z.made) y_is ∙ same) ∙ is.each m w was ∙ ap Some (sym e))
        (λ differ. map y.made ∙ is.each x y (sym (others x differ) ∙ h))
        (cases_eq x m);
    only = λ n x e.
        let one = is.only n x (sym (map n) ∙ e) in
        ⊎_elim
        (λ e. (v, ap (value_of u) e ∙ value, same ∙ ap (λ (z : Seen). z.made) (inner w one.0 (sym was ∙ ap (value_of t) (sym e) ∙ one.1)) ∙ one.2))
        (λ differ. (one.0, others x differ ∙ one.1, one.2))
        (cases_eq x m);
  }

  -- a node came
  pub made_added : (v : Seen) → value_of t m ≡ None → value_of u m ≡ Some v → made v.made ≡ None → ((n : ℕ) → later n ≡ cond (v.made == n) (Some m) (made n)) → IsMadeMap later u
  made_added v was value free map = record {
    each = λ x y h. ⊎_elim
        (λ e. let y_is : y ≡ v = inner y v (sym h ∙ ap (value_of u) e ∙ value) in
        map y.made ∙ ap (λ b. cond b (Some m) (made y.made)) (eq-eqb v.made y.made (ap (λ (z : Seen). z.made) (sym y_is))) ∙ ap Some (sym e))
        (λ differ.
        let there : made y.made ≡ Some x = is.each x y (sym (others x differ) ∙ h) in
        ⊎_elim
        (λ same. let clash : None ≡ Some x = sym free ∙ ap made (eqb-true v.made y.made same) ∙ there in cc)
        (λ apart. map y.made ∙ ap (λ b. cond b (Some m) (made y.made)) apart ∙ there)
        (cases_Bool (v.made == y.made)))
        (cases_eq x m);
    only = λ n x e. ⊎_elim
        (λ same. let x_is : m ≡ x = inner m x (sym (ap (λ b. cond b (Some m) (made n)) same) ∙ sym (map n) ∙ e) in
        (v, ap (value_of u) (sym x_is) ∙ value, eqb-true v.made n same))
        (λ apart.
        let one = is.only n x (sym (ap (λ b. cond b (Some m) (made n)) apart) ∙ sym (map n) ∙ e) in
        (one.0, others x (λ e. let clash : None ≡ Some one.0 = sym was ∙ ap (value_of t) (sym e) ∙ one.1 in cc) ∙ one.1, one.2))
        (cases_Bool (v.made == n));
  }

  -- a node went
  pub made_removed : (w : Seen) → value_of t m ≡ Some w → value_of u m ≡ None → ((n : ℕ) → later n ≡ cond (w.made == n) None (made n)) → IsMadeMap later u
  made_removed w was gone map = record {
    each = λ x y h. ⊎_elim
        (λ e. let clash : None ≡ Some y = sym gone ∙ ap (value_of u) (sym e) ∙ h in cc)
        (λ differ.
        let there : made y.made ≡ Some x = is.each x y (sym (others x differ) ∙ h) in
        ⊎_elim
        (λ same. absurd (differ (inner x m (sym there ∙ ap made (sym (eqb-true w.made y.made same)) ∙ is.each m w was))))
        (λ apart. map y.made ∙ ap (λ b. cond b None (made y.made)) apart ∙ there)
        (cases_Bool (w.made == y.made)))
        (cases_eq x m);
    only = λ n x e. ⊎_elim
        (λ same. let clash : None ≡ Some x = sym (ap (λ b. cond b None (made n)) same) ∙ sym (map n) ∙ e in cc)
        (λ apart.
        let one = is.only n x (sym (ap (λ b. cond b None (made n)) apart) ∙ sym (map n) ∙ e) in (
          one.0,
          others x (λ e.
              let same : (w.made == n) ≡ true = eq-eqb w.made n (ap (λ (z : Seen). z.made) (inner w one.0 (sym was ∙ ap (value_of t) (sym e) ∙ one.1)) ∙ one.2) in cc) ∙ one.1,
          one.2,
        ))
        (cases_Bool (w.made == n));
  }

-- nothing came and nothing went
pub made_same_values : (t u : Tree (List ℕ) Seen) (made later : ℕ → Option ℕ) → IsMadeMap made t → ((q : ℕ) → value_of u q ≡ value_of t q) → ((n : ℕ) → later n ≡ made n) → IsMadeMap later u
made_same_values t u made later is same map = record {
  each = λ x y h. map y.made ∙ is.each x y (sym (same x) ∙ h);
  only = λ n x e. let one = is.only n x (sym (map n) ∙ e) in (one.0, same x ∙ one.1, one.2);
}
