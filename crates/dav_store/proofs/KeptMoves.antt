-- The parts of a store in memory after a node was moved, where no rule refuses it.
use Rattle.std.proofs.Common.{◌≡◌, ℕ, zero, suc, length, append_assoc, ◌&&◌, ◌==◌, Bool, true, false, not, cond, List, [], ◌∷◌, ◌++◌, Option, Some, None, refl, sym, ap, ◌∙◌, ⊎_elim, inl, inr, if◌then◌else◌}
use Rattle.std.specs.Prelude.{Vec, nat_eq, ◌⊎◌, ◌||◌, is_none}
use Rattle.std.specs.Option.{option_and_then, option_map, option_map_or, is_some}
use Rattle.std.specs.HashMap.{HashMap, get}
use Rattle.std.specs.FinMap.{find}
use Rattle.std.proofs.lemmas.Bool.{eqb-true, cases_Bool}
use Rattle.dav_core.specs.Path.{Path, path_cmp, parent_of, is_at_or_under, is_root, is_nonempty, IsSegment}
use Rattle.dav_core.specs.World.{Node as Seen, Nodes, members, is_folder_node, moved as moved_nodes}
use Rattle.dav_core.specs.declared.errors.FsError.{FsError}
use Rattle.dav_core.specs.declared.errors.FsError.TheVariants.{NotFound, Exists, Forbidden}
use Rattle.dav_core.proofs.Theorems.{shape, rest_after-append}
use Rattle.dav_store.specs.Tree.{Tree, Node, IsRooted, node, parent_of as parent_of_node, is_within, value_of, children_of, has_children, has_some, child, is_child, is_at_or_below, key_refusal, move_refusal, moved, root_id}
use Rattle.dav_store.specs.Placed.{named, placed, found, bare, is_same_name, IsGrown}
use Rattle.dav_store.specs.Entries.{IsKept}
use Rattle.std.specs.Map.{lookup}
use Rattle.dav_store.proofs.Walks.{inner}
use Rattle.dav_store.proofs.Placing.{one_at, named_from}
use Rattle.dav_store.proofs.TreePaths.{none-below, found-push, found_there, some_is}
use Rattle.dav_store.proofs.EntryLemmas.{value_some, value_at, children_known, empty}
use Rattle.dav_store.proofs.KeptCalls.{none_in, childless, view_elsewhere, kept_to_new, kept_over_old}
use Rattle.dav_store.proofs.BareTrees.{value_bare, parent_bare, named_bare, same_bytes}

-- where none of four rules refuses, the third holds or the last doesn't refuse
passed : (a b c d : Bool) (kr : Option FsError) → (cond a (Some NotFound) (cond b (Some Forbidden) (cond c (Some Forbidden) (cond d None kr)))) ≡ None → (d ≡ true) ⊎ (kr ≡ None)
passed true b c d kr h = cc
passed false true c d kr h = cc
passed false false true d kr h = cc
passed false false false true kr h = inl refl
passed false false false false kr h = inr h

none_refuses : (a b c d e : Bool) (kr : Option FsError) → a ≡ false → b ≡ false → c ≡ false → d ≡ false → kr ≡ None
    → cond (a || b) (Some NotFound) (cond c (Some Forbidden) (cond d (Some Forbidden) (cond e None kr))) ≡ None
none_refuses true b c d e kr ha hb hc hd hk = cc
none_refuses false true c d e kr ha hb hc hd hk = cc
none_refuses false false true d e kr ha hb hc hd hk = cc
none_refuses false false false true e kr ha hb hc hd hk = cc
none_refuses false false false false true kr ha hb hc hd hk = refl
none_refuses false false false false false kr ha hb hc hd hk = hk

childless_by : (b : Bool) → cond b (Some Exists) None ≡ None → b ≡ false
childless_by true h = cc
childless_by false h = refl

own_by : (o : Option ℕ) (n : ℕ) → option_map_or (λ m. m == n) o false ≡ true → o ≡ Some n
own_by None n h = cc
own_by (Some m) n h = ap Some (eqb-true m n h)

module _ {Z S : Type 0} (t : Tree (Vec ℕ Z) Seen) (made : HashMap ℕ ℕ S) (kept : IsKept t made) (ns : Nodes) (view : placed (bare t) ≡ ns)
    (p q : Path) (n tp : ℕ) (from : found (bare t) p ≡ Some n) (to : found (bare t) (parent_of q) ≡ Some tp)
    (folder : is_folder_node (find path_cmp (parent_of q) ns) ≡ true) (apart : is_at_or_under q p ≡ false) where
  never_under : (s : Path) → q ≡ p ++ s → ⊥
  never_under s e = let yes : is_at_or_under q p ≡ true = ap (λ (r : Path). is_at_or_under r p) e ∙ ap is_some (rest_after-append p s) in let clash : true ≡ false = sym yes ∙ apart in cc

  -- the seat that it has
  old_seat : (F : Path) × (fk : List ℕ) × (fp : ℕ) × (p ≡ F ++ fk ∷ []) × (found (bare t) F ≡ Some fp) × (named (bare t) fp fk ≡ Some n)
  old_seat = ⊎_elim
      (λ e. absurd (never_under q (ap (λ (r : Path). r ++ q) (sym e))))
      (λ s. by s.0 (parent_of p) s.1 (found (bare t) (parent_of p)) refl)
      (shape p) where
        by : (k : List ℕ) (F : Path) → p ≡ F ++ k ∷ [] → (o : Option ℕ) → found (bare t) F ≡ o → (F : Path) × (fk : List ℕ) × (fp : ℕ) × (p ≡ F ++ fk ∷ []) × (found (bare t) F ≡ Some fp) × (named (bare t) fp fk ≡ Some n)
        by k F cut None e = let clash : None ≡ Some n = sym (none-below (bare t) F (k ∷ []) e) ∙ ap (found (bare t)) (sym cut) ∙ from in cc
        by k F cut (Some fp) e = (F, k, fp, cut, e, sym (found-push (bare t) F fp k e) ∙ ap (found (bare t)) (sym cut) ∙ from)

  -- ---- no rule refuses it
  same_parent : (m : ℕ) (x : Node (Vec ℕ Z) Seen) → node t m ≡ Some x → parent_of_node (bare t) m ≡ x.parent
  same_parent m x is = parent_bare t m ∙ ap (λ o. option_map_or (λ (y : Node (Vec ℕ Z) Seen). y.parent) o 0) is

  -- what comes to the node by steps to the parent stands at or under its path
  module _ (rooted : IsRooted t) where
    below_step : (m : ℕ) (x : Node (Vec ℕ Z) Seen) → node t m ≡ Some x → ((s : Path) × (found (bare t) (p ++ s) ≡ Some x.parent)) → (s : Path) × (found (bare t) (p ++ s) ≡ Some m)
    below_step m x is above =
        let r = kept.grown.reached m (ap is_some (value_bare t m ∙ ap (option_map (λ (y : Node (Vec ℕ Z) Seen). y.value)) is)) in
        ⊎_elim
        (λ e. absurd (no_root (inner 1 m (sym (ap (found (bare t)) e) ∙ r.1))))
        (λ c. seat c.0 (parent_of r.0) c.1 r.1 (found (bare t) (parent_of r.0)) refl)
        (shape r.0) where
          no_root : 1 ≡ m → ⊥
          no_root e =
              let top : x.parent ≡ 0 = inner x.parent 0 (sym (ap (option_map (λ (y : Node (Vec ℕ Z) Seen). y.parent)) (ap (node t) e ∙ is)) ∙ rooted.root) in
              let some = some_is (value_of (bare t) x.parent) (found_there (bare t) kept.grown (p ++ above.0) x.parent above.1) in
              let clash : None ≡ Some some.0 = sym (value_bare t x.parent ∙ ap (option_map (λ (y : Node (Vec ℕ Z) Seen). y.value)) (ap (node t) top ∙ rooted.none)) ∙ some.1 in cc

          seat : {whole : Path} (l : List ℕ) (R : Path) → whole ≡ R ++ l ∷ [] → found (bare t) whole ≡ Some m → (o : Option ℕ) → found (bare t) R ≡ o → (s : Path) × (found (bare t) (p ++ s) ≡ Some m)
          seat l R cut at None e = let clash : None ≡ Some m = sym (none-below (bare t) R (l ∷ []) e) ∙ ap (found (bare t)) (sym cut) ∙ at in cc
          seat l R cut at (Some w) e =
              let named_here : named (bare t) w l ≡ Some m = sym (found-push (bare t) R w l e) ∙ ap (found (bare t)) (sym cut) ∙ at in
              let parent : w ≡ x.parent = sym (kept.grown.children w l m named_here).parent ∙ same_parent m x is in
              (above.0 ++ l ∷ [], ap (found (bare t)) (sym (append_assoc p above.0 (l ∷ []))) ∙ found-push (bare t) (p ++ above.0) x.parent l above.1 ∙ ap (λ (v : ℕ). named (bare t) v l) (sym parent) ∙ named_here)

    below_by : (steps m : ℕ) (b : Bool) (o : Option (Node (Vec ℕ Z) Seen)) → (m == n) ≡ b → node t m ≡ o → cond b true (option_map_or (λ x. is_within steps t n x.parent) o false) ≡ true
        → ((a : ℕ) → is_within steps t n a ≡ true → (s : Path) × (found (bare t) (p ++ s) ≡ Some a)) → (s : Path) × (found (bare t) (p ++ s) ≡ Some m)
    below_by steps m true o was is h ih = ([], ap (found (bare t)) (empty p) ∙ from ∙ ap Some (sym (eqb-true m n was)))
    below_by steps m false None was is h ih = cc
    below_by steps m false (Some x) was is h ih = below_step m x is (ih x.parent h)

    below : (steps m : ℕ) → is_within steps t n m ≡ true → (s : Path) × (found (bare t) (p ++ s) ≡ Some m)
    below zero m h = cc
    below (suc steps) m h = below_by steps m (m == n) (node t m) refl refl h (below steps)

    module _ (k : Vec ℕ Z) (at_new : q ≡ parent_of q ++ k.items ∷ []) (low : is_root q ≡ false) (bare_there : (is_folder_node (find path_cmp q ns) && is_nonempty (members q ns)) ≡ false) where
      isnt_below : is_at_or_below t n tp ≡ false
      isnt_below = ⊎_elim
          (λ h. let s = below (length t.nodes) tp h in
          absurd (never_under (s.0 ++ k.items ∷ []) (at_new ∙ ap (λ (r : Path). r ++ k.items ∷ []) (one_at (bare t) kept.grown (parent_of q) (p ++ s.0) tp to s.1) ∙ append_assoc p s.0 (k.items ∷ []))))
          (λ h. h)
          (cases_Bool (is_at_or_below t n tp))

      isnt_root : (n == root_id) ≡ false
      isnt_root = ⊎_elim
          (λ h. absurd (never_under q (ap (λ (r : Path). r ++ q) (one_at (bare t) kept.grown [] p 1 refl (from ∙ ap Some (eqb-true n 1 h))))))
          (λ h. h)
          (cases_Bool (n == root_id))

      takes_key : key_refusal same_bytes t tp k true ≡ None
      takes_key =
          ap (λ o. option_map_or (λ a. if not true || has_children t a then Some Exists else None) o None) (sym (named_bare t tp k.items))
          ∙ by (named (bare t) tp k.items) refl where
            by : (o : Option ℕ) → named (bare t) tp k.items ≡ o → option_map_or (λ a. if not true || has_children t a then Some Exists else None) o None ≡ None
            by None e = refl
            by (Some o) e =
                ap (λ b. if b then Some Exists else None)
                (childless t made kept ns view q (Some o) (sym (ap (found (bare t)) at_new ∙ found-push (bare t) (parent_of q) tp k.items to ∙ e)) o refl low bare_there)

      pub move_free : move_refusal same_bytes t n tp k true ≡ None
      move_free =
          none_refuses (is_none (node t n)) (is_none (node t tp)) (n == root_id) (is_at_or_below t n tp) (is_child same_bytes t tp k n) (key_refusal same_bytes t tp k true)
          (none_in (node t n) (ap is_some (sym (value_bare t n)) ∙ found_there (bare t) kept.grown p n from))
          (none_in (node t tp) (ap is_some (sym (value_bare t tp)) ∙ found_there (bare t) kept.grown (parent_of q) tp to))
          isnt_root isnt_below takes_key

  -- and the one that it gets
  module _ (k : Vec ℕ Z) (at_new : q ≡ parent_of q ++ k.items ∷ []) (segment : IsSegment k.items) (free : move_refusal same_bytes t n tp k true ≡ None) where
    abbrev old : Option ℕ
    old = named (bare t) tp k.items

    pub old_found : found (bare t) q ≡ old
    old_found = ap (found (bare t)) at_new ∙ found-push (bare t) (parent_of q) tp k.items to

    other : old ≡ Some n → ⊥
    other e = never_under [] (one_at (bare t) kept.grown q p n (old_found ∙ e) from ∙ sym (empty p))

    not_own : is_child same_bytes t tp k n ≡ true → ⊥
    not_own own = other (named_bare t tp k.items ∙ own_by (child same_bytes t tp k) n own)

    key_free : key_refusal same_bytes t tp k true ≡ None
    key_free = ⊎_elim (λ own. absurd (not_own own)) (λ h. h)
        (passed (is_none (node t n) || is_none (node t tp)) (n == root_id) (is_at_or_below t n tp) (is_child same_bytes t tp k n) (key_refusal same_bytes t tp k true) free)

    leaf : (o : ℕ) → old ≡ Some o → (l : List ℕ) → named (bare t) o l ≡ None
    leaf o is l =
        let childless = childless_by (has_children t o) (sym (ap (λ c. option_map_or (λ a. if not true || has_children t a then Some Exists else None) c None) (sym (named_bare t tp k.items) ∙ is)) ∙ key_free) in
        by (children_of (bare t) o) refl (children_known t kept.grown ns view q old (sym old_found) o is ∙ childless) where
          by : (cs : List (List ℕ × ℕ)) → children_of (bare t) o ≡ cs → has_some (children_of (bare t) o) ≡ false → named (bare t) o l ≡ None
          by [] e h = named_from (bare t) o l ∙ ap (lookup (is_same_name l)) e
          by (c ∷ cs) e h = let clash : true ≡ false = sym (ap has_some e) ∙ h in cc

    parent_folder : is_folder_node (value_of (bare t) tp) ≡ true
    parent_folder = ap is_folder_node (value_bare t tp ∙ sym (value_some t kept.grown ns view (parent_of q) (Some tp) (sym to) tp refl)) ∙ folder

    not_below : (s : Path) → parent_of q ++ k.items ∷ [] ≡ (old_seat.0 ++ old_seat.1 ∷ []) ++ s → ⊥
    not_below s e = never_under s (at_new ∙ e ∙ ap (λ (r : Path). r ++ s) (sym old_seat.3))

    pub view_moved : placed (bare (moved same_bytes t n tp k)) ≡ moved_nodes p q ns
    view_moved =
        view_elsewhere t made kept old_seat.0 (parent_of q) n old_seat.2 old_seat.1 tp k old old_seat.4 old_seat.5 to refl leaf other not_below parent_folder segment
        ∙ (λ i. moved_nodes (sym old_seat.3 i) (sym at_new i) (view i))

    pub kept_moved_new : (later : HashMap ℕ ℕ S) → found (bare t) q ≡ None → ((m : ℕ) → get nat_eq later m ≡ get nat_eq made m) → IsKept (moved same_bytes t n tp k) later
    kept_moved_new later none map =
        kept_to_new t made kept old_seat.0 (parent_of q) n old_seat.2 old_seat.1 tp k old old_seat.4 old_seat.5 to refl leaf other not_below parent_folder segment later (sym old_found ∙ none) map

    pub kept_moved_over : (o : ℕ) (w : Seen) (later : HashMap ℕ ℕ S) → found (bare t) q ≡ Some o → value_of t o ≡ Some w → ((m : ℕ) → get nat_eq later m ≡ cond (w.made == m) None (get nat_eq made m)) → IsKept (moved same_bytes t n tp k) later
    kept_moved_over o w later some was map =
        kept_over_old t made kept old_seat.0 (parent_of q) n old_seat.2 old_seat.1 tp k old old_seat.4 old_seat.5 to refl leaf other not_below parent_folder segment o w later (sym old_found ∙ some) (value_bare t o ∙ was) map

-- ---- what stood at a path, by the number with which it was made
module _ {Z : Type 0} (t : Tree (Vec ℕ Z) Seen) (grown : IsGrown (bare t)) (ns : Nodes) (view : placed (bare t) ≡ ns) (q : Path) where
  seen : find path_cmp q ns ≡ option_and_then (value_of t) (found (bare t) q)
  seen = value_at t grown ns view q (found (bare t) q) refl

  pub made_none : None ≡ option_map (λ (v : Seen). v.made) (find path_cmp q ns) → found (bare t) q ≡ None
  made_none e = by (found (bare t) q) refl (e ∙ ap (option_map (λ (v : Seen). v.made)) seen) where
    by : (r : Option ℕ) → found (bare t) q ≡ r → None ≡ option_map (λ (v : Seen). v.made) (option_and_then (value_of t) (found (bare t) q)) → r ≡ None
    by None is e = refl
    by (Some o) is e =
        let v = some_is (value_of (bare t) o) (found_there (bare t) grown q o is) in
        let clash : None ≡ Some v.0.made = e ∙ ap (λ r. option_map (λ (v : Seen). v.made) (option_and_then (value_of t) r)) is ∙ ap (option_map (λ (v : Seen). v.made)) (sym (value_bare t o) ∙ v.1) in cc

  pub made_some : (m : ℕ) → Some m ≡ option_map (λ (v : Seen). v.made) (find path_cmp q ns) → (o : ℕ) × (w : Seen) × (found (bare t) q ≡ Some o) × (value_of t o ≡ Some w) × (w.made ≡ m)
  made_some m e = by (found (bare t) q) refl (e ∙ ap (option_map (λ (v : Seen). v.made)) seen) where
    by : (r : Option ℕ) → found (bare t) q ≡ r → Some m ≡ option_map (λ (v : Seen). v.made) (option_and_then (value_of t) (found (bare t) q)) → (o : ℕ) × (w : Seen) × (found (bare t) q ≡ Some o) × (value_of t o ≡ Some w) × (w.made ≡ m)
    by None is e = let clash : Some m ≡ None = e ∙ ap (λ r. option_map (λ (v : Seen). v.made) (option_and_then (value_of t) r)) is in cc
    by (Some o) is e =
        let v = some_is (value_of (bare t) o) (found_there (bare t) grown q o is) in
        let w : value_of t o ≡ Some v.0 = sym (value_bare t o) ∙ v.1 in
        (o, v.0, is, w, inner v.0.made m (sym (e ∙ ap (λ r. option_map (λ (v : Seen). v.made) (option_and_then (value_of t) r)) is ∙ ap (option_map (λ (v : Seen). v.made)) w)))
