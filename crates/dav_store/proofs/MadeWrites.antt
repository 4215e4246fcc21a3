-- What a write leaves, to the file that was made with a number.
use Rattle.std.proofs.Common.{◌≡◌, ℕ, true, false, cond, List, Option, Some, None, Result, Ok, Err, refl, sym, ap, subst, ◌∙◌}
use Rattle.std.specs.Prelude.{Vec, nat_eq}
use Rattle.std.specs.Option.{option_and_then, option_map, option_map_or}
use Rattle.std.specs.Result.{OnOk, OnErr}
use Rattle.std.specs.HashMap.{HashMap, get}
use Rattle.dav_core.specs.Path.{Path}
use Rattle.dav_core.specs.World.{Node as Seen, Nodes, is_folder_kind, is_file_made_with, change_node, adjust}
use Rattle.dav_store.specs.Tree.{Tree, Node, node, value_of, with_node, with_value}
use Rattle.dav_store.specs.Placed.{placed, found, bare}
use Rattle.dav_store.specs.Entries.{IsKept}
use Rattle.dav_store.proofs.Walks.{inner}
use Rattle.dav_store.proofs.TreeSteps.{written_back}
use Rattle.dav_store.proofs.BareTrees.{value_bare}
use Rattle.dav_store.proofs.MadeMaps.{if_file, none_changed, change_by_map}
use Rattle.dav_store.proofs.EntryLemmas.{kept_valued, view_valued}
use Rattle.dav_store.proofs.KeptCalls.{file_of_map}

-- a value that is written back changes nothing
valued_same : {K : Type 0} (t : Tree K Seen) (n : ℕ) (w : Seen) → Some w ≡ value_of t n → with_value t n w ≡ t
valued_same {K} t n w h = by (node t n) refl h where
  by : (o : Option (Node K Seen)) → node t n ≡ o → Some w ≡ option_map (λ x. x.value) o → option_map_or (λ x. with_node t n (record x { value = w })) o t ≡ t
  by None is h = refl
  by (Some x) is h =
      ap (λ (v : Seen). with_node t n (record x { value = v })) (inner w x.value h)
      ∙ ap (λ (ns : List (ℕ × Node K Seen)). record t { nodes = ns }) (written_back n t.nodes x is)

module _ {Z S : Type 0} (t : Tree (Vec ℕ Z) Seen) (made : HashMap ℕ ℕ S) (kept : IsKept t made) (ns : Nodes) (view : placed (bare t) ≡ ns) (n : ℕ) (at : Option ℕ) (here : at ≡ get nat_eq made n) (f : Seen → Seen) where
  -- no file has the number
  unwritten : if_file (option_and_then (value_of t) at) ≡ None → ns ≡ change_node (is_file_made_with n) f ns
  unwritten none = sym (none_changed (is_file_made_with n) f ns (file_of_map t made kept n ns view at here ∙ none))

  pub unwritten_none : at ≡ None → ns ≡ change_node (is_file_made_with n) f ns
  unwritten_none is = unwritten (ap (λ o. if_file (option_and_then (value_of t) o)) is)

  module _ (id : ℕ) (is : at ≡ Some id) where
    pub unwritten_lacking : None ≡ value_of t id → ns ≡ change_node (is_file_made_with n) f ns
    unwritten_lacking none = unwritten (ap (λ o. if_file (option_and_then (value_of t) o)) is ∙ ap if_file (sym none))

    module _ (w : Seen) (value : Some w ≡ value_of t id) where
      pub unwritten_folder : is_folder_kind w.kind ≡ true → ns ≡ change_node (is_file_made_with n) f ns
      unwritten_folder kind = unwritten (ap (λ o. if_file (option_and_then (value_of t) o)) is ∙ ap if_file (sym value) ∙ ap (λ b. cond b None (Some w)) kind)

      -- nothing is written
      pub kept_same : IsKept (with_value t id w) made
      kept_same = subst (λ u. IsKept u made) (sym (valued_same t id w value)) kept

      pub view_same : placed (bare (with_value t id w)) ≡ ns
      view_same = ap (λ u. placed (bare u)) (valued_same t id w value) ∙ view

      module _ (file : is_folder_kind w.kind ≡ false) (v : Seen) where
        seat : (p : Path) × (found (bare t) p ≡ Some id) × (change_node (is_file_made_with n) f (placed (bare t)) ≡ adjust p f (placed (bare t)))
        seat = change_by_map (bare t) kept.grown (λ q. get nat_eq made q) kept.map n id w f (sym here ∙ is) (value_bare t id ∙ sym value) file

        -- a file has it
        kept_written : is_folder_kind v.kind ≡ is_folder_kind w.kind → v.made ≡ w.made → IsKept (with_value t id v) made
        kept_written kind number = kept_valued t made kept seat.0 (Some id) (sym seat.1) id refl w v value kind number

        view_written : is_folder_kind v.kind ≡ is_folder_kind w.kind → v ≡ f w → placed (bare (with_value t id v)) ≡ change_node (is_file_made_with n) f ns
        view_written kind changed =
            view_valued t made kept seat.0 (Some id) (sym seat.1) id refl w v value kind (placed (bare t)) refl f changed ∙ sym seat.2 ∙ ap (change_node (is_file_made_with n) f) view

        -- it is written, or memory ran out
        module _ {E : Type 0} (result : Result (Unit {0}) E) (stays : (f w).made ≡ w.made) (still : is_folder_kind (f w).kind ≡ false) (ok : OnOk result (v ≡ f w)) where
          kind_written : v ≡ f w → is_folder_kind v.kind ≡ is_folder_kind w.kind
          kind_written h = ap (λ (x : Seen). is_folder_kind x.kind) h ∙ still ∙ sym file

          pub kept_after : OnErr result (v ≡ w) → IsKept (with_value t id v) made
          kept_after err = by result ok err where
            by : (r : Result (Unit {0}) E) → OnOk r (v ≡ f w) → OnErr r (v ≡ w) → IsKept (with_value t id v) made
            by (Ok a) h g = kept_written (kind_written h) (ap (λ (x : Seen). x.made) h ∙ stays)
            by (Err e) h g = subst (λ (x : Seen). IsKept (with_value t id x) made) (sym g) kept_same

          pub view_after : OnOk result (placed (bare (with_value t id v)) ≡ change_node (is_file_made_with n) f ns)
          view_after = by result ok where
            by : (r : Result (Unit {0}) E) → OnOk r (v ≡ f w) → OnOk r (placed (bare (with_value t id v)) ≡ change_node (is_file_made_with n) f ns)
            by (Ok a) h = view_written (kind_written h) h
            by (Err e) h = tt

        pub view_short : {E : Type 0} (result : Result (Unit {0}) E) → OnErr result (v ≡ w) → OnErr result (placed (bare (with_value t id v)) ≡ ns)
        view_short (Ok a) h = tt
        view_short (Err e) h = ap (λ (x : Seen). placed (bare (with_value t id x))) h ∙ view_same
