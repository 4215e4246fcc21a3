-- What is at a path after an operation on the whole list of nodes, and that each keeps the order.
use Rattle.std.proofs.Common.{◌≡◌, Bool, true, false, not, cond, ◌&&◌, T, [], ◌∷◌, ◌++◌, Option, Some, None, refl, sym, ap, subst, ◌∙◌}
use Rattle.std.specs.Option.{option_map, option_or, option_and_then}
use Rattle.std.specs.List.{cons_option}
use Rattle.std.specs.declared.cmp.Ordering.{Ordering}
use Rattle.std.specs.Ordering.{is_lt}
use Rattle.std.specs.FinMap.{find, is_sorted}
use Rattle.std.specs.FinMap.Entries.{find-where_key, is_sorted-where_key, below_all}
use Rattle.dav_core.specs.Path.{Path, path_cmp, is_same_path, rest_after, is_at_or_under, parent_of}
use Rattle.dav_core.specs.World.{Node, Nodes, prune, graft, union, modified_at}
use Rattle.dav_core.proofs.NodesLemmas.{path_exact, apart, find-adjust, find-put_node, sorted-put_node, sorted-change}
use Rattle.dav_core.proofs.FrontLemmas.{rest_after-append, from_rest, cmp-append, same-append}
use Rattle.dav_core.specs.CallLaws.{PruneLeaves, AdjustChanges, UnionHasBoth, GraftMoves, MovedStands, TouchedIsModified, PutStands, PruneKeepsOrder, AdjustKeepsOrder, UnionKeepsOrder, GraftKeepsOrder, MovedKeepsOrder}

turned_cond : {X : Type 0} (b : Bool) (x y : X) → cond (not b) x y ≡ cond b y x
turned_cond true x y = refl
turned_cond false x y = refl

pub find-prune : PruneLeaves
find-prune p q ns =
    find-where_key path_cmp (λ x. not (is_at_or_under x p)) q (λ x e. ap (λ (r : Path). not (is_at_or_under r p)) (sym (path_exact q x e))) ns
    ∙ turned_cond (is_at_or_under q p) (find path_cmp q ns) None

pub sorted-prune : PruneKeepsOrder
sorted-prune p ns h = is_sorted-where_key path_cmp (λ x. not (is_at_or_under x p)) ns h

or_cond : {X : Type 0} (b : Bool) (n : X) (o later : Option X) → cond b (Some n) (option_or o later) ≡ option_or (cond b (Some n) o) later
or_cond true n o later = refl
or_cond false n o later = refl

pub find-union : UnionHasBoth
find-union [] ns q = refl
find-union (e ∷ es) ns q =
    find-put_node q e.0 e.1 (union es ns)
    ∙ ap (cond (is_same_path q e.0) (Some e.1)) (find-union es ns q)
    ∙ or_cond (is_same_path q e.0) e.1 (find path_cmp q es) (find path_cmp q ns)

pub sorted-union : UnionKeepsOrder
sorted-union [] ns h = h
sorted-union (e ∷ es) ns h = sorted-put_node e.0 e.1 (union es ns) (sorted-union es ns h)

module _ (p t : Path) where
  graft_step : (s : Path) (e : Path × Node) (es : Nodes) (o : Option Path) → rest_after p e.0 ≡ o
      → find path_cmp (t ++ s) (graft p t es) ≡ find path_cmp (p ++ s) es
      → find path_cmp (t ++ s) (cons_option (option_map (λ rest. (t ++ rest, e.1)) o) (graft p t es)) ≡ find path_cmp (p ++ s) (e ∷ es)
  graft_step s e es None is ih =
      let other : is_same_path (p ++ s) e.0 ≡ false = apart (p ++ s) e.0 (λ same. let met : rest_after p e.0 ≡ Some s = ap (rest_after p) (sym same) ∙ rest_after-append p s in let clash : None ≡ Some s = sym is ∙ met in cc) in
      ih ∙ sym (ap (λ b. cond b (Some e.1) (find path_cmp (p ++ s) es)) other)
  graft_step s e es (Some r) is ih =
      let same : is_same_path (t ++ s) (t ++ r) ≡ is_same_path (p ++ s) e.0 = same-append t s r ∙ sym (same-append p s r) ∙ ap (is_same_path (p ++ s)) (sym (from_rest p e.0 r is)) in
      ap (λ b. cond b (Some e.1) (find path_cmp (t ++ s) (graft p t es))) same ∙ ap (cond (is_same_path (p ++ s) e.0) (Some e.1)) ih

  -- what is at t ++ s was at p ++ s
  pub find-graft_at : (s : Path) (ns : Nodes) → find path_cmp (t ++ s) (graft p t ns) ≡ find path_cmp (p ++ s) ns
  find-graft_at s [] = refl
  find-graft_at s (e ∷ es) = graft_step s e es (rest_after p e.0) refl (find-graft_at s es)

  outside_step : (q : Path) → rest_after t q ≡ None → (e : Path × Node) (es : Nodes) (o : Option Path)
      → find path_cmp q (graft p t es) ≡ None → find path_cmp q (cons_option (option_map (λ rest. (t ++ rest, e.1)) o) (graft p t es)) ≡ None
  outside_step q out e es None ih = ih
  outside_step q out e es (Some r) ih =
      let other : is_same_path q (t ++ r) ≡ false = apart q (t ++ r) (λ same. let met : rest_after t q ≡ Some r = ap (rest_after t) same ∙ rest_after-append t r in let clash : None ≡ Some r = sym out ∙ met in cc) in
      ap (λ b. cond b (Some e.1) (find path_cmp q (graft p t es))) other ∙ ih

  find-graft_outside : (q : Path) → rest_after t q ≡ None → (ns : Nodes) → find path_cmp q (graft p t ns) ≡ None
  find-graft_outside q out [] = refl
  find-graft_outside q out (e ∷ es) = outside_step q out e es (rest_after p e.0) (find-graft_outside q out es)

  graft_by : (q : Path) (ns : Nodes) (o : Option Path) → rest_after t q ≡ o → find path_cmp q (graft p t ns) ≡ option_and_then (λ rest. find path_cmp (p ++ rest) ns) o
  graft_by q ns None is = find-graft_outside q is ns
  graft_by q ns (Some r) is = ap (λ (x : Path). find path_cmp x (graft p t ns)) (from_rest t q r is) ∙ find-graft_at r ns

pub find-graft : GraftMoves
find-graft p t q ns = graft_by p t q ns (rest_after t q) refl

pub both_true : (a b : Bool) → T a → T b → T (a && b)
both_true true b h k = k
both_true false b h k = absurd h

pub left_true : (a b : Bool) → T (a && b) → T a
left_true true b h = tt
left_true false b h = absurd h

pub right_true : (a b : Bool) → T (a && b) → T b
right_true true b h = h
right_true false b h = absurd h

module _ (p t : Path) where
  below_graft_step : (r : Path) (e : Path × Node) (rest : Nodes) (o : Option Path) → rest_after p e.0 ≡ o → T (is_lt (path_cmp (p ++ r) e.0))
      → T (below_all path_cmp (t ++ r) rest) → T (below_all path_cmp (t ++ r) (cons_option (option_map (λ s. (t ++ s, e.1)) o) rest))
  below_graft_step r e rest None is less ih = ih
  below_graft_step r e rest (Some s) is less ih =
      let same : path_cmp (p ++ r) e.0 ≡ path_cmp (t ++ r) (t ++ s) = ap (path_cmp (p ++ r)) (from_rest p e.0 s is) ∙ cmp-append p r s ∙ sym (cmp-append t r s) in
      both_true (is_lt (path_cmp (t ++ r) (t ++ s))) (below_all path_cmp (t ++ r) rest) (subst (λ (o : Ordering). T (is_lt o)) same less) ih

  below-graft : (r : Path) (ns : Nodes) → T (below_all path_cmp (p ++ r) ns) → T (below_all path_cmp (t ++ r) (graft p t ns))
  below-graft r [] h = tt
  below-graft r (e ∷ es) h = below_graft_step r e (graft p t es) (rest_after p e.0) refl (left_true (is_lt (path_cmp (p ++ r) e.0)) (below_all path_cmp (p ++ r) es) h) (below-graft r es (right_true (is_lt (path_cmp (p ++ r) e.0)) (below_all path_cmp (p ++ r) es) h))

  sorted_graft_step : (e : Path × Node) (es : Nodes) (o : Option Path) → rest_after p e.0 ≡ o → T (below_all path_cmp e.0 es)
      → T (is_sorted path_cmp (graft p t es)) → T (is_sorted path_cmp (cons_option (option_map (λ s. (t ++ s, e.1)) o) (graft p t es)))
  sorted_graft_step e es None is below ih = ih
  sorted_graft_step e es (Some s) is below ih =
      both_true (below_all path_cmp (t ++ s) (graft p t es)) (is_sorted path_cmp (graft p t es))
      (below-graft s es (subst (λ (x : Path). T (below_all path_cmp x es)) (from_rest p e.0 s is) below)) ih

pub sorted-graft : GraftKeepsOrder
sorted-graft p t [] h = tt
sorted-graft p t (e ∷ es) h =
    sorted_graft_step p t e es (rest_after p e.0) refl (left_true (below_all path_cmp e.0 es) (is_sorted path_cmp es) h)
    (sorted-graft p t es (right_true (below_all path_cmp e.0 es) (is_sorted path_cmp es) h))

pub find-moved : MovedStands
find-moved from to q ns =
    find-union (graft from to ns) (prune to (prune from ns)) q
    ∙ ap (λ o. option_or o (find path_cmp q (prune to (prune from ns)))) (find-graft from to q ns)
    ∙ ap (option_or (option_and_then (λ rest. find path_cmp (from ++ rest) ns) (rest_after to q)))
    (find-prune to q (prune from ns) ∙ ap (cond (is_at_or_under q to) None) (find-prune from q ns))

pub sorted-moved : MovedKeepsOrder
sorted-moved from to ns h = sorted-union (graft from to ns) (prune to (prune from ns)) (sorted-prune to (prune from ns) (sorted-prune from ns h))

pub adjust_changes : AdjustChanges
adjust_changes = find-adjust

pub touched_is_modified : TouchedIsModified
touched_is_modified p now q ns = find-adjust (parent_of p) (modified_at now) q ns

pub put_stands : PutStands
put_stands p n q ns = find-put_node q p n ns

pub adjust_keeps_order : AdjustKeepsOrder
adjust_keeps_order p f ns h = subst T (sym (sorted-change (λ e. is_same_path p e.0) f ns)) h
