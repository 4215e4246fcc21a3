use Rattle.std.proofs.Common.{◌≡◌, ◌++◌, ◌∷◌, [], ℕ, ◌<◌, List, Bool, false, Option, Some, None, arith, suc, length, subst, sym, ap, ◌∙◌, append_assoc, append-nil}
use Rattle.std.proofs.lemmas.List.{nil_from_length}
use Rattle.std.specs.Option.{is_some}
use Rattle.std.specs.FinMap.{find}
use Rattle.std.specs.Vec.Iter.{into_iter_items}
use Rattle.dav_core.specs.Path.{Path, path_cmp}
use Rattle.dav_core.specs.World.{Node as Seen, Nodes, members}
use Rattle.dav_store.specs.Placed.{bare}
use Rattle.dav_store.specs.Subtrees.{under, paths_of}
use Rattle.dav_store.proofs.EntryLemmas.{nodes_of}
use Rattle.dav_store.proofs.SubtreesKept.{sorted_kept, closed_kept}
use Rattle.dav_store.proofs.SubtreeLemmas.{under_none, smaller, walked, walks_on}
use Rattle.dav_store.proofs.TreePaths.{some_is}
use Rattle.dav_store.proofs.entries.walk.+add_paths.Goals as goal

none_is : (o : Option Seen) → is_some o ≡ false → o ≡ None
none_is None h = cc
none_is (Some n) h = cc

pub add_paths-requires : goal.add_paths-requires
add_paths-requires t c =
    let p = c.args.path.now in
    let ns = c.args.entries.now.nodes in
    let sorted = sorted_kept (bare c.entries.inside.tree) ns c.entries.invariant.grown (nodes_of c.entries.view_is) in
    let closed = closed_kept (bare c.entries.inside.tree) ns c.entries.invariant.grown (nodes_of c.entries.view_is) in
    let (n, there) = some_is (find path_cmp p ns) (sym c.is_there.ensures ∙ c.if-not-is_there.false) in
    let x : List ℕ × Bool = (c.in-Some.name, c.in-Some.field-0-1) in
    let left = into_iter_items c.next.new.self in
    let all : c.loop-name.yielded ++ x ∷ left ≡ members p ns = ap (λ (xs : List (List ℕ × Bool)). c.loop-name.yielded ++ xs) (sym c.in-Some.ensures.steps.0) ∙ c.loop-name.invariant.1.0 in
    let less : length (under c.in_ok-member.member ns) < length (under p ns) = smaller p n ns sorted closed there c.in_ok-member.member c.loop-name.yielded left x all c.in_ok-member.ensures in
    (subst (λ (k : ℕ). length (under c.in_ok-member.member ns) < k) c.decreases less, tt)

pub loop-name-init : goal.loop-name-init
loop-name-init t c = (
  c.in_ok-push.ensures.items ∙ ap (λ (q : Path). c.args.list.now.items ++ q ∷ []) c.in_ok-copy.ensures,
  (
    c.into_iter-name-iterator.ensures.into_iter_gives.0 ∙ c.in_ok-items.ensures,
    let gives = c.into_iter-name-iterator.ensures.into_iter_gives in
        gives.1 ∙ c.in_ok-items.items.ok.0 ∙ ap length (sym gives.0),
  ),
)

pub loop-name-preserved : goal.loop-name-preserved
loop-name-preserved t c =
    let p = c.args.path.now in
    let ns = c.args.entries.now.nodes in
    let x : List ℕ × Bool = (c.in-Some.name, c.in-Some.field-0-1) in (
      walks_on p c.in_ok-member.member ns c.loop-name.yielded x c.args.list.now.items c.loop-name.list.items c.add_paths.new.list.items c.in_ok-member.ensures c.loop-name.invariant.0 c.in_ok-add_paths.ensures,
      (
        append_assoc c.loop-name.yielded (x ∷ []) (into_iter_items c.next.new.self)
            ∙ ap (λ (xs : List (List ℕ × Bool)). c.loop-name.yielded ++ xs) (sym c.in-Some.ensures.steps.0) ∙ c.loop-name.invariant.1.0,
        (let whole : length (into_iter_items c.loop-name.name-iterator) ≡ suc (length (into_iter_items c.next.new.self)) = ap length c.in-Some.ensures.steps.0 in
            omega (arith, whole, c.in-Some.ensures.steps.1, c.loop-name.invariant.1.1)),
      ),
    )

pub returns-then-not-is_there : goal.returns-then-not-is_there
returns-then-not-is_there t c =
    let p = c.args.path.now in
    let ns = c.args.entries.now.nodes in
    let sorted = sorted_kept (bare c.entries.inside.tree) ns c.entries.invariant.grown (nodes_of c.entries.view_is) in
    let closed = closed_kept (bare c.entries.inside.tree) ns c.entries.invariant.grown (nodes_of c.entries.view_is) in
    let none = under_none p ns sorted closed (none_is (find path_cmp p ns) (sym c.is_there.ensures ∙ c.if-not-is_there.true)) in
    sym (append-nil c.args.list.now.items) ∙ ap (λ (xs : Nodes). c.args.list.now.items ++ paths_of xs) (sym none)

pub returns : goal.returns
returns t c =
    let p = c.args.path.now in
    let ns = c.args.entries.now.nodes in
    let sorted = sorted_kept (bare c.entries.inside.tree) ns c.entries.invariant.grown (nodes_of c.entries.view_is) in
    let closed = closed_kept (bare c.entries.inside.tree) ns c.entries.invariant.grown (nodes_of c.entries.view_is) in
    let (n, there) = some_is (find path_cmp p ns) (sym c.is_there.ensures ∙ c.if-not-is_there.false) in
    let none : into_iter_items c.loop-name.name-iterator ≡ [] = nil_from_length (into_iter_items c.loop-name.name-iterator) (sym c.loop-name.invariant.1.1 ∙ c.in-None.ensures.steps.0) in
    let all : c.loop-name.yielded ≡ members p ns =
    sym (append-nil c.loop-name.yielded) ∙ ap (λ (xs : List (List ℕ × Bool)). c.loop-name.yielded ++ xs) (sym none) ∙ c.loop-name.invariant.1.0 in
    walked p n ns sorted closed there c.loop-name.yielded c.args.list.now.items c.loop-name.list.items all c.loop-name.invariant.0
