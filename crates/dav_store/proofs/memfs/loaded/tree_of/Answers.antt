use Rattle.std.proofs.Common.{◌≡◌, ◌++◌, ◌+◌, ℕ, true, false, length, take, All, [], ◌∷◌, sym, ap, subst, ◌∙◌, arith}
use Rattle.std.specs.FinMap.{find, put}
use Rattle.std.specs.Vec.Iter.{into_iter_len}
use Rattle.std.proofs.lemmas.Iterator.Adapters.{YieldsList-from_vec}
use Rattle.std.proofs.lemmas.Iterator.Consumers.{YieldsList-turn}
use Rattle.std.proofs.lemmas.List.{length_push}
use Rattle.std.proofs.lemmas.Result.{err_from_is_err_and}
use Rattle.dav_core.specs.Path.{Path, path_cmp, parent_of, IsName}
use Rattle.dav_core.specs.World.{Node, Nodes, is_folder_node}
use Rattle.dav_saved.proofs.Lists.{all_at}
use Rattle.dav_store.specs.Entries.{Held}
use Rattle.dav_store.specs.Loaded.{HaveFolders}
use Rattle.dav_store.specs.Makings.{IsUnmade}
use Rattle.dav_store.proofs.LoadedTrees.{next_is, free_next, unmade_next, folder_next, grown_next, folders_next}
use Rattle.dav_store.proofs.memfs.loaded.tree_of.Goals as goal

pub put_entry-requires-clause-names : goal.put_entry-requires-clause-names
put_entry-requires-clause-names c =
    let count : into_iter_len c.into_iter-path-iterator.result ≡ length c.remove-root.new.self.items = c.into_iter-path-iterator.ensures.into_iter_gives.1 ∙ omega (arith, c.remove-root.new.self.ok) in
    let x : Path × Node = (c.in-Some.path, c.in-Some.node) in
    let turn = YieldsList-turn (YieldsList-from_vec {s = c.into_iter-path-iterator.result} c.remove-root.new.self.items c.into_iter-path-iterator.ensures.into_iter_gives.0 count) c.loop-path.yielded c.loop-path.path-iterator c.loop-path.yielded_by c.next.result c.next.new.self x c.in-Some.is c.next.ensures.steps in
    let next = next_is c.args.list.items c.remove-root.new.self.items (length c.loop-path.yielded) x c.remove-root.ensures.items turn.0 turn.1 in
    all_at (λ e. All IsName e.0) c.args.list.items (length c.loop-path.yielded + 1) x next.within next.is c.requires.names

pub put_entry-requires-clause-free : goal.put_entry-requires-clause-free
put_entry-requires-clause-free c =
    let count : into_iter_len c.into_iter-path-iterator.result ≡ length c.remove-root.new.self.items = c.into_iter-path-iterator.ensures.into_iter_gives.1 ∙ omega (arith, c.remove-root.new.self.ok) in
    let x : Path × Node = (c.in-Some.path, c.in-Some.node) in
    let turn = YieldsList-turn (YieldsList-from_vec {s = c.into_iter-path-iterator.result} c.remove-root.new.self.items c.into_iter-path-iterator.ensures.into_iter_gives.0 count) c.loop-path.yielded c.loop-path.path-iterator c.loop-path.yielded_by c.next.result c.next.new.self x c.in-Some.is c.next.ensures.steps in
    let next = next_is c.args.list.items c.remove-root.new.self.items (length c.loop-path.yielded) x c.remove-root.ensures.items turn.0 turn.1 in
    let ns = c.args.list.items in
    let i = length c.loop-path.yielded + 1 in
    let nodes : c.loop-path.entries.nodes ≡ take i ns = ap (λ (h : Held). h.nodes) c.loop-path.invariant.0 in
    ap (find path_cmp x.0) nodes ∙ free_next ns c.requires.listing i x next

pub put_entry-requires-clause-new : goal.put_entry-requires-clause-new
put_entry-requires-clause-new c =
    let count : into_iter_len c.into_iter-path-iterator.result ≡ length c.remove-root.new.self.items = c.into_iter-path-iterator.ensures.into_iter_gives.1 ∙ omega (arith, c.remove-root.new.self.ok) in
    let x : Path × Node = (c.in-Some.path, c.in-Some.node) in
    let turn = YieldsList-turn (YieldsList-from_vec {s = c.into_iter-path-iterator.result} c.remove-root.new.self.items c.into_iter-path-iterator.ensures.into_iter_gives.0 count) c.loop-path.yielded c.loop-path.path-iterator c.loop-path.yielded_by c.next.result c.next.new.self x c.in-Some.is c.next.ensures.steps in
    let next = next_is c.args.list.items c.remove-root.new.self.items (length c.loop-path.yielded) x c.remove-root.ensures.items turn.0 turn.1 in
    let ns = c.args.list.items in
    let i = length c.loop-path.yielded + 1 in
    let nodes : c.loop-path.entries.nodes ≡ take i ns = ap (λ (h : Held). h.nodes) c.loop-path.invariant.0 in
    subst (IsUnmade x.1.made) (sym nodes) (unmade_next ns c.requires.listing i x next)

pub returns-in_err-put_entry : goal.returns-in_err-put_entry
returns-in_err-put_entry c =
    let count : into_iter_len c.into_iter-path-iterator.result ≡ length c.remove-root.new.self.items = c.into_iter-path-iterator.ensures.into_iter_gives.1 ∙ omega (arith, c.remove-root.new.self.ok) in
    let x : Path × Node = (c.in-Some.path, c.in-Some.node) in
    let turn = YieldsList-turn (YieldsList-from_vec {s = c.into_iter-path-iterator.result} c.remove-root.new.self.items c.into_iter-path-iterator.ensures.into_iter_gives.0 count) c.loop-path.yielded c.loop-path.path-iterator c.loop-path.yielded_by c.next.result c.next.new.self x c.in-Some.is c.next.ensures.steps in
    let next = next_is c.args.list.items c.remove-root.new.self.items (length c.loop-path.yielded) x c.remove-root.ensures.items turn.0 turn.1 in
    let ns = c.args.list.items in
    let i = length c.loop-path.yielded + 1 in
    let nodes : c.loop-path.entries.nodes ≡ take i ns = ap (λ (h : Held). h.nodes) c.loop-path.invariant.0 in
    let p = err_from_is_err_and c.from_residual-in_err-put_entry.result c.from_residual-in_err-put_entry.ensures.1 in
    rw (p.1, p.2) (λ same have.
    let yes : is_folder_node (find path_cmp (parent_of x.0) ns) ≡ true = all_at (λ e. is_folder_node (find path_cmp (parent_of e.0) ns) ≡ true) ns i x next.within next.is have in
    let no : is_folder_node (find path_cmp (parent_of x.0) ns) ≡ false = ap is_folder_node (folder_next ns c.requires.listing i x next ∙ sym (ap (find path_cmp (parent_of x.0)) nodes)) ∙ c.in_err-put_entry.ensures.err same in
    let clash : true ≡ false = sym yes ∙ no in cc)

pub loop-path-preserved : goal.loop-path-preserved
loop-path-preserved c =
    let count : into_iter_len c.into_iter-path-iterator.result ≡ length c.remove-root.new.self.items = c.into_iter-path-iterator.ensures.into_iter_gives.1 ∙ omega (arith, c.remove-root.new.self.ok) in
    let x : Path × Node = (c.in-Some.path, c.in-Some.node) in
    let turn = YieldsList-turn (YieldsList-from_vec {s = c.into_iter-path-iterator.result} c.remove-root.new.self.items c.into_iter-path-iterator.ensures.into_iter_gives.0 count) c.loop-path.yielded c.loop-path.path-iterator c.loop-path.yielded_by c.next.result c.next.new.self x c.in-Some.is c.next.ensures.steps in
    let next = next_is c.args.list.items c.remove-root.new.self.items (length c.loop-path.yielded) x c.remove-root.ensures.items turn.0 turn.1 in
    let ns = c.args.list.items in
    let i = length c.loop-path.yielded + 1 in
    let nodes : c.loop-path.entries.nodes ≡ take i ns = ap (λ (h : Held). h.nodes) c.loop-path.invariant.0 in
    let last : c.loop-path.entries.last ≡ i = ap (λ (h : Held). h.last) c.loop-path.invariant.0 in
    let more : length (c.loop-path.yielded ++ x ∷ []) ≡ i = length_push c.loop-path.yielded x in
    let grown : put path_cmp x.0 x.1 c.loop-path.entries.nodes ≡ take (i + 1) ns = ap (put path_cmp x.0 x.1) nodes ∙ grown_next ns c.requires.listing i x next in
    let folder : is_folder_node (find path_cmp (parent_of x.0) (take i ns)) ≡ true = sym (ap (λ (ms : Nodes). is_folder_node (find path_cmp (parent_of x.0) ms)) nodes) ∙ c.in_ok-put_entry.ensures.folder in
    let all : HaveFolders ns (take (i + 1) ns) = folders_next ns c.requires.listing i x next c.loop-path.invariant.1 folder in
    let held : c.put_entry.new.entries ≡ record { nodes = take (i + 1) ns; last = i + 1 } = c.in_ok-put_entry.ensures.ok ∙ (λ t. record { nodes = grown t; last = last t + 1 }) in
    subst (λ (n : ℕ). (c.put_entry.new.entries ≡ record { nodes = take (n + 1) ns; last = n + 1 }) × HaveFolders ns (take (n + 1) ns)) (sym more) (held, all)
